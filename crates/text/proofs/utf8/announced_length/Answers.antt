use Rattle.std.proofs.Common.{sym, ap, ◌∙◌, inl, inr, arith, Some}
use Rattle.text.specs.Front.{announced}
use Rattle.text.proofs.Rows.{row_none, row_one}
use Rattle.text.proofs.Ones.{ones_announced}
use Rattle.text.proofs.utf8.announced_length.Goals as goal

pub returns-in-0-to-127 : goal.returns-in-0-to-127
returns-in-0-to-127 c = sym (ap announced (row_one _ (omega arith)))

pub returns-in-194-to-244 : goal.returns-in-194-to-244
returns-in-194-to-244 c = ap (λ n. Some n) c.leading_ones.ensures ∙ ones_announced _ (omega arith) (omega arith)

pub returns-in_default : goal.returns-in_default
returns-in_default c = sym (ap announced (row_none c.args.first (omega arith) (inl (omega arith))))

pub returns-in_default-2 : goal.returns-in_default-2
returns-in_default-2 c = sym (ap announced (row_none c.args.first (omega arith) (inr (omega arith))))
