use Rattle.std.proofs.Common.{rules}
use Rattle.encoding.proofs.Pieces.{lossy_none, lossy_by}
use Rattle.encoding.proofs.lossy.LossyIterator.next.Goals as goal

pub returns-then-is_empty-clause-steps : goal.returns-then-is_empty-clause-steps
returns-then-is_empty-clause-steps c = lossy_none _ (search rules)

pub returns-in-Ok-clause-steps : goal.returns-in-Ok-clause-steps
returns-in-Ok-clause-steps c = lossy_by _ _ (search rules) c.in-Ok.ensures.value

pub returns-in-Err-clause-steps : goal.returns-in-Err-clause-steps
returns-in-Err-clause-steps c = lossy_by _ _ (search rules) c.in-Err.ensures.value
