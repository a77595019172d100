use Rattle.std.proofs.Common.{rules}
use Rattle.text.proofs.Valid.{utf8_is, not_utf8}
use Rattle.text.proofs.utf8.is_utf8.Goals as goal

pub returns : goal.returns
returns c = let h = c.from_utf8.ensures.cases in search (rules, utf8_is, not_utf8)
