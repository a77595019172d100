use Rattle.reply.proofs.Grammars.{one_reading_lem}
use Rattle.reply.proofs.facts.one_reading.Goals as goal

pub returns : goal.returns
returns c = one_reading_lem
