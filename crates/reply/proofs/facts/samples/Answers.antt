use Rattle.std.proofs.Common.{refl}
use Rattle.reply.specs.Replies.{reply}
use Rattle.reply.proofs.facts.samples.Goals as goal

pub returns : goal.returns
unfolding reply
returns c = (refl, refl, refl, refl, refl)
