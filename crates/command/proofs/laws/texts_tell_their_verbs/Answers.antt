use Rattle.command.proofs.Sent.{verb_back}
use Rattle.command.proofs.laws.texts_tell_their_verbs.Goals as goal

pub returns : goal.returns
returns c = verb_back
