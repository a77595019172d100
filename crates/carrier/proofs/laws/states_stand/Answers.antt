-- The law of the states. Assumes nothing.
use Rattle.carrier.proofs.States.{laws}
use Rattle.carrier.proofs.laws.states_stand.Goals as goal

pub returns : goal.returns
returns c = laws
