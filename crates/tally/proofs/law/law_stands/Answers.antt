use Rattle.tally.proofs.Runs.{every_run}
use Rattle.tally.proofs.law.law_stands.Goals as goal

pub returns : goal.returns
returns c = every_run
