use Rattle.command.proofs.Sent.{line_short}
use Rattle.command.proofs.laws.lines_are_short.Goals as goal

pub returns : goal.returns
returns c = line_short
