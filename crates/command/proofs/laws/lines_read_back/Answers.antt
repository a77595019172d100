use Rattle.command.proofs.Sent.{line_back}
use Rattle.command.proofs.laws.lines_read_back.Goals as goal

pub returns : goal.returns
returns c = line_back
