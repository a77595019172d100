use Rattle.command.proofs.Sent.{line_whole}
use Rattle.command.proofs.laws.lines_are_whole.Goals as goal

pub returns : goal.returns
returns c = line_whole
