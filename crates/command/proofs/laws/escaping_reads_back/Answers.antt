use Rattle.command.proofs.Sent.{escape_back}
use Rattle.command.proofs.laws.escaping_reads_back.Goals as goal

pub returns : goal.returns
returns c = escape_back
