use Rattle.text.proofs.Valid.{utf8_by_table}
use Rattle.text.proofs.utf8.utf8_by_table.Goals as goal

pub returns : goal.returns
returns c = utf8_by_table
