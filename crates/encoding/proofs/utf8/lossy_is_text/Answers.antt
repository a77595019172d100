use Rattle.encoding.specs.Kept.{lossy_is_text_lem}
use Rattle.encoding.proofs.utf8.lossy_is_text.Goals as goal

pub returns : goal.returns
returns c = lossy_is_text_lem
