-- UTF-8 as an encoding. Assumes nothing.
use Rattle.std.specs.Prelude.{cond, Some, None}
use Rattle.text.specs.Utf8.{utf8}
use Rattle.encoding.specs.Code.{Code}
use Rattle.encoding.specs.Lossy.{lossy}

-- text that is UTF-8 goes as it is, and no other does
abbrev pub utf8_code : Code
utf8_code = record { encode = λ text. cond (utf8 text) (Some text) None; decode = lossy }
