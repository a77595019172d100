-- The encoding that leaves every text as it is, for the tests. Assumes nothing.
use Rattle.encoding.specs.Code.{Code}
use Rattle.std.specs.Prelude.{Some}

-- text and bytes are the same
abbrev pub as_is : Code
as_is = record { encode = λ text. Some text; decode = λ bytes. bytes }
