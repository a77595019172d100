-- What an encoding means: text to bytes, or nothing; and bytes to text. Text is its bytes in UTF-8. Assumes nothing.
use Rattle.std.specs.Prelude.{◌≡◌, ℕ, List, Some, Option}

-- an encoding: the bytes of a text, if it has any, and the text of some bytes
pub record Code : Type 0 where
  pub encode : List ℕ → Option (List ℕ)
  pub decode : List ℕ → List ℕ

-- the law of an encoding: what it encodes is decoded to what it was
abbrev pub Back : Code → Type 0
Back c = (text bytes : List ℕ) → c.encode text ≡ Some bytes → c.decode bytes ≡ text
