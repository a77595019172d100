-- What holds of every line that is sent, whichever the encoding, and of doubled 255s. Assumes nothing.
use Rattle.std.specs.Prelude.{◌≡◌, ℕ, ◌≤◌, false, List, [], ◌∷◌, ◌++◌, length, Some, Ok, Option, ◌==◌}
use Rattle.encoding.specs.Code.{Code, Back}
use Rattle.command.specs.Lines.{text_of, escape, unescape, line_of, verb_read}
use Rattle.command.specs.declared.verb.Verb.{Verb}

-- neither CR nor LF
abbrev pub Plain : List ℕ → Type 0
Plain [] = Unit {0}
Plain (b ∷ bs) = ((b == 13) ≡ false) × ((b == 10) ≡ false) × Plain bs

-- CR LF at the end, and neither before it
pub record Whole (l : List ℕ) : Type 0 where
  pub body : List ℕ
  pub plain : Plain body
  pub is : l ≡ body ++ 13 ∷ 10 ∷ []

-- every line is whole, so that the server reads it as one
abbrev pub LinesWhole : Type 0
LinesWhole = (code : Code) (verb : Verb) (argument : Option (List ℕ)) (l : List ℕ) → line_of code verb argument ≡ Ok l → Whole l

-- every line, with doubled 255s made single and decoded, is its command's text
abbrev pub LinesBack : Type 0
LinesBack = (code : Code) → Back code → (verb : Verb) (argument : Option (List ℕ)) (l : List ℕ) → line_of code verb argument ≡ Ok l → code.decode (unescape l) ≡ text_of verb argument

-- no line has more than 8,704 bytes
abbrev pub LinesShort : Type 0
LinesShort = (code : Code) (verb : Verb) (argument : Option (List ℕ)) (l : List ℕ) → line_of code verb argument ≡ Ok l → length l ≤ 8704

-- what is doubled and made single again is what it was
abbrev pub EscapeBack : Type 0
EscapeBack = (l : List ℕ) → unescape (escape l) ≡ l

-- a text tells its verb
abbrev pub VerbsBack : Type 0
VerbsBack = (verb : Verb) (argument : Option (List ℕ)) → verb_read (text_of verb argument) ≡ Some verb
