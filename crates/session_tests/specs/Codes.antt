-- The encodings of the tests. Assumes nothing.
use Rattle.std.specs.Prelude.{ℕ, ◌-◌, [], ◌∷◌, ◌++◌, length, take, drop, Some, None}
use Rattle.encoding.specs.Code.{Code}

-- no text has bytes
abbrev pub mute : Code
mute = record { encode = λ text. None; decode = λ bytes. bytes }

-- a byte goes before each text
abbrev pub prefixed : ℕ → Code
prefixed p = record { encode = λ text. Some (p ∷ text); decode = λ bytes. drop 1 bytes }

-- a byte goes after each text
abbrev pub suffixed : ℕ → Code
suffixed p = record { encode = λ text. Some (text ++ p ∷ []); decode = λ bytes. take (length bytes - 1) bytes }
