-- Well-formed UTF-8. Assumes nothing.
use Rattle.std.specs.Prelude.{◌≡◌, ℕ, Bool, true, ◌&&◌, List, [], ◌∷◌}
use Rattle.std.proofs.Math.Utf8.{scalars, encodes}
use Rattle.std.specs.List.{concat}
use Rattle.std.specs.Str.{chars, bytes_eq}
use Rattle.text.specs.Table.{is_sequence}

-- whether some bytes are the encoding of a list of Unicode scalar values
unfoldable pub utf8 : List ℕ → Bool
utf8 bs = scalars (chars bs) && bytes_eq (encodes (chars bs)) bs

-- whether each of some lists of bytes is a well-formed sequence
abbrev pub all_sequences : List (List ℕ) → Bool
all_sequences [] = true
all_sequences (s ∷ ss) = is_sequence s && all_sequences ss

-- some bytes are well-formed sequences of the table, one after another
abbrev pub Sequences : List ℕ → Type 0
Sequences bs = (ss : List (List ℕ)) × (all_sequences ss ≡ true) × (concat ss ≡ bs)

-- bytes are UTF-8 exactly where they are well-formed sequences, one after another
abbrev pub Utf8ByTable : Type 0
Utf8ByTable = (bs : List ℕ) → (utf8 bs ≡ true → Sequences bs) × (Sequences bs → utf8 bs ≡ true)
