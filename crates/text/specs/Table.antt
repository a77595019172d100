-- The well-formed byte sequences of UTF-8: table 3-7 of the Unicode Standard. Assumes nothing.
use Rattle.std.specs.Prelude.{ℕ, Bool, true, false, ◌&&◌, ◌||◌, List, [], ◌∷◌, nat_le}

-- a range of bytes, both ends in it
pub record Range : Type 0 where
  pub least : ℕ
  pub most : ℕ

-- the range of these two ends
abbrev pub range : ℕ → ℕ → Range
range least most = record { least = least; most = most }

-- what stands third and fourth in any row, and second in most
abbrev pub later : Range
later = range 0x80 0xBF

-- a row: the ranges of the first byte, the second, the third and the fourth
abbrev pub Row : Type 0
Row = List Range

-- the nine rows, in the order of the Standard
abbrev pub table : List Row
table =
    (range 0x00 0x7F ∷ [])
    ∷ (range 0xC2 0xDF ∷ later ∷ [])
    ∷ (range 0xE0 0xE0 ∷ range 0xA0 0xBF ∷ later ∷ [])
    ∷ (range 0xE1 0xEC ∷ later ∷ later ∷ [])
    ∷ (range 0xED 0xED ∷ range 0x80 0x9F ∷ later ∷ [])
    ∷ (range 0xEE 0xEF ∷ later ∷ later ∷ [])
    ∷ (range 0xF0 0xF0 ∷ range 0x90 0xBF ∷ later ∷ later ∷ [])
    ∷ (range 0xF1 0xF3 ∷ later ∷ later ∷ later ∷ [])
    ∷ (range 0xF4 0xF4 ∷ range 0x80 0x8F ∷ later ∷ later ∷ [])
    ∷ []

-- whether a range has the byte
abbrev pub within : Range → ℕ → Bool
within r b = nat_le r.least b && nat_le b r.most

-- some bytes are a sequence of the row: one in each of its ranges, and no more
unfoldable pub fits : List ℕ → Row → Bool
fits [] [] = true
fits [] (r ∷ row) = false
fits (b ∷ bs) [] = false
fits (b ∷ bs) (r ∷ row) = within r b && fits bs row

-- some bytes begin a sequence of the row, or are one
unfoldable pub begins : List ℕ → Row → Bool
begins [] row = true
begins (b ∷ bs) [] = false
begins (b ∷ bs) (r ∷ row) = within r b && begins bs row

-- whether a test passes at one of some rows
abbrev pub some_row : (Row → Bool) → List Row → Bool
some_row p [] = false
some_row p (row ∷ rows) = p row || some_row p rows

-- some bytes are one well-formed sequence
unfoldable pub is_sequence : List ℕ → Bool
is_sequence bs = some_row (fits bs) table

-- some bytes begin a well-formed sequence, or are one
unfoldable pub begins_sequence : List ℕ → Bool
begins_sequence bs = some_row (begins bs) table
