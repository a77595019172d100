-- The sequence of UTF-8, or the broken beginning of one, at the front of some bytes. Assumes nothing.
use Rattle.std.specs.Prelude.{◌≡◌, ℕ, zero, suc, ◌<◌, ◌≤◌, Bool, true, false, cond, ◌⊎◌, List, [], ◌∷◌, length, take, drop, Option, Some, None, Result, Ok, Err, ◌==◌}
use Rattle.text.specs.declared.sequences.Broken.{Broken}
use Rattle.text.specs.Table.{Row, table, within, is_sequence, begins_sequence}

-- whether the first range of a row has the byte
abbrev pub leads : ℕ → Row → Bool
leads b [] = false
leads b (r ∷ row) = within r b

-- the one of some rows that the byte begins; without ranges where it begins none
abbrev pub find_row : ℕ → List Row → Row
find_row b [] = []
find_row b (row ∷ rows) = cond (leads b row) row (find_row b rows)

-- the row of the sequences that begin with the byte; without ranges where there are none
unfoldable pub row_of : ℕ → Row
row_of b = find_row b table

-- how many bytes a sequence of the row has, if there is one
abbrev pub announced : Row → Option ℕ
announced [] = None
announced (r ∷ row) = Some (length (r ∷ row))

-- how many bytes stand in the ranges of a row, one after another
unfoldable pub run : Row → List ℕ → ℕ
run [] bs = zero
run (r ∷ row) [] = zero
run (r ∷ row) (b ∷ bs) = cond (within r b) (suc (run row bs)) zero

-- the first byte, and as many behind it as go on in its row; whole where that is all of the row, and else broken
unfoldable pub front : List ℕ → Result ℕ Broken
front [] = Err (record { 0 = 0 })
front (b ∷ bs) =
    let n = suc (run (drop 1 (row_of b)) bs) in
    cond (n == length (row_of b)) (Ok n) (Err (record { 0 = n }))

-- how many bytes the front takes, whole or broken
abbrev pub length_of : Result ℕ Broken → ℕ
length_of (Ok n) = n
length_of (Err broken) = broken.0

-- What the front of some bytes is by the table alone. It is whole exactly where they begin with a sequence, and is that
-- sequence. Else it is the longest front that begins a sequence, or one byte where no sequence begins so: the
-- maximal subpart of an ill-formed subsequence, which Unicode replaces by one U+FFFD.
pub record ByTable (bytes : List ℕ) (n : ℕ) (whole : Bool) : Type 0 where
  pub inside : n ≤ length bytes
  pub some : 0 < length bytes → 0 < n
  pub sequence : whole ≡ true → is_sequence (take n bytes) ≡ true
  pub only : (k : ℕ) → k ≤ length bytes → is_sequence (take k bytes) ≡ true → (whole ≡ true) × (n ≡ k)
  pub begun : whole ≡ false → 0 < length bytes → (begins_sequence (take n bytes) ≡ true) ⊎ (n ≡ 1)
  pub longest : (k : ℕ) → k ≤ length bytes → begins_sequence (take k bytes) ≡ true → k ≤ n
