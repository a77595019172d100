-- Where lines, words and the parts of addresses end. Assumes nothing.
use Rattle.std.specs.Prelude.{◌≡◌, ℕ, ◌+◌, ◌<◌, Bool, true, cond, not, List, [], ◌∷◌, length, take, drop, Some, None, Option, ◌==◌, nat_lt}
use Rattle.std.specs.List.{prefix_len}

-- Whether a byte is a space or a tab.
abbrev pub blank : ℕ → Bool
blank c = cond (c == 32) true (c == 9)

-- Whether a byte belongs to a word: spaces and tabs separate words.
abbrev pub inked : ℕ → Bool
inked c = not (blank c)

-- The text from its first byte that is no blank.
abbrev pub trimmed : List ℕ → List ℕ
trimmed cs = drop (prefix_len blank cs) cs

-- Whether a byte is another one than this.
abbrev pub other : ℕ → ℕ → Bool
other b c = not (c == b)

-- The part before a place and the part behind it, if there is such a place.
abbrev pub around : ℕ → List ℕ → Option (List ℕ × List ℕ)
around n cs = cond (nat_lt n (length cs)) (Some (take n cs, drop (n + 1) cs)) None

-- The part before the first such byte, and the part behind it.
abbrev pub split_at : ℕ → List ℕ → Option (List ℕ × List ℕ)
split_at b cs = around (prefix_len (other b) cs) cs

-- The word at the front, up to the first blank.
abbrev pub first_word : List ℕ → List ℕ
first_word cs = take (prefix_len inked cs) cs

-- The word at the front, where anything is left; none at the end.
abbrev pub next_word : List ℕ → Option (List ℕ)
next_word [] = None
next_word (c ∷ cs) = Some (first_word (c ∷ cs))

-- What follows that word and the blanks behind it.
abbrev pub past_word : List ℕ → List ℕ
past_word cs = trimmed (drop (prefix_len inked cs) cs)

-- The part in front, or all where nothing is cut.
abbrev pub front_of : List ℕ → Option (List ℕ × List ℕ) → List ℕ
front_of cs None = cs
front_of cs (Some p) = p.0

-- The part behind, or nothing where nothing is cut.
abbrev pub back_of : Option (List ℕ × List ℕ) → List ℕ
back_of None = []
back_of (Some p) = p.1

-- The first line, up to byte 10 or the text's end.
abbrev pub first_line : List ℕ → List ℕ
first_line cs = front_of cs (split_at 10 cs)

-- The lines behind it.
abbrev pub later_lines : List ℕ → List ℕ
later_lines cs = back_of (split_at 10 cs)

-- A turn over the lines of a text: none where nothing is left, else the first line, and then the lines behind it are left.
abbrev pub GivesLine : {A : Type 0} → (A → List ℕ) → List ℕ → Option A → List ℕ → Type 0
GivesLine now cs None later = length cs ≡ 0
GivesLine now cs (Some line) later = (0 < length cs) × (now line ≡ first_line cs) × (later ≡ later_lines cs)
