-- What a text in double quotes means, behind its opening quote. Assumes nothing.
use Rattle.std.specs.Prelude.{◌≡◌, ℕ, zero, suc, ◌+◌, ◌-◌, ◌<◌, ◌≤◌, cond, List, [], ◌∷◌, ◌++◌, length, Some, None, Option, Ok, Err, Result, ◌==◌}
use Rattle.script.specs.Numbers.{hex_pair_of}
use Rattle.script.specs.declared.error.Problem.{Problem}
use Rattle.script.specs.declared.error.Problem.TheVariants as problem
use Rattle.script.specs.declared.quote.Piece.{Piece}
use Rattle.script.specs.declared.quote.Piece.TheVariants.{Byte, Close}
use Rattle.script.specs.declared.quote.QuoteError.{QuoteError}
use Rattle.script.specs.declared.quote.QuoteError.TheVariants.{Unclosed, BadEscape}

-- The byte that a letter stands for behind a backslash: r, n, t, 0, the backslash and the quote.
abbrev pub letter_of : ℕ → Option ℕ
letter_of c =
    cond (c == 114) (Some 13)
    (cond (c == 110) (Some 10)
    (cond (c == 116) (Some 9)
    (cond (c == 48) (Some 0) (cond (c == 92) (Some 92) (cond (c == 34) (Some 34) None)))))

-- A byte that is written with so many bytes, if the escape is one.
abbrev pub piece_by : ℕ → Option ℕ → Result Piece QuoteError
piece_by n (Some c) = Ok (Byte c n)
piece_by n None = Err BadEscape

-- What stands behind \x: two hexadecimal digits.
abbrev pub hex_of : List ℕ → Result Piece QuoteError
hex_of [] = Err BadEscape
hex_of (high ∷ []) = Err BadEscape
hex_of (high ∷ (low ∷ cs)) = piece_by 4 (hex_pair_of high low)

-- What stands behind a backslash.
abbrev pub escaped_of : List ℕ → Result Piece QuoteError
escaped_of [] = Err Unclosed
escaped_of (c ∷ cs) = cond (c == 120) (hex_of cs) (piece_by 2 (letter_of c))

-- What stands at the front: the closing quote, an escape, or a byte that stands for itself.
abbrev pub piece_of : List ℕ → Result Piece QuoteError
piece_of [] = Err Unclosed
piece_of (c ∷ cs) = cond (c == 34) (Ok Close) (cond (c == 92) (escaped_of cs) (Ok (Byte c 1)))

-- A piece has at least a byte, and none that is not there.
abbrev pub FitsIn : List ℕ → Result Piece QuoteError → Type 0
FitsIn cs (Ok (Byte c n)) = (0 < n) × (n ≤ length cs)
FitsIn cs (Ok Close) = 0 < length cs
FitsIn cs (Err e) = Unit {0}

-- A text's meaning, and how many bytes it is written with; or why it has none.
abbrev pub Meaning : Type 0
Meaning = Result (List ℕ × ℕ) QuoteError

-- A text's meaning with bytes before it.
abbrev pub behind : List ℕ → ℕ → Meaning → Meaning
behind bs n (Ok p) = Ok (bs ++ p.0, n + p.1)
behind bs n (Err e) = Err e

-- The meaning by the piece at the front, and the meaning of what follows so many bytes.
abbrev pub by_piece : Result Piece QuoteError → (ℕ → Meaning) → Meaning
by_piece (Ok (Byte c n)) rest = behind (c ∷ []) n (rest n)
by_piece (Ok Close) rest = Ok ([], 1)
by_piece (Err e) rest = Err e

-- The meaning of a text whose first bytes, so many, belong to a piece before it.
unfoldable pub meaning_past : ℕ → List ℕ → Meaning
meaning_past n [] = Err Unclosed
meaning_past (suc n) (c ∷ cs) = meaning_past n cs
meaning_past zero (c ∷ cs) = by_piece (piece_of (c ∷ cs)) (λ n. meaning_past (n - 1) cs)

-- What a text means: its pieces up to the first closing quote.
abbrev pub meaning : List ℕ → Meaning
meaning cs = meaning_past 0 cs

-- The bytes of a text that has a meaning.
abbrev pub bytes_of : Meaning → Option (List ℕ)
bytes_of (Ok p) = Some p.0
bytes_of (Err e) = None

-- The problem of a text that has no meaning.
abbrev pub problem_of : QuoteError → Problem
problem_of Unclosed = problem.UnclosedQuote
problem_of BadEscape = problem.BadEscape

-- A problem of a quoted text is why it has no meaning, or too little memory, which says nothing of the text.
abbrev pub FailsBy : Problem → Meaning → Type 0
FailsBy problem.UnclosedQuote m = m ≡ Err Unclosed
FailsBy problem.BadEscape m = m ≡ Err BadEscape
FailsBy problem.OutOfMemory m = Unit {0}
FailsBy _ m = ⊥
