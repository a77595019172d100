-- The pieces of a quoted text, one after another. Assumes nothing.
use Rattle.std.proofs.Common.{◌≡◌, ℕ, zero, suc, ◌+◌, ◌-◌, ◌<◌, ◌≤◌, eqb, List, [], ◌∷◌, ◌++◌, length, drop, Some, None, Option, Ok, Err, Result, sym, refl, ap, ◌∙◌, append_assoc, append-nil, add_assoc, arith, length-drop}
use Rattle.std.proofs.lemmas.List.{drop-drop}
use Rattle.std.proofs.lemmas.Bool.{cond_both}
use Rattle.script.specs.declared.quote.Piece.{Piece}
use Rattle.script.specs.declared.quote.Piece.TheVariants.{Byte, Close}
use Rattle.script.specs.declared.quote.QuoteError.{QuoteError}
use Rattle.script.specs.declared.quote.QuoteError.TheVariants.{Unclosed, BadEscape}
use Rattle.script.specs.Numbers.{hex_pair_of}
use Rattle.script.specs.Quotes.{letter_of, hex_of, piece_by, escaped_of, piece_of, FitsIn, Meaning, behind, by_piece, meaning_past, meaning, problem_of, FailsBy}

written-fits : (cs : List ℕ) (n : ℕ) (o : Option ℕ) → 0 < n → n ≤ length cs → FitsIn cs (piece_by n o)
written-fits cs n (Some c) h k = (h, k)
written-fits cs n None h k = tt

hex_fits : (b c : ℕ) (cs : List ℕ) → FitsIn (b ∷ (c ∷ cs)) (hex_of cs)
hex_fits b c [] = tt
hex_fits b c (high ∷ []) = tt
hex_fits b c (high ∷ (low ∷ cs)) = written-fits (b ∷ (c ∷ (high ∷ (low ∷ cs)))) 4 (hex_pair_of high low) (omega arith) (omega arith)

escaped-fits : (b : ℕ) (cs : List ℕ) → FitsIn (b ∷ cs) (escaped_of cs)
escaped-fits b [] = tt
escaped-fits b (c ∷ cs) =
    cond_both (eqb c 120) (hex_of cs) (piece_by 2 (letter_of c)) (FitsIn (b ∷ (c ∷ cs)))
    (λ _. hex_fits b c cs)
    (λ _. written-fits (b ∷ (c ∷ cs)) 2 (letter_of c) (omega arith) (omega arith))

piece_fits : (cs : List ℕ) → FitsIn cs (piece_of cs)
piece_fits [] = tt
piece_fits (c ∷ cs) =
    cond_both (eqb c 34) (Ok Close) _ (FitsIn (c ∷ cs)) (λ _. omega arith)
    (λ _. cond_both (eqb c 92) (escaped_of cs) (Ok (Byte c 1)) (FitsIn (c ∷ cs)) (λ _. escaped-fits c cs) (λ _. (omega arith, omega arith)))

-- Bytes that belong to a piece before are passed over.
past-drop : (n : ℕ) (cs : List ℕ) → meaning_past n cs ≡ meaning_past 0 (drop n cs)
unfolding meaning_past
past-drop zero cs = refl
past-drop (suc n) [] = refl
past-drop (suc n) (c ∷ cs) = past-drop n cs

past-front : (n c : ℕ) (cs : List ℕ) → 0 < n → meaning_past (n - 1) cs ≡ meaning (drop n (c ∷ cs))
past-front zero c cs h = absurd (omega arith)
past-front (suc n) c cs h =
    let one : suc n - 1 ≡ n = omega arith in
    rw one (past-drop n cs)

same_rest : (cs : List ℕ) (p : Result Piece QuoteError) (f g : ℕ → Meaning) → ((n : ℕ) → 0 < n → f n ≡ g n) → FitsIn cs p
    → by_piece p f ≡ by_piece p g
same_rest cs (Ok (Byte c n)) f g h k = rw (h n k.0)
same_rest cs (Ok Close) f g h k = refl
same_rest cs (Err e) f g h k = refl

-- A text means the piece at its front, and then what follows that piece.
meaning-front : (cs : List ℕ) → meaning cs ≡ by_piece (piece_of cs) (λ n. meaning (drop n cs))
unfolding meaning_past
meaning-front [] = refl
meaning-front (c ∷ cs) =
    same_rest (c ∷ cs) (piece_of (c ∷ cs)) (λ n. meaning_past (n - 1) cs) (λ n. meaning (drop n (c ∷ cs)))
    (λ n h. past-front n c cs h) (piece_fits (c ∷ cs))

behind-behind : (bs cs : List ℕ) (m n : ℕ) (t : Meaning) → behind bs m (behind cs n t) ≡ behind (bs ++ cs) (m + n) t
behind-behind bs cs m n (Ok p) = rw (append_assoc bs cs p.0, add_assoc m n p.1)
behind-behind bs cs m n (Err e) = refl

-- One turn: what was read, the piece at the front of the rest, and the meaning of what follows it are the meaning of all.
turn : (bs rest : List ℕ) (i : ℕ) (m : Meaning) (p : Result Piece QuoteError) → p ≡ piece_of rest
    → behind bs i (meaning rest) ≡ m → behind bs i (by_piece p (λ n. meaning (drop n rest))) ≡ m
turn bs rest i m p e h = rw (e, ← meaning-front rest) h

turn_byte : (bs rest : List ℕ) (i c n : ℕ) (m : Meaning) → Ok (Byte c n) ≡ piece_of rest
    → behind bs i (meaning rest) ≡ m → behind (bs ++ (c ∷ [])) (i + n) (meaning (drop n rest)) ≡ m
turn_byte bs rest i c n m e h =
    sym (behind-behind bs (c ∷ []) i n (meaning (drop n rest))) ∙ turn bs rest i m (Ok (Byte c n)) e h

turn_close : (bs rest : List ℕ) (i : ℕ) (m : Meaning) → Ok Close ≡ piece_of rest
    → behind bs i (meaning rest) ≡ m → m ≡ Ok (bs, i + 1)
turn_close bs rest i m e h = sym (simp append-nil at (turn bs rest i m (Ok Close) e h))

pub turn_err : (bs rest : List ℕ) (i : ℕ) (m : Meaning) (q : QuoteError) → Err q ≡ piece_of rest
    → behind bs i (meaning rest) ≡ m → m ≡ Err q
turn_err bs rest i m q e h = sym (turn bs rest i m (Err q) e h)

-- So many bytes more, and so much less is left.
passed : (text rest after : List ℕ) (n : ℕ) → after ≡ drop n rest → n ≤ length rest → length rest ≤ length text
    → length text - length after ≡ length text - length rest + n
passed text rest after n e h k =
    let left : length after ≡ length rest - n = rw e (length-drop n rest) in
    omega (arith, left)

-- What is left behind so many bytes more is still the end of the text.
pub still_its_end : (text rest after : List ℕ) (n : ℕ) → after ≡ drop n rest → n ≤ length rest → length rest ≤ length text
    → rest ≡ drop (length text - length rest) text → after ≡ drop (length text - length after) text
still_its_end text rest after n e h k r =
    rw (passed text rest after n e h k) (e ∙ ap (drop n) r ∙ drop-drop n (length text - length rest) text)

-- The problem of a text that has no meaning says why.
pub fails_by : (e : QuoteError) (m : Meaning) → m ≡ Err e → FailsBy (problem_of e) m
fails_by Unclosed m h = h
fails_by BadEscape m h = h

-- One byte more.
pub still_read : (bs text rest after : List ℕ) (c n : ℕ) → after ≡ drop n rest → n ≤ length rest → length rest ≤ length text
    → Ok (Byte c n) ≡ piece_of rest → behind bs (length text - length rest) (meaning rest) ≡ meaning text
    → behind (bs ++ (c ∷ [])) (length text - length after) (meaning after) ≡ meaning text
still_read bs text rest after c n e h k p m =
    rw (passed text rest after n e h k, e) (turn_byte bs rest (length text - length rest) c n (meaning text) p m)

-- The closing quote.
pub all_read : (bs text rest after : List ℕ) → after ≡ drop 1 rest → 1 ≤ length rest → length rest ≤ length text
    → Ok Close ≡ piece_of rest → behind bs (length text - length rest) (meaning rest) ≡ meaning text
    → meaning text ≡ Ok (bs, length text - length after)
all_read bs text rest after e h k p m =
    rw (passed text rest after 1 e h k) (turn_close bs rest (length text - length rest) (meaning text) p m)
