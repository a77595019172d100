-- The lines sent are read back from their bytes, and the bytes taken from what is still coming. Assumes nothing.
use Rattle.std.proofs.Common.{◌≡◌, ℕ, ◌-◌, cond, List, [], ◌∷◌, ◌++◌, length, take, drop, sym, refl, ap, ◌∙◌, append_assoc, arith, length-append}
use Rattle.std.specs.List.{concat}
use Rattle.std.proofs.lemmas.List.{take_at, drop_at}
use Rattle.link.specs.Wire.{Wire}
use Rattle.command.specs.Laws.{Plain, Whole}
use Rattle.tally.specs.Observed.{lines_on, grown, taken, Wholes}

-- whole lines before whole lines
pub wholes_append : (ls ms : List (List ℕ)) → Wholes ls → Wholes ms → Wholes (ls ++ ms)
wholes_append [] ms h g = g
wholes_append (l ∷ ls) ms h g = (h.0, wholes_append ls ms h.1 g)

-- a body free of CR and LF goes on to the end of its line
body_on : (a body rest : List ℕ) → Plain body → lines_on a (body ++ 13 ∷ 10 ∷ rest) ≡ (a ++ (body ++ 13 ∷ 10 ∷ [])) ∷ lines_on [] rest
body_on a [] rest h = ap (λ z. z ∷ lines_on [] rest) (append_assoc a (13 ∷ []) (10 ∷ []))
body_on a (b ∷ body) rest h =
    ap (λ t. cond t ((a ++ b ∷ []) ∷ lines_on [] (body ++ 13 ∷ 10 ∷ rest)) (lines_on (a ++ b ∷ []) (body ++ 13 ∷ 10 ∷ rest))) h.1
    ∙ body_on (a ++ b ∷ []) body rest h.2
    ∙ ap (λ z. z ∷ lines_on [] rest) (append_assoc a (b ∷ []) (body ++ 13 ∷ 10 ∷ []))

-- a whole line is the first line of its bytes and any behind them
first_line : (l rest : List ℕ) → Whole l → lines_on [] (l ++ rest) ≡ l ∷ lines_on [] rest
first_line l rest h =
    ap (λ z. lines_on [] (z ++ rest)) h.is
    ∙ ap (lines_on []) (append_assoc h.body (13 ∷ 10 ∷ []) rest)
    ∙ body_on [] h.body rest h.plain
    ∙ ap (λ z. z ∷ lines_on [] rest) (sym h.is)

-- bytes that are whole lines are cut into just those
pub lines_back : (ls : List (List ℕ)) → Wholes ls → lines_on [] (concat ls) ≡ ls
lines_back [] h = refl
lines_back (l ∷ ls) h = first_line l (concat ls) h.0 ∙ ap (λ z. l ∷ z) (lines_back ls h.1)

-- what a link sent since it meant v
pub grown_is : (v w : Wire) (bytes : List ℕ) → w.sent ≡ v.sent ++ bytes → grown v w ≡ bytes
grown_is v w bytes e = ap (drop (length v.sent)) e ∙ drop_at v.sent bytes (length v.sent) refl

-- what was taken of a link since it meant v
pub taken_is : (v w : Wire) (bytes : List ℕ) → v.coming ≡ bytes ++ w.coming → taken v w ≡ bytes
taken_is v w bytes e =
    let long : length v.coming - length w.coming ≡ length bytes = omega (arith, ap length e, length-append bytes w.coming) in
    ap (λ n. take n v.coming) long ∙ ap (take (length bytes)) e ∙ take_at bytes w.coming (length bytes) refl
