-- How far some bytes go on in the ranges of a row. Assumes nothing.
use Rattle.std.proofs.Common.{◌≡◌, ℕ, zero, suc, ◌+◌, ◌<◌, ◌≤◌, Bool, true, false, cond, List, [], ◌∷◌, length, get_or, take, drop, sym, refl, ap, ◌∙◌, subst, suc-le-suc, zero-le, le_of_suc-le-suc, not-suc-le-zero, arith}
use Rattle.std.proofs.lemmas.List.{drop_all, drop_more}
use Rattle.std.proofs.lemmas.Bool.{and_from, and_parts, false≢true}
use Rattle.text.specs.Table.{Range, later, Row, within, fits, begins}
use Rattle.text.specs.Front.{run}

run-front : (r : Range) (row : Row) (b : ℕ) (bs : List ℕ) → run (r ∷ row) (b ∷ bs) ≡ cond (within r b) (suc (run row bs)) 0
unfolding run
run-front r row b bs = refl

run-nil : (row : Row) → run row [] ≡ 0
unfolding run
run-nil [] = refl
run-nil (r ∷ row) = refl

-- from a place in the row and the bytes
run_at : (row : Row) (bs : List ℕ) (n : ℕ) → n < length row → n < length bs
    → run (drop n row) (drop n bs) ≡ cond (within (get_or row n later) (get_or bs n 0)) (suc (run (drop (n + 1) row) (drop (n + 1) bs))) 0
run_at row bs n h k =
    ap (λ z. run z (drop n bs)) (drop_more row n later h)
    ∙ ap (run (get_or row n later ∷ drop (n + 1) row)) (drop_more bs n 0 k)
    ∙ run-front (get_or row n later) (drop (n + 1) row) (get_or bs n 0) (drop (n + 1) bs)

pub run_more : (row : Row) (bs : List ℕ) (n : ℕ) → n < length row → n < length bs → true ≡ within (get_or row n later) (get_or bs n 0)
    → n + run (drop n row) (drop n bs) ≡ n + 1 + run (drop (n + 1) row) (drop (n + 1) bs)
run_more row bs n h k e =
    let s : run (drop n row) (drop n bs) ≡ suc (run (drop (n + 1) row) (drop (n + 1) bs)) =
    run_at row bs n h k ∙ ap (λ t. cond t (suc (run (drop (n + 1) row) (drop (n + 1) bs))) 0) (sym e) in
    omega (arith, s)

pub run_stop : (row : Row) (bs : List ℕ) (n : ℕ) → n < length row → n < length bs → false ≡ within (get_or row n later) (get_or bs n 0)
    → run (drop n row) (drop n bs) ≡ 0
run_stop row bs n h k e = run_at row bs n h k ∙ ap (λ t. cond t (suc (run (drop (n + 1) row) (drop (n + 1) bs))) 0) (sym e)

pub run_past : (row : Row) (bs : List ℕ) (n : ℕ) → length bs ≤ n → run (drop n row) (drop n bs) ≡ 0
run_past row bs n h = ap (run (drop n row)) (drop_all n bs h) ∙ run-nil (drop n row)

pub run_done : (row : Row) (bs : List ℕ) (n : ℕ) → length row ≤ n → run (drop n row) (drop n bs) ≡ 0
unfolding run
run_done row bs n h = ap (λ z. run z (drop n bs)) (drop_all n row h)

pub run_inside : (row : Row) (bs : List ℕ) → run row bs ≤ length bs
unfolding run
run_inside [] bs = zero-le
run_inside (r ∷ row) [] = zero-le
run_inside (r ∷ row) (b ∷ bs) = go (run_inside row bs) (within r b)
  where
    go : run row bs ≤ length bs → (t : Bool) → cond t (suc (run row bs)) 0 ≤ suc (length bs)
    go rest true = suc-le-suc rest
    go rest false = zero-le

-- where it goes through the whole row, there is a sequence of the row
pub run_fits : (row : Row) (bs : List ℕ) → run row bs ≡ length row → fits (take (run row bs) bs) row ≡ true
unfolding run fits
run_fits [] bs e = refl
run_fits (r ∷ row) [] e = absurd (omega arith)
run_fits (r ∷ row) (b ∷ bs) e = go (run_fits row bs) (within r b) refl e
  where
    go : (run row bs ≡ length row → fits (take (run row bs) bs) row ≡ true) → (t : Bool) → within r b ≡ t → cond t (suc (run row bs)) 0 ≡ suc (length row)
        → fits (take (cond t (suc (run row bs)) 0) (b ∷ bs)) (r ∷ row) ≡ true
    go rest true w q = and_from _ _ w (rest (omega arith))
    go rest false w q = absurd (omega arith)

-- and where a sequence of the row stands in front, it goes through that
pub fits-run : (row : Row) (bs : List ℕ) (k : ℕ) → k ≤ length bs → fits (take k bs) row ≡ true → (run row bs ≡ k) × (length row ≡ k)
unfolding run fits
fits-run [] bs zero h e = (refl, refl)
fits-run [] [] (suc k) h e = absurd (not-suc-le-zero h)
fits-run [] (b ∷ bs) (suc k) h e = absurd (false≢true e)
fits-run (r ∷ row) bs zero h e = absurd (false≢true e)
fits-run (r ∷ row) [] (suc k) h e = absurd (not-suc-le-zero h)
fits-run (r ∷ row) (b ∷ bs) (suc k) h e =
    let p = and_parts _ _ e in
    let q = fits-run row bs k (le_of_suc-le-suc h) p.1 in
    (ap (λ t. cond t (suc (run row bs)) 0) p.0 ∙ ap suc q.0, ap suc q.1)

-- the bytes that it goes through begin a sequence of the row, and no more do
pub run-begins : (row : Row) (bs : List ℕ) → begins (take (run row bs) bs) row ≡ true
unfolding run begins
run-begins [] bs = refl
run-begins (r ∷ row) [] = refl
run-begins (r ∷ row) (b ∷ bs) = go (run-begins row bs) (within r b) refl
  where
    go : begins (take (run row bs) bs) row ≡ true → (t : Bool) → within r b ≡ t → begins (take (cond t (suc (run row bs)) 0) (b ∷ bs)) (r ∷ row) ≡ true
    go rest true w = and_from _ _ w rest
    go rest false w = refl

pub begins-run : (row : Row) (bs : List ℕ) (k : ℕ) → k ≤ length bs → begins (take k bs) row ≡ true → k ≤ run row bs
unfolding run begins
begins-run [] bs zero h e = zero-le
begins-run [] [] (suc k) h e = absurd (not-suc-le-zero h)
begins-run [] (b ∷ bs) (suc k) h e = absurd (false≢true e)
begins-run (r ∷ row) bs zero h e = zero-le
begins-run (r ∷ row) [] (suc k) h e = absurd (not-suc-le-zero h)
begins-run (r ∷ row) (b ∷ bs) (suc k) h e =
    let p = and_parts _ _ e in
    let q = begins-run row bs k (le_of_suc-le-suc h) p.1 in
    subst (λ (m : ℕ). suc k ≤ m) (sym (ap (λ t. cond t (suc (run row bs)) 0) p.0)) (suc-le-suc q)
