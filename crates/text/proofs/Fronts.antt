-- What stands at the front of some bytes, by the table. Assumes nothing.
use Rattle.std.proofs.Common.{◌≡◌, ℕ, zero, suc, ◌+◌, ◌<◌, ◌≤◌, Bool, true, false, cond, ◌&&◌, ◌||◌, eqb, leb, ◌⊎◌, List, [], ◌∷◌, length, get_or, take, drop, Some, None, Result, Ok, Err, is_ok, sym, refl, ap, ◌∙◌, subst, inl, inr, suc-le-suc, zero-le, le_of_suc-le-suc, not-suc-le-zero, one-add, arith}
use Rattle.std.proofs.lemmas.Bool.{and_from, and_left, and_parts, or_from, false≢true, leb-true, eqb-true, eq-eqb, ne_eqb, lt-leb}
use Rattle.text.specs.declared.sequences.Broken.{Broken}
use Rattle.text.specs.Table.{Range, Row, table, within, fits, begins, some_row, is_sequence, begins_sequence}
use Rattle.text.specs.Front.{leads, find_row, row_of, run, announced, front, length_of, ByTable}
use Rattle.text.proofs.Runs.{run_done, run_inside, run_fits, fits-run, run-begins, begins-run}

or_none : (x y : Bool) → y ≡ false → (x || y) ≡ x
or_none true y e = refl
or_none false y e = e

-- the rows' first ranges rise, from n on: so at most one of them has a byte
rising : ℕ → List Row → Bool
rising n [] = true
rising n ([] ∷ rows) = false
rising n ((r ∷ row) ∷ rows) = leb n r.least && (leb r.least r.most && rising (suc r.most) rows)

table_rises : rising 0 table ≡ true
unfolding rising
table_rises = refl

rises_on : (n : ℕ) (r : Range) (row : Row) (rows : List Row) → rising n ((r ∷ row) ∷ rows) ≡ true → (n ≤ r.least) × (r.least ≤ r.most) × (rising (suc r.most) rows ≡ true)
unfolding rising
rises_on n r row rows e =
    let q = and_parts (leb n r.least) (leb r.least r.most && rising (suc r.most) rows) e in
    let s = and_parts (leb r.least r.most) (rising (suc r.most) rows) q.1 in
    (leb-true n r.least q.0, leb-true r.least r.most s.0, s.1)

-- a row whose first range lies above the byte does not lead with it
below : (r : Range) (b : ℕ) → b < r.least → within r b ≡ false
below r b h = and_left _ _ (lt-leb r.least b h)

-- a test that only a row can pass that leads with the byte
abbrev NeedsLead : ℕ → (Row → Bool) → Type 0
NeedsLead b p = (row : Row) → leads b row ≡ false → p row ≡ false

none_above : (p : Row → Bool) (b : ℕ) → NeedsLead b p → (n : ℕ) (rows : List Row) → b < n → rising n rows ≡ true → some_row p rows ≡ false
unfolding rising
none_above p b lead n [] h e = refl
none_above p b lead n ([] ∷ rows) h e = absurd (false≢true e)
none_above p b lead n ((r ∷ row) ∷ rows) h e =
    let q = rises_on n r row rows e in
    let k : b < r.least = omega (arith, q.0) in
    let j : b < suc r.most = omega (arith, q.1) in
    or_from _ _ (lead (r ∷ row) (below r b k)) (none_above p b lead (suc r.most) rows j q.2)

-- so what some row passes, the found one passes
the_row : (p : Row → Bool) (b : ℕ) → NeedsLead b p → (n : ℕ) (rows : List Row) → rising n rows ≡ true → some_row p rows ≡ p (find_row b rows)
unfolding rising
the_row p b lead n [] e = sym (lead [] refl)
the_row p b lead n ([] ∷ rows) e = absurd (false≢true e)
the_row p b lead n ((r ∷ row) ∷ rows) e =
    let up = (rises_on n r row rows e).2 in
    go up (the_row p b lead (suc r.most) rows up) (within r b) refl
  where
    go : rising (suc r.most) rows ≡ true → some_row p rows ≡ p (find_row b rows) → (t : Bool) → within r b ≡ t
        → (p (r ∷ row) || some_row p rows) ≡ p (cond t (r ∷ row) (find_row b rows))
    go up rest true w =
        let k : b ≤ r.most = leb-true b r.most (and_parts (leb r.least b) (leb b r.most) w).1 in
        let j : b < suc r.most = omega arith in
        or_none (p (r ∷ row)) _ (none_above p b lead (suc r.most) rows j up)
    go up rest false w = ap (λ (t : Bool). t || some_row p rows) (lead (r ∷ row) w) ∙ rest

found : (b : ℕ) (rows : List Row) → (find_row b rows ≡ []) ⊎ (leads b (find_row b rows) ≡ true)
found b [] = inl refl
found b (row ∷ rows) = go (found b rows) (leads b row) refl
  where
    go : (find_row b rows ≡ []) ⊎ (leads b (find_row b rows) ≡ true) → (t : Bool) → leads b row ≡ t
        → (cond t row (find_row b rows) ≡ []) ⊎ (leads b (cond t row (find_row b rows)) ≡ true)
    go rest true e = inr e
    go rest false e = rest

-- a byte's row is empty, or has the byte in its first range
pub row_found : (b : ℕ) → (row_of b ≡ []) ⊎ (leads b (row_of b) ≡ true)
unfolding row_of
row_found b = found b table

fits-leads : (b : ℕ) (bs : List ℕ) → NeedsLead b (fits (b ∷ bs))
unfolding fits
fits-leads b bs [] e = refl
fits-leads b bs (r ∷ row) e = and_left _ _ e

begins-leads : (b : ℕ) (bs : List ℕ) → NeedsLead b (begins (b ∷ bs))
unfolding begins
begins-leads b bs [] e = refl
begins-leads b bs (r ∷ row) e = and_left _ _ e

pub sequence_row : (b : ℕ) (bs : List ℕ) → is_sequence (b ∷ bs) ≡ fits (b ∷ bs) (row_of b)
unfolding is_sequence row_of
sequence_row b bs = the_row (fits (b ∷ bs)) b (fits-leads b bs) 0 table table_rises

pub begins_row : (b : ℕ) (bs : List ℕ) → begins_sequence (b ∷ bs) ≡ begins (b ∷ bs) (row_of b)
unfolding begins_sequence row_of
begins_row b bs = the_row (begins (b ∷ bs)) b (begins-leads b bs) 0 table table_rises

pub sequence_nil : is_sequence [] ≡ false
unfolding is_sequence fits
sequence_nil = refl

-- the row of a first byte stands for the whole table
record Led (b : ℕ) (row : Row) : Type 0 where
  by_fits : (bs : List ℕ) → is_sequence (b ∷ bs) ≡ fits (b ∷ bs) row
  by-begins : (bs : List ℕ) → begins_sequence (b ∷ bs) ≡ begins (b ∷ bs) row

led_none : (b : ℕ) (bs : List ℕ) → Led b [] → ByTable (b ∷ bs) 1 false
unfolding fits begins
led_none b bs l = record {
  inside = suc-le-suc zero-le;
  some = λ _. suc-le-suc zero-le;
  sequence = λ e. absurd (false≢true e);
  only = λ k h e. absurd (no_sequence k e);
  begun = λ _ _. inr refl;
  longest = λ k h e. no_longer k e;
}
  where
    no_sequence : (k : ℕ) → is_sequence (take k (b ∷ bs)) ≡ true → ⊥
    no_sequence zero e = false≢true (sym sequence_nil ∙ e)
    no_sequence (suc k) e = false≢true (sym (l.by_fits (take k bs)) ∙ e)

    no_longer : (k : ℕ) → begins_sequence (take k (b ∷ bs)) ≡ true → k ≤ 1
    no_longer zero e = zero-le
    no_longer (suc k) e = absurd (false≢true (sym (l.by-begins (take k bs)) ∙ e))

led_some : (b : ℕ) (bs : List ℕ) (r : Range) (row : Row) → Led b (r ∷ row) → within r b ≡ true
    → ByTable (b ∷ bs) (suc (run row bs)) (eqb (suc (run row bs)) (suc (length row)))
unfolding fits begins
led_some b bs r row l w = record {
  inside = suc-le-suc (run_inside row bs);
  some = λ _. suc-le-suc zero-le;
  sequence = λ e. l.by_fits (take (run row bs) bs) ∙ and_from _ _ w (run_fits row bs (let q = eqb-true _ _ e in omega (arith, q)));
  only = only_one;
  begun = λ _ _. inl (l.by-begins (take (run row bs) bs) ∙ and_from _ _ w (run-begins row bs));
  longest = no_longer;
}
  where
    only_one : (k : ℕ) → k ≤ suc (length bs) → is_sequence (take k (b ∷ bs)) ≡ true → (eqb (suc (run row bs)) (suc (length row)) ≡ true) × (suc (run row bs) ≡ k)
    only_one zero h e = absurd (false≢true (sym sequence_nil ∙ e))
    only_one (suc k) h e =
        let q = and_parts (within r b) (fits (take k bs) row) (sym (l.by_fits (take k bs)) ∙ e) in
        let p = fits-run row bs k (le_of_suc-le-suc h) q.1 in
        (eq-eqb _ _ (ap suc (p.0 ∙ sym p.1)), ap suc p.0)

    no_longer : (k : ℕ) → k ≤ suc (length bs) → begins_sequence (take k (b ∷ bs)) ≡ true → k ≤ suc (run row bs)
    no_longer zero h e = zero-le
    no_longer (suc k) h e =
        let q = and_parts (within r b) (begins (take k bs) row) (sym (l.by-begins (take k bs)) ∙ e) in
        suc-le-suc (begins-run row bs k (le_of_suc-le-suc h) q.1)

by_row : (b : ℕ) (bs : List ℕ) (row : Row) → Led b row → (row ≡ []) ⊎ (leads b row ≡ true)
    → ByTable (b ∷ bs) (suc (run (drop 1 row) bs)) (eqb (suc (run (drop 1 row) bs)) (length row))
unfolding run
by_row b bs [] l h = led_none b bs l
by_row b bs (r ∷ row) l (inl e) = let z : ◌≡◌ {A = ℕ} 0 1 = cc in absurd (omega arith)
by_row b bs (r ∷ row) l (inr w) = led_some b bs r row l w

-- n bytes that are whole or broken
abbrev pub ended : Bool → ℕ → Result ℕ Broken
ended w n = cond w (Ok n) (Err (record { 0 = n }))

ended_is : (w : Bool) (n : ℕ) → (length_of (ended w n) ≡ n) × (is_ok (ended w n) ≡ w)
ended_is true n = (refl, refl)
ended_is false n = (refl, refl)

pub by_table : (bs : List ℕ) → ByTable bs (length_of (front bs)) (is_ok (front bs))
unfolding front
by_table [] = record {
  inside = zero-le;
  some = λ h. absurd (not-suc-le-zero h);
  sequence = λ e. absurd (false≢true e);
  only = λ k h e. absurd (none k h e);
  begun = λ _ h. absurd (not-suc-le-zero h);
  longest = λ k h e. h;
}
  where
    none : (k : ℕ) → k ≤ 0 → is_sequence (take k []) ≡ true → ⊥
    none zero h e = false≢true (sym sequence_nil ∙ e)
    none (suc k) h e = not-suc-le-zero h
by_table (b ∷ bs) =
    let n = suc (run (drop 1 (row_of b)) bs) in
    let w = eqb n (length (row_of b)) in
    let is = ended_is w n in
    subst (λ (m : ℕ). ByTable (b ∷ bs) m (is_ok (ended w n))) (sym is.0)
    (subst (ByTable (b ∷ bs) n) (sym is.1) (by_row b bs (row_of b) (record { by_fits = sequence_row b; by-begins = begins_row b }) (row_found b)))

pub sequence_by_table : (bs : List ℕ) (s : Result ℕ Broken) → s ≡ front bs → ByTable bs (length_of s) (is_ok s)
sequence_by_table bs s e = subst (λ (s : Result ℕ Broken). ByTable bs (length_of s) (is_ok s)) (sym e) (by_table bs)

-- what the bytes come to: there are none, none begins a sequence, a place breaks it, or none does
pub front_none : (bs : List ℕ) → length bs < 1 → ended false 0 ≡ front bs
unfolding front
front_none [] h = refl
front_none (b ∷ bs) h = absurd (omega arith)

pub front_unled : (bs : List ℕ) → 1 ≤ length bs → None ≡ announced (row_of (get_or bs 0 0)) → ended false 1 ≡ front bs
unfolding front run
front_unled [] h e = absurd (not-suc-le-zero h)
front_unled (b ∷ bs) h e = go (row_of b) e
  where
    go : (row : Row) → None ≡ announced row → ended false 1 ≡ ended (eqb (suc (run (drop 1 row) bs)) (length row)) (suc (run (drop 1 row) bs))
    go [] e = refl
    go (r ∷ row) e = let z : ◌≡◌ {A = ℕ} 0 1 = cc in absurd (omega arith)

pub announced_is : (row : Row) (w : ℕ) → Some w ≡ announced row → (w ≡ length row) × (0 < w)
announced_is [] w e = let z : ◌≡◌ {A = ℕ} 0 1 = cc in absurd (omega arith)
announced_is (r ∷ row) w e = let is : w ≡ suc (length row) = cc in (is, (let z : 0 < w = omega (arith, is) in z))

front_some : (bs : List ℕ) (n w : ℕ) (b : Bool) → 1 ≤ length bs → w ≡ length (row_of (get_or bs 0 0)) → n ≡ 1 + run (drop 1 (row_of (get_or bs 0 0))) (drop 1 bs)
    → eqb n w ≡ b → ended b n ≡ front bs
unfolding front
front_some [] n w b h f e t = absurd (not-suc-le-zero h)
front_some (x ∷ bs) n w b h f e t =
    let n_is : n ≡ suc (run (drop 1 (row_of x)) bs) = e ∙ one-add _ in
    ap (λ c. ended c n) (sym t) ∙ ap (λ m. ended (eqb n m) n) f ∙ ap (λ m. ended (eqb m (length (row_of x))) m) n_is

module _ (bs : List ℕ) (n w : ℕ) (some : 1 ≤ length bs) (long : Some w ≡ announced (row_of (get_or bs 0 0)))
    (is : n + run (drop n (row_of (get_or bs 0 0))) (drop n bs) ≡ 1 + run (drop 1 (row_of (get_or bs 0 0))) (drop 1 bs)) where
  pub front_broken : n < w → run (drop n (row_of (get_or bs 0 0))) (drop n bs) ≡ 0 → ended false n ≡ front bs
  front_broken h none =
      let e : n ≡ 1 + run (drop 1 (row_of (get_or bs 0 0))) (drop 1 bs) = omega (arith, none, is) in
      front_some bs n w false some (announced_is _ w long).0 e (ne_eqb n w (λ p. omega (arith, p)))

  pub front_whole : n ≡ w → ended true w ≡ front bs
  front_whole all =
      let k = (announced_is _ w long).0 in
      let none = run_done (row_of (get_or bs 0 0)) bs n (let z : length (row_of (get_or bs 0 0)) ≤ n = omega (arith, k, all) in z) in
      let e : w ≡ 1 + run (drop 1 (row_of (get_or bs 0 0))) (drop 1 bs) = omega (arith, none, is, all) in
      front_some bs w w true some k e (eq-eqb w w refl)
