-- Which row of the table a first byte has. Assumes nothing.
use Rattle.std.proofs.Common.{◌≡◌, ℕ, ◌<◌, ◌≤◌, true, false, cond, ◌&&◌, eqb, leb, ◌⊎◌, [], ◌∷◌, length, get_or, Some, sym, refl, ap, ◌∙◌, subst, inl, inr, ⊎_elim, arith, lit<, lit≤}
use Rattle.std.proofs.lemmas.Bool.{cases_lt, and_from, le-leb, ne_eqb}
use Rattle.std.proofs.lemmas.Bool.Decides.{nat_tests}
use Rattle.std.specs.Range.{range_inclusive_start, range_inclusive_end, range_inclusive_exhausted, range_inclusive_contains}
use Rattle.std.specs.declared.ops.RangeInclusive.{RangeInclusive}
use Rattle.std.specs.Ordering.{nat_cmp, is_le, is_lt, is_some_and}
use Rattle.text.specs.Table.{Range, range, later, Row, within}
use Rattle.text.specs.Front.{row_of}

pub inside : (lo hi b : ℕ) → lo ≤ b → b ≤ hi → within (range lo hi) b ≡ true
inside lo hi b l h = and_from _ _ (le-leb lo b l) (le-leb b hi h)

-- the least and the most that stands second, behind the first byte x
abbrev pub low : ℕ → ℕ
low x = cond (eqb x 224) 160 (cond (eqb x 240) 144 128)

abbrev pub high : ℕ → ℕ
high x = cond (eqb x 237) 159 (cond (eqb x 244) 143 191)

-- the row of a first byte, by its size
pub data Kind (x : ℕ) : Type 0 where
  none : (128 ≤ x) → (x < 194) ⊎ (244 < x) → row_of x ≡ [] → Kind x
  one : x < 128 → row_of x ≡ range 0 127 ∷ [] → Kind x
  two : 194 ≤ x → x < 224 → row_of x ≡ range 194 223 ∷ later ∷ [] → Kind x
  three : 224 ≤ x → x < 240 → (r : Range) → within r x ≡ true → row_of x ≡ r ∷ range (low x) (high x) ∷ later ∷ [] → Kind x
  four : 240 ≤ x → x < 245 → (r : Range) → within r x ≡ true → row_of x ≡ r ∷ range (low x) (high x) ∷ later ∷ later ∷ [] → Kind x

pub row_none : (x : ℕ) → 128 ≤ x → (x < 194) ⊎ (244 < x) → row_of x ≡ []
unfolding row_of
row_none x h (inl k) = grind (arith, nat_tests)
row_none x h (inr k) = grind (arith, nat_tests)

pub row_one : (x : ℕ) → x < 128 → row_of x ≡ range 0 127 ∷ []
unfolding row_of
row_one x h = grind (arith, nat_tests)

row_two : (x : ℕ) → 194 ≤ x → x < 224 → row_of x ≡ range 194 223 ∷ later ∷ []
unfolding row_of
row_two x l h = grind (arith, nat_tests)

-- the rows whose second byte is any later one
pub plain : (x : ℕ) → (x ≡ 224 → ⊥) → (x ≡ 237 → ⊥) → (x ≡ 240 → ⊥) → (x ≡ 244 → ⊥) → later ≡ range (low x) (high x)
plain x a b d e =
    let p = ne_eqb x 224 a in
    let q = ne_eqb x 237 b in
    let r = ne_eqb x 240 d in
    let s = ne_eqb x 244 e in
    rw (p, q, r, s)

row_E1 : (x : ℕ) → 225 ≤ x → x < 237 → row_of x ≡ range 225 236 ∷ later ∷ later ∷ []
unfolding row_of
row_E1 x l h = grind (arith, nat_tests)

row_EE : (x : ℕ) → 238 ≤ x → x < 240 → row_of x ≡ range 238 239 ∷ later ∷ later ∷ []
unfolding row_of
row_EE x l h = grind (arith, nat_tests)

row_F1 : (x : ℕ) → 241 ≤ x → x < 244 → row_of x ≡ range 241 243 ∷ later ∷ later ∷ later ∷ []
unfolding row_of
row_F1 x l h = grind (arith, nat_tests)

three_plain : (lo hi x : ℕ) → lo ≤ x → x ≤ hi → 225 ≤ x → x < 240 → (x ≡ 237 → ⊥) → row_of x ≡ range lo hi ∷ later ∷ later ∷ [] → Kind x
three_plain lo hi x l h a b n e =
    let p : 224 ≤ x = omega arith in
    three p b (range lo hi) (inside lo hi x l h) (e ∙ ap (λ (s : Range). range lo hi ∷ s ∷ later ∷ []) (plain x (λ q. omega arith) n (λ q. omega arith) (λ q. omega arith)))

four_plain : (x : ℕ) → 241 ≤ x → x < 244 → Kind x
four_plain x a b =
    let p : 240 ≤ x = omega arith in
    let q : x < 245 = omega arith in
    let h : x ≤ 243 = omega arith in
    four p q (range 241 243) (inside 241 243 x a h)
    (row_F1 x a b ∙ ap (λ (s : Range). range 241 243 ∷ s ∷ later ∷ later ∷ []) (plain x (λ q. omega arith) (λ q. omega arith) (λ q. omega arith) (λ q. omega arith)))

at_E0 : Kind 224
unfolding row_of
at_E0 = three (lit≤ tt) (lit< tt) (range 224 224) refl refl

at_ED : Kind 237
unfolding row_of
at_ED = three (lit≤ tt) (lit< tt) (range 237 237) refl refl

at_F0 : Kind 240
unfolding row_of
at_F0 = four (lit≤ tt) (lit< tt) (range 240 240) refl refl

at_F4 : Kind 244
unfolding row_of
at_F4 = four (lit≤ tt) (lit< tt) (range 244 244) refl refl

pub kind : (x : ℕ) → Kind x
kind x = from_0 (cases_lt x 128)
  where
    from_F5 : 244 < x → Kind x
    from_F5 l = let p : 128 ≤ x = omega arith in none p (inr l) (row_none x p (inr l))

    from_F4 : 244 ≤ x → (x < 245) ⊎ (245 ≤ x) → Kind x
    from_F4 l (inl h) = let e : 244 ≡ x = omega arith in subst Kind e at_F4
    from_F4 l (inr h) = from_F5 h

    from_F1 : 241 ≤ x → (x < 244) ⊎ (244 ≤ x) → Kind x
    from_F1 l (inl h) = four_plain x l h
    from_F1 l (inr h) = from_F4 h (cases_lt x 245)

    from_F0 : 240 ≤ x → (x < 241) ⊎ (241 ≤ x) → Kind x
    from_F0 l (inl h) = let e : 240 ≡ x = omega arith in subst Kind e at_F0
    from_F0 l (inr h) = from_F1 h (cases_lt x 244)

    from_EE : 238 ≤ x → (x < 240) ⊎ (240 ≤ x) → Kind x
    from_EE l (inl h) =
        let p : 225 ≤ x = omega arith in
        let q : x ≤ 239 = omega arith in
        three_plain 238 239 x l q p h (λ e. omega arith) (row_EE x l h)
    from_EE l (inr h) = from_F0 h (cases_lt x 241)

    from_ED : 237 ≤ x → (x < 238) ⊎ (238 ≤ x) → Kind x
    from_ED l (inl h) = let e : 237 ≡ x = omega arith in subst Kind e at_ED
    from_ED l (inr h) = from_EE h (cases_lt x 240)

    from_E1 : 225 ≤ x → (x < 237) ⊎ (237 ≤ x) → Kind x
    from_E1 l (inl h) =
        let p : x < 240 = omega arith in
        let q : x ≤ 236 = omega arith in
        three_plain 225 236 x l q l p (λ e. omega arith) (row_E1 x l h)
    from_E1 l (inr h) = from_ED h (cases_lt x 238)

    from_E0 : 224 ≤ x → (x < 225) ⊎ (225 ≤ x) → Kind x
    from_E0 l (inl h) = let e : 224 ≡ x = omega arith in subst Kind e at_E0
    from_E0 l (inr h) = from_E1 h (cases_lt x 237)

    from_C2 : 194 ≤ x → (x < 224) ⊎ (224 ≤ x) → Kind x
    from_C2 l (inl h) = two l h (row_two x l h)
    from_C2 l (inr h) = from_E0 h (cases_lt x 225)

    from_80 : 128 ≤ x → (x < 194) ⊎ (194 ≤ x) → Kind x
    from_80 l (inl h) = none l (inl h) (row_none x l (inl h))
    from_80 l (inr h) = from_C2 h (cases_lt x 224)

    from_0 : (x < 128) ⊎ (128 ≤ x) → Kind x
    from_0 (inl h) = one h (row_one x h)
    from_0 (inr h) = from_80 h (cases_lt x 194)

-- what stands second, and what stands behind that
second : (x : ℕ) → 1 < length (row_of x) → range (low x) (high x) ≡ get_or (row_of x) 1 later
second x l = go (kind x)
  where
    go : Kind x → range (low x) (high x) ≡ get_or (row_of x) 1 later
    go (none a b e) = absurd (omega (arith, ap length e))
    go (one a e) = absurd (omega (arith, ap length e))
    go (two a b e) = sym (plain x (λ q. omega arith) (λ q. omega arith) (λ q. omega arith) (λ q. omega arith)) ∙ rw e
    go (three a b r w e) = rw e
    go (four a b r w e) = rw e

pub second_is : (x k lo hi : ℕ) → k ≡ 1 → k < length (row_of x) → range lo hi ≡ range (low x) (high x) → range lo hi ≡ get_or (row_of x) k later
second_is x k lo hi at n e =
    let long : 1 < length (row_of x) = omega arith in
    e ∙ second x long ∙ ap (λ j. get_or (row_of x) j later) (sym at)

further_in : (row : Row) (k : ℕ) → later ≡ get_or row k later → (x : ℕ) → row_of x ≡ row → later ≡ get_or (row_of x) k later
further_in row k f x e = f ∙ ap (λ (z : Row). get_or z k later) (sym e)

further : (x k : ℕ) → 1 < k → k < length (row_of x) → later ≡ get_or (row_of x) k later
further x k l h = go (kind x)
  where
    go : Kind x → later ≡ get_or (row_of x) k later
    go (none a b e) = absurd (omega (arith, ap length e))
    go (one a e) = absurd (omega (arith, ap length e))
    go (two a b e) = absurd (omega (arith, ap length e))
    go (three a b r w e) =
        let two : k ≡ 2 = omega (arith, ap length e) in
        further_in (r ∷ range (low x) (high x) ∷ later ∷ []) k (rw two) x e
    go (four a b r w e) =
        let less : k < 4 = omega (arith, ap length e) in
        ⊎_elim
        (λ p. let two : k ≡ 2 = omega arith in further_in (r ∷ range (low x) (high x) ∷ later ∷ later ∷ []) k (rw two) x e)
        (λ p. let three : k ≡ 3 = omega arith in further_in (r ∷ range (low x) (high x) ∷ later ∷ later ∷ []) k (rw three) x e)
        (cases_lt k 3)

-- what stands behind any other first byte, and at any place behind the second
pub other_is : (x k : ℕ) → 0 < k → (k ≡ 1 → (x ≡ 224 → ⊥) × (x ≡ 237 → ⊥) × (x ≡ 240 → ⊥) × (x ≡ 244 → ⊥)) → k < length (row_of x) → later ≡ get_or (row_of x) k later
other_is x k l n h =
    ⊎_elim
    (λ p. let at : k ≡ 1 = omega arith in second_is x k 128 191 at h (let o = n at in plain x o.0 o.1 o.2 o.3))
    (λ p. further x k p h)
    (cases_lt k 2)

le_is : (a b : ℕ) → is_le (nat_cmp a b) ≡ leb a b
le_is a b = grind (arith, nat_tests)

-- a range of Rust has the bytes that the table's range has
pub contains_is : (r : RangeInclusive ℕ) (b : ℕ) (s : Range) → range_inclusive_exhausted r ≡ false → range (range_inclusive_start r) (range_inclusive_end r) ≡ s
    → range_inclusive_contains (λ x y. Some (nat_cmp x y)) r b ≡ within s b
contains_is r b s fresh is =
    ap (λ t. is_le (nat_cmp r.start b) && cond t (is_some_and is_lt (Some (nat_cmp b r.end))) (is_le (nat_cmp b r.end))) fresh
    ∙ ap (λ t. t && is_le (nat_cmp b r.end)) (le_is r.start b) ∙ ap (λ t. leb r.start b && t) (le_is b r.end) ∙ ap (λ z. within z b) is
