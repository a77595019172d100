-- A well-formed sequence of the table is the encoding of a scalar value, and the other way round. Assumes nothing.
use Rattle.std.proofs.Common.{◌≡◌, ℕ, ◌+◌, ◌-◌, ◌*◌, ◌/◌, ◌%◌, ◌<◌, ◌≤◌, Bool, true, false, cond, eqb, ltb, leb, ◌⊎◌, List, [], ◌∷◌, IsUtf8, sym, refl, ap, ◌∙◌, subst, inl, inr, ⊎_elim, arith}
use lib.Utf8.{scalar, encode, scalar_cases, low_scalar}
use Rattle.std.proofs.lemmas.Str.{encode_ascii, IsUtf8-encode}
use Rattle.std.proofs.lemmas.Bool.{and_from, and_parts, cases_lt, cases_eq, eqb-true, leb-true, lt-ltb, le-ltb, false≢true}
use Rattle.std.proofs.lemmas.Bool.Decides.{nat_tests}
use Rattle.text.specs.Table.{Range, range, later, Row, within, fits, is_sequence}
use Rattle.text.specs.Front.{row_of}
use Rattle.text.proofs.Rows.{low, high, Kind, none, one, two, three, four, kind, inside}
use Rattle.text.proofs.Fronts.{sequence_row, sequence_nil}

-- the second byte's range, as numbers
low_le : (x y : ℕ) → (x ≡ 224 → 160 ≤ y) → (x ≡ 240 → 144 ≤ y) → 128 ≤ y → low x ≤ y
low_le x y a b l = go (eqb x 224) refl (eqb x 240) refl
  where
    go : (t : Bool) → eqb x 224 ≡ t → (u : Bool) → eqb x 240 ≡ u → cond t 160 (cond u 144 128) ≤ y
    go true e u f = a (eqb-true _ _ e)
    go false e true f = b (eqb-true _ _ f)
    go false e false f = l

le_high : (x y : ℕ) → (x ≡ 237 → y ≤ 159) → (x ≡ 244 → y ≤ 143) → y ≤ 191 → y ≤ high x
le_high x y a b l = go (eqb x 237) refl (eqb x 244) refl
  where
    go : (t : Bool) → eqb x 237 ≡ t → (u : Bool) → eqb x 244 ≡ u → y ≤ cond t 159 (cond u 143 191)
    go true e u f = a (eqb-true _ _ e)
    go false e true f = b (eqb-true _ _ f)
    go false e false f = l

by_row : (x : ℕ) (bs : List ℕ) (row : Row) → row_of x ≡ row → fits (x ∷ bs) row ≡ true → is_sequence (x ∷ bs) ≡ true
by_row x bs row e f = sequence_row x bs ∙ ap (fits (x ∷ bs)) e ∙ f

-- sequences of one to four bytes
sequence_1 : (x : ℕ) → x < 128 → is_sequence (x ∷ []) ≡ true
unfolding fits
sequence_1 x h = go (kind x)
  where
    go : Kind x → is_sequence (x ∷ []) ≡ true
    go (none a b e) = absurd (omega arith)
    go (one a e) = by_row x [] (range 0 127 ∷ []) e (and_from _ _ (inside 0 127 x (omega arith) (omega arith)) refl)
    go (two a b e) = absurd (omega arith)
    go (three a b r w e) = absurd (omega arith)
    go (four a b r w e) = absurd (omega arith)

sequence_2 : (x y : ℕ) → 194 ≤ x → x < 224 → 128 ≤ y → y ≤ 191 → is_sequence (x ∷ y ∷ []) ≡ true
unfolding fits
sequence_2 x y l h yl yh = go (kind x)
  where
    go : Kind x → is_sequence (x ∷ y ∷ []) ≡ true
    go (none a (inl b) e) = absurd (omega arith)
    go (none a (inr b) e) = absurd (omega arith)
    go (one a e) = absurd (omega arith)
    go (two a b e) = by_row x (y ∷ []) (range 194 223 ∷ later ∷ []) e (and_from _ _ (inside 194 223 x (omega arith) (omega arith)) (and_from _ _ (inside 128 191 y yl yh) refl))
    go (three a b r w e) = absurd (omega arith)
    go (four a b r w e) = absurd (omega arith)

sequence_3 : (x y z : ℕ) → 224 ≤ x → x < 240 → low x ≤ y → y ≤ high x → 128 ≤ z → z ≤ 191 → is_sequence (x ∷ y ∷ z ∷ []) ≡ true
unfolding fits
sequence_3 x y z l h yl yh zl zh = go (kind x)
  where
    go : Kind x → is_sequence (x ∷ y ∷ z ∷ []) ≡ true
    go (none a (inl b) e) = absurd (omega arith)
    go (none a (inr b) e) = absurd (omega arith)
    go (one a e) = absurd (omega arith)
    go (two a b e) = absurd (omega arith)
    go (three a b r w e) =
        by_row x (y ∷ z ∷ []) (r ∷ range (low x) (high x) ∷ later ∷ []) e
        (and_from _ _ w (and_from _ _ (inside (low x) (high x) y yl yh) (and_from _ _ (inside 128 191 z zl zh) refl)))
    go (four a b r w e) = absurd (omega arith)

sequence_4 : (x y z w : ℕ) → 240 ≤ x → x < 245 → low x ≤ y → y ≤ high x → 128 ≤ z → z ≤ 191 → 128 ≤ w → w ≤ 191 → is_sequence (x ∷ y ∷ z ∷ w ∷ []) ≡ true
unfolding fits
sequence_4 x y z w l h yl yh zl zh wl wh = go (kind x)
  where
    go : Kind x → is_sequence (x ∷ y ∷ z ∷ w ∷ []) ≡ true
    go (none a (inl b) e) = absurd (omega arith)
    go (none a (inr b) e) = absurd (omega arith)
    go (one a e) = absurd (omega arith)
    go (two a b e) = absurd (omega arith)
    go (three a b r v e) = absurd (omega arith)
    go (four a b r v e) =
        by_row x (y ∷ z ∷ w ∷ []) (r ∷ range (low x) (high x) ∷ later ∷ later ∷ []) e
        (and_from _ _ v (and_from _ _ (inside (low x) (high x) y yl yh) (and_from _ _ (inside 128 191 z zl zh) (and_from _ _ (inside 128 191 w wl wh) refl))))

of_one : (c : ℕ) → c < 128 → is_sequence (encode c) ≡ true
unfolding encode
of_one c h = let a = lt-ltb c 128 h in rw a (sequence_1 c h)

of_two : (c : ℕ) → 128 ≤ c → c < 2048 → is_sequence (encode c) ≡ true
unfolding encode
of_two c l h =
    let a = le-ltb c 128 l in
    let b = lt-ltb c 2048 h in
    rw (a, b) (sequence_2 (192 + c / 64) (128 + c % 64) (omega arith) (omega arith) (omega arith) (omega arith))

of_three : (c : ℕ) → 2048 ≤ c → c < 65536 → (c < 55296) ⊎ (57344 ≤ c) → is_sequence (encode c) ≡ true
unfolding encode
of_three c l h k =
    let a : ltb c 128 ≡ false = le-ltb c 128 (omega arith) in
    let b = le-ltb c 2048 l in
    let d = lt-ltb c 65536 h in
    rw (a, b, d) (sequence_3 (224 + c / 4096) (128 + (c / 64) % 64) (128 + c % 64) (omega arith) (omega arith)
    (low_le (224 + c / 4096) (128 + (c / 64) % 64) (λ e. omega arith) (λ e. omega arith) (omega arith))
    (le_high (224 + c / 4096) (128 + (c / 64) % 64) (λ e. ⊎_elim (λ p. omega arith) (λ p. omega arith) k) (λ e. omega arith) (omega arith)) (omega arith) (omega arith))

of_four : (c : ℕ) → 65536 ≤ c → c < 1114112 → is_sequence (encode c) ≡ true
unfolding encode
of_four c l h =
    let a : ltb c 128 ≡ false = le-ltb c 128 (omega arith) in
    let b : ltb c 2048 ≡ false = le-ltb c 2048 (omega arith) in
    let d = le-ltb c 65536 l in
    rw (a, b, d) (sequence_4 (240 + c / 262144) (128 + (c / 4096) % 64) (128 + (c / 64) % 64) (128 + c % 64) (omega arith) (omega arith)
    (low_le (240 + c / 262144) (128 + (c / 4096) % 64) (λ e. omega arith) (λ e. omega arith) (omega arith))
    (le_high (240 + c / 262144) (128 + (c / 4096) % 64) (λ e. omega arith) (λ e. omega arith) (omega arith)) (omega arith) (omega arith) (omega arith) (omega arith))

pub char_sequence : (c : ℕ) → scalar c ≡ true → is_sequence (encode c) ≡ true
char_sequence c k = from_0 (scalar_cases c k) (cases_lt c 128)
  where
    from_65536 : (c < 55296) ⊎ ((57344 ≤ c) × (c < 1114112)) → 65536 ≤ c → is_sequence (encode c) ≡ true
    from_65536 (inl k) l = absurd (omega arith)
    from_65536 (inr k) l = of_four c l k.1

    from_2048 : (c < 55296) ⊎ ((57344 ≤ c) × (c < 1114112)) → 2048 ≤ c → (c < 65536) ⊎ (65536 ≤ c) → is_sequence (encode c) ≡ true
    from_2048 k l (inl h) = of_three c l h (⊎_elim inl (λ p. inr p.0) k)
    from_2048 k l (inr h) = from_65536 k h

    from_128 : (c < 55296) ⊎ ((57344 ≤ c) × (c < 1114112)) → 128 ≤ c → (c < 2048) ⊎ (2048 ≤ c) → is_sequence (encode c) ≡ true
    from_128 k l (inl h) = of_two c l h
    from_128 k l (inr h) = from_2048 k h (cases_lt c 65536)

    from_0 : (c < 55296) ⊎ ((57344 ≤ c) × (c < 1114112)) → (c < 128) ⊎ (128 ≤ c) → is_sequence (encode c) ≡ true
    from_0 k (inl h) = of_one c h
    from_0 k (inr h) = from_128 k h (cases_lt c 2048)

-- the other way: the scalar value of a sequence
as_char : (c : ℕ) (s : List ℕ) → scalar c ≡ true → encode c ≡ s → IsUtf8 s
as_char c s k e = subst IsUtf8 e (IsUtf8-encode c k)

high_scalar : (c : ℕ) → 57344 ≤ c → c < 1114112 → scalar c ≡ true
high_scalar c l h = grind (arith, nat_tests)

char_1 : (x : ℕ) → x < 128 → IsUtf8 (x ∷ [])
char_1 x h = as_char x (x ∷ []) (low_scalar x (omega arith)) (encode_ascii x h)

encode_2 : (c x y : ℕ) → 128 ≤ c → c < 2048 → 192 + c / 64 ≡ x → 128 + c % 64 ≡ y → encode c ≡ x ∷ y ∷ []
unfolding encode
encode_2 c x y l h e f =
    let a = le-ltb c 128 l in
    let b = lt-ltb c 2048 h in
    rw (a, b, e, f)

encode_3 : (c x y z : ℕ) → 2048 ≤ c → c < 65536 → 224 + c / 4096 ≡ x → 128 + (c / 64) % 64 ≡ y → 128 + c % 64 ≡ z → encode c ≡ x ∷ y ∷ z ∷ []
unfolding encode
encode_3 c x y z l h e f g =
    let a : ltb c 128 ≡ false = le-ltb c 128 (omega arith) in
    let b = le-ltb c 2048 l in
    let d = lt-ltb c 65536 h in
    rw (a, b, d, e, f, g)

encode_4 : (c x y z w : ℕ) → 65536 ≤ c → 240 + c / 262144 ≡ x → 128 + (c / 4096) % 64 ≡ y → 128 + (c / 64) % 64 ≡ z → 128 + c % 64 ≡ w
    → encode c ≡ x ∷ y ∷ z ∷ w ∷ []
unfolding encode
encode_4 c x y z w l e f g k =
    let a : ltb c 128 ≡ false = le-ltb c 128 (omega arith) in
    let b : ltb c 2048 ≡ false = le-ltb c 2048 (omega arith) in
    let d = le-ltb c 65536 l in
    rw (a, b, d, e, f, g, k)

char_2 : (x y : ℕ) → 194 ≤ x → x < 224 → 128 ≤ y → y ≤ 191 → IsUtf8 (x ∷ y ∷ [])
char_2 x y l h yl yh =
    let c = (x - 192) * 64 + (y - 128) in
    let k : c < 2048 = omega arith in
    as_char c (x ∷ y ∷ []) (low_scalar c (omega arith)) (encode_2 c x y (omega arith) k (omega arith) (omega arith))

char_3 : (x y z : ℕ) → 224 ≤ x → x < 240 → 128 ≤ y → y ≤ 191 → (x ≡ 224 → 160 ≤ y) → (x ≡ 237 → y ≤ 159) → 128 ≤ z → z ≤ 191 → IsUtf8 (x ∷ y ∷ z ∷ [])
char_3 x y z l h yl yh a b zl zh =
    let c = (x - 224) * 4096 + (y - 128) * 64 + (z - 128) in
    let most : c < 65536 = omega arith in
    let least : 2048 ≤ c = ⊎_elim (λ e. omega (arith, a e)) (λ n. omega arith) (cases_eq x 224) in
    let is : scalar c ≡ true = ⊎_elim (λ p. low_scalar c p) (λ p. high_scalar c (⊎_elim (λ e. omega (arith, b e)) (λ n. omega arith) (cases_eq x 237)) (omega arith)) (cases_lt c 55296) in
    as_char c (x ∷ y ∷ z ∷ []) is (encode_3 c x y z least most (omega arith) (omega arith) (omega arith))

char_4 : (x y z w : ℕ) → 240 ≤ x → x < 245 → 128 ≤ y → y ≤ 191 → (x ≡ 240 → 144 ≤ y) → (x ≡ 244 → y ≤ 143) → 128 ≤ z → z ≤ 191 → 128 ≤ w → w ≤ 191
    → IsUtf8 (x ∷ y ∷ z ∷ w ∷ [])
char_4 x y z w l h yl yh a b zl zh wl wh =
    let c = (x - 240) * 262144 + (y - 128) * 4096 + (z - 128) * 64 + (w - 128) in
    let least : 65536 ≤ c = ⊎_elim (λ e. omega (arith, a e)) (λ n. omega arith) (cases_eq x 240) in
    let most : c < 1114112 = ⊎_elim (λ e. omega (arith, b e)) (λ n. omega arith) (cases_eq x 244) in
    as_char c (x ∷ y ∷ z ∷ w ∷ []) (high_scalar c (omega arith) most) (encode_4 c x y z w least (omega arith) (omega arith) (omega arith) (omega arith))

-- what stands in the ranges of a row, byte by byte
fits-nil : (bs : List ℕ) → fits bs [] ≡ true → bs ≡ []
unfolding fits
fits-nil [] e = refl
fits-nil (b ∷ bs) e = absurd (false≢true e)

record InFront (r : Range) (row : Row) (bs : List ℕ) : Type 0 where
  byte : ℕ
  rest : List ℕ
  is : bs ≡ byte ∷ rest
  least : r.least ≤ byte
  most : byte ≤ r.most
  goes_on : fits rest row ≡ true

fits-cons : (r : Range) (row : Row) (bs : List ℕ) → fits bs (r ∷ row) ≡ true → InFront r row bs
unfolding fits
fits-cons r row [] e = absurd (false≢true e)
fits-cons r row (b ∷ bs) e =
    let p = and_parts (within r b) (fits bs row) e in
    let q = and_parts (leb r.least b) (leb b r.most) p.0 in
    record { byte = b; rest = bs; is = refl; least = leb-true _ _ q.0; most = leb-true _ _ q.1; goes_on = p.1 }

row_fits : (x : ℕ) (bs : List ℕ) (row : Row) → row_of x ≡ row → is_sequence (x ∷ bs) ≡ true → fits (x ∷ bs) row ≡ true
row_fits x bs row e f = sym (ap (fits (x ∷ bs)) e) ∙ sym (sequence_row x bs) ∙ f

-- what the second byte's range says
128_low : (x : ℕ) → 128 ≤ low x
128_low x = grind (arith, nat_tests)

high_191 : (x : ℕ) → high x ≤ 191
high_191 x = grind (arith, nat_tests)

low_at_224 : (x : ℕ) → x ≡ 224 → low x ≡ 160
low_at_224 x e = rw e

low_at_240 : (x : ℕ) → x ≡ 240 → low x ≡ 144
low_at_240 x e = rw e

high_at_237 : (x : ℕ) → x ≡ 237 → high x ≡ 159
high_at_237 x e = rw e

high_at_244 : (x : ℕ) → x ≡ 244 → high x ≡ 143
high_at_244 x e = rw e

pub sequence_char : (s : List ℕ) → is_sequence s ≡ true → IsUtf8 s
unfolding fits
sequence_char [] e = absurd (false≢true (sym sequence_nil ∙ e))
sequence_char (x ∷ bs) e = go (kind x)
  where
    go : Kind x → IsUtf8 (x ∷ bs)
    go (none a b r) = absurd (false≢true (row_fits x bs [] r e))
    go (one a r) =
        let f = and_parts (within (range 0 127) x) (fits bs []) (row_fits x bs (range 0 127 ∷ []) r e) in
        subst (λ (z : List ℕ). IsUtf8 (x ∷ z)) (sym (fits-nil bs f.1)) (char_1 x a)
    go (two a b r) =
        let f = and_parts (within (range 194 223) x) (fits bs (later ∷ [])) (row_fits x bs (range 194 223 ∷ later ∷ []) r e) in
        let g = fits-cons later [] bs f.1 in
        let s : bs ≡ g.byte ∷ [] = g.is ∙ ap (λ z. g.byte ∷ z) (fits-nil g.rest g.goes_on) in
        subst (λ (z : List ℕ). IsUtf8 (x ∷ z)) (sym s) (char_2 x g.byte a b g.least g.most)
    go (three a b q w r) =
        let f = and_parts (within q x) (fits bs (range (low x) (high x) ∷ later ∷ [])) (row_fits x bs (q ∷ range (low x) (high x) ∷ later ∷ []) r e) in
        let g = fits-cons (range (low x) (high x)) (later ∷ []) bs f.1 in
        let k = fits-cons later [] g.rest g.goes_on in
        let s : bs ≡ g.byte ∷ k.byte ∷ [] = g.is ∙ ap (λ z. g.byte ∷ z) (k.is ∙ ap (λ z. k.byte ∷ z) (fits-nil k.rest k.goes_on)) in
        subst (λ (z : List ℕ). IsUtf8 (x ∷ z)) (sym s)
        (char_3 x g.byte k.byte a b (let z : 128 ≤ g.byte = omega (arith, g.least, 128_low x) in z) (let z : g.byte ≤ 191 = omega (arith, g.most, high_191 x) in z)
        (λ h. let z : 160 ≤ g.byte = omega (arith, g.least, low_at_224 x h) in z) (λ h. let z : g.byte ≤ 159 = omega (arith, g.most, high_at_237 x h) in z) k.least k.most)
    go (four a b q w r) =
        let f = and_parts (within q x) (fits bs (range (low x) (high x) ∷ later ∷ later ∷ [])) (row_fits x bs (q ∷ range (low x) (high x) ∷ later ∷ later ∷ []) r e) in
        let g = fits-cons (range (low x) (high x)) (later ∷ later ∷ []) bs f.1 in
        let k = fits-cons later (later ∷ []) g.rest g.goes_on in
        let m = fits-cons later [] k.rest k.goes_on in
        let s : bs ≡ g.byte ∷ k.byte ∷ m.byte ∷ [] =
        g.is ∙ ap (λ z. g.byte ∷ z) (k.is ∙ ap (λ z. k.byte ∷ z) (m.is ∙ ap (λ z. m.byte ∷ z) (fits-nil m.rest m.goes_on))) in
        subst (λ (z : List ℕ). IsUtf8 (x ∷ z)) (sym s)
        (char_4 x g.byte k.byte m.byte a b (let z : 128 ≤ g.byte = omega (arith, g.least, 128_low x) in z) (let z : g.byte ≤ 191 = omega (arith, g.most, high_191 x) in z)
        (λ h. let z : 144 ≤ g.byte = omega (arith, g.least, low_at_240 x h) in z) (λ h. let z : g.byte ≤ 143 = omega (arith, g.most, high_at_244 x h) in z) k.least k.most m.least m.most)
