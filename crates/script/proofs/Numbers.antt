-- Digits read one after another from the left. Assumes nothing.
use Rattle.std.proofs.Common.{◌≡◌, ℕ, ◌+◌, ◌-◌, ◌*◌, ◌^◌, ◌<◌, ◌≤◌, ltb, List, [], ◌∷◌, Some, None, Option, sym, subst, refl, ◌∙◌, ap, arith}
use Rattle.std.proofs.lemmas.Bool.{le-ltb, lt-ltb, ltb-true, ltb-false, cond_both}
use Rattle.std.proofs.lemmas.Option.{cond_some, none-some}
use Rattle.std.specs.Iterator.{Yields, AlwaysYields}
use Rattle.std.specs.List.{FoldsTo}
use Rattle.std.specs.Option.{MatchOption}
use Rattle.script.specs.Numbers.{value_after, below_2^64}

-- More digits never make a number smaller.
value_grows : (n : ℕ) (cs : List ℕ) → n ≤ value_after n cs
value_grows n [] = omega arith
value_grows n (c ∷ cs) = omega (arith, value_grows (n * 10 + (c - 48)) cs)

-- A number of 64 bits is itself.
is_below : (n m : ℕ) → Some m ≡ below_2^64 n → (n ≡ m) × (m < 2 ^ 64)
is_below n m e =
    let parts = cond_some (ltb n (2 ^ 64)) n m (sym e) in
    (parts.1, omega (arith, ltb-true n (2 ^ 64) parts.0, parts.1))

kept : (n : ℕ) → n < 2 ^ 64 → Some n ≡ below_2^64 n
kept n h = rw (lt-ltb n (2 ^ 64) h) refl

-- Each turn that goes on puts a digit behind the number. So at the end the number is that of all digits, and a turn at a
-- digit before it gives no more than that.
module _ {S A F : Type 0} (steps : S → Option A → S → Type 0) (now : A → ℕ) (R : F × ℕ → A → F × ℕ → Type 0) (goes : (p : F × ℕ) (x : A) (q : F × ℕ) → R p x q → Some q.1 ≡ below_2^64 (p.1 * 10 + (now x - 48))) where
  pub turns : (xs : List A) (cs : List ℕ) (o : Option A) (s t u : S) (p q : F × ℕ) → p.1 < 2 ^ 64 → Yields steps s xs t → steps t o u
      → FoldsTo R p xs q → AlwaysYields steps now s cs
      → MatchOption o (Some q.1 ≡ below_2^64 (value_after p.1 cs)) (λ x. q.1 * 10 + (now x - 48) ≤ value_after p.1 cs)
  turns [] [] None s t u p q h y k f a = rw (← ap (λ (r : F × ℕ). r.1) f) (kept p.1 h)
  turns [] [] (Some x) s t u p q h y k f a = absurd (a x u (subst (λ (r : S). steps r (Some x) u) (sym y) k))
  turns [] (c ∷ cs) None s t u p q h y k f a = absurd (a.0 u (subst (λ (r : S). steps r None u) (sym y) k))
  turns [] (c ∷ cs) (Some x) s t u p q h y k f a =
      let same = (a.1 x u (subst (λ (r : S). steps r (Some x) u) (sym y) k)).0 in
      rw (← ap (λ (r : F × ℕ). r.1) f, same) (value_grows (p.1 * 10 + (c - 48)) cs)
  turns (x ∷ xs) [] o s t u p q h y k f a = absurd (a x y.0 y.1)
  turns (x ∷ xs) (c ∷ cs) o s t u p q h y k f a =
      let next = a.1 x y.0 y.1 in
      let more = is_below _ _ (goes p x f.0 f.1) in
      let rest = turns xs cs o y.0 t u f.0 q more.1 y.2 k f.2 next.1 in
      rw (← next.0, more.0) rest

-- A digit that is too much.
past : (n : ℕ) → 2 ^ 64 ≤ n → None ≡ below_2^64 n
past n h = rw (le-ltb n (2 ^ 64) h) refl

pub is_past : (n : ℕ) → None ≡ below_2^64 n → 2 ^ 64 ≤ n
is_past n e = cond_both (ltb n (2 ^ 64)) (Some n) None (λ o. None ≡ o → 2 ^ 64 ≤ n) (λ _ w. absurd (none-some n w)) (λ no _. ltb-false n (2 ^ 64) no) e

-- What the turns come to: the number of all digits, or nothing, by a digit that is too much.
pub tells : {A : Type 0} (now : A → ℕ) (Broke : A → Type 0) (o : Option A) (r : Option ℕ) (a n : ℕ)
    → MatchOption o (Some a ≡ below_2^64 n) (λ x. a * 10 + (now x - 48) ≤ n) → MatchOption o (r ≡ Some a) Broke
    → ((x : A) → Broke x → (r ≡ None) × (2 ^ 64 ≤ a * 10 + (now x - 48))) → r ≡ below_2^64 n
tells now Broke None r a n t e broke = e ∙ t
tells now Broke (Some x) r a n t e broke = (broke x e).0 ∙ past n (omega (arith, (broke x e).1, t))
