-- The parts of an address, one after another. Assumes nothing.
use Rattle.std.proofs.Common.{◌≡◌, ℕ, suc, ◌+◌, ◌-◌, ◌<◌, List, [], ◌∷◌, ◌++◌, length, take, slice_set, Some, None, Option, sym, refl, ◌∙◌, ap, append_assoc, append-nil, arith}
use Rattle.std.proofs.lemmas.List.{take_more_set}
use Rattle.std.proofs.Math.Seq.{take-length}
use Rattle.script.specs.Addresses.{group_of, bind, part_before, parts_before, v6_of}
use Rattle.carrier.specs.declared.address.IpAddr.TheVariants.{V6}

-- What was read, and then what follows it.
abbrev pub behind : {A : Type 0} → List A → Option (List A × List ℕ) → Option (List A × List ℕ)
behind xs o = bind o (λ q. Some (xs ++ q.0, q.1))

behind-behind : {A : Type 0} (xs : List A) (x : A) (o : Option (List A × List ℕ))
    → behind xs (bind o (λ q. Some (x ∷ q.0, q.1))) ≡ behind (xs ++ (x ∷ [])) o
behind-behind xs x None = refl
behind-behind xs x (Some q) = rw (append_assoc xs (x ∷ []) q.0) refl

behind_nothing : {A : Type 0} (o : Option (List A × List ℕ)) → behind [] o ≡ o
behind_nothing None = refl
behind_nothing (Some q) = refl

module _ {A : Type 0} (b : ℕ) (f : List ℕ → Option A) where
  pub begins : (n : ℕ) (cs : List ℕ) → behind [] (parts_before b f (n - 0) cs) ≡ parts_before b f n cs
  begins n cs = let all : n - 0 ≡ n = omega arith in rw all (behind_nothing (parts_before b f n cs))

  -- One part more.
  pub goes_on : (n i : ℕ) (xs : List A) (x : A) (cs ds : List ℕ) (whole : Option (List A × List ℕ)) → i < n → i < length xs
      → Some (x, ds) ≡ part_before b f cs → behind (take i xs) (parts_before b f (n - i) cs) ≡ whole
      → behind (take (i + 1) (slice_set xs i x)) (parts_before b f (n - (i + 1)) ds) ≡ whole
  goes_on n i xs x cs ds whole h k e w =
      let more : n - i ≡ suc (n - (i + 1)) = omega (arith, h) in
      rw (take_more_set xs i x k) (sym (behind-behind (take i xs) x (parts_before b f (n - (i + 1)) ds)) ∙ (rw (more, ← e) at w))

  -- A part that is not there.
  pub stops : (n i : ℕ) (xs : List A) (cs : List ℕ) (whole : Option (List A × List ℕ)) → i < n
      → None ≡ part_before b f cs → behind (take i xs) (parts_before b f (n - i) cs) ≡ whole → None ≡ whole
  stops n i xs cs whole h e w =
      let more : n - i ≡ suc (n - (i + 1)) = omega (arith, h) in
      rw (more, ← e) at w

  -- All parts.
  pub ends : (n : ℕ) (xs : List A) (cs : List ℕ) (whole : Option (List A × List ℕ)) → length xs ≡ n
      → behind (take n xs) (parts_before b f (n - n) cs) ≡ whole → Some (xs, cs) ≡ whole
  ends n xs cs whole h w =
      let none : n - n ≡ 0 = omega arith in
      let all : take n xs ≡ xs = rw (← h) (take-length xs) in
      ap (λ ys. Some (ys, cs)) (sym (append-nil xs)) ∙ (rw (none, all) at w)

  -- What follows from so many parts follows from one and then from the others.
  bind-bind : {B : Type 0} (x : A) (o : Option (List A × List ℕ)) (k : List A × List ℕ → Option B)
      → bind (bind o (λ q. Some (x ∷ q.0, q.1))) k ≡ bind o (λ q. k (x ∷ q.0, q.1))
  bind-bind x None k = refl
  bind-bind x (Some q) k = refl

  by_first : {B : Type 0} (n : ℕ) (o : Option (A × List ℕ)) (k : List A × List ℕ → Option B) (j : A × List ℕ → Option B)
      → ((p : A × List ℕ) → bind (parts_before b f n p.1) (λ q. k (p.0 ∷ q.0, q.1)) ≡ j p)
      → bind (bind o (λ p. bind (parts_before b f n p.1) (λ q. Some (p.0 ∷ q.0, q.1)))) k ≡ bind o j
  by_first n None k j h = refl
  by_first n (Some p) k j h = bind-bind p.0 (parts_before b f n p.1) k ∙ h p

  step : {B : Type 0} (n : ℕ) (cs : List ℕ) (k : List A × List ℕ → Option B) (j : A × List ℕ → Option B)
      → ((p : A × List ℕ) → bind (parts_before b f n p.1) (λ q. k (p.0 ∷ q.0, q.1)) ≡ j p)
      → bind (parts_before b f (suc n) cs) k ≡ bind (part_before b f cs) j
  step n cs k j h = by_first n (part_before b f cs) k j h

-- Seven groups before colons, and the last.
pub v6-parts : (cs : List ℕ)
    → bind (parts_before 58 group_of 7 cs) (λ q. bind (group_of q.1) (λ h. Some (V6 (q.0 ++ (h ∷ []))))) ≡ v6_of cs
v6-parts cs =
    step 58 group_of 6 cs _ _ (λ a. step 58 group_of 5 a.1 _ _ (λ b. step 58 group_of 4 b.1 _ _ (λ c.
    step 58 group_of 3 c.1 _ _ (λ d. step 58 group_of 2 d.1 _ _ (λ e. step 58 group_of 1 e.1 _ _ (λ f.
    step 58 group_of 0 f.1 _ _ (λ g. refl)))))))
