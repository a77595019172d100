-- Pieces that are taken off a room one after another. Assumes nothing.
use Rattle.std.proofs.Common.{◌≡◌, ℕ, ◌+◌, ◌<◌, nat_le, List, [], ◌∷◌, length, Some, None, Option, sym, refl, ◌∙◌, ap, arith}
use Rattle.std.proofs.lemmas.Bool.{le-leb, lt-leb}
use Rattle.std.proofs.lemmas.List.{length-append}
use Rattle.std.specs.Borrow.{Bor}
use Rattle.std.specs.Iterator.{Yields}
use Rattle.std.specs.List.{FoldsTo}
use Rattle.std.specs.Option.{MatchOption, is_some}
use Rattle.text.specs.Area.{Spells}

-- Each turn that goes on takes a piece off the room that is left.
module _ {S F : Type 0} (steps : S → Option (Bor (List ℕ)) → S → Type 0) (bytes : S → List ℕ) (spells : (s : S) (r : Option (Bor (List ℕ))) (t : S) → steps s r t → Spells bytes s r t) (R : F × ℕ → Bor (List ℕ) → F × ℕ → Type 0) (goes : (p : F × ℕ) (x : Bor (List ℕ)) (q : F × ℕ) → R p x q → length x.now + q.1 ≡ p.1) where
  left_over : (xs : List (Bor (List ℕ))) (s t : S) (p q : F × ℕ) → Yields steps s xs t → FoldsTo R p xs q → length (bytes s) + q.1 ≡ length (bytes t) + p.1
  left_over [] s t p q y f = rw (y, f) refl
  left_over (x ∷ xs) s t p q y f =
      let more = ap length (spells s (Some x) y.0 y.1) ∙ length-append x.now (bytes y.0) in
      omega (arith, more, goes p x f.0 f.1, left_over xs y.0 t f.0 q y.2 f.2)

  -- At the end no piece is left, and all had room; or a piece has no room, so that all have none.
  pub tells : (Broke : Bor (List ℕ) → Type 0) (o : Option (Bor (List ℕ))) (r : Option ℕ) (xs : List (Bor (List ℕ))) (s t u : S) (p q : F × ℕ) → Yields steps s xs t → steps t o u → FoldsTo R p xs q
      → MatchOption o (r ≡ Some q.1) Broke → ((x : Bor (List ℕ)) → Broke x → (r ≡ None) × (q.1 < length x.now)) → is_some r ≡ nat_le (length (bytes s)) p.1
  tells Broke None r xs s t u p q y k f m broke =
      let none = ap length (spells t None u k) in
      ap is_some m ∙ sym (le-leb (length (bytes s)) p.1 (omega (arith, none, left_over xs s t p q y f)))
  tells Broke (Some x) r xs s t u p q y k f m broke =
      let more = ap length (spells t (Some x) u k) ∙ length-append x.now (bytes u) in
      ap is_some (broke x m).0 ∙ sym (lt-leb (length (bytes s)) p.1 (omega (arith, more, left_over xs s t p q y f, (broke x m).1)))
