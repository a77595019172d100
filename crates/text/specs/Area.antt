-- Writing to the front of a lent area. Assumes nothing.
use Rattle.std.specs.Prelude.{◌≡◌, ℕ, cond, List, [], ◌∷◌, ◌++◌, length, drop, Some, None, Option, nat_le}
use Rattle.std.specs.Borrow.{Bor}

-- what a writer answers, and what the area holds after
pub record Filled : Type 0 where
  pub answer : Option ℕ
  pub area : List ℕ

-- nothing is written, and the area is as it was
abbrev pub refused : List ℕ → Filled
refused area = record { answer = None; area = area }

-- bytes at the front of an area, the rest of it as it was
abbrev pub laid : List ℕ → List ℕ → List ℕ
laid bytes area = bytes ++ drop (length bytes) area

-- all of the bytes at the front of the area and how many they are; or, where there are none to write or they do not fit,
-- a refusal and the area as it was
abbrev pub filled : Option (List ℕ) → List ℕ → Filled
filled None area = refused area
filled (Some bytes) area = cond (nat_le (length bytes) (length area)) (record { answer = Some (length bytes); area = laid bytes area }) (refused area)

-- the bytes of a piece that came and of those behind it; there are none where no piece came
abbrev pub spelled : Option (Bor (List ℕ)) → List ℕ → List ℕ
spelled None rest = []
spelled (Some piece) rest = piece.now ++ rest

-- a call of `next` took a piece off the front of the bytes that were to come, or found none
abbrev pub Spells : {S : Type 0} → (S → List ℕ) → S → Option (Bor (List ℕ)) → S → Type 0
Spells bytes s r t = bytes s ≡ spelled r (bytes t)

-- the bytes of some slices, one behind another
abbrev pub joined : List (Bor (List ℕ)) → List ℕ
joined [] = []
joined (part ∷ parts) = part.now ++ joined parts
