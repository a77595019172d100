-- What a link means, and what sending and receiving over it comes to. Assumes nothing.
use Rattle.std.specs.Prelude.{◌≡◌, ℕ, ◌-◌, ◌<◌, ◌≤◌, Bool, cond, List, [], ◌∷◌, ◌++◌, length, take, drop, Some, None, Ok, Err, Option, Result, nat_le}
use Rattle.link.specs.declared.wire.Ending.{Ending}
use Rattle.link.specs.declared.wire.Ending.TheVariants.{Closed, Broken}
use Rattle.link.specs.declared.wire.BrokenLink.{BrokenLink}
use Rattle.link.specs.declared.wire.FullLink.{FullLink}

-- the bytes sent since the start, how many more it takes, the bytes coming, and what comes after them
pub record Wire : Type 0 where
  pub sent : List ℕ
  pub room : ℕ
  pub coming : List ℕ
  pub ending : Ending

-- whether the link takes some bytes
abbrev pub fits : List ℕ → Wire → Bool
fits bytes w = nat_le (length bytes) w.room

-- the link with some bytes sent
abbrev pub sending : List ℕ → Wire → Wire
sending bytes w = record { sent = w.sent ++ bytes; room = w.room - length bytes; coming = w.coming; ending = w.ending }

-- the link after a put: all of the bytes, or the link as it was
abbrev pub put_of : List ℕ → Wire → Wire
put_of bytes w = cond (fits bytes w) (sending bytes w) w

-- the refusal of a link without room
abbrev pub full : FullLink
full = record {}

-- what a put answers
abbrev pub put_answer : List ℕ → Wire → Result (Unit {0}) FullLink
put_answer bytes w = cond (fits bytes w) (Ok tt) (Err full)

-- the link with the first k coming bytes gone
abbrev pub past : ℕ → Wire → Wire
past k w = record { sent = w.sent; room = w.room; coming = drop k w.coming; ending = w.ending }

-- the link with other bytes coming
abbrev pub leaving : List ℕ → Wire → Wire
leaving bytes w = record { sent = w.sent; room = w.room; coming = bytes; ending = w.ending }

-- the refusal of a link that broke
abbrev pub broken_link : BrokenLink
broken_link = record {}

-- how many bytes a pull moved
abbrev pub moved : Result ℕ BrokenLink → ℕ
moved (Ok k) = k
moved (Err _) = 0

-- what a pull answers where nothing is coming
abbrev pub at_end : Ending → Result ℕ BrokenLink
at_end Closed = Ok 0
at_end Broken = Err broken_link

-- A pull from a link that meant w and means v, into an area that held `area` and holds `after`, with the answer r. How many
-- bytes it moves is free within its bounds, and all else is said: an empty area gets 0 from any link; with nothing coming
-- and an area not empty a closed link answers 0 and a broken one refuses; else at least one byte is moved. The first coming
-- bytes are moved to the front of the area, and the rest of it and all else of the link stay as they were.
pub record Pulled (w v : Wire) (area after : List ℕ) (r : Result ℕ BrokenLink) : Type 0 where
  pub empty : length area ≡ 0 → r ≡ Ok 0
  pub ended : 0 < length area → length w.coming ≡ 0 → r ≡ at_end w.ending
  pub some : 0 < length area → 0 < length w.coming → (r ≡ Ok (moved r)) × (0 < moved r)
  pub within : moved r ≤ length area
  pub there : moved r ≤ length w.coming
  pub link : v ≡ past (moved r) w
  pub front : after ≡ take (moved r) w.coming ++ drop (moved r) area

-- what a read of one byte answers, by the bytes coming and the ending
abbrev pub first : List ℕ → Ending → Result (Option ℕ) BrokenLink
first [] Closed = Ok None
first [] Broken = Err broken_link
first (b ∷ _) _ = Ok (Some b)

-- what a read of one byte answers, by the link
abbrev pub next_byte : Wire → Result (Option ℕ) BrokenLink
next_byte w = first w.coming w.ending
