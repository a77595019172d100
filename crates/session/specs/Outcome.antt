-- What a piece of a call answers and leaves, one piece after another, and what a whole call answers and leaves.
-- Assumes nothing.
use Rattle.std.specs.Prelude.{ℕ, List, length, replicate, Ok, Err, Result}
use Rattle.command.specs.declared.fault.Fault.{Fault}
use Rattle.session.specs.Model.{Model, Desk}

-- a piece: its answer, the session after it, and what the reply area holds
pub record Outcome (X : Type 0) : Type 0 where
  pub answer : X
  pub after : Model
  pub reply : List ℕ

-- a piece that ends with an answer
abbrev pub ends : {X : Type 0} → X → Model → List ℕ → Outcome X
ends x m area = record { answer = x; after = m; reply = area }

-- what follows an answer: the next piece, or the fault as it is
abbrev pub chain : {X Y : Type 0} → Model → List ℕ → (X → Model → List ℕ → Outcome (Result Y Fault)) → Result X Fault → Outcome (Result Y Fault)
chain m area k (Ok x) = k x m area
chain m area k (Err e) = ends (Err e) m area

-- what `?` does: the next piece where this one passed, else its fault unchanged
abbrev pub next : {X Y : Type 0} → Outcome (Result X Fault) → (X → Model → List ℕ → Outcome (Result Y Fault)) → Outcome (Result Y Fault)
next o k = chain o.after o.reply k o.answer

-- a call: its answer, the session after it, and what each lent area holds
pub record Called (X : Type 0) : Type 0 where
  pub answer : X
  pub after : Model
  pub desk : Desk

-- an area of zeros, as long as it was
abbrev pub zeros : List ℕ → List ℕ
zeros area = replicate (length area) 0

-- past its first questions a call leaves both work areas all zero
abbrev pub wiped : {X : Type 0} → Desk → Outcome X → Called X
wiped d o = record { answer = o.answer; after = o.after; desk = record { reply = o.reply; wide = zeros d.wide; narrow = zeros d.narrow } }

-- a call that its first questions refuse changes nothing; one that passes them does what follows
abbrev pub past : {X : Type 0} → Result (Unit {0}) Fault → Model → Desk → Outcome (Result X Fault) → Called (Result X Fault)
past (Ok _) m d o = wiped d o
past (Err e) m d o = record { answer = Err e; after = m; desk = d }
