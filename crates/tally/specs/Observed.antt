-- What may be observed of a run: each call with its answer, and what the session shows before and after it. The lines sent
-- are read back from the bytes, and so is the text of each. Assumes nothing.
use Rattle.std.specs.Prelude.{ℕ, ◌-◌, cond, List, [], ◌∷◌, ◌++◌, length, map, take, drop, Some, None, Ok, Err, ◌==◌, nat_le}
use Rattle.std.specs.List.{flat_map}
use Rattle.link.specs.Wire.{Wire}
use Rattle.encoding.specs.Code.{Code}
use Rattle.command.specs.Laws.{Whole}
use Rattle.command.specs.Lines.{unescape}
use Rattle.command.specs.Refusals.{number_of}
use Rattle.carrier.specs.declared.carrier.CarrierState.{CarrierState}
use Rattle.session.specs.declared.session.Record.{Record}
use Rattle.tally.specs.declared.calls.Ask.TheVariants.{Greet, Login, Plain, Rename, TransferType, Resume}
use Rattle.tally.specs.Asked.{Asked, Answer}

-- what a session shows: what its link means, what it remembers, and its carrier's state
pub record Shown : Type 0 where
  pub wire : Wire
  pub kept : Record
  pub carrier : CarrierState

-- one call of a run; `front` is what the reply area holds that it was lent
pub record Seen : Type 0 where
  pub ask : Asked
  pub answer : Answer
  pub before : Shown
  pub after : Shown
  pub front : List ℕ

-- what the tally reads of a call, besides the bytes taken
pub data Mark : Type 0 where
  -- a line was sent
  sent : List ℕ → Mark
  -- a greet passed its first questions
  greeting : Mark

-- bytes cut into lines, each through its byte 10; l is the one begun
abbrev pub lines_on : List ℕ → List ℕ → List (List ℕ)
lines_on l [] = []
lines_on l (b ∷ bs) = cond (b == 10) ((l ++ b ∷ []) ∷ lines_on [] bs) (lines_on (l ++ b ∷ []) bs)

-- the bytes sent in a call, and the lines in them
abbrev pub grown : Wire → Wire → List ℕ
grown v w = drop (length v.sent) w.sent

-- the lines sent in a call
abbrev pub lines_in : Seen → List (List ℕ)
lines_in s = lines_on [] (grown s.before.wire s.after.wire)

-- the lines sent in a run
abbrev pub lines_all : List Seen → List (List ℕ)
lines_all = flat_map lines_in

-- CR LF at the end of each line and neither before it
abbrev pub Wholes : List (List ℕ) → Type 0
Wholes [] = Unit {0}
Wholes (l ∷ ls) = Whole l × Wholes ls

-- what each line says: with doubled 255s made single, decoded
abbrev pub texts : Code → List (List ℕ) → List (List ℕ)
texts c = map (λ l. c.decode (unescape l))

-- a mark for each line
abbrev pub marked : List (List ℕ) → List Mark
marked = map sent

-- a greet passed its first questions unless its number is up to 5
abbrev pub greeting_by : Answer → List Mark
greeting_by (Ok (Some c)) = greeting ∷ []
greeting_by (Err e) = cond (nat_le (number_of e.refusal) 5) [] (greeting ∷ [])
greeting_by (Ok None) = []

-- the mark of a call besides its lines: only greet has one
abbrev pub by_ask : Asked → Answer → List Mark
by_ask Greet a = greeting_by a
by_ask (Login user password) a = []
by_ask (Plain p) a = []
by_ask (Rename from to) a = []
by_ask (TransferType t) a = []
by_ask (Resume n) a = []

-- the marks of a call: its lines, and its greeting
abbrev pub marks_of : Seen → List Mark
marks_of s = marked (lines_in s) ++ by_ask s.ask s.answer

-- the marks of a run
abbrev pub marks_all : List Seen → List Mark
marks_all = flat_map marks_of

-- the bytes taken between two meanings of a link
abbrev pub taken : Wire → Wire → List ℕ
taken v w = take (length v.coming - length w.coming) v.coming

-- what is shown at the end
abbrev pub shown_after : Shown → List Seen → Shown
shown_after n [] = n
shown_after n (s ∷ ss) = shown_after s.after ss
