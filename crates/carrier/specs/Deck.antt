-- What a carrier means: what it will tell at any asks in turn, and its state; and what each of its methods answers and
-- leaves. Assumes nothing.
use Rattle.std.specs.Prelude.{Bool, true, false, cond, List, [], ◌∷◌, Some, None, Ok, Err, Option, Result, ℕ, codes}
use Rattle.carrier.specs.declared.address.SocketAddr.{SocketAddr}
use Rattle.carrier.specs.declared.carrier.CarrierState.{CarrierState}
use Rattle.carrier.specs.declared.carrier.CarrierState.TheVariants.{Closed, Listening, Holding, Standing}
use Rattle.carrier.specs.declared.carrier.CarrierRefusal.{CarrierRefusal}

-- The name of a state.
abbrev pub state_name : CarrierState → List ℕ
state_name Closed = codes "closed"
state_name Listening = codes "listening"
state_name Holding = codes "holding"
state_name Standing = codes "standing"

-- What a carrier can be asked: to listen, to dial an address, or for a caller.
pub data Ask : Type 0 where
  to_listen : Ask
  to_dial : SocketAddr → Ask
  for_caller : Ask

-- What it can tell: an address, that it is done, that there is no caller yet, or that it refuses.
pub data Told : Type 0 where
  address : SocketAddr → Told
  done : Told
  none_yet : Told
  refuses : Told

-- A carrier: what it will tell at an ask, given the asks before it from the first to the last; and the state it is in.
pub record Deck : Type 0 where
  pub coming : List Ask → Ask → Told
  pub state : CarrierState

-- What a method answers, and the carrier that it leaves.
pub record Asked (X : Type 0) : Type 0 where
  pub answer : X
  pub after : Deck

-- What a carrier tells at the next ask.
abbrev pub tells : Deck → Ask → Told
tells d a = d.coming [] a

-- The carrier in another state, its coming answers as they were.
abbrev pub in_state : CarrierState → Deck → Deck
in_state s d = record { coming = d.coming; state = s }

-- The carrier once an ask was put to it: that ask stands before all later ones.
abbrev pub past : Ask → CarrierState → Deck → Deck
past a s d = record { coming = λ earlier. d.coming (a ∷ earlier); state = s }

-- The only refusal.
abbrev pub refused : CarrierRefusal
refused = record {}

-- The state after an ask: a refusal closes.
abbrev pub or_closed : {X : Type 0} → CarrierState → Result X CarrierRefusal → CarrierState
or_closed s (Ok _) = s
or_closed s (Err _) = Closed

-- A listener has an address. What is told besides does not fit, and refuses.
abbrev pub listened : Told → Result SocketAddr CarrierRefusal
listened (address a) = Ok a
listened done = Err refused
listened none_yet = Err refused
listened refuses = Err refused

-- From any state: answers where it listens and is listening, or refuses and is closed.
abbrev pub listen_of : Deck → Asked (Result SocketAddr CarrierRefusal)
listen_of d =
    let r = listened (tells d to_listen) in
    record { answer = r; after = past to_listen (or_closed Listening r) d }

-- A dial is done, or refused.
abbrev pub dialled : Told → Result Unit CarrierRefusal
dialled done = Ok tt
dialled (address _) = Err refused
dialled none_yet = Err refused
dialled refuses = Err refused

-- From any state: dials the address and stands, or refuses and is closed.
abbrev pub dial_of : SocketAddr → Deck → Asked (Result Unit CarrierRefusal)
dial_of to d =
    let r = dialled (tells d (to_dial to)) in
    record { answer = r; after = past (to_dial to) (or_closed Standing r) d }

-- A caller has an address, or has not come yet, or none will come.
abbrev pub came : Told → Result (Option SocketAddr) CarrierRefusal
came (address a) = Ok (Some a)
came none_yet = Ok None
came done = Err refused
came refuses = Err refused

-- A caller comes only to a carrier that listens, or that holds one already.
abbrev pub awaits : CarrierState → Bool
awaits Closed = false
awaits Listening = true
awaits Holding = true
awaits Standing = false

-- What a carrier in a state answers, where it would tell something.
abbrev pub called : CarrierState → Told → Result (Option SocketAddr) CarrierRefusal
called s t = cond (awaits s) (came t) (Err refused)

-- With a caller it holds, with none yet it listens, and a failure closes it.
abbrev pub after_caller : Result (Option SocketAddr) CarrierRefusal → CarrierState
after_caller (Ok (Some _)) = Holding
after_caller (Ok None) = Listening
after_caller (Err _) = Closed

-- Listening or holding: answers the caller's address and holds it, answers none yet and listens, or fails and is closed.
-- In other states: fails and is closed. The ask is put in every state.
abbrev pub caller_of : Deck → Asked (Result (Option SocketAddr) CarrierRefusal)
caller_of d =
    let r = called d.state (tells d for_caller) in
    record { answer = r; after = past for_caller (after_caller r) d }

-- A caller that is held stands; other states stay.
abbrev pub kept : CarrierState → CarrierState
kept Closed = Closed
kept Listening = Listening
kept Holding = Standing
kept Standing = Standing

-- The carrier after a keep, which puts no ask.
abbrev pub keep_of : Deck → Deck
keep_of d = in_state (kept d.state) d

-- The carrier after a close, which puts none either.
abbrev pub close_of : Deck → Deck
close_of d = in_state Closed d
