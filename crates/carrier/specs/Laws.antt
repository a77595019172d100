-- What holds of every carrier: the states that each method leaves, and whose asks its answers depend on. Assumes nothing.
use Rattle.std.specs.Prelude.{◌≡◌, ◌⊎◌, List, [], ◌∷◌, ◌++◌, Some, None, Ok, Err, ◌≢◌}
use Rattle.carrier.specs.declared.address.SocketAddr.{SocketAddr}
use Rattle.carrier.specs.declared.carrier.CarrierState.{CarrierState}
use Rattle.carrier.specs.declared.carrier.CarrierState.TheVariants.{Closed, Listening, Holding, Standing}
use Rattle.carrier.specs.Deck.{Ask, to_listen, to_dial, for_caller, Deck, refused, listen_of, dial_of, caller_of, keep_of, close_of}

-- One of the five things that can be done with a carrier.
pub data Move : Type 0 where
  listen : Move
  dial : SocketAddr → Move
  caller : Move
  keep : Move
  close : Move

-- The carrier after a move.
abbrev pub moved : Move → Deck → Deck
moved listen d = (listen_of d).after
moved (dial to) d = (dial_of to d).after
moved caller d = (caller_of d).after
moved keep d = keep_of d
moved close d = close_of d

-- The carrier after several moves in turn.
abbrev pub run : List Move → Deck → Deck
run [] d = d
run (m ∷ ms) d = run ms (moved m d)

-- The asks that moves put: keep and close put none.
abbrev pub asks : List Move → List Ask
asks [] = []
asks (listen ∷ ms) = to_listen ∷ asks ms
asks (dial to ∷ ms) = to_dial to ∷ asks ms
asks (caller ∷ ms) = for_caller ∷ asks ms
asks (keep ∷ ms) = asks ms
asks (close ∷ ms) = asks ms

-- The moves after which a carrier can stand that was in a given state before.
pub data Stands : Move → CarrierState → Type 0 where
  by_dial : (to : SocketAddr) (s : CarrierState) → Stands (dial to) s
  by_keep : Stands keep Holding
  as_before : Stands keep Standing

-- The law of the states, and of the answers over any run.
pub record States : Type 0 where
  -- after listen it listens, or refused and is closed
  pub listens : (d : Deck) (a : SocketAddr) → (listen_of d).answer ≡ Ok a → (listen_of d).after.state ≡ Listening
  pub not_listening : (d : Deck) → (listen_of d).answer ≡ Err refused → (listen_of d).after.state ≡ Closed
  -- after dial it stands, or refused and is closed
  pub dials : (d : Deck) (to : SocketAddr) → (dial_of to d).answer ≡ Ok tt → (dial_of to d).after.state ≡ Standing
  pub not_dialled : (d : Deck) (to : SocketAddr) → (dial_of to d).answer ≡ Err refused → (dial_of to d).after.state ≡ Closed
  -- with a caller it holds, with none yet it listens, and a failure closes it
  pub holds : (d : Deck) (a : SocketAddr) → (caller_of d).answer ≡ Ok (Some a) → (caller_of d).after.state ≡ Holding
  pub waits : (d : Deck) → (caller_of d).answer ≡ Ok None → (caller_of d).after.state ≡ Listening
  pub no_caller : (d : Deck) → (caller_of d).answer ≡ Err refused → (caller_of d).after.state ≡ Closed
  -- closed or standing, it has no caller, whatever it would tell
  pub wrong_state : (d : Deck) → (d.state ≡ Closed) ⊎ (d.state ≡ Standing) → ((caller_of d).answer ≡ Err refused) × ((caller_of d).after.state ≡ Closed)
  -- keep makes a held caller stand, and else changes nothing
  pub keeps : (d : Deck) → d.state ≡ Holding → (keep_of d).state ≡ Standing
  pub keeps_none : (d : Deck) → (d.state ≢ Holding) → keep_of d ≡ d
  -- after close it is closed
  pub closes : (d : Deck) → (close_of d).state ≡ Closed
  -- only dial and keep make it stand
  pub stands : (m : Move) (d : Deck) → (moved m d).state ≡ Standing → Stands m d.state
  -- after any moves its answers are those to the asks so far, in order, and to the later ones
  pub answers : (ms : List Move) (d : Deck) (earlier : List Ask) (a : Ask) → (run ms d).coming earlier a ≡ d.coming (asks ms ++ earlier) a
