-- The law of the states, by cases. Assumes nothing.
use Rattle.std.proofs.Common.{◌≡◌, ◌⊎◌, List, [], ◌∷◌, ◌++◌, Some, None, Ok, Err, Option, Result, refl, ap, inl, inr}
use Rattle.carrier.specs.declared.address.SocketAddr.{SocketAddr}
use Rattle.carrier.specs.declared.carrier.CarrierState.{CarrierState}
use Rattle.carrier.specs.declared.carrier.CarrierState.TheVariants.{Closed, Listening, Holding, Standing}
use Rattle.carrier.specs.declared.carrier.CarrierRefusal.{CarrierRefusal}
use Rattle.carrier.specs.Deck.{Ask, for_caller, Told, Deck, refused, or_closed, called, after_caller, kept, listen_of, caller_of, in_state, tells}
use Rattle.carrier.specs.Laws.{Move, listen, dial, caller, keep, close, moved, run, asks, Stands, by_dial, by_keep, as_before, States}

wrong : (s : CarrierState) (t : Told) → (s ≡ Closed) ⊎ (s ≡ Standing) → called s t ≡ Err refused
wrong s t (inl e) = ap (λ s. called s t) e
wrong s t (inr e) = ap (λ s. called s t) e

same : (s : CarrierState) → (s ≡ Holding → ⊥) → kept s ≡ s
same Closed h = refl
same Listening h = refl
same Holding h = absurd (h refl)
same Standing h = refl

after_listen_stands : (r : Result SocketAddr CarrierRefusal) → or_closed Listening r ≡ Standing → ⊥
after_listen_stands (Ok a) e = cc
after_listen_stands (Err x) e = cc

after_caller_stands : (r : Result (Option SocketAddr) CarrierRefusal) → after_caller r ≡ Standing → ⊥
after_caller_stands (Ok (Some a)) e = cc
after_caller_stands (Ok None) e = cc
after_caller_stands (Err x) e = cc

keep_stands : (s : CarrierState) → kept s ≡ Standing → Stands keep s
keep_stands Closed e = cc
keep_stands Listening e = cc
keep_stands Holding e = by_keep
keep_stands Standing e = as_before

standing : (m : Move) (d : Deck) → (moved m d).state ≡ Standing → Stands m d.state
standing listen d e = absurd (after_listen_stands (listen_of d).answer e)
standing (dial to) d e = by_dial to d.state
standing caller d e = absurd (after_caller_stands (caller_of d).answer e)
standing keep d e = keep_stands d.state e
standing close d e = cc

answering : (ms : List Move) (d : Deck) (earlier : List Ask) (a : Ask) → (run ms d).coming earlier a ≡ d.coming (asks ms ++ earlier) a
answering [] d earlier a = refl
answering (listen ∷ ms) d earlier a = answering ms (moved listen d) earlier a
answering (dial to ∷ ms) d earlier a = answering ms (moved (dial to) d) earlier a
answering (caller ∷ ms) d earlier a = answering ms (moved caller d) earlier a
answering (keep ∷ ms) d earlier a = answering ms (moved keep d) earlier a
answering (close ∷ ms) d earlier a = answering ms (moved close d) earlier a

pub laws : States
laws = record {
  listens = λ d a e. ap (or_closed Listening) e;
  not_listening = λ d e. ap (or_closed Listening) e;
  dials = λ d to e. ap (or_closed Standing) e;
  not_dialled = λ d to e. ap (or_closed Standing) e;
  holds = λ d a e. ap after_caller e;
  waits = λ d e. ap after_caller e;
  no_caller = λ d e. ap after_caller e;
  wrong_state = λ d h. let e = wrong d.state (tells d for_caller) h in (e, ap after_caller e);
  keeps = λ d e. ap kept e;
  keeps_none = λ d h. ap (λ s. in_state s d) (same d.state h);
  closes = λ d. refl;
  stands = standing;
  answers = answering;
}
