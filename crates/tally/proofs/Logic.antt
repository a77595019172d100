-- A small logic of outcomes: what a piece of a call keeps between the session's model and the tally, and how pieces join.
-- Assumes nothing.
use Rattle.std.proofs.Common.{◌≡◌, ℕ, true, false, not, List, [], ◌∷◌, ◌++◌, Ok, Err, Result, sym, refl, ap, ◌∙◌, append_assoc, append-nil}
use Rattle.std.specs.List.{concat}
use Rattle.std.proofs.lemmas.List.{map-append}
use Rattle.std.proofs.lemmas.List.Folds.{concat-append}
use Rattle.encoding.specs.Code.{Code}
use Rattle.command.specs.Lines.{line_of}
use Rattle.command.specs.declared.fault.Fault.{Fault}
use Rattle.carrier.specs.declared.carrier.CarrierState.TheVariants.{Closed}
use Rattle.session.specs.Model.{Model, limit_of}
use Rattle.session.specs.Outcome.{Outcome, ends, chain, next}
use Rattle.tally.specs.Observed.{marked, sent}
use Rattle.tally.specs.Tally.{Tally, on, cut_short}
use Rattle.tally.specs.Law.{Said}
use Rattle.tally.proofs.Tallies.{tallied, with_more, stays_broken, on_append, on_more, none_more}

-- each line is that of its command
abbrev pub Spoken : Code → List Said → List (List ℕ) → Type 0
Spoken c [] [] = Unit {0}
Spoken c [] (l ∷ ls) = ⊥
Spoken c (s ∷ ss) [] = ⊥
Spoken c (s ∷ ss) (l ∷ ls) = (line_of c s.verb s.argument ≡ Ok l) × Spoken c ss ls

-- commands before other commands
spoken_append : (c : Code) (ss ts : List Said) (ls ms : List (List ℕ)) → Spoken c ss ls → Spoken c ts ms → Spoken c (ss ++ ts) (ls ++ ms)
spoken_append c [] ts [] ms h g = g
spoken_append c [] ts (l ∷ ls) ms h g = absurd h
spoken_append c (s ∷ ss) ts [] ms h g = absurd h
spoken_append c (s ∷ ss) ts (l ∷ ls) ms h g = (h.0, spoken_append c ss ts ls ms h.1 g)

-- between the pieces of a call: the session, which speaks by the encoding c, and the tally agree; no byte is left over, no
-- transfer is open, and the carrier was never touched
pub record Tied (c : Code) (m : Model) (t : Tally) : Type 0 where
  pub code : m.code ≡ c
  pub limit : t.limit ≡ limit_of m
  pub ending : t.ending ≡ m.wire.ending
  pub step : m.kept.in_step ≡ not t.broken
  pub settled : t.broken ≡ false → t.unsettled ≡ []
  pub left : t.left ≡ []
  pub ended : cut_short t.given ≡ true → m.wire.coming ≡ []
  pub shut : m.kept.transfer_open ≡ false
  pub carrier : m.deck.state ≡ Closed
  pub count : m.kept.completed ≡ 0

-- from m and t the outcome o sends `lines`, which are those of the commands `saids`, and takes the bytes `took`; it comes to
-- the tally `now`, and Q holds there of its answer, the commands, and what the reply area holds
pub record Does {X : Type 0} (c : Code) (m : Model) (t : Tally) (o : Outcome X) (Q : X → List Said → List ℕ → Tally → Type 0) : Type 0 where
  pub now : Tally
  pub saids : List Said
  pub lines : List (List ℕ)
  pub took : List ℕ
  pub spoken : Spoken c saids lines
  pub is : on (with_more took t) (marked lines) ≡ now
  pub tied : Tied c o.after now
  pub out : o.after.wire.sent ≡ m.wire.sent ++ concat lines
  pub coming : m.wire.coming ≡ took ++ o.after.wire.coming
  -- once broken, nothing is taken
  pub quiet : t.broken ≡ true → took ≡ []
  pub post : Q o.answer saids o.reply now

-- a piece that sends and takes nothing
pub does_ends : {X : Type 0} (c : Code) (Q : X → List Said → List ℕ → Tally → Type 0) (m : Model) (t : Tally) (x : X) (area : List ℕ) → Tied c m t → Q x [] area t → Does c m t (ends x m area) Q
does_ends c Q m t x area h q = record {
  now = t;
  saids = [];
  lines = [];
  took = [];
  spoken = tt;
  is = none_more t;
  tied = h;
  out = sym (append-nil m.wire.sent);
  coming = refl;
  quiet = λ _. refl;
  post = q;
}

-- a piece does what follows from what it does
pub does_weaken : {X : Type 0} (c : Code) (Q R : X → List Said → List ℕ → Tally → Type 0) (m : Model) (t : Tally) (o : Outcome X) → ((x : X) (ss : List Said) (area : List ℕ) (u : Tally) → Q x ss area u → R x ss area u) → Does c m t o Q → Does c m t o R
does_weaken c Q R m t o imp d = record {
  now = d.now;
  saids = d.saids;
  lines = d.lines;
  took = d.took;
  spoken = d.spoken;
  is = d.is;
  tied = d.tied;
  out = d.out;
  coming = d.coming;
  quiet = d.quiet;
  post = imp o.answer d.saids o.reply d.now d.post;
}

-- nothing before nothing
none_two : (x y : List ℕ) → x ≡ [] → y ≡ [] → x ++ y ≡ []
none_two x y h g = ap (λ z. z ++ y) h ∙ g

module _ {X Y : Type 0} (c : Code) (Q : Result X Fault → List Said → List ℕ → Tally → Type 0) (R : Result Y Fault → List Said → List ℕ → Tally → Type 0) (k : X → Model → List ℕ → Outcome (Result Y Fault)) (m : Model) (t : Tally) where
  -- the next piece, by what the first one answered
  joins : (n : Model) (area : List ℕ) (a : Result X Fault) → Does c m t (ends a n area) Q → ((x : X) (ss : List Said) (u : Tally) → Tied c n u → Q (Ok x) ss area u → Does c n u (k x n area) (λ y ts. R y (ss ++ ts))) → ((e : Fault) (ss : List Said) (u : Tally) → Q (Err e) ss area u → R (Err e) ss area u) → Does c m t (chain n area k a) R
  joins n area (Err e) d good bad = record {
    now = d.now;
    saids = d.saids;
    lines = d.lines;
    took = d.took;
    spoken = d.spoken;
    is = d.is;
    tied = d.tied;
    out = d.out;
    coming = d.coming;
    quiet = d.quiet;
    post = bad e d.saids d.now d.post;
  }
  joins n area (Ok x) d good bad =
      let then = good x d.saids d.now d.tied d.post in
      let more : List (List ℕ) = then.lines in
      let last : Model = (k x n area).after in
      let quiet : (on (with_more d.took t) (marked d.lines)).broken ≡ true → then.took ≡ [] = λ h. then.quiet (sym (ap (λ u. u.broken) d.is) ∙ h) in
      record {
        now = then.now;
        saids = d.saids ++ then.saids;
        lines = d.lines ++ more;
        took = d.took ++ then.took;
        spoken = spoken_append c d.saids then.saids d.lines more d.spoken then.spoken;
        is =
            ap (λ z. on (with_more (d.took ++ then.took) t) z) (map-append sent d.lines more)
            ∙ on_append (with_more (d.took ++ then.took) t) (marked d.lines) (marked more)
            ∙ ap (λ z. on (on (tallied t.limit t.ending t.lines t.unsettled t.given t.broken z) (marked d.lines)) (marked more)) (sym (append_assoc t.left d.took then.took))
            ∙ ap (λ u. on u (marked more)) (on_more _ then.took (marked d.lines) (with_more d.took t) refl quiet)
            ∙ ap (λ u. on (with_more then.took u) (marked more)) d.is
            ∙ then.is;
        tied = then.tied;
        out = then.out ∙ ap (λ z. z ++ concat more) d.out ∙ append_assoc m.wire.sent (concat d.lines) (concat more) ∙ ap (λ z. m.wire.sent ++ z) (sym (concat-append d.lines more));
        coming = d.coming ∙ ap (λ z. d.took ++ z) then.coming ∙ sym (append_assoc d.took then.took last.wire.coming);
        quiet = λ h. none_two d.took then.took (d.quiet h) (quiet (stays_broken (with_more d.took t) (marked d.lines) h));
        post = then.post;
      }

  -- one piece and then, where it passed, the next
  pub does_next : (o : Outcome (Result X Fault)) → Does c m t o Q → ((x : X) (ss : List Said) (u : Tally) → Tied c o.after u → Q (Ok x) ss o.reply u → Does c o.after u (k x o.after o.reply) (λ y ts. R y (ss ++ ts))) → ((e : Fault) (ss : List Said) (u : Tally) → Q (Err e) ss o.reply u → R (Err e) ss o.reply u) → Does c m t (next o k) R
  does_next o d good bad = joins o.after o.reply o.answer d good bad
