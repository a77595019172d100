-- What a line and the reply that settles it do. Assumes nothing.
use Rattle.std.proofs.Common.{◌≡◌, ℕ, suc, ◌<◌, ◌≤◌, Bool, true, false, cond, List, [], ◌∷◌, ◌++◌, length, take, Some, Ok, Err, Option, Result, sym, refl, ap, ◌∙◌, subst, append-nil, arith, length-append}
use Rattle.std.proofs.lemmas.List.{take_at, take-append-le, length-take-le}
use Rattle.text.specs.Area.{laid}
use Rattle.link.specs.Wire.{fits, sending, leaving}
use Rattle.encoding.specs.Code.{Code}
use Rattle.command.specs.Lines.{line_of}
use Rattle.command.specs.declared.fault.Fault.{Fault}
use Rattle.command.specs.declared.refusal.Refusal.{Refusal}
use Rattle.command.specs.declared.refusal.Refusal.TheVariants.{LinkFull, UnexpectedStatus}
use Rattle.reply.specs.Replies.{Unread, Cut, cut, reply, count}
use Rattle.reply.specs.Statuses.{expects, preliminary}
use Rattle.reply.specs.declared.reply.Reply.{Reply}
use Rattle.reply.specs.declared.reply.Rule.TheVariants.{Usual}
use Rattle.reply.specs.declared.status.Status.{Status}
use Rattle.reply.proofs.Locality.{Known, reply_took}
use Rattle.session.specs.Model.{Model, limit_of, with_wire, with_step}
use Rattle.session.specs.Outcome.{Outcome, ends, next}
use Rattle.session.specs.Calls.{last_told, fault, puts, performs, perform_of, hears, hear_of, expected_of, settles, exchange_of}
use Rattle.tally.specs.Observed.{sent}
use Rattle.tally.specs.Tally.{Given, Tally, gives, settle, one_more, on}
use Rattle.tally.specs.Law.{Said, unsent, read_by, Accepted, Newest}
use Rattle.tally.proofs.Tallies.{never, tallied}
use Rattle.tally.proofs.Logic.{Tied, Does, does_ends}
use Rattle.tally.proofs.Refusals.{Early, line_early, last_read, last_some, read_early, late}

-- since t₀, where the call began, the reply r was the last that was read, and it stands in the reply area
pub record Sofar (t₀ t : Tally) (r : Option (Result Reply Unread)) (area : List ℕ) : Type 0 where
  pub more : t₀.lines ≤ t.lines
  pub newest : Newest t₀ t (Accepted t₀ t) r area

-- a command whose line one expected reply settled, unless that only announces another
pub record Settled (s : Said) (expected : List Status) (t₀ : Tally) (c : Reply) (saids : List Said) (area : List ℕ) (t : Tally) : Type 0 where
  pub said : saids ≡ s ∷ []
  pub status : expects expected c.code ≡ true
  pub whole : preliminary c.code ≡ false → t.broken ≡ false
  pub some : last_read c ≡ Some (Ok c)
  pub sofar : Sofar t₀ t (Some (Ok c)) area

-- a command that was refused: by its number its line was sent or not
pub record Stopped (s : Said) (t₀ : Tally) (e : Fault) (saids : List Said) (area : List ℕ) (t : Tally) : Type 0 where
  pub said : saids ≡ cond (unsent e) [] (s ∷ [])
  pub verb : e.verb ≡ Some s.verb
  pub sofar : Sofar t₀ t (read_by e) area

-- a line and its reply, by the answer
abbrev pub Exchanged : Said → List Status → Tally → Result Reply Fault → List Said → List ℕ → Tally → Type 0
Exchanged s expected t₀ (Ok c) saids area t = Settled s expected t₀ c saids area t
Exchanged s expected t₀ (Err e) saids area t = Stopped s t₀ e saids area t

-- before a reply is read: the tally is whole and has nothing left over
abbrev pub whole_tally : Model → ℕ → List Given → Tally
whole_tally m lines given = tallied (limit_of m) m.wire.ending lines [] given false []

-- every tally is so that agrees with the session and did not break
pub whole_same : (c : Code) (m : Model) (t : Tally) → Tied c m t → t.broken ≡ false → whole_tally m t.lines t.given ≡ t
whole_same c m t h e =
    ap (λ z. tallied z m.wire.ending t.lines [] t.given false []) (sym h.limit)
    ∙ ap (λ z. tallied t.limit z t.lines [] t.given false []) (sym h.ending)
    ∙ ap (λ z. tallied t.limit t.ending t.lines z t.given false []) (sym (h.settled e))
    ∙ ap (λ z. tallied t.limit t.ending t.lines t.unsettled t.given z []) (sym e)
    ∙ ap (λ z. tallied t.limit t.ending t.lines t.unsettled t.given t.broken z) (sym h.left)

-- what is stored of a reply is the front of the bytes that it took, and so is the front of the area that it is laid in
pub front_is : (k : ℕ) (coming took rest area : List ℕ) → coming ≡ took ++ rest → k ≤ length took → take k (laid (take k coming) area) ≡ take k took
front_is k coming took rest area e h =
    let inside : k ≤ length coming = omega (arith, ap length e, length-append took rest) in
    take_at (take k coming) _ k (length-take-le k coming inside) ∙ ap (take k) e ∙ take-append-le k took rest h

-- what the answer to a reply's status says
judged : (s : Said) (expected : List Status) (t₀ : Tally) (c : Reply) (area : List ℕ) (t : Tally) → 0 < c.length → (preliminary c.code ≡ false → t.broken ≡ false) → Sofar t₀ t (Some (Ok c)) area → (b : Bool) → expects expected c.code ≡ b → Exchanged s expected t₀ (cond b (Ok c) (Err (fault UnexpectedStatus (Some s.verb) (Some c)))) (s ∷ []) area t
judged s expected t₀ c area t some whole sofar true e = record { said = refl; status = e; whole = whole; some = last_some c some; sofar = sofar }
judged s expected t₀ c area t some whole sofar false e = record { said = refl; verb = refl; sofar = subst (λ r. Sofar t₀ t r area) (sym (last_some c some)) sofar }

module _ (code : Code) (s : Said) (expected : List Status) (t₀ : Tally) (m : Model) (lines : ℕ) (given : List Given) (tied : Tied code m (whole_tally m lines given)) (area : List ℕ) where
  -- the line l was sent, and the bytes `took` of those coming give the reply
  module _ (l : List ℕ) (speaks : line_of code s.verb s.argument ≡ Ok l) (took rest : List ℕ) (whole : m.wire.coming ≡ took ++ rest) (more : t₀.lines ≤ lines) where
    -- the tally with a reply given to that line
    abbrev given_now : List ℕ → Bool → Result Reply Unread → Tally
    given_now u b r = tallied (limit_of m) m.wire.ending (suc lines) u (record { line = lines; got = r; bytes = take (count r) took } ∷ given) b []

    -- the tally at the line, by the reply that the bytes give
    at_mark : (p : Cut) → reply Usual (limit_of m) m.wire.ending took ≡ p → let t : Tally = tallied (limit_of m) m.wire.ending lines [] given false took in on t (sent l ∷ []) ≡ one_more (settle lines t p.got p.rest)
    at_mark p gave = let t : Tally = tallied (limit_of m) m.wire.ending lines [] given false took in ap (λ z. one_more (settle lines t z.got z.rest)) gave

    -- the reply is laid at the front of the area
    abbrev area_now : Result Reply Unread → List ℕ
    area_now r = laid (take (count r) m.wire.coming) area

    -- it is the newest reply, and stands in the area
    sofar_now : (u : List ℕ) (b : Bool) (r : Result Reply Unread) → count r ≤ length took → Sofar t₀ (given_now u b r) (Some r) (area_now r)
    sofar_now u b r stored = record {
      more = omega arith;
      newest = (lines, (refl, more), (given, ap (λ z. record { line = lines; got = r; bytes = z } ∷ given) (sym (front_is (count r) m.wire.coming took rest area whole stored))));
    }

    -- the session with the line sent and the reply read
    abbrev model_now : Model
    model_now = with_wire (leaving rest (sending l m.wire)) m

    -- a finished reply, by whether it only announces another
    finished : (c : Reply) → reply Usual (limit_of m) m.wire.ending took ≡ cut (Ok c) [] → c.length ≤ length took → 0 < c.length → (b : Bool) → preliminary c.code ≡ b → Does code m (whole_tally m lines given) (ends (expected_of expected (Some s.verb) c) (cond b (with_step false model_now) model_now) (area_now (Ok c))) (Exchanged s expected t₀)
    finished c gave stored some true e = record {
      now = given_now (lines ∷ []) true (Ok c);
      saids = s ∷ [];
      lines = l ∷ [];
      took = took;
      spoken = (speaks, tt);
      is = at_mark (cut (Ok c) []) gave ∙ ap (λ b. one_more (cond b (gives lines (lines ∷ []) true (Ok c) [] (tallied (limit_of m) m.wire.ending lines [] given false took)) (gives lines [] false (Ok c) [] (tallied (limit_of m) m.wire.ending lines [] given false took)))) e;
      tied = record { code = tied.code; limit = refl; ending = refl; step = refl; settled = λ h. absurd (never h); left = refl; ended = λ h. absurd (never (sym h)); shut = tied.shut; carrier = tied.carrier; count = tied.count };
      out = ap (λ z. m.wire.sent ++ z) (sym (append-nil l));
      coming = whole;
      quiet = λ h. absurd (never (sym h));
      post = judged s expected t₀ c _ _ some (λ h. absurd (never (sym e ∙ h))) (sofar_now (lines ∷ []) true (Ok c) stored) (expects expected c.code) refl;
    }
    finished c gave stored some false e = record {
      now = given_now [] false (Ok c);
      saids = s ∷ [];
      lines = l ∷ [];
      took = took;
      spoken = (speaks, tt);
      is = at_mark (cut (Ok c) []) gave ∙ ap (λ b. one_more (cond b (gives lines (lines ∷ []) true (Ok c) [] (tallied (limit_of m) m.wire.ending lines [] given false took)) (gives lines [] false (Ok c) [] (tallied (limit_of m) m.wire.ending lines [] given false took)))) e;
      tied = record { code = tied.code; limit = refl; ending = refl; step = tied.step; settled = λ _. refl; left = refl; ended = λ h. absurd (never (sym h)); shut = tied.shut; carrier = tied.carrier; count = tied.count };
      out = ap (λ z. m.wire.sent ++ z) (sym (append-nil l));
      coming = whole;
      quiet = λ h. absurd (never (sym h));
      post = judged s expected t₀ c _ _ some (λ _. refl) (sofar_now [] false (Ok c) stored) (expects expected c.code) refl;
    }

    -- a reply, finished or not
    heard : (r : Result Reply Unread) → reply Usual (limit_of m) m.wire.ending took ≡ cut r [] → count r ≤ length took → Known m.wire.ending r rest → Does code m (whole_tally m lines given) (next (hears (Some s.verb) (with_wire (sending l m.wire) m) area r rest) (settles expected s.verb)) (Exchanged s expected t₀)
    heard (Ok c) gave stored known = finished c gave stored known (preliminary c.code) refl
    heard (Err u) gave stored known =
        let why = late (Some s.verb) m.wire.ending u rest known in
        record {
          now = given_now (lines ∷ []) true (Err u);
          saids = s ∷ [];
          lines = l ∷ [];
          took = took;
          spoken = (speaks, tt);
          is = at_mark (cut (Err u) []) gave;
          tied = record { code = tied.code; limit = refl; ending = refl; step = refl; settled = λ h. absurd (never h); left = refl; ended = why.over; shut = tied.shut; carrier = tied.carrier; count = tied.count };
          out = ap (λ z. m.wire.sent ++ z) (sym (append-nil l));
          coming = whole;
          quiet = λ h. absurd (never (sym h));
          post = record { said = ap (λ b. cond b [] (s ∷ [])) (sym why.sent); verb = refl; sofar = subst (λ r. Sofar t₀ (given_now (lines ∷ []) true (Err u)) r (area_now (Err u))) (sym why.read) (sofar_now (lines ∷ []) true (Err u) stored) };
        }

  module _ (last : Option Reply) (sofar : Sofar t₀ (whole_tally m lines given) (last_read (last_told last)) area) where
    -- a line that is not sent
    refused : (n : Refusal) → Early n → Does code m (whole_tally m lines given) (ends (Err (fault n (Some s.verb) last)) m area) (Exchanged s expected t₀)
    refused n early = does_ends code (Exchanged s expected t₀) m _ (Err (fault n (Some s.verb) last)) area tied (record {
      said = ap (λ b. cond b [] (s ∷ [])) (sym early);
      verb = refl;
      sofar = subst (λ r. Sofar t₀ (whole_tally m lines given) r area) (sym (read_early n early (Some s.verb) last)) sofar;
    })

    -- what follows a line that was sent
    abbrev answered : Unit {0} → Model → List ℕ → Outcome (Result Reply Fault)
    answered _ m₁ a₁ = next (hear_of (Some s.verb) m₁ a₁) (settles expected s.verb)

    -- the reply to a line that was sent
    hear : (l : List ℕ) → line_of code s.verb s.argument ≡ Ok l → Does code m (whole_tally m lines given) (answered tt (with_wire (sending l m.wire) m) area) (Exchanged s expected t₀)
    unfolding hear_of
    hear l speaks =
        let p = reply_took (limit_of m) m.wire.ending Usual m.wire.coming in
        heard l speaks p.took (reply Usual (limit_of m) m.wire.ending m.wire.coming).rest p.whole sofar.more (reply Usual (limit_of m) m.wire.ending m.wire.coming).got p.same p.stored p.known

    -- the line, by whether the link takes it
    put : (l : List ℕ) → line_of code s.verb s.argument ≡ Ok l → (b : Bool) → fits l m.wire ≡ b → Does code m (whole_tally m lines given) (next (puts b l s.verb last m area) answered) (Exchanged s expected t₀)
    put l speaks false e = refused LinkFull refl
    put l speaks true e = subst (λ w. Does code m (whole_tally m lines given) (answered tt (with_wire w m) area) (Exchanged s expected t₀)) (ap (λ b. cond b (sending l m.wire) m.wire) (sym e)) (hear l speaks)

    -- the line, by whether it passed its questions
    perform : (r : Result (List ℕ) Refusal) → line_of code s.verb s.argument ≡ r → Does code m (whole_tally m lines given) (next (performs r s.verb last m area) answered) (Exchanged s expected t₀)
    perform (Ok l) e = put l e (fits l m.wire) refl
    perform (Err n) e = refused n (line_early code s.verb s.argument n e)

    -- the whole exchange, from a tally that is whole
    exchange : Does code m (whole_tally m lines given) (exchange_of s.verb s.argument expected last m area) (Exchanged s expected t₀)
    unfolding exchange_of perform_of
    exchange = perform (line_of m.code s.verb s.argument) (ap (λ z. line_of z s.verb s.argument) (sym tied.code))

-- a line and the reply that settles it, in a call that began at t₀ and last read the reply `last`
pub does_exchange : (code : Code) (s : Said) (expected : List Status) (last : Option Reply) (t₀ : Tally) (m : Model) (t : Tally) (area : List ℕ) → t.broken ≡ false → Tied code m t → Sofar t₀ t (last_read (last_told last)) area → Does code m t (exchange_of s.verb s.argument expected last m area) (Exchanged s expected t₀)
does_exchange code s expected last t₀ m t area e tied =
    subst (λ u. Tied code m u → Sofar t₀ u (last_read (last_told last)) area → Does code m u (exchange_of s.verb s.argument expected last m area) (Exchanged s expected t₀)) (whole_same code m t tied e)
    (λ h k. exchange code s expected t₀ m t.lines t.given h area last k) tied
