-- What the greeting does: it is no line's, and its reply stands at 0. Assumes nothing.
use Rattle.std.proofs.Common.{◌≡◌, ℕ, ◌<◌, ◌≤◌, Bool, true, false, cond, List, [], ◌∷◌, ◌++◌, length, take, Some, None, Ok, Err, Result, sym, refl, ap, ◌∙◌, subst, append-nil}
use Rattle.text.specs.Area.{laid}
use Rattle.link.specs.Wire.{leaving}
use Rattle.encoding.specs.Code.{Code}
use Rattle.reply.specs.Replies.{Unread, Cut, cut, reply, count}
use Rattle.reply.specs.Statuses.{expects}
use Rattle.reply.specs.declared.reply.Reply.{Reply}
use Rattle.reply.specs.declared.reply.Rule.TheVariants.{Usual}
use Rattle.reply.specs.declared.status.Status.TheVariants.{Ready}
use Rattle.reply.proofs.Locality.{Known, reply_took}
use Rattle.session.specs.Model.{Model, Desk, limit_of, with_wire}
use Rattle.session.specs.Outcome.{next, wiped}
use Rattle.session.specs.Calls.{hears, hear_of, welcomes, greeting_of}
use Rattle.tally.specs.declared.calls.Ask.TheVariants.{Greet}
use Rattle.tally.specs.Observed.{greeting}
use Rattle.tally.specs.Tally.{Given, Tally, welcome, on}
use Rattle.tally.specs.Law.{Newest}
use Rattle.tally.specs.Runs.{in_words, ask_of}
use Rattle.tally.proofs.Tallies.{never, tallied}
use Rattle.tally.proofs.Logic.{Tied}
use Rattle.tally.proofs.Refusals.{last_some, late}
use Rattle.tally.proofs.Pieces.{whole_tally, whole_same, front_is}
use Rattle.tally.proofs.Ended.{Moved, moved-past}

module _ (code : Code) (m : Model) (lines : ℕ) (given : List Given) (tied : Tied code m (whole_tally m lines given)) (d : Desk) where
  -- the bytes `took` of those coming give the greeting
  module _ (took rest : List ℕ) (whole : m.wire.coming ≡ took ++ rest) where
    -- the tally with a reply given as the greeting
    abbrev given_now : Bool → Result Reply Unread → Tally
    given_now b r = tallied (limit_of m) m.wire.ending lines [] (record { line = 0; got = r; bytes = take (count r) took } ∷ given) b []

    -- the tally at the greeting, by the reply that the bytes give
    at_mark : (p : Cut) → reply Usual (limit_of m) m.wire.ending took ≡ p → let t : Tally = tallied (limit_of m) m.wire.ending lines [] given false took in on t (greeting ∷ []) ≡ welcome t p.got p.rest
    at_mark p gave = let t : Tally = tallied (limit_of m) m.wire.ending lines [] given false took in ap (λ z. welcome t z.got z.rest) gave

    -- the reply is laid at the front of the area
    newest_now : (b : Bool) (r : Result Reply Unread) → count r ≤ length took → Newest (whole_tally m lines given) (given_now b r) (λ n. n ≡ 0) (Some r) (laid (take (count r) m.wire.coming) d.reply)
    newest_now b r stored = (0, refl, (given, ap (λ z. record { line = 0; got = r; bytes = z } ∷ given) (sym (front_is (count r) m.wire.coming took rest d.reply whole stored))))

    -- a finished greeting, by whether it is 220
    welcomed : (c : Reply) → reply Usual (limit_of m) m.wire.ending took ≡ cut (Ok c) [] → c.length ≤ length took → 0 < c.length → (b : Bool) → Moved code Greet m (whole_tally m lines given) (in_words (wiped d (welcomes b c (with_wire (leaving rest m.wire) m) (laid (take c.length m.wire.coming) d.reply))))
    welcomed c gave stored some true = record {
      now = given_now false (Ok c);
      saids = [];
      lines = [];
      took = took;
      spoken = tt;
      is = at_mark (cut (Ok c) []) gave;
      tied = record { code = tied.code; limit = refl; ending = refl; step = tied.step; settled = λ _. refl; left = refl; ended = λ h. absurd (never (sym h)); shut = tied.shut; carrier = tied.carrier; count = tied.count };
      out = sym (append-nil m.wire.sent);
      coming = whole;
      quiet = λ h. absurd (never (sym h));
      post = record { accepts = refl; newest = newest_now false (Ok c) stored };
    }
    welcomed c gave stored some false = record {
      now = given_now false (Ok c);
      saids = [];
      lines = [];
      took = took;
      spoken = tt;
      is = at_mark (cut (Ok c) []) gave;
      tied = record { code = tied.code; limit = refl; ending = refl; step = tied.step; settled = λ _. refl; left = refl; ended = λ h. absurd (never (sym h)); shut = tied.shut; carrier = tied.carrier; count = tied.count };
      out = sym (append-nil m.wire.sent);
      coming = whole;
      quiet = λ h. absurd (never (sym h));
      post = record { accepts = refl; newest = subst (λ r. Newest (whole_tally m lines given) (given_now false (Ok c)) (λ n. n ≡ 0) r (laid (take c.length m.wire.coming) d.reply)) (sym (last_some c some)) (newest_now false (Ok c) stored) };
    }

    -- a greeting, finished or not
    heard : (r : Result Reply Unread) → reply Usual (limit_of m) m.wire.ending took ≡ cut r [] → count r ≤ length took → Known m.wire.ending r rest → Moved code Greet m (whole_tally m lines given) (in_words (wiped d (next (hears None m d.reply r rest) (λ c. welcomes (expects (Ready ∷ []) c.code) c))))
    heard (Ok c) gave stored known = welcomed c gave stored known (expects (Ready ∷ []) c.code)
    heard (Err u) gave stored known =
        let why = late None m.wire.ending u rest known in
        record {
          now = given_now true (Err u);
          saids = [];
          lines = [];
          took = took;
          spoken = tt;
          is = ap (λ b. on (tallied (limit_of m) m.wire.ending lines [] given false took) (cond b [] (greeting ∷ []))) why.asked ∙ at_mark (cut (Err u) []) gave;
          tied = record { code = tied.code; limit = refl; ending = refl; step = refl; settled = λ h. absurd (never h); left = refl; ended = why.over; shut = tied.shut; carrier = tied.carrier; count = tied.count };
          out = sym (append-nil m.wire.sent);
          coming = whole;
          quiet = λ h. absurd (never (sym h));
          post = record { accepts = refl; newest = subst (λ r. Newest (whole_tally m lines given) (given_now true (Err u)) (λ n. n ≡ 0) r (laid (take u.length m.wire.coming) d.reply)) (sym why.read) (newest_now true (Err u) stored) };
        }

  -- the whole greeting, from a tally that is whole
  greeted : Moved code Greet m (whole_tally m lines given) (in_words (wiped d (greeting_of m d.reply)))
  unfolding hear_of
  greeted =
      let p = reply_took (limit_of m) m.wire.ending Usual m.wire.coming in
      heard p.took (reply Usual (limit_of m) m.wire.ending m.wire.coming).rest p.whole (reply Usual (limit_of m) m.wire.ending m.wire.coming).got p.same p.stored p.known

-- the call that reads the greeting
pub greet_moves : (code : Code) (m : Model) (t : Tally) (d : Desk) → Tied code m t → Moved code Greet m t (ask_of Greet m d)
greet_moves code m t d tied =
    moved-past code Greet false m t d (greeting_of m d.reply) tied
    (λ e. subst (λ u. Tied code m u → Moved code Greet m u (in_words (wiped d (greeting_of m d.reply)))) (whole_same code m t tied e) (λ h. greeted code m t.lines t.given h d) tied)
