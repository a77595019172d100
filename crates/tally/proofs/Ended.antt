-- What the law wants of one call, and a call that its first questions refuse. Assumes nothing.
use Rattle.std.proofs.Common.{◌≡◌, ℕ, Bool, true, false, cond, not, leb, List, [], ◌∷◌, ◌++◌, None, Ok, Err, Result, sym, refl, ap, ◌∙◌, subst, append-nil, arith}
use Rattle.std.specs.List.{concat}
use Rattle.std.proofs.lemmas.Bool.{leb-true, le-leb}
use Rattle.encoding.specs.Code.{Code}
use Rattle.command.specs.Refusals.{number_of}
use Rattle.command.specs.Types.{type_text}
use Rattle.command.specs.declared.fault.Fault.{Fault}
use Rattle.command.specs.declared.refusal.Refusal.{Refusal}
use Rattle.command.specs.declared.refusal.Refusal.TheVariants.{AreaTooShort, OutOfStep, GreetingDue, TransferOpen}
use Rattle.command.specs.declared.verb.Verb.TheVariants.{«Type» as SetType}
use Rattle.reply.specs.declared.reply.Reply.{Reply}
use Rattle.session.specs.Model.{Model, Desk}
use Rattle.session.specs.Outcome.{Outcome, Called, wiped, past}
use Rattle.session.specs.Calls.{refusal, long_enough, greeted_as, questions_of}
use Rattle.tally.specs.declared.calls.Ask.TheVariants.{Greet, Login, Plain, Rename, TransferType, Resume}
use Rattle.tally.specs.Observed.{greeting, marked, by_ask}
use Rattle.tally.specs.Tally.{Tally, on}
use Rattle.tally.specs.Law.{Said, say, said_by, Accepts, handed, Own, Newest}
use Rattle.tally.specs.Runs.{told, in_words}
use Rattle.tally.proofs.Tallies.{never, with_more, none_more}
use Rattle.tally.proofs.Logic.{Spoken, Tied, Does}
use Rattle.tally.proofs.Refusals.{Early, read_early}
use Rattle.tally.specs.Asked.{Asked, Answer}

-- at its end, from the tally t₀ where it began: the commands that it had accepted, and the reply that it hands out
pub record Ended (ask : Asked) (t₀ : Tally) (a : Answer) (saids : List Said) (area : List ℕ) (t : Tally) : Type 0 where
  pub accepts : Accepts ask a saids
  pub newest : Newest t₀ t (Own ask t₀ t) (handed a) area

-- the whole call: the marks that can be observed of it are its lines and what its answer says
pub record Moved (c : Code) (ask : Asked) (m : Model) (t : Tally) (o : Called Answer) : Type 0 where
  pub now : Tally
  pub saids : List Said
  pub lines : List (List ℕ)
  pub took : List ℕ
  pub spoken : Spoken c saids lines
  pub is : on (with_more took t) (marked lines ++ by_ask ask o.answer) ≡ now
  pub tied : Tied c o.after now
  pub out : o.after.wire.sent ≡ m.wire.sent ++ concat lines
  pub coming : m.wire.coming ≡ took ++ o.after.wire.coming
  pub quiet : t.broken ≡ true → took ≡ []
  pub post : Ended ask t o.answer saids o.desk.reply now

-- a call of which only its lines are observed
pub moved_by : (c : Code) (ask : Asked) (m : Model) (t : Tally) (d : Desk) (o : Outcome (Result Reply Fault)) → by_ask ask (told o.answer) ≡ [] → Does c m t o (λ r. Ended ask t (told r)) → Moved c ask m t (in_words (wiped d o))
moved_by c ask m t d o e does = record {
  now = does.now;
  saids = does.saids;
  lines = does.lines;
  took = does.took;
  spoken = does.spoken;
  is = ap (λ z. on (with_more does.took t) (marked does.lines ++ z)) e ∙ ap (on (with_more does.took t)) (append-nil (marked does.lines)) ∙ does.is;
  tied = does.tied;
  out = does.out;
  coming = does.coming;
  quiet = does.quiet;
  post = does.post;
}

-- a call that sends and takes nothing, and of which nothing is observed
pub moved_none : (c : Code) (ask : Asked) (m : Model) (t : Tally) (a : Answer) (n : Model) (d : Desk) → by_ask ask a ≡ [] → n.wire ≡ m.wire → Tied c n t → Ended ask t a [] d.reply t → Moved c ask m t (record { answer = a; after = n; desk = d })
moved_none c ask m t a n d e same tied post = record {
  now = t;
  saids = [];
  lines = [];
  took = [];
  spoken = tt;
  is = ap (on (with_more [] t)) e ∙ none_more t;
  tied = tied;
  out = ap (λ w. w.sent) same ∙ sym (append-nil m.wire.sent);
  coming = ap (λ w. w.coming) (sym same);
  quiet = λ _. refl;
  post = post;
}

-- a refusal by the first questions
abbrev First : Refusal → Type 0
First n = leb (number_of n) 5 ≡ true

-- such a line was not sent
first_early : (n : Refusal) → First n → Early n
first_early n h = let small = leb-true (number_of n) 5 h in le-leb (number_of n) 12 (omega arith)

-- it says no mark
unmarked : (ask : Asked) (n : Refusal) → First n → by_ask ask (Err (refusal n)) ≡ []
unmarked Greet n h = ap (λ b. cond b [] (greeting ∷ [])) h
unmarked (Login user password) n h = refl
unmarked (Plain p) n h = refl
unmarked (Rename from to) n h = refl
unmarked (TransferType k) n h = refl
unmarked (Resume k) n h = refl

-- and no command was accepted
none_accepted : (ask : Asked) (n : Refusal) → Early n → Accepts ask (Err (refusal n)) []
none_accepted Greet n h = refl
none_accepted (Login user password) n h = refl
none_accepted (Plain p) n h = ap (λ b. cond b [] (said_by p ∷ [])) (sym h)
none_accepted (Rename from to) n h = refl
none_accepted (TransferType k) n h = ap (λ b. cond b [] (say SetType (type_text k) ∷ [])) (sym h)
none_accepted (Resume k) n h = refl

-- so the call comes to nothing
refused_first : (c : Code) (ask : Asked) (m : Model) (t : Tally) (d : Desk) → Tied c m t → (n : Refusal) → First n → Moved c ask m t (record { answer = Err (refusal n); after = m; desk = d })
refused_first c ask m t d tied n h = moved_none c ask m t (Err (refusal n)) m d (unmarked ask n h) refl tied (record {
  accepts = none_accepted ask n (first_early n h);
  newest = subst (λ r. Newest t t (Own ask t t) r d.reply) (sym (read_early n (first_early n h) None None)) refl;
})

-- a session that is in step has a tally that is whole
in_step : (b : Bool) → true ≡ not b → b ≡ false
in_step true e = absurd (never e)
in_step false e = refl

-- a call is refused by its first questions, or the tally is whole where it goes on
pub moved-past : (c : Code) (ask : Asked) (greeted : Bool) (m : Model) (t : Tally) (d : Desk) (o : Outcome (Result Reply Fault)) → Tied c m t → (t.broken ≡ false → Moved c ask m t (in_words (wiped d o))) → Moved c ask m t (in_words (past (questions_of greeted m d) m d o))
moved-past c ask greeted m t d o tied go = by (long_enough m d) m.kept.in_step refl (greeted_as greeted m.kept.greeted) m.kept.transfer_open
  where
    by : (long step : Bool) → m.kept.in_step ≡ step → (due shut : Bool) → Moved c ask m t (in_words (past (cond long (cond step (cond due (cond shut (Err (refusal TransferOpen)) (Ok tt)) (Err (refusal GreetingDue))) (Err (refusal OutOfStep))) (Err (refusal AreaTooShort))) m d o))
    by false step e due shut = refused_first c ask m t d tied AreaTooShort refl
    by true false e due shut = refused_first c ask m t d tied OutOfStep refl
    by true true e false shut = refused_first c ask m t d tied GreetingDue refl
    by true true e true true = refused_first c ask m t d tied TransferOpen refl
    by true true e true false = go (in_step t.broken (sym e ∙ tied.step))
