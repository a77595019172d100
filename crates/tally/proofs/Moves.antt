-- What each call does, from its pieces. Assumes nothing.
use Rattle.std.proofs.Common.{◌≡◌, ℕ, Bool, true, false, ◌||◌, cond, eqb, List, [], ◌∷◌, ◌++◌, Some, None, Ok, Err, Result, sym, refl, ap, ◌∙◌, subst, inl, inr, arith}
use Rattle.std.specs.Borrow.{Bor}
use Rattle.std.proofs.lemmas.Bool.{eqb-true}
use Rattle.encoding.specs.Code.{Code}
use Rattle.command.specs.Types.{type_text}
use Rattle.command.specs.declared.fault.Fault.{Fault}
use Rattle.command.specs.declared.verb.Verb.TheVariants.{User, Pass, Rnfr, Rnto, «Type» as SetType}
use Rattle.reply.specs.Statuses.{status_code, expects, preliminary}
use Rattle.reply.specs.declared.reply.Reply.{Reply}
use Rattle.reply.specs.declared.status.Status.{Status}
use Rattle.reply.specs.declared.status.Status.TheVariants.{CommandOk, LoggedIn, RequestedFileActionOk, NeedPassword, RequestFilePending}
use Rattle.session.specs.Model.{Model, Desk}
use Rattle.session.specs.Outcome.{Outcome, ends, past}
use Rattle.session.specs.Calls.{last_told, questions_of, exchange_of, password_of, logging_in, renaming, verb_of, argument_of, statuses_of, resume_of}
use Rattle.session.specs.declared.plain.Plain.{Plain as PlainCommand}
use Rattle.session.specs.declared.plain.Plain.TheVariants.{Cwd as DoCwd, Cdup as DoCdup, Dele as DoDele, Rmd as DoRmd, Mkd as DoMkd, Noop as DoNoop, Quit as DoQuit}
use Rattle.tally.specs.declared.calls.Ask.TheVariants.{Greet, Login, Plain, Rename, TransferType, Resume}
use Rattle.tally.specs.Observed.{by_ask}
use Rattle.tally.specs.Tally.{Tally}
use Rattle.tally.specs.Law.{Said, say, said_by, unsent, one_of, speaks_of, two_of, handed, LoginAccepts, RenameAccepts}
use Rattle.tally.specs.Runs.{told, in_words, ask_of}
use Rattle.tally.proofs.Tallies.{never}
use Rattle.tally.proofs.Logic.{Tied, Does, does_ends, does_weaken, does_next}
use Rattle.tally.proofs.Refusals.{last_read}
use Rattle.tally.proofs.Pieces.{Sofar, Settled, Exchanged, does_exchange}
use Rattle.tally.proofs.Ended.{Ended, Moved, moved_by, moved_none, moved-past}
use Rattle.tally.proofs.Greeting.{greet_moves}
use Rattle.tally.specs.Asked.{Asked, Answer}

-- where a call begins, no reply was read in it
begins : (t : Tally) (area : List ℕ) → Sofar t t (last_read (last_told None)) area
begins t area = record { more = omega arith; newest = refl }

-- the last reply read, as the next line finds it
last_sofar : (t₀ t : Tally) (c : Reply) (area : List ℕ) → last_read c ≡ Some (Ok c) → Sofar t₀ t (Some (Ok c)) area → Sofar t₀ t (last_read c) area
last_sofar t₀ t c area e h = subst (λ r. Sofar t₀ t r area) (sym e) h

-- what a call by lines comes to, from where it began: A says by its answer which commands were accepted
abbrev Through : (Answer → List Said → Type 0) → Tally → Result Reply Fault → List Said → List ℕ → Tally → Type 0
Through A t₀ r saids area t = A (told r) saids × Sofar t₀ t (handed (told r)) area

-- a call by lines, behind its first questions
by_lines : (code : Code) (ask : Asked) (m : Model) (t : Tally) (d : Desk) (o : Outcome (Result Reply Fault)) (A : Answer → List Said → Type 0) → by_ask ask (told o.answer) ≡ [] → ((r : Result Reply Fault) (saids : List Said) (area : List ℕ) (u : Tally) → Through A t r saids area u → Ended ask t (told r) saids area u) → Tied code m t → (t.broken ≡ false → Does code m t o (Through A t)) → Moved code ask m t (in_words (past (questions_of true m d) m d o))
by_lines code ask m t d o A unmarked ends tied does = moved-past code ask true m t d o tied (λ e. moved_by code ask m t d o unmarked (does_weaken code (Through A t) (λ r. Ended ask t (told r)) m t o ends (does e)))

-- a call of one line
abbrev One : Said → Answer → List Said → Type 0
One s a saids = saids ≡ one_of s a

-- its line and reply
does_one : (code : Code) (s : Said) (expected : List Status) (m : Model) (t : Tally) (area : List ℕ) → Tied code m t → t.broken ≡ false → Does code m t (exchange_of s.verb s.argument expected None m area) (Through (One s) t)
does_one code s expected m t area tied e = does_weaken code (Exchanged s expected t) (Through (One s) t) m t _ one_line (does_exchange code s expected None t m t area e tied (begins t area))
  where
    one_line : (r : Result Reply Fault) (saids : List Said) (a : List ℕ) (u : Tally) → Exchanged s expected t r saids a u → Through (One s) t r saids a u
    one_line (Ok c) saids a u h = (h.said, h.sofar)
    one_line (Err f) saids a u h = (h.said, h.sofar)

-- its command
said_is : (p : PlainCommand (Bor (List ℕ))) → record { verb = verb_of p; argument = argument_of p } ≡ said_by p
said_is (DoCwd path) = refl
said_is DoCdup = refl
said_is (DoDele path) = refl
said_is (DoRmd path) = refl
said_is (DoMkd path) = refl
said_is DoNoop = refl
said_is DoQuit = refl

-- a call of two lines, c and then d
module _ (c d : Said) where
  -- its fault speaks of the first
  first_stopped : (e : Fault) (saids : List Said) → speaks_of (Some c.verb) c ≡ true → e.verb ≡ Some c.verb → saids ≡ cond (unsent e) [] (c ∷ []) → saids ≡ two_of c d e
  first_stopped e saids own v h = h ∙ ap (λ b. cond b (cond (unsent e) [] (c ∷ [])) (cond (speaks_of e.verb d) (cond (unsent e) (c ∷ []) (c ∷ d ∷ [])) [])) (sym (ap (λ z. speaks_of z c) v ∙ own))

  -- its fault speaks of the second
  second_stopped : (e : Fault) (saids more : List Said) → speaks_of (Some d.verb) c ≡ false → speaks_of (Some d.verb) d ≡ true → e.verb ≡ Some d.verb → saids ≡ c ∷ [] → more ≡ cond (unsent e) [] (d ∷ []) → saids ++ more ≡ two_of c d e
  second_stopped e saids more other own v h g =
      ap (λ z. z ++ more) h
      ∙ ap (λ z. c ∷ z) g
      ∙ both (unsent e)
      ∙ ap (λ b. cond b (cond (unsent e) (c ∷ []) (c ∷ d ∷ [])) []) (sym (ap (λ z. speaks_of z d) v ∙ own))
      ∙ ap (λ b. cond b (cond (unsent e) [] (c ∷ [])) (cond (speaks_of e.verb d) (cond (unsent e) (c ∷ []) (c ∷ d ∷ [])) [])) (sym (ap (λ z. speaks_of z c) v ∙ other))
    where
      both : (b : Bool) → c ∷ cond b [] (d ∷ []) ≡ cond b (c ∷ []) (c ∷ d ∷ [])
      both true = refl
      both false = refl

-- 331 does not only announce another reply
need_password : (n : ℕ) → eqb n (status_code NeedPassword) ≡ true → preliminary n ≡ false
need_password n e = ap preliminary (eqb-true n 331 e)

-- USER, and PASS after 331
module _ (code : Code) (user password : List ℕ) (t₀ : Tally) where
  -- what a login comes to
  abbrev Logged : Result Reply Fault → List Said → List ℕ → Tally → Type 0
  Logged r saids area t = Through (LoginAccepts (say User user) (say Pass password)) t₀ r saids area t

  -- what PASS comes to behind USER
  after_user : (r : Result Reply Fault) (before more : List Said) (area : List ℕ) (t : Tally) → before ≡ say User user ∷ [] → Exchanged (say Pass password) (LoggedIn ∷ []) t₀ r more area t → Logged r (before ++ more) area t
  after_user (Ok c) before more area t h q = (inr (ap (λ z. z ++ more) h ∙ ap (λ z. say User user ∷ z) q.said), q.sofar)
  after_user (Err e) before more area t h q = (second_stopped (say User user) (say Pass password) e before more refl refl q.verb h q.said, q.sofar)

  -- PASS, if the reply to USER asks for it
  does_password : (c : Reply) (saids : List Said) (m : Model) (t : Tally) (area : List ℕ) → Tied code m t → Settled (say User user) (LoggedIn ∷ NeedPassword ∷ []) t₀ c saids area t → (b : Bool) → eqb c.code (status_code NeedPassword) ≡ b → Does code m t (cond b (exchange_of Pass (Some password) (LoggedIn ∷ []) (Some c) m area) (ends (Ok c) m area)) (λ r more. Logged r (saids ++ more))
  does_password c saids m t area tied h true e =
      does_weaken code (Exchanged (say Pass password) (LoggedIn ∷ []) t₀) (λ r more. Logged r (saids ++ more)) m t _ (λ r more a u q. after_user r saids more a u h.said q)
      (does_exchange code (say Pass password) (LoggedIn ∷ []) (Some c) t₀ m t area (h.whole (need_password c.code e)) tied (last_sofar t₀ t c area h.some h.sofar))
  does_password c saids m t area tied h false e = does_ends code (λ r more. Logged r (saids ++ more)) m t (Ok c) area tied (inl (ap (λ z. z ++ []) h.said), h.sofar)

-- the whole login
does_login : (code : Code) (user password : List ℕ) (m : Model) (t : Tally) (area : List ℕ) → Tied code m t → t.broken ≡ false → Does code m t (logging_in user password m area) (Through (LoginAccepts (say User user) (say Pass password)) t)
does_login code user password m t area tied e =
    does_next code (Exchanged (say User user) (LoggedIn ∷ NeedPassword ∷ []) t) (Logged code user password t) (password_of password) m t
    (exchange_of User (Some user) (LoggedIn ∷ NeedPassword ∷ []) None m area)
    (does_exchange code (say User user) (LoggedIn ∷ NeedPassword ∷ []) None t m t area e tied (begins t area))
    (λ c saids u tied₁ h. does_password code user password t c saids _ u _ tied₁ h (eqb c.code (status_code NeedPassword)) refl)
    (λ f saids u h. (first_stopped (say User user) (say Pass password) f saids refl h.verb h.said, h.sofar))

-- 350 does not only announce another reply
pending : (n : ℕ) → expects (RequestFilePending ∷ []) n ≡ true → preliminary n ≡ false
pending n e = by (eqb 350 n) refl e
  where
    by : (b : Bool) → eqb 350 n ≡ b → (b || false) ≡ true → preliminary n ≡ false
    by true h g = ap preliminary (sym (eqb-true 350 n h))
    by false h g = absurd (never (sym g))

-- RNFR, and RNTO after 350
module _ (code : Code) (from to : List ℕ) (t₀ : Tally) where
  -- what a rename comes to
  abbrev Renamed : Result Reply Fault → List Said → List ℕ → Tally → Type 0
  Renamed r saids area t = Through (RenameAccepts (say Rnfr from) (say Rnto to)) t₀ r saids area t

  -- what RNTO comes to behind RNFR
  after_from : (r : Result Reply Fault) (before more : List Said) (area : List ℕ) (t : Tally) → before ≡ say Rnfr from ∷ [] → Exchanged (say Rnto to) (RequestedFileActionOk ∷ CommandOk ∷ []) t₀ r more area t → Renamed r (before ++ more) area t
  after_from (Ok c) before more area t h q = (ap (λ z. z ++ more) h ∙ ap (λ z. say Rnfr from ∷ z) q.said, q.sofar)
  after_from (Err e) before more area t h q = (second_stopped (say Rnfr from) (say Rnto to) e before more refl refl q.verb h q.said, q.sofar)

  -- RNTO
  does_to : (c : Reply) (saids : List Said) (m : Model) (t : Tally) (area : List ℕ) → Tied code m t → Settled (say Rnfr from) (RequestFilePending ∷ []) t₀ c saids area t → Does code m t (exchange_of Rnto (Some to) (RequestedFileActionOk ∷ CommandOk ∷ []) (Some c) m area) (λ r more. Renamed r (saids ++ more))
  does_to c saids m t area tied h =
      does_weaken code (Exchanged (say Rnto to) (RequestedFileActionOk ∷ CommandOk ∷ []) t₀) (λ r more. Renamed r (saids ++ more)) m t _ (λ r more a u q. after_from r saids more a u h.said q)
      (does_exchange code (say Rnto to) (RequestedFileActionOk ∷ CommandOk ∷ []) (Some c) t₀ m t area (h.whole (pending c.code h.status)) tied (last_sofar t₀ t c area h.some h.sofar))

-- the whole rename
does_rename : (code : Code) (from to : List ℕ) (m : Model) (t : Tally) (area : List ℕ) → Tied code m t → t.broken ≡ false → Does code m t (renaming from to m area) (Through (RenameAccepts (say Rnfr from) (say Rnto to)) t)
does_rename code from to m t area tied e =
    does_next code (Exchanged (say Rnfr from) (RequestFilePending ∷ []) t) (Renamed code from to t) (λ c. exchange_of Rnto (Some to) (RequestedFileActionOk ∷ CommandOk ∷ []) (Some c)) m t
    (exchange_of Rnfr (Some from) (RequestFilePending ∷ []) None m area)
    (does_exchange code (say Rnfr from) (RequestFilePending ∷ []) None t m t area e tied (begins t area))
    (λ c saids u tied₁ h. does_to code from to t c saids _ u _ tied₁ h)
    (λ f saids u h. (first_stopped (say Rnfr from) (say Rnto to) f saids refl h.verb h.said, h.sofar))

-- a call that only remembers an offset
resume_moves : (code : Code) (n : ℕ) (m : Model) (t : Tally) (d : Desk) → Tied code m t → Moved code (Resume n) m t (ask_of (Resume n) m d)
resume_moves code n m t d tied =
    moved_none code (Resume n) m t (Ok None) (resume_of n m) d refl refl
    (record { code = tied.code; limit = tied.limit; ending = tied.ending; step = tied.step; settled = tied.settled; left = tied.left; ended = tied.ended; shut = tied.shut; carrier = tied.carrier; count = tied.count })
    (record { accepts = refl; newest = refl })

-- any call
pub moves : (code : Code) (ask : Asked) (m : Model) (t : Tally) (d : Desk) → Tied code m t → Moved code ask m t (ask_of ask m d)
moves code Greet m t d tied = greet_moves code m t d tied
moves code (Login user password) m t d tied =
    by_lines code (Login user password) m t d _ (LoginAccepts (say User user.now) (say Pass password.now)) refl (λ r saids area u h. record { accepts = h.0; newest = h.1.newest }) tied
    (does_login code user.now password.now m t d.reply tied)
moves code (Plain p) m t d tied =
    by_lines code (Plain p) m t d _ (One (record { verb = verb_of p; argument = argument_of p })) refl
    (λ r saids area u h. record { accepts = h.0 ∙ ap (λ z. one_of z (told r)) (said_is p); newest = h.1.newest }) tied
    (does_one code (record { verb = verb_of p; argument = argument_of p }) (statuses_of p) m t d.reply tied)
moves code (Rename from to) m t d tied =
    by_lines code (Rename from to) m t d _ (RenameAccepts (say Rnfr from.now) (say Rnto to.now)) refl (λ r saids area u h. record { accepts = h.0; newest = h.1.newest }) tied
    (does_rename code from.now to.now m t d.reply tied)
moves code (TransferType k) m t d tied =
    by_lines code (TransferType k) m t d _ (One (say SetType (type_text k))) refl (λ r saids area u h. record { accepts = h.0; newest = h.1.newest }) tied
    (does_one code (say SetType (type_text k)) (CommandOk ∷ []) m t d.reply tied)
moves code (Resume n) m t d tied = resume_moves code n m t d tied
