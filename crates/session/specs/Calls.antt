-- What each call answers and leaves. Assumes nothing.
use Rattle.std.specs.Prelude.{ℕ, Bool, true, false, cond, ◌&&◌, List, [], ◌∷◌, length, take, Some, None, Ok, Err, Option, Result, ◌==◌, nat_le}
use Rattle.std.specs.Borrow.{Bor}
use Rattle.text.specs.Area.{laid}
use Rattle.link.specs.Wire.{fits, put_of, leaving}
use Rattle.command.specs.Lines.{line_of}
use Rattle.command.specs.Types.{type_text}
use Rattle.command.specs.declared.verb.Verb.{Verb}
use Rattle.command.specs.declared.verb.Verb.TheVariants.{User, Pass, Cwd, Cdup, Dele, Rmd, Mkd, Rnfr, Rnto, «Type» as SetType, Noop, Quit}
use Rattle.command.specs.declared.types.FileType.{FileType}
use Rattle.command.specs.declared.refusal.Refusal.{Refusal}
use Rattle.command.specs.declared.refusal.Refusal.TheVariants.{AreaTooShort, OutOfStep, GreetingDue, TransferOpen, LinkFull, UnexpectedStatus}
use Rattle.command.specs.declared.fault.Fault.{Fault}
use Rattle.reply.specs.Replies.{Cut, Unread, reply, fault_of}
use Rattle.reply.specs.Statuses.{status_code, expects, preliminary}
use Rattle.reply.specs.declared.reply.Reply.{Reply}
use Rattle.reply.specs.declared.reply.Rule.TheVariants.{Usual}
use Rattle.reply.specs.declared.status.Status.{Status}
use Rattle.reply.specs.declared.status.Status.TheVariants.{CommandOk, Ready, Closing, LoggedIn, RequestedFileActionOk, PathCreated, NeedPassword, RequestFilePending}
use Rattle.session.specs.declared.plain.Plain.{Plain}
use Rattle.session.specs.declared.plain.Plain.TheVariants.{Cwd as DoCwd, Cdup as DoCdup, Dele as DoDele, Rmd as DoRmd, Mkd as DoMkd, Noop as DoNoop, Quit as DoQuit}
use Rattle.session.specs.Model.{Model, Desk, limit_of, with_wire, with_step, with_greeted, with_restart}
use Rattle.session.specs.Outcome.{Outcome, ends, next, Called, past}

-- what is told of the last reply that a call read: with none read, code and length are 0
abbrev pub last_told : Option Reply → Reply
last_told None = record { code = 0; length = 0 }
last_told (Some c) = c

-- a refusal, with the verb it speaks of and the last reply read in the call
abbrev pub fault : Refusal → Option Verb → Option Reply → Fault
fault n v last = record { refusal = n; verb = v; code = (last_told last).code; length = (last_told last).length }

-- a refusal by the first questions, which speaks of no line and no reply
abbrev pub refusal : Refusal → Fault
refusal n = fault n None None

-- the reply area is as long as the limit, and the work areas have room for a line escaped and encoded
abbrev pub long_enough : Model → Desk → Bool
long_enough m d = nat_le (limit_of m) (length d.reply) && (nat_le 8704 (length d.wide) && nat_le 4352 (length d.narrow))

-- whether a session is greeted as a call wants it: greet not yet, the others already
abbrev pub greeted_as : Bool → Bool → Bool
greeted_as true b = b
greeted_as false true = false
greeted_as false false = true

-- the questions before anything is sent or read: the areas, in step, greeted or, for greet, not yet, and no transfer open
abbrev pub questions_of : Bool → Model → Desk → Result (Unit {0}) Fault
questions_of greeted m d =
    cond (long_enough m d)
    (cond m.kept.in_step
    (cond (greeted_as greeted m.kept.greeted)
    (cond m.kept.transfer_open (Err (refusal TransferOpen)) (Ok tt))
    (Err (refusal GreetingDue)))
    (Err (refusal OutOfStep)))
    (Err (refusal AreaTooShort))

-- a line is put whole, or it is refused and not sent
abbrev pub puts : Bool → List ℕ → Verb → Option Reply → Model → List ℕ → Outcome (Result (Unit {0}) Fault)
puts true l v last m area = ends (Ok tt) (with_wire (put_of l m.wire) m) area
puts false l v last m area = ends (Err (fault LinkFull (Some v) last)) m area

-- what comes of a line: one that was made is put if it fits, and else refused, as is one that was not made
abbrev pub performs : Result (List ℕ) Refusal → Verb → Option Reply → Model → List ℕ → Outcome (Result (Unit {0}) Fault)
performs (Ok l) v last m area = puts (fits l m.wire) l v last m area
performs (Err n) v last m area = ends (Err (fault n (Some v) last)) m area

-- a command's line, in a call that last read the reply `last`
unfoldable pub perform_of : Verb → Option (List ℕ) → Option Reply → Model → List ℕ → Outcome (Result (Unit {0}) Fault)
perform_of v arg last m area = performs (line_of m.code v arg) v last m area

-- a reply fills the reply area from its front; one that is not finished leaves the session out of step
abbrev pub hears : Option Verb → Model → List ℕ → Result Reply Unread → List ℕ → Outcome (Result Reply Fault)
hears v m area (Ok c) rest = ends (Ok c) (with_wire (leaving rest m.wire) m) (laid (take c.length m.wire.coming) area)
hears v m area (Err e) rest = ends (Err (fault_of v e)) (with_step false (with_wire (leaving rest m.wire) m)) (laid (take e.length m.wire.coming) area)

-- the reply that the session would read next
abbrev pub cut_of : Model → Cut
cut_of m = reply Usual (limit_of m) m.wire.ending m.wire.coming

-- what comes of reading a reply, in answer to a verb or to none
unfoldable pub hear_of : Option Verb → Model → List ℕ → Outcome (Result Reply Fault)
hear_of v m area = hears v m area (cut_of m).got (cut_of m).rest

-- is the status one of those expected?
abbrev pub expected_of : List Status → Option Verb → Reply → Result Reply Fault
expected_of ss v c = cond (expects ss c.code) (Ok c) (Err (fault UnexpectedStatus v (Some c)))

-- a reply that only announces another, where the line was to be settled, leaves the session out of step
abbrev pub settled_by : ℕ → Model → Model
settled_by code m = cond (preliminary code) (with_step false m) m

-- what comes of the reply that settles a line
abbrev pub settles : List Status → Verb → Reply → Model → List ℕ → Outcome (Result Reply Fault)
settles ss v c m area = ends (expected_of ss (Some v) c) (settled_by c.code m) area

-- a line and the reply that settles it
unfoldable pub exchange_of : Verb → Option (List ℕ) → List Status → Option Reply → Model → List ℕ → Outcome (Result Reply Fault)
exchange_of v arg ss last m area = next (perform_of v arg last m area) (λ _ m₁ a₁. next (hear_of (Some v) m₁ a₁) (settles ss v))

-- the greeting is no line's: whatever its status, the session stays in step
abbrev pub welcomes : Bool → Reply → Model → List ℕ → Outcome (Result Reply Fault)
welcomes true c m area = ends (Ok c) (with_greeted true m) area
welcomes false c m area = ends (Err (fault UnexpectedStatus None (Some c))) m area

-- greet, past its questions: a reply, which is expected to be 220
abbrev pub greeting_of : Model → List ℕ → Outcome (Result Reply Fault)
greeting_of m area = next (hear_of None m area) (λ c. welcomes (expects (Ready ∷ []) c.code) c)

-- USER, and after 331 PASS
abbrev pub password_of : List ℕ → Reply → Model → List ℕ → Outcome (Result Reply Fault)
password_of password c m area = cond (c.code == status_code NeedPassword) (exchange_of Pass (Some password) (LoggedIn ∷ []) (Some c) m area) (ends (Ok c) m area)

-- login, past its questions: USER, and what follows it
abbrev pub logging_in : List ℕ → List ℕ → Model → List ℕ → Outcome (Result Reply Fault)
logging_in user password m area = next (exchange_of User (Some user) (LoggedIn ∷ NeedPassword ∷ []) None m area) (password_of password)

-- RNFR and RNTO
abbrev pub renaming : List ℕ → List ℕ → Model → List ℕ → Outcome (Result Reply Fault)
renaming from to m area = next (exchange_of Rnfr (Some from) (RequestFilePending ∷ []) None m area) (λ c. exchange_of Rnto (Some to) (RequestedFileActionOk ∷ CommandOk ∷ []) (Some c))

-- the lines that one reply settles
abbrev pub verb_of : {T : Type 0} → Plain T → Verb
verb_of (DoCwd path) = Cwd
verb_of DoCdup = Cdup
verb_of (DoDele path) = Dele
verb_of (DoRmd path) = Rmd
verb_of (DoMkd path) = Mkd
verb_of DoNoop = Noop
verb_of DoQuit = Quit

-- the argument of their line, if it has one
abbrev pub argument_of : Plain (Bor (List ℕ)) → Option (List ℕ)
argument_of (DoCwd path) = Some path.now
argument_of DoCdup = None
argument_of (DoDele path) = Some path.now
argument_of (DoRmd path) = Some path.now
argument_of (DoMkd path) = Some path.now
argument_of DoNoop = None
argument_of DoQuit = None

-- the statuses by which they pass
abbrev pub statuses_of : {T : Type 0} → Plain T → List Status
statuses_of (DoCwd path) = RequestedFileActionOk ∷ []
statuses_of DoCdup = CommandOk ∷ RequestedFileActionOk ∷ []
statuses_of (DoDele path) = RequestedFileActionOk ∷ []
statuses_of (DoRmd path) = RequestedFileActionOk ∷ []
statuses_of (DoMkd path) = PathCreated ∷ []
statuses_of DoNoop = CommandOk ∷ []
statuses_of DoQuit = Closing ∷ []

-- the calls
abbrev pub greet_of : Model → Desk → Called (Result Reply Fault)
greet_of m d = past (questions_of false m d) m d (greeting_of m d.reply)

-- login: the questions, then USER and, if it is wanted, PASS
abbrev pub login_of : List ℕ → List ℕ → Model → Desk → Called (Result Reply Fault)
login_of user password m d = past (questions_of true m d) m d (logging_in user password m d.reply)

-- a command of one line and one reply: the questions, then its line
abbrev pub plain_of : Plain (Bor (List ℕ)) → Model → Desk → Called (Result Reply Fault)
plain_of p m d = past (questions_of true m d) m d (exchange_of (verb_of p) (argument_of p) (statuses_of p) None m d.reply)

-- rename: the questions, then RNFR and RNTO
abbrev pub rename_of : List ℕ → List ℕ → Model → Desk → Called (Result Reply Fault)
rename_of from to m d = past (questions_of true m d) m d (renaming from to m d.reply)

-- transfer_type: the questions, then TYPE
abbrev pub type_of : FileType → Model → Desk → Called (Result Reply Fault)
type_of t m d = past (questions_of true m d) m d (exchange_of SetType (Some (type_text t)) (CommandOk ∷ []) None m d.reply)

-- an offset of 0 is none
abbrev pub offset_of : ℕ → Option ℕ
offset_of n = cond (n == 0) None (Some n)

-- resume: the offset is kept, and nothing is asked or sent
abbrev pub resume_of : ℕ → Model → Model
resume_of n m = with_restart (offset_of n) m
