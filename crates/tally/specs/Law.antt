-- The law over any list of calls, said of what may be observed of them. Assumes nothing.
use Rattle.std.specs.Prelude.{◌≡◌, ℕ, suc, ◌≤◌, Bool, true, false, cond, not, ◌&&◌, ◌⊎◌, List, [], ◌∷◌, ◌++◌, take, Some, None, Ok, Err, Option, Result, ◌==◌, nat_le}
use Rattle.encoding.specs.Code.{Code}
use Rattle.command.specs.Lines.{text_of}
use Rattle.command.specs.Refusals.{number_of}
use Rattle.command.specs.Types.{type_text}
use Rattle.command.specs.Verbs.{word}
use Rattle.command.specs.declared.fault.Fault.{Fault}
use Rattle.command.specs.declared.verb.Verb.{Verb}
use Rattle.command.specs.declared.verb.Verb.TheVariants.{User, Pass, Cwd, Cdup, Dele, Rmd, Mkd, Rnfr, Rnto, «Type» as SetType, Noop, Quit}
use Rattle.carrier.specs.declared.carrier.CarrierState.TheVariants.{Closed}
use Rattle.reply.specs.Replies.{Unread, count}
use Rattle.reply.specs.declared.reply.Reply.{Reply}
use Rattle.session.specs.declared.plain.Plain.{Plain as PlainCommand}
use Rattle.session.specs.declared.plain.Plain.TheVariants.{Cwd as DoCwd, Cdup as DoCdup, Dele as DoDele, Rmd as DoRmd, Mkd as DoMkd, Noop as DoNoop, Quit as DoQuit}
use Rattle.std.specs.Borrow.{Bor}
use Rattle.std.specs.List.{concat}
use Rattle.std.specs.Str.{bytes_eq}
use Rattle.tally.specs.declared.calls.Ask.TheVariants.{Greet, Login, Plain, Rename, TransferType, Resume}
use Rattle.tally.specs.Observed.{Shown, Seen, lines_in, lines_all, Wholes, texts, marks_all, taken, shown_after}
use Rattle.tally.specs.Tally.{Given, Tally, tally, cut_short}
use Rattle.tally.specs.Asked.{Asked, Answer}

-- where a run starts: what the session shows when it is new, its encoding, and the limit of a reply
pub record Start : Type 0 where
  pub new : Shown
  pub code : Code
  pub limit : ℕ

-- a command: its verb and argument
pub record Said : Type 0 where
  pub verb : Verb
  pub argument : Option (List ℕ)

-- a command with an argument
abbrev pub say : Verb → List ℕ → Said
say v a = record { verb = v; argument = Some a }

-- a command without one
abbrev pub say_bare : Verb → Said
say_bare v = record { verb = v; argument = None }

-- the texts of some commands
abbrev pub texts_of : List Said → List (List ℕ)
texts_of [] = []
texts_of (c ∷ cs) = text_of c.verb c.argument ∷ texts_of cs

-- the command of one line that was asked for
abbrev pub said_by : PlainCommand (Bor (List ℕ)) → Said
said_by (DoCwd path) = say Cwd path.now
said_by DoCdup = say_bare Cdup
said_by (DoDele path) = say Dele path.now
said_by (DoRmd path) = say Rmd path.now
said_by (DoMkd path) = say Mkd path.now
said_by DoNoop = say_bare Noop
said_by DoQuit = say_bare Quit

-- a fault up to number 12 says that the line it speaks of was not sent
abbrev pub unsent : Fault → Bool
unsent e = nat_le (number_of e.refusal) 12

-- the commands that a call of one line had accepted, by its answer
abbrev pub one_of : Said → Answer → List Said
one_of c (Ok (Some r)) = c ∷ []
one_of c (Err e) = cond (unsent e) [] (c ∷ [])
one_of c (Ok None) = []

-- whether a fault speaks of a command's line
abbrev pub speaks_of : Option Verb → Said → Bool
speaks_of None c = false
speaks_of (Some v) c = bytes_eq (word v) (word c.verb)

-- the commands that a call of two lines had accepted, by the line that its fault speaks of
abbrev pub two_of : Said → Said → Fault → List Said
two_of c d e = cond (speaks_of e.verb c) (cond (unsent e) [] (c ∷ [])) (cond (speaks_of e.verb d) (cond (unsent e) (c ∷ []) (c ∷ d ∷ [])) [])

-- a login passes after one line or after two
abbrev pub LoginAccepts : Said → Said → Answer → List Said → Type 0
LoginAccepts c d (Ok (Some r)) cs = (cs ≡ c ∷ []) ⊎ (cs ≡ c ∷ d ∷ [])
LoginAccepts c d (Err e) cs = cs ≡ two_of c d e
LoginAccepts c d (Ok None) cs = ⊥

-- of a rename: both where it passed, else by its fault
abbrev pub RenameAccepts : Said → Said → Answer → List Said → Type 0
RenameAccepts c d (Ok (Some r)) cs = cs ≡ c ∷ d ∷ []
RenameAccepts c d (Err e) cs = cs ≡ two_of c d e
RenameAccepts c d (Ok None) cs = ⊥

-- the commands that a call had accepted
abbrev pub Accepts : Asked → Answer → List Said → Type 0
Accepts Greet a cs = cs ≡ []
Accepts (Login user password) a cs = LoginAccepts (say User user.now) (say Pass password.now) a cs
Accepts (Plain p) a cs = cs ≡ one_of (said_by p) a
Accepts (Rename from to) a cs = RenameAccepts (say Rnfr from.now) (say Rnto to.now) a cs
Accepts (TransferType t) a cs = cs ≡ one_of (say SetType (type_text t)) a
Accepts (Resume n) a cs = cs ≡ []

-- whether a fault says why a reply is not finished: 13 to 16
abbrev pub unfinished : Fault → Bool
unfinished e = nat_le 13 (number_of e.refusal) && nat_le (number_of e.refusal) 16

-- the reply that a fault tells of, if any: its code and length; or, at 13 to 16, why it is not finished, with its length.
-- Any other fault with length 0 speaks of no reply.
abbrev pub read_by : Fault → Option (Result Reply Unread)
read_by e =
    cond (unfinished e) (Some (Err (record { why = e.refusal; length = e.length })))
    (cond (e.length == 0) None (Some (Ok (record { code = e.code; length = e.length }))))

-- the reply that an answer hands out, if it hands one out
abbrev pub handed : Answer → Option (Result Reply Unread)
handed (Ok (Some c)) = Some (Ok c)
handed (Err e) = read_by e
handed (Ok None) = None

-- a call's own line, between the tallies before and after it: the last that it had accepted
abbrev pub Accepted : Tally → Tally → ℕ → Type 0
Accepted t u n = (u.lines ≡ suc n) × (t.lines ≤ n)

-- which line is a call's own: the last accepted in it; for greet the greeting's, 0; for resume none
abbrev pub Own : Asked → Tally → Tally → ℕ → Type 0
Own Greet t u n = n ≡ 0
Own (Login user password) t u n = Accepted t u n
Own (Plain p) t u n = Accepted t u n
Own (Rename from to) t u n = Accepted t u n
Own (TransferType k) t u n = Accepted t u n
Own (Resume k) t u n = ⊥

-- no reply was read between t and u; or the newest is r, it is the line's that O says, and its bytes are the front of the
-- reply area
abbrev pub Newest : Tally → Tally → (ℕ → Type 0) → Option (Result Reply Unread) → List ℕ → Type 0
Newest t u O None front = u.given ≡ t.given
Newest t u O (Some r) front = (n : ℕ) × O n × ((before : List Given) × (u.given ≡ record { line = n; got = r; bytes = take (count r) front } ∷ before))

-- after some calls: s is where they started, n what the session shows now, ss what was seen, and t the tally over it
pub record Stands (s : Start) (n : Shown) (ss : List Seen) (t : Tally) : Type 0 where
  -- the bytes sent since the start are whole lines
  pub a_sent : n.wire.sent ≡ s.new.wire.sent ++ concat (lines_all ss)
  pub a_whole : Wholes (lines_all ss)
  -- the bytes taken are exactly the replies that the tally gave out
  pub b_taken : s.new.wire.coming ≡ taken s.new.wire n.wire ++ n.wire.coming
  pub b_left : t.left ≡ []
  -- the link is said to have ended only where nothing is coming
  pub b_ended : cut_short t.given ≡ true → n.wire.coming ≡ []
  -- the session is in step exactly until the tally breaks
  pub b_step : n.kept.in_step ≡ not t.broken
  -- no call here opens a transfer: no line is left unsettled, and the carrier is closed
  pub b_unsettled : t.broken ≡ false → t.unsettled ≡ []
  pub b_open : n.kept.transfer_open ≡ false
  pub b_carrier : n.carrier ≡ Closed
  pub c_count : n.kept.completed ≡ 0

-- one call, between the tallies before and after it
pub record Replies (s : Start) (seen : Seen) (t u : Tally) : Type 0 where
  -- its lines are those of the commands that it had accepted, in order; each, made single and decoded, is its command's text
  pub a_commands : (cs : List Said) × Accepts seen.ask seen.answer cs × (texts s.code (lines_in seen) ≡ texts_of cs)
  -- the reply that it hands out is the last that the tally gives to its own line
  pub c_own : Newest t u (Own seen.ask t u) (handed seen.answer) seen.front

-- the tally over all that was observed
abbrev pub tally_of : Start → List Seen → Tally
tally_of s ss = tally s.limit s.new.wire.ending (marks_all ss) (taken s.new.wire (shown_after s.new ss).wire)

-- after each call of a run: whichever part of it was made, and whichever call came next
pub record Lawful (s : Start) (ss : List Seen) : Type 0 where
  pub at_start : Stands s s.new [] (tally_of s [])
  pub each : (before : List Seen) (seen : Seen) (rest : List Seen) → ss ≡ before ++ (seen ∷ rest) → Replies s seen (tally_of s before) (tally_of s (before ++ (seen ∷ []))) × Stands s seen.after (before ++ (seen ∷ [])) (tally_of s (before ++ (seen ∷ [])))
