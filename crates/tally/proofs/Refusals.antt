-- What the number of a refusal says of its line and of its reply. Assumes nothing.
use Rattle.std.proofs.Common.{◌≡◌, ℕ, ◌<◌, Bool, true, false, cond, ◌&&◌, eqb, leb, List, [], length, Some, None, Ok, Err, Option, Result, sym, refl, ap, ◌∙◌, arith}
use Rattle.std.proofs.lemmas.Bool.{leb-true, lt-leb, ne_eqb}
use Rattle.encoding.specs.Code.{Code}
use Rattle.link.specs.declared.wire.Ending.{Ending}
use Rattle.link.specs.declared.wire.Ending.TheVariants.{Closed, Broken}
use Rattle.text.specs.Utf8.{utf8}
use Rattle.command.specs.Lines.{text_of, one_line, line_ended, line_body, argument_refused, line_refused, unless, checked, encoded, line_of}
use Rattle.command.specs.Refusals.{number_of}
use Rattle.command.specs.declared.refusal.Refusal.{Refusal}
use Rattle.command.specs.declared.refusal.Refusal.TheVariants.{ArgumentTooLong, ArgumentNotUtf8, ArgumentNotOneLine, NoEncoding, LineNotEnded, LineNotOne}
use Rattle.command.specs.declared.verb.Verb.{Verb}
use Rattle.reply.specs.Replies.{Unread, lost, fault_of}
use Rattle.reply.specs.declared.reply.Reply.{Reply}
use Rattle.reply.proofs.Locality.{Reason, ended, too_long, ill_begun}
use Rattle.session.specs.Calls.{last_told, fault}
use Rattle.tally.specs.Tally.{by_end}
use Rattle.tally.specs.Law.{unsent, read_by}
use Rattle.tally.proofs.Tallies.{never}

-- a refusal that says that its line was not sent
abbrev pub Early : Refusal → Type 0
Early n = leb (number_of n) 12 ≡ true

-- the same of a refusal, if there is one
abbrev EarlyIfAny : Option Refusal → Type 0
EarlyIfAny None = Unit {0}
EarlyIfAny (Some n) = Early n

-- and of a line, if it is refused
abbrev EarlyIfRefused : Result (List ℕ) Refusal → Type 0
EarlyIfRefused (Ok l) = Unit {0}
EarlyIfRefused (Err n) = Early n

-- the questions on the argument
early_argument : (argument : Option (List ℕ)) → EarlyIfAny (argument_refused argument)
early_argument None = tt
early_argument (Some argument) = by (leb (length argument) 4096) (utf8 argument) (one_line argument)
  where
    by : (fits valid one : Bool) → EarlyIfAny (cond fits (cond valid (cond one None (Some ArgumentNotOneLine)) (Some ArgumentNotUtf8)) (Some ArgumentTooLong))
    by true true true = tt
    by true true false = refl
    by true false one = refl
    by false valid one = refl

-- the first of two refusals
early_unless : (why : Option Refusal) (r : Result (List ℕ) Refusal) → EarlyIfAny why → EarlyIfRefused r → EarlyIfRefused (unless why r)
early_unless None r h g = g
early_unless (Some n) r h g = h

-- the questions on the encoded line
early_checked : (line : List ℕ) → EarlyIfRefused (checked line)
early_checked line = early_unless (line_refused line) (Ok _) (by (line_ended line) (one_line (line_body line))) tt
  where
    by : (ends one : Bool) → EarlyIfAny (cond ends (cond one None (Some LineNotOne)) (Some LineNotEnded))
    by true true = tt
    by true false = refl
    by false one = refl

-- whether there is an encoded line
early_encoded : (line : Option (List ℕ)) → EarlyIfRefused (encoded line)
early_encoded None = refl
early_encoded (Some line) = by (leb (length line) 4352)
  where
    by : (fits : Bool) → EarlyIfRefused (cond fits (checked line) (Err NoEncoding))
    by true = early_checked line
    by false = refl

-- a line that fails one of its questions is not sent
pub line_early : (code : Code) (v : Verb) (argument : Option (List ℕ)) (n : Refusal) → line_of code v argument ≡ Err n → Early n
unfolding line_of
line_early code v argument n e = at (line_of code v argument) e (early_unless (argument_refused argument) (encoded (code.encode (text_of v argument))) (early_argument argument) (early_encoded (code.encode (text_of v argument))))
  where
    at : (r : Result (List ℕ) Refusal) → r ≡ Err n → EarlyIfRefused r → Early n
    at (Ok l) h g = let z : ◌≡◌ {A = ℕ} 0 1 = cc in absurd (omega arith)
    at (Err k) h g = let same : k ≡ n = cc in ap (λ z. leb (number_of z) 12) (sym same) ∙ g

-- the reply that was last read in a call, if any: it has a byte
abbrev pub last_read : Reply → Option (Result Reply Unread)
last_read c = cond (eqb c.length 0) None (Some (Ok c))

-- a reply that has a byte was read
pub last_some : (c : Reply) → 0 < c.length → last_read c ≡ Some (Ok c)
last_some c h = ap (λ b. cond b None (Some (Ok c))) (ne_eqb c.length 0 (λ e. omega arith))

-- a fault whose line was not sent hands out the reply that was last read
pub read_early : (n : Refusal) → Early n → (v : Option Verb) (last : Option Reply) → read_by (fault n v last) ≡ last_read (last_told last)
read_early n h v last =
    let small = leb-true (number_of n) 12 h in
    let no : leb 13 (number_of n) ≡ false = lt-leb 13 (number_of n) (omega arith) in
    ap (λ b. cond (b && leb (number_of n) 16) (Some (Err (record { why = n; length = (last_told last).length }))) (last_read (last_told last))) no

-- a reply that is not finished: its line was sent, its fault says why, and the link is said to have ended only where nothing
-- is left
pub record Late (v : Option Verb) (u : Unread) (rest : List ℕ) : Type 0 where
  pub sent : unsent (fault_of v u) ≡ false
  pub asked : leb (number_of u.why) 5 ≡ false
  pub read : read_by (fault_of v u) ≡ Some (Err u)
  pub over : by_end u.why ≡ true → rest ≡ []

-- by why it is not
late_by : (v : Option Verb) (why : Refusal) (n : ℕ) (rest : List ℕ) (k : Refusal) → why ≡ k → Late v (record { why = k; length = n }) rest → Late v (record { why = why; length = n }) rest
late_by v why n rest k e h = record {
  sent = ap (λ z. leb (number_of z) 12) e ∙ h.sent;
  asked = ap (λ z. leb (number_of z) 5) e ∙ h.asked;
  read = ap (λ z. read_by (record { refusal = z; verb = v; code = 0; length = n })) e ∙ h.read ∙ ap (λ z. Some (Err (record { why = z; length = n }))) (sym e);
  over = λ b. h.over (ap by_end (sym e) ∙ b);
}

-- the link has ended
late_lost : (v : Option Verb) (ending : Ending) (n : ℕ) (rest : List ℕ) → rest ≡ [] → Late v (record { why = lost ending; length = n }) rest
late_lost v Closed n rest h = record { sent = refl; asked = refl; read = refl; over = λ _. h }
late_lost v Broken n rest h = record { sent = refl; asked = refl; read = refl; over = λ _. h }

-- for each reason
pub late : (v : Option Verb) (ending : Ending) (u : Unread) (rest : List ℕ) → Reason ending u rest → Late v u rest
late v ending u rest (ended e none) = late_by v u.why u.length rest (lost ending) e (late_lost v ending u.length rest none)
late v ending u rest (too_long e) = late_by v u.why u.length rest _ e (record { sent = refl; asked = refl; read = refl; over = λ b. absurd (never (sym b)) })
late v ending u rest (ill_begun e) = late_by v u.why u.length rest _ e (record { sent = refl; asked = refl; read = refl; over = λ b. absurd (never (sym b)) })
