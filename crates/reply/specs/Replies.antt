-- What the reading of one reply comes to, by recursion on the bytes coming. Assumes nothing.
use Rattle.std.specs.Prelude.{ℕ, ◌+◌, cond, List, [], ◌∷◌, ◌++◌, take, Ok, Err, Option, Result, ◌==◌, nat_le}
use Rattle.text.specs.Area.{laid}
use Rattle.link.specs.Wire.{Wire, leaving}
use Rattle.link.specs.declared.wire.Ending.{Ending}
use Rattle.link.specs.declared.wire.Ending.TheVariants.{Closed, Broken}
use Rattle.command.specs.declared.fault.Fault.{Fault}
use Rattle.command.specs.declared.refusal.Refusal.{Refusal}
use Rattle.command.specs.declared.refusal.Refusal.TheVariants.{LinkClosed, LinkBroken, ReplyTooLong, ReplyIllBegun}
use Rattle.command.specs.declared.verb.Verb.{Verb}
use Rattle.command.specs.Refusals.{number_of}
use Rattle.reply.specs.declared.reply.Reply.{Reply}
use Rattle.reply.specs.declared.reply.Rule.{Rule}
use Rattle.reply.specs.declared.lines.Last.{Last}
use Rattle.reply.specs.Lines.{Place, at_first, at_later, Judged, ill_begins, it_ends, it_goes_on, judge}

-- why a reply is not finished, and how many bytes of it are stored
pub record Unread : Type 0 where
  pub why : Refusal
  pub length : ℕ

-- a reply that is not finished for a reason, with n bytes stored
abbrev pub unread : Refusal → ℕ → Unread
unread why n = record { why = why; length = n }

-- a reply cut off the front of some bytes: its code and length, or why it is not finished; and the bytes left
pub record Cut : Type 0 where
  pub got : Result Reply Unread
  pub rest : List ℕ

-- such a cut
abbrev pub cut : Result Reply Unread → List ℕ → Cut
cut got rest = record { got = got; rest = rest }

-- why nothing more comes
abbrev pub lost : Ending → Refusal
lost Closed = LinkClosed
lost Broken = LinkBroken

-- a line that ends with the n-th byte: the bytes behind it, and what they are cut into where the reply goes on
abbrev pub by_line : ℕ → List ℕ → (Last → Cut) → Judged → Cut
by_line n bs more ill_begins = cut (Err (unread ReplyIllBegun n)) bs
by_line n bs more (it_ends code) = cut (Ok (record { code = code; length = n })) bs
by_line n bs more (it_goes_on last) = more last

-- The bytes coming after n bytes of a reply, within a line of which `l` came so far. A byte is stored while there is room for
-- it, and a line that is whole says whether the reply goes on.
abbrev pub reply_on : ℕ → Ending → ℕ → Place → List ℕ → List ℕ → Cut
reply_on limit ending n place l [] = cut (Err (unread (lost ending) n)) []
reply_on limit ending n place l (b ∷ bs) =
    cond (nat_le limit n) (cut (Err (unread ReplyTooLong n)) bs)
    (cond (b == 10) (by_line (n + 1) bs (λ last. reply_on limit ending (n + 1) (at_later last) [] bs) (judge place (l ++ b ∷ []))) (reply_on limit ending (n + 1) place (l ++ b ∷ []) bs))

-- the reply that a rule cuts off the bytes coming before a link ends: at most a limit of bytes
unfoldable pub reply : Rule → ℕ → Ending → List ℕ → Cut
reply rule limit ending bs = reply_on limit ending 0 (at_first rule) [] bs

-- the fault of a reply that is not finished: its code is 0
abbrev pub fault_of : Option Verb → Unread → Fault
fault_of verb u = record { refusal = u.why; verb = verb; code = 0; length = u.length }

-- the next byte of a reply of which n bytes are stored, or the fault that its link has ended
abbrev pub came : Option Verb → ℕ → Ending → List ℕ → Result ℕ Fault
came verb n ending [] = Err (fault_of verb (unread (lost ending) n))
came verb n ending (b ∷ _) = Ok b

-- a line of a reply cut off the front of some bytes: how long the reply is at its end, or why the line is not whole; and the
-- bytes left
pub record LineCut : Type 0 where
  pub got : Result ℕ Unread
  pub rest : List ℕ

-- such a cut
abbrev pub line_cut : Result ℕ Unread → List ℕ → LineCut
line_cut got rest = record { got = got; rest = rest }

-- The line whose bytes are coming after n bytes of a reply. A byte is stored while there is room for it.
abbrev pub line_on : ℕ → Ending → ℕ → List ℕ → LineCut
line_on limit ending n [] = line_cut (Err (unread (lost ending) n)) []
line_on limit ending n (b ∷ bs) =
    cond (nat_le limit n) (line_cut (Err (unread ReplyTooLong n)) bs)
    (cond (b == 10) (line_cut (Ok (n + 1)) bs) (line_on limit ending (n + 1) bs))

-- the line that comes over a link after n bytes of a reply
abbrev pub line_from : ℕ → ℕ → Wire → LineCut
line_from limit n w = line_on limit w.ending n w.coming

-- where a line ends, or the fault that it is not whole
abbrev pub line_answered : Option Verb → Result ℕ Unread → Result ℕ Fault
line_answered verb (Ok n) = Ok n
line_answered verb (Err u) = Err (fault_of verb u)

-- how many bytes of the reply are stored, once a line was read
abbrev pub reached : Result ℕ Unread → ℕ
reached (Ok n) = n
reached (Err u) = u.length

-- an area whose first n bytes stay and which has behind them the bytes of a line, of those that were coming
abbrev pub read_on : ℕ → Result ℕ Unread → List ℕ → List ℕ → List ℕ
read_on n got coming area = laid (take (reached got) (take n area ++ coming)) area

-- how many bytes are stored
abbrev pub count : Result Reply Unread → ℕ
count (Ok c) = c.length
count (Err u) = u.length

-- the number of the refusal, or 0 where the reply is finished
abbrev pub refused : Result Reply Unread → ℕ
refused (Ok _) = 0
refused (Err u) = number_of u.why

-- what a call for a line with that verb is answered
abbrev pub answered : Option Verb → Result Reply Unread → Result Reply Fault
answered verb (Ok c) = Ok c
answered verb (Err u) = Err (fault_of verb u)

-- the answer, what the reply area holds, and what the link means after a reply was read
pub record Heard : Type 0 where
  pub answer : Result Reply Fault
  pub area : List ℕ
  pub link : Wire

-- the bytes stored are at the front of the area, its rest as it was; the bytes left are coming
abbrev pub heard : Option Verb → Cut → List ℕ → Wire → Heard
heard verb p area w = record { answer = answered verb p.got; area = laid (take (count p.got) w.coming) area; link = leaving p.rest w }
