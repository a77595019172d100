-- Which reply belongs to which line. The bytes taken are cut into replies here, by the grammar of replies alone. Lines are
-- counted from 1, and the greeting stands at 0. Assumes nothing.
use Rattle.std.specs.Prelude.{ℕ, suc, Bool, true, false, cond, List, [], ◌∷◌, take, Ok, Err, Result}
use Rattle.link.specs.declared.wire.Ending.{Ending}
use Rattle.command.specs.declared.refusal.Refusal.{Refusal}
use Rattle.command.specs.declared.refusal.Refusal.TheVariants.{AreaTooShort, OutOfStep, GreetingDue, TransferOpen, NoTransfer, ArgumentTooLong, ArgumentNotUtf8, ArgumentNotOneLine, NoEncoding, LineNotEnded, LineNotOne, LinkFull, LinkClosed, LinkBroken, ReplyTooLong, ReplyIllBegun, UnexpectedStatus, NoDecoding, BadResponse, UnexpectedResponse, TableFull, NotListening, NotDialled, NoCaller}
use Rattle.reply.specs.Replies.{Cut, Unread, reply, count}
use Rattle.reply.specs.Statuses.{preliminary}
use Rattle.reply.specs.declared.reply.Reply.{Reply}
use Rattle.reply.specs.declared.reply.Rule.TheVariants.{Usual}
use Rattle.tally.specs.Observed.{Mark, sent, greeting}

-- a reply, finished or not, with its line and its bytes
pub record Given : Type 0 where
  pub line : ℕ
  pub got : Result Reply Unread
  pub bytes : List ℕ

-- the tally: what it was told, what it has read and given out, and where it stands
pub record Tally : Type 0 where
  -- the limit of a reply, and how the bytes end, as they were told
  pub limit : ℕ
  pub ending : Ending
  -- the number of the next line
  pub lines : ℕ
  -- the lines that are not settled, the newest in front
  pub unsettled : List ℕ
  -- each reply with its line, the newest in front
  pub given : List Given
  pub broken : Bool
  -- the bytes that no reply has taken
  pub left : List ℕ

-- before anything is read
abbrev pub start : ℕ → Ending → List ℕ → Tally
start limit ending bytes = record { limit = limit; ending = ending; lines = 1; unsettled = []; given = []; broken = false; left = bytes }

-- the reply at the front of the bytes left
abbrev pub reads : Tally → Cut
reads t = reply Usual t.limit t.ending t.left

-- it is the line n's; then the lines u are unsettled
abbrev pub gives : ℕ → List ℕ → Bool → Result Reply Unread → List ℕ → Tally → Tally
gives n u b r rest t = record {
  limit = t.limit;
  ending = t.ending;
  lines = t.lines;
  unsettled = u;
  given = record { line = n; got = r; bytes = take (count r) t.left } ∷ t.given;
  broken = b;
  left = rest;
}

-- the reply settles the line n, unless it is not finished or only announces another: then the tally breaks
abbrev pub settle : ℕ → Tally → Result Reply Unread → List ℕ → Tally
settle n t (Ok c) rest = cond (preliminary c.code) (gives n (n ∷ t.unsettled) true (Ok c) rest t) (gives n t.unsettled false (Ok c) rest t)
settle n t (Err e) rest = gives n (n ∷ t.unsettled) true (Err e) rest t

-- a line more was sent
abbrev pub one_more : Tally → Tally
one_more t = record { limit = t.limit; ending = t.ending; lines = suc t.lines; unsettled = t.unsettled; given = t.given; broken = t.broken; left = t.left }

-- the reply is the greeting's, whatever its code
abbrev pub welcome : Tally → Result Reply Unread → List ℕ → Tally
welcome t (Ok c) rest = gives 0 t.unsettled false (Ok c) rest t
welcome t (Err e) rest = gives 0 t.unsettled true (Err e) rest t

-- a mark read while the count holds
abbrev pub live : Mark → Tally → Tally
live (sent l) t = one_more (settle t.lines t (reads t).got (reads t).rest)
live greeting t = welcome t (reads t).got (reads t).rest

-- once broken, nothing more belongs to a line
abbrev pub counts : Mark → Tally → Tally
counts e t = cond t.broken t (live e t)

-- some marks, one after another
abbrev pub on : Tally → List Mark → Tally
on t [] = t
on t (e ∷ es) = on (counts e t) es

-- over the limit, the ending, the marks in order and the bytes taken
abbrev pub tally : ℕ → Ending → List Mark → List ℕ → Tally
tally limit ending marks bytes = on (start limit ending bytes) marks

-- whether a reply was cut short by the link's end
abbrev pub by_end : Refusal → Bool
by_end AreaTooShort = false
by_end OutOfStep = false
by_end GreetingDue = false
by_end TransferOpen = false
by_end NoTransfer = false
by_end ArgumentTooLong = false
by_end ArgumentNotUtf8 = false
by_end ArgumentNotOneLine = false
by_end NoEncoding = false
by_end LineNotEnded = false
by_end LineNotOne = false
by_end LinkFull = false
by_end LinkClosed = true
by_end LinkBroken = true
by_end ReplyTooLong = false
by_end ReplyIllBegun = false
by_end UnexpectedStatus = false
by_end NoDecoding = false
by_end BadResponse = false
by_end UnexpectedResponse = false
by_end TableFull = false
by_end NotListening = false
by_end NotDialled = false
by_end NoCaller = false

-- a reply that was not finished, since the bytes ended
abbrev pub short : Result Reply Unread → Bool
short (Ok c) = false
short (Err e) = by_end e.why

-- whether the last reply given out was such a one
abbrev pub cut_short : List Given → Bool
cut_short [] = false
cut_short (g ∷ gs) = short g.got
