-- A list of calls made one after another, and what is seen of them. Assumes nothing.
use Rattle.std.specs.Prelude.{min, List, [], ◌∷◌, ◌++◌, length, map, take, drop, Some, None, Ok, Err, Result}
use Rattle.link.specs.Wire.{Wire}
use Rattle.carrier.specs.Deck.{Deck}
use Rattle.encoding.specs.Code.{Code, Back}
use Rattle.command.specs.declared.fault.Fault.{Fault}
use Rattle.reply.specs.declared.reply.Reply.{Reply}
use Rattle.session.specs.Model.{Model, Desk, fresh, limit_of}
use Rattle.session.specs.Outcome.{Called}
use Rattle.session.specs.Calls.{greet_of, login_of, plain_of, rename_of, type_of, resume_of}
use Rattle.session.specs.declared.settings.Settings.{Settings}
use Rattle.tally.specs.declared.calls.Ask.TheVariants.{Greet, Login, Plain, Rename, TransferType, Resume}
use Rattle.tally.specs.declared.calls.Row.{Row}
use Rattle.tally.specs.Observed.{Shown, Seen}
use Rattle.tally.specs.Law.{Start, Lawful}
use Rattle.tally.specs.Asked.{Asked, Answer, Lent}
use Rattle.tally.specs.declared.calls.Call.{Call}

-- a call's answer, where the call has a reply
abbrev pub told : Result Reply Fault → Answer
told (Ok c) = Ok (Some c)
told (Err e) = Err e

-- the same with what the call leaves
abbrev pub in_words : Called (Result Reply Fault) → Called Answer
in_words c = record { answer = told c.answer; after = c.after; desk = c.desk }

-- one call with the areas that it is lent
abbrev pub ask_of : Asked → Model → Desk → Called Answer
ask_of Greet m d = in_words (greet_of m d)
ask_of (Login user password) m d = in_words (login_of user.now password.now m d)
ask_of (Plain p) m d = in_words (plain_of p m d)
ask_of (Rename from to) m d = in_words (rename_of from.now to.now m d)
ask_of (TransferType t) m d = in_words (type_of t m d)
ask_of (Resume n) m d = record { answer = Ok None; after = resume_of n m; desk = d }

-- of each area the first bytes, as many as the call asks to be lent, or all where there are fewer
abbrev pub lend : Lent → Desk → Desk
lend l d = record { reply = take (min l.reply (length d.reply)) d.reply; wide = take (min l.wide (length d.wide)) d.wide; narrow = take (min l.narrow (length d.narrow)) d.narrow }

-- and what the whole areas hold once they are given back
abbrev pub give_back : Lent → Desk → Desk → Desk
give_back l used d = record { reply = used.reply ++ drop (min l.reply (length d.reply)) d.reply; wide = used.wide ++ drop (min l.wide (length d.wide)) d.wide; narrow = used.narrow ++ drop (min l.narrow (length d.narrow)) d.narrow }

-- a call made with the first bytes of each area
unfoldable pub made_of : Call → Model → Desk → Called Answer
made_of k m d = ask_of k.ask m (lend k.lent d)

-- what the whole areas hold after it
abbrev pub areas_after : Call → Model → Desk → Desk
areas_after k m d = give_back k.lent (made_of k m d).desk d

-- what a session shows
abbrev pub shows : Model → Shown
shows m = record { wire = m.wire; kept = m.kept; carrier = m.deck.state }

-- what is seen of a call
abbrev pub seen_of : Call → Model → Desk → Seen
seen_of k m d = record { ask = k.ask; answer = (made_of k m d).answer; before = shows m; after = shows (made_of k m d).after; front = (made_of k m d).desk.reply }

-- a list of calls, one after the other
abbrev pub after_all : Model → Desk → List Call → Model
after_all m d [] = m
after_all m d (k ∷ ks) = after_all (made_of k m d).after (areas_after k m d) ks

-- what the areas hold at the end
abbrev pub areas_all : Model → Desk → List Call → Desk
areas_all m d [] = d
areas_all m d (k ∷ ks) = areas_all (made_of k m d).after (areas_after k m d) ks

-- what is seen of the whole list
abbrev pub seen_all : Model → Desk → List Call → List Seen
seen_all m d [] = []
seen_all m d (k ∷ ks) = seen_of k m d ∷ seen_all (made_of k m d).after (areas_after k m d) ks

-- the row that is recorded of a call
abbrev pub row_of : Seen → Row
row_of s = record { answer = s.answer; kept = s.after.kept; carrier = s.after.carrier }

-- the rows of a run
abbrev pub rows_of : List Seen → List Row
rows_of = map row_of

-- rows written over others from the front, as far as there are any
abbrev pub noted : List Row → List Row → List Row
noted [] old = old
noted (r ∷ rs) [] = []
noted (r ∷ rs) (o ∷ old) = r ∷ noted rs old

-- a new session's start
abbrev pub start_of : Settings → Wire → Deck → Code → Start
start_of st w d c = record { new = shows (fresh st w d c); code = c; limit = limit_of (fresh st w d c) }

-- the law of every run: any settings, link, carrier and lawful encoding, any areas, and any list of calls
abbrev pub EveryRun : Type 0
EveryRun = (st : Settings) (w : Wire) (d : Deck) (c : Code) → Back c → (areas : Desk) (calls : List Call) → Lawful (start_of st w d c) (seen_all (fresh st w d c) areas calls)
