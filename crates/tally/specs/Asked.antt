-- A call as the law reads it, with its texts lent; and its answer. Assumes nothing.
use Rattle.std.specs.Prelude.{ℕ, List, Option, Result}
use Rattle.std.specs.Borrow.{Bor}
use Rattle.command.specs.declared.fault.Fault.{Fault}
use Rattle.reply.specs.declared.reply.Reply.{Reply}
use Rattle.session.specs.declared.areas.Areas.{Areas}
use Rattle.session.specs.Plains.{plain_map}
use Rattle.tally.specs.declared.calls.Ask.{Ask}
use Rattle.tally.specs.declared.calls.Ask.TheVariants.{Greet, Login, Plain, Rename, TransferType, Resume}

-- what is asked, with its texts lent
abbrev pub Asked : Type 0
Asked = Ask (Bor (List ℕ))

-- how many bytes of each area a call asks to be lent
abbrev pub Lent : Type 0
Lent = Areas ℕ

-- the reply, of a call that has one; or a fault
abbrev pub Answer : Type 0
Answer = Result (Option Reply) Fault

-- what is asked, with other texts
abbrev pub ask_map : {A B : Type 0} → (A → B) → Ask A → Ask B
ask_map f Greet = Greet
ask_map f (Login user password) = Login (f user) (f password)
ask_map f (Plain p) = Plain (plain_map f p)
ask_map f (Rename from to) = Rename (f from) (f to)
ask_map f (TransferType t) = TransferType t
ask_map f (Resume n) = Resume n
