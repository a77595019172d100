-- What a written script of answers means as a carrier. Assumes nothing.
use Rattle.std.specs.Prelude.{List, [], ◌∷◌}
use Rattle.carrier.specs.declared.carrier.CarrierState.{CarrierState}
use Rattle.carrier.specs.declared.script.Entry.{Entry}
use Rattle.carrier.specs.declared.script.Entry.TheVariants.{Listens, Dials, Calls, NoneYet, Refuses}
use Rattle.carrier.specs.declared.script.Script.{Script}
use Rattle.carrier.specs.Deck.{Ask, to_listen, to_dial, for_caller, Told, address, done, none_yet, refuses, Deck}

-- What an entry tells at an ask: a misfit refuses.
abbrev pub told_at : Entry → Ask → Told
told_at (Listens a) to_listen = address a
told_at (Listens _) (to_dial _) = refuses
told_at (Listens _) for_caller = refuses
told_at Dials to_listen = refuses
told_at Dials (to_dial _) = done
told_at Dials for_caller = refuses
told_at (Calls _) to_listen = refuses
told_at (Calls _) (to_dial _) = refuses
told_at (Calls a) for_caller = address a
told_at NoneYet to_listen = refuses
told_at NoneYet (to_dial _) = refuses
told_at NoneYet for_caller = none_yet
told_at Refuses to_listen = refuses
told_at Refuses (to_dial _) = refuses
told_at Refuses for_caller = refuses

-- The entry for an ask, given the asks before it: each ask has one, and past the end all are refused.
abbrev pub entry_after : List Entry → List Ask → Entry
entry_after [] _ = Refuses
entry_after (e ∷ _) [] = e
entry_after (_ ∷ es) (_ ∷ earlier) = entry_after es earlier

-- A carrier that has these entries still to play.
abbrev pub plays : List Entry → CarrierState → Deck
plays es s = record { coming = λ earlier. told_at (entry_after es earlier); state = s }

-- The entries that a script has still to play.
abbrev pub to_play : Script → List Entry
to_play s = s.entries.now

-- The next entry; at the end a refusal, and nothing is used up.
abbrev pub next_entry : List Entry → Entry
next_entry es = entry_after es []

-- The entries after the next one.
abbrev pub later_entries : List Entry → List Entry
later_entries [] = []
later_entries (_ ∷ es) = es
