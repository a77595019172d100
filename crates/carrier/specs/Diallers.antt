-- What a carrier that only dials means. Assumes nothing.
use Rattle.std.specs.Prelude.{Bool, cond, List}
use Rattle.carrier.specs.declared.carrier.CarrierState.TheVariants.{Closed, Standing}
use Rattle.carrier.specs.Deck.{Ask, to_listen, to_dial, for_caller, Told, done, refuses, Deck}

-- It dials any address, and refuses all else, whatever was asked before.
abbrev pub only_dials : List Ask → Ask → Told
only_dials _ to_listen = refuses
only_dials _ (to_dial _) = done
only_dials _ for_caller = refuses

-- So it stands or is closed, and is in no other state.
abbrev pub dials : Bool → Deck
dials standing = record { coming = only_dials; state = cond standing Standing Closed }
