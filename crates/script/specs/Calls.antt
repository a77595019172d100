-- What a call is lent. Assumes nothing.
use Rattle.std.specs.Prelude.{◌≤◌}
use Rattle.tally.specs.Asked.{Lent}

-- no more than 1,048,576 bytes of any area
abbrev pub Bounded : Lent → Type 0
Bounded l = (l.reply ≤ 1048576) × (l.wide ≤ 1048576) × (l.narrow ≤ 1048576)
