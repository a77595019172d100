-- What was read, and then what the rest has, is what all has. Assumes nothing.
use Rattle.std.proofs.Common.{◌≡◌, ◌-◌, length, take}
use Rattle.script.specs.Addresses.{parts_before}
use Rattle.script.proofs.Addresses.{behind}
use Rattle.script.proofs.address.parts_before.Given as goal

abbrev pub invariant-loop-place : goal.invariant-loop-place
invariant-loop-place g l =
    (length l.place-items ≡ g.row.N)
    × (behind (take l.place-index l.place-items) (parts_before g.P.AddressPart.SEPARATOR g.P.AddressPart.part_of (g.row.N - l.place-index) l.rest.now)
    ≡ parts_before g.P.AddressPart.SEPARATOR g.P.AddressPart.part_of g.row.N l.fn.rest.now)
