-- A group that is not there. Assumes nothing.
use Rattle.script.proofs.Addresses.{v6-parts}
use Rattle.script.proofs.address.read_v6.Goals as goal

pub returns-in_err-a : goal.returns-in_err-a
returns-in_err-a c =
    let none = c.in_err-a.ensures in
    rw c.from_residual.ensures (rw (← none) at (v6-parts c.args.word.now))

pub returns-in_err-h : goal.returns-in_err-h
returns-in_err-h c =
    let some = c.in_ok-a.ensures in
    let none = c.in_err-h.ensures in
    rw c.from_residual-in_err-h.ensures (rw (← some, ← none) at (v6-parts c.args.word.now))
