use Rattle.session.specs.Areas.{desk_of, SameAreas}
use Rattle.session.specs.Model.{model}
use Rattle.tally.proofs.Driven.{Driven}
use Rattle.tally.proofs.drive.run.Given as goal

-- So many calls were made, and the areas are the same.
abbrev pub invariant-loop-i : goal.invariant-loop-i
invariant-loop-i g l =
    let means = model g.L.Link.means g.C.Carrier.means g.E.Encoding.means in
    Driven (means l.initial.session) (desk_of l.initial.areas) l.calls l.initial.rows l.i (means l.session) (desk_of l.areas) l.rows × SameAreas l.initial.areas l.areas
