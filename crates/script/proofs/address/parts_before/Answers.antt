-- One part more, a part that is not there, and all parts. Assumes nothing.
use Rattle.std.proofs.Common.{◌≡◌, ◌<◌, ◌∙◌, length, length-set, arith}
use Rattle.std.proofs.lemmas.List.{length-replicate}
use Rattle.script.proofs.Addresses.{begins, goes_on, stops, ends}
use Rattle.script.proofs.address.parts_before.Goals as goal

pub loop-place-init : goal.loop-place-init
loop-place-init g c = (length-replicate _ _, begins g.P.AddressPart.SEPARATOR g.P.AddressPart.part_of g.row.N c.args.rest.now.now)

pub returns-in_err-part : goal.returns-in_err-part
returns-in_err-part g c =
    let more : c.loop-place.place-index < g.row.N = omega arith in
    rw c.from_residual.ensures (stops _ _ _ _ c.loop-place.place-items c.loop-place.rest.now _ more c.in_err-part.ensures c.loop-place.invariant.1)

pub loop-place-preserved : goal.loop-place-preserved
loop-place-preserved g c =
    let more : c.loop-place.place-index < g.row.N = omega arith in
    let place : c.loop-place.place-index < length c.loop-place.place-items = omega arith in (
      length-set c.loop-place.place-items c.loop-place.place-index c.in_ok-part.part ∙ c.loop-place.invariant.0,
      goes_on g.P.AddressPart.SEPARATOR g.P.AddressPart.part_of g.row.N c.loop-place.place-index c.loop-place.place-items c.in_ok-part.part c.loop-place.rest.now c.in_ok-part.behind.now _ more place c.in_ok-part.ensures c.loop-place.invariant.1,
    )

pub returns : goal.returns
returns g c =
    let end : c.loop-place.place-index ≡ g.row.N = omega arith in
    ends _ _ _ _ _ _ c.loop-place.invariant.0 (rw end at c.loop-place.invariant.1)
