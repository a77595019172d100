use Rattle.std.proofs.Common.{ap, arith}
use borrow.Rule.Slice.PartMut.{Post-is}
use Rattle.session.specs.Areas.{desk_of}
use Rattle.session.specs.Model.{model}
use Rattle.tally.proofs.Making.{is_made, is_given_back}
use Rattle.tally.proofs.drive.make.Goals as goal

pub returns-clause-answer : goal.returns-clause-answer
returns-clause-answer g c =
    let m = model g.L.Link.means g.C.Carrier.means g.E.Encoding.means c.args.session.now in
    ap (λ o. o.answer) (is_made c.args.call m (desk_of c.args.areas.now) c.min-r.result c.min-w.result c.min-n.result c.min-r.ensures c.min-w.ensures c.min-n.ensures _ c.put_to.ensures)

pub returns-clause-after : goal.returns-clause-after
returns-clause-after g c =
    let m = model g.L.Link.means g.C.Carrier.means g.E.Encoding.means c.args.session.now in
    ap (λ o. o.after) (is_made c.args.call m (desk_of c.args.areas.now) c.min-r.result c.min-w.result c.min-n.result c.min-r.ensures c.min-w.ensures c.min-n.ensures _ c.put_to.ensures)

pub returns-clause-areas : goal.returns-clause-areas
returns-clause-areas g c =
    let m = model g.L.Link.means g.C.Carrier.means g.E.Encoding.means c.args.session.now in
    let a = c.args.areas.now in
    is_given_back c.args.call m (desk_of a) c.min-r.result c.min-w.result c.min-n.result c.min-r.ensures c.min-w.ensures c.min-n.ensures _ c.put_to.ensures _ _ _ (Post-is 0 c.min-r.result a.reply.now (omega arith)) (Post-is 0 c.min-w.result a.wide.now (omega arith)) (Post-is 0 c.min-n.result a.narrow.now (omega arith))
