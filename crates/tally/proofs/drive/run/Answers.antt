use Rattle.std.proofs.Common.{◌≡◌, ap, ◌∙◌, subst}
use Rattle.session.specs.Areas.{desk_of}
use Rattle.session.specs.Model.{model}
use Rattle.session.proofs.Lending.{same_first, same_then}
use Rattle.tally.specs.Runs.{after_all, areas_all, seen_all, rows_of, noted}
use Rattle.tally.proofs.Runs.{every_run}
use Rattle.tally.proofs.Driven.{driven_none, driven_noted, driven_all}
use Rattle.tally.proofs.drive.run.Goals as goal

pub loop-i-init : goal.loop-i-init
loop-i-init g c = (driven_none _ _ _ _, same_first _)

pub loop-i-preserved : goal.loop-i-preserved
loop-i-preserved g c =
    (driven_noted c.loop-i.invariant.0 _ c.note.ensures c.loop-i-test.true c.make-answer.ensures.answer c.make-answer.ensures.after c.make-answer.ensures.areas c.record.ensures (c.state.ensures ∙ ap (λ z. (g.C.Carrier.means z).state) c.carrier.ensures), same_then _ _ _ c.loop-i.invariant.1 c.make-answer.ensures.same)

pub returns : goal.returns
returns g c =
    let means = model g.L.Link.means g.C.Carrier.means g.E.Encoding.means in
    let calls = c.args.calls.now in
    let areas = desk_of c.args.areas.now in
    let all = driven_all c.loop-i.invariant.0 c.loop-i-test.false in
    let new = c.new-session.ensures in
    record {
      after = subst (λ m. means c.loop-i.session ≡ after_all m areas calls) new all.0;
      areas = subst (λ m. desk_of c.loop-i.areas ≡ areas_all m areas calls) new all.1;
      same = c.loop-i.invariant.1;
      rows = subst (λ m. c.loop-i.rows ≡ noted (rows_of (seen_all m areas calls)) c.args.rows.now) new all.2;
      lawful = every_run c.args.settings (g.L.Link.means c.args.link) (g.C.Carrier.means c.args.carrier) (g.E.Encoding.means c.args.encoding) (g.met.E.Encoding.back c.args.encoding) areas calls;
    }
