use Rattle.std.proofs.Common.{sym, ◌∙◌, arith}
use borrow.Rule.Slice.PartMut.{Post-is}
use Rattle.session.specs.Model.{model}
use Rattle.session.proofs.Hearing.{hears_ok, hears_err}
use Rattle.session.proofs.session.Session.hear.Goals as goal

pub returns-then-is_err-clause-came : goal.returns-then-is_err-clause-came
returns-then-is_err-clause-came g c =
    let m = model g.L.Link.means g.C.Carrier.means g.E.Encoding.means c.args.self.now in
    hears_err c.args.verb m c.args.areas.now.reply.now c.read_response-answer.result c.read_response-answer.new.area _ (g.L.Link.means c.read_response-answer.new.link) c.requires (Post-is 0 c.args.self.now.kept.settings.limit c.args.areas.now.reply.now (omega arith)) c.read_response-answer.ensures.reads (sym c.is_err.ensures.value ∙ c.if-is_err.true)

pub returns-else-is_err-clause-came : goal.returns-else-is_err-clause-came
returns-else-is_err-clause-came g c =
    let m = model g.L.Link.means g.C.Carrier.means g.E.Encoding.means c.args.self.now in
    hears_ok c.args.verb m c.args.areas.now.reply.now c.read_response-answer.result c.read_response-answer.new.area _ (g.L.Link.means c.read_response-answer.new.link) c.requires (Post-is 0 c.args.self.now.kept.settings.limit c.args.areas.now.reply.now (omega arith)) c.read_response-answer.ensures.reads (sym c.is_err.ensures.value ∙ c.if-is_err.false)
