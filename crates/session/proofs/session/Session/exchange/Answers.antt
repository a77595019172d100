use Rattle.std.proofs.Common.{ap, arith}
use Rattle.std.proofs.lemmas.Result.{err_from_is_err_and}
use Rattle.session.specs.Model.{model}
use Rattle.session.proofs.Exchanges.{unsent, unfinished, settled}
use Rattle.session.proofs.session.Session.exchange.Goals as goal

pub returns-in_err-perform-clause-came : goal.returns-in_err-perform-clause-came
returns-in_err-perform-clause-came g c =
    let m = model g.L.Link.means g.C.Carrier.means g.E.Encoding.means c.args.self.now in
    let p = err_from_is_err_and c.from_residual.result c.from_residual.ensures.1 in
    unsent _ _ c.args.expected.now c.args.last m c.args.areas.now.reply.now _ _ _ _ _ p.1 p.2 c.in_err-perform.ensures.came

pub hear-requires : goal.hear-requires
hear-requires g c =
    let kept = ap (λ k. k.settings.limit) c.perform.ensures.kept in
    omega (arith, kept, c.perform.ensures.same.reply_length, c.requires.reply)

pub returns-in_err-answer-clause-came : goal.returns-in_err-answer-clause-came
returns-in_err-answer-clause-came g c =
    let m = model g.L.Link.means g.C.Carrier.means g.E.Encoding.means c.args.self.now in
    let p = err_from_is_err_and c.from_residual-in_err-answer.result c.from_residual-in_err-answer.ensures.1 in
    unfinished _ _ c.args.expected.now c.args.last m c.args.areas.now.reply.now _ _ c.in_ok-perform.ensures.came _ _ _ _ _ p.1 p.2 c.in_err-answer.ensures.came

pub returns-clause-came : goal.returns-clause-came
returns-clause-came g c =
    let m = model g.L.Link.means g.C.Carrier.means g.E.Encoding.means c.args.self.now in
    settled _ _ c.args.expected.now c.args.last m c.args.areas.now.reply.now _ _ c.in_ok-perform.ensures.came _ _ c.in_ok-answer.answer c.in_ok-answer.ensures.came _ c.settle.ensures.came _ c.expect.ensures
