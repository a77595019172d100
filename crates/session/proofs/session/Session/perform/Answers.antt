use Rattle.std.proofs.Common.{◌∙◌}
use Rattle.std.proofs.lemmas.Result.{err_from_is_err_and}
use Rattle.session.specs.Model.{model}
use Rattle.session.proofs.Sending.{serves, unmade, made_of, put_by}
use Rattle.session.proofs.session.Session.perform.Goals as goal

pub returns-in_err-length-clause-came : goal.returns-in_err-length-clause-came
returns-in_err-length-clause-came g c =
    let m = model g.L.Link.means g.C.Carrier.means g.E.Encoding.means c.args.self.now in
    let line = c.encode_line-line.ensures.line ∙ serves _ _ _ c.requires.wide c.requires.narrow in
    let p = err_from_is_err_and c.from_residual.result c.from_residual.ensures.1 in
    unmade _ _ c.args.last m c.args.areas.now.reply.now c.encode_line-line.result c.encode_line-line.new.wide c.at_line.result line c.at_line.ensures _ c.in_err-length.was _ p.2 _ p.1

pub returns-clause-came : goal.returns-clause-came
returns-clause-came g c =
    let m = model g.L.Link.means g.C.Carrier.means g.E.Encoding.means c.args.self.now in
    let line = c.encode_line-line.ensures.line ∙ serves _ _ _ c.requires.wide c.requires.narrow in
    let made = made_of _ _ c.args.last m c.args.areas.now.reply.now c.encode_line-line.result c.encode_line-line.new.wide c.at_line.result line c.at_line.ensures _ c.in_ok-length.was in
    put_by _ _ c.args.last m c.args.areas.now.reply.now c.in_ok-length.length c.encode_line-line.new.wide made _ c.put-sent.ensures.after _ c.put-sent.ensures.value _ c.or.ensures _ c.at_line-2.ensures
