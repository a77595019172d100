use Rattle.std.proofs.Common.{refl, ap}
use Rattle.std.proofs.lemmas.Result.{err_from_is_err_and}
use Rattle.std.specs.List.{between}
use Rattle.reply.proofs.Grammars.{by_grammar}
use Rattle.reply.proofs.Reading.{begins, at_lost, at_whole, at_ill, at_end, at_more, says_else, opened, ill_first, ended, goes_on}
use Rattle.reply.proofs.control.read_response.Goals as goal

pub returns-in_err-end : goal.returns-in_err-end
returns-in_err-end g c =
    let p = err_from_is_err_and c.from_residual.result c.from_residual.ensures.1 in
    let h = at_lost c.args.rule _ _ c.args.verb _ _ _ _ (begins _ _ _) _ _ _ refl c.read_line.ensures.area c.read_line.ensures.link _ refl _ c.in_err-end.ensures.answer in
    rw (p.1, p.2) (record { reads = h; rfc = by_grammar _ _ _ _ c.args.verb _ (ap (λ z. z.answer) h) })

pub returns-in_default : goal.returns-in_default
returns-in_default g c =
    let k = at_whole c.args.rule _ _ c.args.verb _ _ _ _ (begins _ _ _) _ _ _ refl c.read_line.ensures.area c.read_line.ensures.link _ refl _ c.in_ok-end.ensures.answer in
    let h = at_ill _ _ _ c.args.verb _ _ _ _ _ k _ c.unfinished.ensures (ill_first c.args.rule c.read_line.new.area c.in_ok-end.end _ c.settled.ensures c.in_default.not-Some) in
    record { reads = h; rfc = by_grammar _ _ _ _ c.args.verb _ (ap (λ z. z.answer) h) }

pub lines-init : goal.lines-init
lines-init g c =
    let k = at_whole c.args.rule _ _ c.args.verb _ _ _ _ (begins _ _ _) _ _ _ refl c.read_line.ensures.area c.read_line.ensures.link _ refl _ c.in_ok-end.ensures.answer in
    says_else _ _ _ _ _ _ _ _ _ k (opened c.args.rule c.read_line.new.area c.in_ok-end.end _ c.in-Some.ensures)

pub returns-in-Some-ending_code : goal.returns-in-Some-ending_code
returns-in-Some-ending_code g c =
    let h = at_end _ _ _ c.args.verb _ _ _ _ _ c.lines.invariant _ (ended c.in-Some.last (between c.lines.start c.lines.end c.lines.area) _ c.in-Some-ending_code.ensures) in
    record { reads = h; rfc = by_grammar _ _ _ _ c.args.verb _ (ap (λ z. z.answer) h) }

pub returns-in_err-end-2 : goal.returns-in_err-end-2
returns-in_err-end-2 g c =
    let p = err_from_is_err_and c.from_residual-in_err-end-2.result c.from_residual-in_err-end-2.ensures.1 in
    let k = at_more _ _ _ c.args.verb _ _ _ _ _ c.lines.invariant c.in-Some.last (goes_on c.in-Some.last (between c.lines.start c.lines.end c.lines.area) _ c.ending_code.ensures c.in_default-ending_code.not-Some) in
    let h = at_lost c.args.rule _ _ c.args.verb _ _ _ _ k _ _ _ refl c.read_line-in-lines.ensures.area c.read_line-in-lines.ensures.link _ refl _ c.in_err-end-2.ensures.answer in
    rw (p.1, p.2) (record { reads = h; rfc = by_grammar _ _ _ _ c.args.verb _ (ap (λ z. z.answer) h) })

pub lines-preserved : goal.lines-preserved
lines-preserved g c =
    let k = at_more _ _ _ c.args.verb _ _ _ _ _ c.lines.invariant c.in-Some.last (goes_on c.in-Some.last (between c.lines.start c.lines.end c.lines.area) _ c.ending_code.ensures c.in_default-ending_code.not-Some) in
    at_whole c.args.rule _ _ c.args.verb _ _ _ _ k _ _ _ refl c.read_line-in-lines.ensures.area c.read_line-in-lines.ensures.link _ refl _ c.in_ok-end-2.ensures.answer
