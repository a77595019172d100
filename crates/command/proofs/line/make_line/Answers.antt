use Rattle.std.proofs.Common.{◌≤◌, refl, drop, length, ap, subst, sym, ◌∙◌, Some, Err, arith, length-take}
use Rattle.std.specs.Option.{IsSome}
use Rattle.std.proofs.lemmas.Result.{err_from_is_err_and}
use Rattle.text.specs.Area.{filled}
use Rattle.command.specs.Lines.{argument_of}
use Rattle.command.proofs.Makes.{line_refused_early, line_from_text, told_is, told_short, line_written, short_as}
use Rattle.command.proofs.line.make_line.Goals as goal

pub returns-in_err-validate_command_line-clause-line : goal.returns-in_err-validate_command_line-clause-line
returns-in_err-validate_command_line-clause-line g c =
    let p = err_from_is_err_and c.from_residual.result c.from_residual.ensures.1 in
    let e = line_refused_early (g.E.Encoding.means c.args.encoding.now) c.args.command.verb (argument_of c.args.command) _ c.in_err-validate_command_line.ensures in
    rw p.1 (ap (λ z. Err z) p.2 ∙ e)

pub returns-in_err-encoded-clause-line : goal.returns-in_err-encoded-clause-line
returns-in_err-encoded-clause-line g c =
    let p = err_from_is_err_and c.from_residual-in_err-encoded.result c.from_residual-in_err-encoded.ensures.1 in
    let e = line_from_text (g.E.Encoding.means c.args.encoding.now) c.args.command.verb (argument_of c.args.command) _ _ _ _ _ c.in_ok-validate_command_line.ensures c.format.ensures c.unwrap-length.ensures in
    rw p.1 (ap (λ z. Err z) p.2 ∙ c.in_err-encoded.ensures.line ∙ e)

pub returns-clause-line : goal.returns-clause-line
returns-clause-line g c =
    let narrow = c.encode_text.new.narrow in
    let rest = drop 4352 c.args.narrow.now in
    let n = c.in_ok-encoded.encoded in
    let inside : n ≤ length narrow = omega (arith, c.in_ok-encoded.ensures.within, c.encode_text.auto.narrow, length-take 4352 c.args.narrow.now, c.requires.narrow) in
    let room : 8704 ≤ length c.format.new.area = omega (arith, c.requires.wide, c.format.auto.area) in
    let wrote = c.write_front.ensures ∙ ap (λ bytes. filled (Some bytes) c.format.new.area) c.of.ensures.doubled in
    let e = line_from_text (g.E.Encoding.means c.args.encoding.now) c.args.command.verb (argument_of c.args.command) _ _ _ _ _ c.in_ok-validate_command_line.ensures c.format.ensures c.unwrap-length.ensures in
    line_written narrow rest _ _ n _ c.in_ok-encoded.ensures.within inside room wrote _ c.unwrap.ensures
    ∙ c.in_ok-encoded.ensures.line ∙ e

pub unwrap-requires : goal.unwrap-requires
unwrap-requires g c =
    let narrow = c.encode_text.new.narrow in
    let rest = drop 4352 c.args.narrow.now in
    let n = c.in_ok-encoded.encoded in
    let inside : n ≤ length narrow = omega (arith, c.in_ok-encoded.ensures.within, c.encode_text.auto.narrow, length-take 4352 c.args.narrow.now, c.requires.narrow) in
    let room : 8704 ≤ length c.format.new.area = omega (arith, c.requires.wide, c.format.auto.area) in
    let wrote = c.write_front.ensures ∙ ap (λ bytes. filled (Some bytes) c.format.new.area) c.of.ensures.doubled in
    subst IsSome (sym (told_is narrow rest _ _ n _ c.in_ok-encoded.ensures.within inside room wrote)) refl

pub returns-clause-within : goal.returns-clause-within
returns-clause-within g c =
    let narrow = c.encode_text.new.narrow in
    let rest = drop 4352 c.args.narrow.now in
    let n = c.in_ok-encoded.encoded in
    let inside : n ≤ length narrow = omega (arith, c.in_ok-encoded.ensures.within, c.encode_text.auto.narrow, length-take 4352 c.args.narrow.now, c.requires.narrow) in
    let room : 8704 ≤ length c.format.new.area = omega (arith, c.requires.wide, c.format.auto.area) in
    let wrote = c.write_front.ensures ∙ ap (λ bytes. filled (Some bytes) c.format.new.area) c.of.ensures.doubled in
    let told = told_is narrow rest _ _ n _ c.in_ok-encoded.ensures.within inside room wrote in
    let short = told_short narrow rest _ _ n _ c.in_ok-encoded.ensures.within inside room wrote in
    short_as _ _ _ c.unwrap.ensures told short
