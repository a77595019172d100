-- All had room, or the piece that had none. Assumes nothing.
use Rattle.std.proofs.Common.{rules, ◌∙◌}
use Rattle.text.proofs.Folds.{tells}
use Rattle.text.proofs.area.fit.Goals as goal

pub returns : goal.returns
returns g c =
    let d = c.try_fold.ensures.ran in
    c.is_some.ensures ∙ tells g.P.Iterator.next_gives g.P.Pieces.bytes (λ s r t k. search rules) _ (λ p x q r. search rules) _ d.1 c.try_fold.result
    d.0 c.args.pieces d.4.0 c.try_fold.new.self (tt, c.args.room) (d.2, d.3) d.4.1 d.4.2 d.5 d.6 (λ x b. (b.5, search rules))
