-- All digits, and the digit that is too much. Assumes nothing.
use Rattle.std.proofs.Common.{ℕ, rules, lit<}
use Rattle.std.proofs.iter.Yields.{fronts}
use Rattle.std.proofs.lemmas.Iterator.{YieldsList-from_slice}
use Rattle.script.proofs.Numbers.{turns, tells, is_past}
use Rattle.script.proofs.number.small_value.Goals as goal

pub returns : goal.returns
returns c =
    let d = c.try_fold.ensures.ran in
    let t = turns (fronts {A = ℕ}) (λ b. b.now) _ (λ p x q r. search rules) d.0 c.args.word.now d.1 c.iter.result d.4.0 c.try_fold.new.self (tt, 0) (d.2, d.3)
    (lit< tt) d.4.1 d.4.2 d.5 (YieldsList-from_slice {s = c.iter.result} c.args.word.now c.iter.ensures.rest).runs in
    tells (λ b. b.now) _ d.1 c.try_fold.result d.3 _ t d.6 (λ x b. (b.5, is_past _ (search rules)))
