use Rattle.std.proofs.Common.{arith}
use Rattle.text.proofs.Rows.{second_is, other_is}
use Rattle.text.proofs.utf8.allowed.Goals as goal
use Rattle.text.proofs.utf8.allowed.Goals.{in_default-via-in-1+in_default, in_default-via-in_default}

pub returns-in-1-eq224-clause-ends : goal.returns-in-1-eq224-clause-ends
returns-in-1-eq224-clause-ends c =
    let new = c.new.ensures in
    let e = c.in-1-eq224.is-1 in
    rw (new.start, new.end) (second_is _ _ 160 191 c.in-1-eq224.is-0 c.requires.within (rw e))

pub returns-in-1-eq237-clause-ends : goal.returns-in-1-eq237-clause-ends
returns-in-1-eq237-clause-ends c =
    let new = c.new-in-1-eq237.ensures in
    let e = c.in-1-eq237.is-1 in
    rw (new.start, new.end) (second_is _ _ 128 159 c.in-1-eq237.is-0 c.requires.within (rw e))

pub returns-in-1-eq240-clause-ends : goal.returns-in-1-eq240-clause-ends
returns-in-1-eq240-clause-ends c =
    let new = c.new-in-1-eq240.ensures in
    let e = c.in-1-eq240.is-1 in
    rw (new.start, new.end) (second_is _ _ 144 191 c.in-1-eq240.is-0 c.requires.within (rw e))

pub returns-in-1-eq244-clause-ends : goal.returns-in-1-eq244-clause-ends
returns-in-1-eq244-clause-ends c =
    let new = c.new-in-1-eq244.ensures in
    let e = c.in-1-eq244.is-1 in
    rw (new.start, new.end) (second_is _ _ 128 143 c.in-1-eq244.is-0 c.requires.within (rw e))

pub returns-in_default-clause-ends : goal.returns-in_default-clause-ends
returns-in_default-clause-ends c =
    let new = c.new-in_default.ensures in
    rw (new.start, new.end)
    (elim c.in_default.branch [
      | in_default-via-in-1+in_default w ↦
          other_is _ _ c.requires.behind
          (λ e. ((λ p. omega (arith, w.in_default.is-1, p)), (λ p. omega (arith, w.in_default.is-1, p)), (λ p. omega (arith, w.in_default.is-1, p)), (λ p. omega (arith, w.in_default.is-1, p))))
          c.requires.within
      | in_default-via-in_default w ↦ other_is _ _ c.requires.behind (λ e. absurd (omega (arith, w.in_default.is-0, e))) c.requires.within
    ])
