use Rattle.text.proofs.Laid.{SoFar}
use Rattle.text.proofs.area.write_front.Given as goal

abbrev pub invariant-loop-piece : goal.invariant-loop-piece
invariant-loop-piece g l =
    (goal.iterator-loop-piece g).can_next l.piece-iterator
    × (goal.iterator-loop-piece g).is_finite l.piece-iterator
    × SoFar (g.P.Pieces.bytes l.fn.pieces) (g.P.Pieces.bytes l.piece-iterator) l.area l.initial.area l.end
