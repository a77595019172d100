use Rattle.std.proofs.Common.{◌≡◌, ◌+◌, ◌≤◌, length, drop}
use Rattle.text.specs.Front.{row_of, run}
use Rattle.text.proofs.utf8.sequence.Given as goal

abbrev pub invariant-loop-place : goal.invariant-loop-place
invariant-loop-place l =
    (l.place ≤ length l.bytes)
    × (l.place + run (drop l.place (row_of l.first)) (drop l.place l.bytes) ≡ 1 + run (drop 1 (row_of l.first)) (drop 1 l.bytes))
