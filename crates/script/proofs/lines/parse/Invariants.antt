-- Each line has at least a byte. Assumes nothing.
use Rattle.std.proofs.Common.{◌+◌, ◌≤◌, length}
use Rattle.script.proofs.lines.parse.Given as goal

abbrev pub invariant-loop-line : goal.invariant-loop-line
invariant-loop-line l = l.number + length l.line-iterator.rest.now ≤ length l.text
