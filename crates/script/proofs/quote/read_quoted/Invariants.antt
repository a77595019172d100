-- What is read so far, before the meaning of the rest, is the meaning of all. Assumes nothing.
use Rattle.std.proofs.Common.{◌≡◌, ◌-◌, ◌≤◌, length, drop, vec_items}
use Rattle.script.specs.Quotes.{meaning, behind}
use Rattle.script.proofs.quote.read_quoted.Given as goal

abbrev pub invariant-pieces : goal.invariant-pieces
invariant-pieces l =
    record {
      fits : length l.rest ≤ length l.text;
      rest : l.rest ≡ drop (length l.text - length l.rest) l.text;
      read : behind (vec_items l.bytes) (length l.text - length l.rest) (meaning l.rest) ≡ meaning l.text;
    }

abbrev pub decreases-pieces : goal.decreases-pieces
decreases-pieces l = length l.rest
