use Rattle.reply.proofs.Reading.{line_ends, line_goes_on}
use Rattle.reply.proofs.control.read_line.Goals as goal

pub returns-then-byte-eq10-clause-area : goal.returns-then-byte-eq10-clause-area
returns-then-byte-eq10-clause-area g c = line_ends c.args.verb _ _ _ _ _ _ _ c.loop-stored.invariant c.next_byte.ensures.after _ c.in_ok-byte.ensures.value c.loop-stored-test.true c.if-byte-eq10.true

pub loop-stored-preserved : goal.loop-stored-preserved
loop-stored-preserved g c = line_goes_on c.args.verb _ _ _ _ _ _ _ c.loop-stored.invariant c.next_byte.ensures.after _ c.in_ok-byte.ensures.value c.loop-stored-test.true c.if-byte-eq10.false
