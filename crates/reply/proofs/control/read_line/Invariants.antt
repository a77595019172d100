use Rattle.reply.proofs.Reading.{ReadingLine}
use Rattle.reply.proofs.control.read_line.Given as goal

-- The bytes stored are those of the line so far.
abbrev pub invariant-loop-stored : goal.invariant-loop-stored
invariant-loop-stored g l = ReadingLine l.initial.area (g.L.Link.means l.initial.link) l.start l.stored l.area (g.L.Link.means l.link)
