use Rattle.std.proofs.Common.{◌-◌, length}
use Rattle.std.specs.List.{between}
use Rattle.reply.specs.Lines.{judge_by}
use Rattle.reply.proofs.Reading.{AfterLine}
use Rattle.reply.proofs.control.read_response.Given as goal

abbrev pub invariant-lines : goal.invariant-lines
invariant-lines g l = AfterLine l.fn.rule l.fn.area (g.L.Link.means l.fn.link) (judge_by l.last (between l.start l.end l.area)) l.start l.end l.area (g.L.Link.means l.link)

abbrev pub decreases-lines : goal.decreases-lines
decreases-lines g l = length l.area - l.end
