-- What a link over two borrowed buffers means. Assumes nothing.
use Rattle.std.specs.Prelude.{ℕ, ◌+◌, ◌-◌, List, [], ◌++◌, length, take, drop}
use Rattle.link.specs.Wire.{Wire}
use Rattle.link.specs.declared.buffers.Buffers.{Buffers}
use Rattle.link.specs.declared.wire.Ending.{Ending}

-- the front of the one buffer is sent and its rest is room; the end of the other that is not pulled yet is coming
abbrev pub wire_of : Buffers → Wire
wire_of b = record { sent = take b.used b.out.now; room = length b.out.now - b.used; coming = b.coming.now; ending = b.ending }

-- a new link: nothing sent, all of the one buffer room, all of the other coming
abbrev pub fresh : List ℕ → List ℕ → Ending → Wire
fresh out incoming ending = record { sent = []; room = length out; coming = incoming; ending = ending }

-- a list after bytes were written into it from a place on
abbrev pub written : List ℕ → ℕ → List ℕ → List ℕ
written xs at ys = take at xs ++ (ys ++ drop (at + length ys) xs)
