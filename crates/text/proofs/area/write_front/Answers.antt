use Rattle.std.proofs.Common.{◌≡◌, nat_le, ◌++◌, length, rules, sym}
use Rattle.std.proofs.lemmas.Bool.{leb-true}
use Rattle.text.proofs.Laid.{one_more}
use Rattle.text.proofs.area.write_front.Goals as goal

pub loop-piece-preserved : goal.loop-piece-preserved
loop-piece-preserved g c =
    let more : g.P.Pieces.bytes c.loop-piece.piece-iterator ≡ c.in-Some.piece.now ++ g.P.Pieces.bytes c.next.new.self = search rules in
    let room = leb-true (length (g.P.Pieces.bytes c.args.pieces)) (length c.args.area.now) (sym {b = nat_le (length (g.P.Pieces.bytes c.args.pieces)) (length c.args.area.now)} c.if-not-fit.ensures) in
    (search rules, search rules, one_more _ _ _ _ _ _ _ _ c.loop-piece.invariant.2 room more c.copy_from_slice.ensures.after)
