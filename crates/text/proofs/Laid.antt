-- Bytes laid at the front of an area. Assumes nothing.
use Rattle.std.proofs.Common.{◌≡◌, ℕ, ◌+◌, ◌-◌, ◌≤◌, List, ◌++◌, length, take, drop, sym, ap, ◌∙◌, append_assoc, arith}
use borrow.Rule.Slice.PartMut.{put_mid}
use Rattle.std.proofs.lemmas.List.{length-append, length-take, length-take-le, length-drop, drop-drop}
use Rattle.std.proofs.lemmas.Slice.{take-put_mid, drop-put_mid}

-- what a loop keeps that writes some bytes: those so far stand in the area's front, and its rest is as it was
abbrev pub SoFar : (whole rest area before : List ℕ) (end : ℕ) → Type 0
SoFar whole rest area before end =
    (end ≤ length area) × (length area ≡ length before)
    × (take end area ++ rest ≡ whole)
    × (drop end area ≡ drop end before)

-- one piece more
pub one_more : (whole rest rest' area before piece put : List ℕ) (end : ℕ) → SoFar whole rest area before end → length whole ≤ length before
    → rest ≡ piece ++ rest' → put ≡ piece
    → SoFar whole rest' (put_mid end (end + length piece - end) area put) before (end + length piece)
one_more whole rest rest' area before piece put end s room e p =
    let all = sym (length-append (take end area) rest) ∙ ap length s.2 in
    let some = length-take-le end area s.0 in
    let more = ap length e ∙ length-append piece rest' in
    let fits : end + length piece ≤ length area = omega (arith, all, some, more, s.1) in
    let k : end + length piece - end ≡ length piece = omega arith in
    let size : length put ≡ length piece = ap length p in
    let long : length (put_mid end (end + length piece - end) area put) ≡ length area = rw k (simp (length-append, length-take, length-drop) (omega arith)) in
    let front : take (end + length piece) (put_mid end (end + length piece - end) area put) ≡ take end area ++ piece =
    take-put_mid end (end + length piece - end) area put (end + length piece) (omega arith) s.0 ∙ ap (λ z. take end area ++ z) p in
    let behind : drop (end + length piece) (put_mid end (end + length piece - end) area put) ≡ drop (end + length piece) area =
    drop-put_mid end (end + length piece - end) area put (end + length piece) (omega arith) s.0 (size ∙ sym k) in (
      (let z : end + length piece ≤ length (put_mid end (end + length piece - end) area put) = omega (arith, long) in z),
      long ∙ s.1,
      ap (λ z. z ++ rest') front ∙ append_assoc (take end area) piece rest' ∙ ap (λ z. take end area ++ z) (sym e) ∙ s.2,
      behind ∙ sym (drop-drop (length piece) end area) ∙ ap (drop (length piece)) s.3 ∙ drop-drop (length piece) end before,
    )
