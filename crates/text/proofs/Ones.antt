-- The leading one bits of a first byte are the length of its row. Assumes nothing.
use Rattle.std.proofs.Common.{◌≡◌, ℕ, ◌+◌, ◌-◌, ◌*◌, ◌^◌, ◌<◌, ◌≤◌, Some, sym, refl, ap, ◌∙◌, inl, inr, arith}
use lib.Count.{count_leading_zeros, leading_unique}
use Rattle.text.specs.Front.{row_of, announced}
use Rattle.text.proofs.Rows.{Kind, none, one, two, three, four, kind}

-- of a byte whose last m bits have a zero in front and r ones before it
ones : (x r m : ℕ) → r + m ≡ 8 → 255 - x < 2 ^ m → 2 ^ m ≤ 2 * (255 - x) + 1 → count_leading_zeros 8 (255 - x) ≡ r
ones x r m a b d = sym (leading_unique 8 (255 - x) r m a b d)

pub ones_announced : (x : ℕ) → 194 ≤ x → x ≤ 244 → Some (count_leading_zeros 8 (255 - x)) ≡ announced (row_of x)
ones_announced x l h = go (kind x)
  where
    go : Kind x → Some (count_leading_zeros 8 (255 - x)) ≡ announced (row_of x)
    go (none a (inl b) e) = absurd (omega arith)
    go (none a (inr b) e) = absurd (omega arith)
    go (one a e) = absurd (omega arith)
    go (two a b e) = ap (λ n. Some n) (ones x 2 6 refl (let p : 255 - x < 64 = omega arith in p) (let p : 64 ≤ 2 * (255 - x) + 1 = omega arith in p)) ∙ sym (ap announced e)
    go (three a b r w e) = ap (λ n. Some n) (ones x 3 5 refl (let p : 255 - x < 32 = omega arith in p) (let p : 32 ≤ 2 * (255 - x) + 1 = omega arith in p)) ∙ sym (ap announced e)
    go (four a b r w e) = ap (λ n. Some n) (ones x 4 4 refl (let p : 255 - x < 16 = omega arith in p) (let p : 16 ≤ 2 * (255 - x) + 1 = omega arith in p)) ∙ sym (ap announced e)
