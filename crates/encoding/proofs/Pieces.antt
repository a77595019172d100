-- The text of some bytes, one piece after another. Assumes nothing.
use Rattle.std.proofs.Common.{◌≡◌, ℕ, ◌-◌, ◌<◌, ◌≤◌, cond, List, [], ◌∷◌, ◌++◌, length, take, drop, Result, is_ok, sym, ap, ◌∙◌, not-suc-le-zero}
use Rattle.std.proofs.lemmas.List.{take_rest}
use Rattle.text.specs.declared.sequences.Broken.{Broken}
use Rattle.text.specs.Front.{front, length_of}
use Rattle.encoding.specs.Lossy.{replacement, lossy}
use Rattle.encoding.specs.Kept.{lossy-nil, lossy_step}

pub lossy_none : (bs : List ℕ) → length bs ≤ 0 → lossy bs ≡ []
lossy_none [] h = lossy-nil
lossy_none (b ∷ bs) h = absurd (not-suc-le-zero h)

-- by what stands in front of them: its text, and the text of the rest
pub lossy_by : (bs : List ℕ) (front_is : Result ℕ Broken) → 0 < length bs → front_is ≡ front bs
    → lossy bs ≡ cond (is_ok front_is) (take (length_of front_is) bs) replacement ++ lossy (take (length bs - length_of front_is) (drop (length_of front_is) bs))
lossy_by bs front_is some e =
    lossy_step bs some
    ∙ ap (λ (z : Result ℕ Broken). cond (is_ok z) (take (length_of z) bs) replacement ++ lossy (drop (length_of z) bs)) (sym e)
    ∙ ap (λ z. cond (is_ok front_is) (take (length_of front_is) bs) replacement ++ lossy z) (sym (take_rest bs (length_of front_is)))
