-- What the encodings of the tests encode is decoded to what it was. Assumes nothing.
use Rattle.std.specs.Prelude.{◌≡◌, ℕ, ◌-◌, List, [], ◌∷◌, ◌++◌, length, take, drop}
use Rattle.std.proofs.Common.{sym, ap, ◌∙◌, arith}
use Rattle.std.proofs.lemmas.List.{length-append, take_at}
use Rattle.encoding.specs.Code.{Back}
use Rattle.session_tests.specs.Codes.{mute, prefixed, suffixed}

pub mute_back : Back mute
mute_back text bytes e = let z : ◌≡◌ {A = ℕ} 0 1 = cc in absurd (omega arith)

pub prefixed_back : (p : ℕ) → Back (prefixed p)
prefixed_back p text bytes e = let same : p ∷ text ≡ bytes = cc in ap (drop 1) (sym same)

pub suffixed_back : (p : ℕ) → Back (suffixed p)
suffixed_back p text bytes e =
    let same : text ++ p ∷ [] ≡ bytes = cc in
    let size : length (text ++ p ∷ []) - 1 ≡ length text = rw (length-append text (p ∷ [])) (omega arith) in
    ap (λ (z : List ℕ). take (length z - 1) z) (sym same) ∙ take_at text (p ∷ []) _ (sym size)
