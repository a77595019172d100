-- The bytes before the first 255 are sent as they are. Assumes nothing.
use Rattle.std.proofs.Common.{◌≡◌, ℕ, suc, ◌+◌, Bool, true, false, cond, not, eqb, List, [], ◌∷◌, ◌++◌, length, take, drop, refl, sym, ap, ◌∙◌, arith}
use Rattle.std.specs.List.{prefix_len}
use Rattle.command.specs.Lines.{single, escape}

-- a line of which the first bytes are left as they are
abbrev parted : ℕ → List ℕ → List ℕ
parted n line = take n line ++ escape (drop n line)

pub run_first : (line : List ℕ) → escape line ≡ parted (prefix_len single line) line
run_first [] = refl
run_first (b ∷ line) = go (eqb b 255) refl (run_first line)
  where
    go : (t : Bool) → eqb b 255 ≡ t → escape line ≡ parted (prefix_len single line) line
        → cond t (255 ∷ 255 ∷ escape line) (b ∷ escape line) ≡ parted (cond (not t) (1 + prefix_len single line) 0) (b ∷ line)
    go true e more = ap (λ t. cond t (255 ∷ 255 ∷ escape line) (b ∷ escape line)) (sym e)
    go false e more =
        let next : suc (prefix_len single line) ≡ 1 + prefix_len single line = omega arith in
        ap (λ z. b ∷ z) more ∙ ap (λ n. parted n (b ∷ line)) next

-- a run taken off, where none is left to come
pub run_next : (run line front back : List ℕ) (n : ℕ) → length run ≡ 0 → n ≡ prefix_len single line → front ≡ take n line → back ≡ drop n line
    → run ++ escape line ≡ front ++ (run ++ escape back)
run_next [] line front back n none is f b =
    run_first line
    ∙ ap (λ k. parted k line) (sym is)
    ∙ ap (λ z. z ++ escape (drop n line)) (sym f)
    ∙ ap (λ z. front ++ escape z) (sym b)
run_next (x ∷ run) line front back n none is f b = absurd (omega (arith, none))
