-- A word that is none of a table's. Assumes nothing.
use Rattle.std.proofs.Common.{◌≡◌, ℕ, false, List, rules}
use Rattle.std.specs.Str.{bytes_eq}
use Rattle.std.proofs.lemmas.Slice.Eq.{bytes_eq-Decides}

pub apart : (w t : List ℕ) → (w ≡ t → ⊥) → bytes_eq w t ≡ false
apart w t h = search (rules, bytes_eq-Decides w t)
