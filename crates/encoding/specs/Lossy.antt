-- Text out of any bytes: what is not UTF-8 in them becomes U+FFFD. Assumes nothing.
use Rattle.std.specs.Prelude.{◌≡◌, ℕ, zero, suc, ◌-◌, true, cond, List, [], ◌∷◌, ◌++◌, take, is_ok}
use Rattle.text.specs.Front.{front, length_of}
use Rattle.text.specs.Utf8.{utf8}

-- U+FFFD, the replacement character, in UTF-8
abbrev pub replacement : List ℕ
replacement = 0xEF ∷ 0xBF ∷ 0xBD ∷ []

-- the text of what stands at the front of some bytes: a whole sequence is itself, and a broken beginning is U+FFFD
abbrev pub shown : List ℕ → List ℕ
shown bytes = cond (is_ok (front bytes)) (take (length_of (front bytes)) bytes) replacement

-- the text of some bytes, the first k of which are shown already
unfoldable pub lossy_past : ℕ → List ℕ → List ℕ
lossy_past k [] = []
lossy_past (suc k) (b ∷ bs) = lossy_past k bs
lossy_past zero (b ∷ bs) = shown (b ∷ bs) ++ lossy_past (length_of (front (b ∷ bs)) - 1) bs

-- the text of some bytes, from the first of them on
abbrev pub lossy : List ℕ → List ℕ
lossy bytes = lossy_past 0 bytes

-- the text is UTF-8, whatever the bytes are; and bytes that are UTF-8 are their own text
abbrev pub LossyIsText : Type 0
LossyIsText = (bytes : List ℕ) → (utf8 (lossy bytes) ≡ true) × (utf8 bytes ≡ true → lossy bytes ≡ bytes)
