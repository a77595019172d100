-- What is decoded is UTF-8, and UTF-8 is decoded to itself: the proof of the law that an encoding owes, which Rattle wants
-- beside the definitions. Assumes nothing.
use Rattle.std.specs.Prelude.{◌≡◌, ℕ, zero, suc, ◌-◌, ◌<◌, ◌≤◌, Bool, true, false, cond, List, [], ◌∷◌, ◌++◌, length, take, drop, Some, None, is_ok, IsUtf8, refl}
use Rattle.std.proofs.Common.{sym, ap, subst, ◌∙◌, not-suc-le-zero, arith}
use Rattle.std.specs.List.{concat}
use Rattle.std.proofs.lemmas.List.{length-append, take_at, drop_at}
use Rattle.std.proofs.lemmas.Bool.{and_parts, false≢true}
use Rattle.std.proofs.lemmas.Str.{IsUtf8-nil, IsUtf8-append}
use Rattle.text.specs.Table.{fits, is_sequence}
use Rattle.text.specs.Front.{front, length_of}
use Rattle.text.specs.Utf8.{utf8, all_sequences}
use Rattle.text.proofs.Chars.{sequence_char}
use Rattle.text.proofs.Fronts.{by_table, sequence_nil}
use Rattle.text.proofs.Valid.{utf8_is, utf8_by_table}
use Rattle.encoding.specs.Code.{Back}
use Rattle.encoding.specs.Lossy.{replacement, shown, lossy_past, lossy, LossyIsText}
use Rattle.encoding.specs.Utf8Code.{utf8_code}

past_is : (k : ℕ) (bs : List ℕ) → lossy_past k bs ≡ lossy (drop k bs)
unfolding lossy_past
past_is zero bs = refl
past_is (suc k) [] = refl
past_is (suc k) (b ∷ bs) = past_is k bs

pub lossy-nil : lossy [] ≡ []
unfolding lossy_past
lossy-nil = refl

front_taken : (b : ℕ) (bs : List ℕ) → length_of (front (b ∷ bs)) ≡ suc (length_of (front (b ∷ bs)) - 1)
front_taken b bs = let some : 0 < length_of (front (b ∷ bs)) = (by_table (b ∷ bs)).some (omega arith) in omega arith

-- the first piece, and the text of what follows it
pub lossy_step : (bs : List ℕ) → 0 < length bs → lossy bs ≡ shown bs ++ lossy (drop (length_of (front bs)) bs)
unfolding lossy_past
lossy_step [] h = absurd (not-suc-le-zero h)
lossy_step (b ∷ bs) h =
    ap (λ z. shown (b ∷ bs) ++ z) (past_is (length_of (front (b ∷ bs)) - 1) bs ∙ ap (λ k. lossy (drop k (b ∷ bs))) (sym (front_taken b bs)))

replacement_sequence : is_sequence replacement ≡ true
unfolding is_sequence fits
replacement_sequence = refl

shown-utf8 : (bs : List ℕ) → IsUtf8 (shown bs)
shown-utf8 bs = go (is_ok (front bs)) refl
  where
    go : (w : Bool) → is_ok (front bs) ≡ w → IsUtf8 (cond w (take (length_of (front bs)) bs) replacement)
    go true e = sequence_char _ ((by_table bs).sequence e)
    go false e = sequence_char replacement replacement_sequence

past-utf8 : (k : ℕ) (bs : List ℕ) → IsUtf8 (lossy_past k bs)
unfolding lossy_past
past-utf8 k [] = IsUtf8-nil
past-utf8 (suc k) (b ∷ bs) = past-utf8 k bs
past-utf8 zero (b ∷ bs) = IsUtf8-append (shown (b ∷ bs)) _ (shown-utf8 (b ∷ bs)) (past-utf8 (length_of (front (b ∷ bs)) - 1) bs)

-- a whole sequence in front is kept, whatever follows it
kept_one : (s bs : List ℕ) → is_sequence s ≡ true → 0 < length s → lossy (s ++ bs) ≡ s ++ lossy bs
kept_one s bs e h =
    let all = length-append s bs in
    let inside : length s ≤ length (s ++ bs) = omega arith in
    let some : 0 < length (s ++ bs) = omega arith in
    let p = (by_table (s ++ bs)).only (length s) inside (ap is_sequence (take_at s bs (length s) refl) ∙ e) in
    lossy_step (s ++ bs) some
    ∙ ap (λ (w : Bool). cond w (take (length_of (front (s ++ bs))) (s ++ bs)) replacement ++ lossy (drop (length_of (front (s ++ bs))) (s ++ bs))) p.0
    ∙ ap (λ k. take k (s ++ bs) ++ lossy (drop k (s ++ bs))) p.1
    ∙ ap (λ z. z ++ lossy (drop (length s) (s ++ bs))) (take_at s bs (length s) refl)
    ∙ ap (λ z. s ++ lossy z) (drop_at s bs (length s) refl)

sequence_some : (s : List ℕ) → is_sequence s ≡ true → 0 < length s
sequence_some [] e = absurd (false≢true (sym sequence_nil ∙ e))
sequence_some (b ∷ s) e = omega arith

kept_all : (ss : List (List ℕ)) → all_sequences ss ≡ true → lossy (concat ss) ≡ concat ss
kept_all [] e = lossy-nil
kept_all (s ∷ ss) e =
    let p = and_parts (is_sequence s) (all_sequences ss) e in
    kept_one s (concat ss) p.0 (sequence_some s p.0) ∙ ap (λ z. s ++ z) (kept_all ss p.1)

pub kept : (bs : List ℕ) → utf8 bs ≡ true → lossy bs ≡ bs
kept bs e = let c = (utf8_by_table bs).0 e in subst (λ (z : List ℕ). lossy z ≡ z) c.2 (kept_all c.0 c.1)

pub lossy_is_text_lem : LossyIsText
lossy_is_text_lem bs = (utf8_is (lossy bs) (past-utf8 0 bs), kept bs)

pub back : Back utf8_code
back text bytes e = go (utf8 text) refl e
  where
    go : (t : Bool) → utf8 text ≡ t → cond t (Some text) None ≡ Some bytes → lossy bytes ≡ text
    go true u e = let same : text ≡ bytes = cc in ap lossy (sym same) ∙ kept text u
    go false u e = let z : ◌≡◌ {A = ℕ} 0 1 = cc in absurd (omega arith)
