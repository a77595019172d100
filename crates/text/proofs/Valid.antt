-- The test for UTF-8 agrees with what std says of text, and with the table. Assumes nothing.
use Rattle.std.proofs.Common.{◌≡◌, ℕ, Bool, true, false, List, [], ◌∷◌, ◌++◌, map, IsUtf8, refl, ap, ◌∙◌, subst}
use lib.Utf8.{scalar, scalars, encode, encodes}
use Rattle.std.specs.Str.{chars, bytes_eq}
use Rattle.std.specs.List.{concat}
use Rattle.std.proofs.lemmas.Bool.{and_parts, and_from}
use Rattle.std.proofs.lemmas.Str.{encodes-chars, scalars-chars, IsUtf8-nil, IsUtf8-append}
use Rattle.std.proofs.lemmas.Slice.Eq.{bytes_eq-Decides}
use Rattle.text.specs.Table.{is_sequence}
use Rattle.text.specs.Utf8.{utf8, all_sequences, Sequences, Utf8ByTable}
use Rattle.text.proofs.Chars.{char_sequence, sequence_char}

pub utf8_is : (bs : List ℕ) → IsUtf8 bs → utf8 bs ≡ true
unfolding utf8
utf8_is bs u =
    let a : scalars (chars bs) ≡ true = scalars-chars bs u in
    let b : bytes_eq (encodes (chars bs)) bs ≡ true = (bytes_eq-Decides (encodes (chars bs)) bs).1 (encodes-chars bs u) in
    rw (a, b)

pub is_utf8_lem : (bs : List ℕ) → utf8 bs ≡ true → IsUtf8 bs
unfolding utf8
is_utf8_lem bs e =
    let p = and_parts (scalars (chars bs)) (bytes_eq (encodes (chars bs)) bs) e in
    (chars bs, (p.0, (bytes_eq-Decides (encodes (chars bs)) bs).0 p.1))

by_test : (bs : List ℕ) → (IsUtf8 bs → ⊥) → (b : Bool) → utf8 bs ≡ b → false ≡ b
by_test bs ill true e = absurd (ill (is_utf8_lem bs e))
by_test bs ill false e = refl

pub not_utf8 : (bs : List ℕ) → (IsUtf8 bs → ⊥) → false ≡ utf8 bs
not_utf8 bs ill = by_test bs ill (utf8 bs) refl

-- text is the encodings of its characters, which are sequences
all_chars : (cs : List ℕ) → scalars cs ≡ true → all_sequences (map encode cs) ≡ true
all_chars [] e = refl
all_chars (c ∷ cs) e =
    let p = and_parts (scalar c) (scalars cs) e in
    and_from _ _ (char_sequence c p.0) (all_chars cs p.1)

joined_chars : (cs : List ℕ) → concat (map encode cs) ≡ encodes cs
joined_chars [] = refl
joined_chars (c ∷ cs) = ap (λ z. encode c ++ z) (joined_chars cs)

sequences_utf8 : (ss : List (List ℕ)) → all_sequences ss ≡ true → IsUtf8 (concat ss)
sequences_utf8 [] e = IsUtf8-nil
sequences_utf8 (s ∷ ss) e =
    let p = and_parts (is_sequence s) (all_sequences ss) e in
    IsUtf8-append s (concat ss) (sequence_char s p.0) (sequences_utf8 ss p.1)

pub utf8_by_table : Utf8ByTable
utf8_by_table bs = (cut, whole)
  where
    cut : utf8 bs ≡ true → Sequences bs
    cut e = let u = is_utf8_lem bs e in (map encode u.0, all_chars u.0 u.1.0, joined_chars u.0 ∙ u.1.1)

    whole : Sequences bs → utf8 bs ≡ true
    whole s = utf8_is bs (subst IsUtf8 s.2 (sequences_utf8 s.0 s.1))
