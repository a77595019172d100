-- A line that is cut off some bytes: what it takes of them, and what the reply is cut into behind it. Assumes nothing.
use Rattle.std.proofs.Common.{◌≡◌, ℕ, suc, ◌+◌, ◌-◌, ◌<◌, ◌≤◌, Bool, true, false, cond, eqb, leb, List, [], ◌∷◌, ◌++◌, length, take, drop, Ok, Err, Result, sym, refl, ap, ◌∙◌, arith}
use Rattle.std.proofs.lemmas.Bool.{leb-false}
use Rattle.std.proofs.lemmas.List.{append_assoc}
use Rattle.link.specs.declared.wire.Ending.{Ending}
use Rattle.command.specs.declared.refusal.Refusal.TheVariants.{ReplyTooLong}
use Rattle.reply.specs.Lines.{Place, at_later, judge}
use Rattle.reply.specs.Replies.{Unread, unread, Cut, cut, by_line, reply_on, LineCut, line_cut, line_on, reached}

module _ (limit : ℕ) (ending : Ending) where
  -- what the bytes behind a byte are cut into, by whether it ends the line and whether there is no room for it
  abbrev line_at : ℕ → List ℕ → Bool → Bool → LineCut
  line_at n bs ten full = cond full (line_cut (Err (unread ReplyTooLong n)) bs) (cond ten (line_cut (Ok (n + 1)) bs) (line_on limit ending (n + 1) bs))

  -- how much a line stores, of which n bytes of its reply came before, and what it leaves
  pub record LineFacts (n : ℕ) (bs : List ℕ) (p : LineCut) : Type 0 where
    pub more : n ≤ reached p.got
    pub within : reached p.got ≤ n + length bs
    pub room : reached p.got ≤ limit
    pub ok : (m : ℕ) → p.got ≡ Ok m → (n < m) × (p.rest ≡ drop (m - n) bs)

  facts_byte : (n b : ℕ) (bs : List ℕ) → n ≤ limit → (n + 1 ≤ limit → LineFacts (n + 1) bs (line_on limit ending (n + 1) bs)) → (ten full : Bool) → leb limit n ≡ full → LineFacts n (b ∷ bs) (line_at n bs ten full)
  facts_byte n b bs h ih ten true f = record { more = omega arith; within = omega arith; room = h; ok = λ m e. cc }
  facts_byte n b bs h ih true false f =
      let free = leb-false limit n f in
      record { more = omega arith; within = omega arith; room = omega arith; ok = λ m e. let is : n + 1 ≡ m = cc in let one : m - n ≡ 1 = omega arith in (omega arith, ap (λ k. drop k (b ∷ bs)) (sym one)) }
  facts_byte n b bs h ih false false f =
      let free = leb-false limit n f in
      let r = ih (omega arith) in
      record {
        more = omega (arith, r.more);
        within = omega (arith, r.within);
        room = r.room;
        ok = λ m e. let s = r.ok m e in let k : m - n ≡ suc (m - (n + 1)) = omega (arith, s.0) in (omega (arith, s.0), s.1 ∙ ap (λ k. drop k (b ∷ bs)) (sym k));
      }

  pub line_facts : (n : ℕ) (bs : List ℕ) → n ≤ limit → LineFacts n bs (line_on limit ending n bs)
  line_facts n [] h = record { more = omega arith; within = omega arith; room = h; ok = λ m e. cc }
  line_facts n (b ∷ bs) h = facts_byte n b bs h (λ g. line_facts (n + 1) bs g) (eqb b 10) (leb limit n) refl

  -- what a reply is cut into behind a line of which l came before
  abbrev pub behind_line : Place → List ℕ → ℕ → List ℕ → Result ℕ Unread → List ℕ → Cut
  behind_line place l n bs (Ok m) rest = by_line m rest (λ last. reply_on limit ending m (at_later last) [] rest) (judge place (l ++ take (m - n) bs))
  behind_line place l n bs (Err u) rest = cut (Err u) rest

  one_less : (place : Place) (l : List ℕ) (n b : ℕ) (bs : List ℕ) (got : Result ℕ Unread) (rest : List ℕ) → ((m : ℕ) → got ≡ Ok m → n + 1 < m) → behind_line place (l ++ b ∷ []) (n + 1) bs got rest ≡ behind_line place l n (b ∷ bs) got rest
  one_less place l n b bs (Err u) rest above = refl
  one_less place l n b bs (Ok m) rest above =
      let k : m - n ≡ suc (m - (n + 1)) = omega (arith, above m refl) in
      let line : (l ++ b ∷ []) ++ take (m - (n + 1)) bs ≡ l ++ take (m - n) (b ∷ bs) = append_assoc l (b ∷ []) (take (m - (n + 1)) bs) ∙ ap (λ z. l ++ take z (b ∷ bs)) (sym k) in
      ap (λ z. by_line m rest (λ last. reply_on limit ending m (at_later last) [] rest) (judge place z)) line

  abbrev Same : Place → List ℕ → ℕ → List ℕ → Cut → LineCut → Type 0
  Same place l n bs c p = c ≡ behind_line place l n bs p.got p.rest

  same_byte : (place : Place) (l : List ℕ) (n b : ℕ) (bs : List ℕ) → (n + 1 ≤ limit → Same place (l ++ b ∷ []) (n + 1) bs (reply_on limit ending (n + 1) place (l ++ b ∷ []) bs) (line_on limit ending (n + 1) bs)) → (ten full : Bool) → leb limit n ≡ full → Same place l n (b ∷ bs) (cond full (cut (Err (unread ReplyTooLong n)) bs) (cond ten (by_line (n + 1) bs (λ last. reply_on limit ending (n + 1) (at_later last) [] bs) (judge place (l ++ b ∷ []))) (reply_on limit ending (n + 1) place (l ++ b ∷ []) bs))) (line_at n bs ten full)
  same_byte place l n b bs ih ten true f = refl
  same_byte place l n b bs ih true false f =
      let one : 1 ≡ n + 1 - n = omega arith in
      ap (λ k. by_line (n + 1) bs (λ last. reply_on limit ending (n + 1) (at_later last) [] bs) (judge place (l ++ take k (b ∷ bs)))) one
  same_byte place l n b bs ih false false f =
      let free = leb-false limit n f in
      let h : n + 1 ≤ limit = omega arith in
      ih h ∙ one_less place l n b bs (line_on limit ending (n + 1) bs).got (line_on limit ending (n + 1) bs).rest (λ m e. ((line_facts (n + 1) bs h).ok m e).0)

  -- a reply is cut line by line
  pub by_lines : (place : Place) (l : List ℕ) (n : ℕ) (bs : List ℕ) → reply_on limit ending n place l bs ≡ behind_line place l n bs (line_on limit ending n bs).got (line_on limit ending n bs).rest
  by_lines place l n [] = refl
  by_lines place l n (b ∷ bs) = same_byte place l n b bs (λ _. by_lines place (l ++ b ∷ []) (n + 1) bs) (eqb b 10) (leb limit n) refl
