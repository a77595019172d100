-- A reply is local: what finishes it is in its own bytes, and what follows them is left. Assumes nothing.
use Rattle.std.proofs.Common.{◌≡◌, ℕ, suc, ◌+◌, ◌<◌, ◌≤◌, Bool, true, false, cond, eqb, leb, List, [], ◌∷◌, ◌++◌, length, take, Ok, Err, Result, sym, refl, ap, ◌∙◌, arith}
use Rattle.std.proofs.lemmas.Bool.{leb-false, leb-true}
use Rattle.std.proofs.lemmas.List.{take-append-le, take_at}
use Rattle.link.specs.declared.wire.Ending.{Ending}
use Rattle.link.specs.declared.wire.Ending.TheVariants.{Closed, Broken}
use Rattle.command.specs.declared.refusal.Refusal.TheVariants.{ReplyTooLong, ReplyIllBegun}
use Rattle.reply.specs.declared.reply.Reply.{Reply}
use Rattle.reply.specs.declared.reply.Rule.{Rule}
use Rattle.reply.specs.declared.lines.Last.{Last}
use Rattle.reply.specs.Lines.{Place, at_first, at_later, Judged, ill_begins, it_ends, it_goes_on, judge}
use Rattle.reply.specs.Replies.{Unread, unread, Cut, cut, lost, by_line, reply_on, reply, count, refused}

pub not_ok : (u : Unread) (c : Reply) → Err u ≡ Ok c → ⊥
not_ok u c h = let z : ◌≡◌ {A = ℕ} 0 1 = cc in omega arith

not_ill : (ending : Ending) (m n : ℕ) → ◌≡◌ {A = Result Reply Unread} (Err (unread (lost ending) m)) (Err (unread ReplyIllBegun n)) → ⊥
not_ill Closed m n h = let z : ◌≡◌ {A = ℕ} 13 16 = ap refused h in omega arith
not_ill Broken m n h = let z : ◌≡◌ {A = ℕ} 14 16 = ap refused h in omega arith

not_too_long : (ending : Ending) (m n : ℕ) → ◌≡◌ {A = Result Reply Unread} (Err (unread (lost ending) m)) (Err (unread ReplyTooLong n)) → ⊥
not_too_long Closed m n h = let z : ◌≡◌ {A = ℕ} 13 15 = ap refused h in omega arith
not_too_long Broken m n h = let z : ◌≡◌ {A = ℕ} 14 15 = ap refused h in omega arith

-- more bytes behind
abbrev pub more : List ℕ → Cut → Cut
more x p = cut p.got (p.rest ++ x)

module _ (limit : ℕ) (ending : Ending) where
  -- what the bytes behind a byte are cut into, where k is its line so far, by whether it ends the line
  abbrev pub at_byte : ℕ → Place → List ℕ → List ℕ → Bool → Cut
  at_byte n place k bs ten = cond ten (by_line (n + 1) bs (λ last. reply_on limit ending (n + 1) (at_later last) [] bs) (judge place k)) (reply_on limit ending (n + 1) place k bs)

  -- and by whether there is no room for it
  abbrev pub at_room : ℕ → Place → List ℕ → List ℕ → Bool → Bool → Cut
  at_room n place k bs ten full = cond full (cut (Err (unread ReplyTooLong n)) bs) (at_byte n place k bs ten)

  module _ (c : Reply) (x : List ℕ) where
    abbrev Local : ℕ → Place → List ℕ → List ℕ → Type 0
    Local n place l bs = (reply_on limit ending n place l bs).got ≡ Ok c → reply_on limit ending n place l (bs ++ x) ≡ more x (reply_on limit ending n place l bs)

    lined : (n : ℕ) (bs : List ℕ) → ((last : Last) → Local n (at_later last) [] bs) → (j : Judged) → (by_line n bs (λ last. reply_on limit ending n (at_later last) [] bs) j).got ≡ Ok c → by_line n (bs ++ x) (λ last. reply_on limit ending n (at_later last) [] (bs ++ x)) j ≡ more x (by_line n bs (λ last. reply_on limit ending n (at_later last) [] bs) j)
    lined n bs h ill_begins e = refl
    lined n bs h (it_ends d) e = refl
    lined n bs h (it_goes_on last) e = h last e

    byte : (n : ℕ) (place : Place) (k bs : List ℕ) → Local (n + 1) place k bs → ((last : Last) → Local (n + 1) (at_later last) [] bs) → (ten full : Bool) → (at_room n place k bs ten full).got ≡ Ok c → at_room n place k (bs ++ x) ten full ≡ more x (at_room n place k bs ten full)
    byte n place k bs h g ten true e = refl
    byte n place k bs h g true false e = lined (n + 1) bs g (judge place k) e
    byte n place k bs h g false false e = h e

    local : (n : ℕ) (place : Place) (l bs : List ℕ) → Local n place l bs
    local n place l [] e = absurd (not_ok (unread (lost ending) n) c e)
    local n place l (b ∷ bs) e = byte n place (l ++ b ∷ []) bs (local (n + 1) place (l ++ b ∷ []) bs) (λ last. local (n + 1) (at_later last) [] bs) (eqb b 10) (leb limit n) e

  -- a reply that is finished in some bytes is the same with more behind, which is left
  pub reply_more : (rule : Rule) (bs x : List ℕ) (c : Reply) → (reply rule limit ending bs).got ≡ Ok c → reply rule limit ending (bs ++ x) ≡ more x (reply rule limit ending bs)
  unfolding reply
  reply_more rule bs x c e = local c x 0 (at_first rule) [] bs e

  -- How the bytes of a reply, of which n came before, were taken: it is finished; its first line is ill begun; the link
  -- ended, and all that came was taken; or it is full, and one byte more was taken than is stored.
  pub data Way (n : ℕ) (took : List ℕ) (p : Cut) : Type 0 where
    finished : (c : Reply) → p.got ≡ Ok c → c.length ≡ n + length took → 0 < length took → c.length ≤ limit → Way n took p
    ill : p.got ≡ Err (unread ReplyIllBegun (n + length took)) → 0 < length took → n + length took ≤ limit → Way n took p
    ended : p.got ≡ Err (unread (lost ending) (n + length took)) → p.rest ≡ [] → (n ≤ limit → n + length took ≤ limit) → Way n took p
    too_long : (k : ℕ) → p.got ≡ Err (unread ReplyTooLong k) → k + 1 ≡ n + length took → (n ≤ limit → k ≡ limit) → Way n took p

  -- a byte that is stored before
  way_more : (n b : ℕ) (took : List ℕ) (p : Cut) → n < limit → Way (n + 1) took p → Way n (b ∷ took) p
  way_more n b took p h (finished c e long some within) = finished c e (omega arith) (omega arith) within
  way_more n b took p h (ill e some within) =
      let m : n + 1 + length took ≡ n + suc (length took) = omega arith in
      ill (e ∙ ap (λ k. Err (unread ReplyIllBegun k)) m) (omega arith) (omega arith)
  way_more n b took p h (ended e none within) =
      let m : n + 1 + length took ≡ n + suc (length took) = omega arith in
      ended (e ∙ ap (λ k. Err (unread (lost ending) k)) m) none (λ g. let i = within (omega arith) in omega arith)
  way_more n b took p h (too_long k e long is) = too_long k e (omega arith) (λ g. is (omega arith))

  -- the bytes of a reply: alone they give the same, and nothing is left
  record Alone (n : ℕ) (place : Place) (l bs : List ℕ) (p : Cut) : Type 0 where
    took : List ℕ
    whole : bs ≡ took ++ p.rest
    same : reply_on limit ending n place l took ≡ cut p.got []
    way : Way n took p

  module _ (n : ℕ) (place : Place) (l : List ℕ) (b : ℕ) where
    pub by_tests : (bs : List ℕ) (ten full : Bool) → eqb b 10 ≡ ten → leb limit n ≡ full → reply_on limit ending n place l (b ∷ bs) ≡ at_room n place (l ++ b ∷ []) bs ten full
    by_tests bs ten full e f = ap (λ z. at_room n place (l ++ b ∷ []) bs z (leb limit n)) e ∙ ap (at_room n place (l ++ b ∷ []) bs ten) f

    pub is_line : (j : Judged) (bs : List ℕ) → eqb b 10 ≡ true → leb limit n ≡ false → judge place (l ++ b ∷ []) ≡ j → reply_on limit ending n place l (b ∷ bs) ≡ by_line (n + 1) bs (λ last. reply_on limit ending (n + 1) (at_later last) [] bs) j
    is_line j bs ten free says = by_tests bs true false ten free ∙ ap (by_line (n + 1) bs (λ last. reply_on limit ending (n + 1) (at_later last) [] bs)) says

    alone_line : (bs : List ℕ) → eqb b 10 ≡ true → leb limit n ≡ false → ((last : Last) → Alone (n + 1) (at_later last) [] bs (reply_on limit ending (n + 1) (at_later last) [] bs)) → (j : Judged) → judge place (l ++ b ∷ []) ≡ j → Alone n place l (b ∷ bs) (by_line (n + 1) bs (λ last. reply_on limit ending (n + 1) (at_later last) [] bs) j)
    alone_line bs ten free h ill_begins says =
        let room = leb-false limit n free in
        record { took = b ∷ []; whole = refl; same = is_line ill_begins [] ten free says; way = ill refl (omega arith) (omega arith) }
    alone_line bs ten free h (it_ends d) says =
        let room = leb-false limit n free in
        record { took = b ∷ []; whole = refl; same = is_line (it_ends d) [] ten free says; way = finished _ refl refl (omega arith) (omega arith) }
    alone_line bs ten free h (it_goes_on last) says =
        let a = h last in
        record { took = b ∷ a.took; whole = ap (λ z. b ∷ z) a.whole; same = is_line (it_goes_on last) a.took ten free says ∙ a.same; way = way_more n b a.took _ (leb-false limit n free) a.way }

    alone_byte : (bs : List ℕ) → Alone (n + 1) place (l ++ b ∷ []) bs (reply_on limit ending (n + 1) place (l ++ b ∷ []) bs) → ((last : Last) → Alone (n + 1) (at_later last) [] bs (reply_on limit ending (n + 1) (at_later last) [] bs)) → (ten full : Bool) → eqb b 10 ≡ ten → leb limit n ≡ full → Alone n place l (b ∷ bs) (at_room n place (l ++ b ∷ []) bs ten full)
    alone_byte bs h g ten true e f =
        let over = leb-true limit n f in
        record { took = b ∷ []; whole = refl; same = by_tests [] ten true e f; way = too_long n refl refl (λ i. omega arith) }
    alone_byte bs h g true false e f = alone_line bs e f g (judge place (l ++ b ∷ [])) refl
    alone_byte bs h g false false e f = record { took = b ∷ h.took; whole = ap (λ z. b ∷ z) h.whole; same = by_tests h.took false false e f ∙ h.same; way = way_more n b h.took _ (leb-false limit n f) h.way }

  alone : (n : ℕ) (place : Place) (l bs : List ℕ) → Alone n place l bs (reply_on limit ending n place l bs)
  alone n place l [] = record { took = []; whole = refl; same = refl; way = ended (ap (λ k. Err (unread (lost ending) k)) (omega arith)) refl (λ g. omega arith) }
  alone n place l (b ∷ bs) = alone_byte n place l b bs (alone (n + 1) place (l ++ b ∷ []) bs) (λ last. alone (n + 1) (at_later last) [] bs) (eqb b 10) (leb limit n) refl refl

  -- the bytes that a reply takes of those coming: alone they give the same, and nothing is left
  pub record Took (rule : Rule) (bs : List ℕ) : Type 0 where
    pub took : List ℕ
    pub whole : bs ≡ took ++ (reply rule limit ending bs).rest
    pub same : reply rule limit ending took ≡ cut (reply rule limit ending bs).got []
    pub way : Way 0 took (reply rule limit ending bs)

  pub reply_took : (rule : Rule) (bs : List ℕ) → Took rule bs
  unfolding reply
  reply_took rule bs = let a = alone 0 (at_first rule) [] bs in record { took = a.took; whole = a.whole; same = a.same; way = a.way }

  way_within : (took : List ℕ) (p : Cut) → Way 0 took p → (count p.got ≤ limit) × (count p.got ≤ length took)
  way_within took p (finished c e long some within) = let i = ap count e in (omega arith, omega arith)
  way_within took p (ill e some within) = let i = ap count e in (omega arith, omega arith)
  way_within took p (ended e none within) = let i = ap count e in let j = within (omega arith) in (omega arith, omega arith)
  way_within took p (too_long k e long is) = let i = ap count e in let j = is (omega arith) in (omega arith, omega arith)

  way_finished : (took : List ℕ) (p : Cut) → Way 0 took p → (c : Reply) → p.got ≡ Ok c → (0 < c.length) × (c.length ≤ limit) × (length took ≡ c.length)
  way_finished took p (finished d e long some within) c is = let i : c.length ≡ d.length = ap count (sym is ∙ e) in (omega arith, omega arith, omega arith)
  way_finished took p (ill e some within) c is = absurd (not_ok _ c (sym e ∙ is))
  way_finished took p (ended e none within) c is = absurd (not_ok _ c (sym e ∙ is))
  way_finished took p (too_long k e long h) c is = absurd (not_ok _ c (sym e ∙ is))

  way_ended : (took : List ℕ) (p : Cut) → Way 0 took p → (n : ℕ) → p.got ≡ Err (unread (lost ending) n) → p.rest ≡ []
  way_ended took p (finished c e long some within) n is = absurd (not_ok _ c (sym is ∙ e))
  way_ended took p (ill e some within) n is = absurd (not_ill ending _ _ (sym is ∙ e))
  way_ended took p (ended e none within) n is = none
  way_ended took p (too_long k e long h) n is = absurd (not_too_long ending _ _ (sym is ∙ e))

  module _ (rule : Rule) (bs : List ℕ) where
    -- no more is stored than the limit
    pub reply_within : count (reply rule limit ending bs).got ≤ limit
    reply_within = let t = reply_took rule bs in (way_within t.took _ t.way).0

    -- what is stored is the front of the bytes taken
    pub reply_stored : take (count (reply rule limit ending bs).got) bs ≡ take (count (reply rule limit ending bs).got) (reply_took rule bs).took
    reply_stored =
        let t = reply_took rule bs in
        ap (take (count (reply rule limit ending bs).got)) t.whole ∙ take-append-le (count (reply rule limit ending bs).got) t.took (reply rule limit ending bs).rest (way_within t.took _ t.way).1

    -- a finished reply has a byte at least and no more than the limit, and its bytes are those taken
    pub reply_long : (c : Reply) → (reply rule limit ending bs).got ≡ Ok c → (0 < c.length) × (c.length ≤ limit)
    reply_long c e = let t = reply_took rule bs in let h = way_finished t.took _ t.way c e in (h.0, h.1)

    pub reply_bytes : (c : Reply) → (reply rule limit ending bs).got ≡ Ok c → bs ≡ take c.length bs ++ (reply rule limit ending bs).rest
    reply_bytes c e =
        let t = reply_took rule bs in
        let h = way_finished t.took _ t.way c e in
        let front : take c.length bs ≡ t.took = ap (take c.length) t.whole ∙ take_at t.took (reply rule limit ending bs).rest c.length h.2 in
        t.whole ∙ ap (λ z. z ++ (reply rule limit ending bs).rest) (sym front)

    -- where the link's end cut it short, nothing is left
    pub reply_ended : (n : ℕ) → (reply rule limit ending bs).got ≡ Err (unread (lost ending) n) → (reply rule limit ending bs).rest ≡ []
    reply_ended n e = let t = reply_took rule bs in way_ended t.took _ t.way n e
