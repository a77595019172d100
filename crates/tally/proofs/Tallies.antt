-- The tally is local too: with more marks and more bytes it goes on from where it stood. Assumes nothing.
use Rattle.std.proofs.Common.{◌≡◌, ℕ, ◌≤◌, Bool, true, false, cond, List, [], ◌∷◌, ◌++◌, length, take, Ok, Err, Result, sym, refl, ap, ◌∙◌, append-nil, arith, length-append}
use Rattle.std.proofs.lemmas.List.{take-append-le}
use Rattle.link.specs.declared.wire.Ending.{Ending}
use Rattle.reply.specs.Replies.{Unread, Cut, reply, count}
use Rattle.reply.specs.Statuses.{preliminary}
use Rattle.reply.specs.declared.reply.Reply.{Reply}
use Rattle.reply.specs.declared.reply.Rule.TheVariants.{Usual}
use Rattle.reply.proofs.Locality.{reply_took}
use Rattle.reply.proofs.Replies.{reply_more}
use Rattle.tally.specs.Observed.{Mark, sent, greeting}
use Rattle.tally.specs.Tally.{Given, Tally, start, reads, gives, settle, one_more, welcome, live, counts, on, tally}

-- the two truth values differ
pub never : true ≡ false → ⊥
never e = let z : ◌≡◌ {A = ℕ} 0 1 = cc in omega arith

-- a tally, field by field
abbrev pub tallied : ℕ → Ending → ℕ → List ℕ → List Given → Bool → List ℕ → Tally
tallied limit ending lines unsettled given broken left = record { limit = limit; ending = ending; lines = lines; unsettled = unsettled; given = given; broken = broken; left = left }

-- the tally with more bytes to take
abbrev pub with_more : List ℕ → Tally → Tally
with_more x t = tallied t.limit t.ending t.lines t.unsettled t.given t.broken (t.left ++ x)

-- the bytes stored of a reply stand in those that it took, so they are the same where more follow
stored_more : (limit : ℕ) (ending : Ending) (bs x : List ℕ) → take (count (reply Usual limit ending bs).got) (bs ++ x) ≡ take (count (reply Usual limit ending bs).got) bs
stored_more limit ending bs x =
    let p = reply_took limit ending Usual bs in
    let inside : count (reply Usual limit ending bs).got ≤ length bs = omega (arith, p.stored, ap length p.whole, length-append p.took (reply Usual limit ending bs).rest) in
    take-append-le (count (reply Usual limit ending bs).got) bs x inside

module _ (x : List ℕ) where
  -- r is stored in the bytes left, whether or not more follow
  abbrev Stored : Tally → Result Reply Unread → Type 0
  Stored t r = take (count r) (t.left ++ x) ≡ take (count r) t.left

  -- a reply given is the same where more bytes follow it
  gives_more : (n : ℕ) (u : List ℕ) (b : Bool) (r : Result Reply Unread) (rest : List ℕ) (t : Tally) → Stored t r → gives n u b r (rest ++ x) (with_more x t) ≡ with_more x (gives n u b r rest t)
  gives_more n u b r rest t h = ap (λ z. tallied t.limit t.ending t.lines u (record { line = n; got = r; bytes = z } ∷ t.given) b (rest ++ x)) h

  -- a choice between two tallies that both are
  either : (b : Bool) (t u t' u' : Tally) → t ≡ with_more x t' → u ≡ with_more x u' → cond b t u ≡ with_more x (cond b t' u')
  either true t u t' u' h g = h
  either false t u t' u' h g = g

  -- so is a line that a reply settles
  settle_more : (n : ℕ) (t : Tally) (r : Result Reply Unread) (rest : List ℕ) → Stored t r → settle n (with_more x t) r (rest ++ x) ≡ with_more x (settle n t r rest)
  settle_more n t (Ok c) rest h = either (preliminary c.code) _ _ _ _ (gives_more n (n ∷ t.unsettled) true (Ok c) rest t h) (gives_more n t.unsettled false (Ok c) rest t h)
  settle_more n t (Err e) rest h = gives_more n (n ∷ t.unsettled) true (Err e) rest t h

  -- and the greeting
  welcome_more : (t : Tally) (r : Result Reply Unread) (rest : List ℕ) → Stored t r → welcome (with_more x t) r (rest ++ x) ≡ with_more x (welcome t r rest)
  welcome_more t (Ok c) rest h = gives_more 0 t.unsettled false (Ok c) rest t h
  welcome_more t (Err e) rest h = gives_more 0 t.unsettled true (Err e) rest t h

  -- a tally that a reply did not break was given a finished one
  settle_ok : (n : ℕ) (t : Tally) (r : Result Reply Unread) (rest : List ℕ) → (settle n t r rest).broken ≡ false → (c : Reply) × (r ≡ Ok c)
  settle_ok n t (Ok c) rest h = (c, refl)
  settle_ok n t (Err e) rest h = absurd (never h)

  -- nor did a greeting that was not finished
  welcome_ok : (t : Tally) (r : Result Reply Unread) (rest : List ℕ) → (welcome t r rest).broken ≡ false → (c : Reply) × (r ≡ Ok c)
  welcome_ok t (Ok c) rest h = (c, refl)
  welcome_ok t (Err e) rest h = absurd (never h)

  -- a mark that does not break the tally is not changed by bytes that come later
  live_more : (e : Mark) (t : Tally) → (live e t).broken ≡ false → live e (with_more x t) ≡ with_more x (live e t)
  live_more (sent l) t h =
      let p : Cut = reads t in
      let ok = settle_ok t.lines t p.got p.rest h in
      ap (λ q. one_more (settle t.lines (with_more x t) q.got q.rest)) (reply_more t.limit t.ending Usual t.left x ok.0 ok.1)
      ∙ ap one_more (settle_more t.lines t p.got p.rest (stored_more t.limit t.ending t.left x))
  live_more greeting t h =
      let p : Cut = reads t in
      let ok = welcome_ok t p.got p.rest h in
      ap (λ q. welcome (with_more x t) q.got q.rest) (reply_more t.limit t.ending Usual t.left x ok.0 ok.1)
      ∙ welcome_more t p.got p.rest (stored_more t.limit t.ending t.left x)

  -- and neither is one that a broken tally does not count
  counts_more : (b : Bool) (e : Mark) (t : Tally) → (cond b t (live e t)).broken ≡ false → cond b (with_more x t) (live e (with_more x t)) ≡ with_more x (cond b t (live e t))
  counts_more true e t h = refl
  counts_more false e t h = live_more e t h

-- a broken tally counts no mark
counts_broken : (b : Bool) (t u : Tally) → b ≡ true → t.broken ≡ true → (cond b t u).broken ≡ true
counts_broken true t u e h = h
counts_broken false t u e h = absurd (never (sym e))

-- a tally that broke stays broken
pub stays_broken : (t : Tally) (es : List Mark) → t.broken ≡ true → (on t es).broken ≡ true
stays_broken t [] h = h
stays_broken t (e ∷ es) h = stays_broken (counts e t) es (counts_broken t.broken t _ h h)

-- a tally that is whole at the end was whole before
whole_before : (b : Bool) (t : Tally) (es : List Mark) → t.broken ≡ b → (on t es).broken ≡ false → t.broken ≡ false
whole_before true t es e h = absurd (never (sym (stays_broken t es e) ∙ h))
whole_before false t es e h = e

-- some marks and then others
pub on_append : (t : Tally) (xs ys : List Mark) → on t (xs ++ ys) ≡ on (on t xs) ys
on_append t [] ys = refl
on_append t (e ∷ xs) ys = on_append (counts e t) xs ys

-- over marks that leave it whole, bytes that come later change nothing but what is left
whole_on : (x : List ℕ) (es : List Mark) (t : Tally) → (on t es).broken ≡ false → on (with_more x t) es ≡ with_more x (on t es)
whole_on x [] t h = refl
whole_on x (e ∷ es) t h = ap (λ u. on u es) (counts_more x t.broken e t (whole_before _ (counts e t) es refl h)) ∙ whole_on x es (counts e t) h

-- no more bytes
pub none_more : (t : Tally) → with_more [] t ≡ t
none_more t = ap (tallied t.limit t.ending t.lines t.unsettled t.given t.broken) (append-nil t.left)

-- over some marks, bytes that come later change nothing but what is left; none come once the tally broke
pub on_more : (b : Bool) (x : List ℕ) (es : List Mark) (t : Tally) → (on t es).broken ≡ b → (b ≡ true → x ≡ []) → on (with_more x t) es ≡ with_more x (on t es)
on_more false x es t e quiet = whole_on x es t e
on_more true x es t e quiet =
    let none : x ≡ [] = quiet refl in
    ap (λ z. on (with_more z t) es) none ∙ ap (λ u. on u es) (none_more t) ∙ sym (none_more (on t es)) ∙ ap (λ z. with_more z (on t es)) (sym none)

-- so the tally over more marks and more bytes goes on from where it stood
pub goes_on : (limit : ℕ) (ending : Ending) (xs ys : List Mark) (bytes later : List ℕ) → ((tally limit ending xs bytes).broken ≡ true → later ≡ []) → tally limit ending (xs ++ ys) (bytes ++ later) ≡ on (with_more later (tally limit ending xs bytes)) ys
goes_on limit ending xs ys bytes later quiet =
    on_append (start limit ending (bytes ++ later)) xs ys ∙ ap (λ u. on u ys) (on_more (tally limit ending xs bytes).broken later xs (start limit ending bytes) refl quiet)
