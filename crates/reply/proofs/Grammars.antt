-- The recursion that cuts a reply off some bytes is the grammar of replies, both ways. Assumes nothing.
use Rattle.std.proofs.Common.{◌≡◌, ℕ, suc, ◌+◌, ◌<◌, ◌≤◌, Bool, true, false, cond, eqb, leb, List, [], ◌∷◌, ◌++◌, length, take, drop, Some, None, Ok, Err, Option, Result, sym, refl, ap, ◌∙◌, subst, ap₂, arith}
use Rattle.std.proofs.lemmas.Bool.{eqb-true, eqb-false, ne_eqb, lt-leb}
use Rattle.std.proofs.lemmas.List.{append_assoc, append-nil, length-append, length-take, take-append-drop, take_at}
use Rattle.std.specs.List.{concat}
use Rattle.link.specs.declared.wire.Ending.{Ending}
use Rattle.link.specs.declared.wire.Ending.TheVariants.{Closed}
use Rattle.command.specs.declared.fault.Fault.{Fault}
use Rattle.command.specs.declared.verb.Verb.{Verb}
use Rattle.reply.specs.declared.reply.Reply.{Reply}
use Rattle.reply.specs.declared.reply.Rule.{Rule}
use Rattle.reply.specs.declared.lines.Last.{Last}
use Rattle.reply.specs.Lines.{Place, at_first, at_later, Judged, ill_begins, it_ends, it_goes_on, begun, last_of, ender, said, judge_by, judge}
use Rattle.reply.specs.Replies.{Unread, Cut, cut, by_line, reply_on, reply, count, answered}
use Rattle.reply.specs.Grammar.{Each, Line, EndsWith, IsReply, NoReply, ByGrammar, OneReading}
use Rattle.reply.proofs.Replies.{not_ok, at_room, by_tests, is_line, reply_long}

-- what the lines from a place on are, in a reply with a code
abbrev Says : Place → List (List ℕ) → ℕ → Type 0
Says (at_later last) ls code = EndsWith last ls code
Says (at_first rule) [] code = ⊥
Says (at_first rule) (l ∷ ls) code = (begun l ≡ true) × EndsWith (last_of rule l) (l ∷ ls) code

-- A line that ends the reply, and one that does not, as the grammar has it and as it is judged.

said_ends : (last : Last) (o : Option ℕ) (code : ℕ) → said last o ≡ it_ends code → o ≡ Some code
said_ends last None code e = cc
said_ends last (Some d) code e = cc

said_goes : (last : Last) (o : Option ℕ) (next : Last) → said last o ≡ it_goes_on next → (o ≡ None) × (last ≡ next)
said_goes last None next e = (refl, cc)
said_goes last (Some d) next e = cc

opened : (j : Judged) (well : Bool) (k : Judged) → (k ≡ ill_begins → ⊥) → cond well j ill_begins ≡ k → (well ≡ true) × (j ≡ k)
opened j true k other e = (refl, e)
opened j false k other e = absurd (other (sym e))

not_ends : (code : ℕ) → it_ends code ≡ ill_begins → ⊥
not_ends code e = cc

not_goes : (last : Last) → it_goes_on last ≡ ill_begins → ⊥
not_goes last e = cc

judge_ends : (place : Place) (l : List ℕ) (code : ℕ) → judge place l ≡ it_ends code → Says place (l ∷ []) code
judge_ends (at_later last) l code e = said_ends last (ender last l) code e
judge_ends (at_first rule) l code e =
    let h = opened (judge_by (last_of rule l) l) (begun l) (it_ends code) (not_ends code) e in
    (h.0, said_ends (last_of rule l) (ender (last_of rule l) l) code h.1)

goes_later : (last next : Last) (l : List ℕ) → judge_by last l ≡ it_goes_on next → (ls : List (List ℕ)) (code : ℕ) → EndsWith next ls code → EndsWith last (l ∷ ls) code
goes_later last next l e [] code h = absurd h
goes_later last next l e (m ∷ ls) code h =
    let s = said_goes last (ender last l) next e in
    (s.0, subst (λ (z : Last). EndsWith z (m ∷ ls) code) (sym s.1) h)

judge_goes : (place : Place) (l : List ℕ) (next : Last) → judge place l ≡ it_goes_on next → (ls : List (List ℕ)) (code : ℕ) → EndsWith next ls code → Says place (l ∷ ls) code
judge_goes (at_later last) l next e ls code h = goes_later last next l e ls code h
judge_goes (at_first rule) l next e ls code h =
    let s = opened (judge_by (last_of rule l) l) (begun l) (it_goes_on next) (not_goes next) e in
    (s.0, goes_later (last_of rule l) next l s.1 ls code h)

ends_judge : (place : Place) (l : List ℕ) (code : ℕ) → Says place (l ∷ []) code → judge place l ≡ it_ends code
ends_judge (at_later last) l code h = ap (said last) h
ends_judge (at_first rule) l code h = let e : begun l ≡ true = h.0 in rw e (ap (said (last_of rule l)) h.1)

goes_judge : (place : Place) (l m : List ℕ) (ls : List (List ℕ)) (code : ℕ) → Says place (l ∷ m ∷ ls) code → (last : Last) × (judge place l ≡ it_goes_on last) × EndsWith last (m ∷ ls) code
goes_judge (at_later last) l m ls code h = (last, ap (said last) h.0, h.1)
goes_judge (at_first rule) l m ls code h = (last_of rule l, let e : begun l ≡ true = h.0 in rw e (ap (said (last_of rule l)) h.1.0), h.1.1)

-- the code of a finished reply
abbrev code_in : Result Reply Unread → ℕ
code_in (Ok c) = c.code
code_in (Err _) = 0

each_push : (P : ℕ → Type 0) (xs : List ℕ) (y : ℕ) → Each P xs → P y → Each P (xs ++ y ∷ [])
each_push P [] y h p = (p, tt)
each_push P (x ∷ xs) y h p = (h.0, each_push P xs y h.1 p)

module _ (limit : ℕ) (ending : Ending) where
  -- what the bytes behind a whole line are cut into
  abbrev behind : ℕ → List ℕ → Judged → Cut
  behind n y j = by_line n y (λ last. reply_on limit ending n (at_later last) [] y) j

  -- through the end of a line
  through : (text : List ℕ) → Each (λ b. b ≡ 10 → ⊥) text → (n : ℕ) (place : Place) (l y : List ℕ) → n + length text < limit → reply_on limit ending n place l (text ++ 10 ∷ y) ≡ behind (n + length text + 1) y (judge place (l ++ (text ++ 10 ∷ [])))
  through [] only n place l y room =
      let z : n + 1 ≡ n + 0 + 1 = omega arith in
      is_line limit ending n place l 10 (judge place (l ++ 10 ∷ [])) y refl (lt-leb limit n (omega arith)) refl
      ∙ ap (λ k. behind k y (judge place (l ++ 10 ∷ []))) z
  through (t ∷ text) only n place l y room =
      let z : n + 1 + length text + 1 ≡ n + suc (length text) + 1 = omega arith in
      by_tests limit ending n place l t (text ++ 10 ∷ y) false false (ne_eqb t 10 only.0) (lt-leb limit n (omega arith))
      ∙ through text only.1 (n + 1) place (l ++ t ∷ []) y (omega arith)
      ∙ ap₂ (λ k m. behind k y (judge place m)) z (append_assoc l (t ∷ []) (text ++ 10 ∷ []))

  through_line : (l : List ℕ) → Line l → (n : ℕ) (place : Place) (y : List ℕ) → n + length l ≤ limit → reply_on limit ending n place [] (l ++ y) ≡ behind (n + length l) y (judge place l)
  through_line l line n place y room =
      let long : length l ≡ length line.text + 1 = ap length line.ends ∙ length-append line.text (10 ∷ []) in
      let z : n + length line.text + 1 ≡ n + length l = omega arith in
      ap (λ m. reply_on limit ending n place [] (m ++ y)) line.ends
      ∙ ap (reply_on limit ending n place []) (append_assoc line.text (10 ∷ []) y)
      ∙ through line.text line.only n place [] y (omega arith)
      ∙ ap₂ (λ k m. behind k y (judge place m)) z (sym line.ends)

  -- lines of which the last one ends the reply are cut off as that reply
  found : (ls : List (List ℕ)) → Each Line ls → (n : ℕ) (place : Place) (code : ℕ) (x : List ℕ) → Says place ls code → n + length (concat ls) ≤ limit → reply_on limit ending n place [] (concat ls ++ x) ≡ cut (Ok (record { code = code; length = n + length (concat ls) })) x
  found [] lines n (at_later last) code x h room = absurd h
  found [] lines n (at_first rule) code x h room = absurd h
  found (l ∷ []) lines n place code x h room =
      let all : l ++ [] ≡ l = append-nil l in
      let long = ap length all in
      ap (λ m. reply_on limit ending n place [] (m ++ x)) all
      ∙ through_line l lines.0 n place x (omega arith)
      ∙ ap (behind (n + length l) x) (ends_judge place l code h)
      ∙ ap (λ m. cut (Ok (record { code = code; length = n + length m })) x) (sym all)
  found (l ∷ m ∷ ls) lines n place code x h room =
      let g = goes_judge place l m ls code h in
      let long : length (l ++ concat (m ∷ ls)) ≡ length l + length (concat (m ∷ ls)) = length-append l (concat (m ∷ ls)) in
      let z : n + length l + length (concat (m ∷ ls)) ≡ n + length (l ++ concat (m ∷ ls)) = omega arith in
      ap (reply_on limit ending n place []) (append_assoc l (concat (m ∷ ls)) x)
      ∙ through_line l lines.0 n place (concat (m ∷ ls) ++ x) (omega arith)
      ∙ ap (behind (n + length l) (concat (m ∷ ls) ++ x)) g.1
      ∙ found (m ∷ ls) lines.1 (n + length l) (at_later g.0) code x g.2 (omega arith)
      ∙ ap (λ k. cut (Ok (record { code = code; length = k })) x) z

  -- a reply by the grammar is cut off whatever stands behind it
  pub reply_found : (rule : Rule) (p x : List ℕ) (code : ℕ) → IsReply rule p code → length p ≤ limit → reply rule limit ending (p ++ x) ≡ cut (Ok (record { code = code; length = length p })) x
  unfolding reply
  reply_found rule p x code is room =
      let ls = is.first ∷ is.more in
      let long = ap length is.whole in
      let z : 0 + length (concat (is.first ∷ is.more)) ≡ length p = omega arith in
      ap (λ m. reply_on limit ending 0 (at_first rule) [] (m ++ x)) is.whole
      ∙ found (is.first ∷ is.more) is.lines 0 (at_first rule) code x (is.opens, is.ends) (omega arith)
      ∙ ap (λ k. cut (Ok (record { code = code; length = k })) x) z

  -- a reply that is cut off some bytes, of whose first line l came before
  record Found (n : ℕ) (place : Place) (l bs : List ℕ) (c : Reply) : Type 0 where
    took : List ℕ
    rest : List ℕ
    lines : List (List ℕ)
    whole : bs ≡ took ++ rest
    cuts : l ++ took ≡ concat lines
    each : Each Line lines
    says : Says place lines c.code
    long : c.length ≡ n + length took

  line_of : (l : List ℕ) (b : ℕ) → Each (λ x. x ≡ 10 → ⊥) l → b ≡ 10 → Line (l ++ b ∷ [])
  line_of l b only ten = record { text = l; ends = ap (λ z. l ++ z ∷ []) ten; only = only }

  module _ (c : Reply) where
    abbrev Sound : ℕ → Place → List ℕ → List ℕ → Type 0
    Sound n place l bs = Each (λ x. x ≡ 10 → ⊥) l → (reply_on limit ending n place l bs).got ≡ Ok c → Found n place l bs c

    sound_line : (n : ℕ) (place : Place) (l : List ℕ) (b : ℕ) (bs : List ℕ) → Each (λ x. x ≡ 10 → ⊥) l → b ≡ 10 → ((last : Last) → Sound (n + 1) (at_later last) [] bs) → (j : Judged) → judge place (l ++ b ∷ []) ≡ j → (behind (n + 1) bs j).got ≡ Ok c → Found n place l (b ∷ bs) c
    sound_line n place l b bs only ten h ill_begins says e = absurd (not_ok _ c e)
    sound_line n place l b bs only ten h (it_ends code) says e =
        let f = line_of l b only ten in
        let is : code ≡ c.code = ap code_in e in
        let long : n + 1 ≡ c.length = ap count e in
        record {
          took = b ∷ [];
          rest = bs;
          lines = (l ++ b ∷ []) ∷ [];
          whole = refl;
          cuts = sym (append-nil (l ++ b ∷ []));
          each = (f, tt);
          says = subst (λ (z : ℕ). Says place ((l ++ b ∷ []) ∷ []) z) is (judge_ends place (l ++ b ∷ []) code says);
          long = sym long;
        }
    sound_line n place l b bs only ten h (it_goes_on last) says e =
        let f = line_of l b only ten in
        let r = h last tt e in
        record {
          took = b ∷ r.took;
          rest = r.rest;
          lines = (l ++ b ∷ []) ∷ r.lines;
          whole = ap (λ z. b ∷ z) r.whole;
          cuts = sym (append_assoc l (b ∷ []) r.took) ∙ ap (λ z. (l ++ b ∷ []) ++ z) r.cuts;
          each = (f, r.each);
          says = judge_goes place (l ++ b ∷ []) last says r.lines c.code r.says;
          long = omega (arith, r.long);
        }

    sound_byte : (n : ℕ) (place : Place) (l : List ℕ) (b : ℕ) (bs : List ℕ) → Each (λ x. x ≡ 10 → ⊥) l → Sound (n + 1) place (l ++ b ∷ []) bs → ((last : Last) → Sound (n + 1) (at_later last) [] bs) → (ten full : Bool) → eqb b 10 ≡ ten → (at_room limit ending n place (l ++ b ∷ []) bs ten full).got ≡ Ok c → Found n place l (b ∷ bs) c
    sound_byte n place l b bs only h g ten true t e = absurd (not_ok _ c e)
    sound_byte n place l b bs only h g true false t e = sound_line n place l b bs only (eqb-true b 10 t) g (judge place (l ++ b ∷ [])) refl e
    sound_byte n place l b bs only h g false false t e =
        let r = h (each_push (λ x. x ≡ 10 → ⊥) l b only (eqb-false b 10 t)) e in
        record {
          took = b ∷ r.took;
          rest = r.rest;
          lines = r.lines;
          whole = ap (λ z. b ∷ z) r.whole;
          cuts = sym (append_assoc l (b ∷ []) r.took) ∙ r.cuts;
          each = r.each;
          says = r.says;
          long = omega (arith, r.long);
        }

    sound : (n : ℕ) (place : Place) (l bs : List ℕ) → Sound n place l bs
    sound n place l [] only e = absurd (not_ok _ c e)
    sound n place l (b ∷ bs) only e = sound_byte n place l b bs only (sound (n + 1) place (l ++ b ∷ []) bs) (λ last. sound (n + 1) (at_later last) [] bs) (eqb b 10) (leb limit n) refl e

is_reply : (rule : Rule) (bytes : List ℕ) (code : ℕ) (ls : List (List ℕ)) → bytes ≡ concat ls → Each Line ls → Says (at_first rule) ls code → IsReply rule bytes code
is_reply rule bytes code [] whole each says = absurd says
is_reply rule bytes code (l ∷ ls) whole each says = record { first = l; more = ls; whole = whole; lines = each; opens = says.0; ends = says.1 }

module _ (rule : Rule) (limit : ℕ) (ending : Ending) (bs : List ℕ) where
  -- a reply that is cut off is one by the grammar
  pub reply_sound : (c : Reply) → (reply rule limit ending bs).got ≡ Ok c → IsReply rule (take c.length bs) c.code × (c.length ≤ length bs)
  unfolding reply
  reply_sound c e =
      let f = sound limit ending c 0 (at_first rule) [] bs tt e in
      let long : length f.took ≡ c.length = omega (arith, f.long) in
      let front : take c.length bs ≡ f.took = ap (take c.length) f.whole ∙ take_at f.took f.rest c.length long in
      let all : length bs ≡ length f.took + length f.rest = ap length f.whole ∙ length-append f.took f.rest in
      (is_reply rule (take c.length bs) c.code f.lines (front ∙ f.cuts) f.each f.says, omega arith)

  -- where none is cut off, there is none
  pub reply_none : (u : Unread) → (reply rule limit ending bs).got ≡ Err u → NoReply rule limit bs
  reply_none u e k code room is =
      let long : length (take k bs) ≤ limit = rw length-take (omega arith) in
      let got : (reply rule limit ending bs).got ≡ Ok (record { code = code; length = length (take k bs) }) =
      ap (λ z. (reply rule limit ending z).got) (sym (take-append-drop k bs)) ∙ ap (λ p. p.got) (reply_found limit ending rule (take k bs) (drop k bs) code is long) in
      not_ok u _ (sym e ∙ got)

  says : (verb : Option Verb) (got : Result Reply Unread) → (reply rule limit ending bs).got ≡ got → ByGrammar rule limit bs (answered verb got)
  says verb (Ok c) e = let h = reply_sound c e in record { is = h.0; within = (reply_long limit ending rule bs c e).1; came = h.1 }
  says verb (Err u) e = reply_none u e

  -- what an answer says of the bytes coming
  pub by_grammar : (verb : Option Verb) (r : Result Reply Fault) → r ≡ answered verb (reply rule limit ending bs).got → ByGrammar rule limit bs r
  by_grammar verb r is = subst (λ (z : Result Reply Fault). ByGrammar rule limit bs z) (sym is) (says verb (reply rule limit ending bs).got refl)

pub one_reading_lem : OneReading
one_reading_lem rule bytes p q x y c d pre qre is js =
    let np : length bytes ≡ length p + length x = ap length pre ∙ length-append p x in
    let nq : length bytes ≡ length q + length y = ap length qre ∙ length-append q y in
    let a : reply rule (length bytes) Closed bytes ≡ cut (Ok (record { code = c; length = length p })) x = ap (reply rule (length bytes) Closed) pre ∙ reply_found (length bytes) Closed rule p x c is (omega arith) in
    let b : reply rule (length bytes) Closed bytes ≡ cut (Ok (record { code = d; length = length q })) y = ap (reply rule (length bytes) Closed) qre ∙ reply_found (length bytes) Closed rule q y d js (omega arith) in
    let got = ap (λ z. z.got) (sym a ∙ b) in
    let long : length p ≡ length q = ap count got in
    (sym (take_at p x (length q) long) ∙ ap (take (length q)) (sym pre ∙ qre) ∙ take_at q y (length q) refl, ap code_in got)
