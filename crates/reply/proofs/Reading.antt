-- The loops that read a line and a reply: what they keep, and what each way out of them owes. Assumes nothing.
use Rattle.std.proofs.Common.{◌≡◌, ℕ, Bool, ◌+◌, ◌-◌, ◌<◌, ◌≤◌, true, false, cond, eqb, leb, List, [], ◌∷◌, ◌++◌, length, get_or, take, drop, set, Some, None, Ok, Err, Option, Result, sym, refl, ap, ◌∙◌, subst, ap₂, arith, append_assoc}
use Rattle.std.proofs.lemmas.List.{drop-drop, drop_more, length-append, length-drop, length-take, length-take-le, take_at, take_more, take-append-drop, set_at, length_push}
use Rattle.std.proofs.lemmas.Slice.{between_from_start, between_is, drop-append-drop}
use Rattle.std.proofs.lemmas.Bool.{eq-eqb, ne_eqb, lt-leb}
use Rattle.std.specs.List.{between}
use Rattle.text.specs.Area.{laid}
use Rattle.link.specs.Wire.{Wire, past, leaving}
use Rattle.link.specs.declared.wire.Ending.{Ending}
use Rattle.command.specs.declared.fault.Fault.{Fault}
use Rattle.command.specs.declared.refusal.Refusal.TheVariants.{ReplyIllBegun}
use Rattle.command.specs.declared.verb.Verb.{Verb}
use Rattle.reply.specs.declared.reply.Reply.{Reply}
use Rattle.reply.specs.declared.reply.Rule.{Rule}
use Rattle.reply.specs.declared.lines.Last.{Last}
use Rattle.reply.specs.Lines.{Place, at_first, at_later, Judged, ill_begins, it_ends, it_goes_on, begun, last_of, settled, ender, said, judge_by, judge}
use Rattle.reply.specs.Replies.{Unread, unread, cut, by_line, reply_on, reply, LineCut, line_cut, line_on, line_answered, reached, read_on, count, fault_of, came, answered, heard}
use Rattle.reply.proofs.CutLines.{LineFacts, line_facts, by_lines, behind_line}

-- one byte more behind those laid at the front of an area
laid_push : (bytes area : List ℕ) (v : ℕ) → length bytes < length area → set (laid bytes area) (length bytes) v ≡ laid (bytes ++ v ∷ []) area
laid_push bytes area v h =
    let n = length bytes in
    ap (λ z. set (bytes ++ z) n v) (drop_more area n 0 h)
    ∙ set_at bytes (get_or area n 0) (drop (n + 1) area) v n refl
    ∙ sym (append_assoc bytes (v ∷ []) (drop (n + 1) area))
    ∙ ap (λ k. (bytes ++ v ∷ []) ++ drop k area) (sym (length_push bytes v))

one_more : (verb : Option Verb) (n : ℕ) (ending : Ending) (cs : List ℕ) (b : ℕ) → Ok b ≡ came verb n ending cs → cs ≡ b ∷ drop 1 cs
one_more verb n ending [] b e = cc
one_more verb n ending (x ∷ cs) b e = let h : x ≡ b = cc in ap (λ z. z ∷ cs) h

-- the first n of the bytes coming are at the front of the area and gone from the link
pub record Stored (area₀ : List ℕ) (w₀ : Wire) (n : ℕ) (area : List ℕ) (w : Wire) : Type 0 where
  pub there : n ≤ length w₀.coming
  pub room : n ≤ length area₀
  pub link : w ≡ past n w₀
  pub front : area ≡ laid (take n w₀.coming) area₀

-- one byte more
module _ (area₀ : List ℕ) (w₀ : Wire) (n : ℕ) (area : List ℕ) (w : Wire) (k : Stored area₀ w₀ n area w) (b : ℕ) (v : Wire) (after : v ≡ past 1 w) (came : w.coming ≡ b ∷ drop 1 w.coming) (free : n < length area₀) where
  one_within : n < length w₀.coming
  one_within =
      let a = ap length (ap (λ z. z.coming) k.link) in
      let s = ap length came in
      omega (arith, length-drop n w₀.coming)

  pub stored_more : Stored area₀ w₀ (n + 1) (set area n b) v
  stored_more =
      let cs = ap (λ z. z.coming) k.link in
      let here : get_or w₀.coming n 0 ≡ b = ap (λ xs. get_or xs 0 0) (sym (drop_more w₀.coming n 0 one_within) ∙ sym cs ∙ came) in
      let all : take (n + 1) w₀.coming ≡ take n w₀.coming ++ b ∷ [] = take_more w₀.coming n 0 one_within ∙ ap (λ y. take n w₀.coming ++ y ∷ []) here in
      let long = length-take-le n w₀.coming k.there in
      record {
        there = omega (arith, one_within);
        room = omega arith;
        link = after ∙ ap (past 1) k.link ∙ ap (λ z. leaving z w₀) (drop-drop 1 n w₀.coming);
        front = ap (λ xs. set xs n b) k.front ∙ ap (λ i. set (laid (take n w₀.coming) area₀) i b) (sym long) ∙ laid_push (take n w₀.coming) area₀ b (omega arith) ∙ ap (λ xs. laid xs area₀) (sym all);
      }

-- the bytes coming with those before them that the area holds
abbrev from_start : ℕ → List ℕ → Wire → Wire
from_start start area w = leaving (take start area ++ w.coming) w

-- a line is read that begins at a place
pub record ReadingLine (area₀ : List ℕ) (w₀ : Wire) (start n : ℕ) (area : List ℕ) (w : Wire) : Type 0 where
  pub stored : Stored area₀ (from_start start area₀ w₀) n area w
  pub same : line_on (length area₀) w₀.ending start w₀.coming ≡ line_on (length area₀) w₀.ending n w.coming

module _ (verb : Option Verb) (area₀ : List ℕ) (w₀ : Wire) (start n : ℕ) (area : List ℕ) (w v : Wire) (k : ReadingLine area₀ w₀ start n area w) (after : v ≡ past 1 w) (b : ℕ) (e : Ok b ≡ came verb n w.ending w.coming) (free : n < length area₀) where
  more : w.coming ≡ b ∷ drop 1 w.coming
  more = one_more verb n w.ending w.coming b e

  next : Stored area₀ (from_start start area₀ w₀) (n + 1) (set area n b) v
  next = stored_more area₀ (from_start start area₀ w₀) n area w k.stored b v after more free

  under : leb (length area₀) n ≡ false
  under = lt-leb (length area₀) n free

  -- a byte that ends its line
  pub line_ends : b ≡ 10 → set area n b ≡ read_on start (line_on (length area₀) w₀.ending start w₀.coming).got w₀.coming area₀
  line_ends ten =
      let is : eqb b 10 ≡ true = eq-eqb b 10 ten in
      let cuts : line_on (length area₀) w₀.ending n (b ∷ drop 1 w.coming) ≡ line_cut (Ok (n + 1)) (drop 1 w.coming) = rw (under, is) refl in
      next.front ∙ ap (λ z. read_on start z.got w₀.coming area₀) (sym (k.same ∙ ap (line_on (length area₀) w₀.ending n) more ∙ cuts))

  -- a byte behind which its line goes on
  pub line_goes_on : (b ≡ 10 → ⊥) → ReadingLine area₀ w₀ start (n + 1) (set area n b) v
  line_goes_on other =
      let is : eqb b 10 ≡ false = ne_eqb b 10 other in
      let on : line_on (length area₀) w₀.ending n (b ∷ drop 1 w.coming) ≡ line_on (length area₀) w₀.ending (n + 1) (drop 1 w.coming) = rw (under, is) refl in
      record {
        stored = next;
        same = k.same ∙ ap (line_on (length area₀) w₀.ending n) more ∙ on ∙ ap (λ z. line_on (length area₀) w₀.ending (n + 1) z.coming) (sym after);
      }

-- a line of a reply begins
pub record AtLine (rule : Rule) (area₀ : List ℕ) (w₀ : Wire) (place : Place) (n : ℕ) (area : List ℕ) (w : Wire) : Type 0 where
  pub stored : Stored area₀ w₀ n area w
  pub long : length area ≡ length area₀
  pub same : reply_on (length area₀) w₀.ending 0 (at_first rule) [] w₀.coming ≡ reply_on (length area₀) w₀.ending n place [] w.coming

-- a line of a reply was read that stands in the area from `start` to n, and says something of the reply
pub record AfterLine (rule : Rule) (area₀ : List ℕ) (w₀ : Wire) (says : Judged) (start n : ℕ) (area : List ℕ) (w : Wire) : Type 0 where
  pub ordered : start ≤ n
  pub stored : Stored area₀ w₀ n area w
  pub long : length area ≡ length area₀
  pub same : reply_on (length area₀) w₀.ending 0 (at_first rule) [] w₀.coming ≡ by_line n w.coming (λ last. reply_on (length area₀) w₀.ending n (at_later last) [] w.coming) says

pub begins : (rule : Rule) (area₀ : List ℕ) (w₀ : Wire) → AtLine rule area₀ w₀ (at_first rule) 0 area₀ w₀
begins rule area₀ w₀ = record { stored = record { there = omega arith; room = omega arith; link = refl; front = refl }; long = refl; same = refl }

-- bytes that are laid over fewer
laid_over : (p q area : List ℕ) → length p ≤ length q → laid q (laid p area) ≡ laid q area
laid_over p q area h = ap (λ z. q ++ z) (drop-append-drop (length p) area p (length q) h refl)

laid_long : (p area : List ℕ) → length p ≤ length area → length (laid p area) ≡ length area
laid_long p area h = simp (length-append, length-drop) (omega arith)

module _ (rule : Rule) (area₀ : List ℕ) (w₀ : Wire) (verb : Option Verb) where
  -- what a return owes, once the cut is known
  owed : (got : Result Reply Unread) (rest area : List ℕ) (v : Wire) → reply_on (length area₀) w₀.ending 0 (at_first rule) [] w₀.coming ≡ cut got rest → area ≡ laid (take (count got) w₀.coming) area₀ → v ≡ leaving rest w₀ → record { answer = answered verb got; area = area; link = v } ≡ heard verb (reply rule (length area₀) w₀.ending w₀.coming) area₀ w₀
  unfolding reply
  owed got rest area v given stored left =
      let e : heard verb (cut got rest) area₀ w₀ ≡ heard verb (reply_on (length area₀) w₀.ending 0 (at_first rule) [] w₀.coming) area₀ w₀ = ap (λ p. heard verb p area₀ w₀) (sym given) in
      ap₂ (λ a l. record { answer = answered verb got; area = a; link = l }) stored left ∙ e

  -- a line is read
  module _ (place : Place) (n : ℕ) (area : List ℕ) (w : Wire) (k : AtLine rule area₀ w₀ place n area w) (new : List ℕ) (v : Wire) (p : LineCut) (is : line_on (length area) w.ending n w.coming ≡ p) (front : new ≡ read_on n p.got w.coming area) (left : v ≡ leaving p.rest w) where
    cuts : line_on (length area₀) w₀.ending n w.coming ≡ p
    cuts = ap (λ z. line_on z w₀.ending n w.coming) (sym k.long) ∙ ap (λ z. line_on (length area) z.ending n w.coming) (sym k.stored.link) ∙ is

    laid_now : n ≤ reached p.got → reached p.got ≤ length w₀.coming → new ≡ laid (take (reached p.got) w₀.coming) area₀
    laid_now more there =
        let long = length-take-le n w₀.coming k.stored.there in
        let same : take n area ≡ take n w₀.coming = ap (take n) k.stored.front ∙ take_at (take n w₀.coming) (drop (length (take n w₀.coming)) area₀) n long in
        let all : take n area ++ w.coming ≡ w₀.coming = ap₂ (λ a b. a ++ b) same (ap (λ z. z.coming) k.stored.link) ∙ take-append-drop n w₀.coming in
        let under : length (take n w₀.coming) ≤ length (take (reached p.got) w₀.coming) = simp length-take (omega arith) in
        front ∙ ap (λ z. laid (take (reached p.got) z) area) all ∙ ap (λ z. laid (take (reached p.got) w₀.coming) z) k.stored.front ∙ laid_over (take n w₀.coming) (take (reached p.got) w₀.coming) area₀ under

    cut_now : reply_on (length area₀) w₀.ending 0 (at_first rule) [] w₀.coming ≡ behind_line (length area₀) w₀.ending place [] n w.coming p.got p.rest
    cut_now = k.same ∙ by_lines (length area₀) w₀.ending place [] n w.coming ∙ ap (λ z. behind_line (length area₀) w₀.ending place [] n w.coming z.got z.rest) cuts

    facts : LineFacts (length area₀) w₀.ending n w.coming p
    facts = subst (λ z. LineFacts (length area₀) w₀.ending n w.coming z) cuts (line_facts (length area₀) w₀.ending n w.coming k.stored.room)

    there : reached p.got ≤ length w₀.coming
    there =
        let a = ap length (ap (λ z. z.coming) k.stored.link) in
        omega (arith, facts.within, length-drop n w₀.coming, k.stored.there)

    -- it is not whole
    pub at_lost : (got : Result ℕ Unread) → p.got ≡ got → (f : Fault) → Err f ≡ line_answered verb got → record { answer = Err f; area = new; link = v } ≡ heard verb (reply rule (length area₀) w₀.ending w₀.coming) area₀ w₀
    at_lost (Ok m) e f answer = cc
    at_lost (Err u) e f answer =
        let g : f ≡ fault_of verb u = cc in
        let now = laid_now facts.more there in
        let at : reached p.got ≡ u.length = ap reached e in
        ap (λ z. record { answer = Err z; area = new; link = v }) g
        ∙ owed (Err u) p.rest new v
        (cut_now ∙ ap (λ z. behind_line (length area₀) w₀.ending place [] n w.coming z p.rest) e)
        (now ∙ ap (λ z. laid (take z w₀.coming) area₀) at)
        (left ∙ ap (leaving p.rest) k.stored.link)

    -- it is whole
    pub at_whole : (got : Result ℕ Unread) → p.got ≡ got → (m : ℕ) → Ok m ≡ line_answered verb got → AfterLine rule area₀ w₀ (judge place (between n m new)) n m new v
    at_whole (Err u) e m answer = cc
    at_whole (Ok j) e m answer =
        let ok : p.got ≡ Ok m = cc in
        let at : reached p.got ≡ m = ap reached ok in
        let f = facts.ok m ok in
        let in_area : m ≤ length area₀ = omega (arith, facts.room) in
        let came : m ≤ length w₀.coming = omega (arith, there) in
        let front : new ≡ laid (take m w₀.coming) area₀ = laid_now facts.more there ∙ ap (λ z. laid (take z w₀.coming) area₀) at in
        let long = length-take-le m w₀.coming came in
        let cs = ap (λ z. z.coming) k.stored.link in
        let sum : n + (m - n) ≡ m = omega (arith, f.0) in
        let rest : p.rest ≡ drop m w₀.coming = f.1 ∙ ap (drop (m - n)) cs ∙ drop-drop (m - n) n w₀.coming ∙ ap (λ z. drop z w₀.coming) sum in
        let held : take m new ≡ take m w₀.coming = ap (take m) front ∙ take_at (take m w₀.coming) (drop (length (take m w₀.coming)) area₀) m long in
        let line : take (m - n) w.coming ≡ between n m new = ap (take (m - n)) cs ∙ between_is w₀.coming n m ∙ ap (drop n) (sym held) ∙ sym (between_is new n m) in
        let coming = ap (λ z. z.coming) left in
        record {
          ordered = omega (arith, f.0);
          stored = record { there = came; room = in_area; link = left ∙ ap (leaving p.rest) k.stored.link ∙ ap (λ z. leaving z w₀) rest; front = front };
          long = ap length front ∙ laid_long (take m w₀.coming) area₀ (omega (arith, long));
          same = cut_now ∙ ap (λ z. behind_line (length area₀) w₀.ending place [] n w.coming z p.rest) ok ∙ ap₂ (λ z y. by_line m y (λ last. reply_on (length area₀) w₀.ending m (at_later last) [] y) (judge place z)) line (sym coming);
        }

  -- what a line says
  module _ (says : Judged) (start n : ℕ) (area : List ℕ) (w : Wire) (k : AfterLine rule area₀ w₀ says start n area w) where
    left_now : w ≡ leaving w.coming w₀
    left_now = k.stored.link ∙ ap (λ z. leaving z w₀) (sym (ap (λ z. z.coming) k.stored.link))

    said_now : (is : Judged) → says ≡ is → reply_on (length area₀) w₀.ending 0 (at_first rule) [] w₀.coming ≡ by_line n w.coming (λ last. reply_on (length area₀) w₀.ending n (at_later last) [] w.coming) is
    said_now is e = k.same ∙ ap (by_line n w.coming (λ last. reply_on (length area₀) w₀.ending n (at_later last) [] w.coming)) e

    pub at_ill : (f : Fault) → f ≡ fault_of verb (unread ReplyIllBegun n) → says ≡ ill_begins → record { answer = Err f; area = area; link = w } ≡ heard verb (reply rule (length area₀) w₀.ending w₀.coming) area₀ w₀
    at_ill f is e = ap (λ z. record { answer = Err z; area = area; link = w }) is ∙ owed (Err (unread ReplyIllBegun n)) w.coming area w (said_now ill_begins e) k.stored.front left_now

    pub at_end : (code : ℕ) → says ≡ it_ends code → record { answer = Ok (record { code = code; length = n }); area = area; link = w } ≡ heard verb (reply rule (length area₀) w₀.ending w₀.coming) area₀ w₀
    at_end code e = owed (Ok (record { code = code; length = n })) w.coming area w (said_now (it_ends code) e) k.stored.front left_now

    pub at_more : (last : Last) → says ≡ it_goes_on last → AtLine rule area₀ w₀ (at_later last) n area w
    at_more last e = record { stored = k.stored; long = k.long; same = said_now (it_goes_on last) e }

-- What a line says, by the tests that were made of it.

none_settled : (begun : Bool) (last : Last) (j : Judged) (o : Option Last) → o ≡ cond begun (Some last) None → ((l : Last) → o ≡ Some l → ⊥) → cond begun j ill_begins ≡ ill_begins
none_settled true last j o e other = absurd (other last e)
none_settled false last j o e other = refl

pub ill_first : (rule : Rule) (xs : List ℕ) (n : ℕ) (o : Option Last) → o ≡ settled rule (take n xs) → ((l : Last) → o ≡ Some l → ⊥) → judge (at_first rule) (between 0 n xs) ≡ ill_begins
ill_first rule xs n o e other = ap (judge (at_first rule)) (between_from_start xs n) ∙ none_settled (begun (take n xs)) (last_of rule (take n xs)) _ o e other

one_settled : (begun : Bool) (l last : Last) (line : List ℕ) → Some last ≡ cond begun (Some l) None → cond begun (judge_by l line) ill_begins ≡ judge_by last line
one_settled true l last line e = let is : l ≡ last = cc in ap (λ z. judge_by z line) is
one_settled false l last line e = cc

pub opened : (rule : Rule) (xs : List ℕ) (n : ℕ) (last : Last) → Some last ≡ settled rule (take n xs) → judge (at_first rule) (between 0 n xs) ≡ judge_by last (between 0 n xs)
opened rule xs n last e =
    let all = between_from_start xs n in
    ap (judge (at_first rule)) all ∙ one_settled (begun (take n xs)) (last_of rule (take n xs)) last (take n xs) e ∙ ap (judge_by last) (sym all)

pub ended : (last : Last) (l : List ℕ) (code : ℕ) → Some code ≡ ender last l → judge_by last l ≡ it_ends code
ended last l code e = ap (said last) (sym e)

pub goes_on : (last : Last) (l : List ℕ) (o : Option ℕ) → o ≡ ender last l → ((code : ℕ) → o ≡ Some code → ⊥) → judge_by last l ≡ it_goes_on last
goes_on last l None e other = ap (said last) (sym e)
goes_on last l (Some code) e other = absurd (other code refl)

pub says_else : (rule : Rule) (area₀ : List ℕ) (w₀ : Wire) (says is : Judged) (start n : ℕ) (area : List ℕ) (w : Wire) → AfterLine rule area₀ w₀ says start n area w → says ≡ is → AfterLine rule area₀ w₀ is start n area w
says_else rule area₀ w₀ says is start n area w k e = subst (λ z. AfterLine rule area₀ w₀ z start n area w) e k
