-- A reply read into the front of the reply area, as the session tells it. Assumes nothing.
use Rattle.std.proofs.Common.{◌≡◌, ℕ, ◌-◌, ◌≤◌, true, false, List, ◌++◌, length, take, drop, is_err, Ok, Err, Option, Result, sym, refl, ap, ◌∙◌, append_assoc, arith, length-take}
use Rattle.std.proofs.lemmas.List.{take-append-drop, drop-append-le, length-take-le}
use Rattle.text.specs.Area.{laid}
use Rattle.link.specs.Wire.{Wire, leaving}
use Rattle.command.specs.declared.fault.Fault.{Fault}
use Rattle.command.specs.declared.verb.Verb.{Verb}
use Rattle.reply.specs.Replies.{Unread, reply, count, answered, heard}
use Rattle.reply.specs.declared.reply.Reply.{Reply}
use Rattle.reply.specs.declared.reply.Rule.TheVariants.{Usual}
use Rattle.reply.proofs.Replies.{reply_within}
use Rattle.session.specs.Model.{Model, limit_of, with_wire, with_step}
use Rattle.session.specs.Outcome.{ends}
use Rattle.session.specs.Calls.{hears, cut_of, hear_of}

-- what is laid at the front of a part of an area is laid at the front of the area
laid_part : (xs area : List ℕ) (n : ℕ) → length xs ≤ n → n ≤ length area → laid xs (take n area) ++ drop n area ≡ laid xs area
laid_part xs area n short within =
    let long : length (take n area) ≡ n = length-take-le n area within in
    append_assoc xs (drop (length xs) (take n area)) (drop n area)
    ∙ ap (λ z. xs ++ z) (sym (drop-append-le (length xs) (take n area) (drop n area) (omega arith)) ∙ ap (drop (length xs)) (take-append-drop n area))

front_short : (k : ℕ) (bs : List ℕ) (n : ℕ) → k ≤ n → length (take k bs) ≤ n
front_short k bs n h = simp length-take (omega arith)

module _ (v : Option Verb) (m : Model) (area : List ℕ) where
  -- by the reply that was cut off
  told_ok : (got : Result Reply Unread) (rest : List ℕ) → is_err (answered v got) ≡ false → ends (answered v got) (with_wire (leaving rest m.wire) m) (laid (take (count got) m.wire.coming) area) ≡ hears v m area got rest
  told_ok (Ok c) rest e = refl
  told_ok (Err u) rest e = let z : ◌≡◌ {A = ℕ} 0 1 = cc in absurd (omega arith)

  told_err : (got : Result Reply Unread) (rest : List ℕ) → is_err (answered v got) ≡ true → ends (answered v got) (with_step false (with_wire (leaving rest m.wire) m)) (laid (take (count got) m.wire.coming) area) ≡ hears v m area got rest
  told_err (Ok c) rest e = let z : ◌≡◌ {A = ℕ} 0 1 = cc in absurd (omega arith)
  told_err (Err u) rest e = refl

  module _ (r : Result Reply Fault) (after tail : List ℕ) (w : Wire) (within : limit_of m ≤ length area) (same_tail : tail ≡ drop (limit_of m) area) (is : record { answer = r; area = after; link = w } ≡ heard v (reply Usual (length (take (limit_of m - 0) area)) m.wire.ending m.wire.coming) (take (limit_of m - 0) area) m.wire) where
    part : take (limit_of m - 0) area ≡ take (limit_of m) area
    part = let e : limit_of m - 0 ≡ limit_of m = omega arith in ap (λ z. take z area) e

    long : length (take (limit_of m - 0) area) ≡ limit_of m
    long = ap length part ∙ length-take-le (limit_of m) area within

    cuts : reply Usual (length (take (limit_of m - 0) area)) m.wire.ending m.wire.coming ≡ cut_of m
    cuts = ap (λ z. reply Usual z m.wire.ending m.wire.coming) long

    is_cut : record { answer = r; area = after; link = w } ≡ heard v (cut_of m) (take (limit_of m) area) m.wire
    is_cut = is ∙ ap (λ z. heard v z (take (limit_of m - 0) area) m.wire) cuts ∙ ap (λ z. heard v (cut_of m) z m.wire) part

    answers : r ≡ answered v (cut_of m).got
    answers = ap (λ h. h.answer) is_cut

    links : w ≡ leaving (cut_of m).rest m.wire
    links = ap (λ h. h.link) is_cut

    fills : after ++ tail ≡ laid (take (count (cut_of m).got) m.wire.coming) area
    fills =
        ap (λ z. z ++ tail) (ap (λ h. h.area) is_cut) ∙ ap (λ z. laid (take (count (cut_of m).got) m.wire.coming) (take (limit_of m) area) ++ z) same_tail
        ∙ laid_part (take (count (cut_of m).got) m.wire.coming) area (limit_of m) (front_short (count (cut_of m).got) m.wire.coming (limit_of m) (reply_within (limit_of m) m.wire.ending Usual m.wire.coming)) within

    pub hears_ok : is_err r ≡ false → ends r (with_wire w m) (after ++ tail) ≡ hear_of v m area
    unfolding hear_of
    hears_ok e =
        ap (λ z. ends z (with_wire w m) (after ++ tail)) answers ∙ ap (λ z. ends (answered v (cut_of m).got) (with_wire z m) (after ++ tail)) links
        ∙ ap (λ z. ends (answered v (cut_of m).got) (with_wire (leaving (cut_of m).rest m.wire) m) z) fills
        ∙ told_ok (cut_of m).got (cut_of m).rest (sym (ap is_err answers) ∙ e)

    pub hears_err : is_err r ≡ true → ends r (with_step false (with_wire w m)) (after ++ tail) ≡ hear_of v m area
    unfolding hear_of
    hears_err e =
        ap (λ z. ends z (with_step false (with_wire w m)) (after ++ tail)) answers ∙ ap (λ z. ends (answered v (cut_of m).got) (with_step false (with_wire z m)) (after ++ tail)) links
        ∙ ap (λ z. ends (answered v (cut_of m).got) (with_step false (with_wire (leaving (cut_of m).rest m.wire) m)) z) fills
        ∙ told_err (cut_of m).got (cut_of m).rest (sym (ap is_err answers) ∙ e)
