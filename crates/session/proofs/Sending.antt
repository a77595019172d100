-- A line that is made and put to the link, as the session tells it. Assumes nothing.
use Rattle.std.proofs.Common.{◌≡◌, ℕ, ◌-◌, ◌≤◌, Bool, true, false, cond, leb, List, take, Some, Ok, Err, Option, Result, sym, refl, ap, ◌∙◌, subst, arith}
use Rattle.std.proofs.lemmas.Bool.{le-leb}
use Rattle.link.specs.Wire.{Wire, fits, sending, put_of, put_answer, full}
use Rattle.link.specs.declared.wire.FullLink.{FullLink}
use Rattle.std.specs.Result.{MatchResult, result_or}
use Rattle.command.specs.declared.fault.Fault.{Fault}
use Rattle.command.specs.Lines.{line_of, line_in, line_told}
use Rattle.command.specs.declared.refusal.Refusal.{Refusal}
use Rattle.command.specs.declared.refusal.Refusal.TheVariants.{LinkFull}
use Rattle.command.specs.declared.verb.Verb.{Verb}
use Rattle.reply.specs.declared.reply.Reply.{Reply}
use Rattle.session.specs.Model.{Model, with_wire}
use Rattle.session.specs.Outcome.{ends}
use Rattle.session.specs.Calls.{fault, puts, performs, perform_of}

-- areas that are long enough do not stand in the way of a line
pub serves : (wide narrow : ℕ) (x : Result (List ℕ) Refusal) → 8704 ≤ wide → 4352 ≤ narrow → line_in wide narrow x ≡ x
serves wide narrow x h g =
    let a : leb 8704 wide ≡ true = le-leb 8704 wide h in
    let b : leb 4352 narrow ≡ true = le-leb 4352 narrow g in
    rw (a, b)

-- a refusal came through as the fault of a line
abbrev pub Told : {X : Type 0} → Verb → Option Reply → Result X Refusal → Result X Fault → Type 0
Told v last came r = MatchResult came (λ x. r ≡ Ok x) (λ e. r ≡ Err (fault e (Some v) last))

abbrev Put : Type 0
Put = Result (Unit {0}) FullLink

taken : (b : Bool) → ◌≡◌ {A = Put} (Ok tt) (cond b (Ok tt) (Err full)) → b ≡ true
taken true e = refl
taken false e = let z : ◌≡◌ {A = ℕ} 0 1 = cc in absurd (omega arith)

not_taken : (b : Bool) (x : FullLink) → ◌≡◌ {A = Put} (Err x) (cond b (Ok tt) (Err full)) → b ≡ false
not_taken true x e = let z : ◌≡◌ {A = ℕ} 0 1 = cc in absurd (omega arith)
not_taken false x e = refl

module _ (v : Verb) (argument : Option (List ℕ)) (last : Option Reply) (m : Model) (area : List ℕ) where
  -- the line is at the front of the wide area
  module _ (n : ℕ) (made : List ℕ) (is : Ok (take n made) ≡ line_of m.code v argument) where
    whole : Ok (take (n - 0) made) ≡ line_of m.code v argument
    whole = let e : n - 0 ≡ n = omega arith in ap (λ k. Ok (take k made)) e ∙ is

    pub is_sent : (w : Wire) → w ≡ put_of (take (n - 0) made) m.wire → ◌≡◌ {A = Put} (Ok tt) (put_answer (take (n - 0) made) m.wire) → ends (Ok tt) (with_wire w m) area ≡ perform_of v argument last m area
    unfolding perform_of
    is_sent w after ok =
        ap (λ z. ends (Ok tt) (with_wire z m) area) after
        ∙ ap (λ b. puts b (take (n - 0) made) v last m area) (sym (taken (fits (take (n - 0) made) m.wire) ok))
        ∙ ap (λ z. performs z v last m area) whole

    pub is_refused : (w : Wire) (x : FullLink) → w ≡ put_of (take (n - 0) made) m.wire → ◌≡◌ {A = Put} (Err x) (put_answer (take (n - 0) made) m.wire) → ends (Err (fault LinkFull (Some v) last)) (with_wire w m) area ≡ perform_of v argument last m area
    unfolding perform_of
    is_refused w x after no_room =
        let out = not_taken (fits (take (n - 0) made) m.wire) x no_room in
        ap (λ z. ends (Err (fault LinkFull (Some v) last)) (with_wire z m) area) (after ∙ ap (λ b. cond b (sending (take (n - 0) made) m.wire) m.wire) out)
        ∙ ap (λ b. puts b (take (n - 0) made) v last m area) (sym out)
        ∙ ap (λ z. performs z v last m area) whole

  pub is_unmade : (r : Refusal) → Err r ≡ line_of m.code v argument → ends (Err (fault r (Some v) last)) m area ≡ perform_of v argument last m area
  unfolding perform_of
  is_unmade r is = ap (λ z. performs z v last m area) is

  -- the same, as it comes through `?`
  pub unmade : (line : Result ℕ Refusal) (made : List ℕ) (q : Result ℕ Fault) → line_told line made ≡ line_of m.code v argument → Told v last line q → (d : Fault) → q ≡ Err d → (e : Fault) → e ≡ d → (r : Result (Unit {0}) Fault) → r ≡ Err e → ends r m area ≡ perform_of v argument last m area
  unmade (Ok n) made q is told d bad e same r answer = let z : ◌≡◌ {A = ℕ} 0 1 = cc in absurd (omega arith)
  unmade (Err x) made q is told d bad e same r answer = let w : r ≡ Err (fault x (Some v) last) = cc in ap (λ z. ends z m area) w ∙ is_unmade x is

  pub made_of : (line : Result ℕ Refusal) (made : List ℕ) (q : Result ℕ Fault) → line_told line made ≡ line_of m.code v argument → Told v last line q → (n : ℕ) → q ≡ Ok n → Ok (take n made) ≡ line_of m.code v argument
  made_of (Ok k) made q is told n good = let w : k ≡ n = cc in subst (λ z. Ok (take z made) ≡ line_of m.code v argument) w is
  made_of (Err x) made q is told n good = let z : ◌≡◌ {A = ℕ} 0 1 = cc in absurd (omega arith)

  pub put_by : (n : ℕ) (made : List ℕ) (is : Ok (take n made) ≡ line_of m.code v argument) (w : Wire) → w ≡ put_of (take (n - 0) made) m.wire → (p : Put) → p ≡ put_answer (take (n - 0) made) m.wire → (q : Result (Unit {0}) Refusal) → q ≡ result_or p (Err LinkFull) → (r : Result (Unit {0}) Fault) → Told v last q r → ends r (with_wire w m) area ≡ perform_of v argument last m area
  put_by n made is w after (Ok u) answer q alone r told =
      ap (λ z. ends z (with_wire w m) area) (subst (λ z. Told v last z r) alone told) ∙ is_sent n made is w after answer
  put_by n made is w after (Err x) answer q alone r told =
      ap (λ z. ends z (with_wire w m) area) (subst (λ z. Told v last z r) alone told) ∙ is_refused n made is w x after answer
