-- A line with its reply, put together from both. Assumes nothing.
use Rattle.std.proofs.Common.{◌≡◌, ℕ, List, Some, Ok, Err, Option, Result, ap, ◌∙◌}
use Rattle.command.specs.declared.fault.Fault.{Fault}
use Rattle.command.specs.declared.verb.Verb.{Verb}
use Rattle.reply.specs.declared.reply.Reply.{Reply}
use Rattle.reply.specs.declared.status.Status.{Status}
use Rattle.session.specs.Model.{Model}
use Rattle.session.specs.Outcome.{ends, next}
use Rattle.session.specs.Calls.{perform_of, hear_of, expected_of, settled_by, settles, exchange_of}

module _ (v : Verb) (argument : Option (List ℕ)) (ss : List Status) (last : Option Reply) (m : Model) (area : List ℕ) (m₁ : Model) (a₁ : List ℕ) where
  pub unsent : (e d : Fault) (r : Result Reply Fault) → r ≡ Err d → d ≡ e → ends (Err e) m₁ a₁ ≡ perform_of v argument last m area → ends r m₁ a₁ ≡ exchange_of v argument ss last m area
  unfolding exchange_of
  unsent e d r is same performed = ap (λ z. ends z m₁ a₁) (is ∙ ap (λ z. Err z) same) ∙ ap (λ o. next o (λ _ m₂ a₂. next (hear_of (Some v) m₂ a₂) (settles ss v))) performed

  module _ (performed : ends (Ok tt) m₁ a₁ ≡ perform_of v argument last m area) (m₂ : Model) (after : List ℕ) where
    then : next (hear_of (Some v) m₁ a₁) (settles ss v) ≡ exchange_of v argument ss last m area
    unfolding exchange_of
    then = ap (λ o. next o (λ _ m₂ a₂. next (hear_of (Some v) m₂ a₂) (settles ss v))) performed

    pub unfinished : (e d : Fault) (r : Result Reply Fault) → r ≡ Err d → d ≡ e → ends (Err e) m₂ after ≡ hear_of (Some v) m₁ a₁ → ends r m₂ after ≡ exchange_of v argument ss last m area
    unfinished e d r is same heard = ap (λ z. ends z m₂ after) (is ∙ ap (λ z. Err z) same) ∙ ap (λ o. next o (settles ss v)) heard ∙ then

    pub settled : (c : Reply) → ends (Ok c) m₂ after ≡ hear_of (Some v) m₁ a₁ → (m₃ : Model) → m₃ ≡ settled_by c.code m₂ → (r : Result Reply Fault) → r ≡ expected_of ss (Some v) c → ends r m₃ after ≡ exchange_of v argument ss last m area
    settled c heard m₃ is r answer =
        ap (λ z. ends z m₃ after) answer ∙ ap (λ z. ends (expected_of ss (Some v) c) z after) is ∙ ap (λ o. next o (settles ss v)) heard ∙ then
