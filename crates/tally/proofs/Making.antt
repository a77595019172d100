-- A call that is lent the first bytes of three areas. Assumes nothing.
use Rattle.std.proofs.Common.{◌≡◌, ℕ, ◌-◌, min, List, ◌++◌, length, take, drop, ap, ◌∙◌, arith}
use Rattle.session.specs.Model.{Model, Desk, desk}
use Rattle.session.specs.Outcome.{Called}
use Rattle.tally.specs.Runs.{ask_of, lend, give_back, made_of, areas_after}
use Rattle.tally.specs.Asked.{Answer}
use Rattle.tally.specs.declared.calls.Call.{Call}

front : (n k : ℕ) (xs : List ℕ) → n ≡ k → take (n - 0) xs ≡ take k xs
front n k xs e = let h : n - 0 ≡ k = omega arith in ap (λ z. take z xs) h

module _ (k : Call) (m : Model) (d : Desk) (r w n : ℕ) (reply : r ≡ min k.lent.reply (length d.reply)) (wide : w ≡ min k.lent.wide (length d.wide)) (narrow : n ≡ min k.lent.narrow (length d.narrow)) (o : Called Answer) (is : o ≡ ask_of k.ask m (desk (take (r - 0) d.reply) (take (w - 0) d.wide) (take (n - 0) d.narrow))) where
  lent : desk (take (r - 0) d.reply) (take (w - 0) d.wide) (take (n - 0) d.narrow) ≡ lend k.lent d
  lent =
      ap (λ z. desk z (take (w - 0) d.wide) (take (n - 0) d.narrow)) (front r _ d.reply reply)
      ∙ ap (λ z. desk (take (min k.lent.reply (length d.reply)) d.reply) z (take (n - 0) d.narrow)) (front w _ d.wide wide)
      ∙ ap (λ z. desk (take (min k.lent.reply (length d.reply)) d.reply) (take (min k.lent.wide (length d.wide)) d.wide) z) (front n _ d.narrow narrow)

  pub is_made : o ≡ made_of k m d
  unfolding made_of
  is_made = is ∙ ap (ask_of k.ask m) lent

  -- the areas with their rests
  pub is_given_back : (x y z : List ℕ) → x ≡ drop r d.reply → y ≡ drop w d.wide → z ≡ drop n d.narrow → desk (o.desk.reply ++ x) (o.desk.wide ++ y) (o.desk.narrow ++ z) ≡ areas_after k m d
  is_given_back x y z ex ey ez =
      ap (λ v. desk (o.desk.reply ++ v) (o.desk.wide ++ y) (o.desk.narrow ++ z)) (ex ∙ ap (λ v. drop v d.reply) reply)
      ∙ ap (λ v. desk (o.desk.reply ++ drop (min k.lent.reply (length d.reply)) d.reply) (o.desk.wide ++ v) (o.desk.narrow ++ z)) (ey ∙ ap (λ v. drop v d.wide) wide)
      ∙ ap (λ v. desk (o.desk.reply ++ drop (min k.lent.reply (length d.reply)) d.reply) (o.desk.wide ++ drop (min k.lent.wide (length d.wide)) d.wide) (o.desk.narrow ++ v)) (ez ∙ ap (λ v. drop v d.narrow) narrow)
      ∙ ap (λ v. give_back k.lent v.desk d) is_made
