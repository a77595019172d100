-- A loop that makes the calls of a list in turn and notes a row of each, as far as there are rows. Assumes nothing.
use Rattle.std.proofs.Common.{◌≡◌, ℕ, suc, ◌+◌, ◌<◌, ◌≤◌, List, [], ◌∷◌, ◌++◌, length, get_or, take, set, sym, refl, ap, ◌∙◌, subst, arith}
use Rattle.std.proofs.lemmas.List.{take_more, take_all, length-take-le}
use Rattle.carrier.specs.declared.carrier.CarrierState.{CarrierState}
use Rattle.session.specs.Model.{Model, Desk}
use Rattle.session.specs.declared.session.Record.{Record}
use Rattle.tally.specs.declared.calls.Row.{Row}
use Rattle.tally.specs.Runs.{made_of, areas_after, seen_of, after_all, areas_all, seen_all, row_of, rows_of, noted}
use Rattle.tally.specs.Asked.{Answer}
use Rattle.tally.specs.declared.calls.Call.{Call}

-- one call more of a list: the session after it, the areas, and what is seen
after_push : (m : Model) (d : Desk) (ks : List Call) (k : Call) → after_all m d (ks ++ (k ∷ [])) ≡ (made_of k (after_all m d ks) (areas_all m d ks)).after
after_push m d [] k = refl
after_push m d (x ∷ ks) k = after_push (made_of x m d).after (areas_after x m d) ks k

areas_push : (m : Model) (d : Desk) (ks : List Call) (k : Call) → areas_all m d (ks ++ (k ∷ [])) ≡ areas_after k (after_all m d ks) (areas_all m d ks)
areas_push m d [] k = refl
areas_push m d (x ∷ ks) k = areas_push (made_of x m d).after (areas_after x m d) ks k

rows_push : (m : Model) (d : Desk) (ks : List Call) (k : Call) → rows_of (seen_all m d (ks ++ (k ∷ []))) ≡ rows_of (seen_all m d ks) ++ (row_of (seen_of k (after_all m d ks) (areas_all m d ks)) ∷ [])
rows_push m d [] k = refl
rows_push m d (x ∷ ks) k = ap (λ z. row_of (seen_of x m d) ∷ z) (rows_push (made_of x m d).after (areas_after x m d) ks k)

rows_long : (m : Model) (d : Desk) (ks : List Call) → length (rows_of (seen_all m d ks)) ≡ length ks
rows_long m d [] = refl
rows_long m d (x ∷ ks) = ap (λ (n : ℕ). suc n) (rows_long (made_of x m d).after (areas_after x m d) ks)

-- one row more is set at its place, if there is one
noted_push : (rs : List Row) (r : Row) (old : List Row) → noted (rs ++ (r ∷ [])) old ≡ set (noted rs old) (length rs) r
noted_push [] r [] = refl
noted_push [] r (o ∷ old) = refl
noted_push (x ∷ rs) r [] = refl
noted_push (x ∷ rs) r (o ∷ old) = ap (λ z. x ∷ z) (noted_push rs r old)

-- i calls were made, from the session m, the areas d and the rows `old`
pub record Driven (m : Model) (d : Desk) (calls : List Call) (old : List Row) (i : ℕ) (now : Model) (areas : Desk) (rows : List Row) : Type 0 where
  pub within : i ≤ length calls
  pub state : now ≡ after_all m d (take i calls)
  pub lent : areas ≡ areas_all m d (take i calls)
  pub told : rows ≡ noted (rows_of (seen_all m d (take i calls))) old

pub driven_none : (m : Model) (d : Desk) (calls : List Call) (old : List Row) → Driven m d calls old 0 m d old
driven_none m d calls old = record { within = omega arith; state = refl; lent = refl; told = refl }

module _ {m : Model} {d : Desk} {calls : List Call} {old : List Row} {i : ℕ} {now : Model} {areas : Desk} {rows : List Row} (h : Driven m d calls old i now areas rows) where
  -- one call more, at any default of `get_or`, and its row
  driven_more : (default : Call) {next : Model} {areas₁ : Desk} {v : Answer} {kept : Record} {carrier : CarrierState} → i < length calls → v ≡ (made_of (get_or calls i default) now areas).answer → next ≡ (made_of (get_or calls i default) now areas).after → areas₁ ≡ areas_after (get_or calls i default) now areas → kept ≡ next.kept → carrier ≡ next.deck.state → Driven m d calls old (i + 1) next areas₁ (set rows i (record { answer = v; kept = kept; carrier = carrier }))
  driven_more default {next} {areas₁} {v} {kept} {carrier} inside answer after lent keeps state =
      let k : Call = get_or calls i default in
      let pushed : take (i + 1) calls ≡ take i calls ++ (k ∷ []) = take_more calls i default inside in
      let long : length (rows_of (seen_all m d (take i calls))) ≡ i = rows_long m d (take i calls) ∙ length-take-le i calls (omega arith) in
      let row : ◌≡◌ {A = Row} (record { answer = v; kept = kept; carrier = carrier }) (row_of (seen_of k (after_all m d (take i calls)) (areas_all m d (take i calls)))) =
      ap (λ z. record { answer = z; kept = kept; carrier = carrier }) answer
      ∙ ap (λ z. record { answer = (made_of k now areas).answer; kept = z; carrier = carrier }) (keeps ∙ ap (λ z. z.kept) after)
      ∙ ap (λ z. record { answer = (made_of k now areas).answer; kept = (made_of k now areas).after.kept; carrier = z }) (state ∙ ap (λ z. z.deck.state) after)
      ∙ ap (λ z. row_of (seen_of k z areas)) h.state
      ∙ ap (λ z. row_of (seen_of k (after_all m d (take i calls)) z)) h.lent in
      record {
        within = omega arith;
        state = after ∙ ap (λ z. (made_of k z areas).after) h.state ∙ ap (λ z. (made_of k (after_all m d (take i calls)) z).after) h.lent ∙ sym (after_push m d (take i calls) k) ∙ ap (after_all m d) (sym pushed);
        lent = lent ∙ ap (λ z. areas_after k z areas) h.state ∙ ap (areas_after k (after_all m d (take i calls))) h.lent ∙ sym (areas_push m d (take i calls) k) ∙ ap (areas_all m d) (sym pushed);
        told =
            ap (λ z. set z i (record { answer = v; kept = kept; carrier = carrier })) h.told
            ∙ ap (set (noted (rows_of (seen_all m d (take i calls))) old) i) row
            ∙ ap (λ n. set (noted (rows_of (seen_all m d (take i calls))) old) n (row_of (seen_of k (after_all m d (take i calls)) (areas_all m d (take i calls))))) (sym long)
            ∙ sym (noted_push (rows_of (seen_all m d (take i calls))) (row_of (seen_of k (after_all m d (take i calls)) (areas_all m d (take i calls)))) old)
            ∙ ap (λ z. noted z old) (sym (rows_push m d (take i calls) k))
            ∙ ap (λ z. noted (rows_of (seen_all m d z)) old) (sym pushed);
      }

  -- the same, where the rows after are known by an equation
  pub driven_noted : (default : Call) {next : Model} {areas₁ : Desk} {v : Answer} {kept : Record} {carrier : CarrierState} {rows₁ : List Row} → rows₁ ≡ set rows i (record { answer = v; kept = kept; carrier = carrier }) → i < length calls → v ≡ (made_of (get_or calls i default) now areas).answer → next ≡ (made_of (get_or calls i default) now areas).after → areas₁ ≡ areas_after (get_or calls i default) now areas → kept ≡ next.kept → carrier ≡ next.deck.state → Driven m d calls old (i + 1) next areas₁ rows₁
  driven_noted default {next} {areas₁} noting inside answer after lent keeps state = subst (Driven m d calls old (i + 1) next areas₁) (sym noting) (driven_more default inside answer after lent keeps state)

  -- all of them
  pub driven_all : length calls ≤ i → (now ≡ after_all m d calls) × (areas ≡ areas_all m d calls) × (rows ≡ noted (rows_of (seen_all m d calls)) old)
  driven_all all =
      let w : take i calls ≡ calls = take_all i calls all in
      (h.state ∙ ap (after_all m d) w, h.lent ∙ ap (areas_all m d) w, h.told ∙ ap (λ z. noted (rows_of (seen_all m d z)) old) w)
