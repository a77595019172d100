-- Any list of calls, from what one call does. Assumes nothing.
use Rattle.std.proofs.Common.{◌≡◌, ℕ, List, [], ◌∷◌, ◌++◌, sym, refl, ap, ◌∙◌, subst, append_assoc, append-nil, arith}
use Rattle.std.specs.List.{concat, flat_map}
use Rattle.std.proofs.lemmas.Grind.{flat_map-append}
use Rattle.std.proofs.lemmas.List.Folds.{concat-append}
use Rattle.link.specs.Wire.{Wire}
use Rattle.carrier.specs.Deck.{Deck}
use Rattle.encoding.specs.Code.{Code, Back}
use Rattle.command.proofs.Sent.{line_whole, line_back}
use Rattle.command.specs.Lines.{text_of}
use Rattle.session.specs.Model.{Model, Desk, fresh}
use Rattle.session.specs.Outcome.{Called}
use Rattle.session.specs.declared.settings.Settings.{Settings}
use Rattle.tally.specs.Observed.{Shown, Seen, lines_on, lines_in, lines_all, Wholes, texts, marked, by_ask, marks_of, marks_all, taken, shown_after}
use Rattle.tally.specs.Tally.{Tally, on, tally}
use Rattle.tally.specs.Law.{Start, Said, texts_of, handed, Own, Newest, Stands, Replies, tally_of}
use Rattle.tally.specs.Runs.{made_of, areas_after, shows, seen_of, seen_all, start_of, EveryRun}
use Rattle.tally.proofs.Cuts.{wholes_append, lines_back, grown_is, taken_is}
use Rattle.tally.proofs.Tallies.{never, with_more, goes_on}
use Rattle.tally.proofs.Logic.{Spoken, Tied}
use Rattle.tally.proofs.Ended.{Moved}
use Rattle.tally.proofs.Moves.{moves}
use Rattle.tally.specs.Asked.{Answer}
use Rattle.tally.specs.declared.calls.Call.{Call}

-- what is gathered of a list with one more behind it
gathered_push : {A : Type 0} (f : Seen → List A) (ss : List Seen) (s : Seen) → flat_map f (ss ++ (s ∷ [])) ≡ flat_map f ss ++ f s
gathered_push f ss s = flat_map-append f ss (s ∷ []) ∙ ap (λ z. flat_map f ss ++ z) (append-nil (f s))

shown_push : (n : Shown) (ss : List Seen) (s : Seen) → shown_after n (ss ++ (s ∷ [])) ≡ s.after
shown_push n [] s = refl
shown_push n (x ∷ ss) s = shown_push x.after ss s

-- the invariant of a run: it came to m, ss is what was seen, bytes those taken, t the tally over both
pub record Along (s : Start) (m : Model) (ss : List Seen) (t : Tally) : Type 0 where
  pub bytes : List ℕ
  pub coming : s.new.wire.coming ≡ bytes ++ m.wire.coming
  pub is : tally s.limit s.new.wire.ending (marks_all ss) bytes ≡ t
  pub tied : Tied s.code m t
  pub sent : m.wire.sent ≡ s.new.wire.sent ++ concat (lines_all ss)
  pub whole : Wholes (lines_all ss)
  pub shown : shown_after s.new ss ≡ shows m

along_start : (st : Settings) (w : Wire) (d : Deck) (c : Code) → Along (start_of st w d c) (fresh st w d c) [] (tally (start_of st w d c).limit w.ending [] [])
along_start st w d c = record {
  bytes = [];
  coming = refl;
  is = refl;
  tied = record { code = refl; limit = refl; ending = refl; step = refl; settled = λ _. refl; left = refl; ended = λ h. absurd (never (sym h)); shut = refl; carrier = refl; count = refl };
  sent = sym (append-nil w.sent);
  whole = tt;
  shown = refl;
}

-- the lines of commands are whole
spoken_whole : (c : Code) (saids : List Said) (lines : List (List ℕ)) → Spoken c saids lines → Wholes lines
spoken_whole c [] [] h = tt
spoken_whole c [] (l ∷ lines) h = absurd h
spoken_whole c (s ∷ saids) [] h = absurd h
spoken_whole c (s ∷ saids) (l ∷ lines) h = (line_whole c s.verb s.argument l h.0, spoken_whole c saids lines h.1)

-- and say their texts
spoken_texts : (c : Code) → Back c → (saids : List Said) (lines : List (List ℕ)) → Spoken c saids lines → texts c lines ≡ texts_of saids
spoken_texts c back [] [] h = refl
spoken_texts c back [] (l ∷ lines) h = absurd h
spoken_texts c back (s ∷ saids) [] h = absurd h
spoken_texts c back (s ∷ saids) (l ∷ lines) h = ap (λ z. z ∷ texts c lines) (line_back c back s.verb s.argument l h.0) ∙ ap (λ z. text_of s.verb s.argument ∷ z) (spoken_texts c back saids lines h.1)

module _ (s : Start) (back : Back s.code) where
  -- one call with its areas
  made : (k : Call) (m : Model) (d : Desk) (t : Tally) → Tied s.code m t → Moved s.code k.ask m t (made_of k m d)
  unfolding made_of
  made k m d t tied = moves s.code k.ask m t _ tied

  -- what is observed of it is what it sent
  module _ (k : Call) (m : Model) (d : Desk) (t : Tally) (moved : Moved s.code k.ask m t (made_of k m d)) where
    lines_seen : lines_in (seen_of k m d) ≡ moved.lines
    lines_seen = ap (lines_on []) (grown_is m.wire (made_of k m d).after.wire (concat moved.lines) moved.out) ∙ lines_back moved.lines (spoken_whole s.code moved.saids moved.lines moved.spoken)

    marks_seen : marks_of (seen_of k m d) ≡ marked moved.lines ++ by_ask k.ask (made_of k m d).answer
    marks_seen = ap (λ z. marked z ++ by_ask k.ask (made_of k m d).answer) lines_seen

    -- one call after the others
    along_more : (ss : List Seen) → Along s m ss t → Along s (made_of k m d).after (ss ++ (seen_of k m d ∷ [])) moved.now
    along_more ss h =
        let o : Called Answer = made_of k m d in
        record {
          bytes = h.bytes ++ moved.took;
          coming = h.coming ∙ ap (λ z. h.bytes ++ z) moved.coming ∙ sym (append_assoc h.bytes moved.took o.after.wire.coming);
          is =
              ap (λ z. tally s.limit s.new.wire.ending z (h.bytes ++ moved.took)) (gathered_push marks_of ss (seen_of k m d) ∙ ap (λ z. marks_all ss ++ z) marks_seen)
              ∙ goes_on s.limit s.new.wire.ending (marks_all ss) (marked moved.lines ++ by_ask k.ask o.answer) h.bytes moved.took (λ e. moved.quiet (sym (ap (λ u. u.broken) h.is) ∙ e))
              ∙ ap (λ u. on (with_more moved.took u) (marked moved.lines ++ by_ask k.ask o.answer)) h.is
              ∙ moved.is;
          tied = moved.tied;
          sent =
              moved.out
              ∙ ap (λ z. z ++ concat moved.lines) h.sent
              ∙ append_assoc s.new.wire.sent (concat (lines_all ss)) (concat moved.lines)
              ∙ ap (λ z. s.new.wire.sent ++ z) (sym (concat-append (lines_all ss) moved.lines) ∙ ap (λ z. concat (lines_all ss ++ z)) (sym lines_seen) ∙ ap concat (sym (gathered_push lines_in ss (seen_of k m d))));
          whole =
              subst Wholes (ap (λ z. lines_all ss ++ z) (sym lines_seen) ∙ sym (gathered_push lines_in ss (seen_of k m d)))
              (wholes_append (lines_all ss) moved.lines h.whole (spoken_whole s.code moved.saids moved.lines moved.spoken));
          shown = shown_push s.new ss (seen_of k m d);
        }

  -- the tally is over what the link's meaning shows
  tally_is : (m : Model) (ss : List Seen) (t : Tally) → Along s m ss t → tally_of s ss ≡ t
  tally_is m ss t h =
      ap (λ n. tally s.limit s.new.wire.ending (marks_all ss) (taken s.new.wire n.wire)) h.shown
      ∙ ap (tally s.limit s.new.wire.ending (marks_all ss)) (taken_is s.new.wire m.wire h.bytes h.coming)
      ∙ h.is

  stands : (m : Model) (ss : List Seen) (t : Tally) → Along s m ss t → Stands s (shows m) ss t
  stands m ss t h = record {
    a_sent = h.sent;
    a_whole = h.whole;
    b_taken = h.coming ∙ ap (λ z. z ++ m.wire.coming) (sym (taken_is s.new.wire m.wire h.bytes h.coming));
    b_left = h.tied.left;
    b_ended = h.tied.ended;
    b_step = h.tied.step;
    b_unsettled = h.tied.settled;
    b_open = h.tied.shut;
    b_carrier = h.tied.carrier;
    c_count = h.tied.count;
  }

  stands_there : (m : Model) (ss : List Seen) (t : Tally) → Along s m ss t → Stands s (shows m) ss (tally_of s ss)
  stands_there m ss t h = subst (Stands s (shows m) ss) (sym (tally_is m ss t h)) (stands m ss t h)

  -- what the law says of one call, x, after others
  abbrev After : List Seen → Seen → Type 0
  After ss x = Replies s x (tally_of s ss) (tally_of s (ss ++ (x ∷ []))) × Stands s x.after (ss ++ (x ∷ [])) (tally_of s (ss ++ (x ∷ [])))

  after_one : (k : Call) (m : Model) (d : Desk) (ss : List Seen) (t : Tally) → Along s m ss t → After ss (seen_of k m d)
  after_one k m d ss t h =
      let x : Seen = seen_of k m d in
      let moved = made k m d t h.tied in
      let more = along_more k m d t moved ss h in
      let before : tally_of s ss ≡ t = tally_is m ss t h in
      let now : tally_of s (ss ++ (x ∷ [])) ≡ moved.now = tally_is (made_of k m d).after (ss ++ (x ∷ [])) moved.now more in (
        record {
          a_commands = (moved.saids, moved.post.accepts, ap (texts s.code) (lines_seen k m d t moved) ∙ spoken_texts s.code back moved.saids moved.lines moved.spoken);
          c_own =
              subst (λ u. Newest (tally_of s ss) u (Own k.ask (tally_of s ss) u) (handed x.answer) x.front) (sym now)
              (subst (λ u. Newest u moved.now (Own k.ask u moved.now) (handed x.answer) x.front) (sym before) moved.post.newest);
        },
        stands_there (made_of k m d).after (ss ++ (x ∷ [])) moved.now more,
      )

  -- any part of a list of calls, and any call after it
  after_each : (calls : List Call) (m : Model) (d : Desk) (ss : List Seen) (t : Tally) → Along s m ss t → (before : List Seen) (x : Seen) (rest : List Seen) → seen_all m d calls ≡ before ++ (x ∷ rest) → After (ss ++ before) x
  after_each [] m d ss t h [] x rest e = let z : ◌≡◌ {A = ℕ} 0 1 = cc in absurd (omega arith)
  after_each [] m d ss t h (b ∷ before) x rest e = let z : ◌≡◌ {A = ℕ} 0 1 = cc in absurd (omega arith)
  after_each (k ∷ calls) m d ss t h [] x rest e =
      let same : seen_of k m d ≡ x = cc in
      subst (λ z. After z x) (sym (append-nil ss)) (subst (After ss) same (after_one k m d ss t h))
  after_each (k ∷ calls) m d ss t h (b ∷ before) x rest e =
      let same : seen_of k m d ≡ b = cc in
      let others : seen_all (made_of k m d).after (areas_after k m d) calls ≡ before ++ (x ∷ rest) = cc in
      let moved = made k m d t h.tied in
      subst (λ z. After z x) (append_assoc ss (seen_of k m d ∷ []) before ∙ ap (λ z. ss ++ (z ∷ before)) same)
      (after_each calls (made_of k m d).after (areas_after k m d) (ss ++ (seen_of k m d ∷ [])) moved.now (along_more k m d t moved ss h) before x rest others)

-- the law of every run
pub every_run : EveryRun
every_run st w d c back areas calls =
    let s : Start = start_of st w d c in
    record {
      at_start = stands_there s back (fresh st w d c) [] _ (along_start st w d c);
      each = λ before x rest e. after_each s back calls (fresh st w d c) areas [] _ (along_start st w d c) before x rest e;
    }
