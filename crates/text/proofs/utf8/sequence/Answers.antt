use Rattle.std.proofs.Common.{◌≡◌, ◌<◌, ◌≤◌, length, get_or, rules, sym, ap, ◌∙◌, arith}
use Rattle.text.specs.Table.{later, within}
use Rattle.text.specs.Front.{row_of}
use Rattle.text.proofs.Rows.{contains_is}
use Rattle.text.proofs.Runs.{run_more, run_stop, run_past}
use Rattle.text.proofs.Fronts.{front_none, front_unled, front_broken, front_whole, announced_is, sequence_by_table}
use Rattle.text.proofs.utf8.sequence.Goals as goal

pub returns-in_default : goal.returns-in_default
returns-in_default c = let e = front_none c.args.bytes.now c.in_default.len_below in record { value = e; maximal = sequence_by_table _ _ e }

pub returns-in_default-announced_length : goal.returns-in_default-announced_length
returns-in_default-announced_length c =
    let e = front_unled c.args.bytes.now c.in-len1-up.len_at_least c.in_default-announced_length.ensures in
    record { value = e; maximal = sequence_by_table _ _ e }

pub returns-in_default-get : goal.returns-in_default-get
returns-in_default-get c =
    let bs = c.args.bytes.now in
    let row = row_of (get_or bs 0 0) in
    let n = c.loop-place.place in
    let more : n < length row = omega (arith, (announced_is _ _ c.in-Some.ensures).0) in
    let inside : n < length bs = search rules in
    let at : c.in-Some-get.byte.now ≡ get_or bs n 0 = search rules in
    let out = c.if-contains.ensures.value ∙ contains_is _ _ _ c.allowed.ensures.fresh c.allowed.ensures.ends ∙ ap (within (get_or row n later)) at in
    let e = front_broken bs n _ c.in-len1-up.len_at_least c.in-Some.ensures c.loop-place.invariant.1 c.loop-place-test.true (run_stop row bs n more inside out) in
    record { value = e; maximal = sequence_by_table _ _ e }

pub returns-in_default-get-2 : goal.returns-in_default-get-2
returns-in_default-get-2 c =
    let bs = c.args.bytes.now in
    let past : length bs ≤ c.loop-place.place = search rules in
    let e =
    front_broken bs c.loop-place.place _ c.in-len1-up.len_at_least c.in-Some.ensures c.loop-place.invariant.1 c.loop-place-test.true
    (run_past (row_of (get_or bs 0 0)) bs c.loop-place.place past) in
    record { value = e; maximal = sequence_by_table _ _ e }

pub loop-place-preserved : goal.loop-place-preserved
loop-place-preserved c =
    let bs = c.args.bytes.now in
    let row = row_of (get_or bs 0 0) in
    let n = c.loop-place.place in
    let more : n < length row = omega (arith, (announced_is _ _ c.in-Some.ensures).0) in
    let inside : n < length bs = search rules in
    let at : c.in-Some-get.byte.now ≡ get_or bs n 0 = search rules in
    let in_it = c.if-contains.ensures.value ∙ contains_is _ _ _ c.allowed.ensures.fresh c.allowed.ensures.ends ∙ ap (within (get_or row n later)) at in
    (omega arith, sym (run_more row bs n more inside in_it) ∙ c.loop-place.invariant.1)

pub returns : goal.returns
returns c =
    let all : c.loop-place.place ≡ c.in-Some.announced = omega (arith, (announced_is _ _ c.in-Some.ensures).1, c.loop-place.auto.place-end) in
    let e = front_whole c.args.bytes.now c.loop-place.place _ c.in-len1-up.len_at_least c.in-Some.ensures c.loop-place.invariant.1 all in
    record { value = e; maximal = sequence_by_table _ _ e }
