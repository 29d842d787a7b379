use Rattle.std.proofs.Common.{◌≡◌, ◌+◌, ◌∙◌, ℕ, Err, Ok, Result, ap, arith, length}
use Rattle.std.specs.Prelude.{IfOk}
use Rattle.std.proofs.lemmas.List.{length-map, length-take}
use Rattle.cj_track.specs.Tracks.{plain_track}
use Rattle.cj_case.specs.Problems.{plain_problem}
use Rattle.cj_brief_checker.specs.Shown.{first_unfit_shell, rows_from}
use Rattle.cj_brief_checker.specs.declared.shown.Shown.{Shown}
use Rattle.cj_brief_checker.proofs.ShownLemmas.{rows_count, shown_by_some, shown_of_some}
use Rattle.cj_brief_checker.proofs.showing.show.Goals as goal

-- what follows of a value
of_ok : {E X : Type 0} {P Q : X → Type 0} (r : Result X E) → ((x : X) → P x → Q x) → IfOk r P → IfOk r Q
of_ok (Ok x) f h = f x h
of_ok (Err e) f h = tt

pub in_one-requires-clause-few : goal.in_one-requires-clause-few
in_one-requires-clause-few g c =
    let some = c.asked-some.result.now in
    let objects = c.as_slice.result.now in
    let fewer = ap length c.asked-some.ensures ∙ length-take (length objects + 1) c.args.lines.now in
    omega (arith, c.requires, fewer, rows_count (plain_problem c.args.problem.now) c.slot_count-slots.result 0 some c.in_ok-rows.rows.items c.in_ok-rows.ensures)

pub in_one-requires-clause-rows : goal.in_one-requires-clause-rows
in_one-requires-clause-rows g c =
    c.in_ok-rows.ensures ∙ ap (λ (n : ℕ). rows_from (plain_problem c.args.problem.now) n 0 c.asked-some.result.now) c.slot_count-slots.ensures

pub returns : goal.returns
returns g c =
    let case = plain_problem c.args.problem.now in
    let first = c.args.first in
    let all = c.args.lines.now in
    let some = c.asked-some.result.now in
    let n = length c.as_slice.result.now + 1 in
    let objects = length-map c.args.problem.now.tracks plain_track in
    let many : n ≡ length case.tracks + 1 = omega (arith, objects, ap length c.as_slice.ensures.value) in
    let same = ap (first_unfit_shell case first) c.asked-some.ensures ∙ shown_of_some case first n all many in
    of_ok c.in_one.result (λ (shown : Shown) are. shown_by_some case first some all shown same are) c.in_one.ensures
