use Rattle.std.proofs.Common.{◌<◌, ℕ, List, length, map, sym, ap, subst, ◌∙◌, arith}
use Rattle.std.specs.Prelude.{All}
use Rattle.std.proofs.lemmas.List.{length-map, take_all}
use Rattle.cj_track.specs.Tracks.{plain_track}
use Rattle.cj_case.specs.declared.pair.Pair.{Pair}
use Rattle.cj_case.specs.Pairs.{objects_of}
use Rattle.cj_case.specs.Problems.{plain_problem}
use Rattle.cj_hermite.specs.Roots.{roots_in_slot}
use Rattle.cj_bezier.specs.Candidates.{is_candidate}
use Rattle.cj_case.specs.Boxes.{plain_boxes}
use Rattle.cj_candidates.specs.SlotRuns.{sought_in}
use Rattle.cj_candidates.proofs.ListedLemmas.{are_existing}
use Rattle.cj_candidates.proofs.ObjectLemmas.{passing_exist}
use Rattle.cj_candidates.proofs.slots_shared.search_slot.Goals as goal

pub candidates_among-requires : goal.candidates_among-requires
candidates_among-requires c = ap plain_boxes c.deref-2.ensures.value ∙ c.in_ok-here.ensures

pub append_until_stopped-requires-clause-exist : goal.append_until_stopped-requires-clause-exist
append_until_stopped-requires-clause-exist c =
    let problem = c.args.ground.now.problem.now in
    let case = plain_problem problem in
    let within = passing_exist (λ pair. is_candidate case pair.0 pair.1 c.args.slot) (length case.tracks) (sought_in c.args.ground.now) c.in_ok-pairs.pairs.items (are_existing (length case.tracks) (sought_in c.args.ground.now) c.args.ground.now.are_pairs) c.in_ok-pairs.ensures in
    subst (λ (ps : List Pair). All (λ pair. pair.b < length problem.tracks) ps) (sym c.deref-3.ensures.value)
    (subst (λ (n : ℕ). All (λ pair. pair.b < n) c.in_ok-pairs.pairs.items) (length-map problem.tracks plain_track) within)

pub returns-clause-added : goal.returns-clause-added
returns-clause-added c = λ whole.
    c.in_ok-whole.ensures.added whole
    ∙ ap (roots_in_slot (plain_problem c.args.ground.now.problem.now) c.args.slot) (ap (map objects_of) c.deref-3.ensures.value ∙ c.in_ok-pairs.ensures)

pub returns-clause-candidate : goal.returns-clause-candidate
returns-clause-candidate c = λ _.
    let pairs = c.in_ok-pairs.pairs in
    omega (arith, c.saturating_add-run.ensures, c.len.ensures, pairs.ok.0, length-map pairs.items objects_of, ap length c.in_ok-pairs.ensures)

pub returns-clause-few : goal.returns-clause-few
returns-clause-few c =
    let few = c.in_ok-whole.ensures.few in
    let here = ap length (ap (roots_in_slot (plain_problem c.args.ground.now.problem.now) c.args.slot) (ap (map objects_of) c.deref-3.ensures.value ∙ c.in_ok-pairs.ensures)) in
    omega (arith, few, here)

pub returns-then-not-begin-clause-kept : goal.returns-then-not-begin-clause-kept
returns-then-not-begin-clause-kept c = take_all _ c.args.run.now.roots.items (omega (arith, c.args.run.now.roots.ok.0))
