use Rattle.std.proofs.Common.{◌≡◌, ℕ, ◌+◌, ◌<◌, ◌++◌, List, [], false, ap, sym, subst, arith, append_assoc, drop, length, length-drop, map, ◌∙◌}
use Rattle.std.proofs.lemmas.List.{nil_from_length}
use Rattle.std.proofs.lemmas.Result.{err_from_is_err_and}
use Rattle.cj_case.specs.declared.pair.Pair.{Pair}
use Rattle.cj_case.specs.Pairs.{objects_of}
use Rattle.cj_case.specs.Problems.{plain_problem}
use Rattle.cj_case.specs.Cells.{PlainCell}
use Rattle.cj_hermite.specs.Roots.{roots_in, roots_in_slot}
use Rattle.cj_cert.specs.Certificates.{plain_cell_line}
use Rattle.cj_brief_checker.specs.First.{told_from}
use Rattle.cj_brief_checker.specs.Steps.{told_behind}
use Rattle.cj_brief_checker.proofs.SlotLemmas.{next_pair}
use Rattle.cj_brief_checker.proofs.tiling.tile_slot.Goals.{After-tile_pair}
use Rattle.cj_brief_checker.proofs.tiling.tile_slot.Goals as goal

pub tile_pair-requires-clause-exists : goal.tile_pair-requires-clause-exists
tile_pair-requires-clause-exists c =
    subst (λ (p : Pair). p.b < length c.args.problem.now.tracks) (sym c.pair-item.is) (c.requires.exist c.loop-pair.pair-index c.pair-item.result c.loop-pair-test.true)

pub tile_pair-requires-clause-cuts : goal.tile_pair-requires-clause-cuts
tile_pair-requires-clause-cuts c = c.loop-pair.invariant.cuts

-- behind the cells of this pair
step : (c : After-tile_pair) (line : ℕ) (left : List PlainCell) → let case = plain_problem c.args.problem.now in
    let cells = map plain_cell_line c.args.cells.now in
    told_from case (drop c.args.at cells) (line + c.args.at) false (roots_in_slot case c.args.slot (map objects_of c.args.pairs.now) ++ left)
    ≡ told_behind case line (roots_in_slot case c.args.slot (map objects_of (drop (c.loop-pair.pair-index + 1) c.args.pairs.now)) ++ left) cells c.tile_pair.result
step c line left =
    let case = plain_problem c.args.problem.now in
    let cells = map plain_cell_line c.args.cells.now in
    let at = c.loop-pair.at in
    let pair = c.pair-item.result in
    let rest = roots_in_slot case c.args.slot (map objects_of (drop (c.loop-pair.pair-index + 1) c.args.pairs.now)) in
    c.loop-pair.invariant.rest line left
    ∙ ap (told_from case (drop at cells) (line + at) false)
    (ap (λ (rs : List PlainCell). rs ++ left) (next_pair case c.args.slot c.loop-pair.pair-index c.args.pairs.now pair c.loop-pair-test.true c.pair-item.is)
    ∙ append_assoc (roots_in case c.args.slot pair.a pair.b) rest left)
    ∙ c.tile_pair.ensures.tells line (rest ++ left)

pub returns-in_err-at-clause-tells : goal.returns-in_err-at-clause-tells
returns-in_err-at-clause-tells c line left =
    let case = plain_problem c.args.problem.now in
    let cells = map plain_cell_line c.args.cells.now in
    let p = err_from_is_err_and c.from_residual.result c.from_residual.ensures.1 in
    rw (p.1, p.2)
    (step (goal.at.returns-in_err-at-clause-tells c).After-tile_pair line left
    ∙ ap (told_behind case line (roots_in_slot case c.args.slot (map objects_of (drop (c.loop-pair.pair-index + 1) c.args.pairs.now)) ++ left) cells) c.in_err-at.was)

pub loop-pair-preserved : goal.loop-pair-preserved
loop-pair-preserved c =
    let case = plain_problem c.args.problem.now in
    let cells = map plain_cell_line c.args.cells.now in
    record {
      cuts = c.tile_pair.ensures.cuts ∙ c.loop-pair.invariant.cuts;
      place = c.in_ok-at.ensures.ok;
      rest = λ line left. step (goal.at.loop-pair-preserved c).After-tile_pair line left
          ∙ ap (told_behind case line (roots_in_slot case c.args.slot (map objects_of (drop (c.loop-pair.pair-index + 1) c.args.pairs.now)) ++ left) cells) c.in_ok-at.was;
    }

pub returns-clause-tells : goal.returns-clause-tells
returns-clause-tells c line left =
    let case = plain_problem c.args.problem.now in
    let at = c.loop-pair.at in
    let none : drop c.loop-pair.pair-index c.args.pairs.now ≡ [] = nil_from_length _ (omega (arith, length-drop c.loop-pair.pair-index c.args.pairs.now)) in
    c.loop-pair.invariant.rest line left
    ∙ ap (λ (pairs : List Pair). told_from case (drop at (map plain_cell_line c.args.cells.now)) (line + at) false (roots_in_slot case c.args.slot (map objects_of pairs) ++ left)) none

pub returns-in_err-at-clause-cuts : goal.returns-in_err-at-clause-cuts
returns-in_err-at-clause-cuts c = c.tile_pair.ensures.cuts ∙ c.loop-pair.invariant.cuts ∙ sym c.requires.cuts

pub returns-clause-cuts : goal.returns-clause-cuts
returns-clause-cuts c = c.loop-pair.invariant.cuts ∙ sym c.requires.cuts
