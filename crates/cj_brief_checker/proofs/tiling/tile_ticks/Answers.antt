use Rattle.std.proofs.Common.{◌≡◌, ℕ, ◌+◌, List, ◌∷◌, ◌++◌, drop, map, false, get_or, refl, sym, ap, ◌∙◌, arith}
use Rattle.std.proofs.lemmas.Result.{err_from_is_err_and}
use Rattle.cj_track.specs.declared.track.Track.{Track}
use Rattle.cj_hermite.specs.CommonRuns.{run_of}
use Rattle.cj_case.specs.Problems.{plain_problem}
use Rattle.cj_case.specs.Cells.{PlainCell}
use Rattle.cj_hermite.specs.Roots.{root_of_run, roots_between}
use Rattle.cj_cert.specs.Certificates.{plain_cell_line}
use Rattle.cj_checker.specs.Tiling.{AreOver, IsOf, root_from}
use Rattle.cj_hermite.proofs.SlotRootLemmas.{no_roots}
use Rattle.cj_brief_checker.specs.First.{told_from}
use Rattle.cj_brief_checker.specs.Steps.{told_behind}
use Rattle.cj_checker.proofs.TilingLemmas.{roots_next, roots_none, ready_over, ready_of, ready_is}
use Rattle.cj_brief_checker.proofs.tiling.tile_ticks.Goals as goal
use Rattle.cj_brief_checker.proofs.tiling.tile_ticks.Goals.{After-new-root, After-tile_root}

-- the roots that are left: this one, and those behind it
next : (c : After-tile_root) → let case = plain_problem c.args.problem.now in
    let pair = c.args.pair in
    roots_between case pair.a pair.b c.loop-run.from.micros c.args.ticks.last.micros
    ≡ root_of_run pair.a pair.b (run_of c.in-Some.run'.ticks) ∷ roots_between case pair.a pair.b (c.in-Some.run'.ticks.last.micros + 1) c.args.ticks.last.micros
next c =
    let pair = c.args.pair in
    let x = c.index-tracks-pair.result in
    let y = c.index-tracks-pair-2.result in
    roots_next c.args.problem.now pair.a pair.b c.loop-run.from.micros c.args.ticks.last.micros x y c.in-Some.run'.ticks
    (c.index-tracks-pair.is ∙ ap (λ (ts : List Track). get_or ts pair.a x) c.as_slice-tracks.ensures.value)
    (c.index-tracks-pair-2.is ∙ ap (λ (ts : List Track). get_or ts pair.b y) c.as_slice-tracks.ensures.value)
    (omega (arith, pair.ordered, c.requires.exists)) c.requires.exists c.in-Some.ensures.run

-- both interpolants of the root are defined at its ticks
over : (c : After-new-root) → AreOver c.new-root.result c.new-root.result.ticks.first.micros c.new-root.result.ticks.last.micros
over c =
    let case = plain_problem c.args.problem.now in
    let pair = c.args.pair in
    let x = c.index-tracks-pair.result in
    let y = c.index-tracks-pair-2.result in
    let told = c.in-Some.ensures in
    let made = c.new-root.ensures in
    ready_over c.args.problem.now pair c.loop-run.from.micros c.args.ticks.last.micros x y c.in-Some.run' c.new-root.result
    (roots_between case pair.a pair.b (c.in-Some.run'.ticks.last.micros + 1) c.args.ticks.last.micros)
    (c.index-tracks-pair.is ∙ ap (λ (ts : List Track). get_or ts pair.a x) c.as_slice-tracks.ensures.value)
    (c.index-tracks-pair-2.is ∙ ap (λ (ts : List Track). get_or ts pair.b y) c.as_slice-tracks.ensures.value)
    c.requires.exists
    (roots_next c.args.problem.now pair.a pair.b c.loop-run.from.micros c.args.ticks.last.micros x y c.in-Some.run'.ticks
    (c.index-tracks-pair.is ∙ ap (λ (ts : List Track). get_or ts pair.a x) c.as_slice-tracks.ensures.value)
    (c.index-tracks-pair-2.is ∙ ap (λ (ts : List Track). get_or ts pair.b y) c.as_slice-tracks.ensures.value)
    (omega (arith, pair.ordered, c.requires.exists)) c.requires.exists told.run)
    told.some told.first told.second made.pair made.ticks made.first made.second

pub verdict_of-verdict-requires-clause-over : goal.verdict_of-verdict-requires-clause-over
verdict_of-verdict-requires-clause-over c = over (goal.at.verdict_of-verdict-requires-clause-over c).After-new-root

pub tile_root-requires-clause-over : goal.tile_root-requires-clause-over
tile_root-requires-clause-over c = over (goal.at.tile_root-requires-clause-over c).After-new-root

-- the root is one of the problem
is_of : (c : After-tile_root) → IsOf (plain_problem c.args.problem.now) c.new-root.result
is_of c =
    let case = plain_problem c.args.problem.now in
    let pair = c.args.pair in
    let x = c.index-tracks-pair.result in
    let y = c.index-tracks-pair-2.result in
    let told = c.in-Some.ensures in
    let made = c.new-root.ensures in
    ready_of c.args.problem.now pair c.loop-run.from.micros c.args.ticks.last.micros x y c.in-Some.run' c.new-root.result
    (roots_between case pair.a pair.b (c.in-Some.run'.ticks.last.micros + 1) c.args.ticks.last.micros)
    (c.index-tracks-pair.is ∙ ap (λ (ts : List Track). get_or ts pair.a x) c.as_slice-tracks.ensures.value)
    (c.index-tracks-pair-2.is ∙ ap (λ (ts : List Track). get_or ts pair.b y) c.as_slice-tracks.ensures.value)
    c.requires.exists (next c) told.some told.first told.second made.pair made.ticks made.first made.second made.threshold

-- the same with the root as it was made ready
begun : (c : After-tile_root) → let case = plain_problem c.args.problem.now in
    let pair = c.args.pair in
    roots_between case pair.a pair.b c.loop-run.from.micros c.args.ticks.last.micros
    ≡ root_from c.new-root.result c.new-root.result.ticks.first.micros ∷ roots_between case pair.a pair.b (c.in-Some.run'.ticks.last.micros + 1) c.args.ticks.last.micros
begun c =
    let case = plain_problem c.args.problem.now in
    let pair = c.args.pair in
    let x = c.index-tracks-pair.result in
    let y = c.index-tracks-pair-2.result in
    let told = c.in-Some.ensures in
    let made = c.new-root.ensures in
    let rest = roots_between case pair.a pair.b (c.in-Some.run'.ticks.last.micros + 1) c.args.ticks.last.micros in
    next c
    ∙ ap (λ (r : PlainCell). r ∷ rest)
    (ready_is c.args.problem.now pair c.loop-run.from.micros c.args.ticks.last.micros x y c.in-Some.run' c.new-root.result rest
    (c.index-tracks-pair.is ∙ ap (λ (ts : List Track). get_or ts pair.a x) c.as_slice-tracks.ensures.value)
    (c.index-tracks-pair-2.is ∙ ap (λ (ts : List Track). get_or ts pair.b y) c.as_slice-tracks.ensures.value)
    c.requires.exists (next c) told.some told.first told.second made.pair made.ticks made.first made.second)

-- behind the cells of this root
step : (c : After-tile_root) (line : ℕ) (left : List PlainCell) → let case = plain_problem c.args.problem.now in
    let pair = c.args.pair in
    let cells = map plain_cell_line c.args.cells.now in
    told_from case (drop c.args.at cells) (line + c.args.at) false (roots_between case pair.a pair.b c.args.ticks.first.micros c.args.ticks.last.micros ++ left)
    ≡ told_behind case line (roots_between case pair.a pair.b (c.in-Some.run'.ticks.last.micros + 1) c.args.ticks.last.micros ++ left) cells c.tile_root.result
step c line left =
    let case = plain_problem c.args.problem.now in
    let pair = c.args.pair in
    let cells = map plain_cell_line c.args.cells.now in
    c.loop-run.invariant.rest line left
    ∙ ap (λ (rs : List PlainCell). told_from case (drop c.loop-run.at cells) (line + c.loop-run.at) false (rs ++ left)) (begun c)
    ∙ c.tile_root.ensures.tells case (is_of c) refl line (roots_between case pair.a pair.b (c.in-Some.run'.ticks.last.micros + 1) c.args.ticks.last.micros ++ left)

pub returns-in_err-at-clause-tells : goal.returns-in_err-at-clause-tells
returns-in_err-at-clause-tells c line left =
    let case = plain_problem c.args.problem.now in
    let pair = c.args.pair in
    let cells = map plain_cell_line c.args.cells.now in
    let p = err_from_is_err_and c.from_residual.result c.from_residual.ensures.1 in
    rw (p.1, p.2)
    (step (goal.at.returns-in_err-at-clause-tells c).After-tile_root line left
    ∙ ap (told_behind case line (roots_between case pair.a pair.b (c.in-Some.run'.ticks.last.micros + 1) c.args.ticks.last.micros ++ left) cells) c.in_err-at.was)

pub returns-then-run-ticks-clause-tells : goal.returns-then-run-ticks-clause-tells
returns-then-run-ticks-clause-tells c line left =
    let case = plain_problem c.args.problem.now in
    let pair = c.args.pair in
    let cells = map plain_cell_line c.args.cells.now in
    step (goal.at.returns-then-run-ticks-clause-tells c).After-tile_root line left
    ∙ ap (told_behind case line (roots_between case pair.a pair.b (c.in-Some.run'.ticks.last.micros + 1) c.args.ticks.last.micros ++ left) cells) c.in_ok-at.was
    ∙ ap (λ (rs : List PlainCell). told_from case (drop c.in_ok-at.at cells) (line + c.in_ok-at.at) false (rs ++ left))
    (no_roots case pair.a pair.b (c.in-Some.run'.ticks.last.micros + 1) c.args.ticks.last.micros (omega arith))

pub loop-run-preserved : goal.loop-run-preserved
loop-run-preserved c =
    let case = plain_problem c.args.problem.now in
    let pair = c.args.pair in
    let cells = map plain_cell_line c.args.cells.now in
    let made = c.new-root.ensures in
    record {
      within = let to = c.in-Some.ensures.to in let lt = c.if-run-ticks.false in omega (arith, c.next-from.ensures);
      place = c.in_ok-at.ensures.ok;
      rest = λ line left. step (goal.at.loop-run-preserved c).After-tile_root line left
          ∙ ap (told_behind case line (roots_between case pair.a pair.b (c.in-Some.run'.ticks.last.micros + 1) c.args.ticks.last.micros ++ left) cells) c.in_ok-at.was
          ∙ ap (λ (n : ℕ). told_from case (drop c.in_ok-at.at cells) (line + c.in_ok-at.at) false (roots_between case pair.a pair.b n c.args.ticks.last.micros ++ left)) (sym c.next-from.ensures);
    }

pub returns-clause-tells : goal.returns-clause-tells
returns-clause-tells c line left =
    let case = plain_problem c.args.problem.now in
    let pair = c.args.pair in
    let cells = map plain_cell_line c.args.cells.now in
    let x = c.index-tracks-pair.result in
    let y = c.index-tracks-pair-2.result in
    c.loop-run.invariant.rest line left
    ∙ ap (λ (rs : List PlainCell). told_from case (drop c.loop-run.at cells) (line + c.loop-run.at) false (rs ++ left))
    (roots_none c.args.problem.now pair.a pair.b c.loop-run.from.micros c.args.ticks.last.micros x y
    (c.index-tracks-pair.is ∙ ap (λ (ts : List Track). get_or ts pair.a x) c.as_slice-tracks.ensures.value)
    (c.index-tracks-pair-2.is ∙ ap (λ (ts : List Track). get_or ts pair.b y) c.as_slice-tracks.ensures.value)
    (omega (arith, pair.ordered, c.requires.exists)) c.requires.exists c.in_default.ensures.none)
