use Rattle.std.proofs.Common.{◌+◌, ◌≤◌, ℕ, List, length, ap, sym, subst, ◌∙◌, arith}
use Rattle.std.specs.Prelude.{All}
use Rattle.std.proofs.lemmas.List.Elements.{All-replicate}
use Rattle.cj_case.specs.CaseLimits.{MAX_SIZE}
use Rattle.cj_grid.specs.Buckets.{step_bound}
use Rattle.cj_filter_tests.proofs.RowLemmas.{row_bound, row_few}
use Rattle.cj_filter_tests.proofs.boxes.pairs_in_row.Goals as goal

pub touching-requires-clause-few : goal.touching-requires-clause-few
touching-requires-clause-few g c = let n = row_few c.args.boxes.now c.requires.row in omega arith

pub touching-requires-clause-sized : goal.touching-requires-clause-sized
touching-requires-clause-sized g c = ap (λ (ss : List ℕ). length ss) c.requires.sizes ∙ sym (row_few c.args.boxes.now c.requires.row)

pub touching-requires-clause-small : goal.touching-requires-clause-small
touching-requires-clause-small g c = subst (λ (ss : List ℕ). All (λ size. size ≤ MAX_SIZE) ss) (sym c.requires.sizes) (All-replicate (λ size. size ≤ MAX_SIZE) 50 0 (omega arith))

pub returns : goal.returns
returns g c =
    let bound = row_bound c.args.boxes.now c.requires.row in
    let steps = subst (λ (ss : List ℕ). c.touching.new.steps ≤ c.args.steps.now + step_bound 5_000_000_000_000 ss c.args.boxes.now) c.requires.sizes c.touching.ensures.steps in
    omega arith
