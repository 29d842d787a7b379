use Rattle.std.proofs.Common.{◌≡◌, List, length, All, sym, ap, subst, ◌∙◌, arith}
use Rattle.std.specs.List.{range_with_len}
use Rattle.std.proofs.lemmas.Result.{err_from_is_err_and}
use Rattle.cj_case.specs.declared.problem.Problem.{Problem}
use Rattle.cj_case.specs.Problems.{plain_problem}
use Rattle.cj_case.specs.declared.cell.Cell.{Cell}
use Rattle.cj_case.specs.Cells.{plain_cells}
use Rattle.cj_bezier.specs.RootLeaves.{leaves_of_root, Describe}
use Rattle.cj_pool.proofs.ListingLemmas.{back_all, back_numbers}
use Rattle.cj_bezier.specs.RootLeaves.{leaves_of_roots}
use Rattle.cj_pool.proofs.listing.leaves_by_hands.Goals as goal

pub finish-requires-clause-hands : goal.finish-requires-clause-hands
finish-requires-clause-hands g c _ _ =
    let hands = c.in_ok-refinery.hands in
    let done = c.in_ok-hands.hands in
    let long : length done.items ≡ length hands.items = omega (arith, c.in_ok-hands.ensures.len, hands.ok.0, done.ok.0) in
    back_all c.in_ok-refinery.refinery hands.items done.items long (λ i d e lt. c.in_ok-hands.ensures.each i d e (omega (arith, lt, hands.ok.0)))

pub finish-requires-clause-all : goal.finish-requires-clause-all
finish-requires-clause-all g c _ _ =
    let hands = c.in_ok-refinery.hands in
    let done = c.in_ok-hands.hands in
    let long : length done.items ≡ length hands.items = omega (arith, c.in_ok-hands.ensures.len, hands.ok.0, done.ok.0) in
    back_numbers c.in_ok-refinery.refinery hands.items done.items long (λ i d e lt. c.in_ok-hands.ensures.each i d e (omega (arith, lt, hands.ok.0)))
    ∙ c.in_ok-refinery.ensures.numbers ∙ ap (range_with_len 0) (sym c.in_ok-refinery.ensures.seen.3)

pub returns-in-Ok-clause-leaves : goal.returns-in-Ok-clause-leaves
returns-in-Ok-clause-leaves g c =
    let seen = c.in_ok-refinery.ensures.seen in
    subst (λ (p : Problem). All (λ root. Describe (plain_problem p) root (leaves_of_root (plain_problem p) root)) (plain_cells c.args.roots.items)) seen.0
    (subst (λ (cells : List Cell). All (λ root. Describe (plain_problem c.in_ok-refinery.refinery.problem) root (leaves_of_root (plain_problem c.in_ok-refinery.refinery.problem) root)) (plain_cells cells)) seen.1 c.finish.ensures.describe)

pub returns-in_err-refinery : goal.returns-in_err-refinery
returns-in_err-refinery g c =
    let p = err_from_is_err_and c.from_residual.result c.from_residual.ensures.1 in
    rw (p.1, p.2) (record { value = tt; within = tt; too_many = λ is. absurd cc; leaves = tt })

pub returns-in_err-hands : goal.returns-in_err-hands
returns-in_err-hands g c =
    let p = err_from_is_err_and c.from_residual-in_err-hands.result c.from_residual-in_err-hands.ensures.1 in
    rw (p.1, p.2) (record { value = tt; within = tt; too_many = λ is. absurd cc; leaves = tt })

pub new-requires-clause-problem : goal.new-requires-clause-problem
new-requires-clause-problem g c _ _ = c.requires.problem

pub new-requires-clause-roots : goal.new-requires-clause-roots
new-requires-clause-roots g c _ _ = c.requires.roots

pub new-requires-clause-workers : goal.new-requires-clause-workers
new-requires-clause-workers g c _ _ = c.requires.workers

pub new-requires-clause-are_roots : goal.new-requires-clause-are_roots
new-requires-clause-are_roots g c _ _ = c.requires.are_roots

pub new-requires-clause-some : goal.new-requires-clause-some
new-requires-clause-some g c _ _ = c.requires.some

pub new-requires-clause-few_workers : goal.new-requires-clause-few_workers
new-requires-clause-few_workers g c _ _ = c.requires.few_workers

pub new-requires-clause-few_roots : goal.new-requires-clause-few_roots
new-requires-clause-few_roots g c _ _ = c.requires.few_roots

pub new-requires-clause-few_leaves : goal.new-requires-clause-few_leaves
new-requires-clause-few_leaves g c _ _ = c.requires.few_leaves

pub returns-in-Err-clause-value : goal.returns-in-Err-clause-value
returns-in-Err-clause-value g c = tt

pub returns-in-Err-clause-within : goal.returns-in-Err-clause-within
returns-in-Err-clause-within g c = tt

pub returns-in-Err-clause-leaves : goal.returns-in-Err-clause-leaves
returns-in-Err-clause-leaves g c = tt

pub returns-in-Ok-clause-too_many : goal.returns-in-Ok-clause-too_many
returns-in-Ok-clause-too_many g c = λ is. absurd cc

pub returns-in-Ok-clause-value : goal.returns-in-Ok-clause-value
returns-in-Ok-clause-value g c =
    let seen = c.in_ok-refinery.ensures.seen in
    c.in-Ok.ensures.value ∙ (λ i. leaves_of_roots (plain_problem (seen.0 i)) (plain_cells (seen.1 i)))
