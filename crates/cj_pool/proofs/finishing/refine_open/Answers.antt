use Rattle.std.proofs.Common.{◌≡◌, ◌<◌, ℕ, Err, length, take, take_all, drop, vec_len, All, sym, ap, subst, arith}
use Rattle.cj_case.specs.Problems.{plain_problem}
use Rattle.cj_pool.specs.RootLists.{IsKept}
use Rattle.cj_pool.proofs.RefineLemmas.{refined_begins, refined_step, refined_many, refused_as}
use Rattle.cj_pool.proofs.finishing.refine_open.Goals as goal

pub loop-cell-init : goal.loop-cell-init
loop-cell-init c = refined_begins (plain_problem c.args.problem.now) c.args.cells.now c.args.limit c.args.leaves.now.items
    (omega (arith, c.if-len-limit.false, c.len.ensures, c.args.leaves.now.ok.0))

pub returns-in-Err-clause-too_many : goal.returns-in-Err-clause-too_many
returns-in-Err-clause-too_many c =
    let l = c.loop-cell in
    let case = plain_problem c.args.problem.now in
    let cells = c.args.cells.now in
    let many = λ (e : _).
    refined_many case cells c.args.limit l.cell-index c.args.leaves.now.items l.leaves.items l.invariant c.cell-item.result (omega arith)
    c.cell-item.is (let over = c.in-Err.ensures.too_many (ap (λ x. Err x) e) in omega (arith, over, l.leaves.ok.0)) in
    refused_as c.in-Err.error c.refusal.result c.args.limit _ c.refusal.ensures.memory c.refusal.ensures.too_many
    (λ e. let over = many e in omega (arith, over, c.args.leaves.now.ok.0))

pub loop-cell-preserved : goal.loop-cell-preserved
loop-cell-preserved c =
    let l = c.loop-cell in
    let new = c.refine.new.leaves in
    let n : vec_len l.leaves ≡ length l.leaves.items = omega (arith, l.leaves.ok.0) in
    let e = c.in-Ok.ensures in
    refined_step (plain_problem c.args.problem.now) c.args.cells.now c.args.limit l.cell-index c.args.leaves.now.items l.leaves.items l.invariant
    c.cell-item.result (omega arith) c.cell-item.is new.items
    c.requires.lengths c.args.problem.now.least (omega (arith, e.within, new.ok.0))
    (subst (λ (k : ℕ). take k new.items ≡ l.leaves.items) n e.kept) e.ok
    (subst (λ (k : ℕ). All (λ leaf. leaf.cell.root ≡ c.cell-item.result.root) (drop k new.items)) n e.root)

pub returns-clause-too_many : goal.returns-clause-too_many
returns-clause-too_many c = tt

pub returns-in-Err-clause-judged : goal.returns-in-Err-clause-judged
returns-in-Err-clause-judged c = tt

pub returns-in-Err-clause-within : goal.returns-in-Err-clause-within
returns-in-Err-clause-within c = tt

pub returns-then-len-limit-clause-judged : goal.returns-then-len-limit-clause-judged
returns-then-len-limit-clause-judged c = tt

pub returns-then-len-limit-clause-within : goal.returns-then-len-limit-clause-within
returns-then-len-limit-clause-within c = tt

pub returns-clause-judged : goal.returns-clause-judged
returns-clause-judged c = c.loop-cell.invariant.judged

pub returns-clause-within : goal.returns-clause-within
returns-clause-within c = omega (arith, c.loop-cell.invariant.room, c.loop-cell.leaves.ok.0)

pub returns-clause-kept : goal.returns-clause-kept
returns-clause-kept c =
    let n : length c.args.leaves.now.items ≡ vec_len c.args.leaves.now = omega (arith, c.args.leaves.now.ok.0) in
    subst (λ (k : ℕ). take k c.loop-cell.leaves.items ≡ c.args.leaves.now.items) n c.loop-cell.invariant.kept

pub returns-then-len-limit-clause-kept : goal.returns-then-len-limit-clause-kept
returns-then-len-limit-clause-kept c = take_all (vec_len c.args.leaves.now) c.args.leaves.now.items (omega (arith, c.args.leaves.now.ok.0))

pub refine-requires-clause-room : goal.refine-requires-clause-room
refine-requires-clause-room c = omega (arith, c.loop-cell.invariant.room, c.loop-cell.leaves.ok.0)

pub refine-requires-clause-pieces : goal.refine-requires-clause-pieces
refine-requires-clause-pieces c =
    let lt : c.loop-cell.cell-index < length c.args.cells.now = omega arith in
    subst (IsKept (plain_problem c.args.problem.now)) (sym c.cell-item.is) (c.requires.kept c.loop-cell.cell-index c.cell-item.result lt)
