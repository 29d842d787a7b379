use Rattle.std.proofs.Common.{◌≡◌, ℕ, ◌+◌, ◌-◌, ◌≤◌, ◌++◌, List, length, sym, ap, subst, ◌∙◌, arith}
use Rattle.std.specs.Prelude.{All, Contains}
use Rattle.std.specs.List.{sum_by}
use Rattle.std.specs.List.Sorted.{IsPermutation}
use Rattle.std.proofs.lemmas.List.Sorted.{All-permutation, IsPermutation-sym, length_permutation}
use Rattle.std.proofs.lemmas.Result.{err_from_is_err_and}
use Rattle.cj_case.specs.Problems.{plain_problem}
use Rattle.cj_case.specs.declared.problem.Problem.{Problem}
use Rattle.cj_case.specs.declared.cell.Cell.{Cell}
use Rattle.cj_case.specs.declared.leaf.Leaf.{Leaf}
use Rattle.cj_case.specs.Cells.{plain_cells}
use Rattle.cj_case.specs.Leaves.{PlainLeaf}
use Rattle.cj_hermite.specs.Lengths.{HaveLengths}
use Rattle.cj_bezier.specs.RootLeaves.{leaves_of_roots}
use Rattle.cj_ledger.specs.declared.count.Opening.{Opening}
use Rattle.cj_ledger.specs.Shares.{LedgerSeen, ShareSeen, IsOf}
use Rattle.cj_pool.specs.declared.refined.FinishError.{FinishError}
use Rattle.cj_pool.specs.Refined.{IsTooMany, leaves_in}
use Rattle.cj_pool.specs.RootLists.{AreRoots, IsKept}
use Rattle.cj_pool.specs.Tree.{InTree, IsLeafOf}
use Rattle.cj_pool.proofs.EndLemmas.{all_moved, all_value, all_refused, all_left, all_kept, all_closed, all_mine, all_shares, all_counts, few_splits, few_closes, fewer, sorted_length}
use Rattle.cj_pool.proofs.FinishLemmas.{closed_found}
use Rattle.cj_pool.proofs.HandSumLemmas.{left_of}
use Rattle.cj_pool.proofs.refinery.Refinery.finish.Goals as goal

-- what is said of the problem that is left is said of the refinery's
moved_of : (p q : Problem) (cells : List Cell) (first sorted : List PlainLeaf) → p ≡ q → IsPermutation (first ++ leaves_of_roots (plain_problem p) (plain_cells cells)) sorted
    → IsPermutation (first ++ leaves_of_roots (plain_problem q) (plain_cells cells)) sorted
moved_of p q cells first sorted same moved = subst (λ (x : Problem). IsPermutation (first ++ leaves_of_roots (plain_problem x) (plain_cells cells)) sorted) same moved

-- and of its limit
within_of : (m n count : ℕ) → m ≡ n → count ≤ m → count ≤ n
within_of m n count same within = omega (arith, same, within)

pub refine_rest-requires-clause-kept : goal.refine_rest-requires-clause-kept
refine_rest-requires-clause-kept g c =
    let r = c.args.self in
    subst (λ (q : Problem). All (IsKept (plain_problem q)) c.deref.result.now) (sym c.in_ok-found.ensures.problem)
    (subst (All (IsKept (plain_problem r.problem))) (sym c.deref.ensures.value)
    (all_kept r c.args.hands.items c.in_ok-found.found.cells.items c.in_ok-found.ensures.all))

pub refine_rest-requires-clause-lengths : goal.refine_rest-requires-clause-lengths
refine_rest-requires-clause-lengths g c =
    let all = c.in_ok-found.ensures.all in
    let sound = all.sound in
    subst (λ (q : Problem). HaveLengths (plain_problem q)) (sym c.in_ok-found.ensures.problem) sound.long

pub returns-in_err-leaves : goal.returns-in_err-leaves
returns-in_err-leaves g c =
    let r = c.args.self in
    let hands = c.args.hands.items in
    let came = c.in_ok-found.ensures in
    let cells = c.in_ok-found.found.cells.items in
    let error : FinishError = c.in_err-leaves.field-0.0 in
    let many : length c.in_ok-found.found.leaves.items + length (leaves_of_roots (plain_problem r.problem) (plain_cells c.deref.result.now))
    ≡ length (leaves_in hands) + length (leaves_of_roots (plain_problem r.problem) (plain_cells cells)) =
    (let same = length_permutation _ _ came.leaves in
    let left = ap (λ (cs : List Cell). length (leaves_of_roots (plain_problem r.problem) (plain_cells cs))) c.deref.ensures.value in omega (arith, same, left)) in
    let here = length c.in_ok-found.found.leaves.items + length (leaves_of_roots (plain_problem r.problem) (plain_cells c.deref.result.now)) in
    let too_many = subst (λ (q : Problem). IsTooMany c.in_ok-found.found.emptied.limit (length c.in_ok-found.found.leaves.items + length
    (leaves_of_roots (plain_problem q) (plain_cells c.deref.result.now))) error) came.problem c.in_err-leaves.ensures.too_many in
    let stands = all_refused r hands cells came.all error (subst (λ (m : ℕ). IsTooMany r.limit m error) many (subst (λ (n : ℕ). IsTooMany n here error) came.limit too_many)) in
    let q = err_from_is_err_and c.from_residual-in_err-leaves.result c.from_residual-in_err-leaves.ensures.1 in
    let roots = c.have_roots.ensures in
    rw (q.1, q.2) (record {
      refused = stands;
      within = tt;
      value = tt;
      judged = tt;
      closed = tt;
      totals = tt;
      once = tt;
      single = roots.single;
      describe = roots.describe;
    })

pub returns-in_err-found : goal.returns-in_err-found
returns-in_err-found g c =
    let p = err_from_is_err_and c.from_residual.result c.from_residual.ensures.1 in
    let roots = c.have_roots.ensures in
    rw (p.1, p.2) (record {
      refused = tt;
      within = tt;
      value = tt;
      judged = tt;
      closed = tt;
      totals = tt;
      once = tt;
      single = roots.single;
      describe = roots.describe;
    })

pub overflow_sub-added : goal.overflow_sub-added
overflow_sub-added g c =
    let r = c.args.self in
    let came = c.in_ok-found.ensures in
    let found = c.in_ok-found.found in
    let sorted = c.in_ok-leaves.leaves in
    let moved = all_moved r c.args.hands.items found.cells.items came.all found.leaves.items sorted.items _ came.leaves c.deref.ensures.value (moved_of c.in_ok-found.found.emptied.problem.now r.problem c.deref.result.now _ _ came.problem c.in_ok-leaves.ensures.moved) in
    let long = sorted_length r c.args.hands.items found.cells.items came.all found.shares.items came.shares sorted.items moved
    (within_of _ _ _ came.limit c.in_ok-leaves.ensures.within) in
    omega (arith, c.len.ensures, c.len-closed.ensures, long, length_permutation _ _ came.leaves, sorted.ok.0, found.leaves.ok.0)

pub count-totals-requires-clause-mine : goal.count-totals-requires-clause-mine
count-totals-requires-clause-mine g c =
    let r = c.args.self in
    subst (λ (l : LedgerSeen). All (IsOf l) c.in_ok-found.found.shares.items) (sym c.in_ok-found.ensures.ledger)
    (subst (λ (xs : List ShareSeen). All (IsOf r.ledger) xs) (sym c.in_ok-found.ensures.shares) (all_mine r c.args.hands.items c.requires.hands))

pub count-totals-requires-clause-all : goal.count-totals-requires-clause-all
count-totals-requires-clause-all g c =
    let found = c.in_ok-found.found in
    all_shares c.args.self c.args.hands.items found.cells.items c.in_ok-found.ensures.all found.shares.items c.in_ok-found.ensures.shares
    ∙ sym (ap (λ (o : Opening). o.shares) c.in_ok-found.ensures.opening)

pub count-totals-requires-clause-enough : goal.count-totals-requires-clause-enough
count-totals-requires-clause-enough g c =
    let r = c.args.self in
    let hands = c.args.hands.items in
    let came = c.in_ok-found.ensures in
    let found = c.in_ok-found.found in
    let cells = found.cells.items in
    let sorted = c.in_ok-leaves.leaves in
    let moved = all_moved r hands cells came.all found.leaves.items sorted.items _ came.leaves c.deref.ensures.value (moved_of c.in_ok-found.found.emptied.problem.now r.problem c.deref.result.now _ _ came.problem c.in_ok-leaves.ensures.moved) in
    let long = sorted_length r hands cells came.all found.shares.items came.shares sorted.items moved (within_of _ _ _ came.limit c.in_ok-leaves.ensures.within) in
    let added : c.len.result - c.len-closed.result ≡ length (leaves_of_roots (plain_problem r.problem) (plain_cells cells)) = omega
    (arith, c.len.ensures, c.len-closed.ensures, long, length_permutation _ _ came.leaves, sorted.ok.0, found.leaves.ok.0) in
    omega (arith, added, fewer r hands cells came.all, c.len-2.ensures, found.cells.ok.0)

pub count-totals-requires-clause-few_splits : goal.count-totals-requires-clause-few_splits
count-totals-requires-clause-few_splits g c =
    let r = c.args.self in
    let hands = c.args.hands.items in
    let came = c.in_ok-found.ensures in
    let found = c.in_ok-found.found in
    let cells = found.cells.items in
    let sorted = c.in_ok-leaves.leaves in
    let within = within_of _ _ _ came.limit c.in_ok-leaves.ensures.within in
    let moved = all_moved r hands cells came.all found.leaves.items sorted.items _ came.leaves c.deref.ensures.value (moved_of c.in_ok-found.found.emptied.problem.now r.problem c.deref.result.now _ _ came.problem c.in_ok-leaves.ensures.moved) in
    let long = sorted_length r hands cells came.all found.shares.items came.shares sorted.items moved within in
    let added : c.len.result - c.len-closed.result ≡ length (leaves_of_roots (plain_problem r.problem) (plain_cells cells)) = omega
    (arith, c.len.ensures, c.len-closed.ensures, long, length_permutation _ _ came.leaves, sorted.ok.0, found.leaves.ok.0) in
    omega (arith, added, few_splits r hands cells came.all found.shares.items came.shares sorted.items moved within)

pub count-totals-requires-clause-few_closes : goal.count-totals-requires-clause-few_closes
count-totals-requires-clause-few_closes g c =
    let r = c.args.self in
    let hands = c.args.hands.items in
    let came = c.in_ok-found.ensures in
    let found = c.in_ok-found.found in
    let cells = found.cells.items in
    let sorted = c.in_ok-leaves.leaves in
    let within = within_of _ _ _ came.limit c.in_ok-leaves.ensures.within in
    let moved = all_moved r hands cells came.all found.leaves.items sorted.items _ came.leaves c.deref.ensures.value (moved_of c.in_ok-found.found.emptied.problem.now r.problem c.deref.result.now _ _ came.problem c.in_ok-leaves.ensures.moved) in
    let long = sorted_length r hands cells came.all found.shares.items came.shares sorted.items moved within in
    let added : c.len.result - c.len-closed.result ≡ length (leaves_of_roots (plain_problem r.problem) (plain_cells cells)) = omega
    (arith, c.len.ensures, c.len-closed.ensures, long, length_permutation _ _ came.leaves, sorted.ok.0, found.leaves.ok.0) in
    omega (arith, added, few_closes r hands cells came.all found.shares.items came.shares sorted.items moved within)

pub returns-clause-value : goal.returns-clause-value
returns-clause-value g c =
    let r = c.args.self in
    let came = c.in_ok-found.ensures in
    let sorted = c.in_ok-leaves.leaves in
    let moved = all_moved r c.args.hands.items c.in_ok-found.found.cells.items came.all c.in_ok-found.found.leaves.items sorted.items _ came.leaves c.deref.ensures.value (moved_of c.in_ok-found.found.emptied.problem.now r.problem c.deref.result.now _ _ came.problem c.in_ok-leaves.ensures.moved) in
    all_value r c.args.hands.items c.in_ok-found.found.cells.items came.all sorted.items moved c.in_ok-leaves.ensures.ordered

pub returns-clause-judged : goal.returns-clause-judged
returns-clause-judged g c =
    let r = c.args.self in
    let case = plain_problem r.problem in
    let came = c.in_ok-found.ensures in
    let all = came.all in
    let sound = all.sound in
    let judged = subst (λ (q : Problem). (rs : List Cell) → AreRoots (plain_problem q) rs → All (InTree (plain_problem q) rs) c.deref.result.now → All
    (IsLeafOf (plain_problem q) rs) c.in_ok-found.found.leaves.items → All (IsLeafOf (plain_problem q) rs) c.in_ok-leaves.leaves.items) came.problem c.in_ok-leaves.ensures.judged in
    judged r.roots sound.roots_are (subst (All (InTree case r.roots)) (sym c.deref.ensures.value) all.trees)
    (All-permutation (IsLeafOf case r.roots) _ _ came.leaves (all_closed r c.args.hands.items c.in_ok-found.found.cells.items all))

pub returns-clause-closed : goal.returns-clause-closed
returns-clause-closed g c =
    let sorted = c.in_ok-leaves.leaves.items in
    closed_found c.args.hands.items sorted
    (All-permutation (λ (leaf : Leaf). Contains sorted leaf) _ _ (IsPermutation-sym _ _ c.in_ok-found.ensures.leaves) c.in_ok-leaves.ensures.among)

pub returns-clause-totals : goal.returns-clause-totals
returns-clause-totals g c =
    let r = c.args.self in
    let hands = c.args.hands.items in
    let came = c.in_ok-found.ensures in
    let found = c.in_ok-found.found in
    let cells = found.cells.items in
    let sorted = c.in_ok-leaves.leaves in
    let within = within_of _ _ _ came.limit c.in_ok-leaves.ensures.within in
    let moved = all_moved r hands cells came.all found.leaves.items sorted.items _ came.leaves c.deref.ensures.value (moved_of c.in_ok-found.found.emptied.problem.now r.problem c.deref.result.now _ _ came.problem c.in_ok-leaves.ensures.moved) in
    let long = sorted_length r hands cells came.all found.shares.items came.shares sorted.items moved within in
    let left = length (leaves_of_roots (plain_problem r.problem) (plain_cells cells)) in
    let added : c.len.result - c.len-closed.result ≡ left = omega
    (arith, c.len.ensures, c.len-closed.ensures, long, length_permutation _ _ came.leaves, sorted.ok.0, found.leaves.ok.0) in
    let told = c.count-totals.ensures in
    let totals = c.count-totals.result in
    let splits : totals.splits + length cells ≡ sum_by (λ (s : ShareSeen). s.count.firsts) found.shares.items + left = omega
    (arith, told.splits, c.len-2.ensures, found.cells.ok.0, added) in
    let closes : totals.closes ≡ sum_by (λ (s : ShareSeen). s.count.closes) found.shares.items + left = omega (arith, told.closes, added) in
    all_counts r hands cells came.all found.shares.items came.shares sorted.items moved within totals (told.roots ∙ ap (λ (o : Opening). o.roots) came.opening) splits closes

pub returns-clause-once : goal.returns-clause-once
returns-clause-once g c =
    let cells = c.in_ok-found.found.cells.items in
    (left_of c.args.hands.items cells, all_left c.args.self c.args.hands.items cells c.in_ok-found.ensures.all)

pub collect-requires-clause-all : goal.collect-requires-clause-all
collect-requires-clause-all g c _ _ = c.requires.all

pub collect-requires-clause-hands : goal.collect-requires-clause-hands
collect-requires-clause-hands g c _ _ = c.requires.hands

pub returns-clause-refused : goal.returns-clause-refused
returns-clause-refused g c = tt

pub returns-clause-within : goal.returns-clause-within
returns-clause-within g c = within_of _ _ _ c.in_ok-found.ensures.limit c.in_ok-leaves.ensures.within
