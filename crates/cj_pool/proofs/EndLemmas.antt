-- What a refinery and its hands come to.
use Rattle.std.proofs.Common.{◌≡◌, ℕ, ◌+◌, ◌^◌, ◌<◌, ◌≤◌, List, ◌++◌, map, length, sym, ap, ◌∙◌, subst, arith, length-append}
use Rattle.std.specs.Prelude.{All, AllPairs, Contains}
use Rattle.std.specs.List.{range_with_len, sum_by}
use Rattle.std.specs.List.Sorted.{IsPermutation}
use Rattle.std.specs.declared.alloc.Global.{Global}
use Rattle.std.proofs.lemmas.List.{length-map}
use Rattle.std.proofs.lemmas.List.Elements.{All-map, All-weaker}
use Rattle.std.proofs.lemmas.List.FromFn.{length-range_with_len}
use Rattle.std.proofs.lemmas.List.Sorted.{IsPermutation-append_left, IsPermutation-map, IsPermutation-trans, length_permutation}
use Rattle.cj_base.specs.Bounds.{MOST_LEAVES}
use Rattle.atomic_blocks.specs.Lent.{RowsId}
use Rattle.cj_interval.proofs.ListLemmas.{each_from_All, All-from_each}
use Rattle.cj_case.specs.Problems.{plain_problem}
use Rattle.cj_case.specs.Cells.{IsRootUpTo}
use Rattle.cj_case.specs.declared.problem.Problem.{Problem}
use Rattle.cj_case.specs.declared.cell.Cell.{Cell}
use Rattle.cj_case.specs.declared.leaf.Leaf.{Leaf}
use Rattle.cj_case.specs.Cells.{plain_cells}
use Rattle.cj_case.specs.Leaves.{plain_leaf, plain_leaves}
use Rattle.cj_bezier.specs.RootLeaves.{leaves_of_root, leaves_of_roots, Describe}
use Rattle.cj_ledger.specs.Shares.{LedgerSeen, ShareSeen, IsOf}
use Rattle.cj_ledger.specs.declared.totals.Totals.{Totals}
use Rattle.cj_pool.specs.declared.refined.FinishError.{FinishError}
use Rattle.cj_pool.specs.Hands.{RefinerySeen, HandSeen, Accounts, IsHandOf, cells_of, settled_share}
use Rattle.cj_hermite.specs.Lengths.{HaveLengths}
use Rattle.cj_pool.specs.Refined.{AreAll, AreLeft, AreOpen, IsOfRun, IsSoundRun, IsTooMany, Stands, TotalsOf, leaves_in, leaves_wanted, numbers_of}
use Rattle.cj_pool.specs.RootLists.{IsKept, AreRoots}
use Rattle.cj_pool.specs.Tree.{InTree, IsLeafOf}
use Rattle.cj_pool.specs.Weights.{weigh, has}
use Rattle.cj_pool.proofs.FinishLemmas.{same_length, sorted_leaves, roots_described, one_root, closed_leaves, trees_keep, counted}
use Rattle.cj_pool.proofs.HandSumLemmas.{left_of, are_left, open_splits, open_closes}
use Rattle.cj_pool.proofs.LeafSumLemmas.{fewer_cells}
use Rattle.cj_pool.proofs.SeatLemmas.{share_sum}

-- a refinery by the problem of the run
pub refinery_of : (problem run : Problem) (roots : List Cell) (limit hands : ℕ) (deques : List (RowsId × Global)) (ledger : LedgerSeen)
    (seen : RefinerySeen) →
    problem ≡ run →
    record { problem = problem; roots = roots; limit = limit; hands = hands; deques = deques; ledger = ledger } ≡ seen → record { problem = run; roots = roots; limit = limit; hands = hands; deques = deques; ledger = ledger } ≡ seen
refinery_of problem run roots limit hands deques ledger seen e is =
    (λ i. record { problem = sym e i; roots = roots; limit = limit; hands = hands; deques = deques; ledger = ledger }) ∙ is

pub sound_described : (r : RefinerySeen) → IsSoundRun r →
    All (λ root. Describe (plain_problem r.problem) root (leaves_of_root (plain_problem r.problem) root)) (plain_cells r.roots)
sound_described r is = roots_described (plain_problem r.problem) r.roots is.long r.problem.least is.roots_are

pub sound_single : (r : RefinerySeen) → IsSoundRun r → (c : Cell) (m : ℕ) → Contains r.roots c → c.first.micros ≤ m → m ≤ c.last.micros →
    weigh (has c.pair.a c.pair.b m) r.roots ≡ 1
sound_single r is c m has_it low high = one_root (plain_problem r.problem) r.roots c m is.roots_are has_it low high

module _ (r : RefinerySeen) (hands : List HandSeen) (cells : List Cell) (are : AreAll r hands cells) where
  abbrev leaves_left : ℕ
  leaves_left = length (leaves_of_roots (plain_problem r.problem) (plain_cells cells))

  all_leaves : length (leaves_in hands) + leaves_left ≡ length (leaves_wanted r)
  all_leaves =
      let s = are.sound in
      same_length (plain_problem r.problem) r.roots s.long r.problem.least s.roots_are r.hands hands cells s.some
      (each_from_All (Accounts (plain_problem r.problem) r.roots r.hands) hands are.accounts) are.numbers are.open_cells
      (closed_leaves (plain_problem r.problem) r.roots r.hands hands are.accounts)

  -- whatever the order in which the leaves of the hands came
  pub all_moved : (leaves sorted : List Leaf) (rest : List Cell) → IsPermutation (leaves_in hands) leaves → rest ≡ cells →
      IsPermutation (plain_leaves leaves ++ leaves_of_roots (plain_problem r.problem) (plain_cells rest)) (plain_leaves sorted) →
      IsPermutation (plain_leaves (leaves_in hands) ++ leaves_of_roots (plain_problem r.problem) (plain_cells cells)) (plain_leaves sorted)
  all_moved leaves sorted rest came is moved =
      IsPermutation-trans _ _ _
      (IsPermutation-append_left (leaves_of_roots (plain_problem r.problem) (plain_cells cells)) (plain_leaves (leaves_in hands)) (plain_leaves leaves)
      (IsPermutation-map plain_leaf (leaves_in hands) leaves came))
      (subst (λ (cs : List Cell). IsPermutation (plain_leaves leaves ++ leaves_of_roots (plain_problem r.problem) (plain_cells cs)) (plain_leaves sorted)) is moved)

  pub all_value : (sorted : List Leaf) →
      IsPermutation (plain_leaves (leaves_in hands) ++ leaves_of_roots (plain_problem r.problem) (plain_cells cells)) (plain_leaves sorted) →
      AllPairs IsRootUpTo (plain_cells (cells_of sorted)) → plain_leaves sorted ≡ leaves_wanted r
  all_value sorted moved ordered =
      let s = are.sound in
      sorted_leaves (plain_problem r.problem) r.roots s.long r.problem.least s.roots_are r.hands hands cells s.some
      (each_from_All (Accounts (plain_problem r.problem) r.roots r.hands) hands are.accounts) are.numbers are.open_cells
      (closed_leaves (plain_problem r.problem) r.roots r.hands hands are.accounts) sorted moved ordered

  -- a refusal to refine says the same of all
  pub all_refused : (error : FinishError) → IsTooMany r.limit (length (leaves_in hands) + leaves_left) error → Stands r error
  all_refused error told = subst (λ (many : ℕ). IsTooMany r.limit many error) all_leaves told

  pub all_left : AreLeft r hands (left_of hands cells)
  all_left = let s = are.sound in are_left r (plain_problem r.problem) hands cells s.some
      (each_from_All (Accounts (plain_problem r.problem) r.roots r.hands) hands are.accounts) are.numbers are.open_cells

  -- the open cells keep their pieces, and the leaves that were closed are what their cells were found to be
  pub all_kept : All (IsKept (plain_problem r.problem)) cells
  all_kept = let s = are.sound in trees_keep (plain_problem r.problem) r.roots cells s.roots_are are.trees

  pub all_closed : All (IsLeafOf (plain_problem r.problem) r.roots) (leaves_in hands)
  all_closed = let case = plain_problem r.problem in
      All-from_each (IsLeafOf case r.roots) (leaves_in hands) (closed_leaves case r.roots r.hands hands are.accounts)

  pub fewer : length cells ≤ leaves_left
  fewer =
      let s = are.sound in
      let case = plain_problem r.problem in
      fewer_cells case s.long r.problem.least cells (each_from_All (IsKept case) cells all_kept)

  halvings : weigh (λ h. h.share.count.firsts) hands + length r.roots ≡ length (leaves_in hands) + length cells
  halvings =
      let s = are.sound in
      open_splits (plain_problem r.problem) r.roots r.hands hands cells s.some
      (each_from_All (Accounts (plain_problem r.problem) r.roots r.hands) hands are.accounts) are.numbers are.open_cells

  closings : weigh (λ h. h.share.count.closes + h.uncounted) hands ≡ length (leaves_in hands)
  closings =
      let s = are.sound in
      open_closes (plain_problem r.problem) r.roots r.hands hands cells s.some
      (each_from_All (Accounts (plain_problem r.problem) r.roots r.hands) hands are.accounts) are.numbers are.open_cells

  -- as many hands as the refinery has
  pub all_shares : (shares : List ShareSeen) → shares ≡ map settled_share hands → length shares ≡ r.hands
  all_shares shares same = ap length same ∙ length-map hands settled_share ∙ sym (length-map hands (λ (h : HandSeen). h.number))
      ∙ ap length are.numbers ∙ length-range_with_len 0 r.hands

  -- ---- what the shares of all hands count, once the leaves are found and sorted

  module _ (shares : List ShareSeen) (same : shares ≡ map settled_share hands) (sorted : List Leaf)
      (moved : IsPermutation (plain_leaves (leaves_in hands) ++ leaves_of_roots (plain_problem r.problem) (plain_cells cells)) (plain_leaves sorted))
      (within : length sorted ≤ r.limit) where
    firsts_are : sum_by (λ (s : ShareSeen). s.count.firsts) shares + length r.roots ≡ length (leaves_in hands) + length cells
    firsts_are = let e = share_sum settled_share (λ (s : ShareSeen). s.count.firsts) hands shares (sym same) in let h = halvings in omega (arith, e, h)

    closes_are : sum_by (λ (s : ShareSeen). s.count.closes) shares ≡ length (leaves_in hands)
    closes_are = sym (share_sum settled_share (λ (s : ShareSeen). s.count.closes) hands shares (sym same)) ∙ closings

    pub sorted_length : length sorted ≡ length (leaves_in hands) + leaves_left
    sorted_length = omega (
      arith,
      length_permutation (plain_leaves (leaves_in hands) ++ leaves_of_roots (plain_problem r.problem) (plain_cells cells)) (plain_leaves sorted) moved,
      length-map sorted plain_leaf,
      length-map (leaves_in hands) plain_leaf,
      length-append (plain_leaves (leaves_in hands)) (leaves_of_roots (plain_problem r.problem) (plain_cells cells)),
    )

    -- so they do not pass 2 ^ 64
    pub few_splits : sum_by (λ (s : ShareSeen). s.count.firsts) shares + leaves_left < 2 ^ 64
    few_splits = let s = are.sound in let f = firsts_are in let e = fewer in let l = sorted_length in omega
        (arith, s.few_leaves, within, f, e, l)

    pub few_closes : sum_by (λ (s : ShareSeen). s.count.closes) shares + leaves_left < 2 ^ 64
    few_closes = let s = are.sound in let c = closes_are in let l = sorted_length in omega (arith, s.few_leaves, within, c, l)

    pub all_counts : (totals : Totals) → totals.roots ≡ length r.roots →
        totals.splits + length cells ≡ sum_by (λ (s : ShareSeen). s.count.firsts) shares + leaves_left →
        totals.closes ≡ sum_by (λ (s : ShareSeen). s.count.closes) shares + leaves_left → TotalsOf (length r.roots) (length sorted) totals
    all_counts totals roots splits closes =
        counted (length r.roots) (length (leaves_in hands)) (length cells) leaves_left (length sorted)
        (sum_by (λ (x : ShareSeen). x.count.firsts) shares) (sum_by (λ (x : ShareSeen). x.count.closes) shares) totals
        sorted_length fewer firsts_are closes_are roots splits closes

-- ---- at the exits of a call

abbrev pub run_of : Problem → List Cell → ℕ → ℕ → List (RowsId × Global) → LedgerSeen → RefinerySeen
run_of run roots limit hands deques ledger = record { problem = run; roots = roots; limit = limit; hands = hands; deques = deques; ledger = ledger }

pub seen_sound : (problem run : Problem) (roots : List Cell) (limit hands : ℕ) (deques : List (RowsId × Global)) (ledger : LedgerSeen) (seen : RefinerySeen) →
    problem ≡ run → run_of problem roots limit hands deques ledger ≡ seen → HaveLengths (plain_problem problem) →
    AreRoots (plain_problem run) roots → length roots ≤ limit → limit ≤ MOST_LEAVES → 1 ≤ hands → IsSoundRun seen
seen_sound problem run roots limit hands deques ledger seen e is long are few_roots few_leaves some =
    subst IsSoundRun (refinery_of problem run roots limit hands deques ledger seen e is) (record {
      long = subst (λ (p : Problem). HaveLengths (plain_problem p)) e long;
      roots_are = are;
      few_roots = few_roots;
      few_leaves = few_leaves;
      some = some;
    })

pub seen_run : (problem run : Problem) (roots : List Cell) (limit hands : ℕ) (deques : List (RowsId × Global)) (ledger : LedgerSeen) (seen : RefinerySeen) →
    problem ≡ run → run_of problem roots limit hands deques ledger ≡ seen → IsOfRun run roots hands seen
seen_run problem run roots limit hands deques ledger seen e is = record {
  problem_is = ap (λ (x : RefinerySeen). x.problem) (sym is) ∙ e;
  roots_are = ap (λ (x : RefinerySeen). x.roots) (sym is);
  hands_are = ap (λ (x : RefinerySeen). x.hands) (sym is);
}

-- all hands of a run are those of its refinery
pub run_all : (problem : Problem) (roots : List Cell) (n : ℕ) (r : RefinerySeen) (hands : List HandSeen) (cells : List Cell) →
    IsOfRun problem roots n r → IsSoundRun r → All (Accounts (plain_problem problem) roots n) hands → numbers_of hands ≡ range_with_len 0 r.hands →
    AreOpen hands cells → All (InTree (plain_problem problem) roots) cells → AreAll r hands cells
run_all problem roots n r hands cells is sound accounts numbers open_cells trees = record {
  sound = sound;
  accounts =
      subst (λ (k : ℕ). All (Accounts (plain_problem r.problem) r.roots k) hands) (sym is.hands_are)
      (subst (λ (cs : List Cell). All (Accounts (plain_problem r.problem) cs n) hands) (sym is.roots_are)
      (subst (λ (p : Problem). All (Accounts (plain_problem p) roots n) hands) (sym is.problem_is) accounts));
  numbers = numbers;
  open_cells = open_cells;
  trees =
      subst (λ (cs : List Cell). All (InTree (plain_problem r.problem) cs) cells) (sym is.roots_are)
      (subst (λ (p : Problem). All (InTree (plain_problem p) roots) cells) (sym is.problem_is) trees);
}

-- the shares of all hands are of the refinery's ledger
pub all_mine : (r : RefinerySeen) (hands : List HandSeen) → All (IsHandOf r) hands → All (IsOf r.ledger) (map settled_share hands)
all_mine r hands are = All-map (IsOf r.ledger) settled_share hands
    (All-weaker (IsHandOf r) (λ (h : HandSeen). IsOf r.ledger h.share) (λ h is. is.1) hands are)
