-- The leaves of cells, as a weight that is kept where a cell is closed or halved.
use Rattle.std.proofs.Common.{◌≡◌, ℕ, ◌+◌, ◌^◌, ◌<◌, ◌≤◌, List, [], ◌∷◌, ◌++◌, length, Some, None, refl, sym, ap, ◌∙◌, arith, length-append}
use Rattle.std.specs.List.{flat_map}
use Rattle.cj_interval.proofs.ListLemmas.{Each, Each-weaker, Each-flat_map, Ordered, Ordered-flat_map, each_from_All, ordered_from_AllPairs, exists_from_Any, Exists}
use Rattle.cj_hermite.specs.Interpolant.{Curve}
use Rattle.cj_case.specs.PlainProblems.{PlainProblem, threshold_of}
use Rattle.cj_hermite.specs.ObjectsAtTicks.{HaveCurves}
use Rattle.cj_case.specs.Cells.{PlainCell, IsRootBefore}
use Rattle.cj_hermite.specs.Roots.{KeepPieces}
use Rattle.cj_hermite.proofs.CurveLemmas.{Curves, curves, curves_of}
use Rattle.cj_case.specs.declared.cell.Cell.{Cell}
use Rattle.cj_case.specs.declared.kind.Kind.{Kind}
use Rattle.cj_case.specs.declared.leaf.Leaf.{Leaf}
use Rattle.cj_case.specs.Cells.{plain_cell, plain_cells}
use Rattle.cj_bezier.specs.Halving.{middle, closed, leaves_between}
use Rattle.cj_case.specs.Leaves.{PlainLeaf, plain_leaves, IsTickOf}
use Rattle.cj_case.specs.Order.{IsBefore}
use Rattle.cj_bezier.specs.RootLeaves.{kind_between, kind_of_cell, leaves_of_root, leaves_of_roots, IsPartOf, Describe}
use Rattle.cj_bezier.proofs.HalvingLemmas.{leaves-closed, leaves-halved}
use Rattle.cj_bezier.proofs.JudgeLemmas.{settled_over}
use Rattle.cj_bezier.proofs.LeafLemmas.{leaves_are, described, kind_of}
use Rattle.cj_pool.specs.Hands.{cells_of}
use Rattle.cj_hermite.specs.Lengths.{HaveLengths}
use Rattle.cj_pool.specs.RootLists.{IsKept, AreRoots}
use Rattle.cj_pool.specs.Tree.{IsLeafOf, IsShared, Halved}
use Rattle.cj_pool.specs.Weights.{weigh}
use Rattle.cj_pool.proofs.LengthLemmas.{first_over, second_over}
use Rattle.cj_pool.proofs.TreeLemmas.{tree_keeps}
use Rattle.cj_pool.proofs.WeightLemmas.{weigh_append}

-- ---- one cell

-- how a cell is judged, by its interpolants
judged : (case : PlainProblem) (r : PlainCell) (c d : Curve) → r.first ≤ r.last → HaveCurves case r.a r.b r.first r.last c d →
    kind_between c d (threshold_of case r.a r.b) r.first r.last ≡ kind_of_cell case r
judged case r c d le have = kind_of case r c d (threshold_of case r.a r.b) (have.first_curve r.first (omega arith) le)
    (have.second_curve r.first (omega arith) le) refl

-- a closed cell has its own leaf alone
pub cell_closed : (case : PlainProblem) (r : PlainCell) (kind : Kind) → r.first ≤ r.last → KeepPieces case r.a r.b r.first r.last →
    kind_of_cell case r ≡ Some kind →
    leaves_of_root case r ≡ closed r.a r.b r.first r.last kind ∷ []
cell_closed case r kind le keep is = go (curves_of case r.a r.b r.first r.last keep)
  where
    go : Curves case r.a r.b r.first r.last → leaves_of_root case r ≡ closed r.a r.b r.first r.last kind ∷ []
    go (curves c d have) =
        leaves_are case r c d le have
        ∙ leaves-closed (kind_between c d (threshold_of case r.a r.b)) r.a r.b r.first r.last kind (judged case r c d le have ∙ is)

part_curves : (case : PlainProblem) (a b first last from to : ℕ) (c d : Curve) → HaveCurves case a b first last c d → first ≤ from → to ≤ last →
    HaveCurves case a b from to c d
part_curves case a b first last from to c d have low high = record {
  first_curve = λ m after before. have.first_curve m (omega arith) (omega arith);
  second_curve = λ m after before. have.second_curve m (omega arith) (omega arith);
}

module _ (case : PlainProblem) (long : HaveLengths case) (big : 10 ^ 9 ≤ case.threshold) where
  ticks_halved : (a b first mid last : ℕ) → first ≤ mid → mid < last → mid ≡ middle first last → KeepPieces case a b first last →
      kind_of_cell case (record { a = a; b = b; first = first; last = last }) ≡ None →
      leaves_of_root case (record { a = a; b = b; first = first; last = last })
      ≡ leaves_of_root case (record { a = a; b = b; first = first; last = mid }) ++ leaves_of_root case
      (record { a = a; b = b; first = mid + 1; last = last })
  ticks_halved a b first mid last low high is keep none = go (curves_of case a b first last keep)
    where
      go : Curves case a b first last → leaves_of_root case (record { a = a; b = b; first = first; last = last })
          ≡ leaves_of_root case (record { a = a; b = b; first = first; last = mid }) ++ leaves_of_root case
          (record { a = a; b = b; first = mid + 1; last = last })
      go (curves c d have) =
          let thr = threshold_of case a b in
          let judge = kind_between c d thr in
          let le : first ≤ last = omega arith in
          let settled = settled_over c d thr first last (omega arith) (first_over case a b first last c d long le have)
          (second_over case a b first last c d long le have) in
          let left = leaves_are case (record { a = a; b = b; first = first; last = mid }) c d low
          (part_curves case a b first last first mid c d have (omega arith) (omega arith)) in
          let right = leaves_are case (record { a = a; b = b; first = mid + 1; last = last }) c d (omega arith)
          (part_curves case a b first last (mid + 1) last c d have (omega arith) (omega arith)) in
          leaves_are case (record { a = a; b = b; first = first; last = last }) c d le have
          ∙ leaves-halved judge a b first last le settled (judged case (record { a = a; b = b; first = first; last = last }) c d le have ∙ none)
          ∙ ap (λ (m : ℕ). leaves_between judge a b first m ++ leaves_between judge a b (m + 1) last) (sym is)
          ∙ (λ i. sym left i ++ sym right i)

  -- a halved cell has the leaves of its halves
  pub cell_halved : (c left right : Cell) → IsKept case c → Halved case c left right →
      leaves_of_root case (plain_cell c) ≡ leaves_of_root case (plain_cell left) ++ leaves_of_root case (plain_cell right)
  cell_halved c left right keep halved =
      let h = halved.halves in
      let a = c.pair.a in
      let b = c.pair.b in
      let first = c.first.micros in
      let last = c.last.micros in
      let mid = left.last.micros in
      let low : first ≤ mid = omega (arith, left.some, ap (λ t. t.micros) h.left_first) in
      let high : mid < last = omega (arith, right.some, h.left_last, h.right_first, ap (λ t. t.micros) h.right_last) in
      let left_is : plain_cell left ≡ record { a = a; b = b; first = first; last = mid } =
      (λ i. record { a = (h.left_pair i).a; b = (h.left_pair i).b; first = (h.left_first i).micros; last = mid }) in
      let from : right.first.micros ≡ mid + 1 = omega (arith, h.left_last, h.right_first) in
      let right_is : plain_cell right ≡ record { a = a; b = b; first = mid + 1; last = last } =
      (λ i. record { a = (h.right_pair i).a; b = (h.right_pair i).b; first = from i; last = (h.right_last i).micros }) in
      ticks_halved a b first mid last low high h.left_last keep halved.open_cell ∙
      (λ i. leaves_of_root case (sym left_is i) ++ leaves_of_root case (sym right_is i))

  -- so each weight of leaves is one that a cell has as its halves together
  pub leaves_shared : (f : PlainLeaf → ℕ) → IsShared case (λ c. weigh f (leaves_of_root case (plain_cell c)))
  leaves_shared f c left right keep halved =
      ap (weigh f) (cell_halved c left right keep halved) ∙ weigh_append f (leaves_of_root case (plain_cell left))
      (leaves_of_root case (plain_cell right))

  -- ---- what the leaves of a cell are

  pub described_cell : (r : PlainCell) → r.first ≤ r.last → KeepPieces case r.a r.b r.first r.last → Describe case r (leaves_of_root case r)
  described_cell r le keep = go (curves_of case r.a r.b r.first r.last keep)
    where
      go : Curves case r.a r.b r.first r.last → Describe case r (leaves_of_root case r)
      go (curves c d have) = described case r c d big le (first_over case r.a r.b r.first r.last c d long le have)
          (second_over case r.a r.b r.first r.last c d long le have) have

  pub described_cells : (cells : List Cell) → Each (IsKept case) cells → Each (λ r. Describe case r (leaves_of_root case r)) (plain_cells cells)
  described_cells [] keep = tt
  described_cells (c ∷ cells) keep = (described_cell (plain_cell c) c.some keep.0, described_cells cells keep.1)

  some_of : (a b m : ℕ) (ss : List PlainLeaf) → Exists (IsTickOf a b m) ss → 0 < length ss
  some_of a b m [] e = absurd e
  some_of a b m (s ∷ ss) e = omega arith

  -- a cell has a leaf at least
  pub some_leaf : (r : PlainCell) → r.first ≤ r.last → KeepPieces case r.a r.b r.first r.last → 0 < length (leaves_of_root case r)
  some_leaf r le keep =
      let d = described_cell r le keep in
      some_of r.a r.b r.first (leaves_of_root case r) (exists_from_Any (IsTickOf r.a r.b r.first) (leaves_of_root case r)
      (d.complete r.first (omega arith) le))

  pub fewer_cells : (cells : List Cell) → Each (IsKept case) cells → length cells ≤ length (leaves_of_roots case (plain_cells cells))
  unfolding leaves_of_roots
  fewer_cells [] keep = omega arith
  fewer_cells (c ∷ cells) keep =
      let one = some_leaf (plain_cell c) c.some keep.0 in
      let rest = fewer_cells cells keep.1 in
      omega (arith, length-append (leaves_of_root case (plain_cell c)) (flat_map (leaves_of_root case) (plain_cells cells)))

  -- ---- their order

  parts_of : (r : PlainCell) → Describe case r (leaves_of_root case r) → Each (IsPartOf r) (leaves_of_root case r)
  parts_of r is = each_from_All (IsPartOf r) (leaves_of_root case r) is.parts

  across : (r q : PlainCell) → Describe case r (leaves_of_root case r) → Describe case q (leaves_of_root case q) → IsRootBefore r q →
      Each (λ s. Each (IsBefore s) (leaves_of_root case q)) (leaves_of_root case r)
  across r q is is' before =
      Each-weaker (IsPartOf r) (λ s. Each (IsBefore s) (leaves_of_root case q))
      (λ s in_r. Each-weaker (IsPartOf q) (IsBefore s)
      (λ t in_q. record {
        first_object = omega (arith, in_r.first_object, in_q.first_object, before.first_object);
        second_object = λ e. omega (
          arith,
          in_r.second_object,
          in_q.second_object,
          before.second_object
              (omega (arith, in_r.first_object, in_q.first_object)),
        );
        ticks = λ e f. omega (
          arith,
          in_r.to,
          in_q.from,
          before.ticks (omega (arith, in_r.first_object, in_q.first_object))
              (omega (arith, in_r.second_object, in_q.second_object)),
        );
      }) (leaves_of_root case q) (parts_of q is'))
      (leaves_of_root case r) (parts_of r is)

  pub leaves_ordered : (roots : List PlainCell) → Each (λ r. Describe case r (leaves_of_root case r)) roots → Ordered IsRootBefore roots →
      Ordered IsBefore (leaves_of_roots case roots)
  unfolding leaves_of_roots
  leaves_ordered roots are ordered =
      Ordered-flat_map IsBefore IsRootBefore (λ r. Describe case r (leaves_of_root case r)) (leaves_of_root case)
      (λ r is. ordered_from_AllPairs IsBefore (leaves_of_root case r) is.ordered) across roots are ordered

  -- each has a tick
  pub leaves_some : (roots : List PlainCell) → Each (λ r. Describe case r (leaves_of_root case r)) roots →
      Each (λ s. s.first ≤ s.last) (leaves_of_roots case roots)
  unfolding leaves_of_roots
  leaves_some roots are =
      Each-flat_map (λ s. s.first ≤ s.last) (leaves_of_root case) roots
      (Each-weaker (λ r. Describe case r (leaves_of_root case r)) (λ r. Each (λ s. s.first ≤ s.last) (leaves_of_root case r))
      (λ r is. Each-weaker (IsPartOf r) (λ s. s.first ≤ s.last) (λ s part. part.some) (leaves_of_root case r) (parts_of r is)) roots are)

-- ---- lists of them

pub weigh_leaves : (case : PlainProblem) (f : PlainLeaf → ℕ) (cells : List Cell) →
    weigh f (leaves_of_roots case (plain_cells cells)) ≡ weigh (λ c. weigh f (leaves_of_root case (plain_cell c))) cells
unfolding leaves_of_roots
weigh_leaves case f [] = refl
weigh_leaves case f (c ∷ cells) =
    weigh_append f (leaves_of_root case (plain_cell c)) (flat_map (leaves_of_root case) (plain_cells cells)) ∙ ap
    (λ n. weigh f (leaves_of_root case (plain_cell c)) + n) (weigh_leaves case f cells)

-- leaves weigh what the leaves of their cells weigh
pub weigh_closed : (case : PlainProblem) (roots : List Cell) (f : PlainLeaf → ℕ) (leaves : List Leaf) → AreRoots case roots →
    Each (IsLeafOf case roots) leaves →
    weigh f (plain_leaves leaves) ≡ weigh (λ c. weigh f (leaves_of_root case (plain_cell c))) (cells_of leaves)
weigh_closed case roots f [] are each = refl
weigh_closed case roots f (l ∷ leaves) are each =
    let keep = tree_keeps case roots l.cell are each.0.tree in
    let here = ap (weigh f) (cell_closed case (plain_cell l.cell) l.kind l.cell.some keep each.0.kind) in
    let rest = weigh_closed case roots f leaves are each.1 in
    omega arith
