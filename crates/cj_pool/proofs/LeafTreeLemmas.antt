-- The leaves of a cell of a tree are in the tree, each as what it was judged to be.
use Rattle.std.proofs.Common.{◌≡◌, ℕ, zero, suc, ◌+◌, ◌-◌, ◌^◌, ◌<◌, ◌≤◌, List, [], ◌∷◌, ◌++◌, Option, Some, None, refl, sym, ap, ◌∙◌, subst, arith}
use Rattle.std.specs.Prelude.{All, unwrap_or, slice_get}
use Rattle.std.proofs.Math.Bridge.{le_prop}
use Rattle.cj_interval.proofs.ListLemmas.{Each, Each-append, each_from_map, All-from_each, each_from_All}
use Rattle.cj_case.specs.declared.pair.Pair.{Pair}
use Rattle.cj_case.specs.PlainProblems.{PlainProblem, threshold_of}
use Rattle.cj_hermite.proofs.CurveLemmas.{Curves, curves, curves_of}
use Rattle.cj_case.specs.declared.cell.Cell.{Cell}
use Rattle.cj_case.specs.declared.kind.Kind.{Kind}
use Rattle.cj_case.specs.declared.kind.Kind.TheVariants.{Undecided}
use Rattle.cj_case.specs.declared.leaf.Leaf.{Leaf}
use Rattle.cj_case.specs.Cells.{plain_cell}
use Rattle.cj_bezier.specs.Halving.{InHalving, middle, closed, closed_or, leaves_within, leaves_between, left, right}
use Rattle.cj_case.specs.Leaves.{PlainLeaf, plain_leaf, plain_leaves}
use Rattle.cj_bezier.specs.RootLeaves.{kind_between, leaves_of_root}
use Rattle.cj_bezier.proofs.HalvingLemmas.{IsSettled, two_ticks}
use Rattle.cj_bezier.proofs.JudgeLemmas.{settled_over}
use Rattle.cj_bezier.proofs.LeafLemmas.{leaves_are, kind_of}
use Rattle.cj_hermite.specs.Lengths.{HaveLengths}
use Rattle.cj_pool.specs.RootLists.{AreRoots}
use Rattle.cj_pool.specs.Tree.{ticks_kind, InTree, IsLeafOf}
use Rattle.cj_pool.proofs.LengthLemmas.{first_over, second_over}
use Rattle.cj_pool.proofs.TreeLemmas.{tree_keeps}

-- a leaf of the objects a and b in this halving tree, as what it is judged to be
pub record IsInTree (judge : ℕ → ℕ → Option Kind) (a b first last : ℕ) (s : PlainLeaf) : Type 0 where
  pub first_object : s.a ≡ a
  pub second_object : s.b ≡ b
  pub tree : InHalving judge first last s.first s.last
  pub kind : judge s.first s.last ≡ Some s.kind

module _ (judge tree : ℕ → ℕ → Option Kind) (a b first last from to : ℕ) (same : (lo hi : ℕ) → from ≤ lo → lo ≤ hi → hi ≤ to → judge lo hi ≡ tree lo hi) where
  own_leaf : (lo hi : ℕ) (kind : Kind) → from ≤ lo → lo ≤ hi → hi ≤ to → InHalving tree first last lo hi → judge lo hi ≡ Some kind →
      Each (IsInTree tree a b first last) (closed a b lo hi kind ∷ [])
  own_leaf lo hi kind low le high in_tree is = (
    record
        { first_object = refl; second_object = refl; tree = in_tree; kind = sym (same lo hi low le high) ∙ is },
    tt,
  )

  within_tree : (n lo hi : ℕ) → from ≤ lo → lo ≤ hi → hi ≤ to → hi ≤ lo + n → IsSettled judge lo hi → InHalving tree first last lo hi →
      Each (IsInTree tree a b first last) (leaves_within judge a b n lo hi)
  unfolding leaves_within
  within_tree zero lo hi low le high enough settled in_tree = go (judge lo hi) refl
    where
      go : (o : Option Kind) → judge lo hi ≡ o → Each (IsInTree tree a b first last) (closed a b lo hi (unwrap_or o Undecided) ∷ [])
      go (Some kind) e = own_leaf lo hi kind low le high in_tree e
      go None e = let more = two_ticks judge lo hi le settled e in absurd (omega arith)
  within_tree (suc n) lo hi low le high enough settled in_tree =
      go (judge lo hi) refl
      (λ lt none. within_tree n lo (middle lo hi) low (omega arith) (omega arith) (omega arith) (λ m l h. settled m l (omega arith))
      (left lo hi in_tree lt none))
      (λ lt none. within_tree n (middle lo hi + 1) hi (omega arith) (omega arith) high (omega arith) (λ m l h. settled m (omega arith) h)
      (right lo hi in_tree lt none))
    where
      go : (o : Option Kind) → judge lo hi ≡ o
          → (lo < hi → tree lo hi ≡ None → Each (IsInTree tree a b first last) (leaves_within judge a b n lo (middle lo hi)))
          → (lo < hi → tree lo hi ≡ None → Each (IsInTree tree a b first last) (leaves_within judge a b n (middle lo hi + 1) hi))
          → Each (IsInTree tree a b first last) (closed_or a b lo hi o
          (leaves_within judge a b n lo (middle lo hi) ++ leaves_within judge a b n (middle lo hi + 1) hi))
      go (Some kind) e l r = own_leaf lo hi kind low le high in_tree e
      go None e l r =
          let more = two_ticks judge lo hi le settled e in
          let none : tree lo hi ≡ None = sym (same lo hi low le high) ∙ e in
          Each-append (IsInTree tree a b first last) (leaves_within judge a b n lo (middle lo hi)) (leaves_within judge a b n (middle lo hi + 1) hi)
          (l more none) (r more none)

-- the leaves of a cell of a root's tree
pub leaves_in_tree : (case : PlainProblem) (roots : List Cell) (c : Cell) → HaveLengths case → 10 ^ 9 ≤ case.threshold → AreRoots case roots →
    (t : InTree case roots c) →
    Each (IsInTree (ticks_kind case c.pair.a c.pair.b) c.pair.a c.pair.b t.root.first.micros t.root.last.micros) (leaves_of_root case (plain_cell c))
unfolding leaves_between
leaves_in_tree case roots c long big are t = go (curves_of case c.pair.a c.pair.b c.first.micros c.last.micros (tree_keeps case roots c are t))
  where
    go : Curves case c.pair.a c.pair.b c.first.micros c.last.micros →
        Each (IsInTree (ticks_kind case c.pair.a c.pair.b) c.pair.a c.pair.b t.root.first.micros t.root.last.micros)
        (leaves_of_root case (plain_cell c))
    go (curves x y have) =
        let a = c.pair.a in
        let b = c.pair.b in
        let thr = threshold_of case a b in
        let judge = kind_between x y thr in
        let lo = c.first.micros in
        let hi = c.last.micros in
        let settled = settled_over x y thr lo hi (omega arith) (first_over case a b lo hi x y long c.some have)
        (second_over case a b lo hi x y long c.some have) in
        let same = λ (f l : ℕ) (low : lo ≤ f) (le : f ≤ l) (high : l ≤ hi).
        kind_of case (record { a = a; b = b; first = f; last = l }) x y thr (have.first_curve f low (omega arith))
        (have.second_curve f low (omega arith)) refl in
        subst (Each (IsInTree (ticks_kind case a b) a b t.root.first.micros t.root.last.micros))
        (sym (leaves_are case (plain_cell c) x y c.some have))
        (within_tree judge (ticks_kind case a b) a b t.root.first.micros t.root.last.micros lo hi same (hi - lo) lo hi (omega arith) c.some
        (omega arith) (omega arith) settled t.tree)

abbrev pair : (a b : ℕ) → a < b → Pair
pair a b lt = record { a = a; b = b; ordered = lt }

same_first : (a c b : ℕ) → a ≡ c → (p : a < b) (q : c < b) → pair a b p ≡ pair c b q
same_first a c b e = subst (λ (x : ℕ). (p : a < b) (q : x < b) → pair a b p ≡ pair x b q) e (λ p q. ap (pair a b) (le_prop p q))

same_both : (a c b d : ℕ) → a ≡ c → b ≡ d → (p : a < b) (q : c < d) → pair a b p ≡ pair c d q
same_both a c b d e f = subst (λ (y : ℕ). (p : a < b) (q : c < y) → pair a b p ≡ pair c y q) f (same_first a c b e)

same_pair : (p q : Pair) → p.a ≡ q.a → p.b ≡ q.b → p ≡ q
same_pair p q a b = same_both p.a q.a p.b q.b a b p.ordered q.ordered

-- a leaf that was found in a cell of a tree is a leaf of the tree
leaf_of_tree : (case : PlainProblem) (roots : List Cell) (c : Cell) (t : InTree case roots c) (l : Leaf) → l.cell.root ≡ c.root →
    IsInTree (ticks_kind case c.pair.a c.pair.b) c.pair.a c.pair.b t.root.first.micros t.root.last.micros (plain_leaf l) → IsLeafOf case roots l
leaf_of_tree case roots c t l root is =
    let pair : l.cell.pair ≡ c.pair = same_pair l.cell.pair c.pair is.first_object is.second_object in
    record {
      tree = record {
        root = t.root;
        at = ap (λ (n : ℕ). slice_get roots n) root ∙ t.at;
        pair = pair ∙ t.pair;
        tree = subst (λ (p : Pair). InHalving (ticks_kind case p.a p.b) t.root.first.micros t.root.last.micros l.cell.first.micros
            l.cell.last.micros) (sym pair) is.tree;
      };
      kind = subst (λ (p : Pair). ticks_kind case p.a p.b l.cell.first.micros l.cell.last.micros ≡ Some l.kind) (sym pair) is.kind;
    }

-- the leaves that a cell came to, each with its root's number
pub added_in_tree : (case : PlainProblem) (roots : List Cell) (c : Cell) (added : List Leaf) → HaveLengths case → 10 ^ 9 ≤ case.threshold →
    AreRoots case roots → InTree case roots c →
    All (λ l. l.cell.root ≡ c.root) added → plain_leaves added ≡ leaves_of_root case (plain_cell c) → All (IsLeafOf case roots) added
added_in_tree case roots c added long big are t numbered is =
    let judge = ticks_kind case c.pair.a c.pair.b in
    let found = IsInTree judge c.pair.a c.pair.b t.root.first.micros t.root.last.micros in
    All-from_each (IsLeafOf case roots) added
    (go added (each_from_All (λ l. l.cell.root ≡ c.root) added numbered)
    (each_from_map found plain_leaf added (subst (Each found) (sym is) (leaves_in_tree case roots c long big are t))))
  where
    go : (ls : List Leaf) → Each (λ l. l.cell.root ≡ c.root) ls →
        Each (λ l. IsInTree (ticks_kind case c.pair.a c.pair.b) c.pair.a c.pair.b t.root.first.micros t.root.last.micros (plain_leaf l)) ls →
        Each (IsLeafOf case roots) ls
    go [] numbers trees = tt
    go (l ∷ ls) numbers trees = (leaf_of_tree case roots c t l numbers.0 trees.0, go ls numbers.1 trees.1)
