-- The account of a hand after a turn.
use Rattle.std.proofs.Common.{◌≡◌, ℕ, ◌+◌, List, [], ◌∷◌, ◌++◌, length, get_or, refl, sym, ap, ◌∙◌, arith, length-append}
use Rattle.std.specs.Prelude.{All}
use Rattle.std.proofs.lemmas.List.{map-append, length-set}
use Rattle.std.proofs.lemmas.List.Elements.{All-push}
use Rattle.std.specs.List.Sorted.{IsPermutation}
use Rattle.std.proofs.lemmas.List.Sorted.{IsPermutation-map, All-permutation, length_permutation}
use Rattle.cj_case.specs.PlainProblems.{PlainProblem}
use Rattle.cj_case.specs.declared.cell.Cell.{Cell}
use Rattle.cj_case.specs.declared.leaf.Leaf.{Leaf}
use Rattle.cj_pool.specs.Hands.{HandSeen, SameHand, Accounts, cells_of, roots_dealt}
use Rattle.cj_pool.specs.Narrow.{Narrow}
use Rattle.cj_pool.specs.RootLists.{IsKept}
use Rattle.cj_pool.specs.Tree.{InTree, IsLeafOf}
use Rattle.cj_pool.specs.Turns.{CellCame, held, took, SameCells, MadeLeaf, MadeHalves, KeptBoth}
use Rattle.cj_pool.specs.Weights.{weigh}
use Rattle.cj_pool.proofs.WeightLemmas.{weigh_moved, weigh_snoc, weigh_one, weigh_taken}

-- the lengths of lists, and their weights where each item weighs one
weigh_lengths : {X : Type 0} (xss : List (List X)) → weigh length xss ≡ weigh (weigh (λ (x : X). 1)) xss
weigh_lengths [] = refl
weigh_lengths (xs ∷ xss) = let rest = weigh_lengths xss in omega (arith, weigh_one xs)

-- the cell of a turn was kept before, or was not taken before
pub came_weighs : (w : Cell → ℕ) (kept : List Cell) (old new : List (List Cell)) (c : Cell) (rest : List Cell) → CellCame kept old new c rest → weigh (weigh w) new + weigh w kept ≡ weigh (weigh w) old + weigh w rest + w c
came_weighs w kept old new c rest (held is same) = let k = ap (weigh w) is in let t = ap (weigh (weigh w)) same in omega (arith, k, t, weigh_snoc w rest c)
came_weighs w kept old new c rest (took d lt none none' is) =
    let k = ap (weigh w) none in let r = ap (weigh w) none' in let t = ap (weigh (weigh w)) is in omega (arith, k, r, t, weigh_taken w old d c lt)

pub came_counts : (kept : List Cell) (old new : List (List Cell)) (c : Cell) (rest : List Cell) → CellCame kept old new c rest → weigh length new + length kept ≡ weigh length old + length rest + 1
came_counts kept old new c rest came =
    let all = came_weighs (λ _. 1) kept old new c rest came in
    omega (arith, all, weigh_lengths old, weigh_lengths new, weigh_one kept, weigh_one rest)

pub came_passes : (kept : List Cell) (old new : List (List Cell)) (c : Cell) (rest : List Cell) → CellCame kept old new c rest → length new ≡ length old
came_passes kept old new c rest (held is same) = ap length same
came_passes kept old new c rest (took d lt none none' is) = ap length is ∙ length-set old d (get_or old d [] ++ c ∷ [])

module _ (case : PlainProblem) (roots : List Cell) (n : ℕ) (old new : HandSeen) (a : Accounts case roots n old) (same : SameHand old new) (places : new.deques ≡ old.deques) where
  opening_is : new.opening ≡ roots_dealt roots n new.number
  opening_is = same.opening ∙ a.opening ∙ ap (λ (k : ℕ). roots_dealt roots n k) (sym same.number)

  -- no cell was touched
  pub same_accounts : SameCells old new → new.share.count.closes + new.uncounted ≡ old.share.count.closes + old.uncounted → new.share.count.firsts ≡ old.share.count.firsts → Accounts case roots n new
  same_accounts cells closes firsts = record {
    roots_are = a.roots_are;
    number = omega (arith, a.number, same.number);
    deques = ap length places ∙ a.deques;
    passes = ap length cells.taken ∙ a.passes;
    opening = opening_is;
    balanced = λ w s. rw (cells.taken, cells.closed, cells.pushed, cells.kept) (a.balanced w s);
    tree = rw (cells.kept) a.tree;
    leaves = rw (cells.closed) a.leaves;
    closes = rw (closes, cells.closed) a.closes;
    splits = rw (firsts, cells.taken, cells.closed, cells.pushed, cells.kept) a.splits;
    pushes = rw (firsts, cells.pushed) a.pushes;
    narrow = rw (cells.kept) a.narrow;
  }

  -- the leaves were put in another order
  pub sorted_accounts : IsPermutation old.closed new.closed → new.taken ≡ old.taken → new.pushed ≡ old.pushed → new.kept ≡ old.kept
      → new.share.count.closes + new.uncounted ≡ old.share.count.closes + old.uncounted → new.share.count.firsts ≡ old.share.count.firsts → Accounts case roots n new
  sorted_accounts moved taken pushed kept closes firsts =
      let long = length_permutation old.closed new.closed moved in
      record {
        roots_are = a.roots_are;
        number = omega (arith, a.number, same.number);
        deques = ap length places ∙ a.deques;
        passes = ap length taken ∙ a.passes;
        opening = opening_is;
        balanced = λ w s.
            let cells = weigh_moved w (cells_of old.closed) (cells_of new.closed) (IsPermutation-map (λ (l : Leaf). l.cell) old.closed new.closed moved) in
            rw (taken, cells, pushed, kept) (a.balanced w s);
        tree = rw (kept) a.tree;
        leaves = All-permutation (IsLeafOf case roots) old.closed new.closed moved a.leaves;
        closes = omega (arith, closes, long, a.closes);
        splits = rw (firsts, taken, long, pushed, kept) a.splits;
        pushes = rw (firsts, pushed) a.pushes;
        narrow = rw (kept) a.narrow;
      }

  -- a cell became a leaf
  pub closed_accounts : (m : MadeLeaf case old new) → IsLeafOf case roots m.leaf → All (InTree case roots) new.kept → Narrow 26 new.kept → new.share.count.closes + new.uncounted ≡ old.share.count.closes + old.uncounted + 1 → new.share.count.firsts ≡ old.share.count.firsts
      → Accounts case roots n new
  closed_accounts m is tree narrow closes firsts =
      let leaf = m.leaf in
      let pushed = m.pushed in
      let more : length new.closed ≡ length old.closed + 1 = ap length m.closed ∙ length-append old.closed (leaf ∷ []) in
      let count = came_counts old.kept old.taken new.taken leaf.cell new.kept m.came in
      let same_pushed : length new.pushed ≡ length old.pushed = ap length pushed in
      record {
        roots_are = a.roots_are;
        number = omega (arith, a.number, same.number);
        deques = ap length places ∙ a.deques;
        passes = came_passes old.kept old.taken new.taken leaf.cell new.kept m.came ∙ a.passes;
        opening = opening_is;
        balanced = λ w s.
            let before = a.balanced w s in
            let came = came_weighs w old.kept old.taken new.taken leaf.cell new.kept m.came in
            let cells : weigh w (cells_of new.closed) ≡ weigh w (cells_of old.closed) + w leaf.cell =
            ap (λ (ls : List Leaf). weigh w (cells_of ls)) m.closed ∙ ap (weigh w) (map-append (λ (l : Leaf). l.cell) old.closed (leaf ∷ [])) ∙ weigh_snoc w (cells_of old.closed) leaf.cell in
            let p = ap (weigh w) pushed in omega (arith, before, came, cells, p);
        tree = tree;
        leaves = rw (m.closed) (All-push (IsLeafOf case roots) old.closed leaf a.leaves is);
        closes = omega (arith, closes, a.closes, more);
        splits = omega (arith, firsts, a.splits, count, more, same_pushed);
        pushes = omega (arith, firsts, a.pushes, same_pushed);
        narrow = narrow;
      }

  -- a cell was halved, and a half was pushed
  pub split_accounts : (m : MadeHalves case old new) → IsKept case m.cell → All (InTree case roots) new.kept → Narrow 26 new.kept → new.share.count.closes + new.uncounted ≡ old.share.count.closes + old.uncounted → new.share.count.firsts ≡ old.share.count.firsts + 1
      → Accounts case roots n new
  split_accounts m keeps tree narrow closes firsts =
      let same_closed : length new.closed ≡ length old.closed = ap length m.closed in
      let count = came_counts old.kept old.taken new.taken m.cell m.rest m.came in
      let more_pushed : length new.pushed ≡ length old.pushed + 1 = ap length m.pushed ∙ length-append old.pushed (m.right ∷ []) in
      let more_kept : length new.kept ≡ length m.rest + 1 = ap length m.kept ∙ length-append m.rest (m.left ∷ []) in
      record {
        roots_are = a.roots_are;
        number = omega (arith, a.number, same.number);
        deques = ap length places ∙ a.deques;
        passes = came_passes old.kept old.taken new.taken m.cell m.rest m.came ∙ a.passes;
        opening = opening_is;
        balanced = λ w s.
            let before = a.balanced w s in
            let came = came_weighs w old.kept old.taken new.taken m.cell m.rest m.came in
            let both = s m.cell m.left m.right keeps m.halved in
            let cells : weigh w (cells_of new.closed) ≡ weigh w (cells_of old.closed) = ap (λ (ls : List Leaf). weigh w (cells_of ls)) m.closed in
            let p : weigh w new.pushed ≡ weigh w old.pushed + w m.right = ap (weigh w) m.pushed ∙ weigh_snoc w old.pushed m.right in
            let k : weigh w new.kept ≡ weigh w m.rest + w m.left = ap (weigh w) m.kept ∙ weigh_snoc w m.rest m.left in omega (arith, before, came, both, cells, p, k);
        tree = tree;
        leaves = rw (m.closed) a.leaves;
        closes = omega (arith, closes, a.closes, same_closed);
        splits = omega (arith, firsts, a.splits, count, same_closed, more_pushed, more_kept);
        pushes = omega (arith, firsts, a.pushes, more_pushed);
        narrow = narrow;
      }

  -- a cell was halved, and both halves are kept
  pub kept_accounts : (m : KeptBoth case old new) → IsKept case m.cell → All (InTree case roots) new.kept → Narrow 26 new.kept → new.share.count.closes + new.uncounted ≡ old.share.count.closes + old.uncounted → new.share.count.firsts ≡ old.share.count.firsts + 1
      → Accounts case roots n new
  kept_accounts m keeps tree narrow closes firsts =
      let same_closed : length new.closed ≡ length old.closed = ap length m.closed in
      let same_pushed : length new.pushed ≡ length old.pushed = ap length m.pushed in
      let count = came_counts old.kept old.taken new.taken m.cell m.rest m.came in
      let more_kept : length new.kept ≡ length m.rest + 2 = ap length m.kept ∙ omega (arith, length-append (m.rest ++ m.right ∷ []) (m.left ∷ []), length-append m.rest (m.right ∷ [])) in
      record {
        roots_are = a.roots_are;
        number = omega (arith, a.number, same.number);
        deques = ap length places ∙ a.deques;
        passes = came_passes old.kept old.taken new.taken m.cell m.rest m.came ∙ a.passes;
        opening = opening_is;
        balanced = λ w s.
            let before = a.balanced w s in
            let came = came_weighs w old.kept old.taken new.taken m.cell m.rest m.came in
            let both = s m.cell m.left m.right keeps m.halved in
            let cells : weigh w (cells_of new.closed) ≡ weigh w (cells_of old.closed) = ap (λ (ls : List Leaf). weigh w (cells_of ls)) m.closed in
            let p : weigh w new.pushed ≡ weigh w old.pushed = ap (weigh w) m.pushed in
            let k : weigh w new.kept ≡ weigh w m.rest + w m.right + w m.left = ap (weigh w) m.kept ∙ omega (arith, weigh_snoc w (m.rest ++ m.right ∷ []) m.left, weigh_snoc w m.rest m.right) in
            omega (arith, before, came, both, cells, p, k);
        tree = tree;
        leaves = rw (m.closed) a.leaves;
        closes = omega (arith, closes, a.closes, same_closed);
        splits = omega (arith, firsts, a.splits, count, same_closed, same_pushed, more_kept);
        pushes = omega (arith, firsts, a.pushes, same_pushed);
        narrow = narrow;
      }
