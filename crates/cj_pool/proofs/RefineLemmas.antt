-- Leaves that are appended, cell by cell.
use Rattle.std.proofs.Common.{◌≡◌, ℕ, ◌+◌, ◌^◌, ◌<◌, ◌≤◌, List, ◌++◌, length, take, drop, get_or, refl, sym, ap, ◌∙◌, subst, arith, append_assoc, append-nil, length-append}
use Rattle.std.specs.Prelude.{All}
use Rattle.std.proofs.lemmas.List.{take-append-drop, take-append-le, take_all, length-take, length-map}
use Rattle.std.proofs.lemmas.List.Elements.{All-append}
use Rattle.cj_case.specs.PlainProblems.{PlainProblem}
use Rattle.cj_case.specs.declared.cell.Cell.{Cell}
use Rattle.cj_case.specs.declared.leaf.Leaf.{Leaf}
use Rattle.cj_case.specs.Cells.{plain_cell}
use Rattle.cj_case.specs.Leaves.{PlainLeaf, plain_leaf, plain_leaves}
use Rattle.cj_bezier.specs.RootLeaves.{leaves_of_root, leaves_of_roots}
use Rattle.cj_cells.specs.Cells.{added_leaves}
use Rattle.cj_cells.specs.declared.refine_error.RefineError.{RefineError}
use Rattle.cj_cells.specs.declared.refine_error.RefineError.TheVariants as refine
use Rattle.cj_pool.specs.declared.refined.FinishError.{FinishError}
use Rattle.cj_pool.specs.declared.refined.FinishError.TheVariants.{Memory, TooMany}
use Rattle.cj_pool.specs.Refined.{IsTooMany}
use Rattle.cj_cells.proofs.ListingLemmas.{leaves_more, leaves_of_cells, root_more, roots_apart}
use Rattle.cj_cells.proofs.SlotRootLemmas.{count_of}
use Rattle.cj_hermite.specs.Lengths.{HaveLengths}
use Rattle.cj_pool.specs.RootLists.{AreRoots}
use Rattle.cj_pool.specs.Tree.{InTree, IsLeafOf}
use Rattle.cj_pool.proofs.LeafTreeLemmas.{added_in_tree}

pub kept_twice : {X : Type 0} (old mid new : List X) → take (length old) mid ≡ old → take (length mid) new ≡ mid → take (length old) new ≡ old
kept_twice old mid new first second =
    let le : length old ≤ length mid = (let same : length (take (length old) mid) ≡ length old = ap length first in omega
    (arith, length-take (length old) mid)) in
    let whole : new ≡ mid ++ drop (length mid) new = sym (take-append-drop (length mid) new) ∙ ap (λ xs. xs ++ drop (length mid) new) second in
    ap (take (length old)) whole ∙ take-append-le (length old) mid (drop (length mid) new) le ∙ first

pub kept_whole : {X : Type 0} (old new : List X) → take (length old) new ≡ old → new ≡ old ++ drop (length old) new
kept_whole old new kept = sym (take-append-drop (length old) new) ∙ ap (λ xs. xs ++ drop (length old) new) kept

-- the first cells were refined
pub record AreRefined (case : PlainProblem) (cells : List Cell) (limit i : ℕ) (start leaves : List Leaf) : Type 0 where
  pub room : length leaves ≤ limit
  pub found : plain_leaves leaves ≡ plain_leaves start ++ leaves_of_cells case (take i cells)
  pub kept : take (length start) leaves ≡ start
  pub judged : (roots : List Cell) → AreRoots case roots → All (InTree case roots) cells → All (IsLeafOf case roots) start →
      All (IsLeafOf case roots) leaves

pub refined_begins : (case : PlainProblem) (cells : List Cell) (limit : ℕ) (start : List Leaf) → length start ≤ limit →
    AreRefined case cells limit 0 start start
unfolding leaves_of_roots
refined_begins case cells limit start room = record {
  room = room;
  found = sym (append-nil (plain_leaves start));
  kept = take_all (length start) start (omega arith);
  judged = λ roots are trees all. all;
}

module _ (case : PlainProblem) (cells : List Cell) (limit i : ℕ) (start leaves : List Leaf) (are : AreRefined case cells limit i start leaves) (c : Cell) (lt : i < length cells) (is : c ≡ get_or cells i c) where
  pub refined_step : (new : List Leaf) → HaveLengths case → 10 ^ 9 ≤ case.threshold → length new ≤ limit → take (length leaves) new ≡ leaves →
      added_leaves leaves new ≡ leaves_of_root case (plain_cell c) →
      All (λ l. l.cell.root ≡ c.root) (drop (length leaves) new) → AreRefined case cells limit (i + 1) start new
  refined_step new long big room kept added numbered = record {
    room = room;
    found = leaves_more leaves new kept
        ∙ ap (λ (ss : List PlainLeaf). ss ++ added_leaves leaves new) are.found
        ∙ append_assoc (plain_leaves start) (leaves_of_cells case (take i cells)) (added_leaves leaves new)
        ∙ ap (λ (ss : List PlainLeaf). plain_leaves start ++ (leaves_of_cells case (take i cells) ++ ss)) added
        ∙ ap (λ (ss : List PlainLeaf). plain_leaves start ++ ss) (sym (root_more case i cells c lt is));
    kept = kept_twice start leaves new are.kept kept;
    judged = λ roots r trees all.
        subst (All (IsLeafOf case roots)) (sym (kept_whole leaves new kept))
        (All-append (IsLeafOf case roots) leaves (drop (length leaves) new) (are.judged roots r trees all)
        (added_in_tree case roots c (drop (length leaves) new) long big r (subst (InTree case roots) (sym is) (trees i c lt)) numbered added));
  }

  -- one cell more would be too many
  pub refined_many : limit < length leaves + length (leaves_of_root case (plain_cell c)) → limit < length start + length (leaves_of_cells case cells)
  refined_many many =
      let count = count_of (leaves_of_cells case (take i cells)) (leaves_of_root case (plain_cell c)) (leaves_of_cells case (drop (i + 1) cells))
      (leaves_of_cells case cells) (roots_apart case i cells c lt is) in
      let found = ap length are.found in
      omega (
        arith,
        many,
        count,
        found,
        length-map leaves plain_leaf,
        length-map start plain_leaf,
        length-append (plain_leaves start)
            (leaves_of_cells case (take i cells)),
      )

pub refined_all : (case : PlainProblem) (cells : List Cell) (limit i : ℕ) (start leaves : List Leaf) → AreRefined case cells limit i start leaves →
    length cells ≤ i → AreRefined case cells limit (length cells) start leaves
refined_all case cells limit i start leaves are le = record {
  room = are.room;
  found = are.found ∙ ap (λ (cs : List Cell). plain_leaves start ++ leaves_of_cells case cs)
      (take_all i cells le ∙ sym (take_all (length cells) cells (omega arith)));
  kept = are.kept;
  judged = are.judged;
}

-- why a cell was not refined, said of all
pub refused_as : (error : RefineError) (told : FinishError) (limit many : ℕ) → (error ≡ refine.Memory → told ≡ Memory) →
    (error ≡ refine.TooMany → told ≡ TooMany limit) → (error ≡ refine.TooMany → limit < many) → IsTooMany limit many told
refused_as refine.Memory told limit many memory too_many is = subst (IsTooMany limit many) (sym (memory refl)) tt
refused_as refine.TooMany told limit many memory too_many is = subst (IsTooMany limit many) (sym (too_many refl)) (refl, is refl)
