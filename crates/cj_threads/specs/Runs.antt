-- Runs: lists that are merged; ranges: of each run a slice. Where their elements are, and what comes of ranges.
use Rattle.std.specs.Prelude.{List, flat_map, All}
use Rattle.std.specs.Borrow.{Bor}
use Rattle.std.specs.Global.{Vec}
use Rattle.std.specs.List.Sorted.{IsPermutation}
use Rattle.cj_base.specs.declared.tick.Tick.{Tick}
use Rattle.cj_case.specs.declared.pair.Pair.{Pair}
use Rattle.cj_case.specs.PairOrder.{AreInOrderBy}

-- the elements of runs, one run behind another
abbrev pub elements_of : {X : Type 0} → List (Bor (List X)) → List X
elements_of runs = flat_map (λ run. run.now) runs

-- the elements of ranges, one range behind another
abbrev pub elements_in : {X : Type 0} → List (Vec (Bor (List X))) → List X
elements_in ranges = flat_map (λ range. elements_of range.items) ranges

-- the list has the elements of the range, each as often, and is in order
pub record IsMerged {X : Type 0} (place : X → Pair × Tick) (range : Vec (Bor (List X))) (list : Vec X) : Type 0 where
  pub elements : IsPermutation (elements_of range.items) list.items
  pub ordered : AreInOrderBy place list.items

-- the lists together have the elements of the ranges, each as often, and each list is in order
pub record AreMerged {X : Type 0} (place : X → Pair × Tick) (ranges : List (Vec (Bor (List X)))) (lists : List (Vec X)) : Type 0 where
  pub elements : IsPermutation (elements_in ranges) (flat_map (λ list. list.items) lists)
  pub ordered : All (λ list. AreInOrderBy place list.items) lists
