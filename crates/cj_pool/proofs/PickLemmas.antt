-- Where the cell of a turn comes from.
use Rattle.std.proofs.Common.{◌≡◌, ◌⊎◌, ℕ, ◌+◌, ◌-◌, List, [], ◌∷◌, ◌++◌, length, take, min, ap, ◌∙◌, ⊎_elim, arith, length-append}
use Rattle.std.specs.Option.{option_to_list}
use Rattle.std.specs.Prelude.{Option, Some, None, MatchOption, IfSome, IfNone}
use Rattle.std.proofs.lemmas.List.{length-take, nil_from_length}
use Rattle.crossbeam_deque.specs.Handles.{worker_view, SameWorker}
use Rattle.crossbeam_deque.specs.declared.handles.Worker.{Worker}
use Rattle.cj_case.specs.PlainProblems.{PlainProblem}
use Rattle.cj_case.specs.declared.cell.Cell.{Cell}
use Rattle.cj_pool.specs.declared.account.Account.{Account}
use Rattle.cj_pool.specs.Narrow.{Narrow}
use Rattle.cj_pool.specs.Passes.{TookOne, IsSeated, around}
use Rattle.cj_pool.specs.RootLists.{AreRoots}
use Rattle.cj_pool.specs.Tree.{InTree}
use Rattle.cj_pool.specs.Turns.{CellCame, took}
use Rattle.cj_pool.proofs.PassLemmas.{took_below, took_above}
use Rattle.cj_pool.proofs.TreeLemmas.{tree_short}

-- a steal, among all that the hand has taken
pub found_around : (r : Option Cell) (below below' : List (List Cell)) (own own' : List Cell) (above above' : List (List Cell)) → own' ≡ own
    → MatchOption r ((below' ≡ below) × (above' ≡ above)) (λ c. (TookOne above above' c × (below' ≡ below)) ⊎ (TookOne below below' c × (above' ≡ above)))
    → MatchOption r (around below' own' above' ≡ around below own above) (TookOne (around below own above) (around below' own' above'))
found_around None below below' own own' above above' same m = λ i. around (m.0 i) (same i) (m.1 i)
found_around (Some c) below below' own own' above above' same m =
    ⊎_elim
    (λ (x : TookOne above above' c × (below' ≡ below)). rw (x.1, same) (took_above below own above above' c x.0))
    (λ (x : TookOne below below' c × (above' ≡ above)). rw (x.1, same) (took_below below below' own above c x.0))
    m

-- where nothing was kept, the cell was taken
pub found_came : (r : Option Cell) (kept kept' : List Cell) (old new : List (List Cell)) → kept ≡ [] → kept' ≡ kept → MatchOption r (new ≡ old) (TookOne old new)
    → MatchOption r ((new ≡ old) × (kept' ≡ kept) × (kept ≡ [])) (λ c. CellCame kept old new c kept')
found_came None kept kept' old new none same m = (m, same, none)
found_came (Some c) kept kept' old new none same m = took m.0 m.1 none (same ∙ none) m.2

-- and it is as short as a root
pub found_narrow : (r : Option Cell) (case : PlainProblem) (roots kept : List Cell) → kept ≡ [] → AreRoots case roots → IfSome r (InTree case roots) → IfSome r (λ c. Narrow 26 (kept ++ c ∷ []))
found_narrow None case roots kept none are tree = tt
found_narrow (Some c) case roots kept none are tree = rw none (tree_short case roots c are tree, tt)

-- what holds whatever comes
pub if_none : {X : Type 0} (r : Option X) (P : Type 0) → P → IfNone r P
if_none None P p = p
if_none (Some x) P p = tt

-- where a pop gives nothing, there was nothing
pub none_kept : (r : Option Cell) (kept kept' : List Cell) → r ≡ None → kept ≡ kept' ++ option_to_list r → kept' ≡ take (length kept - 1) kept → kept ≡ []
none_kept r kept kept' none items rest =
    let long : length kept ≡ length kept' + length (option_to_list r) = ap length items ∙ length-append kept' (option_to_list r) in
    let nothing : length (option_to_list r) ≡ 0 = ap (λ (o : Option Cell). length (option_to_list o)) none in
    let cut : length kept' ≡ min (length kept - 1) (length kept) = ap length rest ∙ length-take (length kept - 1) kept in
    nil_from_length kept (omega (arith, long, nothing, cut))

-- a worker that has as many parts as before is seated as before
pub still_seated : {T A P : Type 0} (n : ℕ) (old new : Worker T A Account P) → SameWorker old new → (worker_view new).parts ≡ (worker_view old).parts → (worker_view new).all ≡ (worker_view old).all → IsSeated n old → IsSeated n new
still_seated n old new same parts all seated = record {
  parts = parts ∙ seated.parts;
  all = all ∙ seated.all;
  flavor = same.1 ∙ seated.flavor;
}
