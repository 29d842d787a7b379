use Rattle.std.proofs.Common.{◌≡◌, ◌∙◌, ℕ, List, ◌++◌, All, vec_len, take, drop, sym, ap, subst}
use Rattle.std.proofs.lemmas.List.{take-append-drop}
use Rattle.std.proofs.lemmas.List.Elements.{All-nil, All-append}
use Rattle.cj_case.specs.Problems.{plain_problem}
use Rattle.cj_case.specs.declared.cell.Cell.{Cell}
use Rattle.cj_hermite.specs.Roots.{KeepPieces}
use Rattle.cj_halving_tests.proofs.leaves.all_leaves.Goals as goal

-- what holds of the old ones and of those behind them holds of all
with_more : (P : Cell → Type 0) (n : ℕ) (old new : List Cell) → All P old → take n new ≡ old → All P (drop n new) → All P new
with_more P n old new before kept more =
    subst (All P) (ap (λ (xs : List Cell). xs ++ drop n new) (sym kept) ∙ take-append-drop n new)
    (All-append P old (drop n new) before more)

pub refine_all-requires : goal.refine_all-requires
refine_all-requires c =
    let P : Cell → Type 0 = λ cell. KeepPieces (plain_problem c.args.problem.now) cell.pair.a cell.pair.b cell.first.micros cell.last.micros in
    let none = c.new-roots.result.items in
    let one = c.roots_of_slot.new.roots.items in
    let both = c.roots_of_slot-2.new.roots.items in
    let empty : All P none = subst (All P) (sym c.new-roots.ensures.items) (All-nil P) in
    let first : All P one = with_more P (vec_len c.new-roots.result) none one empty c.roots_of_slot.ensures.kept c.roots_of_slot.ensures.pieces in
    let second : All P both = with_more P (vec_len c.roots_of_slot.new.roots) one both first c.roots_of_slot-2.ensures.kept c.roots_of_slot-2.ensures.pieces in
    subst (All P) (sym c.deref.ensures.value) second
