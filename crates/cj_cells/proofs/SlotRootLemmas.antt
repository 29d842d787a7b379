-- The cells of a slot's roots, and prefixes of lists that are put together.
use Rattle.std.proofs.Common.{◌≡◌, ℕ, ◌+◌, ◌<◌, ◌≤◌, List, ◌++◌, map, length, get_or, take, drop, refl, sym, ap, subst, ◌∙◌, arith, append_assoc, length-append}
use Rattle.std.specs.Prelude.{All}
use Rattle.std.proofs.lemmas.List.{take-append-drop, take_at}
use Rattle.cj_track.specs.declared.track.Track.{Track}
use Rattle.cj_case.specs.declared.pair.Pair.{Pair}
use Rattle.cj_case.specs.PlainProblems.{PlainProblem}
use Rattle.cj_case.specs.Pairs.{objects_of}
use Rattle.cj_case.specs.Cells.{PlainCell}
use Rattle.cj_hermite.specs.Roots.{KeepPieces}
use Rattle.cj_hermite.proofs.SlotRootLemmas.{roots_of_pairs, Keeps, each_keeps}
use Rattle.cj_case.specs.declared.cell.Cell.{Cell}
use Rattle.cj_case.specs.Cells.{plain_cell, plain_cells}
use Rattle.cj_cells.specs.Cells.{added_roots}
use Rattle.cj_cells.proofs.WalkLemmas.{added_twice}
use Rattle.cj_interval.proofs.ListLemmas.{Each, Each-take, All-from_each, each_from_map}

-- ---- a prefix of what comes next is a prefix of all

pub prefix_of : {X : Type 0} (done part here rest all : List X) → all ≡ done ++ (here ++ rest) → part ≡ take (length part) here → done ++ part ≡ take (length (done ++ part)) all
prefix_of done part here rest all whole is =
    let whole_here : here ≡ part ++ drop (length part) here = sym (take-append-drop (length part) here) ∙ ap (λ xs. xs ++ drop (length part) here) (sym is) in
    let whole_all : all ≡ (done ++ part) ++ (drop (length part) here ++ rest) =
    whole ∙ ap (λ xs. done ++ (xs ++ rest)) whole_here ∙ ap (λ xs. done ++ xs) (append_assoc part (drop (length part) here) rest) ∙ sym (append_assoc done part (drop (length part) here ++ rest)) in
    sym (ap (take (length (done ++ part))) whole_all ∙ take_at (done ++ part) (drop (length part) here ++ rest) (length (done ++ part)) refl)

-- the same of cells that were added in two steps
pub prefix_added : (old mid new : List Cell) (done here rest all : List PlainCell) → take (length old) mid ≡ old → take (length mid) new ≡ mid → added_roots old mid ≡ done →
    added_roots mid new ≡ take (length (added_roots mid new)) here → all ≡ done ++ (here ++ rest) → added_roots old new ≡ take (length (added_roots old new)) all
prefix_added old mid new done here rest all kept kept' is part whole =
    let added : added_roots old new ≡ done ++ added_roots mid new = added_twice old mid new kept kept' ∙ ap (λ (rs : List PlainCell). rs ++ added_roots mid new) is in
    added ∙ prefix_of done (added_roots mid new) here rest all whole part ∙ ap (λ (rs : List PlainCell). take (length rs) all) (sym added)

pub count_of : {X : Type 0} (done here rest all : List X) → all ≡ done ++ (here ++ rest) → length done + length here ≤ length all
count_of done here rest all whole = let sum = ap length whole in omega (arith, sum, length-append done (here ++ rest), length-append here rest)

-- ---- the cells that are appended

pub cells_keep : (case : PlainProblem) (slot k : ℕ) (pairs : List Pair) (cells : List Cell) → plain_cells cells ≡ take k (roots_of_pairs case slot pairs) →
    All (λ cell. KeepPieces case cell.pair.a cell.pair.b cell.first.micros cell.last.micros) cells
cells_keep case slot k pairs cells same =
    All-from_each (λ cell. KeepPieces case cell.pair.a cell.pair.b cell.first.micros cell.last.micros) cells
    (each_from_map (Keeps case) plain_cell cells
    (subst (Each (Keeps case)) (sym same) (Each-take (Keeps case) k (roots_of_pairs case slot pairs) (each_keeps case slot (map objects_of pairs)))))

-- ---- the objects of a pair

-- both objects of a pair of a list are there where the second is
pub both_exist : (pairs : List Pair) (tracks slice : List Track) (k : ℕ) (pair : Pair) → All (λ q. q.b < length tracks) pairs → k < length pairs
    → pair ≡ get_or pairs k pair → slice ≡ tracks → (pair.a < length slice) × (pair.b < length slice)
both_exist pairs tracks slice k pair exist lt is same =
    let second : pair.b < length tracks = subst (λ (q : Pair). q.b < length tracks) (sym is) (exist k pair lt) in
    let sized : length slice ≡ length tracks = ap length same in
    (omega (arith, pair.ordered), omega arith)
