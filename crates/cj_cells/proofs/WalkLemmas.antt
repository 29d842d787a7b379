-- The roots of two tracks, from one common run to the next.
use Rattle.std.proofs.Common.{◌≡◌, ℕ, ◌+◌, ◌-◌, ◌≤◌, Result, Ok, Err, List, [], ◌∷◌, ◌++◌, map, length, take, drop, refl, sym, ap, ◌∙◌, arith, append_assoc, append-nil, length-append, length-take, length-drop}
use Rattle.std.specs.Prelude.{All}
use Rattle.std.specs.List.{range_with_len}
use Rattle.std.proofs.lemmas.List.{take-append-drop, drop-append-le, drop_all, take-append-le, take_at, map-append, length-map}
use Rattle.std.proofs.lemmas.List.Elements.{All-append, All-same}
use Rattle.cj_base.specs.declared.tick.Window.{Window}
use Rattle.cj_track.specs.PlainTracks.{PlainTrack}
use Rattle.cj_hermite.specs.CommonRuns.{runs_over, runs_between, both_numbers, run_of, IsNextCommon}
use Rattle.cj_case.specs.Cells.{PlainCell}
use Rattle.cj_hermite.specs.Roots.{root_of_run}
use Rattle.cj_case.specs.declared.cell.Cell.{Cell}
use Rattle.cj_case.specs.Cells.{plain_cell, plain_cells}
use Rattle.cj_cells.specs.Cells.{added_roots}
use Rattle.cj_cells.specs.declared.refine_error.RefineError.{RefineError}
use Rattle.cj_cells.specs.declared.refine_error.RefineError.TheVariants.{Memory, TooMany}

-- what is done is a prefix of all
pub prefix_done : {X : Type 0} (done left all : List X) → done ++ left ≡ all → done ≡ take (length done) all
prefix_done done left all whole = sym (take_at done left (length done) refl) ∙ ap (take (length done)) whole

-- ---- what a refusal says

pub no_refusal : {T : Type 0} (x : T) (e : RefineError) → Ok x ≡ Err e → ⊥
no_refusal x e is = cc

pub not_too_many : {T : Type 0} (r : Result T RefineError) (e : RefineError) → r ≡ Err e → e ≡ Memory → r ≡ Err TooMany → ⊥
not_too_many r e is memory many = cc

-- ---- lists of cells that were added to

pub kept_length : (old new : List Cell) → take (length old) new ≡ old → length old ≤ length new
kept_length old new kept = let same : length (take (length old) new) ≡ length old = ap length kept in omega (arith, length-take (length old) new)

pub kept_twice : (old mid new : List Cell) → take (length old) mid ≡ old → take (length mid) new ≡ mid → take (length old) new ≡ old
kept_twice old mid new first second =
    let le = kept_length old mid first in
    let whole : new ≡ mid ++ drop (length mid) new = sym (take-append-drop (length mid) new) ∙ ap (λ (xs : List Cell). xs ++ drop (length mid) new) second in
    ap (take (length old)) whole ∙ take-append-le (length old) mid (drop (length mid) new) le ∙ first

drop_twice : (old mid new : List Cell) → take (length old) mid ≡ old → take (length mid) new ≡ mid → drop (length old) new ≡ drop (length old) mid ++ drop (length mid) new
drop_twice old mid new first second =
    let le = kept_length old mid first in
    let whole : new ≡ mid ++ drop (length mid) new = sym (take-append-drop (length mid) new) ∙ ap (λ (xs : List Cell). xs ++ drop (length mid) new) second in
    ap (drop (length old)) whole ∙ drop-append-le (length old) mid (drop (length mid) new) le

pub added_twice : (old mid new : List Cell) → take (length old) mid ≡ old → take (length mid) new ≡ mid → added_roots old new ≡ added_roots old mid ++ added_roots mid new
added_twice old mid new first second = ap plain_cells (drop_twice old mid new first second) ∙ map-append plain_cell (drop (length old) mid) (drop (length mid) new)

pub root_twice : (old mid new : List Cell) → take (length old) mid ≡ old → take (length mid) new ≡ mid → All (λ cell. cell.root ≡ 0) (drop (length old) mid) → All (λ cell. cell.root ≡ 0) (drop (length mid) new) →
    All (λ cell. cell.root ≡ 0) (drop (length old) new)
root_twice old mid new first second some more =
    All-same (λ cell. cell.root ≡ 0) (drop (length old) new) (drop (length old) mid ++ drop (length mid) new) (drop_twice old mid new first second)
    (All-append (λ cell. cell.root ≡ 0) (drop (length old) mid) (drop (length mid) new) some more)

pub added_count : (old new : List Cell) → take (length old) new ≡ old → length old + length (added_roots old new) ≡ length new
added_count old new kept =
    let le = kept_length old new kept in
    omega (arith, length-map (drop (length old) new) plain_cell, length-drop (length old) new)

pub added_nothing : (old new : List Cell) → new ≡ old → added_roots old new ≡ []
added_nothing old new same = ap (λ (xs : List Cell). plain_cells (drop (length old) xs)) same ∙ ap plain_cells (drop_all (length old) old (omega arith))

-- ---- the roots of a walk

-- the roots from `from` on
abbrev pub roots_left : ℕ → ℕ → PlainTrack → PlainTrack → ℕ → ℕ → List PlainCell
roots_left a b e f from last = map (root_of_run a b) (runs_between (both_numbers e f) from last)

-- behind the last tick there are none
pub walk_done : (a b : ℕ) (e f : PlainTrack) (end last : ℕ) (done all : List PlainCell) → end ≡ last → done ++ roots_left a b e f (end + 1) last ≡ all → done ≡ all
unfolding runs_between
walk_done a b e f end last done all is whole =
    let n : last + 1 - (end + 1) ≡ 0 = omega arith in
    let none : roots_left a b e f (end + 1) last ≡ [] = ap (λ (k : ℕ). map (root_of_run a b) (runs_over (both_numbers e f) (range_with_len (end + 1) k))) n in
    sym (append-nil done) ∙ ap (λ rs. done ++ rs) (sym none) ∙ whole

pub no_more : (a b : ℕ) (e f : PlainTrack) (from last : ℕ) (done all : List PlainCell) → runs_between (both_numbers e f) from last ≡ [] → done ++ roots_left a b e f from last ≡ all → done ≡ all
no_more a b e f from last done all none whole = sym (append-nil done) ∙ ap (λ runs. done ++ map (root_of_run a b) runs) (sym none) ∙ whole

module _ (a b : ℕ) (e f : PlainTrack) (from last : ℕ) (ticks : Window) (next : IsNextCommon e f from last ticks) where
  roots_step : roots_left a b e f from last ≡ root_of_run a b (run_of ticks) ∷ roots_left a b e f (ticks.last.micros + 1) last
  roots_step = ap (map (root_of_run a b)) next

  -- the next root is appended
  pub whole_step : (old mid new : List Cell) (all : List PlainCell) → take (length old) mid ≡ old → take (length mid) new ≡ mid → added_roots mid new ≡ root_of_run a b (run_of ticks) ∷ [] →
      added_roots old mid ++ roots_left a b e f from last ≡ all → added_roots old new ++ roots_left a b e f (ticks.last.micros + 1) last ≡ all
  whole_step old mid new all kept kept' here whole =
      ap (λ rs. rs ++ roots_left a b e f (ticks.last.micros + 1) last) (added_twice old mid new kept kept' ∙ ap (λ rs. added_roots old mid ++ rs) here)
      ∙ append_assoc (added_roots old mid) (root_of_run a b (run_of ticks) ∷ []) (roots_left a b e f (ticks.last.micros + 1) last)
      ∙ ap (λ rs. added_roots old mid ++ rs) (sym roots_step)
      ∙ whole

  pub count_step : (done all : List PlainCell) → done ++ roots_left a b e f from last ≡ all → length done + 1 ≤ length all
  count_step done all whole =
      let step = ap length roots_step in
      let sum = ap length whole in
      omega (arith, step, sum, length-append done (roots_left a b e f from last))
