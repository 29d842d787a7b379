-- Roots that cells tile, cell by cell, run by run and key by key.
use Rattle.std.proofs.Common.{◌≡◌, ℕ, zero, suc, ◌+◌, ◌<◌, ◌≤◌, true, List, [], ◌∷◌, map, drop, length, get_or, Option, Some, None, refl, sym, ap, ◌∙◌, subst, arith}
use Rattle.std.specs.Prelude.{option_map}
use Rattle.cj_base.specs.declared.tick.Window.{Window}
use Rattle.cj_track.specs.declared.track.Track.{Track}
use Rattle.cj_track.specs.Tracks.{plain_track}
use Rattle.cj_case.specs.declared.pair.Pair.{Pair}
use Rattle.cj_case.specs.declared.problem.Problem.{Problem}
use Rattle.cj_hermite.specs.declared.common_run.CommonRun.{CommonRun}
use Rattle.cj_hermite.specs.CommonRuns.{both, both_numbers, runs_between, run_of, IsNextCommon}
use Rattle.cj_hermite.specs.Interpolant.{Curve, curve_of, IsOver}
use Rattle.cj_hermite.specs.Pieces.{piece_holding, curve_of_piece}
use Rattle.cj_case.specs.PlainProblems.{PlainProblem, threshold_of}
use Rattle.cj_hermite.specs.ObjectsAtTicks.{curve_at}
use Rattle.cj_case.specs.Problems.{plain_problem}
use Rattle.cj_hermite.specs.Ready.{curve_ready}
use Rattle.cj_case.specs.Cells.{PlainCell}
use Rattle.cj_hermite.specs.Roots.{KeepPieces, numbers_at, root_of_run, roots_between}
use Rattle.cj_hermite.proofs.CurveLemmas.{have_curves}
use Rattle.cj_hermite.proofs.RootLemmas.{IsRoot, Each-between}
use Rattle.cj_hermite.proofs.TrackLemmas.{number_of_track, curve_of_track, first_is_over, second_is_over}
use Rattle.cj_interval.proofs.ListLemmas.{Each}
use Rattle.cj_bezier.specs.Gaps.{gap_terms, hull_gap}
use Rattle.cj_case.specs.Leaves.{PlainLeaf}
use Rattle.cj_bezier.specs.Verdicts.{supported}
use Rattle.cj_cert.specs.declared.cert_lines.CellLine.{CellLine}
use Rattle.cj_cert.specs.Certificates.{plain_cell_line}
use Rattle.cj_formats.specs.declared.check_cause.CheckCause.{CheckCause}
use Rattle.cj_checker.specs.declared.root.Root.{Root}
use Rattle.cj_checker.specs.Tests.{is_supported}
use Rattle.cj_checker.specs.First.{failed, cells_from, begins, behind}
use Rattle.cj_checker.specs.Tiling.{cause_at, is_shown, root_from, AreOver, IsOf}
use Rattle.cj_checker.proofs.CauseLemmas.{supported_by, begun, same_cause, after_cause, cells_step, no_cause, behind_last, behind_within}

-- ---- lists from a place on

pub drop_mapped : {X Y : Type 0} (f : X → Y) (xs : List X) (k : ℕ) (x : X) → k < length xs → x ≡ get_or xs k x → drop k (map f xs) ≡ f x ∷ drop (k + 1) (map f xs)
drop_mapped f [] k x lt is = absurd (omega arith)
drop_mapped f (y ∷ ys) zero x lt is = λ j. f (sym is j) ∷ map f ys
drop_mapped f (y ∷ ys) (suc k) x lt is =
    let next : suc (k + 1) ≡ suc k + 1 = omega arith in
    drop_mapped f ys k x (omega arith) is ∙ ap (λ (n : ℕ). f x ∷ drop n (map f (y ∷ ys))) next

pub drop_past : {X Y : Type 0} (f : X → Y) (xs : List X) (k : ℕ) → length xs ≤ k → drop k (map f xs) ≡ []
drop_past f [] zero le = refl
drop_past f [] (suc k) le = refl
drop_past f (y ∷ ys) zero le = absurd (omega arith)
drop_past f (y ∷ ys) (suc k) le = drop_past f ys k (omega arith)

-- ---- a cell of a root

-- what is wrong with a cell where a root is left from a tick on
abbrev pub cause_in : Root → ℕ → CellLine → Option CheckCause
cause_in root from cell = cause_at (is_shown root cell) (root_from root from) (plain_cell_line cell)

pub shown : (case : PlainProblem) (root : Root) (from : ℕ) (cell : CellLine) → IsOf case root → root.ticks.first.micros ≤ from → from ≤ root.ticks.last.micros
    → begins (root_from root from) (plain_cell_line cell) ≡ true → is_supported case (plain_cell_line cell) ≡ is_shown root cell
shown case root from cell of low high is =
    let s = plain_cell_line cell in
    let b = begun (root_from root from) s is in
    let a_is : s.a ≡ root.pair.a = b.one in
    let b_is : s.b ≡ root.pair.b = b.other in
    let at : s.first ≡ from = b.from in
    let one : curve_at case s.a s.first ≡ Some (curve_ready root.first) = (λ i. curve_at case (a_is i) (at i)) ∙ of.one from low high in
    let other : curve_at case s.b s.first ≡ Some (curve_ready root.second) = (λ i. curve_at case (b_is i) (at i)) ∙ of.other from low high in
    let thr : threshold_of case s.a s.b ≡ root.thr = (λ i. threshold_of case (a_is i) (b_is i)) ∙ sym of.threshold in
    supported_by case s (curve_ready root.first) (curve_ready root.second) one other
    ∙ ap (λ (t : ℕ). supported (gap_terms (hull_gap (curve_ready root.first) (curve_ready root.second) cell.first.micros cell.last.micros)) t cell.kind) thr

module _ (case : PlainProblem) (root : Root) (cells : List CellLine) (line at from : ℕ) (left : List PlainCell) (cell : CellLine)
    (of : IsOf case root) (low : root.ticks.first.micros ≤ from) (high : from ≤ root.ticks.last.micros) (lt : at < length cells) (is : cell ≡ get_or cells at cell) where
  root_step : cells_from case (line + at) (root_from root from ∷ left) (drop at (map plain_cell_line cells))
      ≡ after_cause case (line + at) (root_from root from) left (plain_cell_line cell) (drop (at + 1) (map plain_cell_line cells)) (cause_in root from cell)
  root_step =
      ap (λ (ss : List PlainLeaf). cells_from case (line + at) (root_from root from ∷ left) ss) (drop_mapped plain_cell_line cells at cell lt is)
      ∙ cells_step case (line + at) (root_from root from) left (plain_cell_line cell) (drop (at + 1) (map plain_cell_line cells))
      ∙ ap (λ (o : Option CheckCause). after_cause case (line + at) (root_from root from) left (plain_cell_line cell) (drop (at + 1) (map plain_cell_line cells)) o)
      (same_cause (is_supported case (plain_cell_line cell)) (is_shown root cell) (root_from root from) (plain_cell_line cell) (shown case root from cell of low high))

  pub root_fails : (cause : CheckCause) → cause_in root from cell ≡ Some cause → cells_from case (line + at) (root_from root from ∷ left) (drop at (map plain_cell_line cells)) ≡ failed (line + at) cause
  root_fails cause found = root_step ∙ ap (λ (o : Option CheckCause). after_cause case (line + at) (root_from root from) left (plain_cell_line cell) (drop (at + 1) (map plain_cell_line cells)) o) found

  goes : cause_in root from cell ≡ None
      → cells_from case (line + at) (root_from root from ∷ left) (drop at (map plain_cell_line cells)) ≡ cells_from case (line + at + 1) (behind (plain_cell_line cell) (root_from root from) left) (drop (at + 1) (map plain_cell_line cells))
  goes none = root_step ∙ ap (λ (o : Option CheckCause). after_cause case (line + at) (root_from root from) left (plain_cell_line cell) (drop (at + 1) (map plain_cell_line cells)) o) none

  pub root_ends : cause_in root from cell ≡ None → root.ticks.last.micros ≤ cell.last.micros
      → cells_from case (line + at) (root_from root from ∷ left) (drop at (map plain_cell_line cells)) ≡ cells_from case (line + (at + 1)) left (drop (at + 1) (map plain_cell_line cells))
  root_ends none ends =
      let b = no_cause (is_shown root cell) (root_from root from) (plain_cell_line cell) none in
      let to = b.to in
      let last : cell.last.micros ≡ root.ticks.last.micros = omega arith in
      let next : line + at + 1 ≡ line + (at + 1) = omega arith in
      goes none ∙ (λ i. cells_from case (next i) (behind_last (plain_cell_line cell) (root_from root from) left last i) (drop (at + 1) (map plain_cell_line cells)))

  pub root_goes_on : cause_in root from cell ≡ None → cell.last.micros < root.ticks.last.micros
      → cells_from case (line + at) (root_from root from ∷ left) (drop at (map plain_cell_line cells)) ≡ cells_from case (line + (at + 1)) (root_from root (cell.last.micros + 1) ∷ left) (drop (at + 1) (map plain_cell_line cells))
  root_goes_on none within =
      let next : line + at + 1 ≡ line + (at + 1) = omega arith in
      goes none ∙ (λ i. cells_from case (next i) (behind_within (plain_cell_line cell) (root_from root from) left within i) (drop (at + 1) (map plain_cell_line cells)))

-- what a cell without a cause says of its first tick
pub begins_there : (root : Root) (from : ℕ) (cell : CellLine) → cause_in root from cell ≡ None → cell.first.micros ≡ from
begins_there root from cell none = (no_cause (is_shown root cell) (root_from root from) (plain_cell_line cell) none).from

-- ---- the runs of two tracks

-- the pieces of objects are labelled as those of their tracks
labels_are : (p : Problem) (a b : ℕ) (x y : Track) → x ≡ get_or p.tracks a x → y ≡ get_or p.tracks b y → a < length p.tracks → b < length p.tracks
    → both_numbers (plain_track x) (plain_track y) ≡ numbers_at (plain_problem p) a b
labels_are p a b x y is_x is_y in_a in_b =
    (λ i. both_numbers (plain_track (is_x i)) (plain_track (is_y i)))
    ∙ sym (λ i m. both (number_of_track p a m x in_a i) (number_of_track p b m y in_b i))

pub roots_next : (p : Problem) (a b from last : ℕ) (x y : Track) (ticks : Window) → x ≡ get_or p.tracks a x → y ≡ get_or p.tracks b y → a < length p.tracks → b < length p.tracks
    → IsNextCommon (plain_track x) (plain_track y) from last ticks
    → roots_between (plain_problem p) a b from last ≡ root_of_run a b (run_of ticks) ∷ roots_between (plain_problem p) a b (ticks.last.micros + 1) last
unfolding roots_between
roots_next p a b from last x y ticks is_x is_y in_a in_b next =
    let labels = labels_are p a b x y is_x is_y in_a in_b in
    ap (map (root_of_run a b)) (subst (λ (label : ℕ → Option (ℕ × ℕ)). runs_between label from last ≡ run_of ticks ∷ runs_between label (ticks.last.micros + 1) last) labels next)

pub roots_none : (p : Problem) (a b from last : ℕ) (x y : Track) → x ≡ get_or p.tracks a x → y ≡ get_or p.tracks b y → a < length p.tracks → b < length p.tracks
    → runs_between (both_numbers (plain_track x) (plain_track y)) from last ≡ [] → roots_between (plain_problem p) a b from last ≡ []
unfolding roots_between
roots_none p a b from last x y is_x is_y in_a in_b none =
    let labels = labels_are p a b x y is_x is_y in_a in_b in
    ap (map (root_of_run a b)) (subst (λ (label : ℕ → Option (ℕ × ℕ)). runs_between label from last ≡ []) labels none)

keeps : (case : PlainProblem) (a b from last : ℕ) (ticks : Window) (rest : List PlainCell) → roots_between case a b from last ≡ root_of_run a b (run_of ticks) ∷ rest
    → KeepPieces case a b ticks.first.micros ticks.last.micros
keeps case a b from last ticks rest are =
    let each : Each (IsRoot case a b from last) (root_of_run a b (run_of ticks) ∷ rest) = subst (Each (IsRoot case a b from last)) are (Each-between case a b from last) in
    let is = each.0 in
    record { same = is.same; nodes = is.labelled }

-- the root of a run, made ready
module _ (p : Problem) (pair : Pair) (from last : ℕ) (x y : Track) (run : CommonRun) (root : Root) (rest : List PlainCell)
    (is_x : x ≡ get_or p.tracks pair.a x) (is_y : y ≡ get_or p.tracks pair.b y) (exists : pair.b < length p.tracks)
    (are : roots_between (plain_problem p) pair.a pair.b from last ≡ root_of_run pair.a pair.b (run_of run.ticks) ∷ rest) (some : run.ticks.first.micros ≤ run.ticks.last.micros)
    (one : option_map curve_of_piece (piece_holding (plain_track x) run.ticks.first.micros) ≡ Some (curve_of run.first))
    (other : option_map curve_of_piece (piece_holding (plain_track y) run.ticks.first.micros) ≡ Some (curve_of run.second))
    (own : root.pair ≡ pair) (ticks : root.ticks ≡ run.ticks) (first : curve_ready root.first ≡ curve_of run.first) (second : curve_ready root.second ≡ curve_of run.second) where
  ordered : pair.a < pair.b
  ordered = pair.ordered

  keep : KeepPieces (plain_problem p) pair.a pair.b run.ticks.first.micros run.ticks.last.micros
  keep = keeps (plain_problem p) pair.a pair.b from last run.ticks rest are

  first_curve : curve_at (plain_problem p) pair.a run.ticks.first.micros ≡ Some (curve_of run.first)
  first_curve = curve_of_track p pair.a run.ticks.first.micros x (let lt = ordered in omega arith) ∙ ap (λ (t : Track). option_map curve_of_piece (piece_holding (plain_track t) run.ticks.first.micros)) (sym is_x) ∙ one

  second_curve : curve_at (plain_problem p) pair.b run.ticks.first.micros ≡ Some (curve_of run.second)
  second_curve = curve_of_track p pair.b run.ticks.first.micros y exists ∙ ap (λ (t : Track). option_map curve_of_piece (piece_holding (plain_track t) run.ticks.first.micros)) (sym is_y) ∙ other

  pub ready_over : AreOver root root.ticks.first.micros root.ticks.last.micros
  ready_over =
      let a = first_is_over (plain_problem p) pair.a pair.b run.ticks.first.micros run.ticks.last.micros run.first some keep first_curve in
      let b = second_is_over (plain_problem p) pair.a pair.b run.ticks.first.micros run.ticks.last.micros run.second some keep second_curve in
      record {
        one = subst (λ (w : Window). IsOver (curve_ready root.first) w.first.micros w.last.micros) (sym ticks) (subst (λ (c : Curve). IsOver c run.ticks.first.micros run.ticks.last.micros) (sym first) a);
        other = subst (λ (w : Window). IsOver (curve_ready root.second) w.first.micros w.last.micros) (sym ticks) (subst (λ (c : Curve). IsOver c run.ticks.first.micros run.ticks.last.micros) (sym second) b);
      }

  pub ready_of : root.thr ≡ threshold_of (plain_problem p) pair.a pair.b → IsOf (plain_problem p) root
  ready_of thr =
      let have = have_curves (plain_problem p) pair.a pair.b run.ticks.first.micros run.ticks.last.micros (curve_of run.first) (curve_of run.second) some keep first_curve second_curve in
      let from_is : run.ticks.first.micros ≡ root.ticks.first.micros = ap (λ (w : Window). w.first.micros) (sym ticks) in
      let to_is : run.ticks.last.micros ≡ root.ticks.last.micros = ap (λ (w : Window). w.last.micros) (sym ticks) in
      record {
        one = λ m low high. ap (λ (q : Pair). curve_at (plain_problem p) q.a m) own ∙ have.first_curve m (omega arith) (omega arith) ∙ ap (λ (c : Curve). Some c) (sym first);
        other = λ m low high. ap (λ (q : Pair). curve_at (plain_problem p) q.b m) own ∙ have.second_curve m (omega arith) (omega arith) ∙ ap (λ (c : Curve). Some c) (sym second);
        threshold = thr ∙ ap (λ (q : Pair). threshold_of (plain_problem p) q.a q.b) (sym own);
      }

  pub ready_is : root_of_run pair.a pair.b (run_of run.ticks) ≡ root_from root root.ticks.first.micros
  ready_is = λ i. record { a = (sym own i).a; b = (sym own i).b; first = (sym ticks i).first.micros; last = (sym ticks i).last.micros }
