-- The cells of a certificate against roots, one after another.
use Rattle.std.specs.Prelude.{◌≡◌, ℕ, ◌+◌, ◌*◌, ◌<◌, ◌≤◌, length, take, get_or, IfErr, IfOk, Bool, if◌then◌else◌, List, ◌++◌, drop, map, Option, Some, None, Result, Ok, Err}
use Rattle.cj_hermite.specs.Interpolant.{IsOver}
use Rattle.cj_case.specs.PlainProblems.{PlainProblem, threshold_of}
use Rattle.cj_hermite.specs.ObjectsAtTicks.{curve_at}
use Rattle.cj_hermite.specs.Ready.{curve_ready}
use Rattle.cj_case.specs.Cells.{PlainCell}
use Rattle.cj_bezier.specs.Gaps.{gap_terms, hull_gap}
use Rattle.cj_case.specs.Leaves.{PlainLeaf}
use Rattle.cj_bezier.specs.Verdicts.{supported}
use Rattle.cj_cert.specs.declared.cert_lines.CellLine.{CellLine}
use Rattle.cj_cert.specs.Certificates.{plain_cell_line}
use Rattle.cj_formats.specs.declared.check_cause.CheckCause.{CheckCause}
use Rattle.cj_formats.specs.declared.check_cause.CheckCause.TheVariants.{Untiled, Stranger}
use Rattle.cj_checker.specs.declared.cell_fault.CellFault.{CellFault}
use Rattle.cj_checker.specs.declared.keys.Key.{Key}
use Rattle.cj_checker.specs.declared.root.Root.{Root}
use Rattle.cj_checker.specs.declared.tiled.Tiled.{Tiled}
use Rattle.cj_checker.specs.Keys.{plain_key, roots_of_keys}
use Rattle.cj_checker.specs.First.{failed, begins, comes_after, unsupported, cells_from, Failure}

-- what is wrong with a cell where it is to begin a root, by whether its kind is supported
abbrev pub cause_at : Bool → PlainCell → PlainLeaf → Option CheckCause
cause_at supported r s = if begins r s then (if supported then None else Some (unsupported s.kind)) else Some (if comes_after r s then Untiled else Stranger)

-- of the cells from a line on: the failure of those from a place on, against the roots that are left, or that of a fault
abbrev pub goes_on : PlainProblem → ℕ → List PlainCell → List PlainLeaf → Result ℕ CellFault → Option Failure
goes_on case line left cells (Ok next) = cells_from case (line + next) left (drop next cells)
goes_on case line left cells (Err fault) = failed (line + fault.at) fault.cause

-- cells from a place on against these roots and any others behind them: what is found is the place behind those that tile the roots, or
-- the first that does not
abbrev pub Tiles : PlainProblem → List PlainCell → List CellLine → ℕ → Result ℕ CellFault → Type 0
Tiles case roots cells at found =
    (line : ℕ) (left : List PlainCell) → cells_from case (line + at) (roots ++ left) (drop at (map plain_cell_line cells)) ≡ goes_on case line left (map plain_cell_line cells) found

-- what is found is that of these keys, and lies in the cells
pub record IsTiled (case : PlainProblem) (keys : List Key) (cells : List CellLine) (at : ℕ) (found : Result ℕ CellFault) : Type 0 where
  pub tiles : Tiles case (roots_of_keys case (map plain_key keys)) cells at found
  pub ok : IfOk found (λ next. next ≤ length cells)
  pub err : IfErr found (λ fault. fault.at ≤ length cells)

-- the keys of a turn: 4,096 of them, or those that are left
abbrev pub keys_at : ℕ → List Key → List Key
keys_at number keys = take 4_096 (drop (number * 4_096) keys)

-- what was tried is of the keys of each turn, and no keys are left behind the turns
pub record AreTried (case : PlainProblem) (keys : List Key) (cells : List CellLine) (tries : List Tiled) : Type 0 where
  pub inside : (number : ℕ) → number < length tries → number * 4_096 ≤ length keys
  pub all : length keys ≤ length tries * 4_096
  pub each : (number : ℕ) (d : Tiled) → number < length tries → IsTiled case (keys_at number keys) cells (get_or tries number d).from (get_or tries number d).found

-- a root from a tick on
abbrev pub root_from : Root → ℕ → PlainCell
root_from root from = record { a = root.pair.a; b = root.pair.b; first = from; last = root.ticks.last.micros }

-- both interpolants of a root are defined from one tick to another
pub record AreOver (root : Root) (first last : ℕ) : Type 0 where
  pub one : IsOver (curve_ready root.first) first last
  pub other : IsOver (curve_ready root.second) first last

-- whether the gap of a root's interpolants supports the kind of a cell
abbrev pub is_shown : Root → CellLine → Bool
is_shown root cell = supported (gap_terms (hull_gap (curve_ready root.first) (curve_ready root.second) cell.first.micros cell.last.micros)) root.thr cell.kind

-- at each of its ticks the objects of a root have its interpolants, and its threshold is theirs
pub record IsOf (case : PlainProblem) (root : Root) : Type 0 where
  pub one : (m : ℕ) → root.ticks.first.micros ≤ m → m ≤ root.ticks.last.micros → curve_at case root.pair.a m ≡ Some (curve_ready root.first)
  pub other : (m : ℕ) → root.ticks.first.micros ≤ m → m ≤ root.ticks.last.micros → curve_at case root.pair.b m ≡ Some (curve_ready root.second)
  pub threshold : root.thr ≡ threshold_of case root.pair.a root.pair.b
