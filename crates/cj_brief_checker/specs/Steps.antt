-- The cells of a certificate in brief against roots, one after another.
use Rattle.std.specs.Prelude.{◌≡◌, ℕ, ◌+◌, false, Bool, if◌then◌else◌, List, ◌++◌, drop, map, Option, Result, Ok, Err}
use Rattle.cj_case.specs.PlainProblems.{PlainProblem}
use Rattle.cj_case.specs.Cells.{PlainCell}
use Rattle.cj_case.specs.Leaves.{PlainLeaf}
use Rattle.cj_cert.specs.declared.cert_lines.CellLine.{CellLine}
use Rattle.cj_cert.specs.Certificates.{plain_cell_line}
use Rattle.cj_formats.specs.declared.check_cause.CheckCause.TheVariants.{Untiled, Stranger}
use Rattle.cj_checker.specs.declared.cell_fault.CellFault.{CellFault}
use Rattle.cj_checker.specs.First.{failed, begins, unsupported, Failure}
use Rattle.cj_brief_checker.specs.declared.step.Step.{Step}
use Rattle.cj_brief_checker.specs.declared.step.Step.TheVariants as steps
use Rattle.cj_brief_checker.specs.First.{comes_later, told_from}

-- what a cell is for a root that is left, by whether its kind is supported
abbrev pub step_of : Bool → ℕ → PlainCell → PlainLeaf → Step
step_of supported first r s =
    if begins r s then (if supported then steps.Takes else steps.Fails (unsupported s.kind)) else (if comes_later first r s then steps.Leaves else steps.Fails Stranger)

-- what is found where a root is left without further cells, at the place of the next one
abbrev pub left_at : Bool → ℕ → Result ℕ CellFault
left_at wants at = if wants then Err (record { at = at; cause = Untiled }) else Ok at

-- of the cells from a line on: the failure of those from a place on, against the roots that are left, or that of a fault
abbrev pub told_behind : PlainProblem → ℕ → List PlainCell → List PlainLeaf → Result ℕ CellFault → Option Failure
told_behind case line left cells (Ok next) = told_from case (drop next cells) (line + next) false left
told_behind case line left cells (Err fault) = failed (line + fault.at) fault.cause

-- cells from a place on against these roots and any others behind them: what is found is the place behind those that are told of them,
-- or the first that fails
abbrev pub Tells : PlainProblem → List PlainCell → List CellLine → ℕ → Result ℕ CellFault → Type 0
Tells case roots cells at found =
    (line : ℕ) (left : List PlainCell)
    → told_from case (drop at (map plain_cell_line cells)) (line + at) false (roots ++ left) ≡ told_behind case line left (map plain_cell_line cells) found
