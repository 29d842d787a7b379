-- The first failure of a certificate in brief: the line at which it is not accepted for a problem, and why.
use Rattle.std.specs.Prelude.{ℕ, ◌+◌, ◌==◌, Bool, false, ◌&&◌, ◌||◌, not, nat_le, nat_lt, if◌then◌else◌, List, [], ◌∷◌, length, Option, None, Result, Ok, Err}
use Rattle.std.specs.Option.{option_or}
use Rattle.cj_case.specs.PlainProblems.{PlainProblem}
use Rattle.cj_case.specs.Primaries.{named}
use Rattle.cj_case.specs.Cells.{PlainCell}
use Rattle.cj_case.specs.Leaves.{PlainLeaf}
use Rattle.cj_case.specs.Slots.{slot_of}
use Rattle.cj_formats.specs.declared.cert_version.CertVersion.TheVariants.{Two}
use Rattle.cj_formats.specs.declared.check_cause.CheckCause.{CheckCause}
use Rattle.cj_formats.specs.declared.check_cause.CheckCause.TheVariants.{PrimaryOf, Untiled, Stranger}
use Rattle.cj_hermite.specs.Roots.{roots_by_slot}
use Rattle.cj_bezier.specs.RootLeaves.{is_far_throughout}
use Rattle.cj_cert.specs.Certificates.{PlainCertificate}
use Rattle.cj_checker.specs.First.{Failure, failed, first_line, first_unfit, begins, comes_after, behind, unsupported, header_failure, shells_from, size_failure}
use Rattle.cj_checker.specs.Tests.{is_supported}
use Rattle.cj_brief.specs.Accepted.{is_candidate_in_brief}
use Rattle.cj_brief.specs.Certificates.{PlainBrief}

-- ---- cells

-- seen from a window that begins at first, the cell begins in a later slot than the root, or in the same one behind its first tick, in
-- order of pair and tick
abbrev pub comes_later : ℕ → PlainCell → PlainLeaf → Bool
comes_later first r s = nat_le first s.first && (nat_lt (slot_of first r.first) (slot_of first s.first) || ((slot_of first r.first == slot_of first s.first) && comes_after r s))

-- the root that is left may not go without cells: its first ticks have some, or it is not far throughout
abbrev pub wants_cells : PlainProblem → Bool → PlainCell → Bool
wants_cells case begun r = begun || not (is_far_throughout case r)

-- the roots that are left behind a cell, and whether the first ticks of the first of them have cells
pub record Left : Type 0 where
  pub roots : List PlainCell
  pub begun : Bool

-- What is left of the roots behind a cell, or what is wrong with it. The first of the roots is cut to its ticks that are left. Those that
-- are left out before the cell are far throughout.
unfoldable pub left_behind : PlainProblem → Bool → List PlainCell → PlainLeaf → Result Left CheckCause
left_behind case begun [] s = Err Stranger
left_behind case begun (r ∷ roots) s =
    if begins r s then (if is_supported case s then Ok (record { roots = behind s r roots; begun = not (s.last == r.last) }) else Err (unsupported s.kind))
    else (if comes_later case.first r s then (if wants_cells case begun r then Err Untiled else left_behind case false roots s) else Err Stranger)

-- at the end: a root that wants cells is left
unfoldable pub left_out : PlainProblem → ℕ → Bool → List PlainCell → Option Failure
left_out case line begun [] = None
left_out case line begun (r ∷ roots) = if wants_cells case begun r then failed line Untiled else left_out case line false roots

-- the first failure of the cells from a line on, given what is left behind the first of them
abbrev pub goes_on : (ℕ → Bool → List PlainCell → Option Failure) → ℕ → Result Left CheckCause → Option Failure
goes_on next line (Ok left) = next (line + 1) left.begun left.roots
goes_on next line (Err cause) = failed line cause

unfoldable pub told_from : PlainProblem → List PlainLeaf → ℕ → Bool → List PlainCell → Option Failure
told_from case [] line begun roots = left_out case line begun roots
told_from case (s ∷ cells) line begun roots = goes_on (told_from case cells) line (left_behind case begun roots s)

-- ---- the certificate

-- the same header and sizes in full
abbrev pub in_full : PlainBrief → PlainCertificate
in_full c = record {
  version = Two;
  first = c.first;
  last = c.last;
  threshold = c.threshold;
  objects = c.objects;
  sizes = c.sizes;
  shells = c.shells;
  boxes = [];
  cells = [];
}

abbrev pub first_primary_line : PlainBrief → ℕ
first_primary_line c = first_line + length c.sizes

-- a line for each object that is named as a primary, in order
abbrev pub primary_failure : PlainProblem → PlainBrief → Option Failure
primary_failure case c = first_unfit (λ object line. object == line) PrimaryOf (first_primary_line c) (named case.primaries) c.primaries

abbrev pub first_shell_line_in_brief : PlainBrief → ℕ
first_shell_line_in_brief c = first_primary_line c + length c.primaries

abbrev pub shell_failure_in_brief : PlainProblem → PlainBrief → Option Failure
shell_failure_in_brief case c = shells_from case (first_shell_line_in_brief c) c.shells

abbrev pub first_cell_line : PlainBrief → ℕ
first_cell_line c = first_shell_line_in_brief c + length c.shells

abbrev pub told_failure : PlainProblem → PlainBrief → Option Failure
told_failure case c = told_from case c.cells (first_cell_line c) false (roots_by_slot (is_candidate_in_brief case c) case)

-- what fails before the shells
abbrev pub head_failure_in_brief : PlainProblem → PlainBrief → Option Failure
head_failure_in_brief case c = option_or (header_failure case (in_full c)) (option_or (size_failure case (in_full c)) (primary_failure case c))

-- what fails before the cells
abbrev pub object_failure_in_brief : PlainProblem → PlainBrief → Option Failure
object_failure_in_brief case c = option_or (head_failure_in_brief case c) (shell_failure_in_brief case c)

-- its points one after another
unfoldable pub first_failure_in_brief : PlainProblem → PlainBrief → Option Failure
first_failure_in_brief case c = option_or (object_failure_in_brief case c) (told_failure case c)
