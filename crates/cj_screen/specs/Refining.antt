-- What comes of the refining of a problem.
use Rattle.std.specs.Prelude.{◌≡◌, ℕ, ◌+◌, ◌≤◌, true, List, length, Result, Ok, All, Any}
use Rattle.cj_base.specs.Bounds.{MOST_LEAVES}
use Rattle.cj_case.specs.PlainProblems.{PlainProblem}
use Rattle.cj_hermite.specs.ObjectsAtTicks.{IsCommonOf}
use Rattle.cj_hermite.specs.Roots.{roots_of}
use Rattle.cj_case.specs.Slots.{slot_of}
use Rattle.cj_bezier.specs.Enclosed.{OthersAreFar}
use Rattle.cj_case.specs.Leaves.{IsTickOf, PlainLeaf, plain_leaves}
use Rattle.cj_bezier.specs.Candidates.{is_candidate, is_candidate_anew}
use Rattle.cj_bezier.specs.MeasuredObjects.{AreMeasured}
use Rattle.cj_case.specs.Order.{AreInOrder}
use Rattle.cj_candidates.specs.Counts.{candidate_count}
use Rattle.cj_cells.specs.Lists.{IsSound, list_candidates, splits_of}
use Rattle.cj_pool.specs.TrueLists.{IsTrueList}
use Rattle.cj_meet.specs.Closest.{KeepTheirPieces}
use Rattle.cj_formats.specs.declared.cert_format.CertFormat.{CertFormat}
use Rattle.cj_outputs.specs.Findings.{told_in}
use Rattle.cj_outputs.specs.Lines.{AreLines, format_of, leaves_met}
use Rattle.cj_outputs.specs.Outcome.{within_cells, within_told}
use Rattle.cj_outputs.specs.Summaries.{kept_count}
use Rattle.cj_status.specs.declared.status.Status.{Status}
use Rattle.cj_status.specs.Steps.{◌>>=◌}
use Rattle.cj_slabs.specs.Counts.{AreCounts}
use Rattle.cj_screen.specs.declared.lines_found.FoundLines.{FoundLines}
use Rattle.cj_screen.specs.declared.refining.FoundLeaves.{FoundLeaves}

-- what is measured of the objects of a case, its leaves, those that a certificate of this format tells apart, and counts
pub record AreFoundLeaves (format : CertFormat) (case : PlainProblem) (found : FoundLeaves) : Type 0 where
  pub measured : AreMeasured case found.measured
  pub leaves : plain_leaves found.leaves.items ≡ list_candidates case
  pub told : plain_leaves found.told.items ≡ told_in format case
  pub few : length found.leaves.items ≤ MOST_LEAVES
  pub kept : found.counted.kept ≡ kept_count case
  pub touching : found.counted.touching ≡ candidate_count case
  pub roots : found.counted.roots ≡ length (roots_of (is_candidate case) case)
  pub splits : length found.leaves.items ≡ found.counted.roots + splits_of case

-- what a certificate of this format is made of, leaves that show the encounters of a case, each within one piece of both its objects, and counts
pub record AreFoundLines (asked : CertFormat) (case : PlainProblem) (found : FoundLines) : Type 0 where
  pub lines : AreLines case found.lines
  pub format : format_of found.lines ≡ asked
  pub few : length (leaves_met found.lines) ≤ MOST_LEAVES
  pub ordered : AreInOrder (plain_leaves (leaves_met found.lines))
  pub pieces : KeepTheirPieces case (plain_leaves (leaves_met found.lines))
  pub kept : found.counted.kept ≡ kept_count case
  pub touching : found.counted.touching ≡ candidate_count case
  pub leaves : AreCounts case found.counted.leaves

-- the leaves of a case hold each common tick that is near or undecided, and tell the truth of each of their ticks
pub record HoldsAllTicks (case : PlainProblem) : Type 0 where
  pub sound : All (IsSound case) (list_candidates case)
  pub complete : (a b m : ℕ) → IsCommonOf case a b m → is_candidate case a b (slot_of case.first m) ≡ true → Any (IsTickOf a b m) (list_candidates case)
  pub far : OthersAreFar case (is_candidate case)
  pub ordered : AreInOrder (list_candidates case)
  pub pieces : KeepTheirPieces case (list_candidates case)

-- the leaves of a case, where there are at most so many, and at most so many that its certificate tells
abbrev pub leaves_asked : ℕ → ℕ → CertFormat → PlainProblem → Result (List PlainLeaf) Status
leaves_asked limit most format case = do
  leaves ← within_cells limit (list_candidates case)
  done ← within_told most format case
  Ok leaves

-- the leaves of the new case, where it and the old one have at most so many each
abbrev pub leaves_within : ℕ → PlainProblem → PlainProblem → Result (List PlainLeaf) Status
leaves_within limit old new = within_cells limit (list_candidates old) >>= λ base. within_cells limit (list_candidates new)

-- those of the pairs that are not unchanged do so for these pairs
pub record HoldsChangedTicks (old new : PlainProblem) : Type 0 where
  pub lists : IsTrueList (is_candidate_anew old new) new
  pub far : OthersAreFar new (is_candidate new)
