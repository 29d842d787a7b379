-- What is counted in a case.
use Rattle.std.specs.Prelude.{ℕ, ◌-◌, Bool, not, List, Option, Some, None, filter, length, count_by}
use Rattle.cj_case.specs.PlainProblems.{PlainProblem}
use Rattle.cj_case.specs.Pairs.{pairs_of}
use Rattle.cj_case.specs.Primaries.{concerns}
use Rattle.cj_case.specs.declared.kind.Kind.{Kind}
use Rattle.cj_case.specs.declared.kind.Kind.TheVariants.{Far, Near, Undecided}
use Rattle.cj_case.specs.Leaves.{PlainLeaf, same_kind}
use Rattle.cj_bezier.specs.Candidates.{is_candidate, pairs_kept}
use Rattle.cj_hermite.specs.Roots.{roots_of}
use Rattle.cj_cells.specs.Lists.{splits_of}
use Rattle.cj_candidates.specs.Counts.{candidate_count}
use Rattle.cj_meet.specs.Encounters.{encounters_of}
use Rattle.cj_report.specs.Summary.{Tally}
use Rattle.cj_outputs.specs.Messages.{has_message}

-- whether a leaf is of this kind
abbrev pub is_of : Kind → PlainLeaf → Bool
is_of kind s = same_kind kind s.kind

-- how many pairs have a primary, and how many of them are kept
abbrev pub pair_count : PlainProblem → ℕ
pair_count case = length (filter (concerns case) (pairs_of (length case.tracks)))

-- how many objects are not marked
abbrev pub secondary_count : Option (List Bool) → ℕ
secondary_count None = 0
secondary_count (Some marks) = count_by not marks

abbrev pub kept_count : PlainProblem → ℕ
kept_count case = length (pairs_kept case)

-- what is counted in a case with these leaves
abbrev pub tally_with : PlainProblem → List PlainLeaf → Tally
tally_with case leaves = record {
  objects = length case.tracks;
  pairs = pair_count case;
  parted = pair_count case - kept_count case;
  touching = candidate_count case;
  roots = length (roots_of (is_candidate case) case);
  splits = splits_of case;
  leaves = length leaves;
  far = count_by (is_of Far) leaves;
  near = count_by (is_of Near) leaves;
  undecided = count_by (is_of Undecided) leaves;
  encounters = length (encounters_of leaves);
  messages = count_by (has_message case) (encounters_of leaves);
}
