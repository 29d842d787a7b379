-- What is known of a pair: of the old list where it is unchanged, and else of the list of the pairs that are not.
use Rattle.std.proofs.Common.{◌≡◌, ℕ, ◌<◌, false, List, map, length, sym, ap, ◌∙◌}
use Rattle.cj_case.specs.Leaves.{PlainLeaf}
use Rattle.cj_case.specs.PlainProblems.{PlainProblem}
use Rattle.cj_case.specs.Unchanged.{is_unchanged}
use Rattle.cj_bezier.specs.Candidates.{is_candidate, is_candidate_anew}
use Rattle.cj_cells.specs.Lists.{list_of}
use Rattle.cj_again.specs.Matchings.{IsPairOf}
use Rattle.cj_again.specs.PairLeaves.{leaves_of_pair, renamed, with_pair}
use Rattle.cj_again.proofs.ChangedLemmas.{anew_leaves}
use Rattle.cj_again.proofs.PairLeafLemmas.{pair_of, pair_taken, renamed_same}
use Rattle.cj_again.proofs.TransportLemmas.{IsSame, object_is, pair_leaves}

-- both cases have one window and one threshold
pub record HaveOneScreen (old new : PlainProblem) : Type 0 where
  pub first : new.first ≡ old.first
  pub last : new.last ≡ old.last
  pub threshold : new.threshold ≡ old.threshold

same_pair : (old new : PlainProblem) (before pair : ℕ × ℕ) → HaveOneScreen old new → IsPairOf old new before pair → IsSame old new before.0 before.1 pair.0 pair.1
same_pair old new before pair screen is =
    let one = object_is old new before.0 pair.0 is.first in
    let other = object_is old new before.1 pair.1 is.second in
    record {
      first_track = one.0;
      second_track = other.0;
      first_size = one.1;
      second_size = other.1;
      first_primary = one.2;
      second_primary = other.2;
      from = screen.first;
      to = screen.last;
      threshold = screen.threshold;
    }

pub known_before : (old new : PlainProblem) (before pair : ℕ × ℕ) (part leaves : List PlainLeaf) → HaveOneScreen old new → IsPairOf old new before pair →
    leaves ≡ list_of (is_candidate old) old → part ≡ with_pair before leaves → map (renamed pair) part ≡ leaves_of_pair (is_candidate new) new pair
known_before old new before pair part leaves screen is all found =
    ap (map (renamed pair)) (found ∙ ap (with_pair before) all ∙ pair_taken (is_candidate old) old before.0 before.1 is.ordered is.exists)
    ∙ sym (pair_leaves old new before.0 before.1 pair.0 pair.1 (same_pair old new before pair screen is))

pub known_anew : (old new : PlainProblem) (a b : ℕ) (part leaves : List PlainLeaf) → a < b → b < length new.tracks → is_unchanged old new (a, b) ≡ false →
    leaves ≡ list_of (is_candidate_anew old new) new → part ≡ with_pair (a, b) leaves → map (renamed (a, b)) part ≡ leaves_of_pair (is_candidate new) new (a, b)
known_anew old new a b part leaves ordered exists changed all found =
    let anew = found ∙ ap (with_pair (a, b)) all ∙ pair_taken (is_candidate_anew old new) new a b ordered exists in
    ap (map (renamed (a, b))) anew ∙ renamed_same a b (leaves_of_pair (is_candidate_anew old new) new (a, b)) (pair_of (is_candidate_anew old new) new a b) ∙ anew_leaves old new (a, b) changed
