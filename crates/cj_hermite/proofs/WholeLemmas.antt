-- Objects that are in one piece over some ticks: what that says of their cuts, and of the roots of two of them.
use Rattle.std.proofs.Common.{◌≡◌, ◌+◌, ◌-◌, ◌<◌, ◌≤◌, ℕ, suc, [], ◌∷◌, get_or, Some, sym, ap, subst, ◌∙◌, arith, length, append-nil}
use Rattle.std.specs.Prelude.{is_some, map, option_map}
use Rattle.std.specs.List.{range_with_len}
use Rattle.cj_base.specs.declared.tick.Window.{Window}
use Rattle.cj_track.specs.Tracks.{plain_track}
use Rattle.cj_track.specs.declared.track.Track.{Track}
use Rattle.cj_case.specs.PlainProblems.{PlainProblem}
use Rattle.cj_case.specs.Problems.{plain_problem}
use Rattle.cj_case.specs.Slots.{slot_first, slot_last}
use Rattle.cj_case.specs.declared.problem.Problem.{Problem}
use Rattle.cj_hermite.specs.CommonRuns.{both, runs_between, runs_over}
use Rattle.cj_hermite.specs.Interpolant.{IsOver, curve_of}
use Rattle.cj_hermite.specs.ObjectsAtTicks.{curve_at, number_at}
use Rattle.cj_hermite.specs.Pieces.{curve_of_piece, piece_at, piece_holding}
use Rattle.cj_hermite.specs.Roots.{KeepPieces, numbers_at, root_of_run, roots_between, roots_in, roots_in_slot}
use Rattle.cj_hermite.specs.Walks.{IsNextRun}
use Rattle.cj_hermite.specs.declared.pieces.Piece.{Piece}
use Rattle.cj_hermite.proofs.CommonRunLemmas.{taken}
use Rattle.cj_hermite.proofs.CurveLemmas.{same_numbers, some_both}
use Rattle.cj_hermite.proofs.TrackLemmas.{curve_of_track, first_is_over, first_state, number_of_track, second_state}
use Rattle.cj_hermite.specs.Whole.{IsWhole}

-- two objects that are in one piece each keep their pieces
pub both_keep : (case : PlainProblem) (a b first last : ℕ) → IsWhole case a first last → IsWhole case b first last → KeepPieces case a b first last
both_keep case a b first last x y = record {
  same = λ m low high i. both (x.same m low high i) (y.same m low high i);
  nodes = some_both (number_at case a first) (number_at case b first) x.state y.state;
}

pub first_whole : (case : PlainProblem) (a b first last : ℕ) → KeepPieces case a b first last → IsWhole case a first last
first_whole case a b first last keep = record {
  same = λ m low high. (same_numbers (number_at case a m) (number_at case b m) (number_at case a first) (number_at case b first) keep.nodes (keep.same m low high)).0;
  state = first_state case a b first last keep;
}

pub second_whole : (case : PlainProblem) (a b first last : ℕ) → KeepPieces case a b first last → IsWhole case b first last
second_whole case a b first last keep = record {
  same = λ m low high. (same_numbers (number_at case a m) (number_at case b m) (number_at case a first) (number_at case b first) keep.nodes (keep.same m low high)).1;
  state = second_state case a b first last keep;
}

-- the interpolant at the first tick gives places over all of them
pub whole_is_over : (case : PlainProblem) (object first last : ℕ) (piece : Piece) → first ≤ last → IsWhole case object first last → curve_at case object first ≡ Some (curve_of piece)
    → IsOver (curve_of piece) first last
whole_is_over case object first last piece some whole is = first_is_over case object object first last piece some (both_keep case object object first last whole whole) is

-- the same ticks, said otherwise
pub whole_at : (case : PlainProblem) (object other first from last to : ℕ) → object ≡ other → first ≡ from → last ≡ to → IsWhole case object first last → IsWhole case other from to
whole_at case object other first from last to one two three whole =
    subst (λ (k : ℕ). IsWhole case k from to) one (subst (λ (m : ℕ). IsWhole case object m to) two (subst (λ (m : ℕ). IsWhole case object first m) three whole))

-- a track whose first run takes all of the ticks is in one piece over them
pub whole_run : (p : Problem) (object first last : ℕ) (track : Track) (run : Window) → object < length p.tracks → track ≡ get_or p.tracks object track
    → IsNextRun (plain_track track) first last run → run.first.micros ≡ first → run.last.micros ≡ last → first ≤ last → IsWhole (plain_problem p) object first last
whole_run p object first last track run there is next from to some = record {
  same = λ m low high. at m ∙ next.same m low (omega arith) (omega arith) ∙ sym (next.same first (omega arith) (omega arith) (omega arith)) ∙ sym (at first);
  state = ap is_some (at first ∙ next.same first (omega arith) (omega arith) (omega arith)) ∙ next.some;
}
  where
    at : (m : ℕ) → number_at (plain_problem p) object m ≡ piece_at (plain_track track) m
    at m = number_of_track p object m track there ∙ ap (λ (t : Track). piece_at (plain_track t) m) (sym is)

-- an interpolant of a track is its object's
pub curve_of_run : (p : Problem) (object m : ℕ) (track : Track) (piece : Piece) → object < length p.tracks → track ≡ get_or p.tracks object track
    → option_map curve_of_piece (piece_holding (plain_track track) m) ≡ Some (curve_of piece) → curve_at (plain_problem p) object m ≡ Some (curve_of piece)
curve_of_run p object m track piece there is one =
    curve_of_track p object m track there ∙ ap (λ (t : Track). option_map curve_of_piece (piece_holding (plain_track t) m)) (sym is) ∙ one

-- two objects that keep their pieces over some ticks have one root there
pub one_root : (case : PlainProblem) (a b first last : ℕ) → first ≤ last → KeepPieces case a b first last → roots_between case a b first last ≡ record { a = a; b = b; first = first; last = last } ∷ []
unfolding roots_between runs_between
one_root case a b first last some keep =
    let n : last + 1 - first ≡ suc (last - first) + 0 = omega arith in
    ap (λ (k : ℕ). map (root_of_run a b) (runs_over (numbers_at case a b) (range_with_len first k))) n
    ∙ ap (map (root_of_run a b)) (taken (numbers_at case a b) (last - first) first last 0 (omega arith) keep.nodes keep.same (λ none. absurd (omega arith)))

-- and in a slot of these ticks
pub one_in_slot : (case : PlainProblem) (slot a b first last : ℕ) → first ≤ last → KeepPieces case a b first last → first ≡ slot_first case.first slot → last ≡ slot_last case.first case.last slot
    → roots_in_slot case slot ((a, b) ∷ []) ≡ record { a = a; b = b; first = first; last = last } ∷ []
one_in_slot case slot a b first last some keep from to =
    append-nil (roots_in case slot a b) ∙ (λ i. roots_between case a b (sym from i) (sym to i)) ∙ one_root case a b first last some keep
