-- The run of the piece at the first state from a tick on is the next run.
use Rattle.std.proofs.Common.{◌≡◌, ◌≢◌, ℕ, ◌<◌, ◌≤◌, Option, Some, sym, ap, ◌∙◌, subst, arith}
use Rattle.std.specs.Prelude.{IsSomeAnd, is_some, option_map, slice_get}
use Rattle.cj_base.specs.declared.tick.Window.{Window}
use Rattle.cj_track.specs.PlainTracks.{PlainTrack}
use Rattle.cj_hermite.specs.Interpolant.{Curve}
use Rattle.cj_hermite.specs.Pieces.{PlainPiece, pieces_of, piece_holding, piece_at, curve_of_piece}
use Rattle.cj_hermite.specs.Runs.{IsRun}
use Rattle.cj_hermite.specs.Walks.{IsNextState, IsNextRun}
use Rattle.cj_hermite.proofs.StateLemmas.{has, lacks, state}

module _ (e : PlainTrack) (index : ℕ) (range run : Window) (is : IsRun e index range run) where
  -- at each tick of the run the piece is the one to be used
  pub here_in : (m : ℕ) → run.first.micros ≤ m → m ≤ run.last.micros → piece_at e m ≡ Some index
  here_in m after before = ((is.ticks m).0 (record { after = after; before = before })).here

  -- the run begins in the range, and ends there
  pub begins_in : range.first.micros ≤ run.first.micros
  begins_in = ((is.ticks run.first.micros).0 (record { after = omega arith; before = is.some })).within.after

  ends_in : run.last.micros ≤ range.last.micros
  ends_in = ((is.ticks run.last.micros).0 (record { after = is.some; before = omega arith })).within.before

  pub next_is : (from last : ℕ) → IsNextState e from range.first.micros → piece_at e range.first.micros ≡ Some index → range.first.micros ≤ last → range.last.micros ≡ last
      → (run.last.micros < last → (m : ℕ) → run.last.micros < m → piece_at e m ≢ Some index) → IsNextRun e from last run
  next_is from last next first some end ended =
      let begun = ((is.ticks range.first.micros).1 (record { within = record { after = omega arith; before = omega arith }; here = first })).after in
      let own = here_in run.last.micros is.some (omega arith) in
      record {
        later = omega (arith, next.later, begins_in, is.some);
        within = omega (arith, ends_in);
        none = λ m low high. next.none m low (omega (arith, begun));
        same = λ m low after before. here_in m after before ∙ sym own;
        some = ap is_some own;
        ends = λ more same. ended more _ (omega arith) (same ∙ own);
      }

-- the interpolant at a tick is that of the piece with its number
pub curve_of_number : (e : PlainTrack) (m index : ℕ) (d : Curve) → piece_at e m ≡ Some index → IsSomeAnd (slice_get (pieces_of e) index) (λ x. d ≡ curve_of_piece x)
    → option_map curve_of_piece (piece_holding e m) ≡ Some d
curve_of_number e m index d here curve = elim (state e m) [
  | has number x is ↦
      let numbered = is.numbered in
      let same : number ≡ index = cc in
      let place : slice_get (pieces_of e) index ≡ Some x = subst (λ (k : ℕ). slice_get (pieces_of e) k ≡ Some x) same is.place in
      let own : d ≡ curve_of_piece x = subst (λ (z : Option PlainPiece). IsSomeAnd z (λ y. d ≡ curve_of_piece y)) place curve in
      ap (option_map curve_of_piece) is.at ∙ ap (λ (c : Curve). Some c) (sym own)
  | lacks none empty ↦ absurd cc
]
