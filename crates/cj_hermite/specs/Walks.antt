-- Walks: a track from one run of ticks in one piece to the next.
use Rattle.std.specs.Prelude.{◌≡◌, ◌≢◌, ℕ, ◌+◌, ◌<◌, ◌≤◌, true, List, length, slice_index_or, None, is_some}
use Rattle.cj_base.specs.declared.tick.Window.{Window}
use Rattle.cj_track.specs.declared.segment.Segment.{Segment}
use Rattle.cj_track.specs.PlainTracks.{PlainTrack}
use Rattle.cj_hermite.specs.Pieces.{piece_at}

-- so many segments end before tick m, and all others then or later
pub record AreEnded (m : ℕ) (segments : List Segment) (count : ℕ) : Type 0 where
  pub bound : count ≤ length segments
  pub before : (k : ℕ) (d : Segment) → k < count → (slice_index_or segments k d).last.micros < m
  pub behind : (k : ℕ) (d : Segment) → count ≤ k → k < length segments → m ≤ (slice_index_or segments k d).last.micros

-- from tick `from` on there is no state
abbrev pub HasNoMore : PlainTrack → ℕ → Type 0
HasNoMore e from = (m : ℕ) → from ≤ m → piece_at e m ≡ None

-- the first tick from `from` on at which there is a state
pub record IsNextState (e : PlainTrack) (from at : ℕ) : Type 0 where
  pub later : from ≤ at
  pub none : (m : ℕ) → from ≤ m → m < at → piece_at e m ≡ None
  pub some : is_some (piece_at e at) ≡ true

-- none of the ticks from `from` to last has a state
abbrev pub HasNone : PlainTrack → ℕ → ℕ → Type 0
HasNone e from last = (m : ℕ) → from ≤ m → m ≤ last → piece_at e m ≡ None

-- the next run of the ticks from `from` to last; it may have begun before
pub record IsNextRun (e : PlainTrack) (from last : ℕ) (run : Window) : Type 0 where
  pub later : from ≤ run.last.micros
  pub within : run.last.micros ≤ last
  pub none : (m : ℕ) → from ≤ m → m < run.first.micros → piece_at e m ≡ None
  pub same : (m : ℕ) → from ≤ m → run.first.micros ≤ m → m ≤ run.last.micros → piece_at e m ≡ piece_at e run.last.micros
  pub some : is_some (piece_at e run.last.micros) ≡ true
  pub ends : run.last.micros < last → piece_at e (run.last.micros + 1) ≢ piece_at e run.last.micros
