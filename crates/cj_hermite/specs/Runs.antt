-- The ticks of a range at which a piece is the one to be used.
use Rattle.std.specs.Prelude.{◌≡◌, ℕ, ◌≤◌, ◌↔◌, Some}
use Rattle.cj_base.specs.declared.tick.Window.{Window}
use Rattle.cj_track.specs.PlainTracks.{PlainTrack}
use Rattle.cj_hermite.specs.Pieces.{piece_at}

-- a tick of the window
pub record Holds (window : Window) (m : ℕ) : Type 0 where
  pub after : window.first.micros ≤ m
  pub before : m ≤ window.last.micros

-- a tick of the range at which the piece is the one with this number
pub record IsOfPiece (e : PlainTrack) (index : ℕ) (range : Window) (m : ℕ) : Type 0 where
  pub within : Holds range m
  pub here : piece_at e m ≡ Some index

-- those ticks are the ones of this run, and there is one
pub record IsRun (e : PlainTrack) (index : ℕ) (range run : Window) : Type 0 where
  pub some : run.first.micros ≤ run.last.micros
  pub ticks : (m : ℕ) → Holds run m ↔ IsOfPiece e index range m
