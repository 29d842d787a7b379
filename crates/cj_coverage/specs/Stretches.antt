-- Stretches: ticks on end at which a track has a state, found one after another.
use Rattle.std.specs.Prelude.{◌≡◌, ℕ, ◌+◌, ◌<◌, ◌≤◌, None}
use Rattle.cj_base.specs.declared.tick.Window.{Window}
use Rattle.cj_track.specs.PlainTracks.{PlainTrack}
use Rattle.cj_hermite.specs.Pieces.{piece_at}
use Rattle.cj_hermite.specs.Walks.{IsNextState}
use Rattle.cj_coverage.specs.Coverage.{HasAll}

-- from the first tick from `from` on at which a track has a state, some ticks on end at which it has one
pub record IsNextStretch (e : PlainTrack) (from : ℕ) (stretch : Window) : Type 0 where
  pub next : IsNextState e from stretch.first.micros
  pub some : stretch.first.micros ≤ stretch.last.micros
  pub all : HasAll e stretch.first.micros stretch.last.micros

-- the stretch goes on to its greatest length, as far as the ticks up to last are asked for
pub record GoesOn (e : PlainTrack) (last : ℕ) (stretch longest : Window) : Type 0 where
  pub first : longest.first.micros ≡ stretch.first.micros
  pub longer : stretch.last.micros ≤ longest.last.micros
  pub all : HasAll e longest.first.micros longest.last.micros
  pub ends : longest.last.micros < last → piece_at e (longest.last.micros + 1) ≡ None

-- of the ticks from `from` to last the first on end at which a track has a state, as many as there are
pub record IsNextSpan (e : PlainTrack) (from last : ℕ) (span : Window) : Type 0 where
  pub later : from ≤ span.first.micros
  pub none : (m : ℕ) → from ≤ m → m < span.first.micros → piece_at e m ≡ None
  pub some : span.first.micros ≤ span.last.micros
  pub within : span.last.micros ≤ last
  pub all : HasAll e span.first.micros span.last.micros
  pub ends : span.last.micros < last → piece_at e (span.last.micros + 1) ≡ None
