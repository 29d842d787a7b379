-- Runs: consecutive ticks with one label, as long as it lasts; those of two tracks have the pieces of both as label.
use Rattle.std.specs.Prelude.{◌≡◌, ℕ, ◌+◌, ◌-◌, ◌==◌, ◌&&◌, Bool, false, if◌then◌else◌, List, [], ◌∷◌, Option, Some, None, is_some}
use Rattle.std.specs.List.{range_with_len}
use Rattle.cj_base.specs.declared.tick.Window.{Window}
use Rattle.cj_track.specs.PlainTracks.{PlainTrack}
use Rattle.cj_hermite.specs.Pieces.{piece_at}

pub record Run : Type 0 where
  pub first : ℕ
  pub last : ℕ

-- whether there are two labels, which are the same
abbrev pub is_same : Option (ℕ × ℕ) → Option (ℕ × ℕ) → Bool
is_same None q = false
is_same (Some p) None = false
is_same (Some p) (Some q) = p.0 == q.0 && p.1 == q.1

-- a tick that has a label in front of runs: the first of them begins with it where that follows and has its label, else it is a run of its own
abbrev pub with_tick : (ℕ → Option (ℕ × ℕ)) → ℕ → List Run → List Run
with_tick label m [] = record { first = m; last = m } ∷ []
with_tick label m (r ∷ rs) =
    if r.first == m + 1 && is_same (label m) (label r.first)
    then record r { first = m } ∷ rs
    else record { first = m; last = m } ∷ r ∷ rs

-- the runs of ticks with one label, of ticks that follow one another
abbrev pub runs_over : (ℕ → Option (ℕ × ℕ)) → List ℕ → List Run
runs_over label [] = []
runs_over label (m ∷ ms) = if is_some (label m) then with_tick label m (runs_over label ms) else runs_over label ms

-- the runs of ticks with one label from first to last
unfoldable pub runs_between : (ℕ → Option (ℕ × ℕ)) → ℕ → ℕ → List Run
runs_between label first last = runs_over label (range_with_len first (last + 1 - first))

-- both numbers, where there are two
abbrev pub both : Option ℕ → Option ℕ → Option (ℕ × ℕ)
both None j = None
both (Some i) None = None
both (Some i) (Some j) = Some (i, j)

-- the numbers of the pieces in which two tracks are at a tick, where both have a state
abbrev pub both_numbers : PlainTrack → PlainTrack → ℕ → Option (ℕ × ℕ)
both_numbers e f m = both (piece_at e m) (piece_at f m)

-- the ticks of a window as a run
abbrev pub run_of : Window → Run
run_of ticks = record { first = ticks.first.micros; last = ticks.last.micros }

-- of the common runs from `from` to last these ticks are the first, in front of those behind them
abbrev pub IsNextCommon : PlainTrack → PlainTrack → ℕ → ℕ → Window → Type 0
IsNextCommon e f from last ticks =
    runs_between (both_numbers e f) from last ≡ run_of ticks ∷ runs_between (both_numbers e f) (ticks.last.micros + 1) last
