-- Which ticks of a range an object covers: those at which it has a state, as spans, and the first that it does not cover.
use Rattle.std.specs.Prelude.{◌≡◌, ℕ, ◌+◌, ◌-◌, ◌<◌, ◌≤◌, Bool, true, not, List, [], ◌∷◌, Option, Some, None, is_some, count_by}
use Rattle.std.specs.List.{find, range_with_len}
use Rattle.cj_track.specs.PlainTracks.{PlainTrack}
use Rattle.cj_case.specs.PlainProblems.{PlainProblem}
use Rattle.cj_hermite.specs.CommonRuns.{Run, runs_between}
use Rattle.cj_hermite.specs.Pieces.{piece_at}

-- one label for all pieces
abbrev pub one_label : Option ℕ → Option (ℕ × ℕ)
one_label None = None
one_label (Some number) = Some (0, 0)

-- the label of a tick at which a track has a state, the same for all such ticks
abbrev pub state_label : PlainTrack → ℕ → Option (ℕ × ℕ)
state_label e m = one_label (piece_at e m)

-- the covered spans of a track from first to last: the runs of ticks at which it has a state, in whatever piece
unfoldable pub covered_spans : PlainTrack → ℕ → ℕ → List Run
covered_spans e first last = runs_between (state_label e) first last

-- a tick of a span
pub record IsIn (m : ℕ) (span : Run) : Type 0 where
  pub from : span.first ≤ m
  pub to : m ≤ span.last

-- a tick from first to last at which a track has a state
pub record IsCovered (e : PlainTrack) (first last m : ℕ) : Type 0 where
  pub after : first ≤ m
  pub before : m ≤ last
  pub state : is_some (piece_at e m) ≡ true

-- spans in order, each of one tick or more, and with one or more ticks between two
abbrev pub AreApart : List Run → Type 0
AreApart [] = Unit {0}
AreApart (span ∷ []) = span.first ≤ span.last
AreApart (span ∷ next ∷ spans) = (span.first ≤ span.last) × ((span.last + 1 < next.first) × AreApart (next ∷ spans))

-- a track has no state at the tick
abbrev pub is_uncovered : PlainTrack → ℕ → Bool
is_uncovered e m = not (is_some (piece_at e m))

-- the first tick from first to last at which a track has no state
unfoldable pub first_uncovered : PlainTrack → ℕ → ℕ → Option ℕ
first_uncovered e first last = find (is_uncovered e) (range_with_len first (last + 1 - first))

-- a track has a state at each tick from first to last
abbrev pub HasAll : PlainTrack → ℕ → ℕ → Type 0
HasAll e first last = (m : ℕ) → first ≤ m → m ≤ last → is_some (piece_at e m) ≡ true

-- how many objects of a case do not cover its whole window
abbrev pub uncovered_count : PlainProblem → ℕ
uncovered_count case = count_by (λ e. is_some (first_uncovered e case.first case.last)) case.tracks
