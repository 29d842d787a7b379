-- Parts: the runs of ticks, from one tick to another, in which each piece of a track is used, and their hulls.
use Rattle.std.specs.Prelude.{◌≡◌, ℕ, ◌+◌, ◌-◌, ◌<◌, ◌≤◌, ◌↔◌, ◌==◌, Bool, false, List, [], ◌∷◌, filter, Option, Some, None, slice_get, IfSome}
use Rattle.std.specs.List.{enumerate_from, flat_map, range_with_len}
use Rattle.cj_track.specs.PlainTracks.{PlainTrack}
use Rattle.cj_hermite.specs.Pieces.{PlainPiece, pieces_of, piece_holding, piece_at, curve_of_piece}
use Rattle.cj_bezier.specs.Hulls.{PlainHull, hull_axes}

-- a tick from `from` to `to` at which the piece with this number is the one to be used
pub record IsUsed (e : PlainTrack) (from to index m : ℕ) : Type 0 where
  pub after : from ≤ m
  pub before : m ≤ to
  pub here : piece_at e m ≡ Some index

-- the piece with this number, and the run of the ticks from `from` to `to` at which it is used: there is one
pub record IsPart (e : PlainTrack) (from to index : ℕ) (x : PlainPiece) (first last : ℕ) : Type 0 where
  pub piece : slice_get (pieces_of e) index ≡ Some x
  pub some : first ≤ last
  pub ticks : (m : ℕ) → (first ≤ m × m ≤ last) ↔ IsUsed e from to index m

-- this holds of the hull of each part
abbrev pub OfEachHull : PlainTrack → ℕ → ℕ → (PlainHull → Type 0) → Type 0
OfEachHull e from to P = (index first last : ℕ) (x : PlainPiece) → IsPart e from to index x first last → P (hull_axes (curve_of_piece x) first last)

-- ---- the same as a list

-- whether this is the number
abbrev pub is_number : ℕ → Option ℕ → Bool
is_number index None = false
is_number index (Some i) = i == index

-- the ticks from `from` to `to` at which the piece with this number is used
abbrev pub ticks_used : PlainTrack → ℕ → ℕ → ℕ → List ℕ
ticks_used e from to index = filter (λ m. is_number index (piece_at e m)) (range_with_len from (to + 1 - from))

-- the last of these ticks
abbrev pub last_tick : ℕ → List ℕ → ℕ
last_tick m [] = m
last_tick m (n ∷ ms) = last_tick n ms

-- the hull of a piece over the first to the last of these ticks, if there is one
abbrev pub hull_over : PlainPiece → List ℕ → List PlainHull
hull_over x [] = []
hull_over x (m ∷ ms) = hull_axes (curve_of_piece x) m (last_tick m ms) ∷ []

-- the hulls of the parts, in order of their pieces
unfoldable pub hulls_of : PlainTrack → ℕ → ℕ → List PlainHull
hulls_of e from to = flat_map (λ part. hull_over part.1 (ticks_used e from to part.0)) (enumerate_from 0 (pieces_of e))

-- ---- part by part

-- the piece with this number has a part
pub record HasPart (e : PlainTrack) (from to index : ℕ) : Type 0 where
  pub piece : PlainPiece
  pub first : ℕ
  pub last : ℕ
  pub part : IsPart e from to index piece first last

-- each piece that is used between two ticks has a part
abbrev pub HaveParts : PlainTrack → ℕ → ℕ → ℕ → ℕ → Type 0
HaveParts e from to after upto = (m index : ℕ) → after ≤ m → m ≤ upto → piece_at e m ≡ Some index → HasPart e from to index

-- ---- in time

-- the nodes of the piece at tick m rise in time, and no later tick has an earlier piece
pub record IsInTime (e : PlainTrack) (m : ℕ) : Type 0 where
  pub rises : IfSome (piece_holding e m) (λ x. x.from.at < x.to.at)
  pub later : (n i j : ℕ) → m ≤ n → piece_at e m ≡ Some i → piece_at e n ≡ Some j → i ≤ j

-- at each tick from one to another
abbrev pub AreInTime : PlainTrack → ℕ → ℕ → Type 0
AreInTime e from to = (m : ℕ) → from ≤ m → m ≤ to → IsInTime e m
