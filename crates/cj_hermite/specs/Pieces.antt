-- Pieces: those of a track, the one at a tick with its number, and its interpolant. Interpolation stays within a segment.
use Rattle.std.specs.Prelude.{ℕ, ◌-◌, Bool, ◌&&◌, nat_le, List, [], ◌∷◌, filter, Option, None, option_map, IsSomeAnd}
use Rattle.std.specs.List.{enumerate_from, flat_map, last_or}
use Rattle.cj_track.specs.PlainTracks.{PlainNode, PlainSegment, PlainTrack}
use Rattle.cj_hermite.specs.Interpolant.{Curve, controls_of}

-- two neighbouring nodes, and the useable span of their segment
pub record PlainPiece : Type 0 where
  pub from : PlainNode
  pub to : PlainNode
  pub first : ℕ
  pub last : ℕ

-- between each two neighbours of these nodes
abbrev pub pieces_between : ℕ → ℕ → List PlainNode → List PlainPiece
pieces_between first last [] = []
pieces_between first last (a ∷ []) = []
pieces_between first last (a ∷ b ∷ nodes) =
    record { from = a; to = b; first = first; last = last } ∷ pieces_between first last (b ∷ nodes)

abbrev pub pieces_of_segment : PlainSegment → List PlainPiece
pieces_of_segment segment = pieces_between segment.first segment.last segment.nodes

-- through all segments, in order
abbrev pub pieces_of : PlainTrack → List PlainPiece
pieces_of e = flat_map pieces_of_segment e.segments

-- the tick lies between the nodes, and in the useable span
abbrev pub covers : ℕ → PlainPiece → Bool
covers m x = nat_le x.from.at m && nat_le m x.to.at && nat_le x.first m && nat_le m x.last

-- the last of these pieces that covers the tick, with its number, counted from the given one
abbrev pub last_covering : ℕ → ℕ → List PlainPiece → Option (ℕ × PlainPiece)
last_covering m number pieces = last_or None (filter (λ x. covers m x.1) (enumerate_from number pieces))

-- the last piece that covers the tick: one that two segments share belongs to the later
unfoldable pub piece_holding : PlainTrack → ℕ → Option PlainPiece
piece_holding e m = option_map (λ x. x.1) (last_covering m 0 (pieces_of e))

-- its number
unfoldable pub piece_at : PlainTrack → ℕ → Option ℕ
piece_at e m = option_map (λ x. x.0) (last_covering m 0 (pieces_of e))

-- the interpolant between the two nodes
abbrev pub curve_of_piece : PlainPiece → Curve
curve_of_piece x =
    let t = x.to.at - x.from.at in
    record {
      start = x.from.at;
      span = t;
      x = controls_of x.from.p.x x.from.v.x x.to.p.x x.to.v.x t;
      y = controls_of x.from.p.y x.from.v.y x.to.p.y x.to.v.y t;
      z = controls_of x.from.p.z x.from.v.z x.to.p.z x.to.v.z t;
    }

-- both have a state at the tick, and this holds of their interpolants
abbrev pub OfBothAt : PlainTrack → PlainTrack → ℕ → (Curve → Curve → Type 0) → Type 0
OfBothAt a b m P = IsSomeAnd (piece_holding a m) (λ x. IsSomeAnd (piece_holding b m) (λ y. P (curve_of_piece x) (curve_of_piece y)))
