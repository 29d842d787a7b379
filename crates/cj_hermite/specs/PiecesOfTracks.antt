-- Pieces as a program keeps them: the plain piece that each stands for, the ticks that this covers, and the segment in which a number lies.
use Rattle.std.specs.Prelude.{◌≡◌, ℕ, ◌+◌, ◌<◌, ◌≤◌, length, take}
use Rattle.std.specs.List.{flat_map}
use Rattle.cj_track.specs.PlainTracks.{PlainNode, PlainTrack}
use Rattle.cj_hermite.specs.declared.pieces.Piece.{Piece}
use Rattle.cj_hermite.specs.Pieces.{PlainPiece, pieces_of_segment}

-- the tick lies between the nodes of the piece, and in its useable span
pub record Covers (m : ℕ) (x : PlainPiece) : Type 0 where
  pub from : x.from.at ≤ m
  pub to : m ≤ x.to.at
  pub first : x.first ≤ m
  pub last : m ≤ x.last

-- the same for two ticks
pub record CoversBoth (m n : ℕ) (x : PlainPiece) : Type 0 where
  pub first : Covers m x
  pub second : Covers n x

-- the nodes at the ends of a piece
abbrev pub first_state : Piece → PlainNode
first_state piece = record { at = piece.t0.micros; p = piece.p0; v = piece.v0 }

abbrev pub last_state : Piece → PlainNode
last_state piece = record { at = piece.t1.micros; p = piece.p1; v = piece.v1 }

-- the piece has the nodes of this plain piece
pub record Spans (piece : Piece) (x : PlainPiece) : Type 0 where
  pub from : first_state piece ≡ x.from
  pub to : last_state piece ≡ x.to

-- the plain form of a piece in a segment with this useable span
abbrev pub piece_with : ℕ → ℕ → Piece → PlainPiece
piece_with first last piece = record { from = first_state piece; to = last_state piece; first = first; last = last }

-- how many pieces come before those of a segment
abbrev pub pieces_before : PlainTrack → ℕ → ℕ
pieces_before e segment = length (flat_map pieces_of_segment (take segment e.segments))

-- the piece with this number lies in this segment
pub record IsInSegment (e : PlainTrack) (index segment : ℕ) : Type 0 where
  pub exists : segment < length e.segments
  pub from : pieces_before e segment ≤ index
  pub to : index < pieces_before e (segment + 1)
