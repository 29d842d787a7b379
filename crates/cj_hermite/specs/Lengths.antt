-- Lengths: pieces whose nodes rise in time, and cases whose interpolants have lengths.
use Rattle.std.specs.Prelude.{ℕ, ◌<◌, All, IfSome}
use Rattle.cj_track.specs.PlainTracks.{PlainTrack}
use Rattle.cj_hermite.specs.Pieces.{PlainPiece, pieces_of}
use Rattle.cj_case.specs.PlainProblems.{PlainProblem}
use Rattle.cj_hermite.specs.ObjectsAtTicks.{curve_at}

-- the second node comes after the first
abbrev pub Rises : PlainPiece → Type 0
Rises x = x.from.at < x.to.at

-- each piece of a track has a length
abbrev pub IsRising : PlainTrack → Type 0
IsRising e = All Rises (pieces_of e)

-- each interpolant of an object has a length
abbrev pub HaveLengths : PlainProblem → Type 0
HaveLengths case = (object m : ℕ) → IfSome (curve_at case object m) (λ c. 0 < c.span)
