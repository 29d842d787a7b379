-- Thinned: a track with fewer nodes, whose interpolant stays within a stated length of the first. Lengths are in nm.
use Rattle.std.specs.Prelude.{ℕ, zero, suc, ◌+◌, ◌-◌, Bool, ◌&&◌, not, nat_le, List, [], ◌∷◌, map, length, take}
use Rattle.std.specs.List.{list_all}
use Rattle.cj_track.specs.Limits.{MAX_STEP}
use Rattle.cj_track.specs.PlainTracks.{PlainNode, PlainSegment, PlainTrack}
use Rattle.cj_hermite.specs.Interpolant.{Curve}
use Rattle.cj_hermite.specs.Pieces.{PlainPiece, pieces_between, curve_of_piece}
use Rattle.cj_case.specs.Leaves.{same_kind}
use Rattle.cj_case.specs.declared.kind.Kind.TheVariants.{Near}
use Rattle.cj_bezier.specs.Halving.{leaves_between}
use Rattle.cj_bezier.specs.RootLeaves.{kind_between}
use Rattle.cj_interval.specs.Passing.{least_from}

-- two interpolants are within e over the ticks from first to last: these are halved until each part is of a kind, and each is near
unfoldable pub are_near : ℕ → Curve → Curve → ℕ → ℕ → Bool
are_near e c d first last = list_all (λ s. same_kind Near s.kind) (leaves_between (kind_between c d e) 0 0 first last)

-- the interpolant of a piece and another one are within e from the first state of the piece to the second
abbrev pub stays_near : ℕ → Curve → PlainPiece → Bool
stays_near e d x = are_near e (curve_of_piece x) d x.from.at x.to.at

-- the interpolant from a state straight to a later one
abbrev pub curve_between : PlainNode → PlainNode → Curve
curve_between a b = curve_of_piece (record { from = a; to = b; first = a.at; last = b.at })

-- the last of the states behind one, which is that one where there are none
abbrev pub last_of : PlainNode → List PlainNode → PlainNode
last_of a [] = a
last_of a (b ∷ path) = last_of b path

-- an interpolant stays near each piece between these states, wherever the pieces are useable
unfoldable pub all_near : ℕ → Curve → List PlainNode → Bool
all_near e d nodes = list_all (stays_near e d) (pieces_between 0 0 nodes)

-- a step from a state to the last of those behind it stands for the pieces between them
abbrev pub stands_for : ℕ → PlainNode → List PlainNode → Bool
stands_for e a path = all_near e (curve_between a (last_of a path)) (a ∷ path)

-- over how many pieces a step may go
abbrev pub MAX_PIECES : ℕ
MAX_PIECES = 64

-- a step from a state to the last of those behind it, of which there are two or more, is allowed
unfoldable pub is_allowed : ℕ → PlainNode → List PlainNode → Bool
is_allowed e a path = nat_le (length path) MAX_PIECES && (nat_le (last_of a path).at (a.at + MAX_STEP) && stands_for e a path)

-- the step from a state that leaves out so many of those behind it is not allowed
abbrev pub is_refused : ℕ → PlainNode → List PlainNode → ℕ → Bool
is_refused e a behind n = not (is_allowed e a (take (n + 1) behind))

-- how many of the states behind one the step from it leaves out: the most such that it and all shorter steps are allowed
unfoldable pub left_out : ℕ → PlainNode → List PlainNode → ℕ
left_out e a behind = least_from (length behind - 1) 1 (is_refused e a behind) - 1

-- the states that are kept of these, the first n of which are left out
unfoldable pub kept_behind : ℕ → ℕ → List PlainNode → List PlainNode
kept_behind e n [] = []
kept_behind e zero (a ∷ behind) = a ∷ kept_behind e (left_out e a behind) behind
kept_behind e (suc n) (a ∷ behind) = kept_behind e n behind

-- the states that are kept of a segment's: the first, and after each the one to which a step goes from there
abbrev pub kept : ℕ → List PlainNode → List PlainNode
kept e nodes = kept_behind e 0 nodes

-- a segment with the states that are kept, and else as it is
abbrev pub thinned_segment : ℕ → PlainSegment → PlainSegment
thinned_segment e s = record { first = s.first; last = s.last; nodes = kept e s.nodes; covariances = s.covariances }

-- a track with such segments, and else as it is
abbrev pub thinned : ℕ → PlainTrack → PlainTrack
thinned e t = record { file = t.file; name = t.name; id = t.id; frame = t.frame; segments = map (thinned_segment e) t.segments }
