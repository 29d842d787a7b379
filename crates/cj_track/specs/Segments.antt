-- The rule of a list of segments, and how their pieces are numbered.
use Rattle.std.specs.Prelude.{ℕ, ◌+◌, ◌-◌, ◌^◌, ◌<◌, ◌≤◌, List, [], ◌∷◌, length, sum_by}
use Rattle.cj_track.specs.declared.segment.Segment.{Segment}

-- each useable span begins where the one before ends, or later
abbrev pub AreInOrder : List Segment → Type 0
AreInOrder [] = Unit {0}
AreInOrder (a ∷ []) = Unit {0}
AreInOrder (a ∷ b ∷ segments) = (a.last.micros ≤ b.first.micros) × AreInOrder (b ∷ segments)

-- how many nodes there are in all
abbrev pub node_count : List Segment → ℕ
node_count segments = sum_by (λ segment. length segment.nodes) segments

-- the segments of a track: one or more, in order of time, with fewer than 2 ^ 32 nodes in all
pub record AreSegments (segments : List Segment) : Type 0 where
  pub some : 1 ≤ length segments
  pub order : AreInOrder segments
  pub few : node_count segments < 2 ^ 32

-- a piece lies between each two neighbouring nodes
abbrev pub piece_count : Segment → ℕ
piece_count segment = length segment.nodes - 1

-- the number of the first piece of each segment, counted on
abbrev pub starts_from : ℕ → List Segment → List ℕ
starts_from start [] = []
starts_from start (segment ∷ segments) = start ∷ starts_from (start + piece_count segment) segments
