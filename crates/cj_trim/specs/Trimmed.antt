-- Trimmed: a track without the states that no tick of a window needs.
use Rattle.std.specs.Prelude.{ℕ, min, max, Bool, nat_le, if◌then◌else◌, List, [], ◌∷◌, map}
use Rattle.cj_track.specs.PlainTracks.{PlainNode, PlainSegment, PlainTrack}

-- the useable span of a segment has a tick of the window from first to last
unfoldable pub has_part : ℕ → ℕ → PlainSegment → Bool
has_part first last s = nat_le (max s.first first) (min s.last last)

-- the useable span that is left: its part in the window, or its first tick alone where it has none
abbrev pub first_left : ℕ → ℕ → PlainSegment → ℕ
first_left first last s = if has_part first last s then max s.first first else s.first

abbrev pub last_left : ℕ → ℕ → PlainSegment → ℕ
last_left first last s = if has_part first last s then min s.last last else s.first

-- The states from the last one that is not after a tick and that others follow. A tick at a state belongs to the piece behind it, so the one
-- that follows has to stay.
unfoldable pub from_last : ℕ → List PlainNode → List PlainNode
from_last m [] = []
from_last m (a ∷ []) = a ∷ []
from_last m (a ∷ b ∷ []) = a ∷ b ∷ []
from_last m (a ∷ b ∷ c ∷ nodes) = if nat_le b.at m then from_last m (b ∷ c ∷ nodes) else a ∷ b ∷ c ∷ nodes

-- the states up to the first one that is after a tick, or all where none is
unfoldable pub upto_first : ℕ → List PlainNode → List PlainNode
upto_first m [] = []
upto_first m (a ∷ nodes) = a ∷ (if nat_le a.at m then upto_first m nodes else [])

-- the states that the ticks from first to last need
abbrev pub needed : ℕ → ℕ → List PlainNode → List PlainNode
needed first last nodes = upto_first last (from_last first nodes)

-- a segment with the useable span that is left and the states that this needs; the covariances stay
abbrev pub trimmed_segment : ℕ → ℕ → PlainSegment → PlainSegment
trimmed_segment first last s = record {
  first = first_left first last s;
  last = last_left first last s;
  nodes = needed (first_left first last s) (last_left first last s) s.nodes;
  covariances = s.covariances;
}

-- a track with such segments, and else as it is
abbrev pub trimmed : ℕ → ℕ → PlainTrack → PlainTrack
trimmed first last t = record { file = t.file; name = t.name; id = t.id; frame = t.frame; segments = map (trimmed_segment first last) t.segments }
