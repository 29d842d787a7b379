-- Bounds of a case: nodes, the window, objects times slots, and sizes.
use Rattle.std.specs.Prelude.{ℕ, ◌^◌, ◌-◌, ◌*◌, ◌≤◌, List, sum_by}
use Rattle.cj_base.specs.Bounds.{MOST_NODES, MOST_OBJECT_SLOTS}
use Rattle.cj_track.specs.Segments.{node_count}
use Rattle.cj_track.specs.declared.track.Track.{Track}
use Rattle.cj_case.specs.Slots.{slot_count}

-- how many nodes tracks have in all
abbrev pub node_total : List Track → ℕ
node_total tracks = sum_by (λ track. node_count track.segments) tracks

-- at most so many nodes in all
abbrev pub AreFewNodes : List Track → Type 0
AreFewNodes tracks = node_total tracks ≤ MOST_NODES

-- at most fourteen days from the first tick to the last
abbrev pub IsShort : ℕ → ℕ → Type 0
IsShort first last = last - first ≤ 1_209_600_000_000

-- at most so many objects times slots
abbrev pub AreFewSlots : ℕ → ℕ → ℕ → Type 0
AreFewSlots objects first last = objects * slot_count first last ≤ MOST_OBJECT_SLOTS

-- the greatest size of an object: a radius of a kilometre in nm
abbrev pub MAX_SIZE : ℕ
MAX_SIZE = 10 ^ 12
