-- What a certificate lists of the objects: their shells, the box of each in a slot, and which pairs are candidates by these.
use Rattle.std.specs.Prelude.{ℕ, ◌+◌, ◌-◌, ◌==◌, ◌&&◌, nat_le, Bool, List, map, Option, option_map}
use Rattle.std.specs.List.{find, range_with_len}
use Rattle.cj_case.specs.PlainProblems.{PlainProblem}
use Rattle.cj_case.specs.declared.shells.Shell.{Shell}
use Rattle.cj_bezier.specs.Candidates.{candidate_by}
use Rattle.cj_case.specs.Boxes.{PlainBox}
use Rattle.cj_cert.specs.Certificates.{PlainBoxLine, PlainCertificate}

-- the slots of a box line, each with its object
abbrev pub slots_of_line : PlainBoxLine → List (ℕ × ℕ)
slots_of_line line = map (λ slot. (line.object, slot)) (range_with_len line.first (line.last + 1 - line.first))

-- the line tells of this object in this slot
abbrev pub is_line_of : ℕ → ℕ → PlainBoxLine → Bool
is_line_of object slot line = line.object == object && nat_le line.first slot && nat_le slot line.last

-- the box that is listed for an object in a slot
abbrev pub box_listed : List PlainBoxLine → ℕ → ℕ → Option PlainBox
box_listed lines slot object = option_map (λ line. line.area) (find (is_line_of object slot) lines)

-- those of all objects in a slot
abbrev pub boxes_listed : PlainCertificate → ℕ → List (Option PlainBox)
boxes_listed c slot = map (box_listed c.boxes slot) (range_with_len 0 c.objects)

-- the shells of all objects
abbrev pub shells_listed : PlainCertificate → List (Option Shell)
shells_listed c = map (λ line. line.shell) c.shells

-- a pair is a candidate in a slot: its listed shells are not parted, and its listed boxes touch
unfoldable pub is_candidate_listed : PlainProblem → PlainCertificate → ℕ → ℕ → ℕ → Bool
is_candidate_listed case c = candidate_by case (shells_listed c) (boxes_listed c)
