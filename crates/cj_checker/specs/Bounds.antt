-- Control points and boxes.
use Rattle.std.specs.Prelude.{Bool, ◌&&◌, int_le}
use Rattle.cj_hermite.specs.declared.box3.Box3.{Box3}
use Rattle.cj_track.specs.declared.vec3.Vec3.{Vec3}
use Rattle.cj_case.specs.declared.axis_box.AxisBox.{AxisBox}

-- ---- control points

-- a control point, which is enclosed on each axis, lies above a place
abbrev pub is_above : Vec3 → Box3 → Bool
is_above least point = int_le least.x point.x.lo && int_le least.y point.y.lo && int_le least.z point.z.lo

-- it lies below a place
abbrev pub is_below : Vec3 → Box3 → Bool
is_below most point = int_le point.x.hi most.x && int_le point.y.hi most.y && int_le point.z.hi most.z

-- it lies in a box
abbrev pub is_point_in : AxisBox → Box3 → Bool
is_point_in area point = is_above area.least point && is_below area.most point
