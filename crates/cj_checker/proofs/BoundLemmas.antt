-- Bounds of hulls: what is computed of a hull, and the test of it.
use Rattle.std.proofs.Common.{◌≡◌, ◌*◌, ◌&&◌, List, [], ◌∷◌, length, refl, arith}
use Rattle.std.specs.Prelude.{◌≤ℤ◌, nat_le}
use Rattle.std.specs.Bool.{Decides}
use Rattle.std.specs.List.{All, list_all}
use Rattle.std.proofs.lemmas.Bool.Decides.{Decides-and, Decides-by_and, same_from_decides}
use Rattle.cj_interval.proofs.IntegerLemmas.{decides_le}
use Rattle.cj_track.specs.declared.vec3.Vec3.{Vec3}
use Rattle.cj_hermite.specs.declared.box3.Box3.{Box3}
use Rattle.cj_case.specs.declared.axis_box.AxisBox.{AxisBox}
use Rattle.cj_case.specs.declared.shells.Shell.{Shell}
use Rattle.cj_bezier.specs.Gaps.{gap_terms}
use Rattle.cj_bezier.specs.Hulls.{PlainHull, axes_of}
use Rattle.cj_case.specs.Boxes.{plain_box}
use Rattle.cj_bezier.specs.Squares.{least_square, greatest_square}
use Rattle.cj_bezier.proofs.BoxLemmas.{all_four}
use Rattle.cj_bezier.proofs.ShellLemmas.{square_of_inner, inner_of_square, square_of_outer, outer_of_square}
use Rattle.cj_cert.specs.Accepted.{ShowsRadii, IsHullIn}
use Rattle.cj_checker.specs.Bounds.{is_above, is_below, is_point_in}
use Rattle.cj_checker.specs.Tests.{shows_radii, is_hull_in}
use Rattle.cj_checker.proofs.TestLemmas.{decides_same, decides_nat_le, decides_radii, decides_hull_in}

-- ---- radii

-- the squares of both radii against the squares that a gap shows
pub by_squares : (shell : Shell) (h : PlainHull) → (nat_le (shell.lo * shell.lo) (least_square (gap_terms h)) && nat_le (greatest_square (gap_terms h)) (shell.hi * shell.hi)) ≡ shows_radii shell h
by_squares shell h =
    let g = gap_terms h in
    let inner = nat_le (shell.lo * shell.lo) (least_square g) in
    let outer = nat_le (greatest_square g) (shell.hi * shell.hi) in
    same_from_decides {P = ShowsRadii shell h} (inner && outer) (shows_radii shell h)
    (decides_same (inner && outer)
    (λ both. record { inner = inner_of_square g shell.lo both.0; outer = outer_of_square g shell.hi both.1 })
    (λ shows. (square_of_inner g shell.lo shows.inner, square_of_outer g shell.hi shows.outer))
    (Decides-and inner outer (decides_nat_le (shell.lo * shell.lo) (least_square g)) (decides_nat_le (greatest_square g) (shell.hi * shell.hi))))
    (decides_radii shell h)

-- ---- boxes

record IsAbove (least : Vec3) (p : Box3) : Type 0 where
  x : least.x ≤ℤ p.x.lo
  y : least.y ≤ℤ p.y.lo
  z : least.z ≤ℤ p.z.lo

record IsBelow (most : Vec3) (p : Box3) : Type 0 where
  x : p.x.hi ≤ℤ most.x
  y : p.y.hi ≤ℤ most.y
  z : p.z.hi ≤ℤ most.z

record IsPointIn (area : AxisBox) (p : Box3) : Type 0 where
  low : IsAbove area.least p
  high : IsBelow area.most p

decides_above : (least : Vec3) (p : Box3) → Decides (is_above least p) (IsAbove least p)
decides_above least p =
    decides_same (is_above least p) (λ h. record { x = h.0.0; y = h.0.1; z = h.1 }) (λ is. ((is.x, is.y), is.z))
    (Decides-and _ _ (Decides-and _ _ (decides_le least.x p.x.lo) (decides_le least.y p.y.lo)) (decides_le least.z p.z.lo))

decides_below : (most : Vec3) (p : Box3) → Decides (is_below most p) (IsBelow most p)
decides_below most p =
    decides_same (is_below most p) (λ h. record { x = h.0.0; y = h.0.1; z = h.1 }) (λ is. ((is.x, is.y), is.z))
    (Decides-and _ _ (Decides-and _ _ (decides_le p.x.hi most.x) (decides_le p.y.hi most.y)) (decides_le p.z.hi most.z))

decides_point : (area : AxisBox) (p : Box3) → Decides (is_point_in area p) (IsPointIn area p)
decides_point area p =
    decides_same (is_point_in area p) (λ h. record { low = h.0; high = h.1 }) (λ is. (is.low, is.high)) (Decides-and _ _ (decides_above area.least p) (decides_below area.most p))

four_points : (area : AxisBox) (a b c d : Box3) → list_all (is_point_in area) (a ∷ b ∷ c ∷ d ∷ []) ≡ is_hull_in (plain_box area) (axes_of (a ∷ b ∷ c ∷ d ∷ []))
unfolding axes_of
four_points area a b c d =
    let points = a ∷ b ∷ c ∷ d ∷ [] in
    same_from_decides {P = IsHullIn (plain_box area) (axes_of points)} (list_all (is_point_in area) points) (is_hull_in (plain_box area) (axes_of points))
    (decides_same (list_all (is_point_in area) points)
    (λ (all : All (IsPointIn area) points).
    let pa = all 0 a (omega arith) in
    let pb = all 1 b (omega arith) in
    let pc = all 2 c (omega arith) in
    let pd = all 3 d (omega arith) in
    record {
      x_low = record { k0 = pa.low.x; k1 = pb.low.x; k2 = pc.low.x; k3 = pd.low.x };
      x_high = record { k0 = pa.high.x; k1 = pb.high.x; k2 = pc.high.x; k3 = pd.high.x };
      y_low = record { k0 = pa.low.y; k1 = pb.low.y; k2 = pc.low.y; k3 = pd.low.y };
      y_high = record { k0 = pa.high.y; k1 = pb.high.y; k2 = pc.high.y; k3 = pd.high.y };
      z_low = record { k0 = pa.low.z; k1 = pb.low.z; k2 = pc.low.z; k3 = pd.low.z };
      z_high = record { k0 = pa.high.z; k1 = pb.high.z; k2 = pc.high.z; k3 = pd.high.z };
    })
    (λ (is : IsHullIn (plain_box area) (axes_of points)).
    all_four (IsPointIn area) a b c d
    (record { low = record { x = is.x_low.k0; y = is.y_low.k0; z = is.z_low.k0 }; high = record { x = is.x_high.k0; y = is.y_high.k0; z = is.z_high.k0 } })
    (record { low = record { x = is.x_low.k1; y = is.y_low.k1; z = is.z_low.k1 }; high = record { x = is.x_high.k1; y = is.y_high.k1; z = is.z_high.k1 } })
    (record { low = record { x = is.x_low.k2; y = is.y_low.k2; z = is.z_low.k2 }; high = record { x = is.x_high.k2; y = is.y_high.k2; z = is.z_high.k2 } })
    (record { low = record { x = is.x_low.k3; y = is.y_low.k3; z = is.z_low.k3 }; high = record { x = is.x_high.k3; y = is.y_high.k3; z = is.z_high.k3 } }))
    (Decides-by_and (is_point_in area) (IsPointIn area) (list_all (is_point_in area)) (decides_point area) refl (λ _ _. refl) points))
    (decides_hull_in (plain_box area) (axes_of points))

-- a hull lies in a box exactly where each of its points does
pub by_points : (area : AxisBox) (bs : List Box3) → length bs ≡ 4 → list_all (is_point_in area) bs ≡ is_hull_in (plain_box area) (axes_of bs)
by_points area [] four = absurd (omega arith)
by_points area (a ∷ []) four = absurd (omega arith)
by_points area (a ∷ b ∷ []) four = absurd (omega arith)
by_points area (a ∷ b ∷ c ∷ []) four = absurd (omega arith)
by_points area (a ∷ b ∷ c ∷ d ∷ []) four = four_points area a b c d
by_points area (a ∷ b ∷ c ∷ d ∷ e ∷ bs) four = absurd (omega arith)
