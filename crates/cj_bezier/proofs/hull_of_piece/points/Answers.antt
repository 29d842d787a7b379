use Rattle.std.proofs.Common.{◌≡◌, ℕ, ◌<◌, List, length, get_or, ap, arith, rules}
use Rattle.std.proofs.lemmas.Int.{ints}
use Rattle.std.specs.Prelude.{ℤ}
use Rattle.std.specs.List.{All}
use Rattle.cj_interval.specs.declared.span.Span.{Span}
use Rattle.cj_interval.specs.Sizes.{IsWithin}
use Rattle.cj_hermite.specs.declared.box3.Box3.{Box3}
use Rattle.cj_hermite.specs.Boxes.{IsBoxWithin, IsBoxNarrow}
use Rattle.cj_hermite.specs.Limits.{REACH}
use Rattle.cj_bezier.specs.Hulls.{axes_of, ends_of}
use Rattle.cj_bezier.specs.Sizes.{HULL_REACH, HasEndsWithin, IsNarrow}
use Rattle.cj_bezier.proofs.BoxLemmas.{all_four, axes_same, listed_four}
use Rattle.cj_bezier.proofs.hull_of_piece.points.Goals as goal

box_within : (xs ys zs : List Span) (k : ℕ) (x y z : Span) → length xs ≡ 4 → length ys ≡ 4 → length zs ≡ 4 → k < 4
    → All (HasEndsWithin REACH) xs → All (HasEndsWithin REACH) ys → All (HasEndsWithin REACH) zs
    → IsBoxWithin REACH (record { x = get_or xs k x; y = get_or ys k y; z = get_or zs k z })
box_within xs ys zs k x y z nx ny nz lt p q r = record { x = p k x (rw nx lt); y = q k y (rw ny lt); z = r k z (rw nz lt) }

box_narrow : (xs ys zs : List Span) (k : ℕ) (x y z : Span) → length xs ≡ 4 → length ys ≡ 4 → length zs ≡ 4 → k < 4
    → All (IsNarrow 3) xs → All (IsNarrow 3) ys → All (IsNarrow 3) zs → IsBoxNarrow 3 (record { x = get_or xs k x; y = get_or ys k y; z = get_or zs k z })
box_narrow xs ys zs k x y z nx ny nz lt p q r = record { x = (p k x (rw nx lt)).width; y = (q k y (rw ny lt)).width; z = (r k z (rw nz lt)).width }

wider : (z : ℤ) → IsWithin REACH z → IsWithin HULL_REACH z
wider z w = omega (arith, ints)

wider_box : (b : Box3) → IsBoxWithin REACH b → IsBoxWithin HULL_REACH b
wider_box b w = record {
  x = record { low = wider b.x.lo w.x.low; high = wider b.x.hi w.x.high };
  y = record { low = wider b.y.lo w.y.low; high = wider b.y.hi w.y.high };
  z = record { low = wider b.z.lo w.z.low; high = wider b.z.hi w.z.high };
}

pub returns-clause-within : goal.returns-clause-within
returns-clause-within c =
    let xs = c.args.x.now in
    let ys = c.args.y.now in
    let zs = c.args.z.now in
    let nx : length xs ≡ 4 = search rules in
    let ny : length ys ≡ 4 = search rules in
    let nz : length zs ≡ 4 = search rules in
    all_four (IsBoxWithin REACH) _ _ _ _
    (box_within xs ys zs 0 c.index-x-0.result c.index-y-0.result c.index-z-0.result nx ny nz (omega arith) c.requires.x_within c.requires.y_within
    c.requires.z_within)
    (box_within xs ys zs 1 c.index-x-1.result c.index-y-1.result c.index-z-1.result nx ny nz (omega arith) c.requires.x_within c.requires.y_within
    c.requires.z_within)
    (box_within xs ys zs 2 c.index-x-2.result c.index-y-2.result c.index-z-2.result nx ny nz (omega arith) c.requires.x_within c.requires.y_within
    c.requires.z_within)
    (box_within xs ys zs 3 c.index-x-3.result c.index-y-3.result c.index-z-3.result nx ny nz (omega arith) c.requires.x_within c.requires.y_within
    c.requires.z_within)

pub returns-clause-narrow : goal.returns-clause-narrow
returns-clause-narrow c =
    let xs = c.args.x.now in
    let ys = c.args.y.now in
    let zs = c.args.z.now in
    let nx : length xs ≡ 4 = search rules in
    let ny : length ys ≡ 4 = search rules in
    let nz : length zs ≡ 4 = search rules in
    all_four (IsBoxNarrow 3) _ _ _ _
    (box_narrow xs ys zs 0 c.index-x-0.result c.index-y-0.result c.index-z-0.result nx ny nz (omega arith) c.requires.x_narrow c.requires.y_narrow
    c.requires.z_narrow)
    (box_narrow xs ys zs 1 c.index-x-1.result c.index-y-1.result c.index-z-1.result nx ny nz (omega arith) c.requires.x_narrow c.requires.y_narrow
    c.requires.z_narrow)
    (box_narrow xs ys zs 2 c.index-x-2.result c.index-y-2.result c.index-z-2.result nx ny nz (omega arith) c.requires.x_narrow c.requires.y_narrow
    c.requires.z_narrow)
    (box_narrow xs ys zs 3 c.index-x-3.result c.index-y-3.result c.index-z-3.result nx ny nz (omega arith) c.requires.x_narrow c.requires.y_narrow
    c.requires.z_narrow)

pub invariant_of-result : goal.invariant_of-result
invariant_of-result c =
    let xs = c.args.x.now in
    let ys = c.args.y.now in
    let zs = c.args.z.now in
    let nx : length xs ≡ 4 = search rules in
    let ny : length ys ≡ 4 = search rules in
    let nz : length zs ≡ 4 = search rules in
    record {
      within = all_four (IsBoxWithin HULL_REACH) _ _ _ _
          (wider_box _ (box_within xs ys zs 0 c.index-x-0.result c.index-y-0.result c.index-z-0.result nx ny nz (omega arith) c.requires.x_within
          c.requires.y_within c.requires.z_within))
          (wider_box _ (box_within xs ys zs 1 c.index-x-1.result c.index-y-1.result c.index-z-1.result nx ny nz (omega arith) c.requires.x_within
          c.requires.y_within c.requires.z_within))
          (wider_box _ (box_within xs ys zs 2 c.index-x-2.result c.index-y-2.result c.index-z-2.result nx ny nz (omega arith) c.requires.x_within
          c.requires.y_within c.requires.z_within))
          (wider_box _ (box_within xs ys zs 3 c.index-x-3.result c.index-y-3.result c.index-z-3.result nx ny nz (omega arith) c.requires.x_within
          c.requires.y_within c.requires.z_within));
    }

pub returns-clause-value : goal.returns-clause-value
unfolding axes_of
returns-clause-value c =
    let nx : length c.args.x.now ≡ 4 = search rules in
    let ny : length c.args.y.now ≡ 4 = search rules in
    let nz : length c.args.z.now ≡ 4 = search rules in
    axes_same _ _ (ap ends_of (listed_four _ _ _ _ _ nx)) (ap ends_of (listed_four _ _ _ _ _ ny)) (ap ends_of (listed_four _ _ _ _ _ nz))
