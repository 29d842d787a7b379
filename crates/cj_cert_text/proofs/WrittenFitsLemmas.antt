-- The certificate that a run writes in version 1 fits.
use Rattle.std.proofs.Common.{◌≡◌, ℕ, suc, ◌+◌, ◌-◌, ◌*◌, ◌^◌, ◌<◌, ◌≤◌, Bool, true, List, [], ◌∷◌, length, map, filter, not, Option, Some, None, refl, sym, ap, ◌∙◌, subst, arith}
use Rattle.std.specs.Prelude.{◌&&◌, ℤ, pos, neg_ℤ, ◌+ℤ◌, ◌*ℤ◌, ◌≤ℤ◌, ◌<ℤ◌, int_le, int_lt, All, IfSome, IsSomeAnd, slice_get, slice_index_or}
use Rattle.std.specs.Int.{int_min, int_max}
use Rattle.std.specs.List.{enumerate_from, filter_map, flat_map, range_with_len}
use Rattle.std.proofs.lemmas.Bool.{and_parts, and_from}
use Rattle.std.proofs.lemmas.Int.{ints, clamps}
use Rattle.std.proofs.Math.Nat.{suc-mul}
use Rattle.std.proofs.lemmas.List.{length-append, length-map}
use Rattle.std.proofs.lemmas.List.Filters.{length-filter_both}
use Rattle.std.proofs.lemmas.List.FromFn.{length-enumerate_from, length-range_with_len}
use Rattle.std.proofs.lemmas.Option.{slice_get_within}
use Rattle.cj_interval.specs.Spans.{greatest, least}
use Rattle.cj_interval.proofs.IntegerLemmas.{le_trans_ℤ}
use Rattle.cj_interval.proofs.ListLemmas.{Each, Each-weaker, Each-always, Each-both, Each-map, Each-flat_map, Each-range, All-from_each, each_at, each_from_All, each_from_map}
use Rattle.cj_interval.proofs.PassingLemmas.{least_upto}
use Rattle.cj_interval.proofs.RangeLemmas.{Each-numbered}
use Rattle.cj_interval.proofs.RoundingLemmas.{le-greatest, least-le}
use Rattle.cj_base.specs.Ticks.{IsTick}
use Rattle.cj_formats.specs.declared.cert_version.CertVersion.{CertVersion}
use Rattle.cj_formats.specs.declared.cert_version.CertVersion.TheVariants.{One}
use Rattle.cj_formats.specs.Versions.{most_objects}
use Rattle.cj_track.specs.PlainTracks.{PlainTrack}
use Rattle.cj_case.specs.CaseLimits.{MAX_SIZE}
use Rattle.cj_case.specs.PlainProblems.{PlainProblem}
use Rattle.cj_case.specs.Cells.{PlainCell}
use Rattle.cj_hermite.specs.Roots.{roots_of, slots_of}
use Rattle.cj_case.specs.Slots.{slot_first, slot_last, slot_count}
use Rattle.cj_hermite.proofs.RootLemmas.{IsRootOf, Each-roots}
use Rattle.cj_case.specs.declared.axis_box.AxisBox.{AxisBox}
use Rattle.cj_case.specs.declared.shells.Shell.{Shell}
use Rattle.cj_bezier.specs.Gaps.{gap_terms, product_high, product_low, value_at}
use Rattle.cj_bezier.specs.Hulls.{Ends, PlainHull}
use Rattle.cj_case.specs.Leaves.{PlainLeaf}
use Rattle.cj_bezier.specs.Parts.{hulls_of}
use Rattle.cj_bezier.specs.Shells.{MAX_RADIUS, is_outer, shell_of, shell_round}
use Rattle.cj_bezier.specs.SlotBoxes.{IsAtMostEach, IsAtLeastEach, box_of, reaches_round}
use Rattle.cj_case.specs.Boxes.{PlainBox, Reach}
use Rattle.cj_bezier.specs.Tiles.{IsLeaf}
use Rattle.cj_bezier.proofs.BoxRoundLemmas.{IsWithinReaches, box_of_parts, within_box}
use Rattle.cj_bezier.proofs.HullListLemmas.{have_parts, no_state, of_each_hull}
use Rattle.cj_bezier.proofs.ShellLemmas.{inner-le_outer}
use Rattle.cj_cert.specs.declared.cert_lines.ShellLine.{ShellLine}
use Rattle.cj_cert.specs.declared.cert_lines.SizeOfLine.{SizeOfLine}
use Rattle.cj_cert.specs.Accepted.{Accepted, AreBoxes, AreShells, AreSizes, IsShellOver, IsSupported, ShowsRadii, TileRoots, has_state_in, slots_with_states}
use Rattle.cj_cert.specs.Certificates.{PlainBoxLine}
use Rattle.cj_cert.specs.Listed.{is_candidate_listed, slots_of_line}
use Rattle.cj_cert.specs.Reaches.{AllStayNear, IsAxisNear, IsHullNear, StaysNear}
use Rattle.cj_cert.specs.Written.{box_in, box_lines, leaves_in_order, line_in_slot, line_of_box, shell_line, written}
use Rattle.cj_cert.proofs.TiledLemmas.{each_tiled}
use Rattle.cj_cert_text.specs.Fits.{Fits, FitsBox, FitsCell, FitsShell, FitsSize}
use Rattle.cj_cert_text.specs.Lines.{is_coordinate, is_reach}

-- ---- reaches

pub record IsCoordinate (z : ℤ) : Type 0 where
  pub low : neg_ℤ (pos (2 ^ 63)) ≤ℤ z
  pub high : z <ℤ pos (2 ^ 63)

coordinate_parts : (z : ℤ) → is_coordinate z ≡ true → IsCoordinate z
coordinate_parts z is =
    let both = and_parts (int_le (neg_ℤ (pos (2 ^ 63))) z) (int_lt z (pos (2 ^ 63))) is in
    let low = both.0 in
    let high = both.1 in
    record { low = grind (arith, ints); high = grind (arith, ints) }

of_coordinate : (z : ℤ) → IsCoordinate z → is_coordinate z ≡ true
of_coordinate z is =
    and_from (int_le (neg_ℤ (pos (2 ^ 63))) z) (int_lt z (pos (2 ^ 63))) (let low = is.low in grind (arith, ints)) (let high = is.high in grind (arith, ints))

pub record IsTold (r : Reach) : Type 0 where
  pub least : IsCoordinate r.least
  pub most : IsCoordinate r.most
  pub ordered : r.least ≤ℤ r.most

pub told_reach : (r : Reach) → is_reach r.least r.most ≡ true → IsTold r
told_reach r is =
    let parts = and_parts (is_coordinate r.least && is_coordinate r.most) (int_le r.least r.most) is in
    let both = and_parts (is_coordinate r.least) (is_coordinate r.most) parts.0 in
    let ordered = parts.1 in
    record { least = coordinate_parts r.least both.0; most = coordinate_parts r.most both.1; ordered = grind (arith, ints) }

pub of_told : (r : Reach) → IsTold r → is_reach r.least r.most ≡ true
of_told r is =
    and_from (is_coordinate r.least && is_coordinate r.most) (int_le r.least r.most)
    (and_from (is_coordinate r.least) (is_coordinate r.most) (of_coordinate r.least is.least) (of_coordinate r.most is.most))
    (let ordered = is.ordered in grind (arith, ints))

pub round_told : (a b : Reach) → IsTold a → IsTold b → IsTold (record { least = int_min a.least b.least; most = int_max a.most b.most })
round_told a b x y =
    let al = x.least.low in
    let ah = x.least.high in
    let bl = y.least.low in
    let bh = y.least.high in
    let am = x.most.low in
    let an = x.most.high in
    let bm = y.most.low in
    let bn = y.most.high in
    let one = x.ordered in
    let two = y.ordered in
    record {
      least = record { low = omega (arith, ints, clamps); high = omega (arith, ints, clamps) };
      most = record { low = omega (arith, ints, clamps); high = omega (arith, ints, clamps) };
      ordered = omega (arith, ints, clamps);
    }

-- how far the box of a line reaches
pub record IsToldBox (area : PlainBox) : Type 0 where
  pub x : IsTold area.x
  pub y : IsTold area.y
  pub z : IsTold area.z

pub told_box : (most : ℕ) (b : PlainBoxLine) → FitsBox most b → IsToldBox b.area
told_box most b fits = record { x = told_reach b.area.x fits.x; y = told_reach b.area.y fits.y; z = told_reach b.area.z fits.z }

-- ---- the problem of a run

-- what is so of the problem of a run
pub record IsOfRun (case : PlainProblem) : Type 0 where
  pub few : (version : CertVersion) → length case.tracks ≤ most_objects version
  pub first : IsTick case.first
  pub last : IsTick case.last
  pub least : 10 ^ 9 ≤ case.threshold
  pub most : case.threshold ≤ 10 ^ 15
  pub short : slot_count case.first case.last < 2 ^ 32
  pub sizes : All (λ size. size ≤ MAX_SIZE) case.sizes
  pub sized : length case.sizes ≡ length case.tracks
  pub near : AllStayNear case

-- ---- the shells that a run writes

product_ordered : (e : Ends) (i j : ℕ) → product_low e i j ≤ℤ product_high e i j
product_ordered e i j =
    let a = value_at e.low i *ℤ value_at e.low j in
    let b = value_at e.low i *ℤ value_at e.high j in
    let c = value_at e.high i *ℤ value_at e.low j in
    let d = value_at e.high i *ℤ value_at e.high j in
    le_trans_ℤ (least a b c d) a (greatest a b c d) (least-le a b c d).0 (le-greatest a b c d).0

sums_ordered : (a b c d e f : ℤ) → a ≤ℤ d → b ≤ℤ e → c ≤ℤ f → (a +ℤ b +ℤ c) ≤ℤ (d +ℤ e +ℤ f)
sums_ordered a b c d e f x y z = omega (arith, ints)

gap_ordered : (h : PlainHull) → slice_index_or (gap_terms h).low 0 (pos 0) ≤ℤ slice_index_or (gap_terms h).high 0 (pos 0)
unfolding gap_terms
gap_ordered h = sums_ordered _ _ _ _ _ _ (product_ordered h.x 0 0) (product_ordered h.y 0 0) (product_ordered h.z 0 0)

radii_ordered : (e : PlainTrack) (from to : ℕ) (shell : Shell) → IsShellOver e from to (Some shell) → shell.lo ≤ shell.hi
radii_ordered e from to shell over = go (hulls_of e from to) refl (each_from_All (ShowsRadii shell) (hulls_of e from to) over.1)
  where
    go : (hs : List PlainHull) → hulls_of e from to ≡ hs → Each (ShowsRadii shell) hs → shell.lo ≤ shell.hi
    go [] empty shown = absurd (over.0 (no_state e from to empty))
    go (h ∷ hs) same shown = inner-le_outer (gap_terms h) shell.lo shell.hi (gap_ordered h) shown.0.inner shown.0.outer

-- its outer radius is in the range of radii
abbrev HasLowTop : Option Shell → Type 0
HasLowTop o = IfSome o (λ shell. shell.hi ≤ MAX_RADIUS)

round_low : (hs : List PlainHull) → HasLowTop (shell_round hs)
unfolding shell_round
round_low [] = tt
round_low (h ∷ hs) = least_upto MAX_RADIUS 0 (is_outer (h ∷ hs))

pub shells_low : (case : PlainProblem) → Each (λ line. HasLowTop line.shell) (map (shell_line case) (enumerate_from 0 case.tracks))
shells_low case =
    Each-map (λ (line : ShellLine). HasLowTop line.shell) (shell_line case) (enumerate_from 0 case.tracks)
    (Each-always (λ object. HasLowTop (shell_of object.1 case.first case.last)) (λ object. round_low (hulls_of object.1 case.first case.last)) (enumerate_from 0 case.tracks))

shell_fits : (most : ℕ) (case : PlainProblem) (line : ShellLine) → line.object < most → IsSomeAnd (slice_get case.tracks line.object) (λ e. IsShellOver e case.first case.last line.shell) → HasLowTop line.shell
    → FitsShell most line
shell_fits most case line object over low = record { object = object; radii = radii (slice_get case.tracks line.object) line.shell over low }
  where
    radii : (o : Option PlainTrack) (shell : Option Shell) → IsSomeAnd o (λ e. IsShellOver e case.first case.last shell) → HasLowTop shell → IfSome shell (λ r. r.lo ≤ r.hi × r.hi ≤ MAX_RADIUS)
    radii o None over low = tt
    radii None (Some r) over low = absurd over
    radii (Some e) (Some r) over low = (radii_ordered e case.first case.last r over, low)

-- each line is of an object
objects_in : (n : ℕ) (lines : List ShellLine) → map (λ line. line.object) lines ≡ range_with_len 0 n → Each (λ line. line.object < n) lines
objects_in n lines same =
    each_from_map (λ k. k < n) (λ (line : ShellLine). line.object) lines
    (subst (λ (ks : List ℕ). Each (λ k. k < n) ks) (sym same) (Each-range (λ k. k < n) 0 n (λ k low high. omega arith)))

pub shells_fit : (most : ℕ) (case : PlainProblem) (lines : List ShellLine) → length case.tracks ≤ most → AreShells case lines → Each (λ line. HasLowTop line.shell) lines → Each (FitsShell most) lines
shells_fit most case lines few are low =
    let Over = λ (line : ShellLine). IsSomeAnd (slice_get case.tracks line.object) (λ e. IsShellOver e case.first case.last line.shell) in
    Each-weaker (λ line. (line.object < length case.tracks × Over line) × HasLowTop line.shell) (FitsShell most)
    (λ line all. let object = all.0.0 in shell_fits most case line (omega arith) all.0.1 all.1) lines
    (Each-both (λ line. line.object < length case.tracks × Over line) (λ line. HasLowTop line.shell) lines
    (Each-both (λ line. line.object < length case.tracks) Over lines (objects_in (length case.tracks) lines are.objects) (each_from_All Over lines are.hold)) low)

-- ---- the boxes that a run writes

-- a span along an axis between ends that lie within a million kilometres
near_told : (r : Reach) → neg_ℤ (pos MAX_RADIUS) ≤ℤ r.least → r.least ≤ℤ r.most → r.most ≤ℤ pos MAX_RADIUS → IsTold r
near_told r low ordered high = record {
  least = record { low = omega (arith, ints); high = omega (arith, ints) };
  most = record { low = omega (arith, ints); high = omega (arith, ints) };
  ordered = ordered;
}

axis_ordered : (r : Reach) (e : Ends) → IsAxisNear e → IsAtMostEach r.least e.low × IsAtLeastEach r.most e.high → r.least ≤ℤ r.most
axis_ordered r e near within = let low = within.0.k0 in let own = near.ordered in let high = within.1.k0 in omega (arith, ints)

record AreOrdered (r : PlainBox) : Type 0 where
  x : r.x.least ≤ℤ r.x.most
  y : r.y.least ≤ℤ r.y.most
  z : r.z.least ≤ℤ r.z.most

box_ordered : (e : PlainTrack) (from to : ℕ) (r : PlainBox) → StaysNear e → box_of e from to ≡ Some r → AreOrdered r
unfolding reaches_round
box_ordered e from to r near is = go (hulls_of e from to) is (within_box e from to r is) (each_from_All IsHullNear (hulls_of e from to) (near.hulls from to))
  where
    go : (hs : List PlainHull) → reaches_round hs ≡ Some r → Each (IsWithinReaches r) hs → Each IsHullNear hs → AreOrdered r
    go [] none within near = absurd cc
    go (h ∷ hs) some within near = record {
      x = axis_ordered r.x h.x near.0.x within.0.x;
      y = axis_ordered r.y h.y near.0.y within.0.y;
      z = axis_ordered r.z h.z near.0.z within.0.z;
    }

own_box_told : (e : PlainTrack) (from to : ℕ) (r : PlainBox) → StaysNear e → box_of e from to ≡ Some r → IsToldBox r
own_box_told e from to r near is =
    let ordered = box_ordered e from to r near is in
    let box : AxisBox = record {
      least = record { x = r.x.least; y = r.y.least; z = r.z.least };
      most = record { x = r.x.most; y = r.y.most; z = r.z.most };
      x_ordered = ordered.x;
      y_ordered = ordered.y;
      z_ordered = ordered.z;
    } in
    let each = each_from_All IsHullNear (hulls_of e from to) (near.hulls from to) in
    let extent = box_of_parts e from to box (have_parts e from to (near.time from to)) is in
    let on = λ (P : PlainHull → Type 0) (f : (h : PlainHull) → IsHullNear h → P h). of_each_hull e from to P (Each-weaker IsHullNear P f (hulls_of e from to) each) in
    record {
      x = near_told r.x (extent.x.greatest _ (on (λ h. IsAtMostEach (neg_ℤ (pos MAX_RADIUS)) h.x.low) (λ h is. is.x.low))) ordered.x
          (extent.x.smallest _ (on (λ h. IsAtLeastEach (pos MAX_RADIUS) h.x.high) (λ h is. is.x.high)));
      y = near_told r.y (extent.y.greatest _ (on (λ h. IsAtMostEach (neg_ℤ (pos MAX_RADIUS)) h.y.low) (λ h is. is.y.low))) ordered.y
          (extent.y.smallest _ (on (λ h. IsAtLeastEach (pos MAX_RADIUS) h.y.high) (λ h is. is.y.high)));
      z = near_told r.z (extent.z.greatest _ (on (λ h. IsAtMostEach (neg_ℤ (pos MAX_RADIUS)) h.z.low) (λ h is. is.z.low))) ordered.z
          (extent.z.smallest _ (on (λ h. IsAtLeastEach (pos MAX_RADIUS) h.z.high) (λ h is. is.z.high)));
    }

-- a line of one slot
abbrev FitsOwn : PlainBoxLine → Type 0
FitsOwn b = FitsBox (most_objects One) b × (b.first ≡ b.last)

own_fit : (case : PlainProblem) (object : ℕ × PlainTrack) → object.0 < most_objects One → StaysNear object.1 → (slots : List ℕ) → Each (λ k. k < 2 ^ 32) slots
    → Each FitsOwn (filter_map (line_in_slot case object) slots)
own_fit case object exists near [] small = tt
own_fit case object exists near (k ∷ slots) small = go (box_in case object.1 k) refl (own_fit case object exists near slots small.1)
  where
    go : (o : Option PlainBox) → box_in case object.1 k ≡ o → Each FitsOwn (filter_map (line_in_slot case object) slots) → Each FitsOwn (filter_map (line_in_slot case object) (k ∷ slots))
    go None is rest = rw is rest
    go (Some area) is rest =
        let told = own_box_told object.1 (slot_first case.first k) (slot_last case.first case.last k) area near is in
        let fits : FitsOwn (line_of_box object.0 k area) = (
          record {
            object = exists;
            some = omega arith;
            last = small.0;
            x = of_told area.x told.x;
            y = of_told area.y told.y;
            z = of_told area.z told.z;
          },
          refl,
        ) in
        let all : Each FitsOwn (line_of_box object.0 k area ∷ filter_map (line_in_slot case object) slots) = (fits, rest) in
        rw is all

boxes_fit : (case : PlainProblem) → IsOfRun case → Each FitsOwn (flat_map (box_lines case) (enumerate_from 0 case.tracks))
boxes_fit case run =
    Each-flat_map FitsOwn (box_lines case) (enumerate_from 0 case.tracks)
    (Each-numbered (λ object. Each FitsOwn (box_lines case object)) case.tracks (λ i e is.
    let lt = slice_get_within case.tracks i e is in
    let few = run.few One in
    own_fit case (i, e) (omega arith) (each_at StaysNear case.tracks i e (each_from_All StaysNear case.tracks run.near) is) (slots_of case)
    (Each-range (λ k. k < 2 ^ 32) 0 (slot_count case.first case.last) (λ k low high. let short = run.short in omega arith))))

-- ---- the cells that a run writes

cells_fit : (case : PlainProblem) (candidate : ℕ → ℕ → ℕ → Bool) (cells : List PlainLeaf) → IsOfRun case → TileRoots (IsSupported case) (roots_of candidate case) cells → Each (FitsCell (most_objects One)) cells
cells_fit case candidate cells run tile = each_tiled (IsSupported case) (FitsCell (most_objects One)) (IsRootOf case) law (roots_of candidate case) cells tile (Each-roots candidate case)
  where
    law : (r : PlainCell) (s : PlainLeaf) → IsRootOf case r → IsLeaf (IsSupported case) r.a r.b r.first r.last s → FitsCell (most_objects One) s
    law r s is leaf =
        let few = run.few One in
        let a = leaf.first_object in
        let b = leaf.second_object in
        let up = is.ordered in
        let exists = is.exists in
        let from = leaf.from in
        let some = leaf.some in
        let to = leaf.to in
        let low = is.root.from in
        let high = is.root.to in
        let first = run.first.0 in
        let last = run.last.1 in
        record { ordered = omega arith; objects = omega arith; first = (omega arith, omega arith); last = (omega arith, omega arith); some = some }

-- ---- the certificate that a run writes

pub written_fits : (case : PlainProblem) → IsOfRun case → Accepted case (written case) → Fits (written case)
unfolding written
written_fits case run accepted =
    let boxes = boxes_fit case run in
    let lines = flat_map (box_lines case) (enumerate_from 0 case.tracks) in
    let least = run.least in
    let most = run.most in
    record {
      version = (refl, All-from_each (λ b. b.first ≡ b.last) lines (Each-weaker FitsOwn (λ b. b.first ≡ b.last) (λ b own. own.1) lines boxes));
      first = run.first;
      last = run.last;
      some = omega arith;
      threshold = omega arith;
      objects = run.few One;
      sizes = All-from_each (FitsSize (most_objects One)) [] tt;
      shells =
          All-from_each (FitsShell (most_objects One)) (map (shell_line case) (enumerate_from 0 case.tracks))
          (shells_fit (most_objects One) case (map (shell_line case) (enumerate_from 0 case.tracks)) (run.few One) accepted.shells (shells_low case));
      boxes = All-from_each (FitsBox (most_objects One)) lines (Each-weaker FitsOwn (FitsBox (most_objects One)) (λ b own. own.0) lines boxes);
      cells = All-from_each (FitsCell (most_objects One)) (leaves_in_order case) (cells_fit case (is_candidate_listed case (written case)) (leaves_in_order case) run accepted.cells);
    }

-- ---- how many lines there are

-- lists of so many elements at most, one behind another
joined_length : {X Y : Type 0} (f : X → List Y) (most : ℕ) → ((x : X) → length (f x) ≤ most) → (xs : List X) → length (flat_map f xs) ≤ length xs * most
joined_length f most each [] = omega arith
joined_length f most each (x ∷ xs) =
    let own = each x in
    let rest = joined_length f most each xs in
    let whole = length-append (f x) (flat_map f xs) in
    let product : suc (length xs) * most ≡ length xs * most + most = suc-mul (length xs) most in
    omega arith

slots_upto : (case : PlainProblem) → length (slots_with_states case) ≤ length case.tracks * slot_count case.first case.last
slots_upto case =
    let f = λ (object : ℕ × PlainTrack). map (λ (slot : ℕ). let p : ℕ × ℕ = (object.0, slot) in p) (filter (has_state_in case object.1) (slots_of case)) in
    let most = joined_length f (slot_count case.first case.last) (λ object.
    let one = length-map (filter (has_state_in case object.1) (slots_of case)) (λ (slot : ℕ). let p : ℕ × ℕ = (object.0, slot) in p) in
    let two = length-filter_both (has_state_in case object.1) (λ slot. not (has_state_in case object.1 slot)) (λ slot. refl) (slots_of case) in
    let three = length-range_with_len 0 (slot_count case.first case.last) in
    omega arith) (enumerate_from 0 case.tracks) in
    subst (λ (n : ℕ). length (flat_map f (enumerate_from 0 case.tracks)) ≤ n * slot_count case.first case.last) (length-enumerate_from 0 case.tracks) most

-- each line is of one slot at least
lines_upto : (lines : List PlainBoxLine) → Each (λ line. line.first ≤ line.last) lines → length lines ≤ length (flat_map slots_of_line lines)
lines_upto [] some = omega arith
lines_upto (b ∷ lines) some =
    let own = some.0 in
    let one = length-map (range_with_len b.first (b.last + 1 - b.first)) (λ (k : ℕ). let p : ℕ × ℕ = (b.object, k) in p) in
    let two = length-range_with_len b.first (b.last + 1 - b.first) in
    let whole = length-append (slots_of_line b) (flat_map slots_of_line lines) in
    let rest = lines_upto lines some.1 in
    omega arith

pub few_boxes : (case : PlainProblem) (lines : List PlainBoxLine) → AreBoxes case lines → length lines ≤ length case.tracks * slot_count case.first case.last
few_boxes case lines are =
    let least = lines_upto lines (each_from_All (λ line. line.first ≤ line.last) lines are.some) in
    let same = ap length are.slots in
    let most = slots_upto case in
    omega arith

pub few_shells : (case : PlainProblem) (lines : List ShellLine) → AreShells case lines → length lines ≡ length case.tracks
few_shells case lines are =
    sym (length-map lines (λ (line : ShellLine). line.object)) ∙ ap length are.objects ∙ length-range_with_len 0 (length case.tracks)

pub few_sizes : (case : PlainProblem) (lines : List SizeOfLine) → AreSizes case lines → length lines ≡ length case.sizes
few_sizes case lines are =
    sym (length-map lines (λ (line : SizeOfLine). let p : ℕ × ℕ = (line.object, line.size) in p)) ∙ ap length are ∙ length-enumerate_from 0 case.sizes
