-- The written certificate is accepted.
use Rattle.std.proofs.Common.{◌≡◌, ℕ, suc, ◌+◌, ◌-◌, ◌^◌, ◌<◌, ◌≤◌, Bool, true, false, cond, List, [], ◌∷◌, ◌++◌, length, map, filter, Option, Some, None, refl, sym, ap, ◌∙◌, subst, inl, arith}
use Rattle.std.specs.Prelude.{All, IsSomeAnd, is_some, option_map, slice_get}
use Rattle.std.specs.List.{enumerate_from, filter_map, find, flat_map, range_with_len}
use Rattle.std.proofs.lemmas.Bool.{true_from_ne_false}
use Rattle.std.proofs.lemmas.List.Concat.{flat_map-append}
use Rattle.std.proofs.lemmas.List.Folds.{list_any_none}
use Rattle.cj_interval.proofs.ListLemmas.{Each, Each-weaker, Each-both, Each-map, Each-flat_map, Each-range, Each-always, All-from_each, flat_map_alike}
use Rattle.cj_interval.proofs.RangeLemmas.{Each-numbered}
use Rattle.cj_track.specs.PlainTracks.{PlainTrack}
use Rattle.cj_hermite.specs.Interpolant.{Curve}
use Rattle.cj_case.specs.Pairs.{pairs_of}
use Rattle.cj_hermite.specs.Pieces.{piece_at}
use Rattle.cj_case.specs.PlainProblems.{PlainProblem, threshold_of}
use Rattle.cj_hermite.specs.ObjectsAtTicks.{curve_at, HaveCurves}
use Rattle.cj_case.specs.Cells.{PlainCell}
use Rattle.cj_hermite.specs.Roots.{roots_in, roots_of, slots_of}
use Rattle.cj_case.specs.Slots.{slot_first, slot_last, slot_count}
use Rattle.cj_hermite.proofs.CurveLemmas.{Curves, curves, curves_of, root_pieces}
use Rattle.cj_hermite.proofs.ObjectLemmas.{of_objects}
use Rattle.cj_hermite.proofs.RootLemmas.{IsRootOf, Each-roots}
use Rattle.cj_case.specs.declared.kind.Kind.{Kind}
use Rattle.cj_case.specs.declared.shells.Shell.{Shell}
use Rattle.cj_bezier.specs.Gaps.{gap_terms, hull_gap}
use Rattle.cj_bezier.specs.Halving.{leaves_between}
use Rattle.cj_bezier.specs.Hulls.{PlainHull}
use Rattle.cj_case.specs.Leaves.{PlainLeaf}
use Rattle.cj_bezier.specs.Candidates.{shells_of, boxes_in, is_candidate, candidate_by}
use Rattle.cj_bezier.specs.Parts.{hulls_of}
use Rattle.cj_bezier.specs.RootLeaves.{kind_between, leaves_of_root, leaves_of_roots}
use Rattle.cj_bezier.specs.Shells.{IsInner, IsOuter, MAX_RADIUS, greatest_to, least_from, is_inner, is_outer, shell_round, shell_of}
use Rattle.cj_case.specs.Boxes.{PlainBox}
use Rattle.cj_bezier.specs.SlotBoxes.{box_of}
use Rattle.cj_bezier.specs.Tiles.{IsLeaf, Tile}
use Rattle.cj_bezier.specs.Verdicts.{Supports, cell_verdict}
use Rattle.cj_bezier.proofs.BoxRoundLemmas.{IsWithinReaches, box_none, none_without, some_with, within_box}
use Rattle.cj_bezier.proofs.HalvingLemmas.{HasKind, tiles, Each-tile}
use Rattle.cj_bezier.proofs.HullListLemmas.{no_hulls, no_state}
use Rattle.cj_bezier.proofs.JudgeLemmas.{settled_over, supported_kind}
use Rattle.cj_bezier.proofs.LeafLemmas.{leaves_are}
use Rattle.cj_bezier.proofs.ShellRoundLemmas.{greatest_passes, least_passes, inner_test, test_inner, outer_test, test_outer}
use Rattle.cj_bezier.proofs.TestLemmas.{decides_supports}
use Rattle.cj_cert.specs.declared.cert_lines.ShellLine.{ShellLine}
use Rattle.cj_cert.specs.Accepted.{ShowsRadii, IsShellOver, AreShells, IsHullIn, has_state_in, HoldsHulls, AreBoxes, IsSupported, TileRoots, Accepted}
use Rattle.cj_cert.specs.Certificates.{PlainBoxLine}
use Rattle.cj_cert.specs.Listed.{slots_of_line, is_line_of, box_listed, boxes_listed, shells_listed, is_candidate_listed}
use Rattle.cj_cert.specs.Written.{shell_line, box_in, line_of_box, line_in_slot, box_lines, leaves_in_order, written}
use Rattle.cj_cert.proofs.ListedLemmas.{AreAllInTime, told_by, find_some, in_one_box, no_state as no_state_in_slot}
use Rattle.cj_cert.proofs.TiledLemmas.{TileEach, over_both}

-- each hull of each object in the window lies within a million kilometres of the origin
abbrev pub AreAllWithin : PlainProblem → Type 0
AreAllWithin case = (i : ℕ) (e : PlainTrack) → slice_get case.tracks i ≡ Some e → Each (λ h. IsOuter (gap_terms h) (10 ^ 18)) (hulls_of e case.first case.last)

-- ---- objects with their numbers

-- each object stands at its number
abbrev pub IsAtNumber : PlainProblem → ℕ × PlainTrack → Type 0
IsAtNumber case object = slice_get case.tracks object.0 ≡ Some object.1

pub numbered : (case : PlainProblem) → Each (IsAtNumber case) (enumerate_from 0 case.tracks)
numbered case = Each-numbered (IsAtNumber case) case.tracks (λ i e is. is)

-- ---- shells

shell_shown : (e : PlainTrack) (from to : ℕ) → Each (λ h. IsOuter (gap_terms h) (10 ^ 18)) (hulls_of e from to) → IsShellOver e from to (shell_of e from to)
unfolding shell_round
shell_shown e from to within = go (hulls_of e from to) refl within
  where
    go : (hs : List PlainHull) → hulls_of e from to ≡ hs → Each (λ h. IsOuter (gap_terms h) (10 ^ 18)) hs → IsShellOver e from to (shell_round hs)
    go [] empty within = no_state e from to empty
    go (h ∷ hs) same within =
        let lo = greatest_to MAX_RADIUS (is_inner (h ∷ hs)) in
        let hi = least_from MAX_RADIUS 0 (is_outer (h ∷ hs)) in
        let inner : Each (λ g. IsInner (gap_terms g) lo) (h ∷ hs) =
        test_inner (h ∷ hs) lo (greatest_passes MAX_RADIUS (is_inner (h ∷ hs)) (inner_test (h ∷ hs) 0 (Each-always (λ g. IsInner (gap_terms g) 0) (λ g. inl refl) (h ∷ hs)))) in
        let outer : Each (λ g. IsOuter (gap_terms g) hi) (h ∷ hs) = test_outer (h ∷ hs) hi (least_passes MAX_RADIUS 0 (is_outer (h ∷ hs)) (outer_test (h ∷ hs) (0 + MAX_RADIUS) within)) in
        let shell : Shell = record { lo = lo; hi = hi } in (
          λ none. let empty = no_hulls e from to none in let both : h ∷ hs ≡ [] = sym same ∙ empty in absurd cc,
          subst (λ (gs : List PlainHull). All (ShowsRadii shell) gs) (sym same)
              (All-from_each (ShowsRadii shell) (h ∷ hs)
              (Each-weaker (λ g. IsInner (gap_terms g) lo × IsOuter (gap_terms g) hi) (ShowsRadii shell) (λ g both. record { inner = both.0; outer = both.1 }) (h ∷ hs)
              (Each-both (λ g. IsInner (gap_terms g) lo) (λ g. IsOuter (gap_terms g) hi) (h ∷ hs) inner outer))),
        )

objects_in_order : (case : PlainProblem) (n : ℕ) (es : List PlainTrack) → map (λ line. line.object) (map (shell_line case) (enumerate_from n es)) ≡ range_with_len n (length es)
objects_in_order case n [] = refl
objects_in_order case n (e ∷ es) = ap (λ (ks : List ℕ). n ∷ ks) (objects_in_order case (n + 1) es)

pub are_shells : (case : PlainProblem) → AreAllWithin case → AreShells case (map (shell_line case) (enumerate_from 0 case.tracks))
are_shells case within = record {
  objects = objects_in_order case 0 case.tracks;
  hold =
      let P = λ (line : ShellLine). IsSomeAnd (slice_get case.tracks line.object) (λ e. IsShellOver e case.first case.last line.shell) in
      All-from_each P (map (shell_line case) (enumerate_from 0 case.tracks))
      (Each-map P (shell_line case) (enumerate_from 0 case.tracks)
      (Each-weaker (IsAtNumber case) (λ object. P (shell_line case object))
      (λ object at. subst (λ (o : Option PlainTrack). IsSomeAnd o (λ e. IsShellOver e case.first case.last (shell_of object.1 case.first case.last))) (sym at)
      (shell_shown object.1 case.first case.last (within object.0 object.1 at)))
      (enumerate_from 0 case.tracks) (numbered case)));
}

-- ---- boxes

-- a slot in which an object has a box is one in which it has a state
without_box : (case : PlainProblem) (e : PlainTrack) (slot : ℕ) → box_in case e slot ≡ None → has_state_in case e slot ≡ false
without_box case e slot none =
    let from = slot_first case.first slot in
    let to = slot_last case.first case.last slot in
    let empty = none_without e from to none in
    list_any_none (λ m. is_some (piece_at e m)) (range_with_len from (to + 1 - from))
    (All-from_each (λ m. is_some (piece_at e m) ≡ false) (range_with_len from (to + 1 - from))
    (Each-range (λ m. is_some (piece_at e m) ≡ false) from (to + 1 - from) (λ m low high. ap is_some (empty m low (omega arith)))))

with_box : (case : PlainProblem) (e : PlainTrack) (slot : ℕ) (area : PlainBox) → box_in case e slot ≡ Some area → has_state_in case e slot ≡ true
with_box case e slot area some =
    true_from_ne_false (has_state_in case e slot) (λ none. some_with e (slot_first case.first slot) (slot_last case.first case.last slot) area some (no_state_in_slot case e slot none))

slots_of_own : (object slot : ℕ) (area : PlainBox) → slots_of_line (line_of_box object slot area) ≡ (object, slot) ∷ []
slots_of_own object slot area = let one : slot + 1 - slot ≡ 1 = omega arith in ap (λ (n : ℕ). map (λ (k : ℕ). let p : ℕ × ℕ = (object, k) in p) (range_with_len slot n)) one

slots_in : (case : PlainProblem) (object : ℕ × PlainTrack) (slots : List ℕ)
    → flat_map slots_of_line (filter_map (line_in_slot case object) slots) ≡ map (λ (slot : ℕ). let p : ℕ × ℕ = (object.0, slot) in p) (filter (has_state_in case object.1) slots)
slots_in case object [] = refl
slots_in case object (k ∷ slots) = go (box_in case object.1 k) refl (slots_in case object slots)
  where
    go : (o : Option PlainBox) → box_in case object.1 k ≡ o
        → flat_map slots_of_line (filter_map (line_in_slot case object) slots) ≡ map (λ (slot : ℕ). let p : ℕ × ℕ = (object.0, slot) in p) (filter (has_state_in case object.1) slots)
        → flat_map slots_of_line (filter_map (line_in_slot case object) (k ∷ slots)) ≡ map (λ (slot : ℕ). let p : ℕ × ℕ = (object.0, slot) in p) (filter (has_state_in case object.1) (k ∷ slots))
    go None is rest = let fails = without_box case object.1 k is in rw (is, fails) rest
    go (Some area) is rest = let passes = with_box case object.1 k area is in rw (is, passes) (λ i. slots_of_own object.0 k area i ++ rest i)

slots_same : (case : PlainProblem) (objects : List (ℕ × PlainTrack))
    → flat_map slots_of_line (flat_map (box_lines case) objects)
    ≡ flat_map (λ object. map (λ (slot : ℕ). let p : ℕ × ℕ = (object.0, slot) in p) (filter (has_state_in case object.1) (slots_of case))) objects
slots_same case [] = refl
slots_same case (object ∷ objects) =
    flat_map-append slots_of_line (box_lines case object) (flat_map (box_lines case) objects)
    ∙ (let own = slots_in case object (slots_of case) in let rest = slots_same case objects in λ i. own i ++ rest i)

hulls_lie : (e : PlainTrack) (from to : ℕ) (area : PlainBox) → box_of e from to ≡ Some area → Each (IsHullIn area) (hulls_of e from to)
hulls_lie e from to area some =
    Each-weaker (IsWithinReaches area) (IsHullIn area)
    (λ h is. record { x_low = is.x.0; x_high = is.x.1; y_low = is.y.0; y_high = is.y.1; z_low = is.z.0; z_high = is.z.1 })
    (hulls_of e from to) (within_box e from to area some)

-- ---- the lines of boxes

-- a line of one slot, with the box of its object there
record IsOwnLine (case : PlainProblem) (line : PlainBoxLine) : Type 0 where
  e : PlainTrack
  object : slice_get case.tracks line.object ≡ Some e
  one : line.first ≡ line.last
  box : box_in case e line.first ≡ Some line.area

own_lines_in : (case : PlainProblem) (object : ℕ × PlainTrack) → IsAtNumber case object → (slots : List ℕ) → Each (IsOwnLine case) (filter_map (line_in_slot case object) slots)
own_lines_in case object at [] = tt
own_lines_in case object at (k ∷ slots) = go (box_in case object.1 k) refl (own_lines_in case object at slots)
  where
    go : (o : Option PlainBox) → box_in case object.1 k ≡ o → Each (IsOwnLine case) (filter_map (line_in_slot case object) slots)
        → Each (IsOwnLine case) (filter_map (line_in_slot case object) (k ∷ slots))
    go None is rest = rw is rest
    go (Some area) is rest =
        let own : IsOwnLine case (line_of_box object.0 k area) = record { e = object.1; object = at; one = refl; box = is } in
        let all : Each (IsOwnLine case) (line_of_box object.0 k area ∷ filter_map (line_in_slot case object) slots) = (own, rest) in
        rw is all

own_lines : (case : PlainProblem) → Each (IsOwnLine case) (flat_map (box_lines case) (enumerate_from 0 case.tracks))
own_lines case =
    Each-flat_map (IsOwnLine case) (box_lines case) (enumerate_from 0 case.tracks)
    (Each-weaker (IsAtNumber case) (λ object. Each (IsOwnLine case) (box_lines case object)) (λ object at. own_lines_in case object at (slots_of case)) (enumerate_from 0 case.tracks)
    (numbered case))

holds_hulls : (case : PlainProblem) (line : PlainBoxLine) → IsOwnLine case line → HoldsHulls case line
holds_hulls case line own slot low high =
    let at = own.object in
    let one = own.one in
    let same : line.first ≡ slot = omega arith in
    let box : box_in case own.e slot ≡ Some line.area = subst (λ (k : ℕ). box_in case own.e k ≡ Some line.area) same own.box in
    subst (λ (o : Option PlainTrack). IsSomeAnd o (λ e. All (IsHullIn line.area) (hulls_of e (slot_first case.first slot) (slot_last case.first case.last slot)))) (sym at)
    (All-from_each (IsHullIn line.area) (hulls_of own.e (slot_first case.first slot) (slot_last case.first case.last slot))
    (hulls_lie own.e (slot_first case.first slot) (slot_last case.first case.last slot) line.area box))

are_boxes : (case : PlainProblem) → AreBoxes case (flat_map (box_lines case) (enumerate_from 0 case.tracks))
are_boxes case =
    let lines = flat_map (box_lines case) (enumerate_from 0 case.tracks) in
    record {
      some =
          All-from_each (λ line. line.first ≤ line.last) lines (Each-weaker (IsOwnLine case) (λ line. line.first ≤ line.last) (λ line own. let one = own.one in omega arith) lines (own_lines case));
      slots = slots_same case (enumerate_from 0 case.tracks);
      hold = All-from_each (HoldsHulls case) lines (Each-weaker (IsOwnLine case) (HoldsHulls case) (holds_hulls case) lines (own_lines case));
    }

-- ---- candidates

listed_shells_same : (case : PlainProblem) (n : ℕ) (es : List PlainTrack) → map (λ line. line.shell) (map (shell_line case) (enumerate_from n es)) ≡ map (λ e. shell_of e case.first case.last) es
listed_shells_same case n [] = refl
listed_shells_same case n (e ∷ es) = ap (λ (ss : List (Option Shell)). shell_of e case.first case.last ∷ ss) (listed_shells_same case (n + 1) es)

-- the lines of all boxes
abbrev pub lines_of : PlainProblem → List PlainBoxLine
lines_of case = flat_map (box_lines case) (enumerate_from 0 case.tracks)

-- the listed box of an object in a slot is its own
pub box_is : (case : PlainProblem) (e : PlainTrack) (i slot : ℕ) → AreAllInTime case → slice_get case.tracks i ≡ Some e → slot < slot_count case.first case.last
    → box_listed (lines_of case) slot i ≡ box_in case e slot
box_is case e i slot time is lt = go (find (is_line_of i slot) (lines_of case)) refl
  where
    go : (o : Option PlainBoxLine) → find (is_line_of i slot) (lines_of case) ≡ o → box_listed (lines_of case) slot i ≡ box_in case e slot
    go None at =
        let none : box_listed (lines_of case) slot i ≡ None = ap (λ (o : Option PlainBoxLine). option_map (λ line. line.area) o) at in
        none ∙ sym (box_none e (slot_first case.first slot) (slot_last case.first case.last slot) ((in_one_box case (lines_of case) e i slot (time i e is) (are_boxes case) is lt).none none))
    go (Some line) at =
        let found = find_some (is_line_of i slot) (IsOwnLine case) (lines_of case) line (own_lines case) at in
        let told = told_by i slot line found.0 in
        let own = found.1 in
        let one = own.one in
        let object : slice_get case.tracks i ≡ Some own.e = subst (λ (k : ℕ). slice_get case.tracks k ≡ Some own.e) told.own own.object in
        let same : own.e ≡ e = cc in
        let first : line.first ≡ slot = omega (arith, told.low, told.high) in
        let box : box_in case e slot ≡ Some line.area =
        subst (λ (k : ℕ). box_in case e k ≡ Some line.area) first (subst (λ (f : PlainTrack). box_in case f line.first ≡ Some line.area) same own.box) in
        ap (λ (o : Option PlainBoxLine). option_map (λ line. line.area) o) at ∙ sym box

map_range : {A : Type 0} (f : ℕ → A) (g : PlainTrack → A) (n : ℕ) (es : List PlainTrack) → ((i : ℕ) (e : PlainTrack) → slice_get es i ≡ Some e → f (n + i) ≡ g e)
    → map f (range_with_len n (length es)) ≡ map g es
map_range f g n [] same = refl
map_range f g n (e ∷ es) same =
    let at : n ≡ n + 0 = omega arith in
    let here : f n ≡ g e = ap f at ∙ same 0 e refl in
    let rest = map_range f g (n + 1) es (λ i d is. let next : n + 1 + i ≡ n + suc i = omega arith in ap f next ∙ same (suc i) d is) in
    λ i. here i ∷ rest i

listed_boxes_same : (case : PlainProblem) (slot : ℕ) → AreAllInTime case → slot < slot_count case.first case.last → boxes_listed (written case) slot ≡ boxes_in case slot
unfolding written boxes_in
listed_boxes_same case slot time lt =
    map_range (box_listed (lines_of case) slot) (λ e. box_in case e slot) 0 case.tracks
    (λ i e is. let own : 0 + i ≡ i = omega arith in ap (box_listed (lines_of case) slot) own ∙ box_is case e i slot time is lt)

pub shells_same : (case : PlainProblem) → shells_listed (written case) ≡ shells_of case
unfolding written shells_of
shells_same case = listed_shells_same case 0 case.tracks

candidates_same : (case : PlainProblem) (a b slot : ℕ) → AreAllInTime case → slot < slot_count case.first case.last → is_candidate_listed case (written case) a b slot ≡ is_candidate case a b slot
unfolding is_candidate_listed is_candidate
candidates_same case a b slot time lt =
    ap (λ (ss : List (Option Shell)). candidate_by case ss (boxes_listed (written case)) a b slot) (shells_same case)
    ∙ ap (λ (bs : List (Option PlainBox)). candidate_by case (shells_of case) (λ k. bs) a b slot) (listed_boxes_same case slot time lt)

-- the roots are the same where the candidates are the same
roots_same : (f g : ℕ → ℕ → ℕ → Bool) (case : PlainProblem) → ((a b slot : ℕ) → slot < slot_count case.first case.last → f a b slot ≡ g a b slot) → roots_of f case ≡ roots_of g case
unfolding roots_of
roots_same f g case same =
    flat_map_alike (λ pair. flat_map (λ slot. cond (f pair.0 pair.1 slot) (roots_in case slot pair.0 pair.1) []) (slots_of case))
    (λ pair. flat_map (λ slot. cond (g pair.0 pair.1 slot) (roots_in case slot pair.0 pair.1) []) (slots_of case))
    (pairs_of (length case.tracks))
    (Each-always (λ pair. flat_map (λ slot. cond (f pair.0 pair.1 slot) (roots_in case slot pair.0 pair.1) []) (slots_of case)
    ≡ flat_map (λ slot. cond (g pair.0 pair.1 slot) (roots_in case slot pair.0 pair.1) []) (slots_of case))
    (λ pair. flat_map_alike (λ slot. cond (f pair.0 pair.1 slot) (roots_in case slot pair.0 pair.1) []) (λ slot. cond (g pair.0 pair.1 slot) (roots_in case slot pair.0 pair.1) []) (slots_of case)
    (Each-range (λ slot. cond (f pair.0 pair.1 slot) (roots_in case slot pair.0 pair.1) [] ≡ cond (g pair.0 pair.1 slot) (roots_in case slot pair.0 pair.1) []) 0 (slot_count case.first case.last)
    (λ slot low high. ap (λ (b : Bool). cond b (roots_in case slot pair.0 pair.1) []) (same pair.0 pair.1 slot (omega arith)))))
    (pairs_of (length case.tracks)))

-- ---- cells

tile_with : (P Q : PlainLeaf → Type 0) (a b lo hi : ℕ) (ss : List PlainLeaf) → Tile P a b lo hi ss → Each Q ss → Tile Q a b lo hi ss
tile_with P Q a b lo hi [] tile each = tile
tile_with P Q a b lo hi (s ∷ ss) tile each =
    let leaf = tile.1.0 in (
      tile.0,
      (
        record { first_object = leaf.first_object; second_object = leaf.second_object; from = leaf.from; some = leaf.some; to = leaf.to; judged = each.0 },
        tile_with P Q a b (s.last + 1) hi ss tile.1.1 each.1,
      ),
    )

supports : (c d : Curve) (thr first last : ℕ) (kind : Kind) → kind_between c d thr first last ≡ Some kind → Supports (gap_terms (hull_gap c d first last)) thr kind
unfolding kind_between cell_verdict
supports c d thr first last kind is = (decides_supports (gap_terms (hull_gap c d first last)) thr kind).0 (supported_kind (gap_terms (hull_gap c d first last)) thr kind is)

-- a leaf of a root is supported
supported_leaf : (case : PlainProblem) (r : PlainCell) (c d : Curve) → HaveCurves case r.a r.b r.first r.last c d → (s : PlainLeaf)
    → IsLeaf (HasKind (kind_between c d (threshold_of case r.a r.b))) r.a r.b r.first r.last s → IsSupported case s
supported_leaf case r c d have s leaf =
    let a : s.a ≡ r.a = leaf.first_object in
    let b : s.b ≡ r.b = leaf.second_object in
    let from = leaf.from in
    let some = leaf.some in
    let to = leaf.to in
    let same : threshold_of case r.a r.b ≡ threshold_of case s.a s.b = λ i. threshold_of case (sym a i) (sym b i) in
    of_objects case s.a s.b s.first c d (λ x y. Supports (gap_terms (hull_gap x y s.first s.last)) (threshold_of case s.a s.b) s.kind)
    (ap (λ (x : ℕ). curve_at case x s.first) a ∙ have.first_curve s.first from (omega arith))
    (ap (λ (x : ℕ). curve_at case x s.first) b ∙ have.second_curve s.first from (omega arith))
    (subst (λ (thr : ℕ). Supports (gap_terms (hull_gap c d s.first s.last)) thr s.kind) same (supports c d (threshold_of case r.a r.b) s.first s.last s.kind leaf.judged))

pub root_tile : (case : PlainProblem) (r : PlainCell) → AreAllInTime case → 10 ^ 9 ≤ case.threshold → IsRootOf case r → Tile (IsSupported case) r.a r.b r.first r.last (leaves_of_root case r)
unfolding leaves_between
root_tile case r time big is = go (curves_of case r.a r.b r.first r.last (root_pieces case r is))
  where
    go : Curves case r.a r.b r.first r.last → Tile (IsSupported case) r.a r.b r.first r.last (leaves_of_root case r)
    go (curves c d have) =
        let le : r.first ≤ r.last = is.root.some in
        let thr = threshold_of case r.a r.b in
        let judge = kind_between c d thr in
        let c_over = over_both case r.a r.first r.last c time (have.first_curve r.first (omega arith) le) (have.first_curve r.last le (omega arith)) in
        let d_over = over_both case r.b r.first r.last d time (have.second_curve r.first (omega arith) le) (have.second_curve r.last le (omega arith)) in
        let same = leaves_are case r c d le have in
        let tile : Tile (HasKind judge) r.a r.b r.first r.last (leaves_of_root case r) =
        rw same (tiles judge r.a r.b (r.last - r.first) r.first r.last le (omega arith) (settled_over c d thr r.first r.last (omega arith) c_over d_over)) in
        tile_with (HasKind judge) (IsSupported case) r.a r.b r.first r.last (leaves_of_root case r) tile
        (Each-weaker (IsLeaf (HasKind judge) r.a r.b r.first r.last) (IsSupported case) (supported_leaf case r c d have) (leaves_of_root case r)
        (Each-tile (HasKind judge) r.a r.b r.first r.first r.last (leaves_of_root case r) (omega arith) tile))

leaves_whole : (case : PlainProblem) (roots : List PlainCell) → leaves_of_roots case roots ≡ flat_map (λ part. part) (map (leaves_of_root case) roots)
unfolding leaves_of_roots
leaves_whole case [] = refl
leaves_whole case (r ∷ roots) = ap (λ (ss : List PlainLeaf). leaves_of_root case r ++ ss) (leaves_whole case roots)

leaves_tile : (case : PlainProblem) → AreAllInTime case → 10 ^ 9 ≤ case.threshold → (roots : List PlainCell) → Each (IsRootOf case) roots
    → TileEach (IsSupported case) roots (map (leaves_of_root case) roots)
leaves_tile case time big [] each = tt
leaves_tile case time big (r ∷ roots) each = (root_tile case r time big each.0, leaves_tile case time big roots each.1)

are_cells : (case : PlainProblem) (roots : List PlainCell) → AreAllInTime case → 10 ^ 9 ≤ case.threshold → roots ≡ roots_of (is_candidate case) case
    → TileRoots (IsSupported case) roots (leaves_in_order case)
unfolding leaves_in_order
are_cells case roots time big same = record {
  parts = map (leaves_of_root case) (roots_of (is_candidate case) case);
  whole = leaves_whole case (roots_of (is_candidate case) case);
  tiles = subst (λ (rs : List PlainCell). TileEach (IsSupported case) rs (map (leaves_of_root case) (roots_of (is_candidate case) case))) (sym same)
      (leaves_tile case time big (roots_of (is_candidate case) case) (Each-roots (is_candidate case) case));
}

-- ---- the certificate

pub written_accepted : (case : PlainProblem) → AreAllInTime case → AreAllWithin case → 10 ^ 9 ≤ case.threshold → Accepted case (written case)
unfolding written
written_accepted case time within big = record {
  first = refl;
  last = refl;
  threshold = refl;
  objects = refl;
  sizes = tt;
  shells = are_shells case within;
  boxes = are_boxes case;
  cells = are_cells case (roots_of (is_candidate_listed case (written case)) case) time big
      (roots_same (is_candidate_listed case (written case)) (is_candidate case) case (λ a b slot lt. candidates_same case a b slot time lt));
}
