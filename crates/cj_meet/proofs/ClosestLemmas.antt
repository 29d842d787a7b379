-- The closest approach of several leaves: its ends leaf by leaf, and what it says of the distance.
use Rattle.std.proofs.Common.{◌≡◌, ◌⊎◌, ℕ, ◌+◌, ◌-◌, ◌*◌, ◌<◌, ◌≤◌, List, [], ◌∷◌, ◌++◌, length, get_or, take, Option, Some, None, refl, sym, ap, subst, ◌∙◌, inl, inr, arith, append-nil}
use Rattle.std.specs.Prelude.{All, Any, IsSomeAnd, slice_get, slice_range, option_map, option_and_then, pos, ◌≤ℤ◌}
use Rattle.std.proofs.Math.Nat.{mul-le-mul, mul-le-mul_right}
use Rattle.std.proofs.lemmas.Bool.{leb-true}
use Rattle.std.proofs.lemmas.Int.{ints}
use Rattle.std.proofs.lemmas.List.{length-map, map_more}
use Rattle.std.proofs.lemmas.List.Edits.{length-between}
use Rattle.std.proofs.lemmas.List.Elements.{All-nil, All-same, All-append, All-push, All-weaker, All-get_or}
use Rattle.std.proofs.lemmas.List.Concat.{flat_map-append}
use Rattle.cj_interval.proofs.IntegerLemmas.{le_from_mul, le_trans_ℤ}
use Rattle.cj_interval.proofs.ListLemmas.{Each, Exists, Each-weaker, Each-both, Each-exists, Exists-weaker, Exists-flat_map, All-from_each, each_from_All, each_from_map, Any-from_exists, exists_from_Any, Exists-at, Exists-map}
use Rattle.cj_interval.proofs.SquareLemmas.{root-le}
use Rattle.cj_track.specs.PlainTracks.{PlainTrack}
use Rattle.cj_hermite.specs.Distance.{BAND, IsWithinAt, square_bound, square_distance}
use Rattle.cj_hermite.specs.Interpolant.{Curve, IsOver}
use Rattle.cj_hermite.specs.Pieces.{PlainPiece, piece_holding, curve_of_piece, OfBothAt}
use Rattle.cj_case.specs.PlainProblems.{PlainProblem}
use Rattle.cj_hermite.specs.ObjectsAtTicks.{curve_at, OfObjectsAt, HaveCurves}
use Rattle.cj_hermite.specs.Roots.{KeepPieces}
use Rattle.cj_hermite.proofs.CurveLemmas.{have_curves}
use Rattle.cj_hermite.proofs.ObjectLemmas.{of_objects}
use Rattle.cj_hermite.proofs.TrackLemmas.{over_part}
use Rattle.cj_case.specs.declared.encounter.Closest.{Closest}
use Rattle.cj_case.specs.declared.encounter.Encounter.{Encounter}
use Rattle.cj_case.specs.declared.leaf.Leaf.{Leaf}
use Rattle.cj_bezier.specs.Gaps.{gap_terms, hull_gap}
use Rattle.cj_case.specs.Leaves.{PlainLeaf, IsTickOf, plain_leaf, plain_leaves}
use Rattle.cj_bezier.specs.Squares.{least_square, greatest_square}
use Rattle.cj_meet.specs.Closest.{PlainApproach, PlainClosest, upper, approach_at, ends_between, ends_within, ends_in, closest_by, closest_of, plain_closest, nearer, nearest, KeepTheirPieces, IsClosest, IsFlatAt, IsNearest}
use Rattle.cj_meet.specs.Encounters.{leaves_in}
use Rattle.cj_interval.specs.SquareRoots.{floor_root}
use Rattle.cj_meet.specs.Flat.{is_flat}
use Rattle.cj_meet.specs.Searches.{NoWorse, HasInterpolants}
use Rattle.cj_meet.proofs.EndLemmas.{HasFlat, each_end, first_end, last_end, flat_at}
use Rattle.cj_meet.proofs.EncounterLemmas.{leaves_in_encounter}
use Rattle.cj_meet.proofs.NearerLemmas.{IsNearer, NoWorse-trans, nearer-is, nearest_is}
use Rattle.cj_interval.proofs.SquareRootLemmas.{floor_root-below, ceil_root-is}
use Rattle.cj_meet.proofs.SquareBoundLemmas.{scale, scale-some, least_holds, first-le_greatest}
use Rattle.cj_meet.proofs.TickLemmas.{upper_holds, first_upper, one_tick_flat}

-- ---- the ends of a leaf by its two interpolants

pub ends_are : (case : PlainProblem) (s : PlainLeaf) (c d : Curve) → curve_at case s.a s.first ≡ Some c → curve_at case s.b s.first ≡ Some d → ends_within case s ≡ ends_between c d s s.first s.last
unfolding ends_within
ends_are case s c d first second = rw (first, second) refl

-- the nearer end of a leaf is an end of it
pub glanced : (case : PlainProblem) (s : PlainLeaf) (c d : Curve) (p q x : PlainApproach) → s.first ≤ s.last → IsOver c s.first s.last → IsOver d s.first s.last →
    ends_within case s ≡ ends_between c d s s.first s.last → p ≡ approach_at c d s.first → q ≡ approach_at c d s.last → x ≡ nearer p q → Any (λ r. r ≡ x) (ends_within case s)
glanced case s c d p q x le oc od same first last e =
    Any-from_exists (λ r. r ≡ x) (ends_within case s) (subst (Exists (λ r. r ≡ x)) (sym same) (go (nearer-is p q)))
  where
    go : IsNearer p q (nearer p q) → Exists (λ r. r ≡ x) (ends_between c d s s.first s.last)
    go is = elim is.either [
      | inl here ↦ subst (λ y. Exists (λ r. r ≡ y) (ends_between c d s s.first s.last)) (sym (e ∙ here ∙ first)) (first_end c d s s.first s.last le oc od)
      | inr there ↦ subst (λ y. Exists (λ r. r ≡ y) (ends_between c d s s.first s.last)) (sym (e ∙ there ∙ last)) (last_end c d s s.first s.last le oc od)
    ]

-- ---- leaf by leaf

-- with one leaf more
pub ends_more : (case : PlainProblem) (leaves : List Leaf) (i : ℕ) (leaf : Leaf) → i < length leaves → leaf ≡ get_or leaves i leaf →
    ends_in case (plain_leaves (take (i + 1) leaves)) ≡ ends_in case (plain_leaves (take i leaves)) ++ ends_within case (plain_leaf leaf)
unfolding ends_in
ends_more case leaves i leaf lt is =
    ap (ends_in case) (map_more plain_leaf leaves i leaf lt)
    ∙ flat_map-append (ends_within case) (plain_leaves (take i leaves)) (plain_leaf (get_or leaves i leaf) ∷ [])
    ∙ ap (λ ps. ends_in case (plain_leaves (take i leaves)) ++ ps) (append-nil (ends_within case (plain_leaf (get_or leaves i leaf))))
    ∙ ap (λ (l : Leaf). ends_in case (plain_leaves (take i leaves)) ++ ends_within case (plain_leaf l)) (sym is)

-- an end of one leaf is one of all
pub end_of_all : (case : PlainProblem) (leaves : List Leaf) (i : ℕ) (leaf : Leaf) (x : PlainApproach) → i < length leaves → leaf ≡ get_or leaves i leaf →
    Any (λ p. p ≡ x) (ends_within case (plain_leaf leaf)) → Any (λ p. p ≡ x) (ends_in case (plain_leaves leaves))
unfolding ends_in
end_of_all case leaves i leaf x lt is one =
    Any-from_exists (λ p. p ≡ x) (ends_in case (plain_leaves leaves))
    (Exists-flat_map (λ p. p ≡ x) (ends_within case) (plain_leaves leaves)
    (Exists-map (λ s. Exists (λ p. p ≡ x) (ends_within case s)) plain_leaf leaves
    (Exists-at (λ l. Exists (λ p. p ≡ x) (ends_within case (plain_leaf l))) leaves i leaf lt
    (subst (λ (l : Leaf). Exists (λ p. p ≡ x) (ends_within case (plain_leaf l))) is
    (exists_from_Any (λ p. p ≡ x) (ends_within case (plain_leaf leaf)) one)))))

pub keeps_at : (case : PlainProblem) (leaves : List Leaf) (i : ℕ) (leaf : Leaf) → i < length leaves → leaf ≡ get_or leaves i leaf → KeepTheirPieces case (plain_leaves leaves) →
    KeepPieces case leaf.cell.pair.a leaf.cell.pair.b leaf.cell.first.micros leaf.cell.last.micros
keeps_at case leaves i leaf lt is keep =
    let P : PlainLeaf → Type 0 = λ s. KeepPieces case s.a s.b s.first s.last in
    subst (λ (l : Leaf). P (plain_leaf l)) (sym is)
    (All-get_or (λ l. P (plain_leaf l)) leaves i leaf lt
    (All-from_each (λ l. P (plain_leaf l)) leaves (each_from_map P plain_leaf leaves (each_from_All P (plain_leaves leaves) keep))))

-- ---- the loops over leaves

pub nearest_begun : (case : PlainProblem) (leaves : List Leaf) (best : PlainApproach) → All (NoWorse best) (ends_in case (plain_leaves (take 0 leaves)))
unfolding ends_in
nearest_begun case leaves best = All-nil (NoWorse best)

-- what is found of one leaf more
pub nearest_more : (case : PlainProblem) (leaves : List Leaf) (i : ℕ) (leaf : Leaf) (best found : PlainApproach) → i < length leaves → leaf ≡ get_or leaves i leaf →
    All (NoWorse best) (ends_in case (plain_leaves (take i leaves))) → NoWorse found best → All (NoWorse found) (ends_within case (plain_leaf leaf)) →
    All (NoWorse found) (ends_in case (plain_leaves (take (i + 1) leaves)))
nearest_more case leaves i leaf best found lt is before less here =
    All-same (NoWorse found) _ _ (ends_more case leaves i leaf lt is)
    (All-append (NoWorse found) (ends_in case (plain_leaves (take i leaves))) (ends_within case (plain_leaf leaf))
    (All-weaker (NoWorse best) (NoWorse found) (λ q h. NoWorse-trans found best q less h) (ends_in case (plain_leaves (take i leaves))) before) here)

pub end_more : (case : PlainProblem) (leaves : List Leaf) (i : ℕ) (leaf : Leaf) (best found : PlainApproach) → i < length leaves → leaf ≡ get_or leaves i leaf →
    Any (λ p. p ≡ best) (ends_in case (plain_leaves leaves)) → (found ≡ best) ⊎ Any (λ p. p ≡ found) (ends_within case (plain_leaf leaf)) →
    Any (λ p. p ≡ found) (ends_in case (plain_leaves leaves))
end_more case leaves i leaf best found lt is before (inl same) = subst (λ x. Any (λ p. p ≡ x) (ends_in case (plain_leaves leaves))) (sym same) before
end_more case leaves i leaf best found lt is before (inr one) = end_of_all case leaves i leaf found lt is one

pub leaf_more : (P : PlainLeaf → Type 0) (leaves : List Leaf) (i : ℕ) (leaf : Leaf) → i < length leaves → leaf ≡ get_or leaves i leaf → All P (plain_leaves (take i leaves)) → P (plain_leaf leaf) →
    All P (plain_leaves (take (i + 1) leaves))
leaf_more P leaves i leaf lt is before here =
    All-same P _ _ (map_more plain_leaf leaves i leaf lt ∙ ap (λ (l : Leaf). plain_leaves (take i leaves) ++ plain_leaf l ∷ []) (sym is))
    (All-push P (plain_leaves (take i leaves)) (plain_leaf leaf) before here)

-- ---- what was found is the closest approach

-- p is an end of these leaves, and none is nearer
pub record IsFound (case : PlainProblem) (ss : List PlainLeaf) (p : PlainApproach) : Type 0 where
  pub end : Any (λ q. q ≡ p) (ends_in case ss)
  pub nearest : All (NoWorse p) (ends_in case ss)

-- the same of the leaves of an encounter
pub found_in : (case : PlainProblem) (leaves : List Leaf) (e : Encounter) (p : PlainApproach) → Any (λ q. q ≡ p) (ends_in case (plain_leaves (slice_range leaves e.leaf e.past))) →
    All (NoWorse p) (ends_in case (plain_leaves (slice_range leaves e.leaf e.past))) → IsFound case (leaves_in (plain_leaves leaves) e) p
found_in case leaves e p end nearest = record {
  end = subst (λ ss. Any (λ q. q ≡ p) (ends_in case ss)) (leaves_in_encounter leaves e) end;
  nearest = subst (λ ss. All (NoWorse p) (ends_in case ss)) (leaves_in_encounter leaves e) nearest;
}

-- an encounter has a leaf
pub leaves_some : (leaves : List Leaf) (e : Encounter) → e.past ≤ length (plain_leaves leaves) → 0 < length (slice_range leaves e.leaf e.past)
leaves_some leaves e within =
    let count : e.past ≤ length leaves = omega (arith, length-map leaves plain_leaf) in
    omega (arith, length-between leaves e.leaf e.past count, e.leaves)

-- high is the least whole number whose square is at least the bound of p
pub record IsHigh (p : PlainApproach) (high : ℕ) : Type 0 where
  pub above : p.square ≤ high * high
  pub least : (r : ℕ) → p.square ≤ r * r → high ≤ r

pub is_closest : (case : PlainProblem) (ss : List PlainLeaf) (p : PlainApproach) (closest : Closest) → IsFound case ss p → IsHigh p closest.high → closest.tick.micros ≡ p.tick → IsClosest case ss closest
is_closest case ss p closest found high same = record {
  square = p.square;
  end = subst (λ (t : ℕ). Any (λ q. q ≡ record { tick = t; square = p.square }) (ends_in case ss)) (sym same) found.end;
  least = All-from_each (λ q. p.square ≤ q.square) (ends_in case ss)
      (Each-weaker (NoWorse p) (λ q. p.square ≤ q.square) (λ q h. h.least) (ends_in case ss) each);
  earliest = All-from_each (λ q. q.square ≡ p.square → closest.tick.micros ≤ q.tick) (ends_in case ss)
      (Each-weaker (NoWorse p) (λ q. q.square ≡ p.square → closest.tick.micros ≤ q.tick) (λ q h e. omega (arith, same, h.earliest (sym e))) (ends_in case ss) each);
  high = high.above;
  least_high = high.least;
}
  where
    each : Each (NoWorse p) (ends_in case ss)
    each = each_from_All (NoWorse p) (ends_in case ss) found.nearest

pub closest_is : (case : PlainProblem) (ss : List PlainLeaf) (p : PlainApproach) (closest : Closest) → IsFound case ss p → IsHigh p closest.high → closest.tick.micros ≡ p.tick → closest_of case ss ≡ Some (plain_closest closest)
unfolding closest_of
closest_is case ss p closest found high same =
    let first : nearest (ends_in case ss) ≡ Some p = nearest_is (ends_in case ss) p (record {
      one_of = exists_from_Any (λ q. q ≡ p) (ends_in case ss) found.end;
      no_worse = each_from_All (NoWorse p) (ends_in case ss) found.nearest;
    }) in
    let ticks : p.tick ≡ closest.tick.micros = sym same in
    ap (option_map closest_by) first
    ∙ ap (λ (h : ℕ). Some (let q : PlainClosest = record { tick = p.tick; high = h } in q)) (ceil_root-is p.square closest.high high.above high.least)
    ∙ ap (λ (t : ℕ). Some (let q : PlainClosest = record { tick = t; high = closest.high } in q)) ticks

-- ---- what it says of the distance

-- what holds of objects at a tick holds of their interpolants there
of_curves : (case : PlainProblem) (a b m : ℕ) (c d : Curve) (P : Curve → Curve → Type 0) → OfObjectsAt case a b m P → curve_at case a m ≡ Some c → curve_at case b m ≡ Some d → P c d
unfolding curve_at
of_curves case a b m c d P h first second = go (slice_get case.tracks a) (slice_get case.tracks b) h first second
  where
    at_pieces : (o p : Option PlainPiece) → IsSomeAnd o (λ x. IsSomeAnd p (λ y. P (curve_of_piece x) (curve_of_piece y)))
        → option_map curve_of_piece o ≡ Some c → option_map curve_of_piece p ≡ Some d → P c d
    at_pieces None p h e f = absurd h
    at_pieces (Some x) None h e f = absurd h
    at_pieces (Some x) (Some y) h e f =
        let one : curve_of_piece x ≡ c = cc in
        let two : curve_of_piece y ≡ d = cc in
        subst (λ z. P c z) two (subst (λ z. P z (curve_of_piece y)) one h)

    go : (o p : Option PlainTrack) → IsSomeAnd o (λ e. IsSomeAnd p (λ f. OfBothAt e f m P))
        → option_map curve_of_piece (option_and_then (λ e. piece_holding e m) o) ≡ Some c
        → option_map curve_of_piece (option_and_then (λ e. piece_holding e m) p) ≡ Some d → P c d
    go None p h e f = absurd h
    go (Some x) None h e f = absurd h
    go (Some x) (Some y) h e f = at_pieces (piece_holding x m) (piece_holding y m) h e f

bound_up : (c d : Curve) (x y : ℕ) → x ≤ y → pos (x * scale c d) ≤ℤ pos (y * scale c d)
bound_up c d x y le = let times = mul-le-mul_right (scale c d) le in omega (arith, ints)

squares_up : (a b : ℕ) → a ≤ b → a * a ≤ b * b
squares_up a b le = mul-le-mul le le

-- a leaf with its two interpolants
pub record HasCurves (case : PlainProblem) (s : PlainLeaf) : Type 0 where
  pub c : Curve
  pub d : Curve
  pub have : HaveCurves case s.a s.b s.first s.last c d
  pub some : s.first ≤ s.last
  pub c_over : IsOver c s.first s.last
  pub d_over : IsOver d s.first s.last

-- a leaf of the objects a and b
pub record IsOfPair (case : PlainProblem) (a b : ℕ) (s : PlainLeaf) : Type 0 where
  pub first_object : s.a ≡ a
  pub second_object : s.b ≡ b
  pub has : HasCurves case s

module _ (case : PlainProblem) (s : PlainLeaf) (has : HasCurves case s) where
  own_ends : ends_within case s ≡ ends_between has.c has.d s s.first s.last
  own_ends = let have = has.have in let some = has.some in ends_are case s has.c has.d (have.first_curve s.first (omega arith) some) (have.second_curve s.first (omega arith) some)

  -- a tick of the leaf with its bound
  record IsTickIn (p : PlainApproach) : Type 0 where
    from : s.first ≤ p.tick
    to : p.tick ≤ s.last
    bound : p.square ≡ upper has.c has.d p.tick

  end_tick : (x : PlainApproach) → Exists (λ p. p ≡ x) (ends_within case s) → IsTickIn x
  end_tick x one =
      go (ends_between has.c has.d s s.first s.last)
      (each_end has.c has.d s s.first s.last has.some has.c_over has.d_over IsTickIn (λ m low high. record { from = low; to = high; bound = refl }))
      (subst (Exists (λ p. p ≡ x)) own_ends one)
    where
      go : (ps : List PlainApproach) → Each IsTickIn ps → Exists (λ p. p ≡ x) ps → IsTickIn x
      go [] each some = absurd some
      go (p ∷ ps) each (inl same) = subst IsTickIn same each.0
      go (p ∷ ps) each (inr later) = go ps each.1 later

  -- the pair is within k at an end whose bound is at most k²
  within_there : (x : PlainApproach) (k : ℕ) → Exists (λ p. p ≡ x) (ends_within case s) → x.square ≤ k * k → OfObjectsAt case s.a s.b x.tick (λ c d. IsWithinAt c d k x.tick)
  within_there x k one le =
      let t = end_tick x one in
      let have = has.have in
      let bound : upper has.c has.d x.tick ≤ k * k = omega (arith, t.bound) in
      of_objects case s.a s.b x.tick has.c has.d (λ c d. IsWithinAt c d k x.tick) (have.first_curve x.tick t.from t.to) (have.second_curve x.tick t.from t.to)
      (le_trans_ℤ _ _ _
      (upper_holds has.c has.d x.tick (over_part has.c s.first s.last x.tick x.tick has.c_over t.from t.to) (over_part has.d s.first s.last x.tick x.tick has.d_over t.from t.to))
      (bound_up has.c has.d (upper has.c has.d x.tick) (k * k) bound))

  -- where no end of the leaf is nearer than x, no tick of it is more than one millimetre nearer
  beyond_there : (x : PlainApproach) (high m : ℕ) → IsHigh x high → Each (NoWorse x) (ends_within case s) → s.first ≤ m → m ≤ s.last →
      pos ((high - BAND) * (high - BAND) * scale has.c has.d) ≤ℤ square_distance has.c has.d m
  unfolding is_flat
  beyond_there x high m is each from to =
      go (flat_at has.c has.d s s.first s.last m (NoWorse x) has.some has.c_over has.d_over (subst (Each (NoWorse x)) own_ends each) from to)
    where
      go : HasFlat has.c has.d s.first s.last m (NoWorse x) → pos ((high - BAND) * (high - BAND) * scale has.c has.d) ≤ℤ square_distance has.c has.d m
      go f =
          let r = floor_root (least_square (gap_terms (hull_gap has.c has.d f.from f.to))) in
          let worse = f.holds in
          let top : upper has.c has.d f.from ≤ greatest_square (gap_terms (hull_gap has.c has.d f.from f.to)) =
          subst (λ (n : ℕ). n ≤ greatest_square (gap_terms (hull_gap has.c has.d f.from f.to))) (first_upper has.c has.d f.from f.to) (first-le_greatest (hull_gap has.c has.d f.from f.to)) in
          let flat = leb-true (greatest_square (gap_terms (hull_gap has.c has.d f.from f.to))) ((r + BAND) * (r + BAND)) f.flat in
          let high_le : high ≤ r + BAND = is.least (r + BAND) (omega (arith, worse.least, top, flat)) in
          let low = floor_root-below (least_square (gap_terms (hull_gap has.c has.d f.from f.to))) in
          let up = squares_up (high - BAND) r (omega arith) in
          let inside = f.inside in
          let tick = f.has in
          le_trans_ℤ _ _ _
          (bound_up has.c has.d ((high - BAND) * (high - BAND)) (least_square (gap_terms (hull_gap has.c has.d f.from f.to))) (omega arith))
          (least_holds has.c has.d f.from m f.to tick.0 tick.1 (over_part has.c s.first s.last f.from f.to has.c_over inside.0 inside.1) (over_part has.d s.first s.last f.from f.to has.d_over inside.0 inside.1))

-- ---- all leaves of an encounter

-- what holds of each end holds of those of each leaf
each_leaf : (case : PlainProblem) (P : PlainApproach → Type 0) (ss : List PlainLeaf) → Each P (ends_in case ss) → Each (λ s. Each P (ends_within case s)) ss
unfolding ends_in
each_leaf case P [] each = tt
each_leaf case P (s ∷ ss) each = let parts = parted (ends_within case s) (ends_in case ss) each in (parts.0, each_leaf case P ss parts.1)
  where
    parted : (ps qs : List PlainApproach) → Each P (ps ++ qs) → Each P ps × Each P qs
    parted [] qs e = (tt, e)
    parted (p ∷ ps) qs e = let rest = parted ps qs e.1 in ((e.0, rest.0), rest.1)

-- an end is one of some leaf
some_leaf : (case : PlainProblem) (P : PlainApproach → Type 0) (ss : List PlainLeaf) → Exists P (ends_in case ss) → Exists (λ s. Exists P (ends_within case s)) ss
unfolding ends_in
some_leaf case P [] some = some
some_leaf case P (s ∷ ss) some = elim (parted (ends_within case s) (ends_in case ss) some) [
  | inl here ↦ inl here
  | inr there ↦ inr (some_leaf case P ss there)
]
  where
    parted : (ps qs : List PlainApproach) → Exists P (ps ++ qs) → Exists P ps ⊎ Exists P qs
    parted [] qs e = inr e
    parted (p ∷ ps) qs (inl e) = inl (inl e)
    parted (p ∷ ps) qs (inr e) = elim (parted ps qs e) [
      | inl here ↦ inl (inr here)
      | inr there ↦ inr there
    ]

has_curves : (case : PlainProblem) (s : PlainLeaf) → HasInterpolants case s → KeepPieces case s.a s.b s.first s.last → HasCurves case s
has_curves case s has keep = record {
  c = has.c;
  d = has.d;
  have = have_curves case s.a s.b s.first s.last has.c has.d has.some keep has.first has.second;
  some = has.some;
  c_over = has.first_over;
  d_over = has.second_over;
}

module _ (case : PlainProblem) (a b : ℕ) (ss : List PlainLeaf) (p : PlainApproach) (high : ℕ) (pairs : Each (IsOfPair case a b) ss) (found : IsFound case ss p) (is : IsHigh p high) where
  of_pair : (s : PlainLeaf) (m : ℕ) (P : Curve → Curve → Type 0) → IsOfPair case a b s → OfObjectsAt case s.a s.b m P → OfObjectsAt case a b m P
  of_pair s m P of h = subst (λ (x : ℕ). OfObjectsAt case x b m P) of.first_object (subst (λ (y : ℕ). OfObjectsAt case s.a y m P) of.second_object h)

  to_pair : (s : PlainLeaf) (m : ℕ) (P : Curve → Curve → Type 0) → IsOfPair case a b s → OfObjectsAt case a b m P → OfObjectsAt case s.a s.b m P
  to_pair s m P of h = subst (λ (x : ℕ). OfObjectsAt case x s.b m P) (sym of.first_object) (subst (λ (y : ℕ). OfObjectsAt case a y m P) (sym of.second_object) h)

  within_k : (k : ℕ) → p.square ≤ k * k → OfObjectsAt case a b p.tick (λ c d. IsWithinAt c d k p.tick)
  within_k k le =
      go ss (Each-exists (IsOfPair case a b) (λ s. Exists (λ q. q ≡ p) (ends_within case s)) ss pairs
      (some_leaf case (λ q. q ≡ p) ss (exists_from_Any (λ q. q ≡ p) (ends_in case ss) found.end)))
    where
      go : (ss : List PlainLeaf) → Exists (λ s. IsOfPair case a b s × Exists (λ q. q ≡ p) (ends_within case s)) ss → OfObjectsAt case a b p.tick (λ c d. IsWithinAt c d k p.tick)
      go [] some = absurd some
      go (s ∷ ss) (inl h) = let of = h.0 in of_pair s p.tick (λ c d. IsWithinAt c d k p.tick) of (within_there case s of.has p k h.1 le)
      go (s ∷ ss) (inr later) = go ss later

  -- a leaf of the pair that has the tick, none of whose ends is nearer
  record HasIt (m : ℕ) (s : PlainLeaf) : Type 0 where
    of : IsOfPair case a b s
    each : Each (NoWorse p) (ends_within case s)
    tick : IsTickOf a b m s

  has_it : (m : ℕ) → Any (IsTickOf a b m) ss → Exists (HasIt m) ss
  has_it m any =
      Exists-weaker (λ s. (IsOfPair case a b s × Each (NoWorse p) (ends_within case s)) × IsTickOf a b m s) (HasIt m) (λ s h. record { of = h.0.0; each = h.0.1; tick = h.1 }) ss
      (Each-exists (λ s. IsOfPair case a b s × Each (NoWorse p) (ends_within case s)) (IsTickOf a b m) ss
      (Each-both (IsOfPair case a b) (λ s. Each (NoWorse p) (ends_within case s)) ss pairs
      (each_leaf case (NoWorse p) ss (each_from_All (NoWorse p) (ends_in case ss) found.nearest)))
      (exists_from_Any (IsTickOf a b m) ss any))

  beyond_at : (m : ℕ) → Exists (HasIt m) ss → OfObjectsAt case a b m (λ c d. square_bound c d (high - BAND) ≤ℤ square_distance c d m)
  beyond_at m some = go ss some
    where
      go : (ss : List PlainLeaf) → Exists (HasIt m) ss → OfObjectsAt case a b m (λ c d. square_bound c d (high - BAND) ≤ℤ square_distance c d m)
      go [] some = absurd some
      go (s ∷ ss) (inl h) =
          let of = h.of in
          let has = of.has in
          let have = has.have in
          let tick = h.tick in
          of_pair s m (λ c d. square_bound c d (high - BAND) ≤ℤ square_distance c d m) of
          (of_objects case s.a s.b m has.c has.d (λ c d. square_bound c d (high - BAND) ≤ℤ square_distance c d m) (have.first_curve m tick.from tick.to) (have.second_curve m tick.from tick.to)
          (beyond_there case s has p high m is h.each tick.from tick.to))
      go (s ∷ ss) (inr later) = go ss later

  -- where the pair is within e at such a tick, it is no more than one millimetre less far than that
  near_at : (m e : ℕ) → Exists (HasIt m) ss → OfObjectsAt case a b m (λ c d. IsWithinAt c d e m) → high ≤ e + BAND
  near_at m e some h = go ss some
    where
      cancel : (x y q : ℕ) → 0 < q → pos (x * x * q) ≤ℤ pos (y * y * q) → x ≤ y
      cancel x y q some h =
          let squares = le_from_mul (pos (x * x)) (pos (y * y)) q some h in
          root-le x y (omega (arith, ints))

      go : (ss : List PlainLeaf) → Exists (HasIt m) ss → high ≤ e + BAND
      go [] some = absurd some
      go (s ∷ ss) (inl it) =
          let of = it.of in
          let has = of.has in
          let have = has.have in
          let tick = it.tick in
          let c_over = has.c_over in
          let d_over = has.d_over in
          let near = of_curves case s.a s.b m has.c has.d (λ c d. IsWithinAt c d e m) (to_pair s m (λ c d. IsWithinAt c d e m) of h) (have.first_curve m tick.from tick.to) (have.second_curve m tick.from tick.to) in
          let far = beyond_there case s has p high m is it.each tick.from tick.to in
          let less = cancel (high - BAND) e (scale has.c has.d) (scale-some has.c has.d c_over.some d_over.some) (le_trans_ℤ _ _ _ far near) in
          omega arith
      go (s ∷ ss) (inr later) = go ss later

  -- each such tick by itself is flat
  flat_there : (m : ℕ) → Exists (HasIt m) ss → OfObjectsAt case a b m (λ c d. IsFlatAt c d m)
  flat_there m some = go ss some
    where
      go : (ss : List PlainLeaf) → Exists (HasIt m) ss → OfObjectsAt case a b m (λ c d. IsFlatAt c d m)
      go [] some = absurd some
      go (s ∷ ss) (inl h) =
          let of = h.of in
          let has = of.has in
          let have = has.have in
          let tick = h.tick in
          of_pair s m (λ c d. IsFlatAt c d m) of
          (of_objects case s.a s.b m has.c has.d (λ c d. IsFlatAt c d m) (have.first_curve m tick.from tick.to) (have.second_curve m tick.from tick.to)
          (one_tick_flat has.c has.d m (over_part has.c s.first s.last m m has.c_over tick.from tick.to) (over_part has.d s.first s.last m m has.d_over tick.from tick.to)))
      go (s ∷ ss) (inr later) = go ss later

  pub nearest_law : IsNearest case a b ss p.tick high
  nearest_law = record {
    within = within_k high is.above;
    beyond = λ m any. beyond_at m (has_it m any);
    nearly = λ m e any near.
        let up = squares_up high (e + BAND) (near_at m e (has_it m any) near) in
        let above = is.above in
        within_k (e + BAND) (omega arith);
    flat = λ m any. flat_there m (has_it m any);
  }

-- each leaf of an encounter is of its pair, and has two interpolants
pub of_pairs : (case : PlainProblem) (a b : ℕ) (ss : List PlainLeaf) → All (λ s. (s.a ≡ a) × (s.b ≡ b)) ss → KeepTheirPieces case ss → All (HasInterpolants case) ss → Each (IsOfPair case a b) ss
of_pairs case a b ss objects keep has =
    Each-weaker (λ s. ((s.a ≡ a) × (s.b ≡ b)) × (KeepPieces case s.a s.b s.first s.last × HasInterpolants case s)) (IsOfPair case a b)
    (λ s h. let two = h.0 in let more = h.1 in record { first_object = two.0; second_object = two.1; has = has_curves case s more.1 more.0 }) ss
    (Each-both (λ s. (s.a ≡ a) × (s.b ≡ b)) (λ s. KeepPieces case s.a s.b s.first s.last × HasInterpolants case s) ss (each_from_All (λ s. (s.a ≡ a) × (s.b ≡ b)) ss objects)
    (Each-both (λ s. KeepPieces case s.a s.b s.first s.last) (HasInterpolants case) ss (each_from_All (λ s. KeepPieces case s.a s.b s.first s.last) ss keep) (each_from_All (HasInterpolants case) ss has)))
