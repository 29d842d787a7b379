-- Cells that tile roots: each lies in a root, each tick of a root in a cell, and each says of its ticks what is so.
use Rattle.std.proofs.Common.{◌≡◌, ℕ, ◌^◌, ◌<◌, ◌≤◌, List, [], ◌∷◌, Option, Some, None, refl, sym, ap, ◌∙◌, subst, inl, inr, arith}
use Rattle.std.specs.Prelude.{IfSome, IsSomeAnd, slice_get, option_map, option_and_then}
use Rattle.std.specs.List.{AllZip, flat_map}
use Rattle.cj_interval.proofs.ListLemmas.{Each, Exists, Each-weaker, Each-append, Each-exists, Exists-weaker, Exists-left, Exists-right}
use Rattle.cj_track.specs.PlainTracks.{PlainTrack}
use Rattle.cj_hermite.specs.Interpolant.{Curve, IsOver}
use Rattle.cj_hermite.specs.Pieces.{PlainPiece, piece_holding, curve_of_piece, OfBothAt}
use Rattle.cj_case.specs.PlainProblems.{PlainProblem, threshold_of}
use Rattle.cj_hermite.specs.ObjectsAtTicks.{curve_at, OfObjectsAt}
use Rattle.cj_case.specs.Cells.{PlainCell}
use Rattle.cj_hermite.proofs.CurveLemmas.{Curves, curves, curves_of, root_pieces}
use Rattle.cj_hermite.proofs.ObjectLemmas.{of_objects, within_at}
use Rattle.cj_hermite.proofs.RootLemmas.{IsRootOf, Holds as HasTickOf}
use Rattle.cj_bezier.specs.Gaps.{gap_terms, hull_gap}
use Rattle.cj_case.specs.Leaves.{PlainLeaf, IsTickOf}
use Rattle.cj_bezier.specs.RootLeaves.{IsTrueThroughout}
use Rattle.cj_bezier.specs.Tiles.{IsLeaf, Tile}
use Rattle.cj_bezier.specs.Verdicts.{Supports, Holds, HoldsThroughout}
use Rattle.cj_bezier.proofs.HalvingLemmas.{HasTick, Each-tile, Exists-tile}
use Rattle.cj_bezier.proofs.VerdictLemmas.{supported_holds}
use Rattle.cj_cert.specs.Accepted.{IsSupported, TileRoots}
use Rattle.cj_cert.proofs.ListedLemmas.{AreAllInTime}

abbrev pub TileEach : (PlainLeaf → Type 0) → List PlainCell → List (List PlainLeaf) → Type 0
TileEach P roots parts = AllZip (λ r part. Tile P r.a r.b r.first r.last part) roots parts

-- ---- what holds of each cell, and which ticks are in one

each_cell : (P S : PlainLeaf → Type 0) (Q : PlainCell → Type 0) → ((r : PlainCell) (s : PlainLeaf) → Q r → IsLeaf P r.a r.b r.first r.last s → S s)
    → (roots : List PlainCell) (parts : List (List PlainLeaf)) → TileEach P roots parts → Each Q roots → Each S (flat_map (λ part. part) parts)
each_cell P S Q law [] [] tiles each = tt
each_cell P S Q law [] (part ∷ parts) tiles each = absurd tiles
each_cell P S Q law (r ∷ roots) [] tiles each = absurd tiles
each_cell P S Q law (r ∷ roots) (part ∷ parts) tiles each =
    Each-append S part (flat_map (λ part. part) parts)
    (Each-weaker (IsLeaf P r.a r.b r.first r.last) S (λ s leaf. law r s each.0 leaf) part (Each-tile P r.a r.b r.first r.first r.last part (omega arith) tiles.0))
    (each_cell P S Q law roots parts tiles.1 each.1)

pub each_tiled : (P S : PlainLeaf → Type 0) (Q : PlainCell → Type 0) → ((r : PlainCell) (s : PlainLeaf) → Q r → IsLeaf P r.a r.b r.first r.last s → S s)
    → (roots : List PlainCell) (cells : List PlainLeaf) → TileRoots P roots cells → Each Q roots → Each S cells
each_tiled P S Q law roots cells tile each = subst (Each S) (sym tile.whole) (each_cell P S Q law roots tile.parts tile.tiles each)

pub in_part : (P : PlainLeaf → Type 0) (a b m : ℕ) (r : PlainCell) (part : List PlainLeaf) → Tile P r.a r.b r.first r.last part → HasTickOf a b m r → Exists (IsTickOf a b m) part
in_part P a b m r part tile has =
    Exists-weaker (λ s. IsLeaf P r.a r.b r.first r.last s × HasTick m s) (IsTickOf a b m)
    (λ s both.
    let leaf = both.0 in
    let tick = both.1 in
    record { first_object = omega (arith, leaf.first_object, has.first_object); second_object = omega (arith, leaf.second_object, has.second_object); from = tick.from; to = tick.to })
    part
    (Each-exists (IsLeaf P r.a r.b r.first r.last) (HasTick m) part (Each-tile P r.a r.b r.first r.first r.last part (omega arith) tile)
    (Exists-tile P r.a r.b r.first r.last m part tile has.from has.to))

some_cell : (P : PlainLeaf → Type 0) (a b m : ℕ) (roots : List PlainCell) (parts : List (List PlainLeaf)) → TileEach P roots parts → Exists (HasTickOf a b m) roots
    → Exists (IsTickOf a b m) (flat_map (λ part. part) parts)
some_cell P a b m [] parts tiles here = absurd here
some_cell P a b m (r ∷ roots) [] tiles here = absurd tiles
some_cell P a b m (r ∷ roots) (part ∷ parts) tiles (inl here) = Exists-left (IsTickOf a b m) part (flat_map (λ part. part) parts) (in_part P a b m r part tiles.0 here)
some_cell P a b m (r ∷ roots) (part ∷ parts) tiles (inr rest) = Exists-right (IsTickOf a b m) part (flat_map (λ part. part) parts) (some_cell P a b m roots parts tiles.1 rest)

pub some_tiled : (P : PlainLeaf → Type 0) (a b m : ℕ) (roots : List PlainCell) (cells : List PlainLeaf) → TileRoots P roots cells → Exists (HasTickOf a b m) roots → Exists (IsTickOf a b m) cells
some_tiled P a b m roots cells tile here = subst (Exists (IsTickOf a b m)) (sym tile.whole) (some_cell P a b m roots tile.parts tile.tiles here)

-- ---- a supported cell

-- the interpolant of an object at a tick has ticks
wide_at : (case : PlainProblem) (object m : ℕ) (c : Curve) → AreAllInTime case → curve_at case object m ≡ Some c → 0 < c.span
unfolding curve_at
wide_at case object m c time is = go (slice_get case.tracks object) refl is
  where
    at_piece : (e : PlainTrack) (o : Option PlainPiece) → IfSome o (λ x. x.from.at < x.to.at) → option_map curve_of_piece o ≡ Some c → 0 < c.span
    at_piece e None rises h = absurd cc
    at_piece e (Some x) rises h = let same : curve_of_piece x ≡ c = cc in subst (λ (d : Curve). 0 < d.span) same (omega arith)

    go : (o : Option PlainTrack) → slice_get case.tracks object ≡ o → option_map curve_of_piece (option_and_then (λ e. piece_holding e m) o) ≡ Some c → 0 < c.span
    go None there h = absurd cc
    go (Some e) there h = at_piece e (piece_holding e m) (time object e there m m m (omega arith) (omega arith)).rises h

-- an interpolant that an object has at two ticks is over both
pub over_both : (case : PlainProblem) (object first last : ℕ) (c : Curve) → AreAllInTime case → curve_at case object first ≡ Some c → curve_at case object last ≡ Some c → IsOver c first last
over_both case object first last c time from to =
    let a = within_at case object first c from in
    let b = within_at case object last c to in
    record { some = wide_at case object first c time from; from = a.0; to = b.1 }

-- the interpolants of two objects at a tick are those of which something holds
of_both : (case : PlainProblem) (a b m : ℕ) (c d : Curve) (P : Curve → Curve → Type 0) → curve_at case a m ≡ Some c → curve_at case b m ≡ Some d → OfObjectsAt case a b m P → P c d
unfolding curve_at
of_both case a b m c d P is is' holds = first (slice_get case.tracks a) is holds
  where
    at_y : (x : PlainPiece) (o : Option PlainPiece) → curve_of_piece x ≡ c → option_map curve_of_piece o ≡ Some d → IsSomeAnd o (λ y. P (curve_of_piece x) (curve_of_piece y)) → P c d
    at_y x None same h holds = absurd holds
    at_y x (Some y) same h holds = let same' : curve_of_piece y ≡ d = cc in subst (λ (z : Curve). P c z) same' (subst (λ (z : Curve). P z (curve_of_piece y)) same holds)

    at_x : (f : PlainTrack) (o : Option PlainPiece) → option_map curve_of_piece o ≡ Some c → option_map curve_of_piece (piece_holding f m) ≡ Some d
        → IsSomeAnd o (λ x. IsSomeAnd (piece_holding f m) (λ y. P (curve_of_piece x) (curve_of_piece y))) → P c d
    at_x f None h k holds = absurd holds
    at_x f (Some x) h k holds = let same : curve_of_piece x ≡ c = cc in at_y x (piece_holding f m) same k holds

    second : (e : PlainTrack) (o : Option PlainTrack) → option_map curve_of_piece (piece_holding e m) ≡ Some c → option_map curve_of_piece (option_and_then (λ f. piece_holding f m) o) ≡ Some d
        → IsSomeAnd o (λ f. OfBothAt e f m P) → P c d
    second e None h k holds = absurd holds
    second e (Some f) h k holds = at_x f (piece_holding e m) h k holds

    first : (o : Option PlainTrack) → option_map curve_of_piece (option_and_then (λ e. piece_holding e m) o) ≡ Some c
        → IsSomeAnd o (λ e. IsSomeAnd (slice_get case.tracks b) (λ f. OfBothAt e f m P)) → P c d
    first None h holds = absurd holds
    first (Some e) h holds = second e (slice_get case.tracks b) h is' holds

-- a supported cell of a root is true throughout
pub true_cell : (case : PlainProblem) (r : PlainCell) (s : PlainLeaf) → AreAllInTime case → 10 ^ 9 ≤ case.threshold → IsRootOf case r → IsLeaf (IsSupported case) r.a r.b r.first r.last s
    → IsTrueThroughout case s
unfolding HoldsThroughout
true_cell case r s time big root leaf m low high = go (curves_of case r.a r.b r.first r.last (root_pieces case r root))
  where
    go : Curves case r.a r.b r.first r.last → OfObjectsAt case s.a s.b m (λ c d. Holds s.kind c d (threshold_of case s.a s.b) m)
    go (curves c d have) =
        let first = leaf.first_object in
        let second = leaf.second_object in
        let some = leaf.some in
        let from = leaf.from in
        let to = leaf.to in
        let c_at : (k : ℕ) → s.first ≤ k → k ≤ s.last → curve_at case s.a k ≡ Some c =
        λ k after before. ap (λ (x : ℕ). curve_at case x k) first ∙ have.first_curve k (omega arith) (omega arith) in
        let d_at : (k : ℕ) → s.first ≤ k → k ≤ s.last → curve_at case s.b k ≡ Some d =
        λ k after before. ap (λ (x : ℕ). curve_at case x k) second ∙ have.second_curve k (omega arith) (omega arith) in
        let support : Supports (gap_terms (hull_gap c d s.first s.last)) (threshold_of case s.a s.b) s.kind =
        of_both case s.a s.b s.first c d (λ c d. Supports (gap_terms (hull_gap c d s.first s.last)) (threshold_of case s.a s.b) s.kind) (c_at s.first (omega arith) some)
        (d_at s.first (omega arith) some) leaf.judged in
        let c_over = over_both case s.a s.first s.last c time (c_at s.first (omega arith) some) (c_at s.last some (omega arith)) in
        let d_over = over_both case s.b s.first s.last d time (d_at s.first (omega arith) some) (d_at s.last some (omega arith)) in
        of_objects case s.a s.b m c d (λ c d. Holds s.kind c d (threshold_of case s.a s.b) m) (c_at m low high) (d_at m low high)
        (supported_holds c d (threshold_of case s.a s.b) s.first s.last s.kind (omega arith) c_over d_over support m low high)
