-- The cells of an accepted certificate in brief split the common ticks of every pair.
use Rattle.std.proofs.Common.{◌≡◌, ℕ, ◌^◌, ◌≤◌, ◌⊎◌, inl, inr, Bool, true, false, List, [], ◌∷◌, Option, refl, sym, ap, ◌∙◌, subst, arith}
use Rattle.std.specs.Prelude.{All, Any, option_and_then, option_map}
use Rattle.std.specs.List.{AllZip, flat_map}
use Rattle.std.proofs.lemmas.Option.{slice_get-map}
use Rattle.cj_interval.proofs.ListLemmas.{Each, Exists, Each-append, Each-both, Each-exists, Each-weaker, Exists-left, Exists-right, All-from_each, Any-from_exists, each_from_list_all}
use Rattle.cj_track.specs.PlainTracks.{PlainTrack}
use Rattle.cj_case.specs.PlainProblems.{PlainProblem, threshold_of}
use Rattle.cj_case.specs.Primaries.{concerns}
use Rattle.cj_case.specs.Cells.{PlainCell}
use Rattle.cj_case.specs.Slots.{slot_first, slot_last, slot_of}
use Rattle.cj_case.specs.Boxes.{PlainBox}
use Rattle.cj_case.specs.Leaves.{PlainLeaf, IsTickOf, LiesIn, same_kind}
use Rattle.cj_case.specs.declared.kind.Kind.{Kind}
use Rattle.cj_case.specs.declared.kind.Kind.TheVariants.{Far, Near, Undecided}
use Rattle.cj_formats.specs.declared.cert_version.CertVersion.TheVariants.{Two}
use Rattle.cj_hermite.specs.Distance.{IsFar}
use Rattle.cj_hermite.specs.ObjectsAtTicks.{number_at, IsCommonOf, OfObjectsAt}
use Rattle.cj_hermite.specs.Roots.{roots_by_slot}
use Rattle.cj_hermite.proofs.CurveLemmas.{some_both}
use Rattle.cj_hermite.proofs.ObjectLemmas.{numbers_exist, second_exists}
use Rattle.cj_hermite.proofs.RootLemmas.{Holds as HasTickOf, IsRootOf}
use Rattle.cj_bezier.specs.Candidates.{boxes_in}
use Rattle.cj_bezier.specs.Enclosed.{AreInBoxes, IsInBox, OthersAreFar}
use Rattle.cj_bezier.specs.RootLeaves.{is_far_throughout, leaves_of_root}
use Rattle.cj_bezier.specs.SlotBoxes.{box_of, reaches_in}
use Rattle.cj_bezier.specs.Tiles.{IsLeaf, Tile}
use Rattle.cj_bezier.specs.Verdicts.{Holds}
use Rattle.cj_bezier.proofs.BoxRoundLemmas.{box_holds, none_without}
use Rattle.cj_bezier.proofs.CandidateLemmas.{looked_at}
use Rattle.cj_bezier.proofs.FarLemmas.{others_far}
use Rattle.cj_bezier.proofs.HalvingLemmas.{HasTick, Each-tile, Exists-tile}
use Rattle.cj_bezier.proofs.KindLemmas.{from_same_kind}
use Rattle.cj_bezier.proofs.TrueLeafLemmas.{IsTrueLeaf, tells_of, outside_of}
use Rattle.cj_cert.specs.Accepted.{IsSupported}
use Rattle.cj_cert.specs.Certificates.{PlainCertificate}
use Rattle.cj_cert.specs.Splits.{CellsSplit}
use Rattle.cj_cert.proofs.AcceptedLemmas.{IsLookedAt, true_leaf}
use Rattle.cj_cert.proofs.ListedLemmas.{AreAllInTime, in_shells}
use Rattle.cj_cert.proofs.TiledLemmas.{in_part, true_cell}
use Rattle.cj_cert.proofs.WrittenLemmas.{root_tile}
use Rattle.cj_cert.proofs.WrittenLineLemmas.{of_lines_in}
use Rattle.cj_brief.specs.Accepted.{is_candidate_in_brief, TilesOrFar, TileOrFar, IsFarThroughout, AcceptedInBrief}
use Rattle.cj_brief.specs.Certificates.{PlainBrief, shells_in_brief}
use Rattle.cj_brief.proofs.RootsBySlotLemmas.{Each-by_slot, Exists-by_slot, admitted_by_slot}

-- ---- what holds of each cell, and which ticks are in one

part_holds : (P S : PlainLeaf → Type 0) (F : PlainCell → Type 0) (r : PlainCell) (part : List PlainLeaf) → ((s : PlainLeaf) → IsLeaf P r.a r.b r.first r.last s → S s)
    → TilesOrFar P F r part → Each S part
part_holds P S F r part law (inl tile) = Each-weaker (IsLeaf P r.a r.b r.first r.last) S law part (Each-tile P r.a r.b r.first r.first r.last part (omega arith) tile)
part_holds P S F r part law (inr left) = subst (Each S) (sym left.0) tt

each_cell : (P S : PlainLeaf → Type 0) (F Q : PlainCell → Type 0) → ((r : PlainCell) (s : PlainLeaf) → Q r → IsLeaf P r.a r.b r.first r.last s → S s)
    → (roots : List PlainCell) (parts : List (List PlainLeaf)) → AllZip (TilesOrFar P F) roots parts → Each Q roots → Each S (flat_map (λ part. part) parts)
each_cell P S F Q law [] [] tiles each = tt
each_cell P S F Q law [] (part ∷ parts) tiles each = absurd tiles
each_cell P S F Q law (r ∷ roots) [] tiles each = absurd tiles
each_cell P S F Q law (r ∷ roots) (part ∷ parts) tiles each =
    Each-append S part (flat_map (λ part. part) parts) (part_holds P S F r part (λ s leaf. law r s each.0 leaf) tiles.0) (each_cell P S F Q law roots parts tiles.1 each.1)

pub each_told : (P S : PlainLeaf → Type 0) (F Q : PlainCell → Type 0) → ((r : PlainCell) (s : PlainLeaf) → Q r → IsLeaf P r.a r.b r.first r.last s → S s)
    → (roots : List PlainCell) (cells : List PlainLeaf) → TileOrFar P F roots cells → Each Q roots → Each S cells
each_told P S F Q law roots cells tile each = subst (Each S) (sym tile.whole) (each_cell P S F Q law roots tile.parts tile.tiles each)

-- a tick of a root lies in one of its cells, or F holds of the root
part_has : (P : PlainLeaf → Type 0) (F Q : PlainCell → Type 0) (G : Type 0) (a b m : ℕ) → ((r : PlainCell) → Q r → F r → HasTickOf a b m r → G)
    → (r : PlainCell) (part : List PlainLeaf) → TilesOrFar P F r part → Q r → HasTickOf a b m r → Exists (IsTickOf a b m) part ⊎ G
part_has P F Q G a b m far r part (inl tile) is has = inl (in_part P a b m r part tile has)
part_has P F Q G a b m far r part (inr left) is has = inr (far r is left.1 has)

some_cell : (P : PlainLeaf → Type 0) (F Q : PlainCell → Type 0) (G : Type 0) (a b m : ℕ) → ((r : PlainCell) → Q r → F r → HasTickOf a b m r → G)
    → (roots : List PlainCell) (parts : List (List PlainLeaf)) → AllZip (TilesOrFar P F) roots parts → Each Q roots → Exists (HasTickOf a b m) roots
    → Exists (IsTickOf a b m) (flat_map (λ part. part) parts) ⊎ G
some_cell P F Q G a b m far [] parts tiles each here = absurd here
some_cell P F Q G a b m far (r ∷ roots) [] tiles each here = absurd tiles
some_cell P F Q G a b m far (r ∷ roots) (part ∷ parts) tiles each (inl here) = elim (part_has P F Q G a b m far r part tiles.0 each.0 here) [
  | inl found ↦ inl (Exists-left (IsTickOf a b m) part (flat_map (λ part. part) parts) found)
  | inr other ↦ inr other
]
some_cell P F Q G a b m far (r ∷ roots) (part ∷ parts) tiles each (inr rest) = elim (some_cell P F Q G a b m far roots parts tiles.1 each.1 rest) [
  | inl found ↦ inl (Exists-right (IsTickOf a b m) part (flat_map (λ part. part) parts) found)
  | inr other ↦ inr other
]

pub some_told : (P : PlainLeaf → Type 0) (F Q : PlainCell → Type 0) (G : Type 0) (a b m : ℕ) → ((r : PlainCell) → Q r → F r → HasTickOf a b m r → G)
    → (roots : List PlainCell) (cells : List PlainLeaf) → TileOrFar P F roots cells → Each Q roots → Exists (HasTickOf a b m) roots → Exists (IsTickOf a b m) cells ⊎ G
some_told P F Q G a b m far roots cells tile each here =
    subst (λ (ss : List PlainLeaf). Exists (IsTickOf a b m) ss ⊎ G) (sym tile.whole) (some_cell P F Q G a b m far roots tile.parts tile.tiles each here)

-- ---- a root that is far throughout

abbrev IsFarAt : PlainProblem → ℕ → ℕ → ℕ → Type 0
IsFarAt case a b m = OfObjectsAt case a b m (λ c d. IsFar c d (threshold_of case a b) m)

-- its objects are far at each of its ticks
pub far_in : (case : PlainProblem) (a b m : ℕ) → AreAllInTime case → 10 ^ 9 ≤ case.threshold → (r : PlainCell) → IsRootOf case r → IsFarThroughout case r → HasTickOf a b m r → IsFarAt case a b m
unfolding is_far_throughout
far_in case a b m time big r is far has = found (leaves_of_root case r) here
  where
    IsFarLeaf : PlainLeaf → Type 0
    IsFarLeaf s = IsLeaf (IsSupported case) r.a r.b r.first r.last s × (same_kind Far s.kind ≡ true)

    tile : Tile (IsSupported case) r.a r.b r.first r.last (leaves_of_root case r)
    tile = root_tile case r time big is

    here : Exists (λ s. IsFarLeaf s × HasTick m s) (leaves_of_root case r)
    here =
        let leaves = leaves_of_root case r in
        Each-exists IsFarLeaf (HasTick m) leaves
        (Each-both (IsLeaf (IsSupported case) r.a r.b r.first r.last) (λ s. same_kind Far s.kind ≡ true) leaves (Each-tile (IsSupported case) r.a r.b r.first r.first r.last leaves (omega arith) tile)
        (each_from_list_all (λ s. same_kind Far s.kind) leaves far))
        (Exists-tile (IsSupported case) r.a r.b r.first r.last m leaves tile has.from has.to)

    at_leaf : (s : PlainLeaf) → IsFarLeaf s → HasTick m s → IsFarAt case a b m
    at_leaf s leaf tick =
        let object : s.a ≡ a = leaf.0.first_object ∙ has.first_object in
        let other : s.b ≡ b = leaf.0.second_object ∙ has.second_object in
        let own : OfObjectsAt case s.a s.b m (λ c d. Holds s.kind c d (threshold_of case s.a s.b) m) = true_cell case r s time big is leaf.0 m tick.from tick.to in
        let told : IsFarAt case s.a s.b m = subst (λ (k : Kind). OfObjectsAt case s.a s.b m (λ c d. Holds k c d (threshold_of case s.a s.b) m)) (sym (from_same_kind Far s.kind leaf.1)) own in
        subst (λ (y : ℕ). IsFarAt case a y m) other (subst (λ (x : ℕ). IsFarAt case x s.b m) object told)

    found : (ss : List PlainLeaf) → Exists (λ s. IsFarLeaf s × HasTick m s) ss → IsFarAt case a b m
    found [] h = absurd h
    found (s ∷ ss) (inl both) = at_leaf s both.0 both.1
    found (s ∷ ss) (inr rest) = found ss rest

-- ---- what is no candidate

-- the exact boxes hold their objects
pub exact_boxes : (case : PlainProblem) → AreAllInTime case → AreInBoxes case (boxes_in case)
unfolding boxes_in
exact_boxes case time slot i e lt is =
    let from = slot_first case.first slot in
    let to = slot_last case.first case.last slot in
    let own : reaches_in (boxes_in case slot) i ≡ box_of e from to =
    ap (λ (o : Option (Option PlainBox)). option_and_then (λ box. box) o)
    (slice_get-map (λ e. box_of e from to) case.tracks i ∙ ap (λ (o : Option PlainTrack). option_map (λ e. box_of e from to) o) is) in
    subst (λ (b : Option PlainBox). IsInBox from to e b) (sym own)
    (record { none = λ none. none_without e from to none; holds = λ r some m low high. box_holds e from to m r (time i e is from to) some low high })

-- the same shells in a certificate in full
abbrev in_full : PlainProblem → PlainBrief → PlainCertificate
in_full case c = of_lines_in Two case c.objects c.sizes c.shells [] c.cells

others : (case : PlainProblem) (c : PlainBrief) → AreAllInTime case → AcceptedInBrief case c → OthersAreFar case (is_candidate_in_brief case c)
unfolding is_candidate_in_brief
others case c time accepted = others_far case (shells_in_brief c) (boxes_in case) (in_shells case (in_full case c) time accepted.shells) (exact_boxes case time)

-- the roots of the candidates are of pairs with a primary
looked_at_roots : (case : PlainProblem) (c : PlainBrief) → Each (IsLookedAt case) (roots_by_slot (is_candidate_in_brief case c) case)
unfolding is_candidate_in_brief
looked_at_roots case c =
    Each-both (IsRootOf case) (λ r. concerns case (r.a, r.b) ≡ true) (roots_by_slot (is_candidate_in_brief case c) case) (Each-by_slot (is_candidate_in_brief case c) case)
    (admitted_by_slot (λ a b. concerns case (a, b) ≡ true) (is_candidate_in_brief case c) case (looked_at case (shells_in_brief c) (boxes_in case)))

-- ---- the law

pub splits_in_brief : (case : PlainProblem) (c : PlainBrief) → AreAllInTime case → 10 ^ 9 ≤ case.threshold → AcceptedInBrief case c → CellsSplit case c.cells
splits_in_brief case c time big accepted = record {
  near = λ a b m here. let told = tells_of case c.cells Near a b m all here in (told.common, told.holds);
  undecided = λ a b m here. let told = tells_of case c.cells Undecided a b m all here in (told.common, told.holds);
  outside = λ a b m common near undecided. by_candidate a b m common (is_candidate_in_brief case c a b (slot_of case.first m)) refl near undecided;
}
  where
    roots : List PlainCell
    roots = roots_by_slot (is_candidate_in_brief case c) case

    all : All (IsTrueLeaf case) c.cells
    all =
        All-from_each (IsTrueLeaf case) c.cells
        (each_told (IsSupported case) (IsTrueLeaf case) (IsFarThroughout case) (IsLookedAt case) (true_leaf case time big) roots c.cells accepted.cells (looked_at_roots case c))

    told_or_far : (a b m : ℕ) → IsCommonOf case a b m → is_candidate_in_brief case c a b (slot_of case.first m) ≡ true → Exists (IsTickOf a b m) c.cells ⊎ IsFarAt case a b m
    told_or_far a b m common is =
        let numbers = numbers_exist case a b m common.nodes in
        some_told (IsSupported case) (IsFarThroughout case) (IsRootOf case) (IsFarAt case a b m) a b m (far_in case a b m time big) roots c.cells accepted.cells
        (Each-by_slot (is_candidate_in_brief case c) case)
        (Exists-by_slot (is_candidate_in_brief case c) case a b m common.ordered (second_exists case a b m common.nodes) common.after common.before is
        (some_both (number_at case a m) (number_at case b m) numbers.0 numbers.1))

    Lies : Kind → ℕ → ℕ → ℕ → Type 0
    Lies kind a b m = Any (LiesIn kind a b m) c.cells

    by_candidate : (a b m : ℕ) → IsCommonOf case a b m → (k : Bool) → is_candidate_in_brief case c a b (slot_of case.first m) ≡ k → ¬ Lies Near a b m → ¬ Lies Undecided a b m → IsFarAt case a b m
    by_candidate a b m common false is near undecided = others case c time accepted a b m common is
    by_candidate a b m common true is near undecided = elim (told_or_far a b m common is) [
      | inl here ↦ outside_of case c.cells a b m true all (λ _. Any-from_exists (IsTickOf a b m) c.cells here) (λ other. absurd cc) near undecided
      | inr far ↦ far
    ]
