-- Where no cell fails, the cells tile their roots, and the roots that are left out are far throughout.
use Rattle.std.proofs.Common.{◌≡◌, ℕ, ◌+◌, ◌≤◌, ◌&&◌, not, Bool, true, false, cond, ◌⊎◌, inl, inr, List, [], ◌∷◌, Option, Some, None, Result, Ok, Err, refl, sym, subst, arith}
use Rattle.std.specs.Prelude.{◌==◌, nat_le, IsSomeAnd, slice_get}
use Rattle.std.specs.List.{AllZip, flat_map}
use Rattle.std.specs.Option.{option_map_or}
use Rattle.std.proofs.lemmas.Bool.{and_parts, eqb-true, leb-true, or_parts}
use Rattle.cj_case.specs.PlainProblems.{PlainProblem, threshold_of}
use Rattle.cj_case.specs.Cells.{PlainCell}
use Rattle.cj_case.specs.Leaves.{PlainLeaf}
use Rattle.cj_track.specs.PlainTracks.{PlainTrack}
use Rattle.cj_formats.specs.declared.check_cause.CheckCause.{CheckCause}
use Rattle.cj_formats.specs.declared.check_cause.CheckCause.TheVariants.{Untiled, Stranger}
use Rattle.cj_hermite.specs.Interpolant.{Curve}
use Rattle.cj_hermite.specs.Pieces.{PlainPiece, piece_holding, curve_of_piece, OfBothAt}
use Rattle.cj_bezier.specs.Gaps.{gap_terms, hull_gap}
use Rattle.cj_bezier.specs.RootLeaves.{is_far_throughout}
use Rattle.cj_bezier.specs.Tiles.{IsLeaf, Tile}
use Rattle.cj_bezier.specs.Verdicts.{Supports}
use Rattle.cj_bezier.proofs.TestLemmas.{decides_supports}
use Rattle.cj_cert.specs.Accepted.{IsSupported}
use Rattle.cj_checker.specs.First.{failed, begins, behind, unsupported}
use Rattle.cj_checker.specs.Tests.{is_supported}
use Rattle.cj_brief.specs.Accepted.{TilesOrFar, TileOrFar, IsFarThroughout}
use Rattle.cj_brief_checker.specs.First.{Left, comes_later, goes_on, left_behind, left_out, told_from, wants_cells}

-- ---- tests

-- the cell is of the root's objects, begins with it, and ends in it
record Begins (r : PlainCell) (s : PlainLeaf) : Type 0 where
  first_object : s.a ≡ r.a
  second_object : s.b ≡ r.b
  first : s.first ≡ r.first
  some : s.first ≤ s.last
  to : s.last ≤ r.last

begins_so : (r : PlainCell) (s : PlainLeaf) → begins r s ≡ true → Begins r s
begins_so r s h =
    let both = and_parts ((s.a == r.a) && (s.b == r.b)) ((s.first == r.first) && (nat_le s.first s.last && nat_le s.last r.last)) h in
    let objects = and_parts (s.a == r.a) (s.b == r.b) both.0 in
    let ticks = and_parts (s.first == r.first) (nat_le s.first s.last && nat_le s.last r.last) both.1 in
    let ends = and_parts (nat_le s.first s.last) (nat_le s.last r.last) ticks.1 in
    record {
      first_object = eqb-true s.a r.a objects.0;
      second_object = eqb-true s.b r.b objects.1;
      first = eqb-true s.first r.first ticks.0;
      some = leb-true s.first s.last ends.0;
      to = leb-true s.last r.last ends.1;
    }

-- what a test of an element tells
some_so : {X : Type 0} (test : X → Bool) (P : X → Type 0) → ((x : X) → test x ≡ true → P x) → (o : Option X) → option_map_or test o false ≡ true → IsSomeAnd o P
some_so test P law None h = absurd cc
some_so test P law (Some x) h = law x h

supported_so : (case : PlainProblem) (s : PlainLeaf) → is_supported case s ≡ true → IsSupported case s
supported_so case s h =
    some_so _ (λ (e : PlainTrack). IsSomeAnd (slice_get case.tracks s.b) (λ f. OfBothAt e f s.first P))
    (λ e he. some_so _ (λ (f : PlainTrack). OfBothAt e f s.first P)
    (λ f hf. some_so _ (λ (x : PlainPiece). IsSomeAnd (piece_holding f s.first) (λ y. P (curve_of_piece x) (curve_of_piece y)))
    (λ x hx. some_so _ (λ (y : PlainPiece). P (curve_of_piece x) (curve_of_piece y))
    (λ y hy. (decides_supports (gap_terms (hull_gap (curve_of_piece x) (curve_of_piece y) s.first s.last)) (threshold_of case s.a s.b) s.kind).0 hy)
    (piece_holding f s.first) hx) (piece_holding e s.first) hf) (slice_get case.tracks s.b) he) (slice_get case.tracks s.a) h
  where
    P : Curve → Curve → Type 0
    P c d = Supports (gap_terms (hull_gap c d s.first s.last)) (threshold_of case s.a s.b) s.kind

-- a root that wants no cells is not begun, and far throughout
unwanted : (case : PlainProblem) (begun : Bool) (r : PlainCell) → wants_cells case begun r ≡ false → (begun ≡ false) × IsFarThroughout case r
unwanted case begun r h =
    let parts = or_parts begun (not (is_far_throughout case r)) h in
    (parts.0, positive (is_far_throughout case r) parts.1)
  where
    positive : (b : Bool) → not b ≡ false → b ≡ true
    positive true h = refl
    positive false h = absurd cc

-- ---- cells against the roots that are left

-- The first root is cut where it is begun, and then has to be tiled.
abbrev FirstTiles : PlainProblem → Bool → PlainCell → List PlainLeaf → Type 0
FirstTiles case begun r part = Tile (IsSupported case) r.a r.b r.first r.last part ⊎ ((part ≡ []) × ((begun ≡ false) × IsFarThroughout case r))

abbrev AllTile : PlainProblem → List PlainCell → List (List PlainLeaf) → Type 0
AllTile case roots parts = AllZip (TilesOrFar (IsSupported case) (IsFarThroughout case)) roots parts

abbrev LeftTile : PlainProblem → Bool → List PlainCell → List (List PlainLeaf) → Type 0
LeftTile case begun [] [] = Unit {0}
LeftTile case begun [] (part ∷ parts) = ⊥
LeftTile case begun (r ∷ roots) [] = ⊥
LeftTile case begun (r ∷ roots) (part ∷ parts) = FirstTiles case begun r part × AllTile case roots parts

record AreTold (case : PlainProblem) (begun : Bool) (roots : List PlainCell) (cells : List PlainLeaf) : Type 0 where
  parts : List (List PlainLeaf)
  whole : cells ≡ flat_map (λ part. part) parts
  tiles : LeftTile case begun roots parts

first_any : (case : PlainProblem) (begun : Bool) (r : PlainCell) (part : List PlainLeaf) → FirstTiles case begun r part → TilesOrFar (IsSupported case) (IsFarThroughout case) r part
first_any case begun r part (inl tile) = inl tile
first_any case begun r part (inr left) = inr (left.0, left.1.1)

all_tile : (case : PlainProblem) (begun : Bool) (roots : List PlainCell) (parts : List (List PlainLeaf)) → LeftTile case begun roots parts → AllTile case roots parts
all_tile case begun [] [] tiles = tt
all_tile case begun [] (part ∷ parts) tiles = absurd tiles
all_tile case begun (r ∷ roots) [] tiles = absurd tiles
all_tile case begun (r ∷ roots) (part ∷ parts) tiles = (first_any case begun r part tiles.0, tiles.1)

-- nothing is told of the roots that are left at the end
none_told : (case : PlainProblem) (line : ℕ) (begun : Bool) (roots : List PlainCell) → left_out case line begun roots ≡ None → AreTold case begun roots []
unfolding left_out
none_told case line begun [] h = record { parts = []; whole = refl; tiles = tt }
none_told case line begun (r ∷ roots) h = go (wants_cells case begun r) refl h (none_told case line false roots)
  where
    go : (b : Bool) → wants_cells case begun r ≡ b → cond b (failed line Untiled) (left_out case line false roots) ≡ None
        → (left_out case line false roots ≡ None → AreTold case false roots []) → AreTold case begun (r ∷ roots) []
    go true is h rest = absurd cc
    go false is h rest =
        let far = unwanted case begun r is in
        let told = rest h in
        record { parts = [] ∷ told.parts; whole = told.whole; tiles = (inr (refl, far), all_tile case false roots told.parts told.tiles) }

leaf_of : (case : PlainProblem) (r : PlainCell) (s : PlainLeaf) → Begins r s → IsSupported case s → IsLeaf (IsSupported case) r.a r.b r.first r.last s
leaf_of case r s is support =
    let from : r.first ≤ s.first = omega (arith, is.first) in
    record { first_object = is.first_object; second_object = is.second_object; from = from; some = is.some; to = is.to; judged = support }

-- a cell more, behind which these roots are left
cell_more : (case : PlainProblem) (begun : Bool) (r : PlainCell) (roots : List PlainCell) (s : PlainLeaf) (cells : List PlainLeaf) → Begins r s → IsSupported case s
    → AreTold case (not (s.last == r.last)) (behind s r roots) cells → AreTold case begun (r ∷ roots) (s ∷ cells)
cell_more case begun r roots s cells is support told = go (s.last == r.last) refl told
  where
    rest : PlainCell
    rest = record { a = r.a; b = r.b; first = s.last + 1; last = r.last }

    leaf : IsLeaf (IsSupported case) r.a r.b r.first r.last s
    leaf = leaf_of case r s is support

    in_root : (parts : List (List PlainLeaf)) → cells ≡ flat_map (λ part. part) parts → LeftTile case true (rest ∷ roots) parts → AreTold case begun (r ∷ roots) (s ∷ cells)
    in_root [] whole tiles = absurd tiles
    in_root (part ∷ parts) whole tiles = elim tiles.0 [
      | inl tile ↦ record { parts = (s ∷ part) ∷ parts; whole = λ j. s ∷ whole j; tiles = (inl (is.first, (leaf, tile)), tiles.1) }
      | inr left ↦ let never = left.1.0 in absurd cc
    ]

    go : (b : Bool) → (s.last == r.last) ≡ b → AreTold case (not b) (cond b roots (rest ∷ roots)) cells → AreTold case begun (r ∷ roots) (s ∷ cells)
    go true same told =
        let last = eqb-true s.last r.last same in
        let end : s.last + 1 ≡ r.last + 1 = omega arith in
        let whole = told.whole in
        record { parts = (s ∷ []) ∷ told.parts; whole = λ j. s ∷ whole j; tiles = (inl (is.first, (leaf, end)), all_tile case false roots told.parts told.tiles) }
    go false other told = in_root told.parts told.whole told.tiles

-- a cell more, wherever among the roots it stands
one_more : (case : PlainProblem) (begun : Bool) (roots : List PlainCell) (s : PlainLeaf) (cells : List PlainLeaf) (left : Left) → left_behind case begun roots s ≡ Ok left
    → AreTold case left.begun left.roots cells → AreTold case begun roots (s ∷ cells)
unfolding left_behind
one_more case begun [] s cells left h told = absurd cc
one_more case begun (r ∷ roots) s cells left h told = at_root (begins r s) refl h (λ k. one_more case false roots s cells left k told)
  where
    Behind : Type 0
    Behind = left_behind case false roots s ≡ Ok left → AreTold case false roots (s ∷ cells)

    missed : (later wants : Bool) → wants_cells case begun r ≡ wants → cond later (cond wants (Err Untiled) (left_behind case false roots s)) (Err Stranger) ≡ Ok left → Behind
        → AreTold case begun (r ∷ roots) (s ∷ cells)
    missed false wants is h behind_it = absurd cc
    missed true true is h behind_it = absurd cc
    missed true false is h behind_it =
        let far = unwanted case begun r is in
        let rest = behind_it h in
        record { parts = [] ∷ rest.parts; whole = rest.whole; tiles = (inr (refl, far), all_tile case false roots rest.parts rest.tiles) }

    here : (support : Bool) → begins r s ≡ true → is_supported case s ≡ support
        → cond support (Ok (record { roots = behind s r roots; begun = not (s.last == r.last) })) (Err (unsupported s.kind)) ≡ Ok left → AreTold case begun (r ∷ roots) (s ∷ cells)
    here false is support h = absurd cc
    here true is support h =
        let made : Left = record { roots = behind s r roots; begun = not (s.last == r.last) } in
        let same : made ≡ left = cc in
        cell_more case begun r roots s cells (begins_so r s is) (supported_so case s support) (subst (λ (l : Left). AreTold case l.begun l.roots cells) (sym same) told)

    at_root : (b : Bool) → begins r s ≡ b
        → cond b (cond (is_supported case s) (Ok (record { roots = behind s r roots; begun = not (s.last == r.last) })) (Err (unsupported s.kind)))
        (cond (comes_later case.first r s) (cond (wants_cells case begun r) (Err Untiled) (left_behind case false roots s)) (Err Stranger)) ≡ Ok left → Behind
        → AreTold case begun (r ∷ roots) (s ∷ cells)
    at_root true is h behind_it = here (is_supported case s) is refl h
    at_root false is h behind_it = missed (comes_later case.first r s) (wants_cells case begun r) refl h behind_it

all_told : (case : PlainProblem) (cells : List PlainLeaf) (line : ℕ) (begun : Bool) (roots : List PlainCell) → told_from case cells line begun roots ≡ None → AreTold case begun roots cells
unfolding told_from
all_told case [] line begun roots h = none_told case line begun roots h
all_told case (s ∷ cells) line begun roots h = go (left_behind case begun roots s) refl h (λ left k. all_told case cells (line + 1) left.begun left.roots k)
  where
    go : (x : Result Left CheckCause) → left_behind case begun roots s ≡ x → goes_on (told_from case cells) line x ≡ None
        → ((left : Left) → told_from case cells (line + 1) left.begun left.roots ≡ None → AreTold case left.begun left.roots cells) → AreTold case begun roots (s ∷ cells)
    go (Err cause) is h rest = absurd cc
    go (Ok left) is h rest = one_more case begun roots s cells left is (rest left h)

pub told_tiles : (case : PlainProblem) (line : ℕ) (roots : List PlainCell) (cells : List PlainLeaf) → told_from case cells line false roots ≡ None
    → TileOrFar (IsSupported case) (IsFarThroughout case) roots cells
told_tiles case line roots cells h =
    let told = all_told case cells line false roots h in
    record { parts = told.parts; whole = told.whole; tiles = all_tile case false roots told.parts told.tiles }
