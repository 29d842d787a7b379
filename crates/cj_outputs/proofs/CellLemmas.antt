-- The cells of an accepted certificate are in order of pair and time, and each keeps the pieces of both its objects.
use Rattle.std.proofs.Common.{ℕ, ◌+◌, List, [], ◌∷◌, sym, subst, arith}
use Rattle.std.specs.List.{AllZip, flat_map}
use Rattle.cj_interval.proofs.ListLemmas.{Each, Ordered, Each-weaker, Each-append, Ordered-append, All-from_each, AllPairs-from_ordered}
use Rattle.cj_case.specs.PlainProblems.{PlainProblem}
use Rattle.cj_case.specs.Cells.{PlainCell, IsRootBefore}
use Rattle.cj_hermite.specs.Roots.{KeepPieces, roots_of}
use Rattle.cj_hermite.proofs.CurveLemmas.{keep_part, root_pieces}
use Rattle.cj_hermite.proofs.RootLemmas.{IsRootOf, Each-roots, Ordered-roots}
use Rattle.cj_case.specs.Leaves.{PlainLeaf}
use Rattle.cj_case.specs.Order.{IsBefore, AreInOrder}
use Rattle.cj_bezier.specs.Tiles.{IsLeaf, Tile}
use Rattle.cj_bezier.proofs.HalvingLemmas.{Each-tile}
use Rattle.cj_meet.specs.Closest.{KeepTheirPieces}
use Rattle.cj_cert.specs.Accepted.{IsSupported, Accepted}
use Rattle.cj_cert.specs.Certificates.{PlainCertificate}
use Rattle.cj_cert.specs.Listed.{is_candidate_listed}

-- cells in parts, one for each root, which tiles its ticks
abbrev TileEach : (PlainLeaf → Type 0) → List PlainCell → List (List PlainLeaf) → Type 0
TileEach P roots parts = AllZip (λ r part. Tile P r.a r.b r.first r.last part) roots parts

-- what follows for each of them from its root
each_of_parts : (P S : PlainLeaf → Type 0) (Q : PlainCell → Type 0) → ((r : PlainCell) (s : PlainLeaf) → Q r → IsLeaf P r.a r.b r.first r.last s → S s)
    → (roots : List PlainCell) (parts : List (List PlainLeaf)) → TileEach P roots parts → Each Q roots → Each S (flat_map (λ part. part) parts)
each_of_parts P S Q law [] [] tiles each = tt
each_of_parts P S Q law [] (part ∷ parts) tiles each = absurd tiles
each_of_parts P S Q law (r ∷ roots) [] tiles each = absurd tiles
each_of_parts P S Q law (r ∷ roots) (part ∷ parts) tiles each =
    Each-append S part (flat_map (λ part. part) parts)
    (Each-weaker (IsLeaf P r.a r.b r.first r.last) S (λ s leaf. law r s each.0 leaf) part (Each-tile P r.a r.b r.first r.first r.last part (omega arith) tiles.0))
    (each_of_parts P S Q law roots parts tiles.1 each.1)

-- ---- in order

-- leaves that tile ticks are in order
pub tile_ordered : (P : PlainLeaf → Type 0) (a b lo hi : ℕ) (ss : List PlainLeaf) → Tile P a b lo hi ss → Ordered IsBefore ss
tile_ordered P a b lo hi [] tile = tt
tile_ordered P a b lo hi (s ∷ ss) tile =
    let leaf = tile.1.0 in (
      Each-weaker (IsLeaf P a b (s.last + 1) hi) (IsBefore s)
          (λ t later. record {
            first_object = omega (arith, leaf.first_object, later.first_object);
            second_object = λ e. omega (arith, leaf.second_object, later.second_object);
            ticks = λ e f. omega (arith, later.from);
          })
          ss (Each-tile P a b (s.last + 1) (s.last + 1) hi ss (omega arith) tile.1.1),
      tile_ordered P a b (s.last + 1) hi ss tile.1.1,
    )

-- a leaf of a root lies before those of later roots
before_parts : (P : PlainLeaf → Type 0) (r : PlainCell) (s : PlainLeaf) → IsLeaf P r.a r.b r.first r.last s → (roots : List PlainCell) (parts : List (List PlainLeaf))
    → TileEach P roots parts → Each (IsRootBefore r) roots → Each (IsBefore s) (flat_map (λ part. part) parts)
before_parts P r s leaf roots parts tiles later =
    each_of_parts P (IsBefore s) (IsRootBefore r)
    (λ q t before other. record {
      first_object = omega (arith, leaf.first_object, other.first_object, before.first_object);
      second_object = λ e. omega (arith, leaf.second_object, other.second_object, before.second_object (omega (arith, leaf.first_object, other.first_object)));
      ticks = λ e f.
          omega (arith, leaf.to, other.from, before.ticks (omega (arith, leaf.first_object, other.first_object)) (omega (arith, leaf.second_object, other.second_object)));
    })
    roots parts tiles later

parts_ordered : (P : PlainLeaf → Type 0) (roots : List PlainCell) (parts : List (List PlainLeaf)) → TileEach P roots parts → Ordered IsRootBefore roots
    → Ordered IsBefore (flat_map (λ part. part) parts)
parts_ordered P [] [] tiles ordered = tt
parts_ordered P [] (part ∷ parts) tiles ordered = absurd tiles
parts_ordered P (r ∷ roots) [] tiles ordered = absurd tiles
parts_ordered P (r ∷ roots) (part ∷ parts) tiles ordered =
    Ordered-append IsBefore part (flat_map (λ part. part) parts) (tile_ordered P r.a r.b r.first r.last part tiles.0) (parts_ordered P roots parts tiles.1 ordered.1)
    (Each-weaker (IsLeaf P r.a r.b r.first r.last) (λ s. Each (IsBefore s) (flat_map (λ part. part) parts))
    (λ s leaf. before_parts P r s leaf roots parts tiles.1 ordered.0)
    part (Each-tile P r.a r.b r.first r.first r.last part (omega arith) tiles.0))

pub cells_in_order : (case : PlainProblem) (c : PlainCertificate) → Accepted case c → AreInOrder c.cells
cells_in_order case c accepted =
    let candidate = is_candidate_listed case c in
    let tile = accepted.cells in
    AllPairs-from_ordered IsBefore c.cells
    (subst (Ordered IsBefore) (sym tile.whole) (parts_ordered (IsSupported case) (roots_of candidate case) tile.parts tile.tiles (Ordered-roots candidate case)))

-- ---- in their pieces

abbrev pub Keeps : PlainProblem → PlainLeaf → Type 0
Keeps case s = KeepPieces case s.a s.b s.first s.last

-- a leaf of a root keeps the root's
pub kept : (case : PlainProblem) (r : PlainCell) (s : PlainLeaf) → IsRootOf case r → IsLeaf (IsSupported case) r.a r.b r.first r.last s → Keeps case s
kept case r s is leaf =
    subst (λ (a : ℕ). KeepPieces case a s.b s.first s.last) (sym leaf.first_object)
    (subst (λ (b : ℕ). KeepPieces case r.a b s.first s.last) (sym leaf.second_object)
    (keep_part case r.a r.b r.first r.last s.first s.last (root_pieces case r is) leaf.from leaf.some leaf.to))

pub cells_keep : (case : PlainProblem) (c : PlainCertificate) → Accepted case c → KeepTheirPieces case c.cells
cells_keep case c accepted =
    let candidate = is_candidate_listed case c in
    let tile = accepted.cells in
    All-from_each (Keeps case) c.cells
    (subst (Each (Keeps case)) (sym tile.whole)
    (each_of_parts (IsSupported case) (Keeps case) (IsRootOf case) (kept case) (roots_of candidate case) tile.parts tile.tiles (Each-roots candidate case)))
