-- Which certificates in brief are accepted for a problem.
use Rattle.std.specs.Prelude.{◌≡◌, ℕ, ◌⊎◌, Bool, true, List, [], length}
use Rattle.std.specs.List.{AllZip, flat_map}
use Rattle.cj_case.specs.PlainProblems.{PlainProblem}
use Rattle.cj_case.specs.Primaries.{named}
use Rattle.cj_case.specs.Cells.{PlainCell}
use Rattle.cj_case.specs.Leaves.{PlainLeaf}
use Rattle.cj_hermite.specs.Roots.{roots_by_slot}
use Rattle.cj_bezier.specs.Candidates.{boxes_in, candidate_by}
use Rattle.cj_bezier.specs.RootLeaves.{is_far_throughout}
use Rattle.cj_bezier.specs.Tiles.{Tile}
use Rattle.cj_cert.specs.Accepted.{AreSizes, AreShells, IsSupported}
use Rattle.cj_brief.specs.Certificates.{PlainBrief, shells_in_brief}

-- a pair is a candidate in a slot: it has a primary, its listed shells are not parted, and the boxes of its objects touch
unfoldable pub is_candidate_in_brief : PlainProblem → PlainBrief → ℕ → ℕ → ℕ → Bool
is_candidate_in_brief case c = candidate_by case (shells_in_brief c) (boxes_in case)

-- cells of a root of which P holds tile its ticks, or there are none and F holds of the root
abbrev pub TilesOrFar : (PlainLeaf → Type 0) → (PlainCell → Type 0) → PlainCell → List PlainLeaf → Type 0
TilesOrFar P F r part = Tile P r.a r.b r.first r.last part ⊎ ((part ≡ []) × F r)

-- cells in parts that follow one another, one for each root
pub record TileOrFar (P : PlainLeaf → Type 0) (F : PlainCell → Type 0) (roots : List PlainCell) (cells : List PlainLeaf) : Type 0 where
  pub parts : List (List PlainLeaf)
  pub whole : cells ≡ flat_map (λ part. part) parts
  pub tiles : AllZip (TilesOrFar P F) roots parts

-- all leaves of a root are far
abbrev pub IsFarThroughout : PlainProblem → PlainCell → Type 0
IsFarThroughout case r = is_far_throughout case r ≡ true

-- It was made for this window, threshold and number of objects, for these sizes and primaries. Its shells hold the objects. Its cells say of each tick
-- of the roots, of the candidates by these shells and the exact boxes, what is so, slot by slot; but roots that are far throughout may be
-- left out.
pub record AcceptedInBrief (case : PlainProblem) (c : PlainBrief) : Type 0 where
  pub first : c.first ≡ case.first
  pub last : c.last ≡ case.last
  pub threshold : c.threshold ≡ case.threshold
  pub objects : c.objects ≡ length case.tracks
  pub sizes : AreSizes case c.sizes
  pub primaries : c.primaries ≡ named case.primaries
  pub shells : AreShells case c.shells
  pub cells : TileOrFar (IsSupported case) (IsFarThroughout case) (roots_by_slot (is_candidate_in_brief case c) case) c.cells
