-- What the binary searches over segments and nodes find.
use Rattle.std.specs.Prelude.{◌≡◌, ℕ, suc, ◌+◌, ◌<◌, ◌≤◌, List, length, slice_index, slice_index_or}
use Rattle.cj_track.specs.declared.node.Node.{Node}
use Rattle.cj_track.specs.declared.segment.Segment.{Segment}
use Rattle.cj_track.specs.Segments.{starts_from}
use Rattle.cj_hermite.specs.declared.found_pieces.FoundPiece.{FoundPiece}

-- the last segment that begins at tick m or before
pub record IsLastBegun (m : ℕ) (segments : List Segment) (k : ℕ) : Type 0 where
  pub exists : k < length segments
  pub begun : (d : Segment) → (slice_index_or segments k d).first.micros ≤ m
  pub next : (d : Segment) → suc k < length segments → m < (slice_index_or segments (suc k) d).first.micros

-- there is a segment with this number, and it begins at tick m or before
pub record HasBegun (m : ℕ) (segments : List Segment) (k : ℕ) : Type 0 where
  pub exists : k < length segments
  pub begun : (d : Segment) → (slice_index_or segments k d).first.micros ≤ m

-- all begin later
abbrev pub AllLater : ℕ → List Segment → Type 0
AllLater m segments = (j : ℕ) (d : Segment) → j < length segments → m < (slice_index_or segments j d).first.micros

-- the nodes at tick m or before are the first p
pub record AreReached (m p : ℕ) (nodes : List Node) : Type 0 where
  pub before : (j : ℕ) (d : Node) → j < p → (slice_index_or nodes j d).at.micros ≤ m
  pub behind : (j : ℕ) (d : Node) → p ≤ j → j < length nodes → m < (slice_index_or nodes j d).at.micros

-- there is a node with this number, not the last, and it stands at tick m or before
pub record IsReached (m : ℕ) (nodes : List Node) (k : ℕ) : Type 0 where
  pub exists : suc k < length nodes
  pub before : (d : Node) → (slice_index_or nodes k d).at.micros ≤ m

-- the tick lies between the node and the next, and at the next only if that is the last
pub record IsFromNode (m : ℕ) (nodes : List Node) (i : ℕ) (d : Node) : Type 0 where
  pub exists : suc i < length nodes
  pub from : (slice_index_or nodes i d).at.micros ≤ m
  pub to : m ≤ (slice_index_or nodes (suc i) d).at.micros
  pub next : suc (suc i) < length nodes → m < (slice_index_or nodes (suc i) d).at.micros

-- the last segment whose pieces begin at this number or before
pub record IsLastStarted (index : ℕ) (starts : List ℕ) (k : ℕ) : Type 0 where
  pub exists : k < length starts
  pub started : slice_index starts k ≤ index
  pub next : suc k < length starts → index < slice_index starts (suc k)

-- the piece with this number among all goes from this node of this segment
pub record IsPlace (segments : List Segment) (found : FoundPiece) : Type 0 where
  pub exists : found.segment < length segments
  pub number : found.index ≡ slice_index (starts_from 0 segments) found.segment + found.node
  pub within : (d : Segment) → found.node + 1 < length (slice_index_or segments found.segment d).nodes
