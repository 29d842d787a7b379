-- Same: what a track without the states that no tick of a window needs has in common with the whole one.
use Rattle.std.specs.Prelude.{◌≡◌, ℕ, ◌≤◌, List, ◌++◌, map, Option, option_map}
use Rattle.std.specs.List.{AllZip}
use Rattle.cj_track.specs.PlainTracks.{PlainNode, PlainTrack}
use Rattle.cj_hermite.specs.Pieces.{piece_holding, curve_of_piece}

-- the two states between which a track is at a tick, or none where it has no state
abbrev pub states_at : PlainTrack → ℕ → Option (PlainNode × PlainNode)
states_at e m = option_map (λ x. (x.from, x.to)) (piece_holding e m)

-- the second states stand on end among the first ones
pub record HasRun (all run : List PlainNode) : Type 0 where
  pub before : List PlainNode
  pub behind : List PlainNode
  pub whole : all ≡ before ++ (run ++ behind)

-- U is t with no other states than these, and at each tick of the window from first to last it is between the same two, or has no state
-- where t has none. So both have one interpolant there.
pub record IsSameWithin (first last : ℕ) (t u : PlainTrack) : Type 0 where
  pub file : u.file ≡ t.file
  pub name : u.name ≡ t.name
  pub id : u.id ≡ t.id
  pub frame : u.frame ≡ t.frame
  pub covariances : map (λ s. s.covariances) u.segments ≡ map (λ s. s.covariances) t.segments
  pub nodes : AllZip HasRun (map (λ s. s.nodes) t.segments) (map (λ s. s.nodes) u.segments)
  pub states : (m : ℕ) → first ≤ m → m ≤ last → states_at u m ≡ states_at t m
  pub curves : (m : ℕ) → first ≤ m → m ≤ last → option_map curve_of_piece (piece_holding u m) ≡ option_map curve_of_piece (piece_holding t m)
