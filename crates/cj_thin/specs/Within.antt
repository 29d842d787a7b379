-- Within: what a track with fewer nodes has in common with the first one, and how near the two interpolants are.
use Rattle.std.specs.Prelude.{◌≡◌, ℕ, true, List, [], ◌∷◌, ◌++◌, map, is_some}
use Rattle.std.specs.List.{AllZip}
use Rattle.cj_track.specs.PlainTracks.{PlainNode, PlainTrack}
use Rattle.cj_hermite.specs.Pieces.{piece_holding, OfBothAt}
use Rattle.cj_hermite.specs.Distance.{IsWithinAt}

-- the second states are some of the first ones, in the same order, and begin and end alike
pub data IsThinner : List PlainNode → List PlainNode → Type 0 where
  one : (a : PlainNode) → IsThinner (a ∷ []) (a ∷ [])
  step : (a : PlainNode) (out xs ys : List PlainNode) (b : PlainNode) → IsThinner (b ∷ xs) (b ∷ ys) → IsThinner (a ∷ (out ++ b ∷ xs)) (a ∷ b ∷ ys)

-- u is t with fewer nodes, and at each tick their interpolants are within e nm of each other
pub record IsThinnerWithin (e : ℕ) (t u : PlainTrack) : Type 0 where
  pub file : u.file ≡ t.file
  pub name : u.name ≡ t.name
  pub id : u.id ≡ t.id
  pub frame : u.frame ≡ t.frame
  pub first : map (λ s. s.first) u.segments ≡ map (λ s. s.first) t.segments
  pub last : map (λ s. s.last) u.segments ≡ map (λ s. s.last) t.segments
  pub covariances : map (λ s. s.covariances) u.segments ≡ map (λ s. s.covariances) t.segments
  pub nodes : AllZip IsThinner (map (λ s. s.nodes) t.segments) (map (λ s. s.nodes) u.segments)
  pub states : (m : ℕ) → is_some (piece_holding u m) ≡ is_some (piece_holding t m)
  pub near : (m : ℕ) → is_some (piece_holding t m) ≡ true → OfBothAt t u m (λ c d. IsWithinAt c d e m)
