-- Covariances in order of epoch.
use Rattle.std.specs.Prelude.{◌≡◌, ℕ, ◌+◌, ◌<◌, ◌≤◌, List, [], ◌∷◌, length, slice_index_or}
use Rattle.std.specs.List.Sorted.{IsPermutation}
use Rattle.cj_track.specs.declared.matrix.Matrix.{Matrix}
use Rattle.cj_cdm.specs.declared.dated.Dated.{Dated}

-- each of these covariances by its epoch and its place, counted from the given one
abbrev pub dated_from : ℕ → List Matrix → List Dated
dated_from place [] = []
dated_from place (matrix ∷ matrices) = record { at = matrix.at; place = place } ∷ dated_from (place + 1) matrices

-- in order of epoch, and those of one epoch in order of place
pub record AreInOrder (dated : List Dated) : Type 0 where
  pub epochs : (j k : ℕ) (d : Dated) → j ≤ k → k < length dated → (slice_index_or dated j d).at.micros ≤ (slice_index_or dated k d).at.micros
  pub places : (j k : ℕ) (d : Dated) → j ≤ k → k < length dated → (slice_index_or dated j d).at.micros ≡ (slice_index_or dated k d).at.micros
      → (slice_index_or dated j d).place ≤ (slice_index_or dated k d).place

-- each of these covariances once, in that order
pub record AreDated (matrices : List Matrix) (dated : List Dated) : Type 0 where
  pub same : IsPermutation (dated_from 0 matrices) dated
  pub order : AreInOrder dated

-- the first n are not after tick m, and the others are
pub record AreReached (m n : ℕ) (dated : List Dated) : Type 0 where
  pub before : (j : ℕ) (d : Dated) → j < n → (slice_index_or dated j d).at.micros ≤ m
  pub behind : (j : ℕ) (d : Dated) → n ≤ j → j < length dated → m < (slice_index_or dated j d).at.micros
