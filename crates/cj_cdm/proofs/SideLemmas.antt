-- What a message says of an object at a tick.
use Rattle.std.proofs.Common.{◌≡◌, ◌∙◌, ◌⊎◌, inl, inr, ℕ, zero, suc, ◌^◌, ◌<◌, ◌≤◌, arith, true, List, [], ◌∷◌, ◌++◌, map, length, get_or, ap, sym, subst, refl, Option, Some, None, option_map}
use Rattle.std.specs.Prelude.{IfSome, IsSomeAnd, nat_lt, option_and_then, slice_get, unsigned_abs}
use Rattle.std.proofs.lemmas.Bool.{lt-ltb}
use Rattle.std.proofs.lemmas.Option.{slice_get-map, slice_get_past, slice_get_read}
use Rattle.cj_track.specs.declared.track.Track.{Track}
use Rattle.cj_track.specs.Tracks.{plain_track}
use Rattle.cj_track.specs.PlainTracks.{PlainMatrix, PlainTrack}
use Rattle.cj_hermite.specs.Interpolant.{Curve}
use Rattle.cj_hermite.specs.Pieces.{PlainPiece, curve_of_piece, piece_holding, piece_at, pieces_of, last_covering}
use Rattle.cj_cdm.specs.Building.{side_of, side_with}
use Rattle.cj_cdm.specs.Covariances.{covariance_at}
use Rattle.cj_cdm.specs.Fits.{IsShort}
use Rattle.cj_cdm.specs.Indexed.{AreOfTracks}
use Rattle.cj_rtn.specs.Vectors.{IsEachWithin}
use Rattle.cj_rtn.specs.declared.vector.Vector.{Vector}

no_piece : (l : Option (ℕ × PlainPiece)) → option_map (λ (x : ℕ × PlainPiece). x.0) l ≡ None → option_map (λ (x : ℕ × PlainPiece). x.1) l ≡ None
no_piece None none = refl
no_piece (Some x) none = absurd (cc)

-- where it has no state
pub side_nowhere : (e : PlainTrack) (m : ℕ) → piece_at e m ≡ None → side_of e m ≡ None
unfolding side_of piece_holding piece_at
side_nowhere e m none = rw (no_piece (last_covering m 0 (pieces_of e)) none) refl

-- on an interpolant, with a covariance
pub side_built : (e : PlainTrack) (m : ℕ) (z : Option PlainPiece) (c : PlainMatrix) (curve : Curve) → piece_holding e m ≡ z → IsSomeAnd z (λ x. curve ≡ curve_of_piece x)
    → covariance_at e m ≡ Some c → side_of e m ≡ Some (side_with e m curve c)
unfolding side_of
side_built e m None c curve at same covariance = absurd same
side_built e m (Some x) c curve at same covariance = rw (at, covariance) (ap (λ (k : Curve). Some (side_with e m k c)) (sym same))

-- the object of a track that is found in a list
pub track_there : (given tracks : List Track) (i : ℕ) (t : Track) → tracks ≡ given → i < length tracks → t ≡ get_or tracks i t → slice_get (map plain_track given) i ≡ Some (plain_track t)
track_there given tracks i t same short is =
    slice_get-map plain_track given i
    ∙ ap (λ (ts : List Track). option_map plain_track (slice_get ts i)) (sym same)
    ∙ ap (option_map plain_track) (slice_get_read tracks (length tracks) i t refl short is)

-- or of none
pub track_missing : (given tracks : List Track) (i : ℕ) → tracks ≡ given → length tracks ≤ i → slice_get (map plain_track given) i ≡ None
track_missing given tracks i same past =
    slice_get-map plain_track given i
    ∙ ap (λ (ts : List Track). option_map plain_track (slice_get ts i)) (sym same)
    ∙ ap (option_map plain_track) (slice_get_past tracks i past)

-- what a push of a track that may be left out adds
pushed : {X : Type 0} (xs : List X) (x y : X) (j : ℕ) → slice_get (xs ++ x ∷ []) j ≡ Some y → (slice_get xs j ≡ Some y) ⊎ ((j ≡ length xs) × (x ≡ y))
pushed [] x y zero found = let same : x ≡ y = cc in inr (refl, same)
pushed [] x y (suc j) found = absurd (cc)
pushed (z ∷ xs) x y zero found = inl found
pushed (z ∷ xs) x y (suc j) found = elim (pushed xs x y j found) [
  | inl before ↦ inl before
  | inr here ↦ inr (ap suc here.0, here.1)
]

pub of_tracks_more : (tracks : List Track) (indexed : List (Option Track)) (x : Option Track) (track : Track) (i : ℕ) → AreOfTracks tracks indexed → length indexed ≡ i → i < length tracks
    → track ≡ get_or tracks i track → IfSome x (λ t. t ≡ track) → AreOfTracks tracks (indexed ++ x ∷ [])
of_tracks_more tracks indexed x track i before many below is here object t found = elim (pushed indexed x (Some t) object found) [
  | inl old ↦ before object t old
  | inr last ↦
      let number : object ≡ i = last.0 ∙ many in
      let same : t ≡ track = subst (λ (o : Option Track). IfSome o (λ u. u ≡ track)) last.1 here in
      ap (slice_get tracks) number ∙ slice_get_read tracks (length tracks) i track refl below is ∙ ap (λ (u : Track). Some u) (sym same)
]

-- the object of an index that is there
pub covariance_there : (tracks : List Track) (object m : ℕ) (t : Track) → slice_get tracks object ≡ Some t
    → covariance_at (plain_track t) m ≡ option_and_then (λ e. covariance_at e m) (slice_get (map plain_track tracks) object)
covariance_there tracks object m t found = sym (ap (option_and_then (λ e. covariance_at e m)) (slice_get-map plain_track tracks object ∙ ap (option_map plain_track) found))

-- components of at most so much are short
pub short_within : (m : ℕ) (v : Vector) → m < 10 ^ 36 → IsEachWithin m v → IsShort v
short_within m v less h = record { of_x = below (unsigned_abs v.x) m h.x less; of_y = below (unsigned_abs v.y) m h.y less; of_z = below (unsigned_abs v.z) m h.z less }
  where
    below : (n m : ℕ) → n ≤ m → m < 10 ^ 36 → nat_lt n (10 ^ 36) ≡ true
    below n m h k = lt-ltb n (10 ^ 36) (omega arith)
