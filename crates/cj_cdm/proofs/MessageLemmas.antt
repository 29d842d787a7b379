-- When there is a message.
use Rattle.std.proofs.Common.{◌≡◌, ℕ, ap, sym, ◌∙◌, refl, false, Option, Some, None, option_map, is_some}
use Rattle.std.specs.Prelude.{◌&&◌, option_and_then, slice_get}
use Rattle.cj_track.specs.PlainTracks.{PlainSegment, PlainTrack}
use Rattle.cj_hermite.specs.Pieces.{PlainPiece, curve_of_piece, piece_holding, piece_at, pieces_of, last_covering}
use Rattle.cj_case.specs.PlainProblems.{PlainProblem}
use Rattle.cj_cdm.specs.Building.{have_covariances, message_of, object_covariance, object_side, side_of, side_with}
use Rattle.cj_cdm.specs.Covariances.{covariance_at, covariance_for, segment_with}
use Rattle.cj_cdm.specs.Messages.{PlainSide, PlainStamp}

pub some_mapped : {A B : Type 0} (f : A → B) (x : Option A) → is_some (option_map f x) ≡ is_some x
some_mapped f None = refl
some_mapped f (Some x) = refl

-- an object has a covariance only where it has a state
some_side : (e : PlainTrack) (m : ℕ) (l : Option (ℕ × PlainPiece)) →
    let covariance = option_and_then (λ (segment : PlainSegment). covariance_for m segment.covariances) (option_and_then (λ index. segment_with index e.segments) (option_map (λ (x : ℕ × PlainPiece). x.0) l)) in
    is_some (option_and_then (λ (x : PlainPiece). option_map (side_with e m (curve_of_piece x)) covariance) (option_map (λ (x : ℕ × PlainPiece). x.1) l)) ≡ is_some covariance
some_side e m None = refl
some_side e m (Some x) = some_mapped (side_with e m (curve_of_piece x.1)) _

side_some : (e : PlainTrack) (m : ℕ) → is_some (side_of e m) ≡ is_some (covariance_at e m)
unfolding side_of covariance_at piece_holding piece_at
side_some e m = some_side e m (last_covering m 0 (pieces_of e))

some_object : (m : ℕ) (e : Option PlainTrack) → is_some (option_and_then (λ e. side_of e m) e) ≡ is_some (option_and_then (λ e. covariance_at e m) e)
some_object m None = refl
some_object m (Some e) = side_some e m

some_both : {A B C : Type 0} (f : A → B → C) (x : Option A) (y : Option B) → is_some (option_and_then (λ a. option_map (λ b. f a b) y) x) ≡ (is_some x && is_some y)
some_both f None y = refl
some_both f (Some a) y = some_mapped (λ b. f a b) y

-- there is a message exactly where both objects have a covariance
pub message_some : (case : PlainProblem) (a b m miss : ℕ) (stamp : PlainStamp) → is_some (message_of case a b m miss stamp) ≡ have_covariances case a b m
unfolding message_of
message_some case a b m miss stamp =
    some_both (λ (object1 object2 : PlainSide). record {
      stamp = stamp;
      tca = m;
      miss = miss;
      start = case.first;
      stop = case.last;
      object1 = object1;
      object2 = object2;
    }) (object_side case a m) (object_side case b m)
    ∙ ap (λ t. t && is_some (object_side case b m)) (some_object m (slice_get case.tracks a))
    ∙ ap (λ t. is_some (object_covariance case a m) && t) (some_object m (slice_get case.tracks b))

no_some : {A : Type 0} (o : Option A) → is_some o ≡ false → o ≡ None
no_some None none = refl
no_some (Some x) none = absurd (cc)

-- without a covariance nothing is said of an object
pub object_bare : (case : PlainProblem) (object m : ℕ) → None ≡ object_covariance case object m → None ≡ object_side case object m
object_bare case object m none =
    sym (no_some (object_side case object m) (some_object m (slice_get case.tracks object) ∙ sym (ap is_some none)))
