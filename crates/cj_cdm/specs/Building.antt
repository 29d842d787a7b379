-- The message of an encounter.
use Rattle.std.specs.Prelude.{ℕ, Bool, ◌&&◌, is_some, map, Option, option_map, option_and_then, slice_get, pos}
use Rattle.cj_base.specs.Numbers.{Number}
use Rattle.cj_base.specs.Decimals.{shifted}
use Rattle.cj_track.specs.PlainTracks.{PlainMatrix, PlainTrack}
use Rattle.cj_hermite.specs.Interpolant.{Curve}
use Rattle.cj_hermite.specs.Pieces.{piece_holding, curve_of_piece}
use Rattle.cj_case.specs.PlainProblems.{PlainProblem}
use Rattle.cj_cdm.specs.Covariances.{covariance_at}
use Rattle.cj_cdm.specs.Designators.{designator_of}
use Rattle.cj_cdm.specs.Messages.{PlainSide, PlainStamp, PlainMessage}
use Rattle.cj_rtn.specs.States.{place_at, rate_at}

-- a number of square kilometres in square metres
abbrev pub in_square_metres : Number → Number
in_square_metres n = shifted n (pos 6)

-- an object on this interpolant at tick m, with this covariance
abbrev pub side_with : PlainTrack → ℕ → Curve → PlainMatrix → PlainSide
side_with e m curve covariance = record {
  id = e.id;
  name = e.name;
  designator = designator_of e.id;
  file = e.file;
  frame = e.frame;
  place = place_at curve m;
  rate = rate_at curve m;
  epoch = covariance.at;
  values = map in_square_metres covariance.values;
}

-- an object at tick m, or none where it has no state or no covariance
unfoldable pub side_of : PlainTrack → ℕ → Option PlainSide
side_of e m = option_and_then (λ x. option_map (side_with e m (curve_of_piece x)) (covariance_at e m)) (piece_holding e m)

-- the same by the object's number
abbrev pub object_side : PlainProblem → ℕ → ℕ → Option PlainSide
object_side case object m = option_and_then (λ e. side_of e m) (slice_get case.tracks object)

-- the covariance of an object at tick m, by the object's number
abbrev pub object_covariance : PlainProblem → ℕ → ℕ → Option PlainMatrix
object_covariance case object m = option_and_then (λ e. covariance_at e m) (slice_get case.tracks object)

-- the objects a and b both have a covariance at tick m
abbrev pub have_covariances : PlainProblem → ℕ → ℕ → ℕ → Bool
have_covariances case a b m = is_some (object_covariance case a m) && is_some (object_covariance case b m)

-- the message of the objects a and b, whose closest approach is at tick m at the distance `miss`, or none where an object has no covariance
unfoldable pub message_of : PlainProblem → ℕ → ℕ → ℕ → ℕ → PlainStamp → Option PlainMessage
message_of case a b m miss stamp =
    option_and_then (λ object1. option_map (λ object2. record {
      stamp = stamp;
      tca = m;
      miss = miss;
      start = case.first;
      stop = case.last;
      object1 = object1;
      object2 = object2;
    }) (object_side case b m)) (object_side case a m)
