-- The objects of a problem at a tick: their interpolants, and what one is relative to another.
use Rattle.std.proofs.Common.{◌≡◌, ◌∙◌, ℕ, ◌<◌, ◌≤◌, List, map, length, get_or, ap, sym, refl, Option, Some, None, option_map}
use Rattle.std.specs.Prelude.{IsSomeAnd, option_and_then, slice_get}
use Rattle.std.proofs.lemmas.Option.{slice_get-map, slice_get_past, slice_get_read}
use Rattle.cj_track.specs.declared.track.Track.{Track}
use Rattle.cj_track.specs.PlainTracks.{PlainTrack}
use Rattle.cj_track.specs.Tracks.{plain_track}
use Rattle.cj_case.specs.PlainProblems.{PlainProblem}
use Rattle.cj_hermite.specs.Interpolant.{Curve}
use Rattle.cj_hermite.specs.ObjectsAtTicks.{curve_at}
use Rattle.cj_hermite.specs.Pieces.{PlainPiece, curve_of_piece, piece_holding, piece_at, pieces_of, last_covering}
use Rattle.cj_hermite.proofs.TrackLemmas.{curve_is}
use Rattle.cj_rtn.specs.Relative.{relative_at, object_relative}

-- ---- a track of a list

-- the object of a track that is found in it
pub track_there : (given tracks : List Track) (i : ℕ) (t : Track) → tracks ≡ given → i < length tracks → t ≡ get_or tracks i t → slice_get (map plain_track given) i ≡ Some (plain_track t)
track_there given tracks i t same short is =
    slice_get-map plain_track given i
    ∙ ap (λ (ts : List Track). option_map plain_track (slice_get ts i)) (sym same)
    ∙ ap (option_map plain_track) (slice_get_read tracks (length tracks) i t refl short is)

-- or of none
pub track_missing : (given tracks : List Track) (i : ℕ) → tracks ≡ given → length tracks ≤ i → slice_get (map plain_track given) i ≡ None
track_missing given tracks i same past =
    slice_get-map plain_track given i
    ∙ ap (λ (ts : List Track). option_map plain_track (slice_get ts i)) (sym same)
    ∙ ap (option_map plain_track) (slice_get_past tracks i past)

-- ---- the interpolant of an object

pub no_object : (case : PlainProblem) (object m : ℕ) → slice_get case.tracks object ≡ None → None ≡ curve_at case object m
unfolding curve_at
no_object case object m none = sym (ap (λ (o : Option PlainTrack). option_map curve_of_piece (option_and_then (λ e. piece_holding e m) o)) none)

object_curve : (case : PlainProblem) (object m : ℕ) (e : PlainTrack) → slice_get case.tracks object ≡ Some e → curve_at case object m ≡ option_map curve_of_piece (piece_holding e m)
unfolding curve_at
object_curve case object m e is = ap (λ (o : Option PlainTrack). option_map curve_of_piece (option_and_then (λ e. piece_holding e m) o)) is

no_piece : (l : Option (ℕ × PlainPiece)) → option_map (λ (x : ℕ × PlainPiece). x.0) l ≡ None → option_map (λ (x : ℕ × PlainPiece). x.1) l ≡ None
no_piece None none = refl
no_piece (Some x) none = absurd (cc)

holding_none : (e : PlainTrack) (m : ℕ) → piece_at e m ≡ None → piece_holding e m ≡ None
unfolding piece_holding piece_at
holding_none e m none = no_piece (last_covering m 0 (pieces_of e)) none

pub no_state : (case : PlainProblem) (object m : ℕ) (e : PlainTrack) → slice_get case.tracks object ≡ Some e → piece_at e m ≡ None → None ≡ curve_at case object m
no_state case object m e is none = sym (object_curve case object m e is ∙ ap (option_map curve_of_piece) (holding_none e m none))

pub has_state : (case : PlainProblem) (object m : ℕ) (e : PlainTrack) (o : Option PlainPiece) (c : Curve) → slice_get case.tracks object ≡ Some e → o ≡ piece_holding e m → IsSomeAnd o (λ x. c ≡ curve_of_piece x)
    → Some c ≡ curve_at case object m
has_state case object m e o c is holding some = sym (object_curve case object m e is ∙ ap (option_map curve_of_piece) (sym holding) ∙ curve_is o c some)

-- ---- one object relative to another

pub without_first : (case : PlainProblem) (a b m : ℕ) → None ≡ curve_at case a m → None ≡ object_relative case a b m
unfolding object_relative
without_first case a b m none = ap (λ (x : Option Curve). option_and_then (λ c. option_and_then (λ d. relative_at c d m) (curve_at case b m)) x) none

pub without_second : (case : PlainProblem) (a b m : ℕ) → None ≡ curve_at case b m → None ≡ object_relative case a b m
unfolding object_relative
without_second case a b m none =
    sym (none_behind (curve_at case a m)) ∙ ap (λ (y : Option Curve). option_and_then (λ c. option_and_then (λ d. relative_at c d m) y) (curve_at case a m)) none
  where
    none_behind : (x : Option Curve) → option_and_then (λ (c : Curve). option_and_then (λ (d : Curve). relative_at c d m) None) x ≡ None
    none_behind None = refl
    none_behind (Some c) = refl

pub with_both : (case : PlainProblem) (a b m : ℕ) (c d : Curve) → Some c ≡ curve_at case a m → Some d ≡ curve_at case b m → relative_at c d m ≡ object_relative case a b m
unfolding object_relative
with_both case a b m c d first second =
    ap (λ (y : Option Curve). option_and_then (λ d. relative_at c d m) y) second
    ∙ ap (λ (x : Option Curve). option_and_then (λ c. option_and_then (λ d. relative_at c d m) (curve_at case b m)) x) first
