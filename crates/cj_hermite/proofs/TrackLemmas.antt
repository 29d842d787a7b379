-- The objects of a problem by its tracks.
use Rattle.std.proofs.Common.{◌≡◌, ℕ, zero, suc, ◌<◌, ◌≤◌, true, false, List, [], ◌∷◌, map, length, get_or, Option, Some, None, refl, sym, ap, ◌∙◌, inl, inr, arith}
use Rattle.std.proofs.lemmas.Bool.{cases_lt}
use Rattle.std.proofs.lemmas.List.{length-map}
use Rattle.std.specs.Prelude.{is_some, slice_get, option_map, option_and_then, IsSomeAnd}
use Rattle.cj_track.specs.declared.track.Track.{Track}
use Rattle.cj_track.specs.PlainTracks.{PlainTrack}
use Rattle.cj_track.specs.Tracks.{plain_track}
use Rattle.cj_case.specs.declared.problem.Problem.{Problem}
use Rattle.cj_hermite.specs.declared.pieces.Piece.{Piece}
use Rattle.cj_hermite.specs.Interpolant.{Curve, curve_of, IsOver}
use Rattle.cj_hermite.specs.Pieces.{PlainPiece, piece_holding, piece_at, curve_of_piece}
use Rattle.cj_case.specs.PlainProblems.{PlainProblem}
use Rattle.cj_hermite.specs.ObjectsAtTicks.{number_at, curve_at}
use Rattle.cj_case.specs.Problems.{plain_problem}
use Rattle.cj_hermite.specs.Roots.{KeepPieces}
use Rattle.cj_hermite.proofs.CurveLemmas.{Curves, curves, curves_of, numbers_of}
use Rattle.cj_hermite.proofs.ObjectLemmas.{within_at}

slice_get-map : {X Y : Type 0} (f : X → Y) (xs : List X) (i : ℕ) (d : X) → i < length xs → slice_get (map f xs) i ≡ Some (f (get_or xs i d))
slice_get-map f [] i d lt = absurd (omega arith)
slice_get-map f (x ∷ xs) zero d lt = refl
slice_get-map f (x ∷ xs) (suc i) d lt = slice_get-map f xs i d (omega arith)

slice_get-past : {X Y : Type 0} (f : X → Y) (xs : List X) (i : ℕ) → length xs ≤ i → slice_get (map f xs) i ≡ None
slice_get-past f [] i le = refl
slice_get-past f (x ∷ xs) zero le = absurd (omega arith)
slice_get-past f (x ∷ xs) (suc i) le = slice_get-past f xs i (omega arith)

pub number_of_track : (p : Problem) (object m : ℕ) (d : Track) → object < length p.tracks → number_at (plain_problem p) object m ≡ piece_at (plain_track (get_or p.tracks object d)) m
unfolding number_at
number_of_track p object m d lt = ap (λ (o : Option PlainTrack). option_and_then (λ e. piece_at e m) o) (slice_get-map plain_track p.tracks object d lt)

pub curve_of_track : (p : Problem) (object m : ℕ) (d : Track) → object < length p.tracks → curve_at (plain_problem p) object m ≡ option_map curve_of_piece (piece_holding (plain_track (get_or p.tracks object d)) m)
unfolding curve_at
curve_of_track p object m d lt = ap (λ (o : Option PlainTrack). option_map curve_of_piece (option_and_then (λ e. piece_holding e m) o)) (slice_get-map plain_track p.tracks object d lt)

-- there are as many objects as tracks
pub objects_are : (tracks now : List Track) → now ≡ tracks → length now ≡ length (map plain_track tracks)
objects_are tracks now same = ap (λ (ts : List Track). length ts) same ∙ sym (length-map tracks plain_track)

-- an object that has a state is one of the tracks
pub object_exists : (p : Problem) (object m : ℕ) → is_some (number_at (plain_problem p) object m) ≡ true → object < length p.tracks
unfolding number_at
object_exists p object m some = elim (cases_lt object (length p.tracks)) [
  | inl lt ↦ lt
  | inr past ↦
      let none : is_some (number_at (plain_problem p) object m) ≡ false = ap (λ (o : Option PlainTrack). is_some (option_and_then (λ e. piece_at e m) o)) (slice_get-past plain_track p.tracks object past) in
      absurd cc
]

pub curve_is : (o : Option PlainPiece) (c : Curve) → IsSomeAnd o (λ x. c ≡ curve_of_piece x) → option_map curve_of_piece o ≡ Some c
curve_is None c h = absurd h
curve_is (Some x) c h = ap (λ (d : Curve). Some d) (sym h)

-- ---- cells that keep their pieces

pub first_state : (case : PlainProblem) (a b first last : ℕ) → KeepPieces case a b first last → is_some (number_at case a first) ≡ true
first_state case a b first last keep = (numbers_of (number_at case a first) (number_at case b first) keep.nodes).0

pub second_state : (case : PlainProblem) (a b first last : ℕ) → KeepPieces case a b first last → is_some (number_at case b first) ≡ true
second_state case a b first last keep = (numbers_of (number_at case a first) (number_at case b first) keep.nodes).1

-- an interpolant over a part of its ticks
pub over_part : (c : Curve) (first last from to : ℕ) → IsOver c first last → first ≤ from → to ≤ last → IsOver c from to
over_part c first last from to over low high = record { some = over.some; from = omega (arith, over.from); to = omega (arith, over.to) }

over_all : (case : PlainProblem) (object first last : ℕ) (c d : Curve) → first ≤ last → ((m : ℕ) → first ≤ m → m ≤ last → curve_at case object m ≡ Some d) → curve_at case object first ≡ Some c → 0 < c.span → IsOver c first last
over_all case object first last c d le have is some =
    let from = within_at case object first c is in
    let same : d ≡ c = let here = have first (omega arith) le in cc in
    let to = within_at case object last c (have last le (omega arith) ∙ ap (λ (x : Curve). Some x) same) in
    record { some = some; from = from.0; to = to.1 }

pub first_is_over : (case : PlainProblem) (a b first last : ℕ) (p : Piece) → first ≤ last → KeepPieces case a b first last → curve_at case a first ≡ Some (curve_of p) → IsOver (curve_of p) first last
first_is_over case a b first last p le keep is = go (curves_of case a b first last keep)
  where
    go : Curves case a b first last → IsOver (curve_of p) first last
    go (curves c d have) = over_all case a first last (curve_of p) c le have.first_curve is (let up = p.ordered in omega arith)

pub second_is_over : (case : PlainProblem) (a b first last : ℕ) (p : Piece) → first ≤ last → KeepPieces case a b first last → curve_at case b first ≡ Some (curve_of p) → IsOver (curve_of p) first last
second_is_over case a b first last p le keep is = go (curves_of case a b first last keep)
  where
    go : Curves case a b first last → IsOver (curve_of p) first last
    go (curves c d have) = over_all case b first last (curve_of p) d le have.second_curve is (let up = p.ordered in omega arith)
