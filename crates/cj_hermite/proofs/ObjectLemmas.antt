-- Objects of a case at a tick: the number of the piece and the interpolant.
use Rattle.std.proofs.Common.{◌≡◌, ℕ, zero, suc, ◌+◌, ◌<◌, ◌≤◌, true, false, List, [], ◌∷◌, length, Option, Some, None, refl, sym, ap, subst, ◌∙◌, arith}
use Rattle.std.specs.Prelude.{is_some, slice_get, option_and_then, IsSomeAnd}
use Rattle.cj_track.specs.PlainTracks.{PlainTrack}
use Rattle.cj_hermite.specs.Interpolant.{Curve}
use Rattle.cj_hermite.specs.Pieces.{PlainPiece, pieces_of, piece_holding, piece_at, curve_of_piece, OfBothAt}
use Rattle.cj_hermite.proofs.StateLemmas.{IsState, HasState, has, lacks, state}
use Rattle.cj_case.specs.PlainProblems.{PlainProblem}
use Rattle.cj_hermite.specs.ObjectsAtTicks.{number_at, curve_at, OfObjectsAt}

-- ---- an object at a tick

-- it is in a piece, or has no state
data IsAt (case : PlainProblem) (object m : ℕ) : Type 0 where
  there : (e : PlainTrack) (number : ℕ) (x : PlainPiece) → slice_get case.tracks object ≡ Some e → IsState e m number x → IsAt case object m
  nowhere : number_at case object m ≡ None → curve_at case object m ≡ None → IsAt case object m

is_at : (case : PlainProblem) (object m : ℕ) → IsAt case object m
unfolding number_at curve_at
is_at case object m = go (slice_get case.tracks object) refl
  where
    go : (o : Option PlainTrack) → slice_get case.tracks object ≡ o → IsAt case object m
    go None h = nowhere (rw h) (rw h)
    go (Some e) h = elim (state e m) [
      | has number x is ↦ there e number x h is
      | lacks unnumbered none ↦ nowhere (rw (h, unnumbered)) (rw (h, none))
    ]

number_there : (case : PlainProblem) (object m : ℕ) (e : PlainTrack) (number : ℕ) (x : PlainPiece) → slice_get case.tracks object ≡ Some e → IsState e m number x → number_at case object m ≡ Some number
unfolding number_at
number_there case object m e number x h is = let numbered = is.numbered in rw (h, numbered)

curve_there : (case : PlainProblem) (object m : ℕ) (e : PlainTrack) (number : ℕ) (x : PlainPiece) → slice_get case.tracks object ≡ Some e → IsState e m number x → curve_at case object m ≡ Some (curve_of_piece x)
unfolding curve_at
curve_there case object m e number x h is = let at = is.at in rw (h, at)

-- at two ticks in one piece an object has one interpolant
pub same_curve : (case : PlainProblem) (object k m : ℕ) → number_at case object k ≡ number_at case object m → curve_at case object k ≡ curve_at case object m
same_curve case object k m same = go (is_at case object k) (is_at case object m)
  where
    go : IsAt case object k → IsAt case object m → curve_at case object k ≡ curve_at case object m
    go (there e number x h is) (there e' number' x' h' is') =
        let numbers : number ≡ number' = let p = number_there case object k e number x h is in let q = number_there case object m e' number' x' h' is' in cc in
        let one : e ≡ e' = cc in
        let place = is.place in
        let place' = is'.place in
        let pieces : Some x ≡ Some x' =
        sym place ∙ ap (λ (y : PlainTrack). slice_get (pieces_of y) number) one ∙ ap (λ (n : ℕ). slice_get (pieces_of e') n) numbers ∙ place' in
        let at : x ≡ x' = cc in
        curve_there case object k e number x h is ∙ ap (λ (y : PlainPiece). Some (curve_of_piece y)) at ∙ sym (curve_there case object m e' number' x' h' is')
    go (there e number x h is) (nowhere unnumbered none) = let p = number_there case object k e number x h is in absurd cc
    go (nowhere unnumbered none) (there e' number' x' h' is') = let q = number_there case object m e' number' x' h' is' in absurd cc
    go (nowhere unnumbered none) (nowhere unnumbered' none') = none ∙ sym none'

-- what holds of the interpolants holds of the objects
pub of_objects : (case : PlainProblem) (a b m : ℕ) (c d : Curve) (P : Curve → Curve → Type 0) → curve_at case a m ≡ Some c → curve_at case b m ≡ Some d → P c d → OfObjectsAt case a b m P
of_objects case a b m c d P h k p = go (is_at case a m) (is_at case b m)
  where
    go : IsAt case a m → IsAt case b m → OfObjectsAt case a b m P
    go (nowhere unnumbered none) y = absurd cc
    go (there e number x of is) (nowhere unnumbered none) = absurd cc
    go (there e number x of is) (there e' number' x' of' is') =
        let first : c ≡ curve_of_piece x = let q = curve_there case a m e number x of is in cc in
        let second : d ≡ curve_of_piece x' = let q = curve_there case b m e' number' x' of' is' in cc in
        let at = is.at in
        let at' = is'.at in
        rw (of, of', at, at') (subst (λ y. P (curve_of_piece x) y) second (subst (λ y. P y d) first p))

some_and : {A : Type 0} (P Q : A → Type 0) (o : Option A) → ((x : A) → P x → Q x) → IsSomeAnd o P → IsSomeAnd o Q
some_and P Q None f h = h
some_and P Q (Some x) f h = f x h

both_wider : (e f : PlainTrack) (m : ℕ) (P Q : Curve → Curve → Type 0) → ((c d : Curve) → P c d → Q c d) → OfBothAt e f m P → OfBothAt e f m Q
both_wider e f m P Q wider =
    some_and {A = PlainPiece} (λ x. IsSomeAnd (piece_holding f m) (λ y. P (curve_of_piece x) (curve_of_piece y)))
    (λ x. IsSomeAnd (piece_holding f m) (λ y. Q (curve_of_piece x) (curve_of_piece y))) (piece_holding e m)
    (λ x. some_and {A = PlainPiece} (λ y. P (curve_of_piece x) (curve_of_piece y)) (λ y. Q (curve_of_piece x) (curve_of_piece y))
    (piece_holding f m) (λ y. wider (curve_of_piece x) (curve_of_piece y)))

-- what holds of both interpolants, loosened
pub of_objects-wider : (case : PlainProblem) (a b m : ℕ) (P Q : Curve → Curve → Type 0) → ((c d : Curve) → P c d → Q c d)
    → OfObjectsAt case a b m P → OfObjectsAt case a b m Q
of_objects-wider case a b m P Q wider =
    some_and {A = PlainTrack} (λ e. IsSomeAnd (slice_get case.tracks b) (λ f. OfBothAt e f m P))
    (λ e. IsSomeAnd (slice_get case.tracks b) (λ f. OfBothAt e f m Q)) (slice_get case.tracks a)
    (λ e. some_and {A = PlainTrack} (λ f. OfBothAt e f m P) (λ f. OfBothAt e f m Q) (slice_get case.tracks b) (λ f. both_wider e f m P Q wider))

-- where an object has a state it has an interpolant
pub curve_exists : (case : PlainProblem) (object m : ℕ) → is_some (number_at case object m) ≡ true → is_some (curve_at case object m) ≡ true
curve_exists case object m some = go (is_at case object m)
  where
    go : IsAt case object m → is_some (curve_at case object m) ≡ true
    go (there e number x of is) = ap is_some (curve_there case object m e number x of is)
    go (nowhere unnumbered none) = let no_number : is_some (number_at case object m) ≡ false = ap is_some unnumbered in absurd cc

-- of two objects that both have a state both have a number
pub numbers_exist : (case : PlainProblem) (a b m : ℕ) → OfObjectsAt case a b m (λ c d. Unit {0}) → (is_some (number_at case a m) ≡ true) × (is_some (number_at case b m) ≡ true)
unfolding number_at
numbers_exist case a b m nodes = go (slice_get case.tracks a) (slice_get case.tracks b) nodes
  where
    both_states : (e f : PlainTrack) → OfBothAt e f m (λ c d. Unit {0}) → HasState e m → HasState f m → (is_some (piece_at e m) ≡ true) × (is_some (piece_at f m) ≡ true)
    both_states e f h (has n x is) (has n' x' is') = (ap is_some is.numbered, ap is_some is'.numbered)
    both_states e f h (has n x is) (lacks unnumbered none) = let at = is.at in absurd (rw (at, none) at h)
    both_states e f h (lacks unnumbered none) y = absurd (rw none at h)

    go : (o p : Option PlainTrack) → IsSomeAnd o (λ e. IsSomeAnd p (λ f. OfBothAt e f m (λ c d. Unit {0}))) →
        (is_some (option_and_then (λ e. piece_at e m) o) ≡ true) × (is_some (option_and_then (λ e. piece_at e m) p) ≡ true)
    go None p h = absurd h
    go (Some e) None h = absurd h
    go (Some e) (Some f) h = both_states e f h (state e m) (state f m)

-- the second of two objects that both have a state is one of them
pub second_exists : (case : PlainProblem) (a b m : ℕ) → OfObjectsAt case a b m (λ c d. Unit {0}) → b < length case.tracks
second_exists case a b m nodes = go (slice_get case.tracks a) nodes
  where
    below : (es : List PlainTrack) (i : ℕ) (e : PlainTrack) → slice_get es i ≡ Some e → i < length es
    below [] i e h = absurd cc
    below (x ∷ es) zero e h = omega arith
    below (x ∷ es) (suc i) e h = let rest = below es i e h in omega arith

    second : (p : Option PlainTrack) (e : PlainTrack) → slice_get case.tracks b ≡ p → IsSomeAnd p (λ f. OfBothAt e f m (λ c d. Unit {0})) → b < length case.tracks
    second None e h s = absurd s
    second (Some f) e h s = below case.tracks b f h

    go : (o : Option PlainTrack) → IsSomeAnd o (λ e. IsSomeAnd (slice_get case.tracks b) (λ f. OfBothAt e f m (λ c d. Unit {0}))) → b < length case.tracks
    go None s = absurd s
    go (Some e) s = second (slice_get case.tracks b) e refl s

-- a tick at which an object has an interpolant lies between its ends
pub within_at : (case : PlainProblem) (object m : ℕ) (c : Curve) → curve_at case object m ≡ Some c → (c.start ≤ m) × (m ≤ c.start + c.span)
within_at case object m c h = go (is_at case object m)
  where
    go : IsAt case object m → (c.start ≤ m) × (m ≤ c.start + c.span)
    go (nowhere unnumbered none) = absurd cc
    go (there e number x of is) =
        let same : curve_of_piece x ≡ c = let p = curve_there case object m e number x of is in cc in
        let covers = is.covers in
        subst (λ d. (d.start ≤ m) × (m ≤ d.start + d.span)) same (covers.from, omega (arith, covers.from, covers.to))
