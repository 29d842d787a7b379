-- The state of a track at a tick: the piece there and its number.
use Rattle.std.proofs.Common.{◌≡◌, ◌≢◌, ℕ, zero, suc, ◌+◌, true, List, [], ◌∷◌, inl, inr, Option, Some, None, refl, ap, ◌∙◌, subst, arith}
use Rattle.std.specs.Prelude.{slice_get, option_map}
use Rattle.std.specs.List.{last_or}
use Rattle.std.proofs.lemmas.Bool.{cases_Bool}
use Rattle.cj_track.specs.PlainTracks.{PlainTrack}
use Rattle.cj_hermite.specs.Pieces.{PlainPiece, pieces_of, piece_holding, piece_at, covers, last_covering}
use Rattle.cj_hermite.specs.PiecesOfTracks.{Covers}
use Rattle.cj_hermite.proofs.CoverLemmas.{covering, found_is, covers_is, covers_if}

-- what is found at a tick: a piece that covers it, at its number in the list
pub record IsState (e : PlainTrack) (m : ℕ) (number : ℕ) (x : PlainPiece) : Type 0 where
  pub numbered : piece_at e m ≡ Some number
  pub at : piece_holding e m ≡ Some x
  pub place : slice_get (pieces_of e) number ≡ Some x
  pub covers : Covers m x

-- a track has a state at a tick, or has not
pub data HasState (e : PlainTrack) (m : ℕ) : Type 0 where
  has : (number : ℕ) (x : PlainPiece) → IsState e m number x → HasState e m
  lacks : piece_at e m ≡ None → piece_holding e m ≡ None → HasState e m

pub state : (e : PlainTrack) (m : ℕ) → HasState e m
unfolding piece_holding piece_at
state e m = go (last_covering m 0 (pieces_of e)) refl
  where
    go : (o : Option (ℕ × PlainPiece)) → last_covering m 0 (pieces_of e) ≡ o → HasState e m
    go None h = lacks (ap (λ (o : Option (ℕ × PlainPiece)). option_map (λ x. x.0) o) h) (ap (λ (o : Option (ℕ × PlainPiece)). option_map (λ x. x.1) o) h)
    go (Some z) h =
        let found = found_is m 0 (pieces_of e) z h in
        let number : found.place ≡ z.0 = omega (arith, found.number) in
        has z.0 z.1 (record {
          numbered = ap (λ (o : Option (ℕ × PlainPiece)). option_map (λ x. x.0) o) h;
          at = ap (λ (o : Option (ℕ × PlainPiece)). option_map (λ x. x.1) o) h;
          place = subst (λ k. slice_get (pieces_of e) k ≡ Some z.1) number found.is;
          covers = covers_is m z.1 found.here;
        })

-- where one of the pieces covers a tick there is a state
pub covered_has : (e : PlainTrack) (m index : ℕ) (x : PlainPiece) → slice_get (pieces_of e) index ≡ Some x → Covers m x → piece_at e m ≢ None
unfolding piece_at
covered_has e m index x is here none =
    let own = covers_if m x here.from here.to here.first here.last in
    numbered (last_covering m 0 (pieces_of e)) none (found 0 index (pieces_of e) None is own)
  where
    behind : (y : ℕ × PlainPiece) (ys : List (ℕ × PlainPiece)) → last_or (Some y) ys ≢ None
    behind y [] h = absurd cc
    behind y (z ∷ zs) h = behind z zs h

    found : (n i : ℕ) (xs : List PlainPiece) (o : Option (ℕ × PlainPiece)) → slice_get xs i ≡ Some x → covers m x ≡ true → last_or o (covering m n xs) ≢ None
    found n i [] o is own h = absurd cc
    found n zero (y ∷ ys) o is own h =
        let same : y ≡ x = cc in
        let here : covers m y ≡ true = ap (covers m) same ∙ own in
        behind (n, y) (covering m (n + 1) ys) (rw here at h)
    found n (suc i) (y ∷ ys) o is own h = elim (cases_Bool (covers m y)) [
      | inl here ↦ found (n + 1) i ys (Some (n, y)) is own (rw here at h)
      | inr missed ↦ found (n + 1) i ys o is own (rw missed at h)
    ]

    numbered : (o : Option (ℕ × PlainPiece)) → option_map (λ z. z.0) o ≡ None → o ≢ None → ⊥
    numbered None h some = some refl
    numbered (Some z) h some = absurd cc
