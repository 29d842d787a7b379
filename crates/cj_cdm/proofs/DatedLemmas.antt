-- Covariances in order of epoch, and what is found in them.
use Rattle.std.proofs.Common.{◌≡◌, ◌∙◌, ◌⊎◌, inl, inr, ℕ, zero, suc, ◌+◌, ◌<◌, ◌≤◌, true, false, List, [], ◌∷◌, ◌++◌, length, map, take, get_or, None, Some, refl, sym, ap, subst, arith, is_lt, nat_cmp, leb}
use Rattle.std.specs.Ordering.{ordering_then}
use Rattle.std.specs.declared.cmp.Ordering.{Ordering}
use Rattle.std.specs.Cmp.{IsTotalOrder}
use Rattle.std.specs.List.{Contains}
use Rattle.std.specs.List.Sorted.{IsSorted, IsPartitionPoint, IsNonDecreasingBy}
use Rattle.std.proofs.Math.ListN.{get_or-map}
use Rattle.std.proofs.lemmas.Bool.{cases_lt}
use Rattle.std.proofs.lemmas.Bool.Decides.{nat_tests}
use Rattle.std.proofs.lemmas.Cmp.{then_total, on_total, nat_cmp_total}
use Rattle.std.proofs.lemmas.List.{get_or_default, length-map}
use Rattle.std.proofs.lemmas.List.Sorted.{sorted_far, ranks_by, Contains-permutation, IsPermutation-sym}
use Rattle.cj_track.specs.declared.matrix.Matrix.{Matrix}
use Rattle.cj_track.specs.PlainTracks.{PlainMatrix}
use Rattle.cj_track.specs.Tracks.{plain_matrix}
use Rattle.cj_cdm.specs.declared.dated.Dated.{Dated}
use Rattle.cj_cdm.specs.Covariances.{latest, not_after}
use Rattle.cj_cdm.specs.Dated.{AreDated, AreInOrder, AreReached, dated_from}
use Rattle.cj_cdm.proofs.LatestLemmas.{IsLatest, latest_is, none_before}

-- ---- in order

abbrev pub dated_cmp : Dated → Dated → Ordering
dated_cmp a b = ordering_then (nat_cmp a.at.micros b.at.micros) (nat_cmp a.place b.place)

dated_total : IsTotalOrder dated_cmp
dated_total = then_total (on_total (λ (e : Dated). e.at.micros) nat_cmp_total) (on_total (λ (e : Dated). e.place) nat_cmp_total)

first_up : (a b a' b' : ℕ) → is_lt (ordering_then (nat_cmp a' a) (nat_cmp b' b)) ≡ false → a ≤ a'
first_up a b a' b' h = grind (arith, nat_tests)

second_up : (a b a' b' : ℕ) → is_lt (ordering_then (nat_cmp a' a) (nat_cmp b' b)) ≡ false → a ≡ a' → b ≤ b'
second_up a b a' b' h e = grind (arith, nat_tests)

pub sorted_in_order : (dated : List Dated) → IsSorted dated_cmp dated → AreInOrder dated
sorted_in_order dated up = record {
  epochs = λ j k d le lt. first_up (get_or dated j d).at.micros (get_or dated j d).place (get_or dated k d).at.micros (get_or dated k d).place (far j k d le lt);
  places = λ j k d le lt same. second_up (get_or dated j d).at.micros (get_or dated j d).place (get_or dated k d).at.micros (get_or dated k d).place (far j k d le lt) same;
}
  where
    far : (j k : ℕ) (d : Dated) → j ≤ k → k < length dated → is_lt (dated_cmp (get_or dated k d) (get_or dated j d)) ≡ false
    far j k d le lt = sorted_far (λ a b. is_lt (dated_cmp a b)) (ranks_by dated_total (λ e. e)) dated up j k d le lt

pub epochs_rise : (dated : List Dated) → AreInOrder dated → IsNonDecreasingBy (λ (e : Dated). e.at.micros) dated
epochs_rise dated order i j d le below = order.epochs i j d le below

pub reached_from : (m p : ℕ) (dated : List Dated) → IsPartitionPoint (λ (e : Dated). leb e.at.micros m ≡ true) (λ (e : Dated). leb e.at.micros m ≡ false) dated p → AreReached m p dated
reached_from m p dated point = record {
  before = λ j d below. let here = point.0 j d (omega arith) below in grind (arith, nat_tests);
  behind = λ j d from below. let here = point.1 j d from below in grind (arith, nat_tests);
}

-- ---- by their places

dated_more : (n : ℕ) (ms : List Matrix) (i : ℕ) (m : Matrix) → i < length ms → m ≡ get_or ms i m
    → dated_from n (take (i + 1) ms) ≡ dated_from n (take i ms) ++ record { at = m.at; place = n + i } ∷ []
dated_more n [] i m below is = absurd (omega arith)
dated_more n (x ∷ ms) zero m below is =
    let at_zero : n + 0 ≡ n = omega arith in
    rw (is, at_zero) refl
dated_more n (x ∷ ms) (suc i) m below is =
    let place : n + 1 + i ≡ n + suc i = omega arith in
    let more : suc i + 1 ≡ suc (i + 1) = omega arith in
    rw more (ap (λ (es : List Dated). record { at = x.at; place = n } ∷ es)
    (dated_more (n + 1) ms i m (omega arith) is ∙ ap (λ (k : ℕ). dated_from (n + 1) (take i ms) ++ record { at = m.at; place = k } ∷ []) place))

-- what a push adds
pub dated_push : (ms : List Matrix) (i : ℕ) (m : Matrix) → i < length ms → m ≡ get_or ms i m
    → dated_from 0 (take (i + 1) ms) ≡ dated_from 0 (take i ms) ++ record { at = m.at; place = i } ∷ []
dated_push ms i m below is =
    let place : 0 + i ≡ i = omega arith in
    dated_more 0 ms i m below is ∙ ap (λ (k : ℕ). dated_from 0 (take i ms) ++ record { at = m.at; place = k } ∷ []) place

dated_length : (n : ℕ) (ms : List Matrix) → length (dated_from n ms) ≡ length ms
dated_length n [] = refl
dated_length n (m ∷ ms) = ap suc (dated_length (n + 1) ms)

-- the epoch and the place of each
epoch_at : (n : ℕ) (ms : List Matrix) (j : ℕ) (d : PlainMatrix) (e : Dated) → j < length ms → (get_or (dated_from n ms) j e).at.micros ≡ (get_or (map plain_matrix ms) j d).at
epoch_at n [] j d e below = absurd (omega arith)
epoch_at n (m ∷ ms) zero d e below = refl
epoch_at n (m ∷ ms) (suc j) d e below = epoch_at (n + 1) ms j d e (omega arith)

place_at : (n : ℕ) (ms : List Matrix) (j : ℕ) (e : Dated) → j < length ms → (get_or (dated_from n ms) j e).place ≡ n + j
place_at n [] j e below = absurd (omega arith)
place_at n (m ∷ ms) zero e below = omega arith
place_at n (m ∷ ms) (suc j) e below = omega (arith, place_at (n + 1) ms j e (omega arith))

-- an entry stands for the covariance at its place
pub record Stands (ms : List Matrix) (e : Dated) : Type 0 where
  pub exists : e.place < length ms
  pub epoch : (d : PlainMatrix) → (get_or (map plain_matrix ms) e.place d).at ≡ e.at.micros

pub stands : (ms : List Matrix) (dated : List Dated) (k : ℕ) (e : Dated) → AreDated ms dated → k < length dated → Stands ms (get_or dated k e)
stands ms dated k e are below =
    let x = get_or dated k e in
    let there : Contains dated x = (k, below, get_or_default dated k x e below) in
    let among = Contains-permutation dated (dated_from 0 ms) x (IsPermutation-sym (dated_from 0 ms) dated are.same) there in
    let short : among.0 < length ms = omega (arith, among.1, dated_length 0 ms) in
    let place : among.0 ≡ x.place = omega (arith, ap (λ (y : Dated). y.place) among.2, place_at 0 ms among.0 x short) in
    record {
      exists = omega (arith, short, place);
      epoch = λ d. ap (λ (j : ℕ). (get_or (map plain_matrix ms) j d).at) (sym place) ∙ sym (epoch_at 0 ms among.0 d x short) ∙ ap (λ (y : Dated). y.at.micros) among.2;
    }

-- where the entry of the covariance with number j stands
record IsEntered (ms : List Matrix) (dated : List Dated) (j : ℕ) (e : Dated) : Type 0 where
  entry : ℕ
  exists : entry < length dated
  place : (get_or dated entry e).place ≡ j
  epoch : (d : PlainMatrix) → (get_or (map plain_matrix ms) j d).at ≡ (get_or dated entry e).at.micros

entered : (ms : List Matrix) (dated : List Dated) (j : ℕ) (e : Dated) → AreDated ms dated → j < length ms → IsEntered ms dated j e
entered ms dated j e are below =
    let x = get_or (dated_from 0 ms) j e in
    let short : j < length (dated_from 0 ms) = omega (arith, below, dated_length 0 ms) in
    let there : Contains (dated_from 0 ms) x = (j, short, get_or_default (dated_from 0 ms) j x e short) in
    let among = Contains-permutation (dated_from 0 ms) dated x are.same there in
    let is : get_or dated among.0 e ≡ x = get_or_default dated among.0 e x among.1 ∙ among.2 in
    record {
      entry = among.0;
      exists = among.1;
      place = ap (λ (y : Dated). y.place) is ∙ place_at 0 ms j e below ∙ omega arith;
      epoch = λ d. sym (epoch_at 0 ms j d e below) ∙ sym (ap (λ (y : Dated). y.at.micros) is);
    }

-- ---- the latest

within : (m n i : ℕ) (dated : List Dated) (e : Dated) → AreReached m n dated → i < length dated → (get_or dated i e).at.micros ≤ m → i < n
within m n i dated e reached below early = go (cases_lt i n)
  where
    go : (i < n) ⊎ (n ≤ i) → i < n
    go (inl before) = before
    go (inr behind) = absurd (omega (arith, reached.behind i e behind below, early))

is_latest : (ms : List Matrix) (dated : List Dated) (m k : ℕ) (e : Dated) → AreDated ms dated → AreReached m (suc k) dated → k < length dated
    → IsLatest m (map plain_matrix ms) (get_or dated k e).place
is_latest ms dated m k e are reached below =
    let here = stands ms dated k e are below in
    let many : length (map plain_matrix ms) ≡ length ms = length-map ms plain_matrix in
    record {
      exists = omega (arith, here.exists, many);
      reached = λ d. omega (arith, here.epoch d, reached.before k e (omega arith));
      epochs = λ j d short early.
          let there = entered ms dated j e are (omega (arith, short, many)) in
          let up = within m (suc k) there.entry dated e reached there.exists (omega (arith, early, there.epoch d)) in
          omega (arith, there.epoch d, here.epoch d, are.order.epochs there.entry k e (omega (arith, up)) below);
      numbers = λ j d short early same.
          let there = entered ms dated j e are (omega (arith, short, many)) in
          let up = within m (suc k) there.entry dated e reached there.exists (omega (arith, early, there.epoch d)) in
          omega (arith, there.place, are.order.places there.entry k e (omega (arith, up)) below (sym (there.epoch d) ∙ same ∙ here.epoch d));
    }

-- the entry before the first that is after the tick stands for the latest
pub latest_found : (ms : List Matrix) (dated : List Dated) (m p k : ℕ) (e : Dated) (x : Matrix) → AreDated ms dated → AreReached m p dated → p ≤ length dated → suc k ≡ p
    → e ≡ get_or dated k e → x ≡ get_or ms e.place x → Some (plain_matrix x) ≡ latest (not_after m (map plain_matrix ms))
latest_found ms dated m p k e x are reached bound next e_is x_is =
    let is : IsLatest m (map plain_matrix ms) e.place =
    subst (λ (y : Dated). IsLatest m (map plain_matrix ms) y.place) (sym e_is) (is_latest ms dated m k e are (subst (λ (n : ℕ). AreReached m n dated) (sym next) reached) (omega arith)) in
    ap (λ (y : Matrix). Some (plain_matrix y)) x_is ∙ ap (λ (c : PlainMatrix). Some c) (sym (get_or-map plain_matrix ms e.place x)) ∙ sym (latest_is m (map plain_matrix ms) e.place (plain_matrix x) is)

-- where none has been reached
pub latest_none : (ms : List Matrix) (dated : List Dated) (m p : ℕ) → AreDated ms dated → AreReached m p dated → p ≡ 0 → None ≡ latest (not_after m (map plain_matrix ms))
latest_none [] dated m p are reached none = refl
latest_none (x ∷ ms) dated m p are reached none = sym (none_before m (map plain_matrix (x ∷ ms)) (λ j d short.
    let e : Dated = record { at = x.at; place = 0 } in
    let there = entered (x ∷ ms) dated j e are (omega (arith, short, length-map (x ∷ ms) plain_matrix)) in
    omega (arith, there.epoch d, reached.behind there.entry e (omega (arith, none)) there.exists)))
