-- The latest of some covariances that is not after a tick.
use Rattle.std.proofs.Common.{◌≡◌, ◌∙◌, ℕ, zero, suc, ◌<◌, ◌≤◌, Bool, true, false, List, [], ◌∷◌, length, get_or, Option, None, Some, refl, ap, arith}
use Rattle.std.specs.Prelude.{fold, nat_le, nat_lt, IfSome}
use Rattle.std.proofs.lemmas.Bool.Decides.{nat_tests}
use Rattle.cj_track.specs.PlainTracks.{PlainMatrix}
use Rattle.cj_cdm.specs.Covariances.{later, latest, not_after}

left_out : (m : ℕ) (c : PlainMatrix) (cs : List PlainMatrix) → nat_le c.at m ≡ false → not_after m (c ∷ cs) ≡ not_after m cs
left_out m c cs after = rw after refl

taken : (m : ℕ) (c : PlainMatrix) (cs : List PlainMatrix) → nat_le c.at m ≡ true → not_after m (c ∷ cs) ≡ c ∷ not_after m cs
taken m c cs before = rw before refl

-- all are after the tick
pub none_before : (m : ℕ) (cs : List PlainMatrix) → ((j : ℕ) (d : PlainMatrix) → j < length cs → m < (get_or cs j d).at) → latest (not_after m cs) ≡ None
none_before m [] behind = refl
none_before m (c ∷ cs) behind =
    let here : nat_le c.at m ≡ false = let h = behind 0 c (omega arith) in grind (arith, nat_tests) in
    ap latest (left_out m c cs here) ∙ none_before m cs (λ j d below. behind (suc j) d (omega arith))

-- the covariance with number k is not after the tick, and of the others none that is not after it has a greater epoch, or the same and a greater number
pub record IsLatest (m : ℕ) (cs : List PlainMatrix) (k : ℕ) : Type 0 where
  pub exists : k < length cs
  pub reached : (d : PlainMatrix) → (get_or cs k d).at ≤ m
  pub epochs : (j : ℕ) (d : PlainMatrix) → j < length cs → (get_or cs j d).at ≤ m → (get_or cs j d).at ≤ (get_or cs k d).at
  pub numbers : (j : ℕ) (d : PlainMatrix) → j < length cs → (get_or cs j d).at ≤ m → (get_or cs j d).at ≡ (get_or cs k d).at → j ≤ k

stays : (m : ℕ) (c : PlainMatrix) (cs : List PlainMatrix) → ((j : ℕ) → j < length cs → (get_or cs j c).at ≤ m → (get_or cs j c).at < c.at)
    → fold later (Some c) (not_after m cs) ≡ Some c
stays m c [] earlier = refl
stays m c (x ∷ cs) earlier =
    by_test (nat_le x.at m) refl (stays m c cs (λ j below reached. earlier (suc j) (omega arith) reached))
  where
    by_test : (b : Bool) → nat_le x.at m ≡ b → fold later (Some c) (not_after m cs) ≡ Some c → fold later (Some c) (not_after m (x ∷ cs)) ≡ Some c
    by_test false after rest = ap (fold later (Some c)) (left_out m x cs after) ∙ rest
    by_test true before rest =
        let reached : x.at ≤ m = grind (arith, nat_tests) in
        let here = earlier 0 (omega arith) reached in
        let less : nat_lt x.at c.at ≡ true = grind (arith, nat_tests) in
        let kept : later (Some c) x ≡ Some c = rw less refl in
        ap (fold later (Some c)) (taken m x cs before) ∙ ap (λ (o : Option PlainMatrix). fold later o (not_after m cs)) kept ∙ rest

-- a covariance that is not after the last one is not after it with one more
kept_below : (top : ℕ) (o : Option PlainMatrix) (x : PlainMatrix) → IfSome o (λ c. c.at ≤ top) → x.at ≤ top → IfSome (later o x) (λ c. c.at ≤ top)
kept_below top None x low here = here
kept_below top (Some c) x low here = by_test (nat_lt x.at c.at) refl
  where
    by_test : (b : Bool) → nat_lt x.at c.at ≡ b → IfSome (later (Some c) x) (λ c. c.at ≤ top)
    by_test true less = rw less low
    by_test false least = rw least here

-- the last of those with the greatest epoch takes the place of each before
takes_place : (o : Option PlainMatrix) (x : PlainMatrix) → IfSome o (λ c. c.at ≤ x.at) → later o x ≡ Some x
takes_place None x low = refl
takes_place (Some c) x low = let least : nat_lt x.at c.at ≡ false = grind (arith, nat_tests) in rw least refl

latest_from : (m : ℕ) (o : Option PlainMatrix) (cs : List PlainMatrix) (k : ℕ) (d : PlainMatrix) → IsLatest m cs k → IfSome o (λ c. c.at ≤ (get_or cs k d).at)
    → fold later o (not_after m cs) ≡ Some (get_or cs k d)
latest_from m o [] k d is low = absurd (omega (arith, is.exists))
latest_from m o (x ∷ cs) zero d is low =
    let reached : x.at ≤ m = is.reached d in
    let before : nat_le x.at m ≡ true = grind (arith, nat_tests) in
    let behind = stays m x cs (λ j below early.
    let up = is.epochs (suc j) x (omega arith) early in
    let apart = is.numbers (suc j) x (omega arith) early in
    less (get_or cs j x).at x.at up (λ same. absurd (omega (arith, apart same)))) in
    ap (fold later o) (taken m x cs before) ∙ ap (λ (p : Option PlainMatrix). fold later p (not_after m cs)) (takes_place o x low) ∙ behind
  where
    less : (a b : ℕ) → a ≤ b → (a ≡ b → ⊥) → a < b
    less a b up apart = grind (arith)
latest_from m o (x ∷ cs) (suc k) d is low =
    let later_is : IsLatest m cs k = record {
      exists = omega (arith, is.exists);
      reached = λ d. is.reached d;
      epochs = λ j d below early. is.epochs (suc j) d (omega arith) early;
      numbers = λ j d below early same. let n = is.numbers (suc j) d (omega arith) early same in omega arith;
    } in
    by_test (nat_le x.at m) refl (λ p low. latest_from m p cs k d later_is low)
  where
    by_test : (b : Bool) → nat_le x.at m ≡ b → ((p : Option PlainMatrix) → IfSome p (λ c. c.at ≤ (get_or cs k d).at) → fold later p (not_after m cs) ≡ Some (get_or cs k d))
        → fold later o (not_after m (x ∷ cs)) ≡ Some (get_or cs k d)
    by_test false after rest = ap (fold later o) (left_out m x cs after) ∙ rest o low
    by_test true before rest =
        let reached : x.at ≤ m = grind (arith, nat_tests) in
        let here = is.epochs 0 d (omega arith) reached in
        ap (fold later o) (taken m x cs before) ∙ rest (later o x) (kept_below (get_or cs k d).at o x low here)

pub latest_is : (m : ℕ) (cs : List PlainMatrix) (k : ℕ) (d : PlainMatrix) → IsLatest m cs k → latest (not_after m cs) ≡ Some (get_or cs k d)
latest_is m cs k d is = latest_from m None cs k d is tt
