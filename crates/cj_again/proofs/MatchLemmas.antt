-- The first and the last of the numbers that pass a test; and that a pair is unchanged where the first object like its one comes before the last like its other.
use Rattle.std.proofs.Common.{◌≡◌, ℕ, zero, suc, ◌+◌, ◌<◌, ◌≤◌, Bool, true, false, cond, List, [], ◌∷◌, ◌++◌, map, filter, length, get_or, ltb, Option, Some, None, refl, sym, ap, subst, ◌∙◌, inl, inr, arith, append-nil}
use Rattle.std.specs.Prelude.{◌&&◌, IfSome, is_some, option_map}
use Rattle.std.specs.List.{range_with_len}
use Rattle.std.proofs.lemmas.Bool.{cases_eq, ltb-false, ltb-true}
use Rattle.std.proofs.lemmas.List.{get_or-map, length-map}
use Rattle.std.proofs.lemmas.List.Elements.{filter-append}
use Rattle.std.proofs.lemmas.List.FromFn.{get_or-map-range_with_len, length-range_with_len}
use Rattle.std.proofs.lemmas.List.Folds.{list_any-from_Any, list_any_none}
use Rattle.cj_case.specs.declared.pair.Pair.{Pair}
use Rattle.cj_case.specs.Pairs.{objects_of, pairs_of}
use Rattle.cj_case.specs.PlainProblems.{PlainProblem}
use Rattle.cj_case.specs.Unchanged.{is_object, is_unchanged}
use Rattle.cj_case.proofs.PairLemmas.{IsPair, Each-pairs, Exists-pairs}
use Rattle.cj_interval.proofs.ListLemmas.{All-from_each, Any-from_exists, Each-weaker, Exists-weaker}
use Rattle.cj_interval.proofs.RangeLemmas.{range_more}
use Rattle.cj_again.specs.declared.ends.Ends.{Ends}
use Rattle.cj_again.specs.Matchings.{IsPairOf, all_ends, ends_of, last_behind, objects_like, pair_between, plain_ends, with_end}

-- ---- one number more

last_push : (p : ℕ) (ps : List ℕ) (m : ℕ) → last_behind p (ps ++ m ∷ []) ≡ m
last_push p [] m = refl
last_push p (q ∷ ps) m = last_push q ps m

ends_push : (ps : List ℕ) (m : ℕ) → ends_of (ps ++ m ∷ []) ≡ Some (with_end (ends_of ps) m)
ends_push [] m = refl
ends_push (p ∷ ps) m = ap (λ (l : ℕ). let e : ℕ × ℕ = (p, l) in Some e) (last_push p ps m)

passing_more : (test : ℕ → Bool) (m : ℕ) → filter test (range_with_len 0 (m + 1)) ≡ filter test (range_with_len 0 m) ++ cond (test m) (m ∷ []) []
passing_more test m =
    ap (filter test) (range_more 0 m) ∙ filter-append test (range_with_len 0 m) ((0 + m) ∷ [])
    ∙ (let at : 0 + m ≡ m = omega arith in ap (λ (k : ℕ). filter test (range_with_len 0 m) ++ cond (test k) (k ∷ []) []) at)

pub ends_more : (test : ℕ → Bool) (m : ℕ) → test m ≡ true → ends_of (filter test (range_with_len 0 (m + 1))) ≡ Some (with_end (ends_of (filter test (range_with_len 0 m))) m)
ends_more test m passes =
    ap ends_of (passing_more test m) ∙ ap (λ (c : Bool). ends_of (filter test (range_with_len 0 m) ++ cond c (m ∷ []) [])) passes ∙ ends_push (filter test (range_with_len 0 m)) m

pub ends_same : (test : ℕ → Bool) (m : ℕ) → test m ≡ false → ends_of (filter test (range_with_len 0 (m + 1))) ≡ ends_of (filter test (range_with_len 0 m))
ends_same test m fails =
    ap ends_of (passing_more test m) ∙ ap (λ (c : Bool). ends_of (filter test (range_with_len 0 m) ++ cond c (m ∷ []) [])) fails ∙ ap ends_of (append-nil (filter test (range_with_len 0 m)))

-- ---- what the ends say

-- of the numbers below n those that pass lie from the first to the last of them
pub record AreEnds (test : ℕ → Bool) (n : ℕ) (ends : ℕ × ℕ) : Type 0 where
  pub first : test ends.0 ≡ true
  pub last : test ends.1 ≡ true
  pub exists : ends.1 < n
  pub least : (p : ℕ) → p < n → test p ≡ true → ends.0 ≤ p
  pub most : (p : ℕ) → p < n → test p ≡ true → p ≤ ends.1

abbrev pub AreEndsOrNone : (ℕ → Bool) → ℕ → Option (ℕ × ℕ) → Type 0
AreEndsOrNone test n None = (p : ℕ) → p < n → test p ≡ true → ⊥
AreEndsOrNone test n (Some ends) = AreEnds test n ends

one_more : (test : ℕ → Bool) (n : ℕ) (o : Option (ℕ × ℕ)) → AreEndsOrNone test n o → test n ≡ true → AreEnds test (n + 1) (with_end o n)
one_more test n None none passes = record {
  first = passes;
  last = passes;
  exists = omega arith;
  least = λ p lt is. elim (cases_eq p n) [
    | inl same ↦ omega (arith, same)
    | inr other ↦ absurd (none p (omega arith) is)
  ];
  most = λ p lt is. omega arith;
}
one_more test n (Some e) are passes = record {
  first = are.first;
  last = passes;
  exists = omega arith;
  least = λ p lt is. elim (cases_eq p n) [
    | inl same ↦ let up = are.least e.1 are.exists are.last in omega (arith, same, up, are.exists)
    | inr other ↦ are.least p (omega arith) is
  ];
  most = λ p lt is. omega arith;
}

one_left : (test : ℕ → Bool) (n : ℕ) (o : Option (ℕ × ℕ)) → AreEndsOrNone test n o → test n ≡ false → AreEndsOrNone test (n + 1) o
one_left test n None none fails = λ p lt is. elim (cases_eq p n) [
  | inl same ↦ let both = sym is ∙ ap test same ∙ fails in absurd cc
  | inr other ↦ none p (omega arith) is
]
one_left test n (Some e) are fails = record {
  first = are.first;
  last = are.last;
  exists = omega (arith, are.exists);
  least = λ p lt is. elim (cases_eq p n) [
    | inl same ↦ let both = sym is ∙ ap test same ∙ fails in absurd cc
    | inr other ↦ are.least p (omega arith) is
  ];
  most = λ p lt is. elim (cases_eq p n) [
    | inl same ↦ let both = sym is ∙ ap test same ∙ fails in absurd cc
    | inr other ↦ are.most p (omega arith) is
  ];
}

pub ends_are : (test : ℕ → Bool) (n : ℕ) → AreEndsOrNone test n (ends_of (filter test (range_with_len 0 n)))
ends_are test zero = λ p lt is. absurd (omega arith)
ends_are test (suc n) =
    let next : n + 1 ≡ suc n = omega arith in
    subst (λ (k : ℕ). AreEndsOrNone test k (ends_of (filter test (range_with_len 0 k)))) next (go (test n) refl (ends_are test n))
  where
    go : (c : Bool) → test n ≡ c → AreEndsOrNone test n (ends_of (filter test (range_with_len 0 n))) → AreEndsOrNone test (n + 1) (ends_of (filter test (range_with_len 0 (n + 1))))
    go true passes are = subst (AreEndsOrNone test (n + 1)) (sym (ends_more test n passes)) (one_more test n (ends_of (filter test (range_with_len 0 n))) are passes)
    go false fails are = subst (AreEndsOrNone test (n + 1)) (sym (ends_same test n fails)) (one_left test n (ends_of (filter test (range_with_len 0 n))) are fails)

-- the last of them is below
pub ends_below : (test : ℕ → Bool) (n : ℕ) (o : Option Ends) → option_map plain_ends o ≡ ends_of (filter test (range_with_len 0 n)) → IfSome o (λ e. e.last ≤ n)
ends_below test n None same = tt
ends_below test n (Some e) same = let are = subst (AreEndsOrNone test n) (sym same) (ends_are test n) in omega (arith, are.exists)

-- ---- pairs that are unchanged

either_fails : (s u : Bool) → (s ≡ true → u ≡ true → ⊥) → (s && u) ≡ false
either_fails true true never = absurd (never refl refl)
either_fails true false never = refl
either_fails false u never = refl

both_hold : (s u : Bool) → s ≡ true → u ≡ true → (s && u) ≡ true
both_hold s u one two = λ i. one i && two i

-- both objects of a pair are those of another
abbrev like_both : PlainProblem → PlainProblem → ℕ → ℕ → ℕ × ℕ → Bool
like_both old new a b p = is_object old new p.0 a && is_object old new p.1 b

-- what is told of the pair between the ends
pub record IsTold (old new : PlainProblem) (a b : ℕ) (o : Option (ℕ × ℕ)) : Type 0 where
  pub found : is_some o ≡ is_unchanged old new (a, b)
  pub is : IfSome o (λ before. IsPairOf old new before (a, b))

module _ (old new : PlainProblem) (a b : ℕ) where
  no_pair : ((p q : ℕ) → p < q → q < length old.tracks → is_object old new p a ≡ true → is_object old new q b ≡ true → ⊥) → is_unchanged old new (a, b) ≡ false
  unfolding is_unchanged
  no_pair none =
      list_any_none (like_both old new a b) (pairs_of (length old.tracks))
      (All-from_each (λ p. (like_both old new a b) p ≡ false) (pairs_of (length old.tracks))
      (Each-weaker (IsPair (length old.tracks)) (λ p. (like_both old new a b) p ≡ false)
      (λ p is. either_fails (is_object old new p.0 a) (is_object old new p.1 b) (none p.0 p.1 is.ordered is.exists))
      (pairs_of (length old.tracks)) (Each-pairs (length old.tracks))))

  one_pair : (p q : ℕ) → p < q → q < length old.tracks → is_object old new p a ≡ true → is_object old new q b ≡ true → is_unchanged old new (a, b) ≡ true
  unfolding is_unchanged
  one_pair p q lt exists first second =
      list_any-from_Any (like_both old new a b) (pairs_of (length old.tracks))
      (Any-from_exists (λ r. (like_both old new a b) r ≡ true) (pairs_of (length old.tracks))
      (Exists-weaker (λ r. r ≡ (p, q)) (λ r. (like_both old new a b) r ≡ true)
      (λ r same. ap (like_both old new a b) same ∙ both_hold (is_object old new p a) (is_object old new q b) first second)
      (pairs_of (length old.tracks)) (Exists-pairs (length old.tracks) p q lt exists)))

  told : (x y : Option (ℕ × ℕ)) → AreEndsOrNone (λ p. is_object old new p a) (length old.tracks) x → AreEndsOrNone (λ p. is_object old new p b) (length old.tracks) y → IsTold old new a b (pair_between x y)
  told None y none are = record {
    found = sym (no_pair (λ p q lt exists first second. none p (omega arith) first));
    is = tt;
  }
  told (Some e) None are none = record {
    found = sym (no_pair (λ p q lt exists first second. none q exists second));
    is = tt;
  }
  told (Some e) (Some f) one other = go (ltb e.0 f.1) refl
    where
      go : (c : Bool) → ltb e.0 f.1 ≡ c → IsTold old new a b (cond c (let p : ℕ × ℕ = (e.0, f.1) in Some p) None)
      go true is =
          let lt = ltb-true e.0 f.1 is in
          record {
            found = sym (one_pair e.0 f.1 lt other.exists one.first other.last);
            is = record { ordered = lt; exists = other.exists; first = one.first; second = other.last };
          }
      go false is =
          let le = ltb-false e.0 f.1 is in
          record {
            found = sym (no_pair (λ p q lt exists first second.
                let low = one.least p (omega arith) first in
                let high = other.most q exists second in
                omega (arith, le, low, high, lt)));
            is = tt;
          }

  pub pair_told : IsTold old new a b (pair_between (ends_of (objects_like old new a)) (ends_of (objects_like old new b)))
  unfolding objects_like
  pair_told =
      told (ends_of (filter (λ p. is_object old new p a) (range_with_len 0 (length old.tracks)))) (ends_of (filter (λ p. is_object old new p b) (range_with_len 0 (length old.tracks))))
      (ends_are (λ p. is_object old new p a) (length old.tracks)) (ends_are (λ p. is_object old new p b) (length old.tracks))

-- the same of a pair that is found between them
pub record HasOldPair (old new : PlainProblem) (a b : ℕ) (r : Option Pair) : Type 0 where
  pub found : is_some r ≡ is_unchanged old new (a, b)
  pub is : IfSome r (λ before. IsPairOf old new (objects_of before) (a, b))

pub pair_found : (old new : PlainProblem) (a b : ℕ) (r : Option Pair) (x y : Option (ℕ × ℕ)) → option_map objects_of r ≡ pair_between x y → x ≡ ends_of (objects_like old new a) → y ≡ ends_of (objects_like old new b) →
    HasOldPair old new a b r
pair_found old new a b r x y found one other =
    go r (subst (IsTold old new a b) (sym (found ∙ (λ i. pair_between (one i) (other i)))) (pair_told old new a b))
  where
    go : (o : Option Pair) → IsTold old new a b (option_map objects_of o) → HasOldPair old new a b o
    go None t = record { found = t.found; is = tt }
    go (Some p) t = record { found = t.found; is = t.is }

-- ---- the ends of all objects

pub ends_count : (old new : PlainProblem) (items : List (Option Ends)) → map (option_map plain_ends) items ≡ all_ends old new → length items ≡ length new.tracks
unfolding all_ends
ends_count old new items same =
    sym (length-map items (option_map plain_ends)) ∙ ap length same ∙ length-map (range_with_len 0 (length new.tracks)) (λ i. ends_of (objects_like old new i)) ∙ length-range_with_len 0 (length new.tracks)

pub ends_at : (old new : PlainProblem) (items : List (Option Ends)) (i : ℕ) (d : Option Ends) → map (option_map plain_ends) items ≡ all_ends old new → i < length new.tracks →
    option_map plain_ends (get_or items i d) ≡ ends_of (objects_like old new i)
unfolding all_ends
ends_at old new items i d same lt =
    let count = ends_count old new items same in
    sym (get_or-map (option_map plain_ends) items i d (option_map plain_ends d) (omega (arith, count, lt)))
    ∙ ap (λ (es : List (Option (ℕ × ℕ))). get_or es i (option_map plain_ends d)) same
    ∙ get_or-map-range_with_len (λ j. ends_of (objects_like old new j)) 0 (length new.tracks) i i (option_map plain_ends d) lt (omega arith)
