-- Approaches in order: by their bounds, and of equal ones by their ticks.
use Rattle.std.proofs.Common.{◌≡◌, ◌⊎◌, Bool, true, false, ◌&&◌, ◌||◌, cond, eqb, ltb, List, [], ◌∷◌, Some, refl, sym, ap, subst, ◌∙◌, inl, inr, arith}
use Rattle.std.specs.List.{fold}
use Rattle.std.proofs.lemmas.Bool.{or_cases, or_parts, and_parts, and_cases, ltb-true, ltb-false, eqb-true, eqb-false}
use Rattle.cj_interval.proofs.ListLemmas.{Each, Exists, Each-exists}
use Rattle.cj_meet.specs.Closest.{PlainApproach, nearer, nearest}
use Rattle.cj_meet.specs.Searches.{NoWorse}

pub NoWorse-refl : (p : PlainApproach) → NoWorse p p
NoWorse-refl p = record { least = omega arith; earliest = λ _. omega arith }

pub NoWorse-trans : (p q r : PlainApproach) → NoWorse p q → NoWorse q r → NoWorse p r
NoWorse-trans p q r h k = record {
  least = omega (arith, h.least, k.least);
  earliest = λ e.
      let first : p.square ≡ q.square = omega (arith, h.least, k.least, e) in
      let second : q.square ≡ r.square = omega (arith, h.least, k.least, e) in
      omega (arith, h.earliest first, k.earliest second);
}

-- two approaches that are each no worse than the other are one
pub same_approach : (p q : PlainApproach) → NoWorse p q → NoWorse q p → p ≡ q
same_approach p q h k =
    let squares : p.square ≡ q.square = omega (arith, h.least, k.least) in
    let ticks : p.tick ≡ q.tick = omega (arith, h.earliest squares, k.earliest (sym squares)) in
    λ i. record { tick = ticks i; square = squares i }

-- x is one of two approaches, and no worse than either
pub record IsNearer (p q x : PlainApproach) : Type 0 where
  pub first : NoWorse x p
  pub second : NoWorse x q
  pub either : (x ≡ p) ⊎ (x ≡ q)

pub nearer-is : (p q : PlainApproach) → IsNearer p q (nearer p q)
nearer-is p q = go (ltb q.square p.square || (eqb q.square p.square && ltb q.tick p.tick)) refl
  where
    go : (b : Bool) → (ltb q.square p.square || (eqb q.square p.square && ltb q.tick p.tick)) ≡ b → IsNearer p q (cond b q p)
    go true is = elim (or_cases (ltb q.square p.square) (eqb q.square p.square && ltb q.tick p.tick) is) [
      | inl less ↦
          let lt = ltb-true q.square p.square less in
          record { first = record { least = omega arith; earliest = λ e. absurd (omega (arith, e)) }; second = NoWorse-refl q; either = inr refl }
      | inr both ↦
          let parts = and_parts (eqb q.square p.square) (ltb q.tick p.tick) both in
          let same = eqb-true q.square p.square parts.0 in
          let lt = ltb-true q.tick p.tick parts.1 in
          record { first = record { least = omega arith; earliest = λ _. omega arith }; second = NoWorse-refl q; either = inr refl }
    ]
    go false is =
        let parts = or_parts (ltb q.square p.square) (eqb q.square p.square && ltb q.tick p.tick) is in
        let ge = ltb-false q.square p.square parts.0 in
        record {
          first = NoWorse-refl p;
          second = record {
            least = ge;
            earliest = λ e. elim (and_cases (eqb q.square p.square) (ltb q.tick p.tick) parts.1) [
              | inl other ↦ absurd (eqb-false q.square p.square other (sym e))
              | inr later ↦ ltb-false q.tick p.tick later
            ];
          };
          either = inl refl;
        }

-- ---- the nearest of a list

-- one of a list, and no worse than each of it
pub record IsNearestOf (ps : List PlainApproach) (x : PlainApproach) : Type 0 where
  pub one_of : Exists (λ p. p ≡ x) ps
  pub no_worse : Each (NoWorse x) ps

fold_nearer : (p : PlainApproach) (ps : List PlainApproach) → IsNearestOf (p ∷ ps) (fold nearer p ps)
fold_nearer p [] = record { one_of = inl refl; no_worse = (NoWorse-refl p, tt) }
fold_nearer p (q ∷ ps) =
    let rest = fold_nearer (nearer p q) ps in
    let is = nearer-is p q in
    let worse = rest.no_worse in
    record {
      one_of = found rest.one_of is.either;
      no_worse = (NoWorse-trans _ _ _ worse.0 is.first, (NoWorse-trans _ _ _ worse.0 is.second, worse.1));
    }
  where
    found : {x : PlainApproach} → Exists (λ r. r ≡ x) (nearer p q ∷ ps) → (nearer p q ≡ p) ⊎ (nearer p q ≡ q) → Exists (λ r. r ≡ x) (p ∷ q ∷ ps)
    found (inl e) (inl f) = inl (sym f ∙ e)
    found (inl e) (inr f) = inr (inl (sym f ∙ e))
    found (inr later) f = inr (inr later)

-- what is nearest of a list is its nearest
pub nearest_is : (ps : List PlainApproach) (x : PlainApproach) → IsNearestOf ps x → nearest ps ≡ Some x
nearest_is [] x is = absurd is.one_of
nearest_is (p ∷ ps) x is =
    let by_fold = fold_nearer p ps in
    let x_first = one_is (p ∷ ps) x (fold nearer p ps) (Each-exists (NoWorse x) (λ q. q ≡ fold nearer p ps) (p ∷ ps) is.no_worse by_fold.one_of) in
    let fold_first = one_is (p ∷ ps) (fold nearer p ps) x (Each-exists (NoWorse (fold nearer p ps)) (λ q. q ≡ x) (p ∷ ps) by_fold.no_worse is.one_of) in
    ap (λ (q : PlainApproach). Some q) (same_approach (fold nearer p ps) x fold_first x_first)
  where
    one_is : (qs : List PlainApproach) (y z : PlainApproach) → Exists (λ q. NoWorse y q × (q ≡ z)) qs → NoWorse y z
    one_is [] y z h = absurd h
    one_is (q ∷ qs) y z (inl h) = subst (NoWorse y) h.1 h.0
    one_is (q ∷ qs) y z (inr h) = one_is qs y z h

-- ---- two more approaches

-- x is one of three approaches, and no worse than any
pub record IsTaken (best first last x : PlainApproach) : Type 0 where
  pub no_worse : NoWorse x best
  pub first_no_worse : NoWorse x first
  pub last_no_worse : NoWorse x last
  pub one_of : (x ≡ best) ⊎ ((x ≡ first) ⊎ (x ≡ last))

pub taken : (best first last between x : PlainApproach) → between ≡ nearer best first → x ≡ nearer between last → IsTaken best first last x
taken best first last between x e f =
    let one : IsNearer best first between = subst (IsNearer best first) (sym e) (nearer-is best first) in
    let two : IsNearer between last x = subst (IsNearer between last) (sym f) (nearer-is between last) in
    record {
      no_worse = NoWorse-trans x between best two.first one.first;
      first_no_worse = NoWorse-trans x between first two.first one.second;
      last_no_worse = two.second;
      one_of = elim two.either [
        | inl is ↦ elim one.either [
          | inl same ↦ inl (is ∙ same)
          | inr same ↦ inr (inl (is ∙ same))
        ]
        | inr is ↦ inr (inr is)
      ];
    }
