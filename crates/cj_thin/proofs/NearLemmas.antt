-- What it says that two interpolants are near, and how their ticks are halved.
use Rattle.std.proofs.Common.{◌≡◌, ℕ, ◌+◌, ◌-◌, ◌*◌, ◌^◌, ◌≤◌, Bool, true, false, ◌&&◌, List, [], ◌∷◌, Some, None, inl, inr, refl, ap, sym, ◌∙◌, subst, arith}
use Rattle.std.specs.Prelude.{ℤ, pos, ◌+ℤ◌, ◌-ℤ◌, ◌*ℤ◌, ◌≤ℤ◌}
use Rattle.std.specs.List.{list_all}
use Rattle.std.proofs.lemmas.Int.{ints}
use Rattle.std.proofs.lemmas.List.Folds.{list_all-append}
use Rattle.cj_interval.proofs.ListLemmas.{Each, Exists, Each-exists, each_from_list_all}
use Rattle.cj_interval.proofs.RingLemmas.{ring, var, ◌:*◌, ◌:-◌, from}
use Rattle.cj_hermite.specs.Interpolant.{Curve, IsOver, place_numerator, place_denominator}
use Rattle.cj_hermite.specs.Distance.{IsWithinAt, square_bound}
use Rattle.cj_hermite.proofs.TrackLemmas.{over_part}
use Rattle.cj_case.specs.declared.kind.Kind.{Kind}
use Rattle.cj_case.specs.declared.kind.Kind.TheVariants.{Near}
use Rattle.cj_case.specs.declared.kind.Kind.TheVariants as kinds
use Rattle.cj_case.specs.Leaves.{PlainLeaf, same_kind}
use Rattle.cj_bezier.specs.declared.verdicts.Verdict.TheVariants as verdicts
use Rattle.cj_bezier.specs.Verdicts.{kind_of, cell_verdict, Holds}
use Rattle.cj_bezier.specs.Halving.{middle, leaves_within, leaves_between}
use Rattle.cj_bezier.specs.RootLeaves.{kind_between}
use Rattle.cj_bezier.specs.Tiles.{IsLeaf, Tile}
use Rattle.cj_bezier.proofs.KindLemmas.{from_same_kind}
use Rattle.cj_bezier.proofs.HalvingLemmas.{HasKind, HasTick, tiles, Each-tile, Exists-tile, leaves-closed, leaves-halved}
use Rattle.cj_bezier.proofs.JudgeLemmas.{kind_holds, settled_over}
use Rattle.cj_thin.specs.Thinned.{are_near}

-- what each element that is so gives, one that is so gives
exists_gives : {X : Type 0} (P : X → Type 0) (C : Type 0) (xs : List X) → ((x : X) → P x → C) → Exists P xs → C
exists_gives P C [] f e = absurd e
exists_gives P C (x ∷ xs) f (inl e) = f x e
exists_gives P C (x ∷ xs) f (inr e) = exists_gives P C xs f e

-- where two interpolants are near they are within the length at each tick
pub near_at : (e : ℕ) (c d : Curve) (first last m : ℕ) → 10 ^ 9 ≤ e → IsOver c first last → IsOver d first last → first ≤ m → m ≤ last → are_near e c d first last ≡ true → IsWithinAt c d e m
unfolding are_near leaves_between
near_at e c d first last m big oc od low high near =
    let judge = kind_between c d e in
    let leaves = leaves_within judge 0 0 (last - first) first last in
    let tile : Tile (HasKind judge) 0 0 first last leaves = tiles judge 0 0 (last - first) first last (omega (arith, low, high)) (omega (arith, low, high)) (settled_over c d e first last big oc od) in
    let each : Each (IsLeaf (HasKind judge) 0 0 first last) leaves = Each-tile (HasKind judge) 0 0 first first last leaves (omega arith) tile in
    let kinds : Each (λ s. same_kind Near s.kind ≡ true) leaves = each_from_list_all (λ (s : PlainLeaf). same_kind Near s.kind) leaves near in
    let here : Exists (HasTick m) leaves = Exists-tile (HasKind judge) 0 0 first last m leaves tile low high in
    exists_gives (λ s. (same_kind Near s.kind ≡ true) × (IsLeaf (HasKind judge) 0 0 first last s × HasTick m s)) (IsWithinAt c d e m) leaves at
    (Each-exists (λ s. same_kind Near s.kind ≡ true) (λ s. IsLeaf (HasKind judge) 0 0 first last s × HasTick m s) leaves kinds
    (Each-exists (IsLeaf (HasKind judge) 0 0 first last) (HasTick m) leaves each here))
  where
    at : (s : PlainLeaf) → (same_kind Near s.kind ≡ true) × (IsLeaf (HasKind (kind_between c d e)) 0 0 first last s × HasTick m s) → IsWithinAt c d e m
    at s h =
        let leaf = h.1.0 in
        let ticks = h.1.1 in
        let near : Near ≡ s.kind = from_same_kind Near s.kind h.0 in
        subst (λ (k : Kind). Holds k c d e m) (sym near)
        (kind_holds c d e s.first s.last m s.kind big (over_part c first last s.first s.last oc leaf.from leaf.to) (over_part d first last s.first s.last od leaf.from leaf.to) leaf.judged ticks.from ticks.to)

-- ---- what the verdict on all ticks says

pub closed_near : (e : ℕ) (c d : Curve) (first last : ℕ) (kind : Kind) → kind_between c d e first last ≡ Some kind → are_near e c d first last ≡ same_kind Near kind
unfolding are_near
closed_near e c d first last kind is =
    ap (λ ss. list_all (λ (s : PlainLeaf). same_kind Near s.kind) ss) (leaves-closed (kind_between c d e) 0 0 first last kind is) ∙ alone (same_kind Near kind)
  where
    alone : (b : Bool) → (b && true) ≡ b
    alone true = refl
    alone false = refl

pub halved_near : (e : ℕ) (c d : Curve) (first last : ℕ) → 10 ^ 9 ≤ e → first ≤ last → IsOver c first last → IsOver d first last → kind_between c d e first last ≡ None →
    are_near e c d first last ≡ (are_near e c d first (middle first last) && are_near e c d (middle first last + 1) last)
unfolding are_near
halved_near e c d first last big le oc od none =
    ap (λ ss. list_all (λ (s : PlainLeaf). same_kind Near s.kind) ss) (leaves-halved (kind_between c d e) 0 0 first last le (settled_over c d e first last big oc od) none)
    ∙ list_all-append (λ (s : PlainLeaf). same_kind Near s.kind) (leaves_between (kind_between c d e) 0 0 first (middle first last)) (leaves_between (kind_between c d e) 0 0 (middle first last + 1) last)

-- ---- by the verdict on all ticks

pub verdict_near : (e : ℕ) (c d : Curve) (first last : ℕ) → verdicts.Near ≡ cell_verdict c d e first last → true ≡ are_near e c d first last
unfolding kind_between
verdict_near e c d first last h = sym (closed_near e c d first last kinds.Near (ap kind_of (sym h)))

pub verdict_far : (e : ℕ) (c d : Curve) (first last : ℕ) → verdicts.Far ≡ cell_verdict c d e first last → false ≡ are_near e c d first last
unfolding kind_between
verdict_far e c d first last h = sym (closed_near e c d first last kinds.Far (ap kind_of (sym h)))

pub verdict_undecided : (e : ℕ) (c d : Curve) (first last : ℕ) → verdicts.Undecided ≡ cell_verdict c d e first last → false ≡ are_near e c d first last
unfolding kind_between
verdict_undecided e c d first last h = sym (closed_near e c d first last kinds.Undecided (ap kind_of (sym h)))

pub verdict_split : (e : ℕ) (c d : Curve) (first last : ℕ) → 10 ^ 9 ≤ e → first ≤ last → IsOver c first last → IsOver d first last → verdicts.Split ≡ cell_verdict c d e first last →
    are_near e c d first last ≡ (are_near e c d first (middle first last) && are_near e c d (middle first last + 1) last)
unfolding kind_between
verdict_split e c d first last big le oc od h = halved_near e c d first last big le oc od (ap kind_of (sym h))

-- what is told of both halves is told of all, and what is told of the first is where it is not near
pub both_halves : (all left right x y : Bool) → all ≡ (left && right) → x ≡ left → x ≡ true → y ≡ right → y ≡ all
both_halves all left right x y whole is near other = other ∙ ap (λ b. b && right) (sym near ∙ is) ∙ sym whole

pub first_half : (all left right x : Bool) → all ≡ (left && right) → x ≡ left → x ≡ false → x ≡ all
first_half all left right x whole is far = far ∙ ap (λ b. b && right) (sym far ∙ is) ∙ sym whole

-- ---- an interpolant is at no distance from itself

nothing_apart : (q p : ℤ) → (q *ℤ p -ℤ q *ℤ p) *ℤ (q *ℤ p -ℤ q *ℤ p) ≡ pos 0
nothing_apart q p = ring (from (q ∷ p ∷ [])) ((var 0 :* var 1 :- var 0 :* var 1) :* (var 0 :* var 1 :- var 0 :* var 1)) (var 0 :- var 0) refl ∙ none q
  where
    none : (z : ℤ) → z -ℤ z ≡ pos 0
    none z = omega (arith, ints)

pub within_itself : (c : Curve) (e m : ℕ) → IsWithinAt c c e m
within_itself c e m =
    sums _ _ _ (square_bound c c e)
    (nothing_apart (pos (place_denominator c.span)) (place_numerator c.x c.span (m - c.start)))
    (nothing_apart (pos (place_denominator c.span)) (place_numerator c.y c.span (m - c.start)))
    (nothing_apart (pos (place_denominator c.span)) (place_numerator c.z c.span (m - c.start)))
    (let q = place_denominator c.span * place_denominator c.span in some (e * e * (q * q)))
  where
    some : (n : ℕ) → pos 0 ≤ℤ pos n
    some n = omega (arith, ints)

    sums : (x y z b : ℤ) → x ≡ pos 0 → y ≡ pos 0 → z ≡ pos 0 → pos 0 ≤ℤ b → (x +ℤ y +ℤ z) ≤ℤ b
    sums x y z b hx hy hz h = omega (arith, ints)
