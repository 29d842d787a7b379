-- Joined boxes: their sizes, the box of a hull by its points, and that of hulls one after another.
use Rattle.std.proofs.Common.{◌≡◌, ℕ, ◌<◌, arith, sym, ap, subst, ◌∙◌, List, ◌∷◌, Some, length, slice_index_or, map}
use Rattle.std.proofs.lemmas.Int.{ints, clamps}
use Rattle.std.proofs.lemmas.List.{get_or_default}
use Rattle.std.specs.Prelude.{ℤ, pos, ◌≤ℤ◌}
use Rattle.std.specs.Int.{int_min, int_max}
use Rattle.std.specs.List.{All}
use Rattle.cj_interval.specs.declared.span.Span.{Span}
use Rattle.cj_interval.specs.Spans.{least, greatest}
use Rattle.cj_hermite.specs.declared.box3.Box3.{Box3}
use Rattle.cj_hermite.specs.Boxes.{IsSpanWithin, IsBoxWithin}
use Rattle.cj_bezier.specs.Hulls.{PlainHull, axes_of, ends_of}
use Rattle.cj_case.specs.Boxes.{Reach, PlainBox}
use Rattle.cj_bezier.specs.SlotBoxes.{reaches_round, round_reaches, round_two}
use Rattle.cj_bezier.proofs.BoxLemmas.{read_end}
use Rattle.cj_bezier.specs.JoinedBoxes.{reaches_of_spans, reach_of_hull, reaches_of_hull, reaches_with}

-- the smallest span round two
pub record IsSpanOfBoth (a b both : Span) : Type 0 where
  pub lower : both.lo ≡ int_min a.lo b.lo
  pub upper : both.hi ≡ int_max a.hi b.hi

pub span_within : (m : ℕ) (a b s : Span) → IsSpanOfBoth a b s → IsSpanWithin m a.lo a.hi → IsSpanWithin m b.lo b.hi → IsSpanWithin m s.lo s.hi
span_within m a b s both p q = record {
  low = let e = both.lower in rw e (omega (arith, ints, clamps, p.low, q.low));
  high = let e = both.upper in rw e (omega (arith, ints, clamps, p.high, q.high));
}

pub joined_order : (a b c d : ℤ) → a ≤ℤ b → int_min a c ≤ℤ int_max b d
joined_order a b c d h = omega (arith, ints, clamps)

-- ---- the box of a hull

-- a point of a hull, as it is read
pub record IsPointAt (bs : List Box3) (n : ℕ) (b : Box3) : Type 0 where
  pub exists : n < length bs
  pub is : b ≡ slice_index_or bs n b

pub point_at : (bs : List Box3) (n : ℕ) (d : Box3) → n < length bs → IsPointAt bs n (slice_index_or bs n d)
point_at bs n d lt = record { exists = lt; is = get_or_default bs n d (slice_index_or bs n d) lt }

pub point_within : (m n : ℕ) (bs : List Box3) (b : Box3) → All (IsBoxWithin m) bs → IsPointAt bs n b → IsBoxWithin m b
point_within m n bs b all at = subst (λ (c : Box3). IsBoxWithin m c) (sym at.is) (all n b at.exists)

end_at : (axis : Box3 → Span) (end : Span → ℤ) (bs : List Box3) (n : ℕ) (b : Box3) → IsPointAt bs n b → slice_index_or (map end (map axis bs)) n (pos 0) ≡ end (axis b)
end_at axis end bs n b at = read_end axis end bs n b at.exists ∙ ap (λ (c : Box3). end (axis c)) (sym at.is)

-- how far a span reaches
abbrev reach_of : Span → Reach
reach_of s = record { least = s.lo; most = s.hi }

reach_by_points : (axis : Box3 → Span) (bs : List Box3) (a b c d : Box3) → IsPointAt bs 0 a → IsPointAt bs 1 b → IsPointAt bs 2 c → IsPointAt bs 3 d
    → round_reaches (round_reaches (reach_of (axis a)) (reach_of (axis b))) (round_reaches (reach_of (axis c)) (reach_of (axis d))) ≡ reach_of_hull (ends_of (map axis bs))
unfolding least greatest
reach_by_points axis bs a b c d at0 at1 at2 at3 =
    let l0 = sym (end_at axis (λ x. x.lo) bs 0 a at0) in
    let l1 = sym (end_at axis (λ x. x.lo) bs 1 b at1) in
    let l2 = sym (end_at axis (λ x. x.lo) bs 2 c at2) in
    let l3 = sym (end_at axis (λ x. x.lo) bs 3 d at3) in
    let h0 = sym (end_at axis (λ x. x.hi) bs 0 a at0) in
    let h1 = sym (end_at axis (λ x. x.hi) bs 1 b at1) in
    let h2 = sym (end_at axis (λ x. x.hi) bs 2 c at2) in
    let h3 = sym (end_at axis (λ x. x.hi) bs 3 d at3) in
    λ i. record { least = int_min (int_min (l0 i) (l1 i)) (int_min (l2 i) (l3 i)); most = int_max (int_max (h0 i) (h1 i)) (int_max (h2 i) (h3 i)) }

pub reaches_by_points : (bs : List Box3) (a b c d : Box3) → IsPointAt bs 0 a → IsPointAt bs 1 b → IsPointAt bs 2 c → IsPointAt bs 3 d
    → round_two (round_two (reaches_of_spans a) (reaches_of_spans b)) (round_two (reaches_of_spans c) (reaches_of_spans d)) ≡ reaches_of_hull (axes_of bs)
unfolding axes_of
reaches_by_points bs a b c d at0 at1 at2 at3 =
    let x = reach_by_points (λ b. b.x) bs a b c d at0 at1 at2 at3 in
    let y = reach_by_points (λ b. b.y) bs a b c d at0 at1 at2 at3 in
    let z = reach_by_points (λ b. b.z) bs a b c d at0 at1 at2 at3 in
    λ i. record { x = x i; y = y i; z = z i }

-- ---- hull by hull

pub first_hull : (all left : List PlainHull) (h : PlainHull) → all ≡ h ∷ left → reaches_round all ≡ Some (reaches_with (reaches_of_hull h) left)
unfolding reaches_round
first_hull all left h front = ap reaches_round front

pub next_hull : (r : PlainBox) (left rest : List PlainHull) (h : PlainHull) → left ≡ h ∷ rest → reaches_with r left ≡ reaches_with (round_two r (reaches_of_hull h)) rest
next_hull r left rest h front = ap (reaches_with r) front
