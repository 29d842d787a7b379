-- Joined gaps: the radii that they show are those that each shows.
use Rattle.std.proofs.Common.{◌≡◌, ℕ, ◌+◌, ◌^◌, ◌<◌, ◌≤◌, ◌↔◌, inl, inr, arith, sym, ap, ◌∙◌, subst, List, [], ◌∷◌, slice_index_or}
use Rattle.std.specs.Prelude.{ℤ, pos, ◌≤ℤ◌}
use Rattle.std.specs.Int.{int_min, int_max}
use Rattle.cj_track.specs.PlainTracks.{PlainTrack}
use Rattle.cj_hermite.specs.Walks.{HasNone}
use Rattle.cj_bezier.specs.Hulls.{PlainHull}
use Rattle.cj_bezier.specs.Gaps.{PlainGap, gap_terms}
use Rattle.cj_bezier.specs.Parts.{hulls_of, AreInTime}
use Rattle.cj_bezier.specs.Shells.{IsInner, IsOuter}
use Rattle.cj_bezier.specs.Verdicts.{share, AreAtLeast, AreAtMost}
use Rattle.cj_bezier.proofs.HullListLemmas.{no_hulls}
use Rattle.cj_bezier.proofs.NextPartLemmas.{none_in_time, join_time}
use Rattle.cj_bezier.proofs.SevenLemmas.{at_seven}
use Rattle.cj_bezier.proofs.ShellLemmas.{le-min, min-left, min-right, max-le, max-left, max-right}
use Rattle.cj_bezier.proofs.ShellRoundLemmas.{inner_front, inner_test, outer_front, outer_test}
use Rattle.cj_walk.specs.JoinedGaps.{lesser, greater, IsGapRound, IsGapBefore, IsGapUpTo}

-- ---- two gaps

-- the inner radii of the gap with the lesser ends are those of both
pub inner_of_both : (g h k : PlainGap) (r : ℕ) → k.low ≡ lesser g.low h.low → IsInner k r ↔ (IsInner g r × IsInner h r)
unfolding AreAtLeast
inner_of_both g h k r e = (to, λ p. back p.0 p.1)
  where
    at : (n : ℕ) → n < 7 → slice_index_or k.low n (pos 0) ≡ int_min (slice_index_or g.low n (pos 0)) (slice_index_or h.low n (pos 0))
    at n l = ap (λ (xs : List ℤ). slice_index_or xs n (pos 0)) e ∙ at_seven (λ n. int_min (slice_index_or g.low n (pos 0)) (slice_index_or h.low n (pos 0))) n l

    to : IsInner k r → IsInner g r × IsInner h r
    to (inl z) = (inl z, inl z)
    to (inr l) = (
      inr (λ n b. min-left (share r n) (slice_index_or g.low n (pos 0)) (slice_index_or h.low n (pos 0)) (subst (λ (z : ℤ). share r n ≤ℤ z) (at n b) (l n b))),
      inr (λ n b. min-right (share r n) (slice_index_or g.low n (pos 0)) (slice_index_or h.low n (pos 0)) (subst (λ (z : ℤ). share r n ≤ℤ z) (at n b) (l n b))),
    )

    back : IsInner g r → IsInner h r → IsInner k r
    back (inl z) q = inl z
    back (inr p) (inl z) = inl z
    back (inr p) (inr q) = inr (λ n b. subst (λ (z : ℤ). share r n ≤ℤ z) (sym (at n b)) (le-min (share r n) (slice_index_or g.low n (pos 0)) (slice_index_or h.low n (pos 0)) (p n b) (q n b)))

-- the outer radii of the gap with the greater ends are those of both
pub outer_of_both : (g h k : PlainGap) (r : ℕ) → k.high ≡ greater g.high h.high → IsOuter k r ↔ (IsOuter g r × IsOuter h r)
unfolding AreAtMost
outer_of_both g h k r e = (
  λ l. (
    λ n b. max-left (share r n) (slice_index_or g.high n (pos 0)) (slice_index_or h.high n (pos 0)) (subst (λ (z : ℤ). z ≤ℤ share r n) (at n b) (l n b)),
    λ n b. max-right (share r n) (slice_index_or g.high n (pos 0)) (slice_index_or h.high n (pos 0)) (subst (λ (z : ℤ). z ≤ℤ share r n) (at n b) (l n b)),
  ),
  λ p n b. subst (λ (z : ℤ). z ≤ℤ share r n) (sym (at n b)) (max-le (share r n) (slice_index_or g.high n (pos 0)) (slice_index_or h.high n (pos 0)) (p.0 n b) (p.1 n b)),
)
  where
    at : (n : ℕ) → n < 7 → slice_index_or k.high n (pos 0) ≡ int_max (slice_index_or g.high n (pos 0)) (slice_index_or h.high n (pos 0))
    at n l = ap (λ (xs : List ℤ). slice_index_or xs n (pos 0)) e ∙ at_seven (λ n. int_max (slice_index_or g.high n (pos 0)) (slice_index_or h.high n (pos 0))) n l

-- ---- hull by hull

first_gap : (all left : List PlainHull) (h : PlainHull) (g : PlainGap) → all ≡ h ∷ left → g ≡ gap_terms h → IsGapBefore all left g
first_gap all left h g front same =
    subst (λ (hs : List PlainHull). IsGapBefore hs left g) (sym front)
    (subst (λ (t : PlainGap). IsGapBefore (h ∷ left) left t) (sym same) (record { inner = inner_front h left; outer = outer_front h left }))

next_gap : (all left rest : List PlainHull) (h : PlainHull) (g k : PlainGap) → IsGapBefore all left g → left ≡ h ∷ rest
    → ((r : ℕ) → IsInner k r ↔ (IsInner g r × IsInner (gap_terms h) r)) → ((r : ℕ) → IsOuter k r ↔ (IsOuter g r × IsOuter (gap_terms h) r)) → IsGapBefore all rest k
next_gap all left rest h g k so_far front inner outer =
    let before = subst (λ (hs : List PlainHull). IsGapBefore all hs g) front so_far in
    record {
      inner = λ r. (
        λ t. let a = (before.inner r).0 t in let b = (inner_front h rest r).0 a.1 in ((inner r).1 (a.0, b.0), b.1),
        λ p. let both = (inner r).0 p.0 in (before.inner r).1 (both.0, (inner_front h rest r).1 (both.1, p.1)),
      );
      outer = λ r. (
        λ t. let a = (before.outer r).0 t in let b = (outer_front h rest r).0 a.1 in ((outer r).1 (a.0, b.0), b.1),
        λ p. let both = (outer r).0 p.0 in (before.outer r).1 (both.0, (outer_front h rest r).1 (both.1, p.1)),
      );
    }

last_gap : (all left : List PlainHull) (g : PlainGap) → left ≡ [] → IsGapBefore all left g → IsGapRound all g
last_gap all left g none so_far =
    let before = subst (λ (hs : List PlainHull). IsGapBefore all hs g) none so_far in
    record {
      inner = λ r. (λ i. (before.inner r).1 (i, inner_test [] r tt), λ t. ((before.inner r).0 t).0);
      outer = λ r. (λ o. (before.outer r).1 (o, outer_test [] r tt), λ t. ((before.outer r).0 t).0);
    }

-- ---- part by part

pub first_part : (e : PlainTrack) (from at to : ℕ) (h : PlainHull) (g : PlainGap) → from ≤ at → at ≤ to → hulls_of e from to ≡ h ∷ hulls_of e (at + 1) to → AreInTime e from at → IsOuter (gap_terms h) (10 ^ 18) → g ≡ gap_terms h
    → IsGapUpTo e from at to g
first_part e from at to h g after within front time reach same = record {
  after = after;
  within = within;
  gap = first_gap (hulls_of e from to) (hulls_of e (at + 1) to) h g front same;
  some = λ none. let empty = no_hulls e from to none in cc;
  time = time;
  reach = subst (λ (t : PlainGap). IsOuter t (10 ^ 18)) (sym same) reach;
}

pub one_part_more : (e : PlainTrack) (from before at to : ℕ) (h : PlainHull) (g k : PlainGap) → IsGapUpTo e from before to g → before + 1 ≤ at → at ≤ to
    → hulls_of e (before + 1) to ≡ h ∷ hulls_of e (at + 1) to → AreInTime e (before + 1) at → IsOuter (gap_terms h) (10 ^ 18)
    → ((r : ℕ) → IsInner k r ↔ (IsInner g r × IsInner (gap_terms h) r)) → ((r : ℕ) → IsOuter k r ↔ (IsOuter g r × IsOuter (gap_terms h) r)) → IsGapUpTo e from at to k
one_part_more e from before at to h g k so_far later within front time reach inner outer = record {
  after = omega (arith, so_far.after);
  within = within;
  gap = next_gap (hulls_of e from to) (hulls_of e (before + 1) to) (hulls_of e (at + 1) to) h g k so_far.gap front inner outer;
  some = so_far.some;
  time = join_time e from before at so_far.time time;
  reach = (outer (10 ^ 18)).1 (so_far.reach, reach);
}

-- where no part is left
pub record IsGapOfAll (e : PlainTrack) (from to : ℕ) (g : PlainGap) : Type 0 where
  pub round : IsGapRound (hulls_of e from to) g
  pub time : AreInTime e from to

pub no_part_more : (e : PlainTrack) (from at to : ℕ) (g : PlainGap) → IsGapUpTo e from at to g → HasNone e (at + 1) to → IsGapOfAll e from to g
no_part_more e from at to g so_far none = record {
  round = last_gap (hulls_of e from to) (hulls_of e (at + 1) to) g (no_hulls e (at + 1) to none) so_far.gap;
  time = join_time e from at to so_far.time (none_in_time e (at + 1) to none);
}

pub last_tick : (e : PlainTrack) (from at to : ℕ) (g : PlainGap) → IsGapUpTo e from at to g → to ≤ at → IsGapOfAll e from to g
last_tick e from at to g so_far all = no_part_more e from at to g so_far (λ m low high. absurd (omega arith))
