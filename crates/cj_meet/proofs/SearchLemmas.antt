-- Searches of a leaf: the parts that wait, the next one first, each no longer than its place allows, and what is found so far.
use Rattle.std.proofs.Common.{◌≡◌, ◌⊎◌, ℕ, zero, suc, ◌+◌, ◌-◌, ◌*◌, ◌^◌, ◌<◌, ◌≤◌, true, false, ◌&&◌, ◌||◌, eqb, leb, ltb, List, [], ◌∷◌, ◌++◌, length, get_or, set, drop, refl, sym, ap, subst, ◌∙◌, inl, inr, arith, append-nil}
use Rattle.std.proofs.lemmas.Bool.{or_cases, and_parts, ltb-true, leb-true, eqb-true}
use Rattle.std.proofs.lemmas.List.{drop_more, drop-set, length-set}
use Rattle.cj_interval.proofs.ListLemmas.{Each, Exists, Each-append, Exists-left, Exists-right, each_from_append}
use Rattle.cj_hermite.specs.Interpolant.{Curve, IsOver}
use Rattle.cj_hermite.proofs.TrackLemmas.{over_part}
use Rattle.cj_bezier.specs.Gaps.{gap_terms, hull_gap}
use Rattle.cj_case.specs.Leaves.{PlainLeaf}
use Rattle.cj_bezier.specs.Squares.{least_square}
use Rattle.cj_meet.specs.declared.approaches.Approach.{Approach}
use Rattle.cj_meet.specs.declared.runs.Waiting.{Waiting}
use Rattle.cj_meet.specs.Closest.{PlainApproach, approach_at, ends_between}
use Rattle.cj_meet.specs.Flat.{is_flat}
use Rattle.cj_meet.specs.Searches.{plain_approach, NoWorse, AreRunHalves, IsOneOf, NoneNearer, IsFlatAnd, IsSettled, IsHalved}
use Rattle.cj_meet.proofs.EndLemmas.{ends-flat, ends-halved, each_end, first_end, last_end}
use Rattle.cj_meet.proofs.NearerLemmas.{NoWorse-refl, NoWorse-trans}
use Rattle.cj_meet.proofs.TickLemmas.{low_upper}

-- ---- lists in parts

exists_parts : {X : Type 0} (P : X → Type 0) (xs ys : List X) → Exists P (xs ++ ys) → Exists P xs ⊎ Exists P ys
exists_parts P [] ys e = inr e
exists_parts P (x ∷ xs) ys (inl e) = inl (inl e)
exists_parts P (x ∷ xs) ys (inr e) = elim (exists_parts P xs ys e) [
  | inl here ↦ inl (inr here)
  | inr there ↦ inr there
]

-- ---- the parts that wait

-- parts of the ticks from lo to hi, the first of at most 2 ^ h ticks, each further one of at most twice as many
unfoldable pub Fit : ℕ → ℕ → ℕ → List Waiting → Type 0
Fit lo hi h [] = Unit {0}
Fit lo hi h (p ∷ ps) = (lo ≤ p.first.micros) × (p.last.micros ≤ hi) × (p.last.micros < p.first.micros + 2 ^ h) × Fit lo hi (suc h) ps

-- twice the ticks that wait, less the parts
unfoldable pub work : List Waiting → ℕ
work [] = 0
work (p ∷ ps) = 2 * (p.last.micros - p.first.micros) + 1 + work ps

-- the ends of the parts that wait
unfoldable pub waiting : Curve → Curve → PlainLeaf → List Waiting → List PlainApproach
waiting c d s [] = []
waiting c d s (p ∷ ps) = ends_between c d s p.first.micros p.last.micros ++ waiting c d s ps

pub fit_all : (lo hi : ℕ) (p : Waiting) → p.first.micros ≡ lo → p.last.micros ≡ hi → hi < lo + 2 ^ 32 → Fit lo hi 32 (p ∷ [])
unfolding Fit
fit_all lo hi p first last few = (omega arith, omega arith, omega arith, tt)

pub fit_top : (lo hi h : ℕ) (p : Waiting) (ps : List Waiting) → Fit lo hi h (p ∷ ps) → (lo ≤ p.first.micros) × (p.last.micros ≤ hi) × (p.last.micros < p.first.micros + 2 ^ h)
unfolding Fit
fit_top lo hi h p ps f = (f.0, f.1, f.2)

pub fit_rest : (lo hi h : ℕ) (p : Waiting) (ps : List Waiting) → Fit lo hi h (p ∷ ps) → Fit lo hi (h + 1) ps
unfolding Fit
fit_rest lo hi h p ps f = let next : suc h ≡ h + 1 = omega arith in subst (λ (k : ℕ). Fit lo hi k ps) next f.3

-- a part of two ticks or more is not at the last place
pub fit_place : (lo hi h : ℕ) (p : Waiting) (ps : List Waiting) → Fit lo hi h (p ∷ ps) → p.first.micros < p.last.micros → 0 < h
unfolding Fit
fit_place lo hi zero p ps f lt = let one = f.2 in absurd (omega arith)
fit_place lo hi (suc h) p ps f lt = omega arith

fit_two : (lo hi h : ℕ) (p next other : Waiting) (ps : List Waiting) → Fit lo hi (suc h) (p ∷ ps) → p.first.micros < p.last.micros → AreRunHalves p next other ⊎ AreRunHalves p other next → Fit lo hi h (next ∷ other ∷ ps)
unfolding Fit
fit_two lo hi h p next other ps f lt (inl halves) =
    let double : 2 ^ suc h ≡ 2 * 2 ^ h = omega arith in
    let low = f.0 in let high = f.1 in let wide = f.2 in
    let begins = ap (λ t. t.micros) halves.begins in
    let closes = ap (λ t. t.micros) halves.closes in
    let ends = halves.ends in let on = halves.goes_on in
    (omega arith, omega arith, omega arith, (omega arith, omega arith, omega arith, f.3))
fit_two lo hi h p next other ps f lt (inr halves) =
    let double : 2 ^ suc h ≡ 2 * 2 ^ h = omega arith in
    let low = f.0 in let high = f.1 in let wide = f.2 in
    let begins = ap (λ t. t.micros) halves.begins in
    let closes = ap (λ t. t.micros) halves.closes in
    let ends = halves.ends in let on = halves.goes_on in
    (omega arith, omega arith, omega arith, (omega arith, omega arith, omega arith, f.3))

pub fit_halved : (lo hi h : ℕ) (p next other : Waiting) (ps : List Waiting) → Fit lo hi h (p ∷ ps) → p.first.micros < p.last.micros → AreRunHalves p next other ⊎ AreRunHalves p other next → Fit lo hi (h - 1) (next ∷ other ∷ ps)
fit_halved lo hi zero p next other ps f lt halves = let some = fit_place lo hi zero p ps f lt in absurd (omega arith)
fit_halved lo hi (suc h) p next other ps f lt halves =
    let at : suc h - 1 ≡ h = omega arith in
    subst (λ (k : ℕ). Fit lo hi k (next ∷ other ∷ ps)) (sym at) (fit_two lo hi h p next other ps f lt halves)

pub work_rest : (p : Waiting) (ps : List Waiting) → work ps < work (p ∷ ps)
unfolding work
work_rest p ps = omega arith

pub work_halved : (p next other : Waiting) (ps : List Waiting) → p.first.micros < p.last.micros → AreRunHalves p next other ⊎ AreRunHalves p other next → work (next ∷ other ∷ ps) < work (p ∷ ps)
unfolding work
work_halved p next other ps lt (inl halves) =
    let begins = ap (λ t. t.micros) halves.begins in
    let closes = ap (λ t. t.micros) halves.closes in
    let ends = halves.ends in let on = halves.goes_on in
    omega arith
work_halved p next other ps lt (inr halves) =
    let begins = ap (λ t. t.micros) halves.begins in
    let closes = ap (λ t. t.micros) halves.closes in
    let ends = halves.ends in let on = halves.goes_on in
    omega arith

-- ---- the parts in an array

pub top_part : (parts : List Waiting) (top : ℕ) (d : Waiting) → top < length parts → drop top parts ≡ get_or parts top d ∷ drop (top + 1) parts
top_part parts top d lt = drop_more parts top d lt

pub halved_parts : (parts : List Waiting) (top : ℕ) (next other : Waiting) → 0 < top → top < length parts → drop (top - 1) (set (set parts top other) (top - 1) next) ≡ next ∷ other ∷ drop (top + 1) parts
halved_parts parts zero next other some lt = absurd (omega arith)
halved_parts parts (suc i) next other some lt =
    let at : suc i - 1 ≡ i = omega arith in
    let on : i + 1 ≡ suc i = omega arith in
    ap (λ (k : ℕ). drop k (set (set parts (suc i) other) k next)) at
    ∙ drop-set (set parts (suc i) other) i next (omega (arith, length-set parts (suc i) other))
    ∙ ap (λ (k : ℕ). next ∷ drop k (set parts (suc i) other)) on
    ∙ ap (λ (ps : List Waiting). next ∷ ps) (drop-set parts (suc i) other lt)

-- ---- what is left out

-- a part whose least square is too great, or as great as the best bound while it begins no earlier, has no nearer tick
pub left_out : (c d : Curve) (run : Waiting) (best : Approach) (low : ℕ) → IsOver c run.first.micros run.last.micros → IsOver d run.first.micros run.last.micros →
    low ≡ least_square (gap_terms (hull_gap c d run.first.micros run.last.micros)) → (ltb best.square low || (eqb best.square low && leb best.tick.micros run.first.micros)) ≡ true → NoneNearer c d run (plain_approach best)
left_out c d run best low oc od same out m from to = elim (or_cases (ltb best.square low) (eqb best.square low && leb best.tick.micros run.first.micros) out) [
  | inl less ↦
      let lt = ltb-true best.square low less in
      let up = low_upper c d run.first.micros m run.last.micros from to oc od in
      record { least = omega arith; earliest = λ e. absurd (omega (arith, e)) }
  | inr both ↦
      let parts = and_parts (eqb best.square low) (leb best.tick.micros run.first.micros) both in
      let equal = eqb-true best.square low parts.0 in
      let early = leb-true best.tick.micros run.first.micros parts.1 in
      let up = low_upper c d run.first.micros m run.last.micros from to oc od in
      record { least = omega arith; earliest = λ _. omega arith }
]

-- ---- what is found so far

module _ (c d : Curve) (s : PlainLeaf) (lo hi : ℕ) (given : PlainApproach) where
  -- of the ends from lo to hi and of one that was given this is the nearest, but for those of the parts that wait
  pub record Searched (best : PlainApproach) (ps : List Waiting) : Type 0 where
    pub no_worse : NoWorse best given
    pub reached : (best ≡ given) ⊎ Exists (λ p. p ≡ best) (ends_between c d s lo hi)
    pub inside : (x : PlainApproach) → Exists (λ p. p ≡ x) (waiting c d s ps) → Exists (λ p. p ≡ x) (ends_between c d s lo hi)
    pub left : (q : PlainApproach) → NoWorse q best → Each (NoWorse q) (waiting c d s ps) → Each (NoWorse q) (ends_between c d s lo hi)

  pub searched_begun : (p : Waiting) → p.first.micros ≡ lo → p.last.micros ≡ hi → Searched given (p ∷ [])
  unfolding waiting
  searched_begun p first last =
      let same : ends_between c d s p.first.micros p.last.micros ++ [] ≡ ends_between c d s lo hi =
      append-nil (ends_between c d s p.first.micros p.last.micros) ∙ (λ i. ends_between c d s (first i) (last i)) in
      record {
        no_worse = NoWorse-refl given;
        reached = inl refl;
        inside = λ x h. subst (Exists (λ p. p ≡ x)) same h;
        left = λ q h each. subst (Each (NoWorse q)) same each;
      }

  pub searched_whole : (best : PlainApproach) → Searched best [] → Each (NoWorse best) (ends_between c d s lo hi)
  unfolding waiting
  searched_whole best f = f.left best (NoWorse-refl best) tt

  module _ (p : Waiting) (oc : IsOver c lo hi) (od : IsOver d lo hi) (low : lo ≤ p.first.micros) (high : p.last.micros ≤ hi) where
    part_over_c : IsOver c p.first.micros p.last.micros
    part_over_c = over_part c lo hi p.first.micros p.last.micros oc low high

    part_over_d : IsOver d p.first.micros p.last.micros
    part_over_d = over_part d lo hi p.first.micros p.last.micros od low high

    still_reached : (best found : PlainApproach) (ps : List Waiting) → Searched best (p ∷ ps) → IsOneOf c d p best found → (found ≡ given) ⊎ Exists (λ q. q ≡ found) (ends_between c d s lo hi)
    unfolding waiting
    still_reached best found ps f (inl same) = elim f.reached [
      | inl is ↦ inl (same ∙ is)
      | inr is ↦ inr (subst (λ x. Exists (λ q. q ≡ x) (ends_between c d s lo hi)) (sym same) is)
    ]
    still_reached best found ps f (inr (inl first)) =
        inr (f.inside found (Exists-left (λ q. q ≡ found) (ends_between c d s p.first.micros p.last.micros) (waiting c d s ps)
        (subst (λ x. Exists (λ q. q ≡ x) (ends_between c d s p.first.micros p.last.micros)) (sym first) (first_end c d s p.first.micros p.last.micros p.some part_over_c part_over_d))))
    still_reached best found ps f (inr (inr last)) =
        inr (f.inside found (Exists-left (λ q. q ≡ found) (ends_between c d s p.first.micros p.last.micros) (waiting c d s ps)
        (subst (λ x. Exists (λ q. q ≡ x) (ends_between c d s p.first.micros p.last.micros)) (sym last) (last_end c d s p.first.micros p.last.micros p.some part_over_c part_over_d))))

    -- no end of a settled part is nearer
    none_nearer : (found q : PlainApproach) → NoneNearer c d p found ⊎ IsFlatAnd c d p found → NoWorse q found → Each (NoWorse q) (ends_between c d s p.first.micros p.last.micros)
    none_nearer found q (inl none) h =
        each_end c d s p.first.micros p.last.micros p.some part_over_c part_over_d (NoWorse q) (λ m from to. NoWorse-trans q found (approach_at c d m) h (none m from to))
    none_nearer found q (inr flat) h =
        subst (Each (NoWorse q)) (sym (ends-flat c d s p.first.micros p.last.micros flat.flat))
        (NoWorse-trans q found (approach_at c d p.first.micros) h flat.first, (NoWorse-trans q found (approach_at c d p.last.micros) h flat.last, tt))

    pub searched_settled : (best : PlainApproach) (found : Approach) (ps : List Waiting) → Searched best (p ∷ ps) → IsSettled c d p best found → Searched (plain_approach found) ps
    unfolding waiting
    searched_settled best found ps f is =
        let x = plain_approach found in
        record {
          no_worse = NoWorse-trans x best given is.no_worse f.no_worse;
          reached = still_reached best x ps f is.one_of;
          inside = λ y h. f.inside y (Exists-right (λ q. q ≡ y) (ends_between c d s p.first.micros p.last.micros) (waiting c d s ps) h);
          left = λ q h each. f.left q (NoWorse-trans q x best h is.no_worse)
              (Each-append (NoWorse q) (ends_between c d s p.first.micros p.last.micros) (waiting c d s ps) (none_nearer x q is.done h) each);
        }

    -- the ends of the halves are those of the part
    halves_are : (early late : Waiting) → is_flat (gap_terms (hull_gap c d p.first.micros p.last.micros)) ≡ false → AreRunHalves p early late →
        ends_between c d s p.first.micros p.last.micros ≡ ends_between c d s early.first.micros early.last.micros ++ ends_between c d s late.first.micros late.last.micros
    halves_are early late is halves =
        let begins : p.first.micros ≡ early.first.micros = ap (λ t. t.micros) (sym halves.begins) in
        let closes : p.last.micros ≡ late.last.micros = ap (λ t. t.micros) (sym halves.closes) in
        let ends = sym halves.ends in
        let on = sym halves.goes_on in
        ends-halved c d s p.first.micros p.last.micros p.some part_over_c part_over_d is
        ∙ (λ i. ends_between c d s (begins i) (ends i) ++ ends_between c d s (on i) (closes i))

    pub searched_halved : (best : PlainApproach) (found : Approach) (next other : Waiting) (ps : List Waiting) → Searched best (p ∷ ps) → IsHalved c d p best found next other → Searched (plain_approach found) (next ∷ other ∷ ps)
    unfolding waiting
    searched_halved best found next other ps f is =
        let x = plain_approach found in
        record {
          no_worse = NoWorse-trans x best given is.no_worse f.no_worse;
          reached = still_reached best x ps f is.one_of;
          inside = λ y h. f.inside y (within y (exists_parts (λ q. q ≡ y) of_next (of_other ++ waiting c d s ps) h));
          left = λ q h each.
              let first = each_from_append (NoWorse q) of_next (of_other ++ waiting c d s ps) each in
              let second = each_from_append (NoWorse q) of_other (waiting c d s ps) first.1 in
              f.left q (NoWorse-trans q x best h is.no_worse)
              (Each-append (NoWorse q) whole (waiting c d s ps) (both q first.0 second.0 is.halves) second.1);
        }
      where
        whole : List PlainApproach
        whole = ends_between c d s p.first.micros p.last.micros

        of_next : List PlainApproach
        of_next = ends_between c d s next.first.micros next.last.micros

        of_other : List PlainApproach
        of_other = ends_between c d s other.first.micros other.last.micros

        both : (q : PlainApproach) → Each (NoWorse q) of_next → Each (NoWorse q) of_other → AreRunHalves p next other ⊎ AreRunHalves p other next → Each (NoWorse q) whole
        both q h k (inl halves) = subst (Each (NoWorse q)) (sym (halves_are next other is.open_run halves)) (Each-append (NoWorse q) of_next of_other h k)
        both q h k (inr halves) = subst (Each (NoWorse q)) (sym (halves_are other next is.open_run halves)) (Each-append (NoWorse q) of_other of_next k h)

        next_in : (y : PlainApproach) → Exists (λ q. q ≡ y) of_next → AreRunHalves p next other ⊎ AreRunHalves p other next → Exists (λ q. q ≡ y) whole
        next_in y h (inl halves) = subst (Exists (λ q. q ≡ y)) (sym (halves_are next other is.open_run halves)) (Exists-left (λ q. q ≡ y) of_next of_other h)
        next_in y h (inr halves) = subst (Exists (λ q. q ≡ y)) (sym (halves_are other next is.open_run halves)) (Exists-right (λ q. q ≡ y) of_other of_next h)

        other_in : (y : PlainApproach) → Exists (λ q. q ≡ y) of_other → AreRunHalves p next other ⊎ AreRunHalves p other next → Exists (λ q. q ≡ y) whole
        other_in y h (inl halves) = subst (Exists (λ q. q ≡ y)) (sym (halves_are next other is.open_run halves)) (Exists-right (λ q. q ≡ y) of_next of_other h)
        other_in y h (inr halves) = subst (Exists (λ q. q ≡ y)) (sym (halves_are other next is.open_run halves)) (Exists-left (λ q. q ≡ y) of_other of_next h)

        within : (y : PlainApproach) → Exists (λ q. q ≡ y) of_next ⊎ Exists (λ q. q ≡ y) (of_other ++ waiting c d s ps) → Exists (λ q. q ≡ y) (whole ++ waiting c d s ps)
        within y (inl h) = Exists-left (λ q. q ≡ y) whole (waiting c d s ps) (next_in y h is.halves)
        within y (inr h) = elim (exists_parts (λ q. q ≡ y) of_other (waiting c d s ps) h) [
          | inl here ↦ Exists-left (λ q. q ≡ y) whole (waiting c d s ps) (other_in y here is.halves)
          | inr later ↦ Exists-right (λ q. q ≡ y) whole (waiting c d s ps) later
        ]
