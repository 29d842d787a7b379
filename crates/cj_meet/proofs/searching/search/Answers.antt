use Rattle.std.proofs.Common.{◌≡◌, ◌+◌, ◌-◌, ◌<◌, ◌≤◌, List, ◌∷◌, get_or, set, drop, refl, sym, ap, subst, ◌∙◌, inl, inr, arith}
use Rattle.std.proofs.lemmas.List.{drop_all, length-set}
use Rattle.cj_interval.proofs.ListLemmas.{All-from_each, Any-from_exists}
use Rattle.cj_hermite.specs.Interpolant.{IsOver}
use Rattle.cj_hermite.specs.Ready.{curve_ready}
use Rattle.cj_hermite.proofs.TrackLemmas.{over_part}
use Rattle.cj_case.specs.Leaves.{plain_leaf}
use Rattle.cj_meet.specs.declared.approaches.Approach.{Approach}
use Rattle.cj_meet.specs.declared.runs.Waiting.{Waiting}
use Rattle.cj_meet.specs.Closest.{PlainApproach, ends_between}
use Rattle.cj_meet.specs.Searches.{plain_approach, NoWorse, IsHalved}
use Rattle.cj_meet.proofs.EndLemmas.{open_run-two}
use Rattle.cj_meet.proofs.SearchLemmas.{Fit, Searched, work, fit_all, fit_top, fit_rest, fit_place, fit_halved, work_rest, work_halved, top_part, halved_parts, searched_begun, searched_whole, searched_settled, searched_halved}
use Rattle.cj_meet.proofs.searching.search.Goals as goal
use Rattle.cj_meet.proofs.searching.search.Goals.{After-index-parts-top}

-- the part at the top
abbrev part : After-index-parts-top → Waiting
part c = get_or c.loop-top.parts c.loop-top.top c.index-parts-top.result

-- it stands before those behind it
stands : (c : After-index-parts-top) → drop c.loop-top.top c.loop-top.parts ≡ part c ∷ drop (c.loop-top.top + 1) c.loop-top.parts
stands c = let i = c.loop-top.invariant in top_part c.loop-top.parts c.loop-top.top c.index-parts-top.result (omega (arith, i.places))

fits : (c : After-index-parts-top) → Fit c.args.leaf.now.cell.first.micros c.args.leaf.now.cell.last.micros c.loop-top.top (part c ∷ drop (c.loop-top.top + 1) c.loop-top.parts)
fits c = subst (Fit c.args.leaf.now.cell.first.micros c.args.leaf.now.cell.last.micros c.loop-top.top) (stands c) c.loop-top.invariant.fit

-- it lies in the leaf
bounds : (c : After-index-parts-top) → (c.args.leaf.now.cell.first.micros ≤ (part c).first.micros) × ((part c).last.micros ≤ c.args.leaf.now.cell.last.micros)
bounds c =
    let top = fit_top c.args.leaf.now.cell.first.micros c.args.leaf.now.cell.last.micros c.loop-top.top (part c) (drop (c.loop-top.top + 1) c.loop-top.parts) (fits c) in
    (top.0, top.1)

searched : (c : After-index-parts-top) → Searched (curve_ready c.args.a.now) (curve_ready c.args.b.now) (plain_leaf c.args.leaf.now) c.args.leaf.now.cell.first.micros c.args.leaf.now.cell.last.micros
    (plain_approach c.args.given) (plain_approach c.loop-top.best) (part c ∷ drop (c.loop-top.top + 1) c.loop-top.parts)
searched c =
    subst (Searched (curve_ready c.args.a.now) (curve_ready c.args.b.now) (plain_leaf c.args.leaf.now) c.args.leaf.now.cell.first.micros c.args.leaf.now.cell.last.micros (plain_approach c.args.given) (plain_approach c.loop-top.best))
    (stands c) c.loop-top.invariant.searched

first_over : (c : After-index-parts-top) → IsOver (curve_ready c.args.a.now) (part c).first.micros (part c).last.micros
first_over c = let b = bounds c in over_part (curve_ready c.args.a.now) c.args.leaf.now.cell.first.micros c.args.leaf.now.cell.last.micros (part c).first.micros (part c).last.micros c.requires.first_over b.0 b.1

second_over : (c : After-index-parts-top) → IsOver (curve_ready c.args.b.now) (part c).first.micros (part c).last.micros
second_over c = let b = bounds c in over_part (curve_ready c.args.b.now) c.args.leaf.now.cell.first.micros c.args.leaf.now.cell.last.micros (part c).first.micros (part c).last.micros c.requires.second_over b.0 b.1

module _ (c : After-index-parts-top) (best : PlainApproach) (found : Approach) (next other : Waiting) (is : IsHalved (curve_ready c.args.a.now) (curve_ready c.args.b.now) (part c) best found next other) where
  -- a part that is halved has two ticks or more, and so is not at the first place
  two_ticks : (part c).first.micros < (part c).last.micros
  two_ticks = let p = part c in open_run-two (curve_ready c.args.a.now) (curve_ready c.args.b.now) p.first.micros p.last.micros p.some (first_over c) (second_over c) is.open_run

  place : 0 < c.loop-top.top
  place = fit_place c.args.leaf.now.cell.first.micros c.args.leaf.now.cell.last.micros c.loop-top.top (part c) (drop (c.loop-top.top + 1) c.loop-top.parts) (fits c) two_ticks

  -- its halves then stand in its place
  halves_stand : drop (c.loop-top.top - 1) (set (set c.loop-top.parts c.loop-top.top other) (c.loop-top.top - 1) next) ≡ next ∷ other ∷ drop (c.loop-top.top + 1) c.loop-top.parts
  halves_stand = let i = c.loop-top.invariant in halved_parts c.loop-top.parts c.loop-top.top next other place (omega (arith, i.places))

pub loop-top-init : goal.loop-top-init
loop-top-init c =
    let cell = c.args.leaf.now.cell in
    let p = c.whole_of-parts.result in
    let first : c.whole_of-parts.result.first.micros ≡ c.args.leaf.now.cell.first.micros = ap (λ t. t.micros) c.whole_of-parts.ensures.first in
    let last : c.whole_of-parts.result.last.micros ≡ c.args.leaf.now.cell.last.micros = ap (λ t. t.micros) c.whole_of-parts.ensures.last in
    let over = c.requires.first_over in
    record {
      places = refl;
      place = omega arith;
      fit = fit_all cell.first.micros cell.last.micros p first last (omega (arith, over.from, over.to, c.args.a.now.short));
      searched = searched_begun (curve_ready c.args.a.now) (curve_ready c.args.b.now) (plain_leaf c.args.leaf.now) cell.first.micros cell.last.micros (plain_approach c.args.given) p first last;
    }

pub look-requires-clause-first_over : goal.look-requires-clause-first_over
look-requires-clause-first_over c = first_over (goal.at.look-requires-clause-first_over c).After-index-parts-top

pub look-requires-clause-second_over : goal.look-requires-clause-second_over
look-requires-clause-second_over c = second_over (goal.at.look-requires-clause-second_over c).After-index-parts-top

pub loop-top-smaller-in-Settled : goal.loop-top-smaller-in-Settled
loop-top-smaller-in-Settled c =
    let at = (goal.at.loop-top-smaller-in-Settled c).After-index-parts-top in
    subst (λ (ps : List Waiting). work (drop (c.loop-top.top + 1) c.loop-top.parts) < work ps) (sym (stands at)) (work_rest (part at) (drop (c.loop-top.top + 1) c.loop-top.parts))

pub loop-top-preserved-in-Settled : goal.loop-top-preserved-in-Settled
loop-top-preserved-in-Settled c =
    let at = (goal.at.loop-top-preserved-in-Settled c).After-index-parts-top in
    let cell = c.args.leaf.now.cell in
    let i = c.loop-top.invariant in
    let b = bounds at in
    let rest = drop (c.loop-top.top + 1) c.loop-top.parts in
    record {
      places = i.places;
      place = omega arith;
      fit = fit_rest cell.first.micros cell.last.micros c.loop-top.top (part at) rest (fits at);
      searched = searched_settled (curve_ready c.args.a.now) (curve_ready c.args.b.now) (plain_leaf c.args.leaf.now) cell.first.micros cell.last.micros (plain_approach c.args.given) (part at)
          c.requires.first_over c.requires.second_over b.0 b.1 (plain_approach c.loop-top.best) c.in-Settled.found rest (searched at) c.in-Settled.ensures.settled;
    }

pub overflow_sub-top-in-Halved : goal.overflow_sub-top-in-Halved
overflow_sub-top-in-Halved c = place (goal.at.overflow_sub-top-in-Halved c).After-index-parts-top _ _ _ _ c.in-Halved.ensures.halved

pub loop-top-smaller : goal.loop-top-smaller
loop-top-smaller c =
    let at = (goal.at.loop-top-smaller c).After-index-parts-top in
    let halved = c.in-Halved.ensures.halved in
    let rest = drop (c.loop-top.top + 1) c.loop-top.parts in
    subst (λ (ps : List Waiting). work ps < work (drop c.loop-top.top c.loop-top.parts)) (sym (halves_stand at _ _ _ _ halved))
    (subst (λ (ps : List Waiting). work (c.in-Halved.next ∷ c.in-Halved.other ∷ drop (c.loop-top.top + 1) c.loop-top.parts) < work ps) (sym (stands at))
    (work_halved (part at) c.in-Halved.next c.in-Halved.other rest (two_ticks at _ _ _ _ halved) halved.halves))

pub loop-top-preserved : goal.loop-top-preserved
loop-top-preserved c =
    let at = (goal.at.loop-top-preserved c).After-index-parts-top in
    let cell = c.args.leaf.now.cell in
    let i = c.loop-top.invariant in
    let b = bounds at in
    let rest = drop (c.loop-top.top + 1) c.loop-top.parts in
    let halved = c.in-Halved.ensures.halved in
    record {
      places = length-set (set c.loop-top.parts c.loop-top.top c.in-Halved.other) (c.loop-top.top - 1) c.in-Halved.next ∙ length-set c.loop-top.parts c.loop-top.top c.in-Halved.other ∙ i.places;
      place = omega arith;
      fit = subst (Fit cell.first.micros cell.last.micros (c.loop-top.top - 1)) (sym (halves_stand at _ _ _ _ halved))
          (fit_halved cell.first.micros cell.last.micros c.loop-top.top (part at) c.in-Halved.next c.in-Halved.other rest (fits at) (two_ticks at _ _ _ _ halved) halved.halves);
      searched = subst (Searched (curve_ready c.args.a.now) (curve_ready c.args.b.now) (plain_leaf c.args.leaf.now) cell.first.micros cell.last.micros (plain_approach c.args.given) (plain_approach c.in-Halved.found)) (sym (halves_stand at _ _ _ _ halved))
          (searched_halved (curve_ready c.args.a.now) (curve_ready c.args.b.now) (plain_leaf c.args.leaf.now) cell.first.micros cell.last.micros (plain_approach c.args.given) (part at)
          c.requires.first_over c.requires.second_over b.0 b.1 (plain_approach c.loop-top.best) c.in-Halved.found c.in-Halved.next c.in-Halved.other rest (searched at) halved);
    }

pub returns-clause-no_worse : goal.returns-clause-no_worse
returns-clause-no_worse c = let s = c.loop-top.invariant.searched in s.no_worse

pub returns-clause-nearest : goal.returns-clause-nearest
returns-clause-nearest c =
    let i = c.loop-top.invariant in
    let cell = c.args.leaf.now.cell in
    let x = curve_ready c.args.a.now in
    let y = curve_ready c.args.b.now in
    let none = drop_all c.loop-top.top c.loop-top.parts (omega (arith, i.places)) in
    All-from_each (NoWorse (plain_approach c.loop-top.best)) (ends_between x y (plain_leaf c.args.leaf.now) cell.first.micros cell.last.micros)
    (searched_whole x y (plain_leaf c.args.leaf.now) cell.first.micros cell.last.micros (plain_approach c.args.given) (plain_approach c.loop-top.best)
    (subst (Searched x y (plain_leaf c.args.leaf.now) cell.first.micros cell.last.micros (plain_approach c.args.given) (plain_approach c.loop-top.best)) none i.searched))

pub returns-clause-reached : goal.returns-clause-reached
returns-clause-reached c =
    let cell = c.args.leaf.now.cell in
    let s = c.loop-top.invariant.searched in
    elim s.reached [
      | inl same ↦ inl same
      | inr one ↦ inr (Any-from_exists (λ p. p ≡ plain_approach c.loop-top.best) (ends_between (curve_ready c.args.a.now) (curve_ready c.args.b.now) (plain_leaf c.args.leaf.now) cell.first.micros cell.last.micros) one)
    ]
