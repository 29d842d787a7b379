use Rattle.std.proofs.Common.{List, [], ◌∷◌, ◌∙◌, Vec, Global, length, refl, subst, sym, ap, arith}
use Rattle.cj_case.specs.declared.leaf.Leaf.{Leaf}
use Rattle.std.specs.Vec.Iter.{into_iter_items}
use Rattle.std.proofs.lemmas.List.{nil_from_length}
use Rattle.std.proofs.lemmas.List.Sums.{sum_by-cons}
use Rattle.std.proofs.lemmas.Result.{err_from_is_err_and}
use Rattle.cj_slabs.specs.declared.slab.Outcome.{Outcome}
use Rattle.cj_slabs.specs.declared.slab.Outcome.TheVariants.{Whole}
use Rattle.cj_slabs.specs.Slabs.{AreOutcomes, least, least_of, leaves_listed, told_by_outcome, told_by_outcomes}
use Rattle.cj_slabs.proofs.JoinLemmas.{all_found, found_next, no_slabs}
use Rattle.cj_slabs.proofs.joining.joined.Goals as goal

pub loop-outcome-init : goal.loop-outcome-init
loop-outcome-init c =
    let gives = c.into_iter-outcome-iterator.ensures.into_iter_gives in
    let empty = c.empty-found.ensures in
    record {
      found = λ case slots are. record {
        done = [];
        rest = slots;
        whole = refl;
        slabs = no_slabs case c.empty-found.result empty.slabs empty.touching empty.counts;
        others = are;
      };
      counted = omega (arith, empty.counts);
      told = omega (arith, ap (λ (lists : List (Vec Leaf Global)). length (leaves_listed lists)) empty.slabs);
      len = gives.1 ∙ c.args.outcomes.ok.0 ∙ sym (ap length gives.0);
    }

pub join-requires : goal.join-requires
join-requires c =
    let i = c.loop-outcome.invariant in
    let rest = into_iter_items c.next.new.self in
    let first = c.in-Some.ensures.steps.0 ∙ ap (λ (o : Outcome). o ∷ rest) c.in-Whole.is in
    omega (
      arith,
      i.counted,
      ap least_of first,
      sum_by-cons least (Whole c.in-Whole.slab) rest,
      c.requires,
      ap least_of c.into_iter-outcome-iterator.ensures.into_iter_gives.0,
    )

pub returns-in_err-join-in-Whole : goal.returns-in_err-join-in-Whole
returns-in_err-join-in-Whole c =
    let p = err_from_is_err_and c.from_residual.result c.from_residual.ensures.1 in
    rw p.1 (record { slabs = λ case slots are. tt; leaves = tt; told = tt })

pub loop-outcome-preserved : goal.loop-outcome-preserved
loop-outcome-preserved c =
    let i = c.loop-outcome.invariant in
    let steps = c.in-Some.ensures.steps in
    let rest = into_iter_items c.next.new.self in
    let slab = c.in-Whole.slab in
    let first = steps.0 ∙ ap (λ (o : Outcome). o ∷ rest) c.in-Whole.is in
    record {
      found = λ case slots are. found_next case slots c.loop-outcome.found c.join.new.found slab (into_iter_items c.loop-outcome.outcome-iterator) rest first
          (c.in_ok-join-in-Whole.ensures.found case) (i.found case slots are);
      counted = omega (arith, i.counted, ap least_of first, sum_by-cons least (Whole slab) rest, c.in_ok-join-in-Whole.ensures.leaves);
      told = omega (arith, i.told, ap told_by_outcomes first, sum_by-cons told_by_outcome (Whole slab) rest, c.in_ok-join-in-Whole.ensures.told);
      len = omega (arith, i.len, steps.1, ap length steps.0);
    }

pub returns : goal.returns
returns c =
    let i = c.loop-outcome.invariant in
    let gives = c.into_iter-outcome-iterator.ensures.into_iter_gives in
    let left = into_iter_items c.loop-outcome.outcome-iterator in
    let empty = nil_from_length left (omega (arith, i.len, c.in-None.ensures.steps.0)) in
    record {
      slabs = λ case slots are. all_found case slots c.loop-outcome.found left empty (i.found case slots (subst (AreOutcomes case slots) (sym gives.0) are));
      leaves = omega (arith, i.counted, ap least_of empty, ap least_of gives.0);
      told = omega (arith, i.told, ap told_by_outcomes empty, ap told_by_outcomes gives.0);
    }
