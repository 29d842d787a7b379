use Rattle.std.proofs.Common.{◌∙◌, ℕ, List, Err, ap, subst, arith, take_all}
use Rattle.cj_case.specs.Problems.{plain_problem}
use Rattle.cj_slabs.specs.Slabs.{IsSlabOf}
use Rattle.cj_slabs.proofs.SlabLemmas.{next_found, nothing_found, upto_slot}
use Rattle.cj_slabs.proofs.slots_sifted.sift_some.Goals as goal

pub loop-slot-init : goal.loop-slot-init
loop-slot-init g c =
    let empty = c.empty-slab.ensures in
    record {
      cuts = c.in_ok-scratch.ensures;
      room = omega (arith, empty.counts);
      found = nothing_found (plain_problem c.args.problem.now) c.empty-slab.result empty.told empty.touching empty.counts;
    }

pub sift_slot-requires-clause-exists : goal.sift_slot-requires-clause-exists
sift_slot-requires-clause-exists g c = c.requires.exist c.loop-slot.slot-index 0 c.loop-slot-test.true

pub returns-in-Err-clause-outcome : goal.returns-in-Err-clause-outcome
returns-in-Err-clause-outcome g c =
    let case = plain_problem c.args.problem.now in
    let i = c.loop-slot.invariant in
    let slots = c.args.slots.now in
    let counts = i.found.counts in
    let upto = upto_slot case slots c.loop-slot.slot-index 0 c.loop-slot-test.true in
    c.halted.ensures.outcome case slots
    (λ is. let many = c.in-Err.ensures.too_many (ap Err is) in omega (arith, many, upto, counts.leaves))
    (λ is. let few = c.in-Err.ensures.stopped (ap Err is) in omega (arith, few, upto, counts.leaves))

pub returns-in-Err-clause-alone : goal.returns-in-Err-clause-alone
returns-in-Err-clause-alone g c = λ none. c.halted.ensures.over (λ is. c.in-Err.ensures.alone none (ap Err is))

pub loop-slot-preserved : goal.loop-slot-preserved
loop-slot-preserved g c = record {
  cuts = c.sift_slot.ensures.cuts ∙ c.loop-slot.invariant.cuts;
  room = c.in-Ok.ensures.within;
  found = next_found (plain_problem c.args.problem.now) c.args.slots.now c.loop-slot.slot-index 0 c.loop-slot.slab c.sift_slot.new.slab c.loop-slot-test.true c.loop-slot.invariant.found c.in-Ok.ensures.added;
}

pub searched-requires : goal.searched-requires
searched-requires g c = c.loop-slot.invariant.room

pub returns-clause-outcome : goal.returns-clause-outcome
returns-clause-outcome g c =
    let case = plain_problem c.args.problem.now in
    c.searched.ensures.outcome case c.args.slots.now
    (subst (λ (slots : List ℕ). IsSlabOf case slots c.loop-slot.slab) (take_all c.loop-slot.slot-index c.args.slots.now c.loop-slot-test.false) c.loop-slot.invariant.found)

pub returns-clause-alone : goal.returns-clause-alone
returns-clause-alone g c = λ none. c.searched.ensures.over none

pub sift_slot-requires-clause-cuts : goal.sift_slot-requires-clause-cuts
sift_slot-requires-clause-cuts g c = c.loop-slot.invariant.cuts
