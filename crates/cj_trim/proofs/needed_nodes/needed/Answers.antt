use Rattle.std.proofs.Common.{◌-◌, ℕ, ap}
use Rattle.cj_trim.proofs.NeededLemmas.{AreFound, are_needed, begins_before, some_before}
use Rattle.cj_trim.proofs.needed_nodes.needed.Goals as goal

pub overflow_sub-first : goal.overflow_sub-first
overflow_sub-first c =
    some_before c.args.span.first.micros c.args.span.last.micros c.reached.result c.min-first.result c.args.nodes.now c.requires.nodes c.requires.within c.reached.ensures.reached c.min-first.ensures

pub slice_bounds-result-count : goal.slice_bounds-result-count
slice_bounds-result-count c =
    let found : AreFound c.args.span.first.micros c.args.span.last.micros c.reached.result c.reached-2.result (c.min-first.result - 1) c.min-past.result c.args.nodes.now = record {
      nodes_are = c.requires.nodes;
      some = c.requires.some;
      within = c.requires.within;
      from = c.reached.ensures.reached;
      to = c.reached-2.ensures.reached;
      from_bound = c.reached.ensures.bound;
      to_bound = c.reached-2.ensures.bound;
      begin = ap (λ (n : ℕ). n - 1) c.min-first.ensures;
      end = c.min-past.ensures;
    } in
    begins_before c.args.span.first.micros c.args.span.last.micros c.reached.result c.reached-2.result (c.min-first.result - 1) c.min-past.result c.args.nodes.now found

pub returns : goal.returns
returns c =
    let found : AreFound c.args.span.first.micros c.args.span.last.micros c.reached.result c.reached-2.result (c.min-first.result - 1) c.min-past.result c.args.nodes.now = record {
      nodes_are = c.requires.nodes;
      some = c.requires.some;
      within = c.requires.within;
      from = c.reached.ensures.reached;
      to = c.reached-2.ensures.reached;
      from_bound = c.reached.ensures.bound;
      to_bound = c.reached-2.ensures.bound;
      begin = ap (λ (n : ℕ). n - 1) c.min-first.ensures;
      end = c.min-past.ensures;
    } in
    let are = are_needed c.args.span.first.micros c.args.span.last.micros c.reached.result c.reached-2.result (c.min-first.result - 1) c.min-past.result c.args.nodes.now found in
    record { value = are.value; nodes = are.nodes_are; within = are.within; fewer = are.fewer }
