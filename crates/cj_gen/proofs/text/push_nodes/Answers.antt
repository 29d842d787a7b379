use Rattle.std.proofs.Common.{arith, ap, sym, subst, refl, append-nil, ◌∙◌}
use Rattle.cj_gen.specs.Orbits.{turned, after_turns, IsInSquare}
use Rattle.cj_gen.specs.Texts.{node_line}
use Rattle.cj_gen.proofs.PlaneLemmas.{few_in_square, turn_more}
use Rattle.cj_gen.proofs.TextLemmas.{counted_more}
use Rattle.cj_gen.proofs.text.push_nodes.Goals as goal

pub loop-minute-init : goal.loop-minute-init
unfolding after_turns
loop-minute-init c = record { text = sym (append-nil c.args.text.now.items); place = refl }

pub push_node-requires-clause-near : goal.push_node-requires-clause-near
push_node-requires-clause-near c = subst (IsInSquare 10000000) (sym c.loop-minute.invariant.place) (few_in_square c.loop-minute.minute c.args.orbit.now.first (omega arith) c.requires.orbit.0)

pub turned-place-requires : goal.turned-place-requires
turned-place-requires c = subst (IsInSquare 10000000) (sym c.loop-minute.invariant.place) (few_in_square c.loop-minute.minute c.args.orbit.now.first (omega arith) c.requires.orbit.0)

pub loop-minute-preserved : goal.loop-minute-preserved
loop-minute-preserved c = record {
  text =
      counted_more (node_line c.args.orbit.now) c.loop-minute.minute c.args.text.now.items c.loop-minute.text.items c.push_node.new.text.items
      c.loop-minute.invariant.text c.in_ok-push_node.ensures;
  place = c.turned-place.ensures ∙ ap turned c.loop-minute.invariant.place ∙ turn_more c.loop-minute.minute c.args.orbit.now.first;
}
