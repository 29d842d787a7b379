use Rattle.std.proofs.Common.{ap, rules, ◌∙◌}
use Rattle.cj_gen.specs.Draws.{next_state, state_after}
use Rattle.cj_gen.proofs.OrbitLemmas.{file_more, three_more}
use Rattle.cj_gen.proofs.files.catalogue.Goals as goal

pub loop-before-init : goal.loop-before-init
unfolding state_after
loop-before-init c = record { state = search rules; files = search rules }

pub loop-before-preserved : goal.loop-before-preserved
loop-before-preserved c = record {
  state = c.drawn-orbit.ensures.state ∙ ap (λ s. next_state (next_state (next_state s))) c.loop-before.invariant.state ∙ three_more c.args.seed c.loop-before.before;
  files =
      file_more c.args.seed c.args.minutes c.loop-before.before c.loop-before.draws.state c.drawn-orbit.result c.in_ok-file.field-0 c.loop-before.files.items c.push.new.self.items
      c.loop-before.invariant.state c.drawn-orbit.ensures.value c.in_ok-file.ensures.name c.in_ok-file.ensures.bytes c.loop-before.invariant.files c.in_ok-push.ensures.items;
}
