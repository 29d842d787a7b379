use Rattle.std.proofs.Common.{◌≡◌, ap, ◌∙◌, arith}
use Rattle.cj_bezier.specs.Squares.{from_zero}
use Rattle.cj_interval.proofs.MachineLemmas.{back}
use Rattle.cj_meet.specs.Closest.{upper}
use Rattle.cj_meet.proofs.TickLemmas.{first_end, last_end}
use Rattle.cj_meet.proofs.flatness.ends.Goals as goal

pub returns : goal.returns
returns c = λ k l e.
    let run = c.args.run in
    let xs = c.args.gap.now.terms in
    let first_tick : c.new.result.tick.micros ≡ run.first.micros = ap (λ t. t.micros) c.new.ensures.tick in
    let last_tick : c.new-2.result.tick.micros ≡ run.last.micros = ap (λ t. t.micros) c.new-2.ensures.tick in
    let first_square : c.new.result.square ≡ upper k l run.first.micros =
    c.new.ensures.square ∙ ap from_zero (back c.end.result (let w = c.end.ensures.within in omega arith)) ∙ first_end xs k l run.first.micros run.last.micros c.end.result c.end.ensures.value e in
    let last_square : c.new-2.result.square ≡ upper k l run.last.micros =
    c.new-2.ensures.square ∙ ap from_zero (back c.end-2.result (let w = c.end-2.ensures.within in omega arith)) ∙ last_end xs k l run.first.micros run.last.micros c.end-2.result c.end-2.ensures.value e in (
      λ i. record { tick = first_tick i; square = first_square i },
      λ i. record { tick = last_tick i; square = last_square i },
    )
