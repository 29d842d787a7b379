use Rattle.std.proofs.Common.{◌∙◌, ap, arith}
use Rattle.std.proofs.lemmas.List.{take_all}
use Rattle.cj_cert.specs.Written as spec
use Rattle.cj_cert.proofs.WrittenLineLemmas.{size_more}
use Rattle.cj_cert.proofs.written.size_lines.Goals as goal

pub loop-size-preserved : goal.loop-size-preserved
loop-size-preserved c =
    let i = c.loop-size.invariant in
    record {
      lines = c.in_ok-push.ensures.items ∙ size_more c.args.sizes.now c.loop-size.size-index c.len-object.result c.loop-size.lines.items (omega arith) (c.len-object.ensures ∙ i.count) i.lines;
      count = c.in_ok-push.ensures.len ∙ omega (arith, i.count);
    }

pub loop-size-init : goal.loop-size-init
loop-size-init c = record { lines = c.in_ok-lines.ensures.items; count = c.in_ok-lines.ensures.len }

pub overflow_cast-object : goal.overflow_cast-object
overflow_cast-object c = let i = c.loop-size.invariant in omega (arith, c.len-object.ensures, i.count, c.requires)

pub returns : goal.returns
returns c = c.loop-size.invariant.lines ∙ ap spec.size_lines (take_all c.loop-size.size-index c.args.sizes.now (omega arith))
