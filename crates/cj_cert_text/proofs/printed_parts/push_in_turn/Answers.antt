use Rattle.std.proofs.Common.{◌++◌, ap, ◌∙◌, arith}
use Rattle.std.specs.Prelude.{flat_map}
use Rattle.std.proofs.lemmas.List.{take_all}
use Rattle.cj_kvn.proofs.TextLemmas.{part_more}
use Rattle.cj_cert_text.proofs.printed_parts.push_in_turn.Goals as goal

pub loop-line-preserved : goal.loop-line-preserved
loop-line-preserved g c =
    let text = g.L.PrintedLine.text_by c.args.version in
    part_more text c.args.lines.now c.loop-line.line-index c.line-item.result c.args.text.now.items c.loop-line.text.items c.push_onto.new.text.items
    (omega arith) c.line-item.is c.loop-line.invariant c.in_ok-push_onto.ensures

pub returns : goal.returns
returns g c =
    c.loop-line.invariant
    ∙ ap (λ ls. c.args.text.now.items ++ flat_map (g.L.PrintedLine.text_by c.args.version) ls) (take_all c.loop-line.line-index c.args.lines.now c.loop-line-test.false)
