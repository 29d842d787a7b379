use Rattle.std.proofs.Common.{◌++◌, get_or, ap, ◌∙◌, arith}
use Rattle.std.specs.Prelude.{flat_map}
use Rattle.std.proofs.lemmas.List.{get_or_default, take_all}
use Rattle.cj_kvn.proofs.TextLemmas.{part_more}
use Rattle.cj_cert_text.specs.Texts.{primary_text}
use Rattle.cj_cert_text.proofs.printing.push_primaries.Goals as goal

pub loop-object-preserved : goal.loop-object-preserved
loop-object-preserved c =
    let primaries = c.args.primaries.now in
    let at = c.loop-object.object-index in
    part_more primary_text primaries at (get_or primaries at 0) c.args.text.now.items c.loop-object.text.items c.push_primary.new.text.items
    (omega arith) (get_or_default primaries at _ _ (omega arith)) c.loop-object.invariant c.in_ok-push_primary.ensures

pub returns : goal.returns
returns c =
    c.loop-object.invariant ∙ ap (λ os. c.args.text.now.items ++ flat_map primary_text os) (take_all c.loop-object.object-index c.args.primaries.now c.loop-object-test.false)
