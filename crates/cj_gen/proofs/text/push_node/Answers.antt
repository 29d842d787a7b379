use Rattle.std.proofs.Common.{◌++◌, ◌∙◌, ap, arith}
use Rattle.cj_gen.specs.Orbits.{lifted, rate_at}
use Rattle.cj_gen.specs.Texts.{node_line, place_text, rate_text}
use Rattle.cj_gen.proofs.TextLemmas.{joined}
use Rattle.cj_gen.proofs.text.push_node.Goals as goal

pub lifted-requires-2-clause-within : goal.lifted-requires-2-clause-within
lifted-requires-2-clause-within c = omega (arith, c.rate.ensures.within.1)

pub returns : goal.returns
unfolding node_line
returns c =
    let old = c.args.text.now.items in
    let tilt = c.args.orbit.now.tilt in
    let at = c.requires.there in
    let place = c.in_ok-push_place.ensures ∙ ap (λ v. c.push_stamp.new.text.items ++ place_text v) (c.lifted.ensures ∙ ap (lifted tilt) at) in
    let rate = c.in_ok-push_rate.ensures ∙ ap (λ v. c.push_place.new.text.items ++ rate_text v) (c.lifted-2.ensures ∙ ap (lifted tilt) (c.rate.ensures.value ∙ ap rate_at at)) in
    joined old _ _ _ _ (joined old _ _ _ _ (joined old _ _ _ _ c.in_ok-push_stamp.ensures place) rate) c.in_ok-push.ensures.items
