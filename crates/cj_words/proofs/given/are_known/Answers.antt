use Rattle.std.proofs.Common.{ap, sym, ◌∙◌, ◌≡◌, false}
use Rattle.cj_words.specs.Options.{are_known, given_of, is_name}
use Rattle.cj_words.proofs.FrontLemmas.{unknown_first}
use Rattle.cj_words.proofs.given.are_known.Goals as goal

pub returns-then-not-is_known : goal.returns-then-not-is_known
returns-then-not-is_known c =
    let front = c.in-Some.front in
    let unknown : is_name c.args.verb front.name.now ≡ false = sym c.is_known.ensures ∙ c.if-not-is_known.true in
    sym (sym c.loop-front.invariant
    ∙ ap (are_known c.args.verb) c.in-Some.ensures.some
    ∙ unknown_first c.args.verb (record { name = front.name.now; value = front.value.now }) (given_of front.rest.now) unknown)
