use Rattle.std.proofs.Common.{◌≡◌, ◌∙◌, List, Option, ap, map, option_map, arith}
use Rattle.std.proofs.lemmas.List.{take_all}
use Rattle.cj_case.specs.Problems.{plain_problem}
use Rattle.cj_again.specs.declared.ends.Ends.{Ends}
use Rattle.cj_again.proofs.PlaceLemmas.{places_are}
use Rattle.cj_again.proofs.places_of.places.Goals as goal

pub returns : goal.returns
returns c =
    let m = c.args.matching.now in
    let items = c.deref-ends-items.result.now in
    let firsts = λ (es : List (Option Ends)). map (option_map (λ e. e.first)) es in
    let each : c.loop-ends.places.items ≡ firsts m.ends.items =
    c.loop-ends.invariant ∙ ap firsts (take_all c.loop-ends.ends-index items (omega arith)) ∙ ap firsts c.deref-ends-items.ensures.value in
    record {
      value = each;
      theirs = places_are (plain_problem m.old.now) (plain_problem m.new.now) m.ends.items c.loop-ends.places.items m.matched each;
    }
