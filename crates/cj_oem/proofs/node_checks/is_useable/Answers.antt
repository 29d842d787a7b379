use Rattle.std.proofs.Common.{arith, ◌≡◌, ◌∙◌, ap, sym, true, Bool}
use Rattle.std.specs.Prelude.{◌&&◌, nat_le}
use Rattle.std.proofs.lemmas.Bool.Decides.{nat_tests}
use Rattle.cj_oem.proofs.ListLemmas.{useable_is, useable_within}
use Rattle.cj_oem.proofs.node_checks.is_useable.Goals as goal
use Rattle.cj_oem.proofs.node_checks.is_useable.Goals.{then-first-last, else-first-last}

pub returns-then-from-first-clause-exact : goal.returns-then-from-first-clause-exact
returns-then-from-first-clause-exact c =
    let first = c.args.first.micros in
    let last = c.args.last.micros in
    let from = c.in-Some-Some.from.now in
    let to = c.in-Some-Some.to.now in
    let front : (nat_le first last && nat_le from.at.micros first) ≡ true = elim c.if-first-last.branch [
      | then-first-last w ↦ grind (arith, nat_tests)
      | else-first-last w ↦ grind (arith, nat_tests)
    ] in
    sym (useable_is first last c.args.nodes.now from to (sym c.in-Some-Some.ensures.value) (sym c.in-Some-Some.ensures'.value)
    ∙ ap (λ (b : Bool). b && nat_le last to.at.micros) front)

pub returns-then-from-first-clause-within : goal.returns-then-from-first-clause-within
returns-then-from-first-clause-within c =
    λ h. (useable_within c.args.first.micros c.args.last.micros c.args.nodes.now (sym (returns-then-from-first-clause-exact c) ∙ h)).1
