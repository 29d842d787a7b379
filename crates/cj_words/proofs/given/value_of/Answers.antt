use Rattle.std.proofs.Common.{◌≡◌, true, sym, subst, ap, ◌∙◌, Option, List}
use Rattle.std.specs.Prelude.{IsTrue}
use Rattle.cj_words.specs.Options.{Given, given_of, in_front, are_listed, listed, value_of, is_named}
use Rattle.cj_words.proofs.FrontLemmas.{others_listed, value_step}
use Rattle.cj_words.proofs.given.value_of.Goals as goal

pub loop-front-preserved : goal.loop-front-preserved
loop-front-preserved c =
    let front = c.in-Some.front in
    let g : Given = record { name = front.name.now; value = front.value.now } in
    let o = given_of front.rest.now in
    let split : given_of c.loop-front.rest.now ≡ in_front true g o = c.in-Some.ensures.some in
    let known : IsTrue (are_listed (in_front true g o)) = subst (λ (x : Option (List Given)). IsTrue (are_listed x)) split c.loop-front.invariant.known in
    let same : is_named c.args.option g ≡ c.is_named.result = sym c.is_named.ensures in
    record {
      known = others_listed g o known;
      same = sym (value_step c.args.option g o known (same ∙ c.if-is_named.false)) ∙ ap (λ (x : Option (List Given)). value_of c.args.option (listed x)) (sym split) ∙ c.loop-front.invariant.same;
    }
