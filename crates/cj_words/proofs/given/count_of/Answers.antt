use Rattle.std.proofs.Common.{◌≡◌, ◌+◌, ◌≤◌, Bool, true, false, cond, sym, subst, arith, ap, ◌∙◌, Option, List}
use Rattle.std.specs.Prelude.{IsTrue}
use Rattle.cj_words.specs.Options.{Given, given_of, in_front, are_listed, listed, count_of, is_named}
use Rattle.cj_words.proofs.FrontLemmas.{others_listed, count_step}
use Rattle.cj_words.proofs.given.count_of.Goals.{then-is_named, else-is_named}
use Rattle.cj_words.proofs.given.count_of.Goals as goal

pub loop-front-preserved : goal.loop-front-preserved
loop-front-preserved c =
    let front = c.in-Some.front in
    let g : Given = record { name = front.name.now; value = front.value.now } in
    let o = given_of front.rest.now in
    let split : given_of c.loop-front.rest.now ≡ in_front true g o = c.in-Some.ensures.some in
    let known : IsTrue (are_listed (in_front true g o)) = subst (λ (x : Option (List Given)). IsTrue (are_listed x)) split c.loop-front.invariant.known in
    let step = count_step c.args.option g o known in
    let whole : count_of c.args.option (listed (given_of c.loop-front.rest.now)) ≡ cond (is_named c.args.option g) 1 0 + count_of c.args.option (listed o) =
    ap (λ (x : Option (List Given)). count_of c.args.option (listed x)) split ∙ step in
    let same : is_named c.args.option g ≡ c.is_named.result = sym c.is_named.ensures in
    let counted : c.if-is_named.count ≡ c.loop-front.count + cond (is_named c.args.option g) 1 0 =
    elim c.if-is_named.branch as (λ b. c.if-is_named.count ≡ c.loop-front.count + cond (is_named c.args.option g) 1 0) [
      | then-is_named w ↦ w.count-is ∙ ap (λ (b : Bool). c.loop-front.count + cond b 1 0) (sym (same ∙ w.if-is_named.true))
      | else-is_named w ↦ w.count-is ∙ omega arith ∙ ap (λ (b : Bool). c.loop-front.count + cond b 1 0) (sym (same ∙ w.if-is_named.false))
    ] in
    record {
      known = others_listed g o known;
      counted = omega (arith, whole, counted, c.loop-front.invariant.counted);
      small = omega (arith, c.in-Some.ensures.shorter, counted, at_most (is_named c.args.option g), c.loop-front.invariant.small);
    }
  where
    at_most : (b : Bool) → cond b 1 0 ≤ 1
    at_most true = omega arith
    at_most false = omega arith
