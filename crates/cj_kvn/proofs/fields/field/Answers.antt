use Rattle.std.proofs.Common.{arith, ◌≡◌, ◌+◌, ◌-◌, ap, sym, ◌∙◌, ℕ, suc, List}
use Rattle.std.specs.Prelude.{slice_get}
use Rattle.cj_kvn.specs.Fields.{fields}
use Rattle.cj_kvn.specs.Ranges.{text_at}
use Rattle.cj_kvn.proofs.fields.field.Goals as goal

pub loop-init : goal.loop-init
loop-init c =
    let all : c.args.index - 0 ≡ c.args.index = omega arith in
    record { left = ap (slice_get (fields (text_at c.args.bytes.now c.args.text))) all; within = c.requires }

pub loop-preserved : goal.loop-preserved
loop-preserved c =
    let left = c.args.index - (c.loop.counter + 1) in
    let one_more : c.args.index - c.loop.counter ≡ suc left = omega arith in
    record {
      left = ap (λ (texts : List (List ℕ)). slice_get texts (suc left)) (sym c.in_ok-behind.ensures.fields)
          ∙ ap (slice_get (fields (text_at c.args.bytes.now c.loop.rest))) (sym one_more)
          ∙ c.loop.invariant.left;
      within = c.in_ok-behind.ensures.within.1;
    }
