use Rattle.std.proofs.Common.{◌∙◌, arith}
use Rattle.std.specs.Prelude.{◌+ℤ◌}
use Rattle.std.proofs.lemmas.Int.{ints}
use Rattle.cj_bezier.proofs.products.dot.Goals as goal

pub returns-clause-within : goal.returns-clause-within
returns-clause-within c = omega (arith, ints)

pub product-requires : goal.product-requires
product-requires c = record { first = c.requires.first.x; second = c.requires.second.x }

pub product-requires-2 : goal.product-requires-2
product-requires-2 c = record { first = c.requires.first.y; second = c.requires.second.y }

pub product-requires-3 : goal.product-requires-3
product-requires-3 c = record { first = c.requires.first.z; second = c.requires.second.z }

pub returns-clause-lower : goal.returns-clause-lower
returns-clause-lower c =
    c.add-2.ensures.lower ∙ (λ i. (c.add.ensures.lower ∙ (λ j. c.product.ensures.lower j +ℤ c.product-2.ensures.lower j)) i +ℤ c.product-3.ensures.lower i)

pub returns-clause-upper : goal.returns-clause-upper
returns-clause-upper c =
    c.add-2.ensures.upper ∙ (λ i. (c.add.ensures.upper ∙ (λ j. c.product.ensures.upper j +ℤ c.product-2.ensures.upper j)) i +ℤ c.product-3.ensures.upper i)
