use Rattle.std.proofs.Common.{◌≡◌, length, ap, arith}
use Rattle.cj_slabs.proofs.SlabLemmas.{counted_alone, given_back}
use Rattle.cj_slabs.proofs.slots_sifted.searched.Goals as goal

pub returns-then-are_too_many : goal.returns-then-are_too_many
returns-then-are_too_many c =
    let told : c.len-told.result ≡ length c.args.slab.told.items = omega (arith, c.len-told.ensures, c.args.slab.told.ok.0) in
    record {
      outcome = λ case slots is. counted_alone case slots c.args.slab _ told is;
      over = λ none. (c.requires, c.are_too_many.ensures.yes none c.if-are_too_many.true);
    }

pub returns : goal.returns
returns c =
    let told = c.shrink_to_fit.new.self in
    record {
      outcome = λ case slots is. given_back case slots c.args.slab told c.shrink_to_fit.ensures.items is;
      over = λ none. let few = c.are_too_many.ensures.no none c.if-are_too_many.false in
          (c.requires, omega (arith, few, c.len-told.ensures, c.args.slab.told.ok.0, ap length c.shrink_to_fit.ensures.items));
    }
