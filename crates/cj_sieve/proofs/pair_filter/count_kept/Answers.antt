use Rattle.std.proofs.Common.{◌≡◌, ℕ, List, length, slice_index_or, ap, ◌∙◌, arith}
use Rattle.std.specs.List.{sum}
use Rattle.cj_sieve.specs.Among.{keeps_among}
use Rattle.cj_sieve.proofs.KeptLemmas.{row_few, rows_summed}
use Rattle.cj_sieve.proofs.pair_filter.count_kept.Goals as goal

pub sum_of-requires-clause-few : goal.sum_of-requires-clause-few
sum_of-requires-clause-few g c = λ k d lt.
    let objects = c.args.objects.now in
    let counts = c.in_ok-counts.counts in
    let made = c.in_ok-counts.ensures in
    let same = c.deref.ensures.value in
    let is = (made.each k d (omega (arith, lt, ap (λ (xs : List ℕ). length xs) same, counts.ok.0, made.len))).1.met in
    let here = ap (λ (xs : List ℕ). slice_index_or xs k d) same in
    omega (arith, here, is, row_few (keeps_among objects) (length objects.shells.now) k, objects.few)

pub returns : goal.returns
returns g c =
    let objects = c.args.objects.now in
    let n = length objects.shells.now in
    let counts = c.in_ok-counts.counts in
    let made = c.in_ok-counts.ensures in
    let many : length counts.items ≡ n = omega (arith, counts.ok.0, made.len) in
    record {
      value = c.sum_of.ensures ∙ ap sum c.deref.ensures.value
          ∙ rows_summed (keeps_among objects) n counts.items many (λ a d lt. (made.each a d lt).1.met);
    }
