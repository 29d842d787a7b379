use Rattle.std.proofs.Common.{ℕ, pos, ◌+◌, ◌^◌, ◌<◌, arith, sym, subst}
use Rattle.std.proofs.lemmas.Int.{ints}
use Rattle.std.specs.Prelude.{ℤ, ◌+ℤ◌, ◌*ℤ◌, ◌≤ℤ◌, ◌<ℤ◌}
use Rattle.cj_interval.specs.Rounding.{floor_div}
use Rattle.cj_interval.specs.Sizes.{IsWithin}
use Rattle.cj_interval.proofs.MachineLemmas.{read_down}
use Rattle.cj_interval.proofs.RoundingLemmas.{floor_div-le, floor_div-gt}
use Rattle.cj_interval.proofs.SizeLemmas.{floor_div_within}
use Rattle.cj_interval.proofs.span.quotient_down.Goals as goal

pub returns-clause-value : goal.returns-clause-value
returns-clause-value c =
    read_down c.args.z c.div_euclid.result c.from.result c.args.by c.ranges.z
    (record { sfits = c.from.type_inv }) (record { sfits = c.div_euclid.type_inv }) c.from.ensures c.div_euclid.ensures

near : (p z : ℤ) (d : ℕ) → p ≤ℤ z → z <ℤ (p +ℤ pos d) → IsWithin (2 ^ 126) z → d < 2 ^ 64 → IsWithin (2 ^ 126 + 2 ^ 64) p
near p z d h k w s = omega (arith, ints)

pub returns-clause-product : goal.returns-clause-product
returns-clause-product c =
    let le = floor_div-le c.args.z c.args.by c.requires.some in
    let gt = floor_div-gt c.args.z c.args.by c.requires.some in
    subst (λ (q : ℤ). IsWithin (2 ^ 126 + 2 ^ 64) (q *ℤ pos c.args.by)) (sym (returns-clause-value c)) (near _ c.args.z c.args.by le gt c.requires.within (omega arith))

pub returns-clause-below : goal.returns-clause-below
returns-clause-below c = subst (λ (q : ℤ). (q *ℤ pos c.args.by) ≤ℤ c.args.z) (sym (returns-clause-value c)) (floor_div-le c.args.z c.args.by c.requires.some)

quotient_small : (z : ℤ) (d : ℕ) → 0 < d → IsWithin (2 ^ 126) z → IsWithin (2 ^ 126) (floor_div z d)
quotient_small z d p h = floor_div_within z d (2 ^ 126) p (omega arith)

pub returns-clause-small : goal.returns-clause-small
returns-clause-small c = subst (IsWithin (2 ^ 126)) (sym (returns-clause-value c)) (quotient_small c.args.z c.args.by c.requires.some c.requires.within)
