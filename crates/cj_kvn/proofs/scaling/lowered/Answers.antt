use Rattle.std.proofs.Common.{arith, ◌∙◌, sym, ap, ◌+◌, ◌/◌, ℕ}
use Rattle.cj_kvn.proofs.PowerLemmas.{nearest_ten, nearest_zero, ten_pos, ten_grows}
use Rattle.cj_kvn.proofs.scaling.lowered.Goals as goal

pub returns-then-power-gt38 : goal.returns-then-power-gt38
returns-then-power-gt38 c = sym (nearest_zero c.args.number _ (omega (arith, ten_grows 39 c.args.power (omega arith))))

pub nonzero_div-result-2 : goal.nonzero_div-result-2
nonzero_div-result-2 c = omega (arith, ten_pos c.args.power)

pub returns : goal.returns
returns c =
    ap (λ (d : ℕ). (c.args.number + d / 2) / d) c.ten_to-divisor.ensures
    ∙ sym (nearest_ten c.args.number c.args.power c.requires.some)
