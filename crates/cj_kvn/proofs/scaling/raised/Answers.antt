use Rattle.std.proofs.Common.{arith, ap, ◌*◌, ℕ}
use Rattle.cj_kvn.proofs.PowerLemmas.{raised_fits, raised_past}
use Rattle.cj_kvn.proofs.scaling.raised.Goals.{else-power-le36-via-then-power-le36+else-number-ten_to, else-power-le36-via-else-power-le36}
use Rattle.cj_kvn.proofs.scaling.raised.Goals as goal

pub overflow_mul-result : goal.overflow_mul-result
overflow_mul-result c =
    let product = ap (λ (t : ℕ). c.args.number * t) c.ten_to-then-number-ten_to.ensures in
    omega (arith, raised_fits c.args.number c.args.power c.if-power-le36.true (omega arith))

pub returns-then-number-ten_to : goal.returns-then-number-ten_to
returns-then-number-ten_to c = (
  raised_fits c.args.number c.args.power c.if-power-le36.true (omega arith),
  ap (λ (t : ℕ). c.args.number * t) c.ten_to-then-number-ten_to.ensures,
)

pub returns-else-power-le36 : goal.returns-else-power-le36
returns-else-power-le36 c fits = elim c.else-power-le36.branch [
  | else-power-le36-via-then-power-le36+else-number-ten_to w ↦ omega (arith, raised_past c.args.number c.args.power (omega arith) (λ _. omega arith))
  | else-power-le36-via-else-power-le36 w ↦ omega (arith, raised_past c.args.number c.args.power (omega arith) (λ low. absurd (omega arith)))
]
