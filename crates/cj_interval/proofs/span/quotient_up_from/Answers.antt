use Rattle.std.proofs.Common.{◌≡◌, pos, ◌<◌, ◌^◌, arith, ap, FitsSigned, to_z-of_z, ◌∙◌, sym, subst}
use Rattle.std.proofs.lemmas.Grind.{div_ceil_times}
use Rattle.std.proofs.lemmas.Int.{ints}
use Rattle.std.specs.Prelude.{ℕ, ℤ, ◌+ℤ◌, ◌*ℤ◌, unsigned_abs}
use Rattle.std.specs.Int.{w128, div_ceil}
use Rattle.cj_interval.proofs.MachineLemmas.{read_as}
use Rattle.cj_interval.proofs.RoundingLemmas.{ceil_div-from}
use Rattle.cj_interval.proofs.span.quotient_up_from.Goals as goal

pub returns-in-Ok : goal.returns-in-Ok
returns-in-Ok c =
    let f : FitsSigned w128 c.args.z = c.ranges.z in
    let g : FitsSigned w128 c.args.quotient = c.ranges.quotient in
    let rest = c.in-Ok.ensures.1 in
    let left = simp to_z-of_z at c.left_over.ensures in
    let whole = left ∙ ap (λ (n : ℕ). c.args.quotient *ℤ pos c.args.by +ℤ pos n) (sym rest) in
    let times = div_ceil_times c.in-Ok.rest c.args.by c.requires.some in
    let e = ceil_div-from c.args.z c.args.quotient c.args.by c.in-Ok.rest (div_ceil c.in-Ok.rest c.args.by) c.requires.some whole times.0 times.1 in
    let r : c.from.result ≡ pos (div_ceil c.in-Ok.rest c.args.by) = c.from.ensures ∙ ap pos c.div_ceil.ensures in
    let v = ap (λ (n : ℤ). c.args.quotient +ℤ n) r ∙ e in
    let small : unsigned_abs (c.args.quotient +ℤ c.from.result) < 2 ^ 127 = omega (arith, ints) in
    read_as ◌+ℤ◌ c.args.quotient c.from.result _ g (record { sfits = c.from.type_inv }) v (subst (λ (n : ℤ). unsigned_abs n < 2 ^ 127) v small)
