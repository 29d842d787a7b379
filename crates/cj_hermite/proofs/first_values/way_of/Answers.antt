use Rattle.std.proofs.Common.{ℕ, ◌*◌, ◌^◌, ◌<◌, ◌≤◌, arith, ap, sym, ◌∙◌, FitsSigned, to_z-of_z, rules}
use Rattle.std.specs.Prelude.{ℤ, pos, ◌+ℤ◌, ◌*ℤ◌}
use Rattle.std.specs.Int.{w64}
use Rattle.cj_hermite.proofs.ReachLemmas.{covered_near, few_parts}
use Rattle.cj_hermite.proofs.ReadyLemmas.{one_covers}
use Rattle.cj_hermite.proofs.first_values.way_of.Goals as goal

pub covered-requires-clause-few : goal.covered-requires-clause-few
covered-requires-clause-few c =
    let f : FitsSigned w64 c.args.rate.now.whole = search rules in
    rw (to_z-of_z f) c.args.rate.now.few

few : (n : ℕ) → n ≤ 10799996400000000 → (n < 22000000000000000) × (n < 2 ^ 64)
few n h = (omega arith, omega arith)

pub overflow_mul-rate : goal.overflow_mul-rate
overflow_mul-rate c = record { fits = (few _ (few_parts c.args.rate.now.rest c.args.ticks c.args.rate.now.less c.requires)).1 }

pub carried-requires-clause-within : goal.carried-requires-clause-within
carried-requires-clause-within c =
    let g : FitsSigned w64 c.covered.result = record { sfits = c.covered.type_inv } in
    rw (to_z-of_z g) (covered_near c.covered.result c.covered.ensures.within)

pub carried-requires-clause-few : goal.carried-requires-clause-few
carried-requires-clause-few c = (few _ (few_parts c.args.rate.now.rest c.args.ticks c.args.rate.now.less c.requires)).0

pub returns-clause-value : goal.returns-clause-value
returns-clause-value c =
    let rate = c.args.rate.now in
    let f : FitsSigned w64 rate.whole = search rules in
    let g : FitsSigned w64 c.covered.result = record { sfits = c.covered.type_inv } in
    let whole = simp to_z-of_z at c.covered.ensures.value in
    let carried = simp to_z-of_z at c.carried.ensures.value in
    one_covers rate.whole rate.rest c.args.ticks ∙ ap (λ (z : ℤ). z *ℤ pos 3000000 +ℤ pos (rate.rest * c.args.ticks)) (sym whole) ∙ carried
