use Rattle.std.proofs.Common.{◌*◌, ◌+◌, ◌<◌, ◌≤◌, ◌^◌, ℕ, arith, ap, sym, ◌∙◌, FitsSigned, to_z-of_z, rules}
use Rattle.std.specs.Prelude.{ℤ, pos, ◌+ℤ◌, ◌*ℤ◌}
use Rattle.std.specs.Int.{w64}
use Rattle.cj_hermite.proofs.ReachLemmas.{covered_far, few_parts, two_covered}
use Rattle.cj_hermite.proofs.ReadyLemmas.{two_cover}
use Rattle.cj_hermite.proofs.first_values.way_of_both.Goals as goal

pub covered-requires-clause-few : goal.covered-requires-clause-few
covered-requires-clause-few c =
    let f : FitsSigned w64 c.args.first.now.whole = search rules in
    rw (to_z-of_z f) c.args.first.now.few

pub covered-requires-2-clause-few : goal.covered-requires-2-clause-few
covered-requires-2-clause-few c =
    let f : FitsSigned w64 c.args.second.now.whole = search rules in
    rw (to_z-of_z f) c.args.second.now.few

pub sum-whole-requires-clause-first : goal.sum-whole-requires-clause-first
sum-whole-requires-clause-first c =
    let f : FitsSigned w64 c.covered.result = record { sfits = c.covered.type_inv } in
    rw (to_z-of_z f) (covered_far c.covered.result c.covered.ensures.within)

pub sum-whole-requires-clause-second : goal.sum-whole-requires-clause-second
sum-whole-requires-clause-second c =
    let g : FitsSigned w64 c.covered-2.result = record { sfits = c.covered-2.type_inv } in
    rw (to_z-of_z g) (covered_far c.covered-2.result c.covered-2.ensures.within)

-- the parts of both
fits : (n : ℕ) → n ≤ 10799996400000000 → n < 2 ^ 64
fits n h = omega arith

few : (m n : ℕ) → m ≤ 10799996400000000 → n ≤ 10799996400000000 → m + n < 22000000000000000
few m n h k = omega arith

both_fit : (m n : ℕ) → m ≤ 10799996400000000 → n ≤ 10799996400000000 → m + n < 2 ^ 64
both_fit m n h k = omega arith

pub overflow_mul-first : goal.overflow_mul-first
overflow_mul-first c = record { fits = fits _ (few_parts c.args.first.now.rest c.args.before c.args.first.now.less c.requires.first_short) }

pub overflow_mul-second : goal.overflow_mul-second
overflow_mul-second c = record { fits = fits _ (few_parts c.args.second.now.rest c.args.after c.args.second.now.less c.requires.second_short) }

pub overflow_add-first : goal.overflow_add-first
overflow_add-first c = record {
  fits = both_fit _ _
      (few_parts c.args.first.now.rest c.args.before c.args.first.now.less c.requires.first_short)
      (few_parts c.args.second.now.rest c.args.after c.args.second.now.less c.requires.second_short);
}

pub carried-requires-clause-within : goal.carried-requires-clause-within
carried-requires-clause-within c =
    let f : FitsSigned w64 c.covered.result = record { sfits = c.covered.type_inv } in
    let g : FitsSigned w64 c.covered-2.result = record { sfits = c.covered-2.type_inv } in
    let h : FitsSigned w64 c.sum-whole.result = record { sfits = c.sum-whole.type_inv } in
    let sum = simp to_z-of_z at c.sum-whole.ensures in
    rw (to_z-of_z h, sum) (two_covered c.covered.result c.covered-2.result c.covered.ensures.within c.covered-2.ensures.within)

pub carried-requires-clause-few : goal.carried-requires-clause-few
carried-requires-clause-few c =
    few _ _
    (few_parts c.args.first.now.rest c.args.before c.args.first.now.less c.requires.first_short)
    (few_parts c.args.second.now.rest c.args.after c.args.second.now.less c.requires.second_short)

pub returns-clause-value : goal.returns-clause-value
returns-clause-value c =
    let a = c.args.first.now in
    let b = c.args.second.now in
    let n = c.args.before in
    let m = c.args.after in
    let fa : FitsSigned w64 a.whole = search rules in
    let fb : FitsSigned w64 b.whole = search rules in
    let f : FitsSigned w64 c.covered.result = record { sfits = c.covered.type_inv } in
    let g : FitsSigned w64 c.covered-2.result = record { sfits = c.covered-2.type_inv } in
    let h : FitsSigned w64 c.sum-whole.result = record { sfits = c.sum-whole.type_inv } in
    let first = simp to_z-of_z at c.covered.ensures.value in
    let second = simp to_z-of_z at c.covered-2.ensures.value in
    let sum = simp to_z-of_z at c.sum-whole.ensures in
    let carried = simp to_z-of_z at c.carried.ensures.value in
    let whole = sum ∙ ap (λ (z : ℤ). z +ℤ c.covered-2.result) first ∙ ap (λ (z : ℤ). a.whole *ℤ pos n +ℤ z) second in
    two_cover a.whole b.whole a.rest n b.rest m ∙ ap (λ (z : ℤ). z *ℤ pos 3000000 +ℤ pos (a.rest * n + b.rest * m)) (sym whole) ∙ carried
