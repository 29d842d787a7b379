use Rattle.std.proofs.Common.{arith, ◌≡◌, ap, sym, ◌∙◌, ℕ, ℤ, pos, ◌++◌, w32, to_z, of_z}
use Rattle.std.specs.Prelude.{nat_lt, int_lt, unsigned_abs}
use Rattle.std.proofs.lemmas.Int.{ints}
use Rattle.std.proofs.lemmas.Fmt.{length-decimal-le}
use Rattle.cj_kvn.proofs.PrintLemmas.{exponent_pushed, sign_code, zero_if}
use Rattle.cj_kvn.proofs.printing.push_exponent.Goals as goal

pub push_number-requires : goal.push_number-requires
push_number-requires c =
    let small = length-decimal-le 3 c.from.result (omega arith) (omega (arith, ints, c.from.ensures, c.unsigned_abs-size.ensures.value)) (omega arith) in
    omega (arith, c.push.ensures.len, c.push_if.ensures.len)

pub returns : goal.returns
returns c =
    let power : to_z w32 (of_z w32 c.args.power) ≡ c.args.power = omega (arith, ints) in
    let whole = c.from.ensures ∙ c.unsigned_abs-size.ensures.value ∙ ap unsigned_abs power in
    let sign = c.sign_of.ensures ∙ ap (λ (x : ℤ). sign_code (int_lt x (pos 0))) power in
    let zero = c.push_if.ensures.appended ∙ ap (λ (n : ℕ). c.push.new.self.items ++ zero_if (nat_lt n 10)) (sym c.from.ensures) in
    exponent_pushed _ _ _ _ c.args.power _ c.from.result whole (omega arith) sign c.push.ensures.items zero c.push_number.ensures.appended
