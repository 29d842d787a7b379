use Rattle.std.proofs.Common.{arith, sym, ◌∙◌, ◌≡◌, refl, subst, ◌+◌, ◌<◌, length, false, true, Option}
use Rattle.std.specs.Prelude.{MatchOption}
use Rattle.std.proofs.lemmas.Int.{ints}
use Rattle.cj_kvn.specs.declared.leading.Scanned.{Scanned}
use Rattle.cj_kvn.specs.Numbers.{parts_of, is_number, number}
use Rattle.cj_kvn.specs.Scanning.{Begins, run, fraction_run}
use Rattle.cj_kvn.proofs.ScanLemmas.{Read, no_digits, no_exponent, scanned, leads_none, split_length}
use Rattle.cj_kvn.proofs.scanning.scan.Goals.{else-behind-unsigned-via-then-behind-unsigned+else-fraction_len-eq0, else-behind-unsigned-via-else-behind-unsigned}
use Rattle.cj_kvn.proofs.scanning.scan.Goals as goal

pub returns-then-fraction_len-eq0 : goal.returns-then-fraction_len-eq0
returns-then-fraction_len-eq0 c =
    let read : Read c.args.text.now c.split_sign-negative.result.1.now c.read_run.result.1.now c.read_fraction-fraction_len.result.2.now = record {
      sign = c.split_sign-negative.ensures.rest;
      whole = c.read_run.ensures.rest;
      fraction = c.read_fraction-fraction_len.ensures.rest;
    } in
    no_digits _ _ _ _ read c.if-behind-unsigned.true (omega (arith, c.read_fraction-fraction_len.ensures.count))

pub returns-in_err-exponent : goal.returns-in_err-exponent
returns-in_err-exponent c =
    let read : Read c.args.text.now c.split_sign-negative.result.1.now c.read_run.result.1.now c.read_fraction-fraction_len.result.2.now = record {
      sign = c.split_sign-negative.ensures.rest;
      whole = c.read_run.ensures.rest;
      fraction = c.read_fraction-fraction_len.ensures.rest;
    } in
    let refused = no_exponent _ _ _ _ read (sym c.read_exponent.ensures.value ∙ c.in_err-exponent.was) in
    let P : Option Scanned → Type 0 =
    λ o. MatchOption o (is_number (parts_of c.args.text.now) ≡ false) (λ s. (is_number (parts_of c.args.text.now) ≡ true) × Begins s (number (parts_of c.args.text.now))) in
    subst P (sym c.from_residual.ensures) refused

pub power_of-requires-clause-fraction : goal.power_of-requires-clause-fraction
power_of-requires-clause-fraction c =
    omega (arith, c.read_fraction-fraction_len.ensures.short, c.read_run.ensures.past, c.split_sign-negative.ensures.short)

pub returns : goal.returns
returns c =
    let unsigned = c.split_sign-negative.result.1.now in
    let behind = c.read_run.result.1.now in
    let read : Read c.args.text.now unsigned behind c.read_fraction-fraction_len.result.2.now = record {
      sign = c.split_sign-negative.ensures.rest;
      whole = c.read_run.ensures.rest;
      fraction = c.read_fraction-fraction_len.ensures.rest;
    } in
    let long = split_length unsigned behind c.read_run.ensures.rest in
    let some : 0 < length (run unsigned) + length (fraction_run behind) = elim c.else-behind-unsigned.branch [
      | else-behind-unsigned-via-then-behind-unsigned+else-fraction_len-eq0 w ↦ omega (arith, c.read_fraction-fraction_len.ensures.count)
      | else-behind-unsigned-via-else-behind-unsigned w ↦ omega arith
    ] in
    let leads = c.read_fraction-fraction_len.ensures.leads _ (c.read_run.ensures.leads 0 (leads_none _ refl refl)) in
    scanned _ _ _ _ c.in_ok-exponent.exponent c.read_fraction-fraction_len.result.0 _ read (sym c.read_exponent.ensures.value ∙ c.in_ok-exponent.was) some leads c.split_sign-negative.ensures.negative refl (omega (arith, ints, c.power_of.ensures.value, c.read_fraction-fraction_len.ensures.count))
