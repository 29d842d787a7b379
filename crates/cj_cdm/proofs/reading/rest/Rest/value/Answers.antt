use Rattle.std.proofs.Common.{◌∙◌, List, Result, ap, sym, ℕ}
use Rattle.std.specs.Prelude.{codes}
use Rattle.std.proofs.lemmas.Result.{err_from_is_err_and}
use Rattle.cj_cdm.specs.declared.fault.CdmCause.{CdmCause}
use Rattle.cj_cdm.specs.declared.fault.CdmCause.TheVariants as causes
use Rattle.cj_cdm.specs.Read.{plain_rest}
use Rattle.cj_kvn.specs.Faults.{◌>>=◌ as and_then}
use Rattle.cj_cdm.specs.Reading.{Fault, Rest, fault_at, or_fault}
use Rattle.cj_cdm.specs.Values.{behind_front}
use Rattle.cj_cdm.proofs.LineLemmas.{value_more}
use Rattle.cj_cdm.proofs.reading.rest.Rest.value.Goals as goal

abbrev behind_equals : Rest → Result (List ℕ) Fault → Result (List ℕ) Fault
behind_equals rest q = and_then q (λ v. or_fault rest.line causes.Key (behind_front (codes " = ") v))

pub returns-in_err-behind-clause-value : goal.returns-in_err-behind-clause-value
returns-in_err-behind-clause-value c =
    let p = err_from_is_err_and c.from_residual.result c.from_residual.ensures.1 in
    let rest = plain_rest c.args.self in
    rw (p.1, p.2) (sym (value_more c.args.key.now (codes " = ") rest ∙ ap (behind_equals rest) (sym c.in_err-behind.ensures.value)))

pub returns-in-Some-clause-value : goal.returns-in-Some-clause-value
returns-in-Some-clause-value c =
    let rest = plain_rest c.args.self in
    sym (value_more c.args.key.now (codes " = ") rest ∙ ap (behind_equals rest) (sym c.in_ok-behind.ensures.value) ∙ ap (or_fault rest.line causes.Key) (sym c.in-Some.ensures))

pub returns-in-None-clause-value : goal.returns-in-None-clause-value
returns-in-None-clause-value c =
    let rest = plain_rest c.args.self in
    ap (λ (n : ℕ). fault_at n c.fault.result.cause) c.fault.ensures.line ∙ ap (λ (k : CdmCause). fault_at rest.line k) c.fault.ensures.cause
    ∙ sym (value_more c.args.key.now (codes " = ") rest ∙ ap (behind_equals rest) (sym c.in_ok-behind.ensures.value) ∙ ap (or_fault rest.line causes.Key) (sym c.in-None.ensures))
