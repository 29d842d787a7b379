use Rattle.std.proofs.Common.{◌≡◌, ◌∙◌, List, ap, false, sym, true, ℕ}
use Rattle.cj_cdm.specs.declared.fault.CdmCause.{CdmCause}
use Rattle.cj_cdm.specs.declared.fault.CdmCause.TheVariants as causes
use Rattle.cj_cdm.specs.Reading.{fault_at, is_none_left, or_fault, value_in}
use Rattle.cj_cdm.specs.Values.{behind_front}
use Rattle.cj_cdm.proofs.ReaderLemmas.{none_left, some_left}
use Rattle.cj_cdm.proofs.reading.rest.Rest.behind.Goals as goal

pub returns-then-is_empty-clause-value : goal.returns-then-is_empty-clause-value
unfolding value_in
returns-then-is_empty-clause-value c =
    let rest = c.args.self in
    let none : is_none_left rest.text.now ≡ true = none_left rest.text.now (sym c.if-is_empty.ensures) in
    rw none (ap (λ (n : ℕ). fault_at {A = List ℕ} n c.fault.result.cause) c.fault.ensures.line ∙ ap (λ (k : CdmCause). fault_at rest.line k) c.fault.ensures.cause)

pub returns-in-Some-clause-value : goal.returns-in-Some-clause-value
unfolding value_in
returns-in-Some-clause-value c =
    let rest = c.args.self in
    let some : is_none_left rest.text.now ≡ false = some_left rest.text.now (sym c.if-is_empty.ensures) in
    rw some (ap (or_fault rest.line causes.Key) (c.in-Some.ensures ∙ ap (behind_front c.args.front.now) c.line_of.ensures))

pub returns-in-None-clause-value : goal.returns-in-None-clause-value
unfolding value_in
returns-in-None-clause-value c =
    let rest = c.args.self in
    let fault = c.fault-in-None in
    let some : is_none_left rest.text.now ≡ false = some_left rest.text.now (sym c.if-is_empty.ensures) in
    rw some
    (ap (λ (n : ℕ). fault_at {A = List ℕ} n fault.result.cause) fault.ensures.line ∙ ap (λ (k : CdmCause). fault_at rest.line k) fault.ensures.cause
    ∙ ap (or_fault rest.line causes.Key) (c.in-None.ensures ∙ ap (behind_front c.args.front.now) c.line_of.ensures))
