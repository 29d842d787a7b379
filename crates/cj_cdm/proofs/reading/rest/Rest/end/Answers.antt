use Rattle.std.proofs.Common.{◌≡◌, ◌∙◌, ap, false, refl, sym, true, ℕ}
use Rattle.cj_cdm.specs.declared.fault.CdmCause.{CdmCause}
use Rattle.cj_cdm.specs.Reading.{fault_at, is_none_left}
use Rattle.cj_cdm.proofs.ReaderLemmas.{none_left, some_left}
use Rattle.cj_cdm.proofs.reading.rest.Rest.end.Goals as goal

pub returns-then-not-is_empty : goal.returns-then-not-is_empty
returns-then-not-is_empty c =
    let left : is_none_left c.args.self.text.now ≡ false = some_left c.args.self.text.now (sym c.if-not-is_empty.ensures) in
    rw left (ap (λ (n : ℕ). fault_at {A = Unit {0}} n c.fault.result.cause) c.fault.ensures.line ∙ ap (λ (k : CdmCause). fault_at c.args.self.line k) c.fault.ensures.cause)

pub returns : goal.returns
returns c =
    let none : is_none_left c.args.self.text.now ≡ true = none_left c.args.self.text.now (sym c.if-not-is_empty.ensures) in
    rw none refl
