use Rattle.std.proofs.Common.{◌∙◌, ◌+◌, ◌-◌, ℕ, ap, length, subst, sym, arith}
use Rattle.cj_case.specs.Tables.{IsEven, Table, value_at}
use Rattle.cj_case.proofs.TableLemmas.{filled_even, filled_objects}
use Rattle.cj_cert.specs.Certificates.{plain_box_line}
use Rattle.cj_checker.proofs.TableLemmas.{entered}
use Rattle.cj_checker.proofs.listed.enter.Goals as goal

pub fill-requires-clause-within : goal.fill-requires-clause-within
fill-requires-clause-within c = omega (arith, c.requires.some, c.requires.slots)

pub returns-clause-entered : goal.returns-clause-entered
returns-clause-entered c slot object =
    ap (λ (t : Table ℕ). value_at t.rows object slot) c.fill.ensures.value
    ∙ entered c.args.numbers.now (plain_box_line c.args.line.now) c.args.number slot object c.fill.ensures.even c.requires.some c.requires.slots c.requires.objects

pub returns-clause-even : goal.returns-clause-even
returns-clause-even c =
    let line = c.args.line.now in
    subst (λ (t : Table ℕ). IsEven t) (sym c.fill.ensures.value)
    (filled_even line.object line.first (line.last + 1 - line.first) c.args.number c.args.numbers.now c.fill.ensures.even c.requires.objects (omega (arith, c.requires.some, c.requires.slots)))

pub returns-clause-objects : goal.returns-clause-objects
returns-clause-objects c =
    let line = c.args.line.now in
    ap (λ (t : Table ℕ). length t.rows) c.fill.ensures.value ∙ filled_objects line.object line.first (line.last + 1 - line.first) c.args.number c.args.numbers.now

pub returns-clause-slots : goal.returns-clause-slots
returns-clause-slots c = ap (λ (t : Table ℕ). t.slots) c.fill.ensures.value
