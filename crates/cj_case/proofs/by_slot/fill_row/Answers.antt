use Rattle.std.proofs.Common.{◌≡◌, ◌∙◌, ◌+◌, ◌-◌, ℕ, suc, slice_set, ap, sym, arith}
use Rattle.cj_case.specs.Tables.{filled_row}
use Rattle.cj_case.proofs.TableLemmas.{filled_none, filled_one_more}
use Rattle.cj_case.proofs.by_slot.fill_row.Goals as goal

pub loop-slot-init : goal.loop-slot-init
loop-slot-init g c =
    let none : c.args.first - c.args.first ≡ 0 = omega arith in
    record {
      later = omega arith;
      row = sym (filled_none c.args.row.now.items c.args.first c.args.value) ∙ ap (λ (n : ℕ). filled_row c.args.first n c.args.value c.args.row.now.items) (sym none);
    }

pub loop-slot-preserved : goal.loop-slot-preserved
loop-slot-preserved g c =
    let i = c.loop-slot.invariant in
    let later = i.later in
    let slot = c.loop-slot.slot in
    let old = c.args.row.now.items in
    let n = slot - c.args.first in
    let within = c.requires in
    let at : slot ≡ c.args.first + n = omega arith in
    let next : suc n ≡ slot + 1 - c.args.first = omega arith in
    record {
      later = omega arith;
      row = ap (λ row. slice_set row slot c.args.value) i.row
          ∙ filled_one_more old c.args.first n slot c.args.value at (omega arith)
          ∙ ap (λ (k : ℕ). filled_row c.args.first k c.args.value old) next;
    }

pub returns : goal.returns
returns g c =
    let later = c.loop-slot.invariant.later in
    let all : c.loop-slot.slot - c.args.first ≡ c.args.count = omega arith in
    c.loop-slot.invariant.row ∙ ap (λ (n : ℕ). filled_row c.args.first n c.args.value c.args.row.now.items) all
