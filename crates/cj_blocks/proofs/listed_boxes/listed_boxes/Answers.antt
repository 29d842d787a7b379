use Rattle.std.proofs.Common.{◌≡◌, ◌-◌, ℕ, suc, length, refl, subst, arith}
use Rattle.cj_blocks.proofs.EnterLemmas.{AreListedFrom, table_listed, none_listed, one_line_more}
use Rattle.cj_blocks.proofs.listed_boxes.listed_boxes.Goals as goal

pub loop-left-init : goal.loop-left-init
loop-left-init c = record {
  within = omega arith;
  table = none_listed c.args.lines.now c.args.objects c.args.slots (length c.args.lines.now) c.in_ok-boxes.boxes refl c.in_ok-boxes.ensures;
}

pub loop-left-preserved : goal.loop-left-preserved
loop-left-preserved c =
    let i = c.loop-left.invariant in
    let lines = c.args.lines.now in
    let k = c.loop-left.left - 1 in
    let next : c.loop-left.left ≡ suc k = omega arith in
    let told = c.enter_line.ensures in
    record {
      within = omega (arith, i.within);
      table = one_line_more lines c.args.objects c.args.slots k c.index-lines-left.result c.loop-left.boxes c.enter_line.new.boxes (omega (arith, i.within)) c.index-lines-left.is told.even told.objects told.slots
          told.boxes (subst (λ (n : ℕ). AreListedFrom lines c.args.objects c.args.slots n c.loop-left.boxes) next i.table);
    }

pub returns-clause-objects : goal.returns-clause-objects
returns-clause-objects c = c.loop-left.invariant.table.objects_there

pub returns-clause-slots : goal.returns-clause-slots
returns-clause-slots c = c.loop-left.invariant.table.slots_there

pub returns-clause-value : goal.returns-clause-value
returns-clause-value c =
    let zero : c.loop-left.left ≡ 0 = omega arith in
    table_listed c.args.lines.now c.args.objects c.args.slots c.loop-left.boxes
    (subst (λ (n : ℕ). AreListedFrom c.args.lines.now c.args.objects c.args.slots n c.loop-left.boxes) zero c.loop-left.invariant.table)
