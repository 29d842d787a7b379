use Rattle.std.proofs.Common.{◌≡◌, ◌∙◌, ◌++◌, ℕ, ap, append-nil, sym, ◌<◌, Some, None, length, arith}
use Rattle.std.specs.Prelude.{flat_map}
use Rattle.cj_case.specs.Boxes.{plain_box, plain_boxes}
use Rattle.cj_cert.specs.Written.{lines_in_row}
use Rattle.cj_cert_text.specs.Texts.{box_text}
use Rattle.cj_cert.proofs.WrittenLineLemmas.{box_found}
use Rattle.cj_cert_text.proofs.WrittenTextLemmas.{box_added, no_box}
use Rattle.cj_cert_text.proofs.printed_boxes.ObjectBoxesPrintedLine.push_onto.Goals as goal
use Rattle.cj_cert_text.proofs.printed_boxes.ObjectBoxesPrintedLine.push_onto.Goals.{in-Some+in_ok-push_onto, in_default}

pub loop-slot-preserved : goal.loop-slot-preserved
loop-slot-preserved c =
    let own = c.args.self.now in
    let row = own.row.now in
    let slot = c.loop-slot.slot in
    let whole = own.whole in
    let below : slot < length row = omega (arith, whole) in
    elim c.match-self-slot.branch [
      | in-Some+in_ok-push_onto w ↦
          let here = box_found row slot _ (Some w.in-Some.area) below w.in-Some.is in
          rw w.text-is
          (box_added c.args.version (plain_boxes row) own.object slot (plain_box w.in-Some.area) _ _ _ here c.loop-slot.invariant w.in_ok-push_onto.ensures)
      | in_default w ↦
          let here = box_found row slot _ None below w.in_default.is in
          rw w.text-is (no_box c.args.version (plain_boxes row) own.object slot _ _ here c.loop-slot.invariant)
    ]

pub loop-slot-init : goal.loop-slot-init
loop-slot-init c = sym (append-nil c.args.text.now.items)

pub returns : goal.returns
returns c =
    let own = c.args.self.now in
    let all : c.loop-slot.slot ≡ own.slots = omega (arith, c.loop-slot.auto.slot-end, c.loop-slot-test.false) in
    c.loop-slot.invariant
    ∙ ap (λ (k : ℕ). c.args.text.now.items ++ flat_map (box_text c.args.version) (lines_in_row (plain_boxes own.row.now) k own.object)) all
