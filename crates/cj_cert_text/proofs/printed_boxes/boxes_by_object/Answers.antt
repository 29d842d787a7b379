use Rattle.std.proofs.Common.{◌≡◌, ◌∙◌, ℕ, length, ap, arith, subst, sym}
use Rattle.std.specs.Prelude.{flat_map}
use Rattle.std.specs.List.{range_with_len}
use Rattle.cj_case.specs.Boxes.{plain_boxes, plain_rows}
use Rattle.cj_cert_text.specs.ObjectTexts.{object_text}
use Rattle.cj_cert_text.specs.Texts.{box_text}
use Rattle.cj_cert.specs.Written.{lines_by_boxes, lines_in_row}
use Rattle.cj_cert.proofs.WrittenLineLemmas.{row_lines}
use Rattle.cj_cert_text.proofs.WrittenTextLemmas.{object_added}
use Rattle.cj_cert_text.proofs.printed_boxes.boxes_by_object.Goals as goal

pub loop-object-preserved : goal.loop-object-preserved
loop-object-preserved c = λ version.
    let boxes = c.args.boxes.now in
    let object = c.loop-object.object in
    let own = ap (λ (n : ℕ). lines_in_row (plain_boxes c.of_object.result.now) n object) c.slots.ensures.value ∙ row_lines boxes.rows boxes.slots object c.of_object.result.now c.of_object.ensures.row in
    object_added version (lines_by_boxes (plain_rows boxes.rows) boxes.slots) object _ _ _ c.in_ok-push.ensures.items (ap (flat_map (box_text version)) own) (c.loop-object.invariant version)

pub loop-object-init : goal.loop-object-init
loop-object-init c = λ version. ap (flat_map (object_text version)) c.in_ok-each.ensures.items

pub invariant_of-push : goal.invariant_of-push
invariant_of-push c = record { whole = c.of_object.ensures.len ∙ sym c.slots.ensures.value }

pub returns : goal.returns
returns c =
    let boxes = c.args.boxes.now in
    let all : c.loop-object.object ≡ length boxes.rows = omega (arith, c.loop-object.auto.object-end, c.loop-object-test.false, c.objects-count.ensures.value) in
    λ version. subst (λ (n : ℕ). flat_map (object_text version) c.loop-object.each.items
    ≡ flat_map (box_text version) (flat_map (lines_by_boxes (plain_rows boxes.rows) boxes.slots) (range_with_len 0 n))) all (c.loop-object.invariant version)
