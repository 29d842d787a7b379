use Rattle.std.proofs.Common.{◌≡◌, ◌∙◌, ◌++◌, [], List, ℕ, length, map, true, ap, refl, sym, subst, arith}
use Rattle.std.specs.List.{flat_map, range_with_len}
use Rattle.cj_formats.specs.declared.cert_version.CertVersion.TheVariants.{One}
use Rattle.cj_interval.proofs.RangeLemmas.{flat_map-range_more}
use Rattle.cj_case.specs.Boxes.{plain_boxes, plain_rows}
use Rattle.cj_cert.specs.declared.cert_lines.BoxLine.{BoxLine}
use Rattle.cj_cert.specs.Certificates.{plain_box_line}
use Rattle.cj_cert.specs.Versions.{is_of_version}
use Rattle.cj_cert.specs.Written.{lines_by_boxes, lines_in_row}
use Rattle.cj_cert.proofs.WrittenLineLemmas.{row_lines}
use Rattle.cj_cert.proofs.written.box_lines.Goals as goal

pub loop-object-preserved : goal.loop-object-preserved
loop-object-preserved c =
    let i = c.loop-object.invariant in
    let boxes = c.args.boxes.now in
    let own = lines_by_boxes (plain_rows boxes.rows) boxes.slots in
    let object = c.loop-object.object in
    let lines = ap (λ (n : ℕ). lines_in_row (plain_boxes c.of_object.result.now) n object) c.slots.ensures.value ∙ row_lines boxes.rows boxes.slots object c.of_object.result.now c.of_object.ensures.row in
    record {
      lines = c.in_ok-append_box_lines.ensures.value ∙ (λ j. i.lines j ++ lines j) ∙ sym (flat_map-range_more own 0 object object (omega arith));
      single = c.in_ok-append_box_lines.ensures.single i.single;
    }

pub loop-object-init : goal.loop-object-init
loop-object-init c = record {
  lines = ap (map plain_box_line) c.new-lines.ensures.items;
  single = subst (λ (ls : List BoxLine). is_of_version One [] ls ≡ true) (sym c.new-lines.ensures.items) refl;
}

pub append_box_lines-requires : goal.append_box_lines-requires
append_box_lines-requires c = c.of_object.ensures.len ∙ sym c.slots.ensures.value

pub returns-clause-value : goal.returns-clause-value
returns-clause-value c =
    let boxes = c.args.boxes.now in
    let all : c.loop-object.object ≡ length boxes.rows = omega (arith, c.loop-object.auto.object-end, c.loop-object-test.false, c.objects-count.ensures.value) in
    c.loop-object.invariant.lines ∙ ap (λ (k : ℕ). flat_map (lines_by_boxes (plain_rows boxes.rows) boxes.slots) (range_with_len 0 k)) all

pub returns-clause-single : goal.returns-clause-single
returns-clause-single c = c.loop-object.invariant.single
