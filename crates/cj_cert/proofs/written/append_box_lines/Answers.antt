use Rattle.std.proofs.Common.{◌≡◌, ◌++◌, ◌<◌, List, ℕ, append-nil, sym, [], ◌∷◌, Some, None, length, map, refl, ap, ◌∙◌, arith}
use Rattle.std.proofs.lemmas.List.{map-append}
use Rattle.cj_case.specs.Boxes.{plain_box, plain_boxes}
use Rattle.cj_cert.specs.declared.cert_lines.BoxLine.{BoxLine}
use Rattle.cj_cert.specs.Certificates.{PlainBoxLine, plain_box_line}
use Rattle.cj_cert.specs.Written.{line_of_box, lines_in_row}
use Rattle.cj_cert.proofs.WrittenLineLemmas.{box_found, box_more, box_missing, single_more}
use Rattle.cj_cert.proofs.written.append_box_lines.Goals as goal
use Rattle.cj_cert.proofs.written.append_box_lines.Goals.{in-Some+in_ok-push, in_default}

pub loop-slot-preserved : goal.loop-slot-preserved
loop-slot-preserved c =
    let i = c.loop-slot.invariant in
    let row = c.args.row.now in
    let object = c.args.object in
    let slot = c.loop-slot.slot in
    let old = map plain_box_line c.args.lines.now.items in
    let all = c.requires in
    let below : slot < length row = omega arith in
    elim c.match-row-slot.branch [
      | in-Some+in_ok-push w ↦
          let area = w.in-Some.area in
          let line : BoxLine = record { object = object; first = slot; last = slot; area = area } in
          let here = box_found row slot _ (Some area) below w.in-Some.is in
          rw w.lines-is
          (record {
            lines = ap (map plain_box_line) w.in_ok-push.ensures.items ∙ map-append plain_box_line c.loop-slot.lines.items (line ∷ [])
                ∙ ap (λ (ls : List PlainBoxLine). ls ++ line_of_box object slot (plain_box area) ∷ []) i.lines
                ∙ box_more (plain_boxes row) object slot (plain_box area) old here;
            single = λ was. single_more c.loop-slot.lines.items w.push.new.self.items line w.in_ok-push.ensures.items refl (i.single was);
          })
      | in_default w ↦
          let here = box_found row slot _ None below w.in_default.is in
          rw w.lines-is
          (record { lines = i.lines ∙ ap (λ (ls : List PlainBoxLine). old ++ ls) (box_missing (plain_boxes row) object slot here); single = i.single })
    ]

pub loop-slot-init : goal.loop-slot-init
loop-slot-init c = record { lines = sym (append-nil (map plain_box_line c.args.lines.now.items)); single = λ was. was }

pub returns-clause-value : goal.returns-clause-value
returns-clause-value c =
    let all : c.loop-slot.slot ≡ c.args.slots = omega (arith, c.loop-slot.auto.slot-end, c.loop-slot-test.false) in
    c.loop-slot.invariant.lines
    ∙ ap (λ (k : ℕ). map plain_box_line c.args.lines.now.items ++ lines_in_row (plain_boxes c.args.row.now) k c.args.object) all

pub returns-clause-single : goal.returns-clause-single
returns-clause-single c = c.loop-slot.invariant.single
