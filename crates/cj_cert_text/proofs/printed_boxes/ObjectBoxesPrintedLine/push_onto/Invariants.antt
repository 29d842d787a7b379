use Rattle.std.proofs.Common.{◌≡◌, ◌++◌}
use Rattle.std.specs.Prelude.{flat_map}
use Rattle.cj_case.specs.Boxes.{plain_boxes}
use Rattle.cj_cert_text.specs.Texts.{box_text}
use Rattle.cj_cert.specs.Written.{lines_in_row}
use Rattle.cj_cert_text.proofs.printed_boxes.ObjectBoxesPrintedLine.push_onto.Given as goal

abbrev pub invariant-loop-slot : goal.invariant-loop-slot
invariant-loop-slot l = l.text.items ≡ l.initial.text.items
    ++ flat_map (box_text l.version) (lines_in_row (plain_boxes l.self.row.now) l.slot l.self.object)
