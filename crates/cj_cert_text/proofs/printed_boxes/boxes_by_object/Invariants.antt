use Rattle.std.proofs.Common.{◌≡◌}
use Rattle.std.specs.Prelude.{flat_map}
use Rattle.std.specs.List.{range_with_len}
use Rattle.cj_formats.specs.declared.cert_version.CertVersion.{CertVersion}
use Rattle.cj_case.specs.Boxes.{plain_rows}
use Rattle.cj_cert_text.specs.ObjectTexts.{object_text}
use Rattle.cj_cert_text.specs.Texts.{box_text}
use Rattle.cj_cert.specs.Written.{lines_by_boxes}
use Rattle.cj_cert_text.proofs.printed_boxes.boxes_by_object.Given as goal

abbrev pub invariant-loop-object : goal.invariant-loop-object
invariant-loop-object l = (version : CertVersion) → flat_map (object_text version) l.each.items
    ≡ flat_map (box_text version) (flat_map (lines_by_boxes (plain_rows l.boxes.rows) l.boxes.slots) (range_with_len 0 l.object))
