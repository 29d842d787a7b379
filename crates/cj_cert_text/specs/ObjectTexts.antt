-- The text of the boxes of one object.
use Rattle.std.specs.Prelude.{ℕ, List, flat_map}
use Rattle.cj_formats.specs.declared.cert_version.CertVersion.{CertVersion}
use Rattle.cj_case.specs.Boxes.{plain_boxes}
use Rattle.cj_cert_text.specs.declared.object_boxes.ObjectBoxes.{ObjectBoxes}
use Rattle.cj_cert_text.specs.Texts.{box_text}
use Rattle.cj_cert.specs.Written.{lines_in_row}

-- a line for each slot in which it has a box
abbrev pub object_text : CertVersion → ObjectBoxes → List ℕ
object_text version own = flat_map (box_text version) (lines_in_row (plain_boxes own.row.now) own.slots own.object)
