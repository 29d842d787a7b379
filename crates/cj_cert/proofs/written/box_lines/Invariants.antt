use Rattle.std.proofs.Common.{◌≡◌, true, [], map}
use Rattle.std.specs.List.{flat_map, range_with_len}
use Rattle.cj_formats.specs.declared.cert_version.CertVersion.TheVariants.{One}
use Rattle.cj_case.specs.Boxes.{plain_rows}
use Rattle.cj_cert.specs.Certificates.{plain_box_line}
use Rattle.cj_cert.specs.Versions.{is_of_version}
use Rattle.cj_cert.specs.Written.{lines_by_boxes}
use Rattle.cj_cert.proofs.written.box_lines.Given as goal

abbrev pub invariant-loop-object : goal.invariant-loop-object
invariant-loop-object l = record {
  lines : map plain_box_line l.lines.items ≡ flat_map (lines_by_boxes (plain_rows l.boxes.rows) l.boxes.slots) (range_with_len 0 l.object);
  single : is_of_version One [] l.lines.items ≡ true;
}
