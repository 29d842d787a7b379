use Rattle.std.proofs.Common.{◌≡◌, ◌++◌, true, [], map}
use Rattle.cj_formats.specs.declared.cert_version.CertVersion.TheVariants.{One}
use Rattle.cj_case.specs.Boxes.{plain_boxes}
use Rattle.cj_cert.specs.Certificates.{plain_box_line}
use Rattle.cj_cert.specs.Versions.{is_of_version}
use Rattle.cj_cert.specs.Written.{lines_in_row}
use Rattle.cj_cert.proofs.written.append_box_lines.Given as goal

abbrev pub invariant-loop-slot : goal.invariant-loop-slot
invariant-loop-slot l = record {
  lines : map plain_box_line l.lines.items ≡ map plain_box_line l.initial.lines.items ++ lines_in_row (plain_boxes l.row) l.slot l.object;
  single : is_of_version One [] l.initial.lines.items ≡ true → is_of_version One [] l.lines.items ≡ true;
}
