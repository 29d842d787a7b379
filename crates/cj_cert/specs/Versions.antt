-- What a version of certificates allows.
use Rattle.std.specs.Prelude.{◌==◌, Bool, true, ◌&&◌, List, length}
use Rattle.std.specs.List.{list_all}
use Rattle.cj_formats.specs.declared.cert_version.CertVersion.{CertVersion}
use Rattle.cj_formats.specs.declared.cert_version.CertVersion.TheVariants.{One, Two}
use Rattle.cj_cert.specs.declared.cert_lines.BoxLine.{BoxLine}
use Rattle.cj_cert.specs.declared.cert_lines.SizeOfLine.{SizeOfLine}

-- in version 1 there are no sizes, and each box is of one slot
abbrev pub is_of_version : CertVersion → List SizeOfLine → List BoxLine → Bool
is_of_version One sizes boxes = (length sizes == 0) && list_all (λ b. b.first == b.last) boxes
is_of_version Two sizes boxes = true
