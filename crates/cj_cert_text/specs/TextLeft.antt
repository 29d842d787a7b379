-- What is left of a text of a certificate that is made batch by batch.
use Rattle.std.specs.Prelude.{ℕ, ◌+◌, ◌-◌, List, ◌++◌, drop, flat_map, length}
use Rattle.cj_formats.specs.declared.cert_version.CertVersion.TheVariants.{One}
use Rattle.cj_case.specs.Leaves.{plain_leaf}
use Rattle.cj_cert_text.specs.declared.certificate_text.CertificateText.{CertificateText}
use Rattle.cj_cert_text.specs.ObjectTexts.{object_text}
use Rattle.cj_cert_text.specs.Texts.{cell_text, shell_text}

-- the text of the first lines, of the shells, of the boxes object by object, of the cells and of the end, as far as they are not yet made
abbrev pub text_left : CertificateText → List ℕ
text_left t =
    t.head.items
    ++ (flat_map shell_text (drop t.shells_made t.shells.items)
    ++ (flat_map (object_text One) (drop t.boxes_made t.boxes.items)
    ++ (flat_map (λ leaf. cell_text (plain_leaf leaf)) (drop t.leaves_made t.leaves.now)
    ++ t.end.items)))

-- how many lines, and bytes of the first and the last, these are
abbrev pub count_left : CertificateText → ℕ
count_left t =
    length t.head.items
    + (length t.shells.items - t.shells_made)
    + (length t.boxes.items - t.boxes_made)
    + (length t.leaves.now - t.leaves_made)
    + length t.end.items
