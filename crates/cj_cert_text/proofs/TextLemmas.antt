-- The text of a certificate, part by part.
use Rattle.std.proofs.Common.{◌≡◌, ℕ, List, [], ◌++◌, map, ap, sym, ◌∙◌}
use Rattle.std.specs.Prelude.{codes, flat_map}
use Rattle.std.proofs.lemmas.List.Folds.{flat_map-map}
use Rattle.cj_cert.specs.declared.cert_lines.BoxLine.{BoxLine}
use Rattle.cj_cert.specs.declared.cert_lines.CellLine.{CellLine}
use Rattle.cj_cert.specs.declared.cert_lines.ShellLine.{ShellLine}
use Rattle.cj_cert.specs.declared.cert_lines.SizeOfLine.{SizeOfLine}
use Rattle.cj_cert.specs.declared.certificate.Certificate.{Certificate}
use Rattle.cj_cert.specs.Certificates.{plain_certificate, plain_box_line, plain_cell_line}
use Rattle.cj_brief.specs.declared.brief_certificate.BriefCertificate.{BriefCertificate}
use Rattle.cj_brief.specs.Certificates.{plain_brief}
use Rattle.cj_formats.specs.declared.cert_format.CertFormat.TheVariants.{Brief}
use Rattle.cj_cert_text.specs.Texts.{row, text_of, brief_text, head_text, first_lines_in, size_text, primary_text, shell_text, box_text, cell_text}

-- what is written part by part is the text
pub text_written : (c : Certificate) (sizes : List SizeOfLine) (shells : List ShellLine) (boxes : List BoxLine) (cells : List CellLine) (t0 t1 t2 t3 t4 t5 t6 : List ℕ) →
    sizes ≡ c.sizes.items → shells ≡ c.shells.items → boxes ≡ c.boxes.items → cells ≡ c.cells.items →
    t0 ≡ [] → t1 ≡ t0 ++ head_text (plain_certificate c) → t2 ≡ t1 ++ flat_map size_text sizes → t3 ≡ t2 ++ flat_map shell_text shells →
    t4 ≡ t3 ++ flat_map (λ b. box_text c.version (plain_box_line b)) boxes → t5 ≡ t4 ++ flat_map (λ x. cell_text (plain_cell_line x)) cells →
    t6 ≡ t5 ++ row (codes "END") [] → t6 ≡ text_of (plain_certificate c)
unfolding text_of
text_written c sizes shells boxes cells t0 t1 t2 t3 t4 t5 t6 es eh eb ec e0 e1 e2 e3 e4 e5 e6 =
    let head = head_text (plain_certificate c) in
    let a = flat_map size_text c.sizes.items in
    let b = flat_map shell_text c.shells.items in
    let d = flat_map (box_text c.version) (map plain_box_line c.boxes.items) in
    let e = flat_map cell_text (map plain_cell_line c.cells.items) in
    let f = row (codes "END") [] in
    let boxes_map = flat_map-map (box_text c.version) plain_box_line c.boxes.items in
    let cells_map = flat_map-map cell_text plain_cell_line c.cells.items in
    let s1 : t1 ≡ head = e1 ∙ ap (λ t. t ++ head) e0 in
    let s2 : t2 ≡ head ++ a = e2 ∙ (ap (λ t. t ++ flat_map size_text sizes) s1 ∙ ap (λ xs. head ++ flat_map size_text xs) es) in
    let s3 : t3 ≡ (head ++ a) ++ b = e3 ∙ (ap (λ t. t ++ flat_map shell_text shells) s2 ∙ ap (λ xs. (head ++ a) ++ flat_map shell_text xs) eh) in
    let s4 : t4 ≡ ((head ++ a) ++ b) ++ d = e4 ∙ (ap (λ t. t ++ flat_map (λ x. box_text c.version (plain_box_line x)) boxes) s3
    ∙ (ap (λ xs. ((head ++ a) ++ b) ++ flat_map (λ x. box_text c.version (plain_box_line x)) xs) eb ∙ ap (λ t. ((head ++ a) ++ b) ++ t) (sym boxes_map))) in
    let s5 : t5 ≡ (((head ++ a) ++ b) ++ d) ++ e = e5 ∙ (ap (λ t. t ++ flat_map (λ x. cell_text (plain_cell_line x)) cells) s4
    ∙ (ap (λ xs. (((head ++ a) ++ b) ++ d) ++ flat_map (λ x. cell_text (plain_cell_line x)) xs) ec ∙ ap (λ t. (((head ++ a) ++ b) ++ d) ++ t) (sym cells_map))) in
    e6 ∙ ap (λ t. t ++ f) s5

-- the same of a certificate in brief
pub brief_written : (c : BriefCertificate) (sizes : List SizeOfLine) (primaries : List ℕ) (shells : List ShellLine) (cells : List CellLine) (t0 t1 t2 t3 t4 t5 t6 : List ℕ) →
    sizes ≡ c.sizes.items → primaries ≡ c.primaries.items → shells ≡ c.shells.items → cells ≡ c.cells.items →
    t0 ≡ [] → t1 ≡ t0 ++ first_lines_in Brief c.window.first.micros c.window.last.micros c.threshold c.objects → t2 ≡ t1 ++ flat_map size_text sizes →
    t3 ≡ t2 ++ flat_map primary_text primaries → t4 ≡ t3 ++ flat_map shell_text shells → t5 ≡ t4 ++ flat_map (λ x. cell_text (plain_cell_line x)) cells →
    t6 ≡ t5 ++ row (codes "END") [] → t6 ≡ brief_text (plain_brief c)
unfolding brief_text
brief_written c sizes primaries shells cells t0 t1 t2 t3 t4 t5 t6 es ep eh ec e0 e1 e2 e3 e4 e5 e6 =
    let head = first_lines_in Brief c.window.first.micros c.window.last.micros c.threshold c.objects in
    let a = flat_map size_text c.sizes.items in
    let p = flat_map primary_text c.primaries.items in
    let b = flat_map shell_text c.shells.items in
    let s1 : t1 ≡ head = e1 ∙ ap (λ t. t ++ head) e0 in
    let s2 : t2 ≡ head ++ a = e2 ∙ (ap (λ t. t ++ flat_map size_text sizes) s1 ∙ ap (λ xs. head ++ flat_map size_text xs) es) in
    let s3 : t3 ≡ (head ++ a) ++ p = e3 ∙ (ap (λ t. t ++ flat_map primary_text primaries) s2 ∙ ap (λ xs. (head ++ a) ++ flat_map primary_text xs) ep) in
    let s4 : t4 ≡ ((head ++ a) ++ p) ++ b = e4 ∙ (ap (λ t. t ++ flat_map shell_text shells) s3 ∙ ap (λ xs. ((head ++ a) ++ p) ++ flat_map shell_text xs) eh) in
    let front = ((head ++ a) ++ p) ++ b in
    let s5 : t5 ≡ front ++ flat_map cell_text (map plain_cell_line c.cells.items) = e5 ∙ (ap (λ t. t ++ flat_map (λ x. cell_text (plain_cell_line x)) cells) s4
    ∙ (ap (λ xs. front ++ flat_map (λ x. cell_text (plain_cell_line x)) xs) ec ∙ ap (λ t. front ++ t) (sym (flat_map-map cell_text plain_cell_line c.cells.items)))) in
    e6 ∙ ap (λ t. t ++ row (codes "END") []) s5
