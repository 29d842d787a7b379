use Rattle.std.proofs.Common.{◌≡◌, ℕ, List, [], ◌++◌, drop, sym, subst, ap, ◌∙◌, arith, true, IfOk}
use Rattle.std.specs.Prelude.{◌==◌, flat_map}
use Rattle.std.specs.Global.{Vec}
use Rattle.std.proofs.lemmas.Bool.{eqb-true}
use Rattle.std.proofs.lemmas.List.{nil_from_length}
use Rattle.cj_formats.specs.declared.cert_version.CertVersion.TheVariants.{One}
use Rattle.cj_io.specs.Parts.{joined}
use Rattle.cj_case.specs.Leaves.{plain_leaf}
use Rattle.cj_case.specs.declared.leaf.Leaf.{Leaf}
use Rattle.cj_cert.specs.declared.cert_lines.ShellLine.{ShellLine}
use Rattle.cj_cert_text.specs.declared.certificate_text.CertificateText.{CertificateText}
use Rattle.cj_cert_text.specs.declared.object_boxes.ObjectBoxes.{ObjectBoxes}
use Rattle.cj_cert_text.specs.ObjectTexts.{object_text}
use Rattle.cj_cert_text.specs.TextLeft.{text_left}
use Rattle.cj_cert_text.specs.Texts.{cell_text, shell_text}
use Rattle.cj_cert_text.proofs.PartLemmas.{all_made, behind_none, never_none, printed_whole, with_behind}
use Rattle.cj_cert_text.proofs.certificate_text.CertificateTextPartSource.next_parts.Goals as goal

abbrev shells_left : CertificateText → List ℕ
shells_left t = flat_map shell_text (drop t.shells_made t.shells.items)

abbrev boxes_left : CertificateText → List ℕ
boxes_left t = flat_map (object_text One) (drop t.boxes_made t.boxes.items)

abbrev cell_of : Leaf → List ℕ
cell_of leaf = cell_text (plain_leaf leaf)

abbrev cells_left : CertificateText → List ℕ
cells_left t = flat_map cell_of (drop t.leaves_made t.leaves.now)

none_left : (text : Vec ℕ) → (text.len == 0) ≡ true → text.items ≡ []
none_left text empty = nil_from_length text.items (sym text.ok.0 ∙ eqb-true text.len 0 empty)

pub returns-then-not-is_empty-clause-parts : goal.returns-then-not-is_empty-clause-parts
returns-then-not-is_empty-clause-parts g c =
    let t = c.args.self.now in
    let made = c.one_part.result in
    let head = c.one_part.new.text.items in
    with_behind made t.head.items head (shells_left t ++ (boxes_left t ++ (cells_left t ++ t.end.items)))
    (printed_whole made t.head.items head c.one_part.ensures.parts c.one_part.ensures.taken)

pub returns-then-self-len-clause-parts : goal.returns-then-self-len-clause-parts
returns-then-self-len-clause-parts g c =
    let t = c.args.self.now in
    let made = c.next_texts.result in
    let left = flat_map shell_text (drop c.next_texts.new.made t.shells.items) in
    let rest = boxes_left t ++ (cells_left t ++ t.end.items) in
    behind_none made t.head.items (shells_left t ++ rest) (left ++ rest) (none_left t.head (sym c.if-not-is_empty.ensures))
    (with_behind made (shells_left t) left rest
    (subst (λ (ls : List ShellLine). IfOk made (λ parts. flat_map shell_text (drop t.shells_made ls) ≡ joined parts.items ++ flat_map shell_text (drop c.next_texts.new.made ls)))
    c.deref.ensures.value c.next_texts.ensures.parts))

pub returns-then-self-len-2-clause-parts : goal.returns-then-self-len-2-clause-parts
returns-then-self-len-2-clause-parts g c =
    let t = c.args.self.now in
    let made = c.next_texts-then-self-len-2.result in
    let now = c.next_texts-then-self-len-2.new.made in
    let left = flat_map (object_text One) (drop now t.boxes.items) in
    let rest = cells_left t ++ t.end.items in
    behind_none made t.head.items (shells_left t ++ (boxes_left t ++ rest)) (shells_left t ++ (left ++ rest)) (none_left t.head (sym c.if-not-is_empty.ensures))
    (behind_none made (shells_left t) (boxes_left t ++ rest) (left ++ rest)
    (all_made shell_text t.shells.items t.shells_made (omega (arith, t.shells.ok.0, c.len.ensures, c.if-self-len.false)))
    (with_behind made (boxes_left t) left rest
    (subst (λ (ls : List ObjectBoxes). IfOk made (λ parts. flat_map (object_text One) (drop t.boxes_made ls) ≡ joined parts.items ++ flat_map (object_text One) (drop now ls)))
    c.deref-then-self-len-2.ensures.value c.next_texts-then-self-len-2.ensures.parts)))

pub returns-then-self-clause-parts : goal.returns-then-self-clause-parts
returns-then-self-clause-parts g c =
    let t = c.args.self.now in
    let made = c.next_texts-then-self.result in
    let left = flat_map cell_of (drop c.next_texts-then-self.new.made t.leaves.now) in
    let rest = t.end.items in
    behind_none made t.head.items (shells_left t ++ (boxes_left t ++ (cells_left t ++ rest))) (shells_left t ++ (boxes_left t ++ (left ++ rest)))
    (none_left t.head (sym c.if-not-is_empty.ensures))
    (behind_none made (shells_left t) (boxes_left t ++ (cells_left t ++ rest)) (boxes_left t ++ (left ++ rest))
    (all_made shell_text t.shells.items t.shells_made (omega (arith, t.shells.ok.0, c.len.ensures, c.if-self-len.false)))
    (behind_none made (boxes_left t) (cells_left t ++ rest) (left ++ rest)
    (all_made (object_text One) t.boxes.items t.boxes_made (omega (arith, t.boxes.ok.0, c.len-2.ensures, c.if-self-len-2.false)))
    (with_behind made (cells_left t) left rest c.next_texts-then-self.ensures.parts)))

pub returns-then-not-is_empty-2-clause-parts : goal.returns-then-not-is_empty-2-clause-parts
returns-then-not-is_empty-2-clause-parts g c =
    let t = c.args.self.now in
    let made = c.one_part-then-not-is_empty-2.result in
    let left = c.one_part-then-not-is_empty-2.new.text.items in
    let whole = c.one_part-then-not-is_empty-2.ensures in
    behind_none made t.head.items (shells_left t ++ (boxes_left t ++ (cells_left t ++ t.end.items))) (shells_left t ++ (boxes_left t ++ (cells_left t ++ left)))
    (none_left t.head (sym c.if-not-is_empty.ensures))
    (behind_none made (shells_left t) (boxes_left t ++ (cells_left t ++ t.end.items)) (boxes_left t ++ (cells_left t ++ left))
    (all_made shell_text t.shells.items t.shells_made (omega (arith, t.shells.ok.0, c.len.ensures, c.if-self-len.false)))
    (behind_none made (boxes_left t) (cells_left t ++ t.end.items) (cells_left t ++ left)
    (all_made (object_text One) t.boxes.items t.boxes_made (omega (arith, t.boxes.ok.0, c.len-2.ensures, c.if-self-len-2.false)))
    (behind_none made (cells_left t) t.end.items left
    (all_made cell_of t.leaves.now t.leaves_made c.if-self.false)
    (printed_whole made t.end.items left whole.parts whole.taken))))

pub returns-clause-parts : goal.returns-clause-parts
returns-clause-parts g c = sym (ap (λ (ps : List (Vec ℕ)). joined ps ++ text_left c.args.self.now) c.new.ensures.items)

pub returns-then-not-is_empty-clause-end : goal.returns-then-not-is_empty-clause-end
returns-then-not-is_empty-clause-end g c = never_none c.one_part.result _ c.one_part.ensures.some

pub returns-then-self-len-clause-end : goal.returns-then-self-len-clause-end
returns-then-self-len-clause-end g c = never_none c.next_texts.result _ c.next_texts.ensures.some

pub returns-then-self-len-2-clause-end : goal.returns-then-self-len-2-clause-end
returns-then-self-len-2-clause-end g c = never_none c.next_texts-then-self-len-2.result _ c.next_texts-then-self-len-2.ensures.some

pub returns-then-self-clause-end : goal.returns-then-self-clause-end
returns-then-self-clause-end g c = never_none c.next_texts-then-self.result _ c.next_texts-then-self.ensures.some

pub returns-then-not-is_empty-2-clause-end : goal.returns-then-not-is_empty-2-clause-end
returns-then-not-is_empty-2-clause-end g c = never_none c.one_part-then-not-is_empty-2.result _ c.one_part-then-not-is_empty-2.ensures.some
