-- The text of a written certificate, from its shells, its boxes object by object, and its leaves.
use Rattle.std.proofs.Common.{◌≡◌, ℕ, ◌+◌, List, [], ◌∷◌, ◌++◌, Option, Some, None, length, map, sym, ap, ◌∙◌, arith, append_assoc, append-nil}
use Rattle.std.specs.Prelude.{codes, flat_map}
use Rattle.std.specs.List.{enumerate_from, range_with_len}
use Rattle.std.proofs.lemmas.Grind.{flat_map-append}
use Rattle.std.proofs.lemmas.List.Folds.{flat_map-map}
use Rattle.cj_formats.specs.declared.cert_format.CertFormat.TheVariants.{Brief}
use Rattle.cj_formats.specs.declared.cert_version.CertVersion.{CertVersion}
use Rattle.cj_formats.specs.declared.cert_version.CertVersion.TheVariants.{One}
use Rattle.cj_interval.proofs.RangeLemmas.{flat_map-range_more}
use Rattle.cj_case.specs.PlainProblems.{PlainProblem}
use Rattle.cj_case.specs.Primaries.{named}
use Rattle.cj_case.specs.declared.leaf.Leaf.{Leaf}
use Rattle.cj_case.specs.Leaves.{plain_leaf, plain_leaves}
use Rattle.cj_case.specs.Boxes.{PlainBox}
use Rattle.cj_bezier.specs.SlotBoxes.{reaches_in}
use Rattle.cj_bezier.specs.ToldLeaves.{told_leaves}
use Rattle.cj_brief.specs.Written.{written_in_brief}
use Rattle.cj_cert.specs.declared.cert_lines.ShellLine.{ShellLine}
use Rattle.cj_cert_text.specs.declared.object_boxes.ObjectBoxes.{ObjectBoxes}
use Rattle.cj_cert.specs.Certificates.{PlainBoxLine}
use Rattle.cj_cert_text.specs.ObjectTexts.{object_text}
use Rattle.cj_cert_text.specs.Texts.{box_text, brief_text, cell_text, first_lines, first_lines_in, primary_text, row, shell_text, size_text, text_of}
use Rattle.cj_cert.specs.Written.{box_lines, leaves_in_order, line_of_box, lines_in_row, shell_line, size_lines, written}
use Rattle.cj_cert.proofs.WrittenLineLemmas.{box_missing, box_more}

-- ---- one box more of an object

pub box_added : (version : CertVersion) (row : List (Option PlainBox)) (object slot : ℕ) (area : PlainBox) (old text new : List ℕ)
    → reaches_in row slot ≡ Some area
    → text ≡ old ++ flat_map (box_text version) (lines_in_row row slot object)
    → new ≡ text ++ box_text version (line_of_box object slot area)
    → new ≡ old ++ flat_map (box_text version) (lines_in_row row (slot + 1) object)
box_added version row object slot area old text new is so_far added =
    let lines = lines_in_row row slot object in
    let line = line_of_box object slot area in
    let both : flat_map (box_text version) lines ++ box_text version line ≡ flat_map (box_text version) (lines_in_row row (slot + 1) object) =
    ap (λ (t : List ℕ). flat_map (box_text version) lines ++ t) (sym (append-nil (box_text version line)))
    ∙ sym (flat_map-append (box_text version) lines (line ∷ []))
    ∙ ap (flat_map (box_text version)) (box_more row object slot area [] is) in
    added
    ∙ ap (λ (t : List ℕ). t ++ box_text version line) so_far
    ∙ append_assoc old (flat_map (box_text version) lines) (box_text version line)
    ∙ ap (λ (t : List ℕ). old ++ t) both

pub no_box : (version : CertVersion) (row : List (Option PlainBox)) (object slot : ℕ) (old text : List ℕ)
    → reaches_in row slot ≡ None
    → text ≡ old ++ flat_map (box_text version) (lines_in_row row slot object)
    → text ≡ old ++ flat_map (box_text version) (lines_in_row row (slot + 1) object)
no_box version row object slot old text is so_far =
    so_far ∙ ap (λ (ls : List PlainBoxLine). old ++ flat_map (box_text version) ls) (box_missing row object slot is)

-- ---- one object more

pub object_added : (version : CertVersion) (lines : ℕ → List PlainBoxLine) (object : ℕ) (each new : List ObjectBoxes) (own : ObjectBoxes)
    → new ≡ each ++ own ∷ [] → object_text version own ≡ flat_map (box_text version) (lines object)
    → flat_map (object_text version) each ≡ flat_map (box_text version) (flat_map lines (range_with_len 0 object))
    → flat_map (object_text version) new ≡ flat_map (box_text version) (flat_map lines (range_with_len 0 (object + 1)))
object_added version lines object each new own added is before =
    ap (flat_map (object_text version)) added
    ∙ flat_map-append (object_text version) each (own ∷ [])
    ∙ ap (λ (t : List ℕ). flat_map (object_text version) each ++ t) (append-nil (object_text version own) ∙ is)
    ∙ ap (λ (t : List ℕ). t ++ flat_map (box_text version) (lines object)) before
    ∙ sym (flat_map-append (box_text version) (flat_map lines (range_with_len 0 object)) (lines object))
    ∙ ap (flat_map (box_text version)) (sym (flat_map-range_more lines 0 object object (omega arith)))

-- ---- the whole, of which nothing is printed yet

pub all_left : (case : PlainProblem) (objects : ℕ) (shells : List ShellLine) (each : List ObjectBoxes) (leaves : List Leaf) (front back : List ℕ)
    → objects ≡ length case.tracks → shells ≡ map (shell_line case) (enumerate_from 0 case.tracks)
    → flat_map (object_text One) each ≡ flat_map (box_text One) (flat_map (box_lines case) (enumerate_from 0 case.tracks))
    → plain_leaves leaves ≡ leaves_in_order case
    → front ≡ first_lines One case.first case.last case.threshold objects → back ≡ row (codes "END") []
    → front ++ (flat_map shell_text shells ++ (flat_map (object_text One) each ++ (flat_map (λ (leaf : Leaf). cell_text (plain_leaf leaf)) leaves ++ back)))
    ≡ text_of (written case)
unfolding text_of written
all_left case objects shells each leaves front back count of_shells of_boxes of_leaves of_front of_back =
    let head = first_lines One case.first case.last case.threshold (length case.tracks) in
    let s = flat_map shell_text (map (shell_line case) (enumerate_from 0 case.tracks)) in
    let b = flat_map (box_text One) (flat_map (box_lines case) (enumerate_from 0 case.tracks)) in
    let l = flat_map cell_text (leaves_in_order case) in
    let e = row (codes "END") [] in
    let of_cells : flat_map (λ (leaf : Leaf). cell_text (plain_leaf leaf)) leaves ≡ l =
    sym (flat_map-map cell_text plain_leaf leaves) ∙ ap (flat_map cell_text) of_leaves in
    let fronts : front ≡ head = of_front ∙ ap (first_lines One case.first case.last case.threshold) count in
    (λ i. fronts i ++ (flat_map shell_text (of_shells i) ++ (of_boxes i ++ (of_cells i ++ of_back i))))
    ∙ sym (append_assoc (((head ++ []) ++ s) ++ b) l e
    ∙ append_assoc ((head ++ []) ++ s) b (l ++ e)
    ∙ append_assoc (head ++ []) s (b ++ (l ++ e))
    ∙ ap (λ (t : List ℕ). t ++ (s ++ (b ++ (l ++ e)))) (append-nil head))

-- the same in brief, where no boxes are
pub all_left_in_brief : (case : PlainProblem) (shells : List ShellLine) (each : List ObjectBoxes) (leaves : List Leaf) (front back : List ℕ)
    → shells ≡ map (shell_line case) (enumerate_from 0 case.tracks) → each ≡ [] → plain_leaves leaves ≡ told_leaves case
    → front ≡ first_lines_in Brief case.first case.last case.threshold (length case.tracks) ++ flat_map size_text (size_lines case.sizes)
    ++ flat_map primary_text (named case.primaries) → back ≡ row (codes "END") []
    → front ++ (flat_map shell_text shells ++ (flat_map (object_text One) each ++ (flat_map (λ (leaf : Leaf). cell_text (plain_leaf leaf)) leaves ++ back)))
    ≡ brief_text (written_in_brief case)
unfolding brief_text written_in_brief
all_left_in_brief case shells each leaves front back of_shells none of_leaves of_front of_back =
    let head = first_lines_in Brief case.first case.last case.threshold (length case.tracks) in
    let z = flat_map size_text (size_lines case.sizes) in
    let p = flat_map primary_text (named case.primaries) in
    let s = flat_map shell_text (map (shell_line case) (enumerate_from 0 case.tracks)) in
    let l = flat_map cell_text (told_leaves case) in
    let e = row (codes "END") [] in
    let of_cells : flat_map (λ (leaf : Leaf). cell_text (plain_leaf leaf)) leaves ≡ l =
    sym (flat_map-map cell_text plain_leaf leaves) ∙ ap (flat_map cell_text) of_leaves in
    (λ i. of_front i ++ (flat_map shell_text (of_shells i) ++ (flat_map (object_text One) (none i) ++ (of_cells i ++ of_back i))))
    ∙ sym (append_assoc (((head ++ z) ++ p) ++ s) l e ∙ append_assoc ((head ++ z) ++ p) s (l ++ e))
