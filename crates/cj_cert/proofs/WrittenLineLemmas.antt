-- The lines of a written certificate, one by one.
use Rattle.std.proofs.Common.{◌≡◌, ℕ, suc, ◌+◌, ◌<◌, true, eqb, List, [], ◌∷◌, ◌++◌, length}
use Rattle.std.proofs.Common.{get_or, map, take, Option, Some, None, refl, sym, ap, ◌∙◌, subst, arith, append_assoc, append-nil}
use Rattle.std.specs.Prelude.{◌==◌, option_map, option_and_then, slice_get}
use Rattle.std.specs.List.{cons_option, enumerate_from, filter_map, flat_map, list_all, range_with_len}
use Rattle.std.proofs.lemmas.Bool.{and_parts, eq-eqb}
use Rattle.std.proofs.lemmas.List.{length-map, length-take-le, map-append, take_more}
use Rattle.std.proofs.lemmas.List.FromFn.{map-range_with_len_more}
use Rattle.std.proofs.lemmas.Option.{get_or_from_slice_get, slice_get-get_or, slice_get-map}
use Rattle.cj_interval.proofs.ListLemmas.{Each, Each-range}
use Rattle.cj_interval.proofs.RangeLemmas.{filter_map-range_more}
use Rattle.cj_formats.specs.declared.cert_version.CertVersion.{CertVersion}
use Rattle.cj_formats.specs.declared.cert_version.CertVersion.TheVariants.{One}
use Rattle.cj_track.specs.PlainTracks.{PlainTrack}
use Rattle.cj_case.specs.PlainProblems.{PlainProblem}
use Rattle.cj_hermite.specs.Roots.{slots_of}
use Rattle.cj_case.specs.Slots.{slot_count}
use Rattle.cj_case.specs.Tables.{row_of}
use Rattle.cj_case.proofs.TableLemmas.{made_in_slot}
use Rattle.cj_case.specs.declared.axis_box.AxisBox.{AxisBox}
use Rattle.cj_case.specs.declared.shells.Shell.{Shell}
use Rattle.cj_case.specs.Leaves.{PlainLeaf}
use Rattle.cj_bezier.specs.Candidates.{shells_of}
use Rattle.cj_bezier.specs.Shells.{shell_in, shell_of}
use Rattle.cj_case.specs.Boxes.{PlainBox, plain_box, plain_boxes, plain_rows}
use Rattle.cj_bezier.specs.SlotBoxes.{reaches_in}
use Rattle.cj_cert.specs.declared.cert_lines.ShellLine.{ShellLine}
use Rattle.cj_cert.specs.declared.cert_lines.BoxLine.{BoxLine}
use Rattle.cj_cert.specs.declared.cert_lines.SizeOfLine.{SizeOfLine}
use Rattle.cj_cert.specs.Certificates.{PlainBoxLine, PlainCertificate}
use Rattle.cj_bezier.specs.AllBoxes.{boxes_of}
use Rattle.cj_cert.specs.Written.{size_line, size_lines, shell_line, box_in, line_of_box, line_in_slot, box_lines, line_by_shells, line_in_row, lines_in_row, lines_by_boxes, leaves_in_order, written}

-- ---- sizes

enumerate_more : (n : ℕ) (xs : List ℕ) (x : ℕ) → enumerate_from n (xs ++ x ∷ []) ≡ enumerate_from n xs ++ (n + length xs, x) ∷ []
enumerate_more n [] x = let at : n ≡ n + 0 = omega arith in ap (λ (k : ℕ). (k, x) ∷ []) at
enumerate_more n (y ∷ xs) x =
    let at : n + 1 + length xs ≡ n + suc (length xs) = omega arith in
    ap (λ (ps : List (ℕ × ℕ)). (n, y) ∷ ps) (enumerate_more (n + 1) xs x ∙ ap (λ (k : ℕ). enumerate_from (n + 1) xs ++ (k, x) ∷ []) at)

pub size_more : (sizes : List ℕ) (i object : ℕ) (lines : List SizeOfLine) → i < length sizes → object ≡ i → lines ≡ size_lines (take i sizes)
    → lines ++ record { object = object; size = get_or sizes i 0 } ∷ [] ≡ size_lines (take (i + 1) sizes)
size_more sizes i object lines lt number before =
    let count : length (take i sizes) ≡ i = length-take-le i sizes (omega arith) in
    let at : object ≡ 0 + length (take i sizes) = omega (arith, number, count) in
    (λ j. before j ++ size_line (at j, get_or sizes i 0) ∷ [])
    ∙ sym (map-append size_line (enumerate_from 0 (take i sizes)) ((0 + length (take i sizes), get_or sizes i 0) ∷ []))
    ∙ ap (map size_line) (sym (enumerate_more 0 (take i sizes) (get_or sizes i 0)))
    ∙ ap size_lines (sym (take_more sizes i 0 lt))

-- the lines of sizes say them, number by number
pub sizes_numbered : (n : ℕ) (sizes : List ℕ) → map (λ line. (line.object, line.size)) (map size_line (enumerate_from n sizes)) ≡ enumerate_from n sizes
sizes_numbered n [] = refl
sizes_numbered n (size ∷ sizes) = ap (λ (ps : List (ℕ × ℕ)). (n, size) ∷ ps) (sizes_numbered (n + 1) sizes)

-- ---- one line more

pub shell_more : (shells : List (Option Shell)) (i object : ℕ) (lines : List ShellLine) → i < length shells → object ≡ i → lines ≡ map (line_by_shells shells) (range_with_len 0 i)
    → lines ++ record { object = object; shell = get_or shells i None } ∷ [] ≡ map (line_by_shells shells) (range_with_len 0 (i + 1))
shell_more shells i object lines lt number before =
    let here : get_or shells i None ≡ shell_in shells i = sym (ap (λ (o : Option (Option Shell)). option_and_then (λ t. t) o) (slice_get-get_or shells i None lt)) in
    ap (λ (ls : List ShellLine). ls ++ record { object = object; shell = get_or shells i None } ∷ []) before
    ∙ (λ j. map (line_by_shells shells) (range_with_len 0 i) ++ record { object = number j; shell = here j } ∷ [])
    ∙ sym (map-range_with_len_more (line_by_shells shells) 0 i i (omega arith))

-- the box that stands in a row
pub box_found : (boxes : List (Option AxisBox)) (place : ℕ) (d found : Option AxisBox) → place < length boxes → get_or boxes place d ≡ found
    → reaches_in (plain_boxes boxes) place ≡ option_map plain_box found
box_found boxes place d found lt is =
    ap (λ (o : Option (Option PlainBox)). option_and_then (λ b. b) o)
    (slice_get-map (option_map plain_box) boxes place ∙ ap (λ (o : Option (Option AxisBox)). option_map (option_map plain_box) o) (slice_get-get_or boxes place d lt) ∙ ap
    (λ (b : Option AxisBox). Some (option_map plain_box b)) is)

pub box_more : (row : List (Option PlainBox)) (object slot : ℕ) (area : PlainBox) (done : List PlainBoxLine) → reaches_in row slot ≡ Some area
    → (done ++ lines_in_row row slot object) ++ line_of_box object slot area ∷ [] ≡ done ++ lines_in_row row (slot + 1) object
box_more row object slot area done is =
    let here : line_in_row row object slot ≡ Some (line_of_box object slot area) = ap (λ (o : Option PlainBox). option_map (line_of_box object slot) o) is in
    append_assoc done (lines_in_row row slot object) (line_of_box object slot area ∷ [])
    ∙ ap (λ (o : Option PlainBoxLine). done ++ (lines_in_row row slot object ++ cons_option o [])) (sym here)
    ∙ ap (λ (ls : List PlainBoxLine). done ++ ls) (sym (filter_map-range_more (line_in_row row object) 0 slot slot (omega arith)))

pub box_missing : (row : List (Option PlainBox)) (object slot : ℕ) → reaches_in row slot ≡ None → lines_in_row row slot object ≡ lines_in_row row (slot + 1) object
box_missing row object slot is =
    let here : line_in_row row object slot ≡ None = ap (λ (o : Option PlainBox). option_map (line_of_box object slot) o) is in
    sym (append-nil (lines_in_row row slot object))
    ∙ ap (λ (o : Option PlainBoxLine). lines_in_row row slot object ++ cons_option o []) (sym here)
    ∙ sym (filter_map-range_more (line_in_row row object) 0 slot slot (omega arith))

-- the lines of an object by its own row are those by the rows of all
pub row_lines : (rows : List (List (Option AxisBox))) (n object : ℕ) (row : List (Option AxisBox)) → slice_get rows object ≡ Some row
    → lines_in_row (plain_boxes row) n object ≡ lines_by_boxes (plain_rows rows) n object
row_lines rows n object row is =
    ap (λ (r : List (Option PlainBox)). lines_in_row r n object)
    (sym (get_or_from_slice_get (plain_rows rows) object (plain_boxes row) [] (slice_get-map plain_boxes rows object ∙ ap (option_map plain_boxes) is)))

-- ---- all lines

map_numbered : {A : Type 0} (f : ℕ → A) (g : ℕ × PlainTrack → A) (n : ℕ) (es : List PlainTrack) → ((i : ℕ) (e : PlainTrack) → slice_get es i ≡ Some e → f (n + i) ≡ g (n + i, e))
    → map f (range_with_len n (length es)) ≡ map g (enumerate_from n es)
map_numbered f g n [] same = refl
map_numbered f g n (e ∷ es) same =
    let at : n + 0 ≡ n = omega arith in
    let here : f n ≡ g (n, e) = subst (λ (k : ℕ). f k ≡ g (k, e)) at (same 0 e refl) in
    let rest = map_numbered f g (n + 1) es (λ i d is. let next : n + suc i ≡ n + 1 + i = omega arith in subst (λ (k : ℕ). f k ≡ g (k, d)) next (same (suc i) d is)) in
    λ i. here i ∷ rest i

pub flat_map_numbered : {A : Type 0} (f : ℕ → List A) (g : ℕ × PlainTrack → List A) (n : ℕ) (es : List PlainTrack) → ((i : ℕ) (e : PlainTrack) → slice_get es i ≡ Some e → f (n + i) ≡ g (n + i, e))
    → flat_map f (range_with_len n (length es)) ≡ flat_map g (enumerate_from n es)
flat_map_numbered f g n [] same = refl
flat_map_numbered f g n (e ∷ es) same =
    let at : n + 0 ≡ n = omega arith in
    let here : f n ≡ g (n, e) = subst (λ (k : ℕ). f k ≡ g (k, e)) at (same 0 e refl) in
    let rest = flat_map_numbered f g (n + 1) es (λ i d is. let next : n + suc i ≡ n + 1 + i = omega arith in subst (λ (k : ℕ). f k ≡ g (k, d)) next (same (suc i) d is)) in
    λ i. here i ++ rest i

pub shells_count : (case : PlainProblem) → length (shells_of case) ≡ length case.tracks
unfolding shells_of
shells_count case = length-map case.tracks (λ e. shell_of e case.first case.last)

pub shells_are : (case : PlainProblem) (shells : List (Option Shell)) → shells ≡ shells_of case
    → map (line_by_shells shells) (range_with_len 0 (length shells)) ≡ map (shell_line case) (enumerate_from 0 case.tracks)
unfolding shells_of
shells_are case shells same =
    ap (λ (ss : List (Option Shell)). map (line_by_shells ss) (range_with_len 0 (length ss))) same
    ∙ ap (λ (n : ℕ). map (line_by_shells (map (λ e. shell_of e case.first case.last) case.tracks)) (range_with_len 0 n)) (length-map case.tracks (λ e. shell_of e case.first case.last))
    ∙ map_numbered (line_by_shells (map (λ e. shell_of e case.first case.last) case.tracks)) (shell_line case) 0 case.tracks (λ i e is.
    let at : 0 + i ≡ i = omega arith in
    let there : slice_get case.tracks (0 + i) ≡ Some e = subst (λ (k : ℕ). slice_get case.tracks k ≡ Some e) (sym at) is in
    let here : shell_in (map (λ e. shell_of e case.first case.last) case.tracks) (0 + i) ≡ shell_of e case.first case.last =
    ap (λ (o : Option (Option Shell)). option_and_then (λ t. t) o)
    (slice_get-map (λ e. shell_of e case.first case.last) case.tracks (0 + i) ∙ ap (λ (o : Option PlainTrack). option_map (λ e. shell_of e case.first case.last) o) there) in
    ap (λ (s : Option Shell). let line : ShellLine = record { object = 0 + i; shell = s } in line) here)

filter_map_same : {A : Type 0} (f g : ℕ → Option A) (ks : List ℕ) → Each (λ k. f k ≡ g k) ks → filter_map f ks ≡ filter_map g ks
filter_map_same f g [] same = refl
filter_map_same f g (k ∷ ks) same = let here = same.0 in let rest = filter_map_same f g ks same.1 in λ i. cons_option (here i) (rest i)

pub boxes_are : (case : PlainProblem) (rows : List (List (Option PlainBox))) (n : ℕ) → rows ≡ boxes_of case → n ≡ slot_count case.first case.last
    → flat_map (lines_by_boxes rows n) (range_with_len 0 (length case.tracks)) ≡ flat_map (box_lines case) (enumerate_from 0 case.tracks)
unfolding boxes_of
boxes_are case rows n same count =
    ap (λ (bs : List (List (Option PlainBox))). flat_map (lines_by_boxes bs n) (range_with_len 0 (length case.tracks))) same
    ∙ ap (λ (k : ℕ). flat_map (lines_by_boxes all k) (range_with_len 0 (length case.tracks))) count
    ∙ flat_map_numbered (lines_by_boxes all slots) (box_lines case) 0 case.tracks of_object
  where
    slots : ℕ
    slots = slot_count case.first case.last

    all : List (List (Option PlainBox))
    all = map (λ e. map (box_in case e) (slots_of case)) case.tracks

    of_object : (i : ℕ) (e : PlainTrack) → slice_get case.tracks i ≡ Some e → lines_by_boxes all slots (0 + i) ≡ box_lines case (0 + i, e)
    of_object i e is =
        let at : 0 + i ≡ i = omega arith in
        let there : slice_get case.tracks (0 + i) ≡ Some e = subst (λ (k : ℕ). slice_get case.tracks k ≡ Some e) (sym at) is in
        let own : List (Option PlainBox) = map (box_in case e) (slots_of case) in
        let row : row_of all (0 + i) ≡ own =
        get_or_from_slice_get all (0 + i) own []
        (slice_get-map (λ e. map (box_in case e) (slots_of case)) case.tracks (0 + i) ∙ ap (λ (o : Option PlainTrack). option_map (λ e. map (box_in case e) (slots_of case)) o) there) in
        ap (λ (r : List (Option PlainBox)). lines_in_row r slots (0 + i)) row
        ∙ filter_map_same (line_in_row own (0 + i)) (line_in_slot case (0 + i, e)) (slots_of case)
        (Each-range (λ k. line_in_row own (0 + i) k ≡ line_in_slot case (0 + i, e) k) 0 slots (λ k low high.
        let here : reaches_in own k ≡ box_in case e k =
        ap (λ (o : Option (Option PlainBox)). option_and_then (λ b. b) o) (made_in_slot (box_in case e) slots k (omega arith)) in
        ap (λ (o : Option PlainBox). option_map (line_of_box (0 + i) k) o) here))

-- a certificate of a version with these lines
abbrev pub of_lines_in : CertVersion → PlainProblem → ℕ → List SizeOfLine → List ShellLine → List PlainBoxLine → List PlainLeaf → PlainCertificate
of_lines_in version case objects sizes shells boxes cells = record {
  version = version;
  first = case.first;
  last = case.last;
  threshold = case.threshold;
  objects = objects;
  sizes = sizes;
  shells = shells;
  boxes = boxes;
  cells = cells;
}

pub certificate_is : (case : PlainProblem) (objects : ℕ) (sizes : List SizeOfLine) (shells : List ShellLine) (boxes : List PlainBoxLine) (cells : List PlainLeaf)
    → objects ≡ length case.tracks → sizes ≡ []
    → shells ≡ map (shell_line case) (enumerate_from 0 case.tracks) → boxes ≡ flat_map (box_lines case) (enumerate_from 0 case.tracks) → cells ≡ leaves_in_order case
    → of_lines_in One case objects sizes shells boxes cells ≡ written case
unfolding written
certificate_is case objects sizes shells boxes cells p q r s t = λ i. of_lines_in One case (p i) (q i) (r i) (s i) (t i)

-- one line of one slot more
pub single_more : (lines new : List BoxLine) (line : BoxLine) → new ≡ lines ++ line ∷ [] → line.first ≡ line.last → list_all (λ (b : BoxLine). b.first == b.last) lines ≡ true
    → list_all (λ (b : BoxLine). b.first == b.last) new ≡ true
single_more lines new line added one all = subst (λ (ls : List BoxLine). list_all (λ (b : BoxLine). b.first == b.last) ls ≡ true) (sym added) (more lines all)
  where
    more : (ls : List BoxLine) → list_all (λ (b : BoxLine). b.first == b.last) ls ≡ true → list_all (λ (b : BoxLine). b.first == b.last) (ls ++ line ∷ []) ≡ true
    more [] all = let e : eqb line.first line.last ≡ true = eq-eqb line.first line.last one in rw e refl
    more (b ∷ ls) all = let both = and_parts (b.first == b.last) (list_all (λ (b : BoxLine). b.first == b.last) ls) all in let here = both.0 in let rest = more ls both.1 in rw (here, rest) refl
