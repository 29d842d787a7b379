-- How long the text of a certificate may be.
use Rattle.std.proofs.Common.{◌≡◌, ℕ, suc, ◌+◌, ◌*◌, ◌^◌, ◌<◌, ◌≤◌, List, [], ◌∷◌, ◌++◌, length, All}
use Rattle.std.proofs.Common.{Option, Some, None, refl, ap, arith}
use Rattle.std.specs.Prelude.{ℤ, pos, negsuc, unsigned_abs, IfSome, codes, flat_map, get_or, map}
use Rattle.std.specs.Fmt.{signed_decimal}
use Rattle.std.specs.List.{join_with_byte}
use Rattle.std.proofs.lemmas.Fmt.{length-decimal-le}
use Rattle.std.proofs.lemmas.List.{length-append}
use Rattle.std.proofs.lemmas.List.Elements.{All-head, All-tail}
use Rattle.cj_formats.specs.declared.cert_version.CertVersion.{CertVersion}
use Rattle.cj_base.specs.Ticks.{LAST_TICK}
use Rattle.cj_brief.specs.Certificates.{PlainBrief}
use Rattle.cj_formats.specs.Formats.{most_objects_in}
use Rattle.cj_formats.specs.declared.cert_format.CertFormat.TheVariants.{Full, Brief}
use Rattle.cj_formats.specs.declared.cert_version.CertVersion.TheVariants.{One, Two}
use Rattle.cj_formats.specs.Versions.{most_objects, number_of_version}
use Rattle.cj_case.specs.declared.kind.Kind.{Kind}
use Rattle.cj_case.specs.declared.kind.Kind.TheVariants as kinds
use Rattle.cj_case.specs.declared.shells.Shell.{Shell as Radii}
use Rattle.cj_case.specs.Leaves.{PlainLeaf}
use Rattle.cj_bezier.specs.Shells.{MAX_RADIUS}
use Rattle.cj_cert.specs.declared.cert_lines.SizeOfLine.{SizeOfLine}
use Rattle.cj_cert.specs.Certificates.{PlainBoxLine, PlainCertificate}
use Rattle.cj_cert_text.specs.Fits.{Fits, FitsBox, FitsCell, FitsInBrief, FitsSize, IsOfVersion}
use Rattle.cj_cert_text.specs.Lines.{Box, Cell, Objects, Threshold, Window}
use Rattle.cj_cert_text.specs.Texts.{box_text, brief_text, cell_text, ends, first_lines_in, head_text, kind_word, number, row, row_ended}
use Rattle.cj_cert_text.specs.Texts.{primary_text, shell_row, shell_text, size_text, slots, spaced_numbers, text_of}
use Rattle.cj_cert_text.proofs.RowLemmas.{join-ended}
use Rattle.cj_kvn.proofs.TextLemmas.{join-spaced}
use Rattle.cj_cert_text.proofs.AgainLemmas.{numbers_small}
use Rattle.cj_cert_text.proofs.LineLemmas.{FitsSlots, small_version}
use Rattle.cj_cert_text.proofs.WordLemmas.{AreSmall}

-- ---- numbers

number_length : (z : ℤ) → unsigned_abs z < 2 ^ 64 → length (signed_decimal z) ≤ 21
number_length (pos n) small = omega (arith, length-decimal-le 20 n (omega arith) (omega arith) small)
number_length (negsuc n) small = omega (arith, length-decimal-le 20 (suc n) (omega arith) (omega arith) (omega arith))

-- each with a space before it
numbers_length : (zs : List ℤ) → AreSmall zs → length (spaced_numbers zs) ≤ length zs * 22
numbers_length [] small = omega arith
numbers_length (z ∷ zs) small =
    omega (arith, length-append (32 ∷ signed_decimal z) (spaced_numbers zs), number_length z small.0, numbers_length zs small.1)

-- that of an object has four digits at most
four_digits : (v : CertVersion) → most_objects v < 10 ^ 4
four_digits One = omega arith
four_digits Two = omega arith

object_length : (v : CertVersion) (object : ℕ) (zs : List ℤ) → object < most_objects v → length (spaced_numbers (number object ∷ zs)) ≤ 5 + length (spaced_numbers zs)
object_length v object zs few =
    omega (
      arith,
      four_digits v,
      few,
      length-append (32 ∷ signed_decimal (number object)) (spaced_numbers zs),
      length-decimal-le 4 (object + 1) (omega arith) (omega (arith, four_digits v, few)) (omega (arith, four_digits v, few)),
    )

-- ---- lines

row_length : (word : List ℕ) (zs : List ℤ) → length (row word zs) ≡ length word + length (spaced_numbers zs) + 1
unfolding row
row_length word zs =
    omega (
      arith,
      length-append (join_with_byte 32 (word ∷ map signed_decimal zs)) (10 ∷ []),
      ap (λ (t : List ℕ). length t) (join-spaced signed_decimal word zs),
      length-append word (spaced_numbers zs),
    )

row_ended_length : (word last : List ℕ) (zs : List ℤ) → length (row_ended word zs last) ≡ length word + length (spaced_numbers zs) + length last + 2
unfolding row_ended
row_ended_length word last zs =
    omega (
      arith,
      length-append (join_with_byte 32 (word ∷ (map signed_decimal zs ++ last ∷ []))) (10 ∷ []),
      ap (λ (t : List ℕ). length t) (join-ended word zs last),
      length-append word (spaced_numbers zs ++ 32 ∷ last),
      length-append (spaced_numbers zs) (32 ∷ last),
    )

size_length : (v : CertVersion) (s : SizeOfLine) → FitsSize (most_objects v) s → length (size_text s) ≤ 32
size_length v s fits =
    let size : List ℤ = pos s.size ∷ [] in
    omega (
      arith,
      row_length (codes "SIZE") (number s.object ∷ size),
      object_length v s.object size fits.object,
      numbers_length size (omega (arith, fits.size), tt),
    )

shell_length : (v : CertVersion) (object : ℕ) (shell : Option Radii) → object < most_objects v → IfSome shell (λ r. r.lo ≤ r.hi × r.hi ≤ MAX_RADIUS)
    → length (shell_row object shell) ≤ 55
shell_length v object None few radii =
    omega (arith, row_ended_length (codes "SHELL") (codes "NONE") (number object ∷ []), object_length v object [] few)
shell_length v object (Some r) few radii =
    let ends : List ℤ = pos r.lo ∷ pos r.hi ∷ [] in
    omega (
      arith,
      row_length (codes "SHELL") (number object ∷ ends),
      object_length v object ends few,
      numbers_length ends (omega (arith, radii.0, radii.1), (omega (arith, radii.1), tt)),
    )

box_length : (v : CertVersion) (b : PlainBoxLine) → FitsSlots (Full v) b → FitsBox (most_objects v) b → length (box_text v b) ≤ 185
box_length v b same fits =
    let rest = slots v b ++ ends b.area in
    omega (
      arith,
      row_length (codes "BOX") (number b.object ∷ rest),
      object_length v b.object rest fits.object,
      numbers_length rest (numbers_small (Full v) (Box b) (fits, same)).1,
      length-append (slots v b) (ends b.area),
      few v,
    )
  where
    few : (w : CertVersion) → length (slots w b) ≤ 2
    few One = omega arith
    few Two = omega arith

cell_length : (v : CertVersion) (s : PlainLeaf) → FitsCell (most_objects v) s → length (cell_text s) ≤ 61
cell_length v s fits =
    let ticks : List ℤ = pos s.first ∷ pos s.last ∷ [] in
    omega (
      arith,
      row_ended_length (codes "CELL") (kind_word s.kind) (number s.a ∷ number s.b ∷ ticks),
      object_length v s.a (number s.b ∷ ticks) (omega (arith, fits.ordered, fits.objects)),
      object_length v s.b ticks fits.objects,
      numbers_length ticks (numbers_small (Full v) (Cell s) fits).1.1,
      letter s.kind,
    )
  where
    letter : (kind : Kind) → length (kind_word kind) ≡ 1
    letter kinds.Far = refl
    letter kinds.Near = refl
    letter kinds.Undecided = refl

-- ---- texts

-- what is made of lists by parts of no more than so many bytes
parts_length : {X : Type 0} (f : X → List ℕ) (most : ℕ) (xs : List X) → All (λ x. length (f x) ≤ most) xs → length (flat_map f xs) ≤ length xs * most
parts_length f most [] short = omega arith
parts_length f most (x ∷ xs) short =
    omega (
      arith,
      length-append (f x) (flat_map f xs),
      All-head (λ y. length (f y) ≤ most) x xs short,
      parts_length f most xs (All-tail (λ y. length (f y) ≤ most) x xs short),
    )

head_length : (c : PlainCertificate) → Fits c → length (head_text c) ≤ 200
head_length c fits =
    let version : List ℤ = pos (number_of_version c.version) ∷ [] in
    let window : List ℤ = pos c.first ∷ pos c.last ∷ [] in
    let threshold : List ℤ = pos c.threshold ∷ [] in
    let objects : List ℤ = pos c.objects ∷ [] in
    let one = row (codes "CONJ-CERT") version in
    let two = row (codes "WINDOW") window in
    let three = row (codes "THRESHOLD") threshold in
    let four = row (codes "OBJECTS") objects in
    omega (
      arith,
      length-append (one ++ two ++ three) four,
      length-append (one ++ two) three,
      length-append one two,
      row_length (codes "CONJ-CERT") version,
      row_length (codes "WINDOW") window,
      row_length (codes "THRESHOLD") threshold,
      row_length (codes "OBJECTS") objects,
      numbers_length version (omega (arith, small_version (Full c.version)), tt),
      numbers_length window (numbers_small (Full c.version) (Window c.first c.last) (fits.first, fits.last)),
      numbers_length threshold (numbers_small (Full c.version) (Threshold c.threshold) (fits.some, fits.threshold)),
      numbers_length objects (numbers_small (Full c.version) (Objects c.objects) fits.objects),
    )

boxes_length : (v : CertVersion) (sizes : List SizeOfLine) (boxes : List PlainBoxLine) → IsOfVersion v sizes boxes → All (FitsBox (most_objects v)) boxes
    → All (λ b. length (box_text v b) ≤ 185) boxes
boxes_length One sizes boxes first fits k d below = box_length One (get_or boxes k d) (first.1 k d below) (fits k d below)
boxes_length Two sizes boxes second fits k d below = box_length Two (get_or boxes k d) tt (fits k d below)

-- the text of a certificate with no more lines than there are for a case within the limits may be read again
pub text_short : (c : PlainCertificate) → Fits c → length c.sizes ≤ 2000 → length c.shells ≤ 2000 → length c.boxes ≤ 4_000_000 → length c.cells ≤ 4_000_000
    → length (text_of c) ≤ 1_073_741_824
unfolding text_of
text_short c fits few_sizes few_shells few_boxes few_cells =
    let head = head_text c in
    let sizes = flat_map size_text c.sizes in
    let shells = flat_map shell_text c.shells in
    let boxes = flat_map (box_text c.version) c.boxes in
    let cells = flat_map cell_text c.cells in
    let each_shell : All (λ s. length (shell_text s) ≤ 55) c.shells = λ k d below.
    let s = get_or c.shells k d in let own = fits.shells k d below in shell_length c.version s.object s.shell own.object own.radii in
    omega (
      arith,
      few_sizes,
      few_shells,
      few_boxes,
      few_cells,
      head_length c fits,
      parts_length size_text 32 c.sizes (λ k d below. size_length c.version (get_or c.sizes k d) (fits.sizes k d below)),
      parts_length shell_text 55 c.shells each_shell,
      parts_length (box_text c.version) 185 c.boxes (boxes_length c.version c.sizes c.boxes fits.version fits.boxes),
      parts_length cell_text 61 c.cells (λ k d below. cell_length c.version (get_or c.cells k d) (fits.cells k d below)),
      row_length (codes "END") [],
      length-append head sizes,
      length-append (head ++ sizes) shells,
      length-append (head ++ sizes ++ shells) boxes,
      length-append (head ++ sizes ++ shells ++ boxes) cells,
      length-append (head ++ sizes ++ shells ++ boxes ++ cells) (row (codes "END") []),
    )

-- ---- certificates in brief

-- the number of an object has five digits at most
object_in_brief : (object : ℕ) (zs : List ℤ) → object < most_objects_in Brief → length (spaced_numbers (number object ∷ zs)) ≤ 6 + length (spaced_numbers zs)
object_in_brief object zs few =
    omega (
      arith,
      few,
      length-append (32 ∷ signed_decimal (number object)) (spaced_numbers zs),
      length-decimal-le 5 (object + 1) (omega arith) (omega (arith, few)) (omega (arith, few)),
    )

-- a tick has sixteen
tick_length : (m : ℕ) (zs : List ℤ) → m ≤ LAST_TICK → length (spaced_numbers (pos m ∷ zs)) ≤ 17 + length (spaced_numbers zs)
tick_length m zs last =
    omega (
      arith,
      last,
      length-append (32 ∷ signed_decimal (pos m)) (spaced_numbers zs),
      length-decimal-le 16 m (omega arith) (omega (arith, last)) (omega (arith, last)),
    )

size_in_brief : (s : SizeOfLine) → FitsSize (most_objects_in Brief) s → length (size_text s) ≤ 33
size_in_brief s fits =
    let size : List ℤ = pos s.size ∷ [] in
    omega (
      arith,
      row_length (codes "SIZE") (number s.object ∷ size),
      object_in_brief s.object size fits.object,
      numbers_length size (omega (arith, fits.size), tt),
    )

primary_in_brief : (object : ℕ) → object < most_objects_in Brief → length (primary_text object) ≤ 14
primary_in_brief object few = omega (arith, row_length (codes "PRIMARY") (number object ∷ []), object_in_brief object [] few)

shell_in_brief : (object : ℕ) (shell : Option Radii) → object < most_objects_in Brief → IfSome shell (λ r. r.lo ≤ r.hi × r.hi ≤ MAX_RADIUS)
    → length (shell_row object shell) ≤ 56
shell_in_brief object None few radii =
    omega (arith, row_ended_length (codes "SHELL") (codes "NONE") (number object ∷ []), object_in_brief object [] few)
shell_in_brief object (Some r) few radii =
    let ends : List ℤ = pos r.lo ∷ pos r.hi ∷ [] in
    omega (
      arith,
      row_length (codes "SHELL") (number object ∷ ends),
      object_in_brief object ends few,
      numbers_length ends (omega (arith, radii.0, radii.1), (omega (arith, radii.1), tt)),
    )

one_letter : (kind : Kind) → length (kind_word kind) ≡ 1
one_letter kinds.Far = refl
one_letter kinds.Near = refl
one_letter kinds.Undecided = refl

cell_in_brief : (s : PlainLeaf) → FitsCell (most_objects_in Brief) s → length (cell_text s) ≤ 53
cell_in_brief s fits =
    let ticks : List ℤ = pos s.first ∷ pos s.last ∷ [] in
    omega (
      arith,
      row_ended_length (codes "CELL") (kind_word s.kind) (number s.a ∷ number s.b ∷ ticks),
      object_in_brief s.a (number s.b ∷ ticks) (omega (arith, fits.ordered, fits.objects)),
      object_in_brief s.b ticks fits.objects,
      tick_length s.first (pos s.last ∷ []) fits.first.1,
      tick_length s.last [] fits.last.1,
      one_letter s.kind,
    )

head_in_brief : (c : PlainBrief) → FitsInBrief c → length (first_lines_in Brief c.first c.last c.threshold c.objects) ≤ 200
head_in_brief c fits =
    let version : List ℤ = pos 3 ∷ [] in
    let window : List ℤ = pos c.first ∷ pos c.last ∷ [] in
    let threshold : List ℤ = pos c.threshold ∷ [] in
    let objects : List ℤ = pos c.objects ∷ [] in
    let one = row (codes "CONJ-CERT") version in
    let two = row (codes "WINDOW") window in
    let three = row (codes "THRESHOLD") threshold in
    let four = row (codes "OBJECTS") objects in
    omega (
      arith,
      length-append (one ++ two ++ three) four,
      length-append (one ++ two) three,
      length-append one two,
      row_length (codes "CONJ-CERT") version,
      row_length (codes "WINDOW") window,
      row_length (codes "THRESHOLD") threshold,
      row_length (codes "OBJECTS") objects,
      numbers_length version (omega arith, tt),
      numbers_length window (omega (arith, fits.first.1), (omega (arith, fits.last.1), tt)),
      numbers_length threshold (omega (arith, fits.threshold), tt),
      numbers_length objects (omega (arith, fits.objects), tt),
    )

-- how long the text of one is of so many objects and cells
pub brief_length : (objects cells : ℕ) (c : PlainBrief) → FitsInBrief c → length c.sizes ≤ objects → length c.primaries ≤ objects → length c.shells ≤ objects
    → length c.cells ≤ cells → length (brief_text c) ≤ 204 + objects * 103 + cells * 53
unfolding brief_text
brief_length objects cells c fits few_sizes few_primaries few_shells few_cells =
    let head = first_lines_in Brief c.first c.last c.threshold c.objects in
    let sizes = flat_map size_text c.sizes in
    let primaries = flat_map primary_text c.primaries in
    let shells = flat_map shell_text c.shells in
    let told = flat_map cell_text c.cells in
    let each_shell : All (λ s. length (shell_text s) ≤ 56) c.shells = λ k d below.
    let s = get_or c.shells k d in let own = fits.shells k d below in shell_in_brief s.object s.shell own.object own.radii in
    omega (
      arith,
      few_sizes,
      few_primaries,
      few_shells,
      few_cells,
      head_in_brief c fits,
      parts_length size_text 33 c.sizes (λ k d below. size_in_brief (get_or c.sizes k d) (fits.sizes k d below)),
      parts_length primary_text 14 c.primaries (λ k d below. primary_in_brief (get_or c.primaries k d) (fits.primaries k d below)),
      parts_length shell_text 56 c.shells each_shell,
      parts_length cell_text 53 c.cells (λ k d below. cell_in_brief (get_or c.cells k d) (fits.cells k d below)),
      row_length (codes "END") [],
      length-append head sizes,
      length-append (head ++ sizes) primaries,
      length-append (head ++ sizes ++ primaries) shells,
      length-append (head ++ sizes ++ primaries ++ shells) told,
      length-append (head ++ sizes ++ primaries ++ shells ++ told) (row (codes "END") []),
    )
