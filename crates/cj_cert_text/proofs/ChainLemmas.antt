-- The text of a certificate that fits is read as the certificate.
use Rattle.std.proofs.Common.{◌≡◌, ℕ, ◌+◌, ◌<◌, ◌≤◌, List, [], ◌∷◌, ◌++◌, All, map, arith, ap, ap₂, sym, ◌∙◌, refl, subst, true, false, Bool, cond, ℤ, pos, Option}
use Rattle.std.proofs.Common.{Some, None, Result, Ok, Err, length, append_assoc, append-nil}
use Rattle.std.specs.Prelude.{◌==◌, flat_map, codes}
use Rattle.std.specs.List.{join_with_byte, slice_split}
use Rattle.std.specs.Fmt.{decimal}
use Rattle.std.proofs.lemmas.Fmt.{decimal_digit}
use Rattle.std.proofs.lemmas.Grind.{flat_map-append}
use Rattle.std.proofs.lemmas.List.Elements.{All-head, All-nil, All-tail}
use Rattle.std.proofs.lemmas.List.Folds.{flat_map-map}
use Rattle.std.proofs.lemmas.List.Splits.{length-slice_split}
use Rattle.cj_case.specs.Leaves.{PlainLeaf}
use Rattle.cj_cert.specs.declared.cert_lines.ShellLine.{ShellLine}
use Rattle.cj_cert.specs.declared.cert_lines.SizeOfLine.{SizeOfLine}
use Rattle.cj_formats.specs.declared.cert_cause.CertCause.{CertCause}
use Rattle.cj_formats.specs.declared.cert_version.CertVersion.{CertVersion}
use Rattle.cj_formats.specs.declared.cert_format.CertFormat.{CertFormat}
use Rattle.cj_formats.specs.declared.cert_format.CertFormat.TheVariants.{Full, Brief}
use Rattle.cj_formats.specs.declared.cert_version.CertVersion.TheVariants.{One, Two}
use Rattle.cj_formats.specs.Versions.{most_objects, number_of_version}
use Rattle.cj_formats.specs.Formats.{most_objects_in}
use Rattle.cj_formats.specs.declared.cert_cause.CertCause.TheVariants as causes
use Rattle.cj_cert_text.specs.declared.rank.Rank.{Rank}
use Rattle.cj_cert_text.specs.declared.rank.Rank.TheVariants as rank
use Rattle.cj_cert.specs.Certificates.{PlainBoxLine, PlainCertificate}
use Rattle.cj_brief.specs.Certificates.{PlainBrief}
use Rattle.cj_base.specs.Ticks.{IsTick}
use Rattle.cj_cert_text.specs.Fits.{Fits, FitsInBrief, FitsSize, FitsShell, FitsBox, FitsCell, IsOfVersion}
use Rattle.cj_cert_text.specs.Lines.{MAX_THRESHOLD, PlainLine, Heading, Window, Threshold, Objects, Size, Primary, Shell, Box, Cell, End, rank_of, said, said_by, said_in, line_said, where_it_may_stand}
use Rattle.cj_cert_text.specs.Ranks.{has_ended, may_follow}
use Rattle.cj_cert_text.specs.Reading.{Fault, PlainSaid, and_then, at_line, ends_at, in_brief, in_version, lines_said, nothing_said, reading, reading_in_brief, reads_on, version_of, with_line}
use Rattle.cj_cert_text.specs.Texts.{row, size_text, primary_text, shell_text, box_text, cell_text, text_of, brief_text}
use Rattle.cj_cert_text.proofs.AgainLemmas.{line_words, numbers_small, others_last, said_again}
use Rattle.cj_cert_text.proofs.LineLemmas.{FitsLine, numbers_of, others_of, word_of, word_ranks, words_of}
use Rattle.cj_cert_text.proofs.ReadLemmas.{box_text_in, full_text, in_brief_text, line_text, text_in, text_is_told, told}
use Rattle.cj_cert_text.proofs.WordLemmas.{joined_above, joined_again, line_first, words_again}

-- ---- one line

abbrev joined : CertFormat → PlainLine → List ℕ
joined v l = join_with_byte 32 (word_of (rank_of l) ∷ words_of v l)

said_words : (v : CertFormat) (l : PlainLine) → FitsLine v l → said v (rank_of l) (words_of v l) ≡ Ok l
unfolding said
said_words v l fits =
    let w = words_again (numbers_of v l) (others_of l) (numbers_small v l fits) (others_last l) in
    ap₂ (λ (zs : List ℤ) (ws : List (List ℕ)). said_by v (rank_of l) zs ws) w.0 w.1 ∙ said_again v l fits

line_again : (v : CertFormat) (before : Option Rank) (l : PlainLine) → FitsLine v l → has_ended before ≡ false → may_follow (rank_of l) before ≡ true → line_said v before (joined v l) ≡ Ok l
unfolding line_said
line_again v before l fits open_end follows =
    ap (λ (b : Bool). cond b (Err causes.End) (said_in v before (slice_split (λ k. k == 32) (joined v l)))) open_end
    ∙ ap (said_in v before) (joined_again (word_of (rank_of l)) (words_of v l) (line_words v l fits))
    ∙ ap (λ (r : Option Rank). where_it_may_stand v before r (words_of v l)) (word_ranks (rank_of l))
    ∙ ap (λ (b : Bool). cond b (said v (rank_of l) (words_of v l)) (Err causes.Form)) follows
    ∙ said_words v l fits

-- ---- lines in their order

-- lines that fit, each behind the one before, up to the last of all
abbrev AreInOrder : CertFormat → Option Rank → List PlainLine → Type 0
AreInOrder v before [] = has_ended before ≡ true
AreInOrder v before (l ∷ ls) = (has_ended before ≡ false) × (may_follow (rank_of l) before ≡ true) × FitsLine v l × AreInOrder v (Some (rank_of l)) ls

abbrev with_lines : PlainSaid → List PlainLine → PlainSaid
with_lines c [] = c
with_lines c (l ∷ ls) = with_lines (with_line c l) ls

step : (v : CertFormat) (number : ℕ) (before : Option Rank) (c : PlainSaid) (text : List ℕ) (l : PlainLine) (parts : List (List ℕ)) → 0 < length parts → line_said v before text ≡ Ok l
    → reads_on v number before c (text ∷ parts) ≡ reads_on v (number + 1) (Some (rank_of l)) (with_line c l) parts
unfolding reads_on
step v number before c text l [] some is = absurd (omega arith)
step v number before c text l (next ∷ parts) some is =
    ap (λ (x : Result PlainLine CertCause). and_then (at_line number x) (λ k. reads_on v (number + 1) (Some (rank_of k)) (with_line c k) (next ∷ parts))) is

nothing_left : (v : CertFormat) (number : ℕ) (before : Option Rank) (c : PlainSaid) → has_ended before ≡ true → reads_on v number before c ([] ∷ []) ≡ Ok c
unfolding reads_on
nothing_left v number before c ended = ap (λ (b : Bool). cond b (Ok c) (ends_at number)) ended

lines_read : (v : CertFormat) (number : ℕ) (before : Option Rank) (c : PlainSaid) (ls : List PlainLine) → AreInOrder v before ls
    → reads_on v number before c (slice_split (λ b. b == 10) (flat_map (line_text v) ls)) ≡ Ok (with_lines c ls)
lines_read v number before c [] order = nothing_left v number before c order
lines_read v number before c (l ∷ ls) order =
    let rest = flat_map (line_text v) ls in
    let parts = slice_split (λ b. b == 10) rest in
    let some : 0 < length parts = omega (arith, length-slice_split (λ b. b == 10) rest) in
    let is : line_said v before (joined v l) ≡ Ok l = line_again v before l order.2 order.0 order.1 in
    ap (reads_on v number before c) (line_first (joined v l) rest (joined_above (word_of (rank_of l)) (words_of v l) (line_words v l order.2)))
    ∙ step v number before c (joined v l) l parts some is
    ∙ lines_read v (number + 1) (Some (rank_of l)) (with_line c l) ls order.3

-- ---- the lines of a certificate

abbrev last_line : List PlainLine
last_line = End ∷ []

abbrev cell_lines : PlainSaid → List PlainLine
cell_lines c = map Cell c.cells ++ last_line

abbrev box_lines : PlainSaid → List PlainLine
box_lines c = map Box c.boxes ++ cell_lines c

abbrev shell_lines : PlainSaid → List PlainLine
shell_lines c = map Shell c.shells ++ box_lines c

abbrev primary_lines : PlainSaid → List PlainLine
primary_lines c = map Primary c.primaries ++ shell_lines c

abbrev size_lines : PlainSaid → List PlainLine
size_lines c = map Size c.sizes ++ primary_lines c

abbrev lines_of : PlainSaid → List PlainLine
lines_of c = Heading ∷ Window c.first c.last ∷ Threshold c.threshold ∷ Objects c.objects ∷ size_lines c

-- what lines say together
with_sizes : (c : PlainSaid) (xs : List SizeOfLine) (rest : List PlainLine) → with_lines c (map Size xs ++ rest) ≡ with_lines (record c { sizes = c.sizes ++ xs }) rest
with_sizes c [] rest = ap (λ (ys : List SizeOfLine). with_lines (record c { sizes = ys }) rest) (sym (append-nil c.sizes))
with_sizes c (x ∷ xs) rest = with_sizes (record c { sizes = c.sizes ++ x ∷ [] }) xs rest ∙ ap (λ (ys : List SizeOfLine). with_lines (record c { sizes = ys }) rest) (append_assoc c.sizes (x ∷ []) xs)

with_primaries : (c : PlainSaid) (xs : List ℕ) (rest : List PlainLine) → with_lines c (map Primary xs ++ rest) ≡ with_lines (record c { primaries = c.primaries ++ xs }) rest
with_primaries c [] rest = ap (λ (ys : List ℕ). with_lines (record c { primaries = ys }) rest) (sym (append-nil c.primaries))
with_primaries c (x ∷ xs) rest =
    with_primaries (record c { primaries = c.primaries ++ x ∷ [] }) xs rest ∙ ap (λ (ys : List ℕ). with_lines (record c { primaries = ys }) rest) (append_assoc c.primaries (x ∷ []) xs)

with_shells : (c : PlainSaid) (xs : List ShellLine) (rest : List PlainLine) → with_lines c (map Shell xs ++ rest) ≡ with_lines (record c { shells = c.shells ++ xs }) rest
with_shells c [] rest = ap (λ (ys : List ShellLine). with_lines (record c { shells = ys }) rest) (sym (append-nil c.shells))
with_shells c (x ∷ xs) rest =
    with_shells (record c { shells = c.shells ++ x ∷ [] }) xs rest ∙ ap (λ (ys : List ShellLine). with_lines (record c { shells = ys }) rest) (append_assoc c.shells (x ∷ []) xs)

with_boxes : (c : PlainSaid) (xs : List PlainBoxLine) (rest : List PlainLine) → with_lines c (map Box xs ++ rest) ≡ with_lines (record c { boxes = c.boxes ++ xs }) rest
with_boxes c [] rest = ap (λ (ys : List PlainBoxLine). with_lines (record c { boxes = ys }) rest) (sym (append-nil c.boxes))
with_boxes c (x ∷ xs) rest =
    with_boxes (record c { boxes = c.boxes ++ x ∷ [] }) xs rest ∙ ap (λ (ys : List PlainBoxLine). with_lines (record c { boxes = ys }) rest) (append_assoc c.boxes (x ∷ []) xs)

with_cells : (c : PlainSaid) (xs : List PlainLeaf) (rest : List PlainLine) → with_lines c (map Cell xs ++ rest) ≡ with_lines (record c { cells = c.cells ++ xs }) rest
with_cells c [] rest = ap (λ (ys : List PlainLeaf). with_lines (record c { cells = ys }) rest) (sym (append-nil c.cells))
with_cells c (x ∷ xs) rest = with_cells (record c { cells = c.cells ++ x ∷ [] }) xs rest ∙ ap (λ (ys : List PlainLeaf). with_lines (record c { cells = ys }) rest) (append_assoc c.cells (x ∷ []) xs)

lines_together : (c : PlainSaid) → with_lines nothing_said (lines_of c) ≡ c
lines_together c =
    with_sizes (record c { sizes = []; primaries = []; shells = []; boxes = []; cells = [] }) c.sizes (primary_lines c)
    ∙ with_primaries (record c { primaries = []; shells = []; boxes = []; cells = [] }) c.primaries (shell_lines c)
    ∙ with_shells (record c { shells = []; boxes = []; cells = [] }) c.shells (box_lines c)
    ∙ with_boxes (record c { boxes = []; cells = [] }) c.boxes (cell_lines c)
    ∙ with_cells (record c { cells = [] }) c.cells last_line

-- lines of one kind, and then others
more_lines : {A : Type 0} (v : CertFormat) (say : A → PlainLine) (r : Rank) (xs : List A) (rest : List PlainLine) (before : Option Rank) → ((x : A) → rank_of (say x) ≡ r)
    → All (λ x. FitsLine v (say x)) xs
    → may_follow r (Some r) ≡ true → has_ended (Some r) ≡ false → may_follow r before ≡ true → has_ended before ≡ false
    → AreInOrder v before rest → AreInOrder v (Some r) rest → AreInOrder v before (map say xs ++ rest)
more_lines v say r [] rest before kind fits again open_again follows open_end others behind = others
more_lines v say r (x ∷ xs) rest before kind fits again open_again follows open_end others behind = (
  open_end,
  subst (λ k. may_follow k before ≡ true) (sym (kind x)) follows,
  All-head (λ y. FitsLine v (say y)) x xs fits,
  subst (λ k. AreInOrder v (Some k) (map say xs ++ rest)) (sym (kind x))
      (more_lines v say r xs rest (Some r) kind (All-tail (λ y. FitsLine v (say y)) x xs fits) again open_again again open_again behind behind),
)

last_in_order : (v : CertFormat) (r : Rank) → has_ended (Some r) ≡ false → may_follow rank.End (Some r) ≡ true → AreInOrder v (Some r) last_line
last_in_order v r open_end follows = (open_end, follows, tt, refl)

-- what is said fits the ranges of its lines
record AreFitting (v : CertFormat) (c : PlainSaid) : Type 0 where
  first : IsTick c.first
  last : IsTick c.last
  some : 1 ≤ c.threshold
  threshold : c.threshold ≤ MAX_THRESHOLD
  objects : c.objects ≤ most_objects_in v
  sizes : All (λ s. FitsLine v (Size s)) c.sizes
  primaries : All (λ object. FitsLine v (Primary object)) c.primaries
  shells : All (FitsShell (most_objects_in v)) c.shells
  boxes : All (λ b. FitsLine v (Box b)) c.boxes
  cells : All (FitsCell (most_objects_in v)) c.cells

cells_in_order : (v : CertFormat) (c : PlainSaid) (r : Rank) → AreFitting v c → has_ended (Some r) ≡ false → may_follow rank.End (Some r) ≡ true → may_follow rank.Cell (Some r) ≡ true
    → AreInOrder v (Some r) (cell_lines c)
cells_in_order v c r fits open_end ends follows =
    more_lines v Cell rank.Cell c.cells last_line (Some r) (λ x. refl) fits.cells refl refl follows open_end (last_in_order v r open_end ends) (last_in_order v rank.Cell refl refl)

boxes_in_order : (v : CertFormat) (c : PlainSaid) (r : Rank) → AreFitting v c → has_ended (Some r) ≡ false → may_follow rank.End (Some r) ≡ true → may_follow rank.Cell (Some r) ≡ true
    → may_follow rank.Box (Some r) ≡ true → AreInOrder v (Some r) (box_lines c)
boxes_in_order v c r fits open_end ends cells follows =
    more_lines v Box rank.Box c.boxes (cell_lines c) (Some r) (λ x. refl) fits.boxes refl refl follows open_end (cells_in_order v c r fits open_end ends cells)
    (cells_in_order v c rank.Box fits refl refl refl)

shells_in_order : (v : CertFormat) (c : PlainSaid) (r : Rank) → AreFitting v c → has_ended (Some r) ≡ false → may_follow rank.End (Some r) ≡ true → may_follow rank.Cell (Some r) ≡ true
    → may_follow rank.Box (Some r) ≡ true → may_follow rank.Shell (Some r) ≡ true → AreInOrder v (Some r) (shell_lines c)
shells_in_order v c r fits open_end ends cells boxes follows =
    more_lines v Shell rank.Shell c.shells (box_lines c) (Some r) (λ x. refl) fits.shells refl refl follows open_end
    (boxes_in_order v c r fits open_end ends cells boxes) (boxes_in_order v c rank.Shell fits refl refl refl refl)

primaries_in_order : (v : CertFormat) (c : PlainSaid) (r : Rank) → AreFitting v c → has_ended (Some r) ≡ false → may_follow rank.End (Some r) ≡ true → may_follow rank.Cell (Some r) ≡ true
    → may_follow rank.Box (Some r) ≡ true → may_follow rank.Shell (Some r) ≡ true → may_follow rank.Primary (Some r) ≡ true → AreInOrder v (Some r) (primary_lines c)
primaries_in_order v c r fits open_end ends cells boxes shells follows =
    more_lines v Primary rank.Primary c.primaries (shell_lines c) (Some r) (λ x. refl) fits.primaries refl refl follows open_end
    (shells_in_order v c r fits open_end ends cells boxes shells) (shells_in_order v c rank.Primary fits refl refl refl refl refl)

lines_in_order : (v : CertFormat) (c : PlainSaid) → AreFitting v c → AreInOrder v None (lines_of c)
lines_in_order v c fits = (
  refl,
  refl,
  tt,
  (
    refl,
    refl,
    (fits.first, fits.last),
    (
      refl,
      refl,
      (fits.some, fits.threshold),
      (
        refl,
        refl,
        fits.objects,
        more_lines v Size rank.Size c.sizes (primary_lines c) (Some rank.Objects) (λ x. refl) fits.sizes refl refl refl refl
            (primaries_in_order v c rank.Objects fits refl refl refl refl refl refl) (primaries_in_order v c rank.Size fits refl refl refl refl refl refl),
      ),
    ),
  ),
)

-- the text of a certificate is the text of its lines
told_lines : (v : CertFormat) (ls : List PlainLine) → flat_map (line_text v) ls ≡ flat_map (told v) ls
told_lines v [] = refl
told_lines v (l ∷ ls) = ap₂ (λ (t u : List ℕ). t ++ u) (text_is_told v l) (told_lines v ls)

told_kind : {A : Type 0} (v : CertFormat) (say : A → PlainLine) (xs : List A) (rest : List PlainLine) → flat_map (told v) (map say xs ++ rest) ≡ flat_map (λ x. told v (say x)) xs ++ flat_map (told v) rest
told_kind v say xs rest = flat_map-append (told v) (map say xs) rest ∙ ap (λ (t : List ℕ). t ++ flat_map (told v) rest) (flat_map-map (told v) say xs)

told_all : (v : CertFormat) (c : PlainSaid) → flat_map (told v) (lines_of c) ≡ text_in v c
told_all v c =
    let e = told_kind v Cell c.cells last_line ∙ ap (λ (t : List ℕ). flat_map cell_text c.cells ++ t) (append-nil (row (codes "END") [])) in
    let d = told_kind v Box c.boxes (cell_lines c) ∙ ap (λ (t : List ℕ). flat_map (box_text_in v) c.boxes ++ t) e in
    let b = told_kind v Shell c.shells (box_lines c) ∙ ap (λ (t : List ℕ). flat_map shell_text c.shells ++ t) d in
    let p = told_kind v Primary c.primaries (shell_lines c) ∙ ap (λ (t : List ℕ). flat_map primary_text c.primaries ++ t) b in
    let a = told_kind v Size c.sizes (primary_lines c) ∙ ap (λ (t : List ℕ). flat_map size_text c.sizes ++ t) p in
    ap (λ (t : List ℕ). told v Heading ++ (told v (Window c.first c.last) ++ (told v (Threshold c.threshold) ++ (told v (Objects c.objects) ++ t)))) a
    ∙ regroup (told v Heading) (told v (Window c.first c.last)) (told v (Threshold c.threshold)) (told v (Objects c.objects))
    (flat_map size_text c.sizes) (flat_map primary_text c.primaries) (flat_map shell_text c.shells) (flat_map (box_text_in v) c.boxes) (flat_map cell_text c.cells) (row (codes "END") [])
  where
    regroup : (p q r s t u w x y z : List ℕ) → p ++ (q ++ (r ++ (s ++ (t ++ (u ++ (w ++ (x ++ (y ++ z)))))))) ≡ p ++ q ++ r ++ s ++ t ++ u ++ w ++ x ++ y ++ z
    regroup p q r s t u w x y z = simp append_assoc

-- the lines of what fits are read as it
lines_said_again : (v : CertFormat) (c : PlainSaid) → AreFitting v c → lines_said v (text_in v c) ≡ Ok c
unfolding lines_said
lines_said_again v c fits =
    ap (λ (t : List ℕ). reads_on v 1 None nothing_said (slice_split (λ b. b == 10) t)) (sym (told_lines v (lines_of c) ∙ told_all v c))
    ∙ lines_read v 1 None nothing_said (lines_of c) (lines_in_order v c fits)
    ∙ ap (λ (x : PlainSaid). Ok x) (lines_together c)

-- ---- the version

version_text : (c : PlainCertificate) → version_of (text_of c) ≡ c.version
unfolding text_of row
version_text c = by c.version
  where
    version_by : List ℕ → CertVersion
    version_by digits = version_of (
        ((codes "CONJ-CERT" ++ 32 ∷ digits) ++ 10 ∷ []) ++ row (codes "WINDOW") (pos c.first ∷ pos c.last ∷ []) ++ row (codes "THRESHOLD") (pos c.threshold ∷ []) ++ row
        (codes "OBJECTS") (pos c.objects ∷ [])
        ++ flat_map size_text c.sizes ++ flat_map shell_text c.shells ++ flat_map (box_text c.version) c.boxes ++ flat_map cell_text c.cells ++ row (codes "END") []
        )

    by : (v : CertVersion) → version_by (decimal (number_of_version v)) ≡ v
    by One = ap version_by (decimal_digit 1 (omega arith))
    by Two = ap version_by (decimal_digit 2 (omega arith))

-- the text of a certificate that fits is read as it
abbrev said_in_full : PlainCertificate → PlainSaid
said_in_full c = record {
  first = c.first;
  last = c.last;
  threshold = c.threshold;
  objects = c.objects;
  sizes = c.sizes;
  primaries = [];
  shells = c.shells;
  boxes = c.boxes;
  cells = c.cells;
}

-- what the version says of sizes and boxes
sizes_of_version : (version : CertVersion) (xs : List SizeOfLine) (boxes : List PlainBoxLine) → IsOfVersion version xs boxes → All (FitsSize (most_objects version)) xs
    → All (λ s. FitsLine (Full version) (Size s)) xs
sizes_of_version One xs boxes first fits = λ k d less. absurd (let none : length xs ≡ 0 = ap length first.0 in omega arith)
sizes_of_version Two xs boxes second fits = fits

boxes_of_version : (version : CertVersion) (xs : List SizeOfLine) (boxes : List PlainBoxLine) → IsOfVersion version xs boxes → All (FitsBox (most_objects version)) boxes
    → All (λ b. FitsLine (Full version) (Box b)) boxes
boxes_of_version One xs boxes first fits = λ k d less. (fits k d less, first.1 k d less)
boxes_of_version Two xs boxes second fits = λ k d less. (fits k d less, tt)

full_fitting : (c : PlainCertificate) → Fits c → AreFitting (Full c.version) (said_in_full c)
full_fitting c fits = record {
  first = fits.first;
  last = fits.last;
  some = fits.some;
  threshold = fits.threshold;
  objects = fits.objects;
  sizes = sizes_of_version c.version c.sizes c.boxes fits.version fits.sizes;
  primaries = All-nil (λ (object : ℕ). FitsLine (Full c.version) (Primary object));
  shells = fits.shells;
  boxes = boxes_of_version c.version c.sizes c.boxes fits.version fits.boxes;
  cells = fits.cells;
}

full_again : (c : PlainCertificate) → Fits c → lines_said (Full c.version) (text_of c) ≡ Ok (said_in_full c)
full_again c fits =
    ap (lines_said (Full c.version)) (sym (full_text c.version (said_in_full c) refl))
    ∙ lines_said_again (Full c.version) (said_in_full c) (full_fitting c fits)

pub reading_again : (c : PlainCertificate) → Fits c → reading (text_of c) ≡ Ok c
unfolding reading
reading_again c fits =
    ap (λ (k : CertVersion). and_then (lines_said (Full k) (text_of c)) (λ s. Ok (in_version k s))) (version_text c)
    ∙ ap (λ (r : Result PlainSaid Fault). and_then r (λ s. Ok (in_version c.version s))) (full_again c fits)

-- ---- in brief

abbrev said_in_brief : PlainBrief → PlainSaid
said_in_brief c = record {
  first = c.first;
  last = c.last;
  threshold = c.threshold;
  objects = c.objects;
  sizes = c.sizes;
  primaries = c.primaries;
  shells = c.shells;
  boxes = [];
  cells = c.cells;
}

brief_fitting : (c : PlainBrief) → FitsInBrief c → AreFitting Brief (said_in_brief c)
brief_fitting c fits = record {
  first = fits.first;
  last = fits.last;
  some = fits.some;
  threshold = fits.threshold;
  objects = fits.objects;
  sizes = fits.sizes;
  primaries = fits.primaries;
  shells = fits.shells;
  boxes = All-nil (λ (b : PlainBoxLine). FitsLine Brief (Box b));
  cells = fits.cells;
}

-- the text of a certificate in brief that fits is read as it
pub brief_again : (c : PlainBrief) → FitsInBrief c → reading_in_brief (brief_text c) ≡ Ok c
unfolding reading_in_brief
brief_again c fits =
    let same : brief_text c ≡ text_in Brief (said_in_brief c) = sym (in_brief_text (said_in_brief c) refl) in
    ap (λ (t : List ℕ). and_then (lines_said Brief t) (λ s. Ok (in_brief s))) same
    ∙ ap (λ (r : Result PlainSaid Fault). and_then r (λ s. Ok (in_brief s))) (lines_said_again Brief (said_in_brief c) (brief_fitting c fits))
