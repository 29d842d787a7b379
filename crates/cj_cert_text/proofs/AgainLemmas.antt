-- The words of a line that fits say the line again.
use Rattle.std.proofs.Common.{◌≡◌, ℕ, ◌-◌, ◌^◌, ◌<◌, ◌≤◌, [], ◌∷◌, ◌++◌, arith, ap, ap₂, sym, ◌∙◌, refl, true, Bool, pos, Option, Some, None, Ok}
use Rattle.std.specs.Prelude.{◌&&◌, codes, int_le, int_lt}
use Rattle.std.proofs.lemmas.Bool.{and_from}
use Rattle.std.proofs.lemmas.Int.{ints}
use Rattle.cj_base.specs.Ticks.{FIRST_TICK, LAST_TICK}
use Rattle.cj_case.specs.declared.kind.Kind.{Kind}
use Rattle.cj_case.specs.declared.kind.Kind.TheVariants as kinds
use Rattle.cj_case.specs.declared.shells.Shell.{Shell as Radii}
use Rattle.cj_case.specs.Leaves.{PlainLeaf}
use Rattle.cj_bezier.specs.Shells.{MAX_RADIUS}
use Rattle.cj_cert.specs.declared.cert_lines.SizeOfLine.{SizeOfLine}
use Rattle.cj_formats.specs.declared.cert_format.CertFormat.{CertFormat}
use Rattle.cj_formats.specs.declared.cert_format.CertFormat.TheVariants.{Full, Brief}
use Rattle.cj_formats.specs.declared.cert_version.CertVersion.TheVariants.{One, Two}
use Rattle.cj_formats.specs.Formats.{most_objects_in, number_of_format}
use Rattle.cj_cert_text.specs.declared.rank.Rank.{Rank}
use Rattle.cj_cert_text.specs.declared.rank.Rank.TheVariants as rank
use Rattle.cj_cert.specs.Certificates.{PlainBoxLine}
use Rattle.cj_cert_text.specs.Fits.{FitsSize, FitsShell, FitsBox, FitsCell}
use Rattle.cj_cert_text.specs.Lines as spec
use Rattle.cj_cert_text.specs.Lines.{PlainLine, Heading, Window, Threshold, Objects, Size, Primary, Shell, Box, Cell, End, rank_of, said_by, in_range, is_from, is_tick, is_object}
use Rattle.cj_case.specs.CaseLimits.{MAX_SIZE}
use Rattle.cj_cert_text.specs.Lines.{is_radius, MAX_THRESHOLD}
use Rattle.cj_cert_text.specs.Readers.{HasNoNumber}
use Rattle.cj_cert_text.specs.Texts.{number, ends, kind_word}
use Rattle.cj_cert_text.proofs.WordLemmas.{AreAbove, AreSmall, AreWords, texts_words, nothing_first, other_first}
use Rattle.cj_cert_text.proofs.LineLemmas.{FitsLine, FitsPrimaryIn, FitsSizeIn, FitsSlots, numbers_of, slots_in, others_of, word_of, words_of, into_range, is_object_of, object_back, le_of, small_coordinate, small_objects, small_version, reach_parts, box_test}

in_range_of : (b : Bool) (line l : PlainLine) → b ≡ true → line ≡ l → in_range b line ≡ Ok l
in_range_of b line l is same = ap (λ (t : Bool). in_range t line) is ∙ ap (λ (k : PlainLine). Ok k) same

heading_again : (v : CertFormat) → spec.heading v (pos (number_of_format v) ∷ []) ≡ Ok Heading
heading_again v = let same = le_of (number_of_format v) (number_of_format v) (omega arith) in rw same refl

size_of_again : (v : CertFormat) (s : SizeOfLine) → FitsSize (most_objects_in v) s → spec.size_of v (number s.object ∷ pos s.size ∷ []) ≡ Ok (Size s)
size_of_again v s fits =
    in_range_of (is_object v (number s.object) && is_from 0 MAX_SIZE (pos s.size)) _ (Size s)
    (and_from _ _ (is_object_of v s.object fits.object) (into_range 0 MAX_SIZE s.size (omega arith) fits.size))
    (ap (λ (o : ℕ). Size (record { object = o; size = s.size })) (object_back s.object))

size_again : (v : CertFormat) (s : SizeOfLine) → FitsSizeIn v s → spec.size v (number s.object ∷ pos s.size ∷ []) ≡ Ok (Size s)
size_again (Full One) s fits = absurd fits
size_again (Full Two) s fits = size_of_again (Full Two) s fits
size_again Brief s fits = size_of_again Brief s fits

primary_again : (v : CertFormat) (object : ℕ) → FitsPrimaryIn v object → spec.primary v (number object ∷ []) ≡ Ok (Primary object)
primary_again (Full version) object fits = absurd fits
primary_again Brief object fits =
    in_range_of (is_object Brief (number object)) _ _ (is_object_of Brief object fits) (ap (λ (o : ℕ). Primary o) (object_back object))

radii_again : (v : CertFormat) (o lo hi : ℕ) → o < most_objects_in v → lo ≤ hi → hi ≤ MAX_RADIUS → spec.shell v (number o ∷ pos lo ∷ pos hi ∷ []) ≡ Ok (Shell (record {
  object =
      o;
  shell = Some (record { lo = lo; hi = hi });
}))
radii_again v o lo hi object ordered most =
    in_range_of (is_object v (number o) && is_radius (pos lo) && is_radius (pos hi) && int_le (pos lo) (pos hi)) _ _
    (and_from _ _ (and_from _ _ (and_from _ _ (is_object_of v o object) (into_range 0 MAX_RADIUS lo (omega arith) (omega arith))) (into_range 0 MAX_RADIUS hi (omega arith) most)) (le_of lo hi ordered))
    (ap (λ (n : ℕ). Shell (record { object = n; shell = Some (record { lo = lo; hi = hi }) })) (object_back o))

no_shell_again : (v : CertFormat) (o : ℕ) → o < most_objects_in v → spec.no_shell v (number o ∷ []) (codes "NONE" ∷ []) ≡ Ok (Shell (record { object = o; shell = None }))
no_shell_again v o object = in_range_of (is_object v (number o)) _ _ (is_object_of v o object) (ap (λ (n : ℕ). Shell (record { object = n; shell = None })) (object_back o))

shell_again : (v : CertFormat) (o : ℕ) (shell : Option Radii) → FitsShell (most_objects_in v) (record {
  object =
      o;
  shell = shell;
}) → said_by v rank.Shell (numbers_of v (Shell (record { object = o; shell = shell }))) (others_of (Shell
    (record { object = o; shell = shell }))) ≡ Ok (Shell (record { object = o; shell = shell }))
shell_again v o None fits = no_shell_again v o fits.object
shell_again v o (Some r) fits = radii_again v o r.lo r.hi fits.object fits.radii.0 fits.radii.1

box_of_again : (v : CertFormat) (b : PlainBoxLine) → FitsBox (most_objects_in v) b → spec.box_of v (number b.object) (pos b.first) (pos b.last) (ends b.area) ≡ Ok (Box b)
box_of_again v b fits =
    in_range_of (box_test v (number b.object) (pos b.first) (pos b.last) b.area.x.least b.area.x.most b.area.y.least b.area.y.most b.area.z.least b.area.z.most) _ (Box b)
    (and_from _ _ (and_from _ _ (and_from _ _ (and_from _ _ (and_from _ _ (and_from _ _
    (is_object_of v b.object fits.object)
    (into_range 0 (2 ^ 32 - 1) b.first (omega arith) (omega (arith, fits.some, fits.last))))
    (into_range 0 (2 ^ 32 - 1) b.last (omega arith) (omega (arith, fits.last))))
    (le_of b.first b.last fits.some))
    fits.x) fits.y) fits.z)
    (ap (λ (o : ℕ). Box (record { object = o; first = b.first; last = b.last; area = b.area })) (object_back b.object))

box_again : (v : CertFormat) (b : PlainBoxLine) → FitsSlots v b → FitsBox (most_objects_in v) b → spec.box v (number b.object ∷ (slots_in v b ++ ends b.area)) ≡ Ok (Box b)
box_again (Full One) b same fits = ap (λ (n : ℕ). spec.box_of (Full One) (number b.object) (pos b.first) (pos n) (ends b.area)) same ∙ box_of_again (Full One) b fits
box_again (Full Two) b same fits = box_of_again (Full Two) b fits
box_again Brief b none fits = absurd none

cell_again : (v : CertFormat) (s : PlainLeaf) (kind : Kind) → s.kind ≡ kind → FitsCell (most_objects_in v) s → spec.cell v (numbers_of v (Cell s)) (spec.kind_of (kind_word kind ∷ [])) ≡ Ok (Cell s)
cell_again v s kind same fits = ap (spec.cell v (numbers_of v (Cell s))) (known kind) ∙ in_range_of _ _ (Cell s)
    (and_from _ _ (and_from _ _ (and_from _ _ (and_from _ _ (and_from _ _
    (is_object_of v s.a (omega (arith, fits.ordered, fits.objects)))
    (is_object_of v s.b fits.objects))
    (let less = fits.ordered in lower s.a s.b less))
    (into_range FIRST_TICK LAST_TICK s.first fits.first.0 fits.first.1))
    (into_range FIRST_TICK LAST_TICK s.last fits.last.0 fits.last.1))
    (le_of s.first s.last fits.some))
    (ap₂ (λ (a b : ℕ). Cell (record { a = a; b = b; first = s.first; last = s.last; kind = kind })) (object_back s.a) (object_back s.b)
    ∙ ap (λ (k : Kind). Cell (record { a = s.a; b = s.b; first = s.first; last = s.last; kind = k })) (sym same))
  where
    known : (k : Kind) → spec.kind_of (kind_word k ∷ []) ≡ Some k
    known kinds.Far = refl
    known kinds.Near = refl
    known kinds.Undecided = refl

    lower : (a b : ℕ) → a < b → int_lt (number a) (number b) ≡ true
    lower a b less = grind (arith, ints)

pub said_again : (v : CertFormat) (l : PlainLine) → FitsLine v l → said_by v (rank_of l) (numbers_of v l) (others_of l) ≡ Ok l
said_again v Heading fits = heading_again v
said_again v (Window first last) fits =
    in_range_of (is_tick (pos first) && is_tick (pos last)) _ _ (and_from _ _ (into_range FIRST_TICK LAST_TICK first fits.0.0 fits.0.1) (into_range FIRST_TICK LAST_TICK last fits.1.0 fits.1.1)) refl
said_again v (Threshold threshold) fits = in_range_of (is_from 1 MAX_THRESHOLD (pos threshold)) _ _ (into_range 1 MAX_THRESHOLD threshold fits.0 fits.1) refl
said_again v (Objects count) fits = in_range_of (is_from 0 (most_objects_in v) (pos count)) _ _ (into_range 0 (most_objects_in v) count (omega arith) fits) refl
said_again v (Size s) fits = size_again v s fits
said_again v (Primary object) fits = primary_again v object fits
said_again v (Shell s) fits = shell_again v s.object s.shell fits
said_again v (Box b) fits = box_again v b fits.1 fits.0
said_again v (Cell s) fits = cell_again v s s.kind refl fits
said_again v End fits = refl

-- ---- the numbers and words of a line that fits

tick_small : (n : ℕ) → n ≤ LAST_TICK → n < 2 ^ 64
tick_small n most = omega arith

shell_small : (v : CertFormat) (o : ℕ) (shell : Option Radii) → FitsShell (most_objects_in v) (record { object = o; shell = shell }) → AreSmall (numbers_of v (Shell (record { object = o; shell = shell })))
shell_small v o None fits = (omega (arith, small_objects v, fits.object), tt)
shell_small v o (Some r) fits = (omega (arith, small_objects v, fits.object), (omega (arith, fits.radii.0, fits.radii.1), (omega (arith, fits.radii.0, fits.radii.1), tt)))

ends_small : (v : CertFormat) (b : PlainBoxLine) → FitsBox (most_objects_in v) b → AreSmall (ends b.area)
ends_small v b fits =
    let x = reach_parts b.area.x.least b.area.x.most fits.x in
    let y = reach_parts b.area.y.least b.area.y.most fits.y in
    let z = reach_parts b.area.z.least b.area.z.most fits.z in (
      small_coordinate b.area.x.least x.low,
      (
        small_coordinate b.area.x.most x.high,
        (
          small_coordinate b.area.y.least y.low,
          (small_coordinate b.area.y.most y.high, (small_coordinate b.area.z.least z.low, (small_coordinate b.area.z.most z.high, tt))),
        ),
      ),
    )

slots_small : (v : CertFormat) (b : PlainBoxLine) → FitsBox (most_objects_in v) b → AreSmall (ends b.area) → AreSmall (slots_in v b ++ ends b.area)
slots_small (Full One) b fits rest = (omega (arith, fits.some, fits.last), rest)
slots_small (Full Two) b fits rest = (omega (arith, fits.some, fits.last), (omega (arith, fits.last), rest))
slots_small Brief b fits rest = rest

size_small : (v : CertFormat) (s : SizeOfLine) → FitsSizeIn v s → AreSmall (numbers_of v (Size s))
size_small (Full One) s fits = absurd fits
size_small (Full Two) s fits = (omega (arith, fits.object), (omega (arith, fits.size), tt))
size_small Brief s fits = (omega (arith, fits.object), (omega (arith, fits.size), tt))

primary_small : (v : CertFormat) (object : ℕ) → FitsPrimaryIn v object → AreSmall (numbers_of v (Primary object))
primary_small (Full version) object fits = absurd fits
primary_small Brief object fits = (omega (arith, fits), tt)

pub numbers_small : (v : CertFormat) (l : PlainLine) → FitsLine v l → AreSmall (numbers_of v l)
numbers_small v Heading fits = (omega (arith, small_version v), tt)
numbers_small v (Window first last) fits = (tick_small first fits.0.1, (tick_small last fits.1.1, tt))
numbers_small v (Threshold threshold) fits = (omega (arith, fits.1), tt)
numbers_small v (Objects count) fits = (omega (arith, small_objects v, fits), tt)
numbers_small v (Size s) fits = size_small v s fits
numbers_small v (Primary object) fits = primary_small v object fits
numbers_small v (Shell s) fits = shell_small v s.object s.shell fits
numbers_small v (Box b) fits = (omega (arith, small_objects v, fits.0.object), slots_small v b fits.0 (ends_small v b fits.0))
numbers_small v (Cell s) fits =
    (omega (arith, small_objects v, fits.ordered, fits.objects), (omega (arith, small_objects v, fits.objects), (tick_small s.first fits.first.1, (tick_small s.last fits.last.1, tt))))
numbers_small v End fits = tt

kind_other : (kind : Kind) → HasNoNumber (kind_word kind ∷ [])
kind_other kinds.Far = other_first (codes "F") [] refl
kind_other kinds.Near = other_first (codes "N") [] refl
kind_other kinds.Undecided = other_first (codes "U") [] refl

shell_other : (o : ℕ) (shell : Option Radii) → HasNoNumber (others_of (Shell (record { object = o; shell = shell })))
shell_other o None = other_first (codes "NONE") [] refl
shell_other o (Some r) = nothing_first

pub others_last : (l : PlainLine) → HasNoNumber (others_of l)
others_last Heading = nothing_first
others_last (Window first last) = nothing_first
others_last (Threshold threshold) = nothing_first
others_last (Objects count) = nothing_first
others_last (Size s) = nothing_first
others_last (Primary object) = nothing_first
others_last (Shell s) = shell_other s.object s.shell
others_last (Box b) = nothing_first
others_last (Cell s) = kind_other s.kind
others_last End = nothing_first

kind_above : (kind : Kind) → AreAbove 32 (kind_word kind)
kind_above kinds.Far = omega arith
kind_above kinds.Near = omega arith
kind_above kinds.Undecided = omega arith

shell_words : (shell : Option Radii) → AreWords (others_of (Shell (record { object = 0; shell = shell })))
shell_words None = omega arith
shell_words (Some r) = tt

others_words : (l : PlainLine) → AreWords (others_of l)
others_words Heading = tt
others_words (Window first last) = tt
others_words (Threshold threshold) = tt
others_words (Objects count) = tt
others_words (Size s) = tt
others_words (Primary object) = tt
others_words (Shell s) = shell_words s.shell
others_words (Box b) = tt
others_words (Cell s) = (kind_above s.kind, tt)
others_words End = tt

word_above : (r : Rank) → AreAbove 32 (word_of r)
word_above rank.Heading = omega arith
word_above rank.Window = omega arith
word_above rank.Threshold = omega arith
word_above rank.Objects = omega arith
word_above rank.Size = omega arith
word_above rank.Primary = omega arith
word_above rank.Shell = omega arith
word_above rank.Box = omega arith
word_above rank.Cell = omega arith
word_above rank.End = omega arith

pub line_words : (v : CertFormat) (l : PlainLine) → FitsLine v l → AreWords (word_of (rank_of l) ∷ words_of v l)
line_words v l fits = (word_above (rank_of l), texts_words (numbers_of v l) (others_of l) (numbers_small v l fits) (others_words l))
