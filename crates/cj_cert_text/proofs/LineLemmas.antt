-- What a line says, and the line that says it.
use Rattle.std.proofs.Common.{◌≡◌, ℕ, ◌+◌, ◌-◌, ◌^◌, ◌<◌, ◌≤◌, List, [], ◌∷◌, ◌++◌, arith, ap, ap₂, sym, ◌∙◌, refl, subst, true, false, Bool, cond, ℤ, pos, negsuc, Option, Some}
use Rattle.std.proofs.Common.{None, Result, Ok, Err}
use Rattle.std.specs.Prelude.{◌&&◌, unsigned_abs, codes, int_le, int_lt, neg_ℤ}
use Rattle.std.specs.Str.{bytes_eq}
use Rattle.std.proofs.lemmas.Bool.{and_parts, le-leb, leb-true}
use Rattle.std.proofs.lemmas.Int.{ints}
use Rattle.std.proofs.lemmas.Slice.Eq.{bytes_eq-Decides}
use Rattle.cj_base.specs.Ticks.{IsTick, FIRST_TICK, LAST_TICK}
use Rattle.cj_case.specs.declared.kind.Kind.{Kind}
use Rattle.cj_case.specs.declared.kind.Kind.TheVariants as kinds
use Rattle.cj_case.specs.declared.shells.Shell.{Shell as Radii}
use Rattle.cj_case.specs.Leaves.{PlainLeaf}
use Rattle.cj_bezier.specs.Shells.{MAX_RADIUS}
use Rattle.cj_cert.specs.declared.cert_lines.ShellLine.{ShellLine}
use Rattle.cj_cert.specs.declared.cert_lines.SizeOfLine.{SizeOfLine}
use Rattle.cj_formats.specs.declared.cert_cause.CertCause.{CertCause}
use Rattle.cj_formats.specs.declared.cert_version.CertVersion.TheVariants.{One, Two}
use Rattle.cj_formats.specs.declared.cert_format.CertFormat.{CertFormat}
use Rattle.cj_formats.specs.declared.cert_format.CertFormat.TheVariants.{Full, Brief}
use Rattle.cj_formats.specs.Formats.{most_objects_in, number_of_format}
use Rattle.cj_cert_text.specs.declared.rank.Rank.{Rank}
use Rattle.cj_cert_text.specs.declared.rank.Rank.TheVariants as rank
use Rattle.cj_cert.specs.Certificates.{PlainBoxLine}
use Rattle.cj_cert_text.specs.Fits.{FitsSize, FitsShell, FitsBox, FitsCell}
use Rattle.cj_cert_text.specs.Lines as spec
use Rattle.cj_cert_text.specs.Lines.{PlainLine, Heading, Window, Threshold, Objects, Size, Primary, Shell, Box, Cell, End, rank_of, said_by, in_range, is_from, is_tick, is_object, is_slot}
use Rattle.cj_case.specs.CaseLimits.{MAX_SIZE}
use Rattle.cj_cert_text.specs.Lines.{is_radius, is_coordinate, is_reach, object_of, MAX_THRESHOLD}
use Rattle.cj_cert_text.specs.Ranks.{rank_of_word}
use Rattle.cj_cert_text.specs.Texts.{number, slots, ends, kind_word}
use Rattle.cj_cert_text.proofs.WordLemmas.{texts}

-- ---- first words

abbrev pub word_of : Rank → List ℕ
word_of rank.Heading = codes "CONJ-CERT"
word_of rank.Window = codes "WINDOW"
word_of rank.Threshold = codes "THRESHOLD"
word_of rank.Objects = codes "OBJECTS"
word_of rank.Size = codes "SIZE"
word_of rank.Primary = codes "PRIMARY"
word_of rank.Shell = codes "SHELL"
word_of rank.Box = codes "BOX"
word_of rank.Cell = codes "CELL"
word_of rank.End = codes "END"

pub word_ranks : (r : Rank) → rank_of_word (word_of r) ≡ Some r
unfolding rank_of_word
word_ranks rank.Heading = refl
word_ranks rank.Window = refl
word_ranks rank.Threshold = refl
word_ranks rank.Objects = refl
word_ranks rank.Size = refl
word_ranks rank.Primary = refl
word_ranks rank.Shell = refl
word_ranks rank.Box = refl
word_ranks rank.Cell = refl
word_ranks rank.End = refl

same_rank : (r s : Rank) → Some r ≡ Some s → r ≡ s
same_rank r s h = cc

-- a word is that of the kind, or the others decide
one_of : (w : List ℕ) (r s : Rank) (more : Option Rank) → (more ≡ Some s → w ≡ word_of s) → (b : Bool) → bytes_eq w (word_of r) ≡ b → cond b (Some r) more ≡ Some s → w ≡ word_of s
one_of w r s more rest true e h = (bytes_eq-Decides w (word_of r)).0 e ∙ ap word_of (same_rank r s h)
one_of w r s more rest false e h = rest h

pub rank_word : (w : List ℕ) (s : Rank) → rank_of_word w ≡ Some s → w ≡ word_of s
unfolding rank_of_word
rank_word w s h =
    one_of w rank.Cell s _ (
    one_of w rank.Box s _ (
    one_of w rank.Shell s _ (
    one_of w rank.Size s _ (
    one_of w rank.Primary s _ (
    one_of w rank.Heading s _ (
    one_of w rank.Window s _ (
    one_of w rank.Threshold s _ (
    one_of w rank.Objects s _ (one_of w rank.End s None (λ none. absurd cc) (bytes_eq w (codes "END")) refl) (bytes_eq w (codes "OBJECTS")) refl
    ) (bytes_eq w (codes "THRESHOLD")) refl
    ) (bytes_eq w (codes "WINDOW")) refl
    ) (bytes_eq w (codes "CONJ-CERT")) refl
    ) (bytes_eq w (codes "PRIMARY")) refl
    ) (bytes_eq w (codes "SIZE")) refl
    ) (bytes_eq w (codes "SHELL")) refl
    ) (bytes_eq w (codes "BOX")) refl
    ) (bytes_eq w (codes "CELL")) refl h

-- ---- the numbers and the other words of a line

abbrev pub shell_numbers : ℕ → Option Radii → List ℤ
shell_numbers object None = number object ∷ []
shell_numbers object (Some r) = number object ∷ pos r.lo ∷ pos r.hi ∷ []

-- the slots of a box; in brief there is none
abbrev pub slots_in : CertFormat → PlainBoxLine → List ℤ
slots_in (Full version) b = slots version b
slots_in Brief b = []

abbrev pub numbers_of : CertFormat → PlainLine → List ℤ
numbers_of f Heading = pos (number_of_format f) ∷ []
numbers_of f (Window first last) = pos first ∷ pos last ∷ []
numbers_of f (Threshold threshold) = pos threshold ∷ []
numbers_of f (Objects count) = pos count ∷ []
numbers_of f (Size s) = number s.object ∷ pos s.size ∷ []
numbers_of f (Primary object) = number object ∷ []
numbers_of f (Shell s) = shell_numbers s.object s.shell
numbers_of f (Box b) = number b.object ∷ (slots_in f b ++ ends b.area)
numbers_of f (Cell s) = number s.a ∷ number s.b ∷ pos s.first ∷ pos s.last ∷ []
numbers_of f End = []

abbrev pub shell_others : Option Radii → List (List ℕ)
shell_others None = codes "NONE" ∷ []
shell_others (Some r) = []

abbrev pub others_of : PlainLine → List (List ℕ)
others_of Heading = []
others_of (Window first last) = []
others_of (Threshold threshold) = []
others_of (Objects count) = []
others_of (Size s) = []
others_of (Primary object) = []
others_of (Shell s) = shell_others s.shell
others_of (Box b) = []
others_of (Cell s) = kind_word s.kind ∷ []
others_of End = []

-- the words of a line behind its first
abbrev pub words_of : CertFormat → PlainLine → List (List ℕ)
words_of f l = texts (numbers_of f l) ++ others_of l

-- in version 1 no size is told, and each box is of one slot; in brief there is no box
abbrev pub FitsSizeIn : CertFormat → SizeOfLine → Type 0
FitsSizeIn (Full One) s = ⊥
FitsSizeIn (Full Two) s = FitsSize (most_objects_in (Full Two)) s
FitsSizeIn Brief s = FitsSize (most_objects_in Brief) s

-- primaries are told in brief alone
abbrev pub FitsPrimaryIn : CertFormat → ℕ → Type 0
FitsPrimaryIn (Full version) object = ⊥
FitsPrimaryIn Brief object = object < most_objects_in Brief

abbrev pub FitsSlots : CertFormat → PlainBoxLine → Type 0
FitsSlots (Full One) b = b.first ≡ b.last
FitsSlots (Full Two) b = Unit {0}
FitsSlots Brief b = ⊥

-- its numbers are in their ranges, and it is of this format
abbrev pub FitsLine : CertFormat → PlainLine → Type 0
FitsLine f Heading = Unit {0}
FitsLine f (Window first last) = IsTick first × IsTick last
FitsLine f (Threshold threshold) = (1 ≤ threshold) × (threshold ≤ MAX_THRESHOLD)
FitsLine f (Objects count) = count ≤ most_objects_in f
FitsLine f (Size s) = FitsSizeIn f s
FitsLine f (Primary object) = FitsPrimaryIn f object
FitsLine f (Shell s) = FitsShell (most_objects_in f) s
FitsLine f (Box b) = FitsBox (most_objects_in f) b × FitsSlots f b
FitsLine f (Cell s) = FitsCell (most_objects_in f) s
FitsLine f End = Unit {0}

-- ---- ranges

pub record IsFrom (least most : ℕ) (z : ℤ) : Type 0 where
  pub value : z ≡ pos (unsigned_abs z)
  pub low : least ≤ unsigned_abs z
  pub high : unsigned_abs z ≤ most

pub from_range : (least most : ℕ) (z : ℤ) → is_from least most z ≡ true → IsFrom least most z
from_range least most (pos n) h =
    let parts = and_parts (int_le (pos least) (pos n)) (int_le (pos n) (pos most)) h in
    record { value = refl; low = leb-true least n parts.0; high = leb-true n most parts.1 }
from_range least most (negsuc n) h = absurd cc

pub into_range : (least most n : ℕ) → least ≤ n → n ≤ most → is_from least most (pos n) ≡ true
into_range least most n low high = rw (le-leb least n low, le-leb n most high) refl

-- far below the greatest number that is kept
pub small_version : (f : CertFormat) → number_of_format f < 2 ^ 32
small_version (Full One) = omega arith
small_version (Full Two) = omega arith
small_version Brief = omega arith

pub small_objects : (f : CertFormat) → most_objects_in f < 2 ^ 32
small_objects (Full One) = omega arith
small_objects (Full Two) = omega arith
small_objects Brief = omega arith

object_again : (f : CertFormat) (z : ℤ) → is_object f z ≡ true → (number (object_of z) ≡ z) × (object_of z < most_objects_in f)
object_again f z h =
    let from = from_range 1 (most_objects_in f) z h in
    let more : unsigned_abs z - 1 + 1 ≡ unsigned_abs z = omega (arith, from.low) in
    (ap pos more ∙ sym from.value, omega (arith, from.low, from.high))

pub is_object_of : (f : CertFormat) (o : ℕ) → o < most_objects_in f → is_object f (number o) ≡ true
is_object_of f o small = into_range 1 (most_objects_in f) (o + 1) (omega arith) (omega arith)

pub object_back : (o : ℕ) → object_of (number o) ≡ o
object_back o = omega arith

pub le_of : (m n : ℕ) → m ≤ n → int_le (pos m) (pos n) ≡ true
le_of m n h = le-leb m n h

of_le : (y z : ℤ) (m n : ℕ) → y ≡ pos m → z ≡ pos n → int_le y z ≡ true → m ≤ n
of_le y z m n ey ez h = leb-true m n (rw (ey, ez) at h)

of_lt : (y z : ℤ) (m n : ℕ) → y ≡ pos m → z ≡ pos n → int_lt y z ≡ true → m < n
of_lt y z m n ey ez h = let e : int_lt (pos m) (pos n) ≡ true = rw (ey, ez) at h in grind (arith, ints)

pub small_coordinate : (z : ℤ) → is_coordinate z ≡ true → unsigned_abs z < 2 ^ 64
small_coordinate (pos n) h = let parts = and_parts (int_le (neg_ℤ (pos (2 ^ 63))) (pos n)) (int_lt (pos n) (pos (2 ^ 63))) h in let e = parts.1 in grind (arith, ints)
small_coordinate (negsuc n) h = let parts = and_parts (int_le (neg_ℤ (pos (2 ^ 63))) (negsuc n)) (int_lt (negsuc n) (pos (2 ^ 63))) h in let e = parts.0 in grind (arith, ints)

pub record IsReach (least most : ℤ) : Type 0 where
  pub low : is_coordinate least ≡ true
  pub high : is_coordinate most ≡ true

pub reach_parts : (least most : ℤ) → is_reach least most ≡ true → IsReach least most
reach_parts least most h =
    let parts = and_parts (is_coordinate least && is_coordinate most) (int_le least most) h in
    let both = and_parts (is_coordinate least) (is_coordinate most) parts.0 in
    record { low = both.0; high = both.1 }

-- ---- what is said

-- what a line says is its own numbers and words
pub record IsSaid (f : CertFormat) (r : Rank) (numbers : List ℤ) (others : List (List ℕ)) (l : PlainLine) : Type 0 where
  pub rank : rank_of l ≡ r
  pub its_numbers : numbers ≡ numbers_of f l
  pub its_others : others ≡ others_of l
  pub fits : FitsLine f l

ranged : (b : Bool) (line l : PlainLine) → in_range b line ≡ Ok l → (b ≡ true) × (line ≡ l)
ranged true line l h = (refl, cc)
ranged false line l h = absurd cc

-- where a test fails there is no line
pub tested : (b : Bool) (x : Result PlainLine CertCause) (cause : CertCause) (l : PlainLine) → cond b x (Err cause) ≡ Ok l → (b ≡ true) × (x ≡ Ok l)
tested true x cause l h = (refl, h)
tested false x cause l h = absurd cc

-- a number that is neither less nor more
pub equal_by : (n : ℕ) (z : ℤ) → (int_le z (pos n) && int_le (pos n) z) ≡ true → z ≡ pos n
equal_by n z is =
    let parts = and_parts (int_le z (pos n)) (int_le (pos n) z) is in
    let low = parts.0 in
    let high = parts.1 in
    grind (arith, ints)

heading_said : (f : CertFormat) (numbers : List ℤ) (l : PlainLine) → spec.heading f numbers ≡ Ok l → IsSaid f rank.Heading numbers [] l
heading_said f [] l h = absurd cc
heading_said f (z ∷ []) l h =
    let n = number_of_format f in
    let t = tested (int_le z (pos n) && int_le (pos n) z) (Ok Heading) _ l h in
    let same : Heading ≡ l = let e = t.1 in cc in
    subst (IsSaid f rank.Heading (z ∷ []) []) same (record { rank = refl; its_numbers = ap (λ (y : ℤ). y ∷ []) (equal_by n z t.0); its_others = refl; fits = tt })
heading_said f (z ∷ y ∷ zs) l h = absurd cc

window_said : (f : CertFormat) (numbers : List ℤ) (l : PlainLine) → spec.window numbers ≡ Ok l → IsSaid f rank.Window numbers [] l
window_said f [] l h = absurd cc
window_said f (a ∷ []) l h = absurd cc
window_said f (a ∷ b ∷ []) l h =
    let r = ranged (is_tick a && is_tick b) (Window (unsigned_abs a) (unsigned_abs b)) l h in
    let parts = and_parts (is_tick a) (is_tick b) r.0 in
    let first = from_range FIRST_TICK LAST_TICK a parts.0 in
    let last = from_range FIRST_TICK LAST_TICK b parts.1 in
    subst (IsSaid f rank.Window (a ∷ b ∷ []) []) r.1 (record {
      rank = refl;
      its_numbers = ap₂ (λ (x y : ℤ). x ∷ y ∷ []) first.value last.value;
      its_others = refl;
      fits = ((first.low, first.high), (last.low, last.high));
    })
window_said f (a ∷ b ∷ c ∷ zs) l h = absurd cc

threshold_said : (f : CertFormat) (numbers : List ℤ) (l : PlainLine) → spec.threshold numbers ≡ Ok l → IsSaid f rank.Threshold numbers [] l
threshold_said f [] l h = absurd cc
threshold_said f (z ∷ []) l h =
    let r = ranged (is_from 1 MAX_THRESHOLD z) (Threshold (unsigned_abs z)) l h in
    let from = from_range 1 MAX_THRESHOLD z r.0 in
    subst (IsSaid f rank.Threshold (z ∷ []) []) r.1 (record { rank = refl; its_numbers = ap (λ (x : ℤ). x ∷ []) from.value; its_others = refl; fits = (from.low, from.high) })
threshold_said f (z ∷ y ∷ zs) l h = absurd cc

objects_said : (f : CertFormat) (numbers : List ℤ) (l : PlainLine) → spec.objects f numbers ≡ Ok l → IsSaid f rank.Objects numbers [] l
objects_said f [] l h = absurd cc
objects_said f (z ∷ []) l h =
    let r = ranged (is_from 0 (most_objects_in f) z) (Objects (unsigned_abs z)) l h in
    let from = from_range 0 (most_objects_in f) z r.0 in
    subst (IsSaid f rank.Objects (z ∷ []) []) r.1 (record { rank = refl; its_numbers = ap (λ (x : ℤ). x ∷ []) from.value; its_others = refl; fits = from.high })
objects_said f (z ∷ y ∷ zs) l h = absurd cc

size_of_said : (f : CertFormat) → ((s : SizeOfLine) → FitsSize (most_objects_in f) s → FitsSizeIn f s) → (numbers : List ℤ) (l : PlainLine) → spec.size_of f numbers ≡ Ok l → IsSaid f rank.Size numbers [] l
size_of_said f told [] l h = absurd cc
size_of_said f told (i ∷ []) l h = absurd cc
size_of_said f told (i ∷ z ∷ []) l h =
    let made : SizeOfLine = record { object = object_of i; size = unsigned_abs z } in
    let r = ranged (is_object f i && is_from 0 MAX_SIZE z) (Size made) l h in
    let parts = and_parts (is_object f i) (is_from 0 MAX_SIZE z) r.0 in
    let object = object_again f i parts.0 in
    let size = from_range 0 MAX_SIZE z parts.1 in
    subst (IsSaid f rank.Size (i ∷ z ∷ []) []) r.1 (record {
      rank = refl;
      its_numbers = ap₂ (λ (x y : ℤ). x ∷ y ∷ []) (sym object.0) size.value;
      its_others = refl;
      fits = told made (record { object = object.1; size = size.high });
    })
size_of_said f told (i ∷ z ∷ y ∷ zs) l h = absurd cc

size_said : (f : CertFormat) (numbers : List ℤ) (l : PlainLine) → spec.size f numbers ≡ Ok l → IsSaid f rank.Size numbers [] l
size_said (Full One) numbers l h = absurd cc
size_said (Full Two) numbers l h = size_of_said (Full Two) (λ s fits. fits) numbers l h
size_said Brief numbers l h = size_of_said Brief (λ s fits. fits) numbers l h

primary_of_said : (numbers : List ℤ) (l : PlainLine) → spec.primary_of numbers ≡ Ok l → IsSaid Brief rank.Primary numbers [] l
primary_of_said [] l h = absurd cc
primary_of_said (i ∷ []) l h =
    let r = ranged (is_object Brief i) (Primary (object_of i)) l h in
    let object = object_again Brief i r.0 in
    subst (IsSaid Brief rank.Primary (i ∷ []) []) r.1 (record { rank = refl; its_numbers = ap (λ (x : ℤ). x ∷ []) (sym object.0); its_others = refl; fits = object.1 })
primary_of_said (i ∷ z ∷ zs) l h = absurd cc

primary_said : (f : CertFormat) (numbers : List ℤ) (l : PlainLine) → spec.primary f numbers ≡ Ok l → IsSaid f rank.Primary numbers [] l
primary_said (Full version) numbers l h = absurd cc
primary_said Brief numbers l h = primary_of_said numbers l h

radii_said : (f : CertFormat) (numbers : List ℤ) (l : PlainLine) → spec.shell f numbers ≡ Ok l → IsSaid f rank.Shell numbers [] l
radii_said f [] l h = absurd cc
radii_said f (i ∷ []) l h = absurd cc
radii_said f (i ∷ lo ∷ []) l h = absurd cc
radii_said f (i ∷ lo ∷ hi ∷ []) l h =
    let made : ShellLine = record { object = object_of i; shell = Some (record { lo = unsigned_abs lo; hi = unsigned_abs hi }) } in
    let r = ranged (is_object f i && is_radius lo && is_radius hi && int_le lo hi) (Shell made) l h in
    let p1 = and_parts (is_object f i && is_radius lo && is_radius hi) (int_le lo hi) r.0 in
    let p2 = and_parts (is_object f i && is_radius lo) (is_radius hi) p1.0 in
    let p3 = and_parts (is_object f i) (is_radius lo) p2.0 in
    let object = object_again f i p3.0 in
    let low = from_range 0 MAX_RADIUS lo p3.1 in
    let high = from_range 0 MAX_RADIUS hi p2.1 in
    subst (IsSaid f rank.Shell (i ∷ lo ∷ hi ∷ []) []) r.1 (record {
      rank = refl;
      its_numbers = ap (λ (x : ℤ). x ∷ lo ∷ hi ∷ []) (sym object.0) ∙ ap₂ (λ (x y : ℤ). number (object_of i) ∷ x ∷ y ∷ []) low.value high.value;
      its_others = refl;
      fits = record { object = object.1; radii = (of_le lo hi _ _ low.value high.value p1.1, high.high) };
    })
radii_said f (i ∷ lo ∷ hi ∷ z ∷ zs) l h = absurd cc

no_shell_said : (f : CertFormat) (numbers : List ℤ) (word : List ℕ) (words : List (List ℕ)) (l : PlainLine) → spec.no_shell f numbers (word ∷ words) ≡ Ok l → IsSaid f rank.Shell numbers (word ∷ words) l
no_shell_said f [] word words l h = absurd cc
no_shell_said f (i ∷ []) word [] l h =
    let made : ShellLine = record { object = object_of i; shell = None } in
    let t = tested (bytes_eq word (codes "NONE")) (in_range (is_object f i) (Shell made)) _ l h in
    let r = ranged (is_object f i) (Shell made) l t.1 in
    let object = object_again f i r.0 in
    subst (IsSaid f rank.Shell (i ∷ []) (word ∷ [])) r.1 (record {
      rank = refl;
      its_numbers = ap (λ (x : ℤ). x ∷ []) (sym object.0);
      its_others = ap (λ (w : List ℕ). w ∷ []) ((bytes_eq-Decides word (codes "NONE")).0 t.0);
      fits = record { object = object.1; radii = tt };
    })
no_shell_said f (i ∷ []) word (next ∷ words) l h = absurd cc
no_shell_said f (i ∷ z ∷ zs) word words l h = absurd cc

shell_said : (f : CertFormat) (numbers : List ℤ) (others : List (List ℕ)) (l : PlainLine) → spec.shell_or_none f numbers others ≡ Ok l → IsSaid f rank.Shell numbers others l
shell_said f numbers [] l h = radii_said f numbers l h
shell_said f numbers (word ∷ words) l h = no_shell_said f numbers word words l h

-- the nine tests of a box
pub record BoxTests (f : CertFormat) (i first last xl xm yl ym zl zm : ℤ) : Type 0 where
  pub object : is_object f i ≡ true
  pub from : is_slot first ≡ true
  pub to : is_slot last ≡ true
  pub ordered : int_le first last ≡ true
  pub x : is_reach xl xm ≡ true
  pub y : is_reach yl ym ≡ true
  pub z : is_reach zl zm ≡ true

abbrev pub box_test : CertFormat → ℤ → ℤ → ℤ → ℤ → ℤ → ℤ → ℤ → ℤ → ℤ → Bool
box_test f i first last xl xm yl ym zl zm = is_object f i && is_slot first && is_slot last && int_le first last && is_reach xl xm && is_reach yl ym && is_reach zl zm

pub box_tests : (f : CertFormat) (i first last xl xm yl ym zl zm : ℤ) → box_test f i first last xl xm yl ym zl zm ≡ true → BoxTests f i first last xl xm yl ym zl zm
box_tests f i first last xl xm yl ym zl zm h =
    let p1 = and_parts (is_object f i && is_slot first && is_slot last && int_le first last && is_reach xl xm && is_reach yl ym) (is_reach zl zm) h in
    let p2 = and_parts (is_object f i && is_slot first && is_slot last && int_le first last && is_reach xl xm) (is_reach yl ym) p1.0 in
    let p3 = and_parts (is_object f i && is_slot first && is_slot last && int_le first last) (is_reach xl xm) p2.0 in
    let p4 = and_parts (is_object f i && is_slot first && is_slot last) (int_le first last) p3.0 in
    let p5 = and_parts (is_object f i && is_slot first) (is_slot last) p4.0 in
    let p6 = and_parts (is_object f i) (is_slot first) p5.0 in
    record { object = p6.0; from = p6.1; to = p5.1; ordered = p4.1; x = p3.1; y = p2.1; z = p1.1 }

abbrev pub the_box : ℤ → ℤ → ℤ → ℤ → ℤ → ℤ → ℤ → ℤ → ℤ → PlainBoxLine
the_box i first last xl xm yl ym zl zm = record {
  object = object_of i;
  first = unsigned_abs first;
  last = unsigned_abs last;
  area = record { x = record { least = xl; most = xm }; y = record { least = yl; most = ym }; z = record { least = zl; most = zm } };
}

-- a box that is said
record SaysBox (f : CertFormat) (i first last : ℤ) (ns : List ℤ) (l : PlainLine) : Type 0 where
  box : PlainBoxLine
  same : Box box ≡ l
  object : number box.object ≡ i
  from : pos box.first ≡ first
  to : pos box.last ≡ last
  reaches : ns ≡ ends box.area
  fits : FitsBox (most_objects_in f) box

box_of_said : (f : CertFormat) (i first last : ℤ) (ns : List ℤ) (l : PlainLine) → spec.box_of f i first last ns ≡ Ok l → SaysBox f i first last ns l
box_of_said f i first last [] l h = absurd cc
box_of_said f i first last (xl ∷ []) l h = absurd cc
box_of_said f i first last (xl ∷ xm ∷ []) l h = absurd cc
box_of_said f i first last (xl ∷ xm ∷ yl ∷ []) l h = absurd cc
box_of_said f i first last (xl ∷ xm ∷ yl ∷ ym ∷ []) l h = absurd cc
box_of_said f i first last (xl ∷ xm ∷ yl ∷ ym ∷ zl ∷ []) l h = absurd cc
box_of_said f i first last (xl ∷ xm ∷ yl ∷ ym ∷ zl ∷ zm ∷ []) l h =
    let made = the_box i first last xl xm yl ym zl zm in
    let r = ranged (box_test f i first last xl xm yl ym zl zm) (Box made) l h in
    let t = box_tests f i first last xl xm yl ym zl zm r.0 in
    let object = object_again f i t.object in
    let from = from_range 0 (2 ^ 32 - 1) first t.from in
    let to = from_range 0 (2 ^ 32 - 1) last t.to in
    record {
      box = made;
      same = r.1;
      object = object.0;
      from = sym from.value;
      to = sym to.value;
      reaches = refl;
      fits = record {
        object = object.1;
        some = of_le first last _ _ from.value to.value t.ordered;
        last = omega (arith, to.high);
        x = t.x;
        y = t.y;
        z = t.z;
      };
    }
box_of_said f i first last (xl ∷ xm ∷ yl ∷ ym ∷ zl ∷ zm ∷ w ∷ ws) l h = absurd cc

same_numbers : (m n : ℕ) (z : ℤ) → pos m ≡ z → pos n ≡ z → m ≡ n
same_numbers m n z em en = ap unsigned_abs (em ∙ sym en)

box_1_said : (numbers : List ℤ) (l : PlainLine) → spec.box_1 numbers ≡ Ok l → IsSaid (Full One) rank.Box numbers [] l
box_1_said [] l h = absurd cc
box_1_said (i ∷ []) l h = absurd cc
box_1_said (i ∷ slot ∷ ns) l h =
    let s = box_of_said (Full One) i slot slot ns l h in
    subst (IsSaid (Full One) rank.Box (i ∷ slot ∷ ns) []) s.same (record {
      rank = refl;
      its_numbers = ap₂ (λ (x y : ℤ). x ∷ y ∷ ns) (sym s.object) (sym s.from) ∙ ap (λ (zs : List ℤ). number s.box.object ∷ pos s.box.first ∷ zs) s.reaches;
      its_others = refl;
      fits = (s.fits, same_numbers s.box.first s.box.last slot s.from s.to);
    })

box_2_said : (numbers : List ℤ) (l : PlainLine) → spec.box_2 numbers ≡ Ok l → IsSaid (Full Two) rank.Box numbers [] l
box_2_said [] l h = absurd cc
box_2_said (i ∷ []) l h = absurd cc
box_2_said (i ∷ first ∷ []) l h = absurd cc
box_2_said (i ∷ first ∷ last ∷ ns) l h =
    let s = box_of_said (Full Two) i first last ns l h in
    subst (IsSaid (Full Two) rank.Box (i ∷ first ∷ last ∷ ns) []) s.same (record {
      rank = refl;
      its_numbers = ap₂ (λ (x y : ℤ). x ∷ y ∷ last ∷ ns) (sym s.object) (sym s.from)
          ∙ ap (λ (x : ℤ). number s.box.object ∷ pos s.box.first ∷ x ∷ ns) (sym s.to)
          ∙ ap (λ (zs : List ℤ). number s.box.object ∷ pos s.box.first ∷ pos s.box.last ∷ zs) s.reaches;
      its_others = refl;
      fits = (s.fits, tt);
    })

box_said : (f : CertFormat) (numbers : List ℤ) (l : PlainLine) → spec.box f numbers ≡ Ok l → IsSaid f rank.Box numbers [] l
box_said (Full One) numbers l h = box_1_said numbers l h
box_said (Full Two) numbers l h = box_2_said numbers l h
box_said Brief numbers l h = absurd cc

-- ---- cells

kind_by : (word : List ℕ) (kind : Kind) (k : Kind) (more : Option Kind) (b : Bool) → bytes_eq word (kind_word k) ≡ b → cond b (Some k) more ≡ Some kind
    → (more ≡ Some kind → word ≡ kind_word kind) → word ≡ kind_word kind
kind_by word kind k more true e h rest = (bytes_eq-Decides word (kind_word k)).0 e ∙ ap kind_word (let same : k ≡ kind = cc in same)
kind_by word kind k more false e h rest = rest h

kind_said : (words : List (List ℕ)) (kind : Kind) → spec.kind_of words ≡ Some kind → words ≡ kind_word kind ∷ []
kind_said [] kind h = absurd cc
kind_said (word ∷ []) kind h =
    ap (λ (w : List ℕ). w ∷ []) (
    kind_by word kind kinds.Far _ (bytes_eq word (codes "F")) refl h (
    λ h1. kind_by word kind kinds.Near _ (bytes_eq word (codes "N")) refl h1 (
    λ h2. kind_by word kind kinds.Undecided None (bytes_eq word (codes "U")) refl h2 (λ h3. absurd cc)
    )
    )
    )
kind_said (word ∷ next ∷ words) kind h = absurd cc

cell_of_said : (f : CertFormat) (a b first last : ℤ) (words : List (List ℕ)) (kind : Option Kind) (l : PlainLine) → spec.kind_of words ≡ kind → spec.cell_of f a b first last kind ≡ Ok l
    → IsSaid f rank.Cell (a ∷ b ∷ first ∷ last ∷ []) words l
cell_of_said f a b first last words None l said h = absurd cc
cell_of_said f a b first last words (Some kind) l said h =
    let made : PlainLeaf = record { a = object_of a; b = object_of b; first = unsigned_abs first; last = unsigned_abs last; kind = kind } in
    let r = ranged (is_object f a && is_object f b && int_lt a b && is_tick first && is_tick last && int_le first last) (Cell made) l h in
    let p1 = and_parts (is_object f a && is_object f b && int_lt a b && is_tick first && is_tick last) (int_le first last) r.0 in
    let p2 = and_parts (is_object f a && is_object f b && int_lt a b && is_tick first) (is_tick last) p1.0 in
    let p3 = and_parts (is_object f a && is_object f b && int_lt a b) (is_tick first) p2.0 in
    let p4 = and_parts (is_object f a && is_object f b) (int_lt a b) p3.0 in
    let p5 = and_parts (is_object f a) (is_object f b) p4.0 in
    let oa = object_again f a p5.0 in
    let ob = object_again f b p5.1 in
    let from = from_range FIRST_TICK LAST_TICK first p3.1 in
    let to = from_range FIRST_TICK LAST_TICK last p2.1 in
    let lower : object_of a + 1 < object_of b + 1 = of_lt a b _ _ (sym oa.0) (sym ob.0) p4.1 in
    subst (IsSaid f rank.Cell (a ∷ b ∷ first ∷ last ∷ []) words) r.1 (record {
      rank = refl;
      its_numbers = ap₂ (λ (x y : ℤ). x ∷ y ∷ first ∷ last ∷ []) (sym oa.0) (sym ob.0) ∙ ap₂ (λ (x y : ℤ). number (object_of a) ∷ number (object_of b) ∷ x ∷ y ∷ []) from.value to.value;
      its_others = kind_said words kind said;
      fits = record {
        ordered = omega (arith, lower);
        objects = ob.1;
        first = (from.low, from.high);
        last = (to.low, to.high);
        some = of_le first last _ _ from.value to.value p1.1;
      };
    })

cell_said : (f : CertFormat) (numbers : List ℤ) (words : List (List ℕ)) (l : PlainLine) → spec.cell f numbers (spec.kind_of words) ≡ Ok l → IsSaid f rank.Cell numbers words l
cell_said f [] words l h = absurd cc
cell_said f (a ∷ []) words l h = absurd cc
cell_said f (a ∷ b ∷ []) words l h = absurd cc
cell_said f (a ∷ b ∷ first ∷ []) words l h = absurd cc
cell_said f (a ∷ b ∷ first ∷ last ∷ []) words l h = cell_of_said f a b first last words (spec.kind_of words) l refl h
cell_said f (a ∷ b ∷ first ∷ last ∷ z ∷ zs) words l h = absurd cc

end_said : (f : CertFormat) (numbers : List ℤ) (l : PlainLine) → spec.end numbers ≡ Ok l → IsSaid f rank.End numbers [] l
end_said f [] l h = subst (IsSaid f rank.End [] []) (let same : End ≡ l = cc in same) (record { rank = refl; its_numbers = refl; its_others = refl; fits = tt })
end_said f (z ∷ zs) l h = absurd cc

-- a line of numbers alone
alone_said : (f : CertFormat) (r : Rank) (numbers : List ℤ) (words : List (List ℕ)) (x : Result PlainLine CertCause) (l : PlainLine) → (x ≡ Ok l → IsSaid f r numbers [] l)
    → spec.alone words x ≡ Ok l → IsSaid f r numbers words l
alone_said f r numbers [] x l rest h = rest h
alone_said f r numbers (word ∷ words) x l rest h = absurd cc

pub what_is_said : (f : CertFormat) (r : Rank) (numbers : List ℤ) (words : List (List ℕ)) (l : PlainLine) → said_by f r numbers words ≡ Ok l → IsSaid f r numbers words l
what_is_said f rank.Heading numbers words l h = alone_said f rank.Heading numbers words (spec.heading f numbers) l (heading_said f numbers l) h
what_is_said f rank.Window numbers words l h = alone_said f rank.Window numbers words (spec.window numbers) l (window_said f numbers l) h
what_is_said f rank.Threshold numbers words l h = alone_said f rank.Threshold numbers words (spec.threshold numbers) l (threshold_said f numbers l) h
what_is_said f rank.Objects numbers words l h = alone_said f rank.Objects numbers words (spec.objects f numbers) l (objects_said f numbers l) h
what_is_said f rank.Size numbers words l h = alone_said f rank.Size numbers words (spec.size f numbers) l (size_said f numbers l) h
what_is_said f rank.Primary numbers words l h = alone_said f rank.Primary numbers words (spec.primary f numbers) l (primary_said f numbers l) h
what_is_said f rank.Shell numbers words l h = shell_said f numbers words l h
what_is_said f rank.Box numbers words l h = alone_said f rank.Box numbers words (spec.box f numbers) l (box_said f numbers l) h
what_is_said f rank.Cell numbers words l h = cell_said f numbers words l h
what_is_said f rank.End numbers words l h = alone_said f rank.End numbers words (spec.end numbers) l (end_said f numbers l) h
