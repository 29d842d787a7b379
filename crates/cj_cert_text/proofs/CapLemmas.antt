-- Numbers up to the greatest that is kept, and one more than a line has of them, say the same line.
use Rattle.std.proofs.Common.{◌≡◌, ℕ, ◌-◌, ◌^◌, ◌<◌, ◌≤◌, inl, inr, List, [], ◌∷◌, take, map, arith, ap, ap₂, sym, ◌∙◌, refl, true, false, Bool, cond, ℤ, pos, negsuc, Option, Some}
use Rattle.std.proofs.Common.{None, Result, Ok, Err, length}
use Rattle.std.specs.Prelude.{◌&&◌, unsigned_abs, codes, int_le, int_lt}
use Rattle.std.specs.Str.{bytes_eq}
use Rattle.std.proofs.lemmas.Bool.{and_parts}
use Rattle.std.proofs.lemmas.Bool.Decides.{leb_tells}
use Rattle.std.proofs.lemmas.Int.{ints, clamps}
use Rattle.std.proofs.lemmas.List.{length-map, take_all}
use Rattle.cj_base.specs.Ticks.{FIRST_TICK, LAST_TICK}
use Rattle.cj_case.specs.declared.kind.Kind.{Kind}
use Rattle.cj_bezier.specs.Shells.{MAX_RADIUS}
use Rattle.cj_formats.specs.declared.cert_cause.CertCause.{CertCause}
use Rattle.cj_formats.specs.declared.cert_cause.CertCause.TheVariants as causes
use Rattle.cj_formats.specs.declared.cert_format.CertFormat.{CertFormat}
use Rattle.cj_formats.specs.declared.cert_format.CertFormat.TheVariants.{Full, Brief}
use Rattle.cj_formats.specs.declared.cert_version.CertVersion.TheVariants.{One, Two}
use Rattle.cj_formats.specs.Formats.{most_objects_in, number_of_format}
use Rattle.cj_cert_text.specs.declared.rank.Rank.{Rank}
use Rattle.cj_cert_text.specs.declared.rank.Rank.TheVariants as rank
use Rattle.cj_cert_text.specs.Lines as spec
use Rattle.cj_case.specs.CaseLimits.{MAX_SIZE}
use Rattle.cj_cert_text.specs.Lines.{PlainLine, Heading, said_by, in_range, is_from, is_tick, is_object, is_radius, is_coordinate, MAX_THRESHOLD}
use Rattle.cj_cert_text.specs.Readers.{capped}
use Rattle.cj_cert_text.proofs.LineLemmas.{box_test, box_tests, equal_by, from_range, reach_parts, small_coordinate, small_objects, small_version}

abbrev Said : Type 0
Said = Result PlainLine CertCause

-- a number below the greatest is kept
kept : (z : ℤ) → unsigned_abs z < 2 ^ 64 → capped z ≡ z
kept (pos n) small = omega (arith, ints, clamps)
kept (negsuc n) small = omega (arith, ints, clamps)

-- what is below the greatest was kept
was_kept : (z : ℤ) → unsigned_abs (capped z) < 2 ^ 64 - 1 → capped z ≡ z
was_kept (pos n) small = elim (leb_tells (2 ^ 64 - 1) n) [
  | inl above ↦ absurd (let e = ap unsigned_abs (capped_above n above.1) in omega arith)
  | inr below ↦ kept (pos n) (omega (arith, below.1))
]
  where
    capped_above : (k : ℕ) → 2 ^ 64 - 1 ≤ k → capped (pos k) ≡ pos (2 ^ 64 - 1)
    capped_above k above = omega (arith, ints, clamps)
was_kept (negsuc n) small = elim (leb_tells (2 ^ 64 - 2) n) [
  | inl above ↦ absurd (let e = ap unsigned_abs (capped_below n above.1) in omega arith)
  | inr below ↦ kept (negsuc n) (omega (arith, below.1))
]
  where
    capped_below : (k : ℕ) → 2 ^ 64 - 2 ≤ k → capped (negsuc k) ≡ negsuc (2 ^ 64 - 2)
    capped_below k above = omega (arith, ints, clamps)

kept_from : (least most : ℕ) (z : ℤ) → most < 2 ^ 64 → is_from least most z ≡ true → capped z ≡ z
kept_from least most z small h = kept z (omega (arith, (from_range least most z h).high))

was_kept_from : (least most : ℕ) (z : ℤ) → most < 2 ^ 64 - 1 → is_from least most (capped z) ≡ true → capped z ≡ z
was_kept_from least most z small h = was_kept z (omega (arith, (from_range least most (capped z) h).high))

-- a line that is said by numbers in range is said by the numbers that are kept, and the other way round
settle : (b b' : Bool) (x y : PlainLine) → (b ≡ true → in_range b' x ≡ in_range b y) → (b' ≡ true → in_range b' x ≡ in_range b y) → in_range b' x ≡ in_range b y
settle true b' x y f g = f refl
settle false true x y f g = g refl
settle false false x y f g = refl

settle_heading : (b b' : Bool) → (b ≡ true → b' ≡ b) → (b' ≡ true → b' ≡ b) → b' ≡ b
settle_heading true b' f g = f refl
settle_heading false true f g = g refl
settle_heading false false f g = refl

-- a number is the same as a small one where the number that is kept is
same_kept : (n : ℕ) (z : ℤ) → n < 2 ^ 64 - 1 → (int_le (capped z) (pos n) && int_le (pos n) (capped z)) ≡ (int_le z (pos n) && int_le (pos n) z)
same_kept n z small =
    settle_heading (int_le z (pos n) && int_le (pos n) z) (int_le (capped z) (pos n) && int_le (pos n) (capped z))
    (λ t. same (kept z (omega (arith, is_below z t))))
    (λ t. same (was_kept z (is_below (capped z) t)))
  where
    same : capped z ≡ z → (int_le (capped z) (pos n) && int_le (pos n) (capped z)) ≡ (int_le z (pos n) && int_le (pos n) z)
    same e = ap (λ (x : ℤ). int_le x (pos n) && int_le (pos n) x) e

    is_below : (y : ℤ) → (int_le y (pos n) && int_le (pos n) y) ≡ true → unsigned_abs y < 2 ^ 64 - 1
    is_below y t = omega (arith, ap unsigned_abs (equal_by n y t))

heading_kept : (v : CertFormat) (numbers : List ℤ) → spec.heading v (map capped numbers) ≡ spec.heading v numbers
heading_kept v [] = refl
heading_kept v (z ∷ []) = ap (λ (b : Bool). cond b (Ok Heading) (Err causes.Form)) (same_kept (number_of_format v) z (omega (arith, small_version v)))
heading_kept v (z ∷ y ∷ zs) = refl

window_kept : (numbers : List ℤ) → spec.window (map capped numbers) ≡ spec.window numbers
window_kept [] = refl
window_kept (a ∷ []) = refl
window_kept (a ∷ b ∷ []) =
    settle (is_tick a && is_tick b) (is_tick (capped a) && is_tick (capped b)) _ _
    (λ t. let p = and_parts (is_tick a) (is_tick b) t in same (kept_from FIRST_TICK LAST_TICK a (omega arith) p.0) (kept_from FIRST_TICK LAST_TICK b (omega arith) p.1))
    (λ t. let p = and_parts (is_tick (capped a)) (is_tick (capped b)) t in same (was_kept_from FIRST_TICK LAST_TICK a (omega arith) p.0) (was_kept_from FIRST_TICK LAST_TICK b (omega arith) p.1))
  where
    same : capped a ≡ a → capped b ≡ b → spec.window (capped a ∷ capped b ∷ []) ≡ spec.window (a ∷ b ∷ [])
    same ea eb = ap₂ (λ (x y : ℤ). spec.window (x ∷ y ∷ [])) ea eb
window_kept (a ∷ b ∷ c ∷ zs) = refl

threshold_kept : (numbers : List ℤ) → spec.threshold (map capped numbers) ≡ spec.threshold numbers
threshold_kept [] = refl
threshold_kept (z ∷ []) =
    settle (is_from 1 MAX_THRESHOLD z) (is_from 1 MAX_THRESHOLD (capped z)) _ _
    (λ t. ap (λ (x : ℤ). spec.threshold (x ∷ [])) (kept_from 1 MAX_THRESHOLD z (omega arith) t))
    (λ t. ap (λ (x : ℤ). spec.threshold (x ∷ [])) (was_kept_from 1 MAX_THRESHOLD z (omega arith) t))
threshold_kept (z ∷ y ∷ zs) = refl

objects_kept : (v : CertFormat) (numbers : List ℤ) → spec.objects v (map capped numbers) ≡ spec.objects v numbers
objects_kept v [] = refl
objects_kept v (z ∷ []) =
    settle (is_from 0 (most_objects_in v) z) (is_from 0 (most_objects_in v) (capped z)) _ _
    (λ t. ap (λ (x : ℤ). spec.objects v (x ∷ [])) (kept_from 0 (most_objects_in v) z (omega (arith, small_objects v)) t))
    (λ t. ap (λ (x : ℤ). spec.objects v (x ∷ [])) (was_kept_from 0 (most_objects_in v) z (omega (arith, small_objects v)) t))
objects_kept v (z ∷ y ∷ zs) = refl

-- the line of a size, in a format that tells them
abbrev sized : CertFormat → ℤ → ℤ → Said
sized v i z = in_range (is_object v i && is_from 0 MAX_SIZE z) (spec.Size (record { object = spec.object_of i; size = unsigned_abs z }))

size_of_kept : (v : CertFormat) (numbers : List ℤ) → spec.size_of v (map capped numbers) ≡ spec.size_of v numbers
size_of_kept v [] = refl
size_of_kept v (i ∷ []) = refl
size_of_kept v (i ∷ z ∷ []) =
    settle (is_object v i && is_from 0 MAX_SIZE z) (is_object v (capped i) && is_from 0 MAX_SIZE (capped z)) _ _
    (λ t. let p = and_parts (is_object v i) (is_from 0 MAX_SIZE z) t in
    ap₂ (sized v) (kept_from 1 (most_objects_in v) i (omega (arith, small_objects v)) p.0) (kept_from 0 MAX_SIZE z (omega arith) p.1))
    (λ t. let p = and_parts (is_object v (capped i)) (is_from 0 MAX_SIZE (capped z)) t in
    ap₂ (sized v) (was_kept_from 1 (most_objects_in v) i (omega (arith, small_objects v)) p.0) (was_kept_from 0 MAX_SIZE z (omega arith) p.1))
size_of_kept v (i ∷ z ∷ y ∷ zs) = refl

size_kept : (v : CertFormat) (numbers : List ℤ) → spec.size v (map capped numbers) ≡ spec.size v numbers
size_kept (Full One) numbers = refl
size_kept (Full Two) numbers = size_of_kept (Full Two) numbers
size_kept Brief numbers = size_of_kept Brief numbers

primary_of_kept : (numbers : List ℤ) → spec.primary_of (map capped numbers) ≡ spec.primary_of numbers
primary_of_kept [] = refl
primary_of_kept (i ∷ []) =
    settle (is_object Brief i) (is_object Brief (capped i)) _ _
    (λ t. ap (λ (x : ℤ). spec.primary_of (x ∷ [])) (kept_from 1 (most_objects_in Brief) i (omega arith) t))
    (λ t. ap (λ (x : ℤ). spec.primary_of (x ∷ [])) (was_kept_from 1 (most_objects_in Brief) i (omega arith) t))
primary_of_kept (i ∷ z ∷ zs) = refl

primary_kept : (v : CertFormat) (numbers : List ℤ) → spec.primary v (map capped numbers) ≡ spec.primary v numbers
primary_kept (Full version) numbers = refl
primary_kept Brief numbers = primary_of_kept numbers

record ShellTests (v : CertFormat) (i lo hi : ℤ) : Type 0 where
  object : is_object v i ≡ true
  low : is_radius lo ≡ true
  high : is_radius hi ≡ true

shell_tests : (v : CertFormat) (i lo hi : ℤ) → (is_object v i && is_radius lo && is_radius hi && int_le lo hi) ≡ true → ShellTests v i lo hi
shell_tests v i lo hi t =
    let p1 = and_parts (is_object v i && is_radius lo && is_radius hi) (int_le lo hi) t in
    let p2 = and_parts (is_object v i && is_radius lo) (is_radius hi) p1.0 in
    let p3 = and_parts (is_object v i) (is_radius lo) p2.0 in
    record { object = p3.0; low = p3.1; high = p2.1 }

radii_kept : (v : CertFormat) (numbers : List ℤ) → spec.shell v (map capped numbers) ≡ spec.shell v numbers
radii_kept v [] = refl
radii_kept v (i ∷ []) = refl
radii_kept v (i ∷ lo ∷ []) = refl
radii_kept v (i ∷ lo ∷ hi ∷ []) =
    settle (is_object v i && is_radius lo && is_radius hi && int_le lo hi) (is_object v (capped i) && is_radius (capped lo) && is_radius (capped hi) && int_le (capped lo) (capped hi)) _ _
    (λ t. let p = shell_tests v i lo hi t in same (kept_from 1 (most_objects_in v) i (omega (arith, small_objects v)) p.object) (kept_from 0 MAX_RADIUS lo (omega arith) p.low) (kept_from 0 MAX_RADIUS hi (omega arith) p.high))
    (λ t. let p = shell_tests v (capped i) (capped lo) (capped hi) t in
    same (was_kept_from 1 (most_objects_in v) i (omega (arith, small_objects v)) p.object) (was_kept_from 0 MAX_RADIUS lo (omega arith) p.low) (was_kept_from 0 MAX_RADIUS hi (omega arith) p.high))
  where
    same : capped i ≡ i → capped lo ≡ lo → capped hi ≡ hi → spec.shell v (capped i ∷ capped lo ∷ capped hi ∷ []) ≡ spec.shell v (i ∷ lo ∷ hi ∷ [])
    same ei el eh = ap (λ (x : ℤ). spec.shell v (x ∷ capped lo ∷ capped hi ∷ [])) ei ∙ ap₂ (λ (x y : ℤ). spec.shell v (i ∷ x ∷ y ∷ [])) el eh
radii_kept v (i ∷ lo ∷ hi ∷ z ∷ zs) = refl

no_shell_kept : (v : CertFormat) (numbers : List ℤ) (word : List ℕ) (words : List (List ℕ)) → spec.no_shell v (map capped numbers) (word ∷ words) ≡ spec.no_shell v numbers (word ∷ words)
no_shell_kept v [] word words = refl
no_shell_kept v (i ∷ []) word [] =
    ap (λ (x : Said). cond (bytes_eq word (codes "NONE")) x (Err causes.Form)) (
    settle (is_object v i) (is_object v (capped i)) _ _
    (λ t. ap unshelled (kept_from 1 (most_objects_in v) i (omega (arith, small_objects v)) t))
    (λ t. ap unshelled (was_kept_from 1 (most_objects_in v) i (omega (arith, small_objects v)) t))
    )
  where
    unshelled : ℤ → Said
    unshelled x = in_range (is_object v x) (spec.Shell (record { object = spec.object_of x; shell = None }))
no_shell_kept v (i ∷ []) word (next ∷ words) = refl
no_shell_kept v (i ∷ z ∷ zs) word words = refl

shell_kept : (v : CertFormat) (numbers : List ℤ) (words : List (List ℕ)) → spec.shell_or_none v (map capped numbers) words ≡ spec.shell_or_none v numbers words
shell_kept v numbers [] = radii_kept v numbers
shell_kept v numbers (word ∷ words) = no_shell_kept v numbers word words

-- coordinates
kept_coordinate : (z : ℤ) → is_coordinate z ≡ true → capped z ≡ z
kept_coordinate z h = kept z (small_coordinate z h)

was_kept_coordinate : (z : ℤ) → is_coordinate (capped z) ≡ true → capped z ≡ z
was_kept_coordinate z h = was_kept z (below (capped z) h)
  where
    below : (y : ℤ) → is_coordinate y ≡ true → unsigned_abs y < 2 ^ 64 - 1
    below (pos n) t = let p = and_parts (int_le (negsuc (2 ^ 63 - 1)) (pos n)) (int_lt (pos n) (pos (2 ^ 63))) t in let e = p.1 in grind (arith, ints)
    below (negsuc n) t = let p = and_parts (int_le (negsuc (2 ^ 63 - 1)) (negsuc n)) (int_lt (negsuc n) (pos (2 ^ 63))) t in let e = p.0 in grind (arith, ints)

box_kept : (v : CertFormat) (i first last : ℤ) (ns : List ℤ) → spec.box_of v (capped i) (capped first) (capped last) (map capped ns) ≡ spec.box_of v i first last ns
box_kept v i first last [] = refl
box_kept v i first last (xl ∷ []) = refl
box_kept v i first last (xl ∷ xm ∷ []) = refl
box_kept v i first last (xl ∷ xm ∷ yl ∷ []) = refl
box_kept v i first last (xl ∷ xm ∷ yl ∷ ym ∷ []) = refl
box_kept v i first last (xl ∷ xm ∷ yl ∷ ym ∷ zl ∷ []) = refl
box_kept v i first last (xl ∷ xm ∷ yl ∷ ym ∷ zl ∷ zm ∷ []) =
    settle (box_test v i first last xl xm yl ym zl zm) (box_test v (capped i) (capped first) (capped last) (capped xl) (capped xm) (capped yl) (capped ym) (capped zl) (capped zm)) _ _
    (λ t. let p = box_tests v i first last xl xm yl ym zl zm t in
    let x = reach_parts xl xm p.x in
    let y = reach_parts yl ym p.y in
    let z = reach_parts zl zm p.z in
    same (kept_from 1 (most_objects_in v) i (omega (arith, small_objects v)) p.object) (kept_from 0 (2 ^ 32 - 1) first (omega arith) p.from) (kept_from 0 (2 ^ 32 - 1) last (omega arith) p.to)
    (kept_coordinate xl x.low) (kept_coordinate xm x.high) (kept_coordinate yl y.low) (kept_coordinate ym y.high) (kept_coordinate zl z.low) (kept_coordinate zm z.high))
    (λ t. let p = box_tests v (capped i) (capped first) (capped last) (capped xl) (capped xm) (capped yl) (capped ym) (capped zl) (capped zm) t in
    let x = reach_parts (capped xl) (capped xm) p.x in
    let y = reach_parts (capped yl) (capped ym) p.y in
    let z = reach_parts (capped zl) (capped zm) p.z in
    same (was_kept_from 1 (most_objects_in v) i (omega (arith, small_objects v)) p.object) (was_kept_from 0 (2 ^ 32 - 1) first (omega arith) p.from) (was_kept_from 0 (2 ^ 32 - 1) last (omega arith) p.to)
    (was_kept_coordinate xl x.low) (was_kept_coordinate xm x.high) (was_kept_coordinate yl y.low) (was_kept_coordinate ym y.high) (was_kept_coordinate zl z.low) (was_kept_coordinate zm z.high))
  where
    same : capped i ≡ i → capped first ≡ first → capped last ≡ last → capped xl ≡ xl → capped xm ≡ xm → capped yl ≡ yl → capped ym ≡ ym → capped zl ≡ zl → capped zm ≡ zm
        → spec.box_of v (capped i) (capped first) (capped last) (capped xl ∷ capped xm ∷ capped yl ∷ capped ym ∷ capped zl ∷ capped zm ∷ []) ≡ spec.box_of v i first last (xl ∷ xm ∷ yl ∷ ym ∷ zl ∷ zm ∷ [])
    same ei ef el e1 e2 e3 e4 e5 e6 =
        ap₂ (λ (x y : ℤ). spec.box_of v x y (capped last) (capped xl ∷ capped xm ∷ capped yl ∷ capped ym ∷ capped zl ∷ capped zm ∷ [])) ei ef
        ∙ ap₂ (λ (x y : ℤ). spec.box_of v i first x (y ∷ capped xm ∷ capped yl ∷ capped ym ∷ capped zl ∷ capped zm ∷ [])) el e1
        ∙ ap₂ (λ (x y : ℤ). spec.box_of v i first last (xl ∷ x ∷ y ∷ capped ym ∷ capped zl ∷ capped zm ∷ [])) e2 e3
        ∙ ap₂ (λ (x y : ℤ). spec.box_of v i first last (xl ∷ xm ∷ yl ∷ x ∷ y ∷ capped zm ∷ [])) e4 e5
        ∙ ap (λ (x : ℤ). spec.box_of v i first last (xl ∷ xm ∷ yl ∷ ym ∷ zl ∷ x ∷ [])) e6
box_kept v i first last (xl ∷ xm ∷ yl ∷ ym ∷ zl ∷ zm ∷ w ∷ ws) = refl

box_1_kept : (numbers : List ℤ) → spec.box_1 (map capped numbers) ≡ spec.box_1 numbers
box_1_kept [] = refl
box_1_kept (i ∷ []) = refl
box_1_kept (i ∷ slot ∷ ns) = box_kept (Full One) i slot slot ns

box_2_kept : (numbers : List ℤ) → spec.box_2 (map capped numbers) ≡ spec.box_2 numbers
box_2_kept [] = refl
box_2_kept (i ∷ []) = refl
box_2_kept (i ∷ first ∷ []) = refl
box_2_kept (i ∷ first ∷ last ∷ ns) = box_kept (Full Two) i first last ns

record CellTests (v : CertFormat) (a b first last : ℤ) : Type 0 where
  one : is_object v a ≡ true
  other : is_object v b ≡ true
  from : is_tick first ≡ true
  to : is_tick last ≡ true

cell_tests : (v : CertFormat) (a b first last : ℤ) → (is_object v a && is_object v b && int_lt a b && is_tick first && is_tick last && int_le first last) ≡ true → CellTests v a b first last
cell_tests v a b first last t =
    let p1 = and_parts (is_object v a && is_object v b && int_lt a b && is_tick first && is_tick last) (int_le first last) t in
    let p2 = and_parts (is_object v a && is_object v b && int_lt a b && is_tick first) (is_tick last) p1.0 in
    let p3 = and_parts (is_object v a && is_object v b && int_lt a b) (is_tick first) p2.0 in
    let p4 = and_parts (is_object v a && is_object v b) (int_lt a b) p3.0 in
    let p5 = and_parts (is_object v a) (is_object v b) p4.0 in
    record { one = p5.0; other = p5.1; from = p3.1; to = p2.1 }

cell_of_kept : (v : CertFormat) (a b first last : ℤ) (kind : Option Kind) → spec.cell_of v (capped a) (capped b) (capped first) (capped last) kind ≡ spec.cell_of v a b first last kind
cell_of_kept v a b first last None = refl
cell_of_kept v a b first last (Some kind) =
    settle (is_object v a && is_object v b && int_lt a b && is_tick first && is_tick last && int_le first last)
    (is_object v (capped a) && is_object v (capped b) && int_lt (capped a) (capped b) && is_tick (capped first) && is_tick (capped last) && int_le (capped first) (capped last)) _ _
    (λ t. let p = cell_tests v a b first last t in
    same (kept_from 1 (most_objects_in v) a (omega (arith, small_objects v)) p.one) (kept_from 1 (most_objects_in v) b (omega (arith, small_objects v)) p.other) (kept_from FIRST_TICK LAST_TICK first (omega arith) p.from)
    (kept_from FIRST_TICK LAST_TICK last (omega arith) p.to))
    (λ t. let p = cell_tests v (capped a) (capped b) (capped first) (capped last) t in
    same (was_kept_from 1 (most_objects_in v) a (omega (arith, small_objects v)) p.one) (was_kept_from 1 (most_objects_in v) b (omega (arith, small_objects v)) p.other) (was_kept_from FIRST_TICK LAST_TICK first (omega arith) p.from)
    (was_kept_from FIRST_TICK LAST_TICK last (omega arith) p.to))
  where
    some : Option Kind
    some = Some kind

    same : capped a ≡ a → capped b ≡ b → capped first ≡ first → capped last ≡ last → spec.cell_of v (capped a) (capped b) (capped first) (capped last) some ≡ spec.cell_of v a b first last some
    same ea eb ef el =
        ap₂ (λ (x y : ℤ). spec.cell_of v x y (capped first) (capped last) some) ea eb
        ∙ ap₂ (λ (x y : ℤ). spec.cell_of v a b x y some) ef el

cell_kept : (v : CertFormat) (numbers : List ℤ) (kind : Option Kind) → spec.cell v (map capped numbers) kind ≡ spec.cell v numbers kind
cell_kept v [] kind = refl
cell_kept v (a ∷ []) kind = refl
cell_kept v (a ∷ b ∷ []) kind = refl
cell_kept v (a ∷ b ∷ first ∷ []) kind = refl
cell_kept v (a ∷ b ∷ first ∷ last ∷ []) kind = cell_of_kept v a b first last kind
cell_kept v (a ∷ b ∷ first ∷ last ∷ z ∷ zs) kind = refl

end_kept : (numbers : List ℤ) → spec.end (map capped numbers) ≡ spec.end numbers
end_kept [] = refl
end_kept (z ∷ zs) = refl

box_both : (v : CertFormat) (numbers : List ℤ) → spec.box v (map capped numbers) ≡ spec.box v numbers
box_both (Full One) numbers = box_1_kept numbers
box_both (Full Two) numbers = box_2_kept numbers
box_both Brief numbers = refl

all_kept : (v : CertFormat) (r : Rank) (numbers : List ℤ) (words : List (List ℕ)) → said_by v r (map capped numbers) words ≡ said_by v r numbers words
all_kept v rank.Heading numbers words = ap (spec.alone words) (heading_kept v numbers)
all_kept v rank.Window numbers words = ap (spec.alone words) (window_kept numbers)
all_kept v rank.Threshold numbers words = ap (spec.alone words) (threshold_kept numbers)
all_kept v rank.Objects numbers words = ap (spec.alone words) (objects_kept v numbers)
all_kept v rank.Size numbers words = ap (spec.alone words) (size_kept v numbers)
all_kept v rank.Primary numbers words = ap (spec.alone words) (primary_kept v numbers)
all_kept v rank.Shell numbers words = shell_kept v numbers words
all_kept v rank.Box numbers words = ap (spec.alone words) (box_both v numbers)
all_kept v rank.Cell numbers words = cell_kept v numbers (spec.kind_of words)
all_kept v rank.End numbers words = ap (spec.alone words) (end_kept numbers)

-- ten numbers are too many
form_alone : (words : List (List ℕ)) → spec.alone words (Err causes.Form) ≡ Err causes.Form
form_alone [] = refl
form_alone (word ∷ words) = refl

form_size : (v : CertFormat) (a b c : ℤ) (ns : List ℤ) → spec.size v (a ∷ b ∷ c ∷ ns) ≡ Err causes.Form
form_size (Full One) a b c ns = refl
form_size (Full Two) a b c ns = refl
form_size Brief a b c ns = refl

form_primary : (v : CertFormat) (a b : ℤ) (ns : List ℤ) → spec.primary v (a ∷ b ∷ ns) ≡ Err causes.Form
form_primary (Full version) a b ns = refl
form_primary Brief a b ns = refl

form_box : (v : CertFormat) (a b c d e f g h i j : ℤ) (ns : List ℤ) → spec.box v (a ∷ b ∷ c ∷ d ∷ e ∷ f ∷ g ∷ h ∷ i ∷ j ∷ ns) ≡ Err causes.Form
form_box (Full One) a b c d e f g h i j ns = refl
form_box (Full Two) a b c d e f g h i j ns = refl
form_box Brief a b c d e f g h i j ns = refl

form_shell : (v : CertFormat) (a b c d : ℤ) (ns : List ℤ) (words : List (List ℕ)) → spec.shell_or_none v (a ∷ b ∷ c ∷ d ∷ ns) words ≡ Err causes.Form
form_shell v a b c d ns [] = refl
form_shell v a b c d ns (word ∷ words) = refl

too_many : (v : CertFormat) (r : Rank) (a b c d e f g h i j : ℤ) (ns : List ℤ) (words : List (List ℕ)) → said_by v r (a ∷ b ∷ c ∷ d ∷ e ∷ f ∷ g ∷ h ∷ i ∷ j ∷ ns) words ≡ Err causes.Form
too_many v rank.Heading a b c d e f g h i j ns words = form_alone words
too_many v rank.Window a b c d e f g h i j ns words = form_alone words
too_many v rank.Threshold a b c d e f g h i j ns words = form_alone words
too_many v rank.Objects a b c d e f g h i j ns words = form_alone words
too_many v rank.Size a b c d e f g h i j ns words = ap (spec.alone words) (form_size v a b c (d ∷ e ∷ f ∷ g ∷ h ∷ i ∷ j ∷ ns)) ∙ form_alone words
too_many v rank.Primary a b c d e f g h i j ns words = ap (spec.alone words) (form_primary v a b (c ∷ d ∷ e ∷ f ∷ g ∷ h ∷ i ∷ j ∷ ns)) ∙ form_alone words
too_many v rank.Shell a b c d e f g h i j ns words = form_shell v a b c d (e ∷ f ∷ g ∷ h ∷ i ∷ j ∷ ns) words
too_many v rank.Box a b c d e f g h i j ns words = ap (spec.alone words) (form_box v a b c d e f g h i j ns) ∙ form_alone words
too_many v rank.Cell a b c d e f g h i j ns words = refl
too_many v rank.End a b c d e f g h i j ns words = form_alone words

few_kept : (v : CertFormat) (r : Rank) (numbers : List ℤ) (words others : List (List ℕ)) → length numbers < 10 → words ≡ others
    → said_by v r (take 10 (map capped numbers)) words ≡ said_by v r numbers others
few_kept v r numbers words others few same =
    let long = length-map numbers capped in
    ap (λ (ns : List ℤ). said_by v r ns words) (take_all 10 (map capped numbers) (omega arith)) ∙ all_kept v r numbers words ∙ ap (said_by v r numbers) same

-- the numbers that are kept, and the words behind them, say what all numbers and words say
pub said_by_kept : (v : CertFormat) (r : Rank) (numbers : List ℤ) (words others : List (List ℕ)) → (length numbers < 10 → words ≡ others)
    → said_by v r (take 10 (map capped numbers)) words ≡ said_by v r numbers others
said_by_kept v r (a ∷ b ∷ c ∷ d ∷ e ∷ f ∷ g ∷ h ∷ i ∷ j ∷ ns) words others same =
    too_many v r (capped a) (capped b) (capped c) (capped d) (capped e) (capped f) (capped g) (capped h) (capped i) (capped j) [] words ∙ sym (too_many v r a b c d e f g h i j ns others)
said_by_kept v r numbers words others same = few_kept v r numbers words others (omega arith) (same (omega arith))
