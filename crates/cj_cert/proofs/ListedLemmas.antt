-- Listed shells and boxes hold the objects.
use Rattle.std.proofs.Common.{◌≡◌, ℕ, zero, suc, ◌+◌, ◌-◌, ◌<◌, ◌≤◌, ◌&&◌, Bool, true, false, cond, eqb, List}
use Rattle.std.proofs.Common.{[], ◌∷◌, length, map, filter, Option, Some, None, refl, sym, ap, ◌∙◌, subst, inl, inr, arith}
use Rattle.std.specs.Prelude.{◌==◌, All, IfSome, IsSomeAnd, is_some, nat_le, option_map, option_and_then, slice_get}
use Rattle.std.specs.List.{enumerate_from, find, flat_map, list_any, range_with_len}
use Rattle.std.proofs.lemmas.Bool.{and_parts, or_parts, cases_eq, eqb-true, eq-eqb, leb-true, false_from_ne_true}
use Rattle.std.proofs.lemmas.Bool.Decides.{nat_tests}
use Rattle.std.proofs.lemmas.Option.{get_or_from_slice_get, slice_get-map, slice_get_within}
use Rattle.cj_interval.proofs.ListLemmas.{Each, Exists, Each-weaker, Each-map, Each-flat_map, Each-range, Each-exists}
use Rattle.cj_interval.proofs.ListLemmas.{Exists-filter, Exists-flat_map, Exists-map, Exists-weaker, Exists-range, each_at, each_from_All}
use Rattle.cj_interval.proofs.RangeLemmas.{Exists-enumerated}
use Rattle.cj_track.specs.PlainTracks.{PlainTrack}
use Rattle.cj_case.specs.PlainProblems.{PlainProblem}
use Rattle.cj_hermite.specs.Pieces.{piece_holding, piece_at, curve_of_piece}
use Rattle.cj_hermite.specs.Roots.{slots_of}
use Rattle.cj_case.specs.Slots.{slot_first, slot_last, slot_count}
use Rattle.cj_hermite.specs.Walks.{HasNone}
use Rattle.cj_case.specs.declared.shells.Shell.{Shell}
use Rattle.cj_bezier.specs.Enclosed.{IsInShell, IsInBox, AreInShells, AreInBoxes}
use Rattle.cj_bezier.specs.Gaps.{gap_terms}
use Rattle.cj_bezier.specs.Parts.{AreInTime, hulls_of}
use Rattle.cj_bezier.specs.Shells.{IsInner, IsOuter, IsRadiusWithin, shell_in}
use Rattle.cj_case.specs.Boxes.{PlainBox}
use Rattle.cj_bezier.specs.SlotBoxes.{IsPlaceIn, reaches_in}
use Rattle.cj_bezier.proofs.BoxRoundLemmas.{IsWithinReaches, places_lie}
use Rattle.cj_bezier.proofs.ShellRoundLemmas.{inner_test, outer_test, radii_hold}
use Rattle.cj_cert.specs.declared.cert_lines.ShellLine.{ShellLine}
use Rattle.cj_cert.specs.Accepted.{ShowsRadii, IsShellOver, AreShells, IsHullIn, has_state_in, slots_with_states, HoldsHulls, AreBoxes}
use Rattle.cj_cert.specs.Certificates.{PlainBoxLine, PlainCertificate}
use Rattle.cj_cert.specs.Listed.{slots_of_line, is_line_of, box_listed, boxes_listed, shells_listed}
use Rattle.cj_cert.specs.Reaches.{AllStayNear, StaysNear}

-- the pieces of each object come in order of time
abbrev pub AreAllInTime : PlainProblem → Type 0
AreAllInTime case = (i : ℕ) (e : PlainTrack) → slice_get case.tracks i ≡ Some e → (from to : ℕ) → AreInTime e from to

-- the pieces of objects that stay near come in order of time
pub near_in_time : (case : PlainProblem) → AllStayNear case → AreAllInTime case
near_in_time case near i e is from to =
    let stays : StaysNear e = subst StaysNear (get_or_from_slice_get case.tracks i e e is) (near i e (slice_get_within case.tracks i e is)) in
    stays.time from to

-- ---- places in lists

pub range_at : (a n i : ℕ) → i < n → slice_get (range_with_len a n) i ≡ Some (a + i)
range_at a zero i lt = absurd (omega arith)
range_at a (suc n) zero lt = let same : a ≡ a + 0 = omega arith in ap (λ (k : ℕ). Some k) same
range_at a (suc n) (suc i) lt = let same : a + 1 + i ≡ a + suc i = omega arith in range_at (a + 1) n i (omega arith) ∙ ap (λ (k : ℕ). Some k) same

-- the line of an object, where there is one for each in order
line_at : (n count i : ℕ) (lines : List ShellLine) → map (λ line. line.object) lines ≡ range_with_len n count → i < count → IsSomeAnd (slice_get lines i) (λ line. line.object ≡ n + i)
line_at n zero i lines same lt = absurd (omega arith)
line_at n (suc count) i [] same lt = absurd cc
line_at n (suc count) zero (l ∷ lines) same lt = let here : l.object ≡ n = cc in omega arith
line_at n (suc count) (suc i) (l ∷ lines) same lt =
    let rest : map (λ line. line.object) lines ≡ range_with_len (n + 1) count = cc in
    let at : n + 1 + i ≡ n + suc i = omega arith in
    subst (λ (k : ℕ). IsSomeAnd (slice_get lines i) (λ line. line.object ≡ k)) at (line_at (n + 1) count i lines rest (omega arith))

-- ---- shells

in_one_shell : (e : PlainTrack) (from to : ℕ) (shell : Option Shell) → AreInTime e from to → IsShellOver e from to shell → IsInShell from to e shell
in_one_shell e from to None time none = record { none = λ is. none; holds = λ s is. absurd cc }
in_one_shell e from to (Some t) time over = record {
  none = λ is. absurd cc;
  holds = λ s is m low high.
      let same : t ≡ s = cc in
      subst (λ (u : Shell). IfSome (piece_holding e m) (λ x. IsRadiusWithin (curve_of_piece x) m u.lo u.hi)) same
      (radii_hold e from to t.lo t.hi m time
      (inner_test (hulls_of e from to) t.lo (Each-weaker (ShowsRadii t) (λ h. IsInner (gap_terms h) t.lo) (λ h shows. shows.inner) (hulls_of e from to)
      (each_from_All (ShowsRadii t) (hulls_of e from to) over.1)))
      (outer_test (hulls_of e from to) t.hi (Each-weaker (ShowsRadii t) (λ h. IsOuter (gap_terms h) t.hi) (λ h shows. shows.outer) (hulls_of e from to)
      (each_from_All (ShowsRadii t) (hulls_of e from to) over.1)))
      low high);
}

pub in_shells : (case : PlainProblem) (c : PlainCertificate) → AreAllInTime case → AreShells case c.shells → AreInShells case (shells_listed c)
in_shells case c time are i e is = go (slice_get c.shells i) refl (line_at 0 (length case.tracks) i c.shells are.objects (slice_get_within case.tracks i e is))
  where
    go : (o : Option ShellLine) → slice_get c.shells i ≡ o → IsSomeAnd o (λ line. line.object ≡ 0 + i) → IsInShell case.first case.last e (shell_in (shells_listed c) i)
    go None at line = absurd line
    go (Some l) at line =
        let object : i ≡ l.object = omega arith in
        let own : slice_get case.tracks l.object ≡ Some e = subst (λ (k : ℕ). slice_get case.tracks k ≡ Some e) object is in
        let hold = each_at (λ line. IsSomeAnd (slice_get case.tracks line.object) (λ e. IsShellOver e case.first case.last line.shell)) c.shells i l
        (each_from_All (λ line. IsSomeAnd (slice_get case.tracks line.object) (λ e. IsShellOver e case.first case.last line.shell)) c.shells are.hold) at in
        let over : IsShellOver e case.first case.last l.shell = subst (λ (o : Option PlainTrack). IsSomeAnd o (λ e. IsShellOver e case.first case.last l.shell)) own hold in
        let listed : shell_in (shells_listed c) i ≡ l.shell =
        ap (λ (o : Option (Option Shell)). option_and_then (λ s. s) o) (slice_get-map (λ line. line.shell) c.shells i ∙ ap (λ (o : Option ShellLine). option_map (λ line. line.shell) o) at) in
        subst (λ (s : Option Shell). IsInShell case.first case.last e s) (sym listed) (in_one_shell e case.first case.last l.shell (time i e is case.first case.last) over)

-- ---- slots in which there is a state

no_state_in : (p : ℕ → Bool) (a n : ℕ) → list_any p (range_with_len a n) ≡ false → (k : ℕ) → a ≤ k → k < a + n → p k ≡ false
no_state_in p a zero none k low high = absurd (omega arith)
no_state_in p a (suc n) none k low high =
    let both = or_parts (p a) (list_any p (range_with_len (a + 1) n)) none in
    elim (cases_eq k a) [
      | inl same ↦ subst (λ (i : ℕ). p i ≡ false) (sym same) both.0
      | inr other ↦ no_state_in p (a + 1) n both.1 k (omega arith) (omega arith)
    ]

pub no_state : (case : PlainProblem) (e : PlainTrack) (slot : ℕ) → has_state_in case e slot ≡ false → HasNone e (slot_first case.first slot) (slot_last case.first case.last slot)
no_state case e slot none m low high = go (piece_at e m) refl
  where
    fails : is_some (piece_at e m) ≡ false
    fails =
        let from = slot_first case.first slot in
        let to = slot_last case.first case.last slot in
        no_state_in (λ m. is_some (piece_at e m)) from (to + 1 - from) none m low (omega arith)

    go : (o : Option ℕ) → piece_at e m ≡ o → o ≡ None
    go None is = refl
    go (Some i) is = let fails = fails in let has : is_some (piece_at e m) ≡ true = ap is_some is in absurd cc

-- what is made of an object, among what is made of all
of_object : (P : ℕ × ℕ → Type 0) (f : ℕ × PlainTrack → List (ℕ × ℕ)) (n i : ℕ) (es : List PlainTrack) (e : PlainTrack) → slice_get es i ≡ Some e
    → Exists P (f (n + i, e)) → Exists P (flat_map f (enumerate_from n es))
of_object P f n i es e is here = Exists-flat_map P f (enumerate_from n es) (Exists-enumerated (λ object. Exists P (f object)) n i es e is here)

pair_is : (i k slot : ℕ) → k ≡ slot → ◌≡◌ {A = ℕ × ℕ} (0 + i, k) (i, slot)
pair_is i k slot same = let own : 0 + i ≡ i = omega arith in λ j. (own j, same j)

-- a slot of an object with a state is one of the slots with states
has_slot : (case : PlainProblem) (i slot : ℕ) (e : PlainTrack) → slice_get case.tracks i ≡ Some e → slot < slot_count case.first case.last → has_state_in case e slot ≡ true
    → Exists (λ p. p ≡ (i, slot)) (slots_with_states case)
has_slot case i slot e is lt some =
    of_object (λ p. p ≡ (i, slot)) (λ object. map (λ k. (object.0, k)) (filter (has_state_in case object.1) (slots_of case))) 0 i case.tracks e is
    (Exists-map (λ p. p ≡ (i, slot)) (λ (k : ℕ). let p : ℕ × ℕ = (0 + i, k) in p) (filter (has_state_in case e) (slots_of case))
    (Exists-filter (λ k. ◌≡◌ {A = ℕ × ℕ} (0 + i, k) (i, slot)) (has_state_in case e) (slots_of case)
    (Exists-weaker (λ k. k ≡ slot) (λ k. (◌≡◌ {A = ℕ × ℕ} (0 + i, k) (i, slot)) × (has_state_in case e k ≡ true))
    (λ k same. (pair_is i k slot same, subst (λ (j : ℕ). has_state_in case e j ≡ true) (sym same) some))
    (slots_of case) (Exists-range 0 (slot_count case.first case.last) slot (omega arith) (omega arith)))))

-- ---- boxes

-- a line of an object and a slot
pub line_tells : (object slot : ℕ) (line : PlainBoxLine) → line.object ≡ object → line.first ≤ slot → slot ≤ line.last → is_line_of object slot line ≡ true
line_tells object slot line same low high = let e : eqb line.object object ≡ true = eq-eqb line.object object same in grind (arith, nat_tests)

pub record IsToldBy (object slot : ℕ) (line : PlainBoxLine) : Type 0 where
  pub own : line.object ≡ object
  pub low : line.first ≤ slot
  pub high : slot ≤ line.last

pub told_by : (object slot : ℕ) (line : PlainBoxLine) → is_line_of object slot line ≡ true → IsToldBy object slot line
told_by object slot line is =
    let outer = and_parts (line.object == object && nat_le line.first slot) (nat_le slot line.last) is in
    let inner = and_parts (line.object == object) (nat_le line.first slot) outer.0 in
    record { own = eqb-true line.object object inner.0; low = leb-true line.first slot inner.1; high = leb-true slot line.last outer.1 }

-- a line that does not tell of a slot of an object does not have it
not_of_line : (object slot : ℕ) (line : PlainBoxLine) → is_line_of object slot line ≡ false → Each (λ p. p ≡ (object, slot) → ⊥) (slots_of_line line)
not_of_line object slot line missed =
    Each-map (λ p. p ≡ (object, slot) → ⊥) (λ (k : ℕ). let p : ℕ × ℕ = (line.object, k) in p) (range_with_len line.first (line.last + 1 - line.first))
    (Each-range (λ k. ◌≡◌ {A = ℕ × ℕ} (line.object, k) (object, slot) → ⊥) line.first (line.last + 1 - line.first) (λ k low high same.
    let own : line.object ≡ object = ap (λ (p : ℕ × ℕ). p.0) same in
    let at : k ≡ slot = ap (λ (p : ℕ × ℕ). p.1) same in
    let yes = line_tells object slot line own (omega arith) (omega arith) in
    absurd cc))

find_none : {X : Type 0} (p : X → Bool) (xs : List X) → find p xs ≡ None → Each (λ x. p x ≡ false) xs
find_none p [] none = tt
find_none p (x ∷ xs) none = go (λ h. find_none p xs h) (p x) refl none
  where
    go : (find p xs ≡ None → Each (λ x. p x ≡ false) xs) → (b : Bool) → p x ≡ b → cond b (Some x) (find p xs) ≡ None → (p x ≡ false) × Each (λ x. p x ≡ false) xs
    go rest true is h = absurd cc
    go rest false is h = (is, rest h)

pub find_some : {X : Type 0} (p : X → Bool) (Q : X → Type 0) (xs : List X) (y : X) → Each Q xs → find p xs ≡ Some y → (p y ≡ true) × Q y
find_some p Q [] y each is = absurd cc
find_some {X = X} p Q (x ∷ xs) y each is = go (λ h. find_some p Q xs y each.1 h) (p x) refl is
  where
    go : (find p xs ≡ Some y → (p y ≡ true) × Q y) → (b : Bool) → p x ≡ b → cond b (Some x) (find p xs) ≡ Some y → (p y ≡ true) × Q y
    go rest true passes h = let same : x ≡ y = cc in subst (λ (z : X). (p z ≡ true) × Q z) same (passes, each.0)
    go rest false fails h = rest h

-- the box of a line round an object in one of the line's slots
in_line : (case : PlainProblem) (e : PlainTrack) (i slot m : ℕ) (line : PlainBoxLine) → ((from to : ℕ) → AreInTime e from to) → slice_get case.tracks i ≡ Some e → IsToldBy i slot line
    → HoldsHulls case line
    → slot_first case.first slot ≤ m → m ≤ slot_last case.first case.last slot → IfSome (piece_holding e m) (λ x. IsPlaceIn (curve_of_piece x) m line.area)
in_line case e i slot m line time is told holds low high =
    let from = slot_first case.first slot in
    let to = slot_last case.first case.last slot in
    let own : slice_get case.tracks line.object ≡ Some e = subst (λ (k : ℕ). slice_get case.tracks k ≡ Some e) (sym told.own) is in
    let all : All (IsHullIn line.area) (hulls_of e from to) =
    subst (λ (o : Option PlainTrack). IsSomeAnd o (λ f. All (IsHullIn line.area) (hulls_of f from to))) own (holds slot told.low told.high) in
    places_lie e from to m line.area (time from to)
    (Each-weaker (IsHullIn line.area) (IsWithinReaches line.area) (λ h within. record { x = (within.x_low, within.x_high); y = (within.y_low, within.y_high); z = (within.z_low, within.z_high) })
    (hulls_of e from to)
    (each_from_All (IsHullIn line.area) (hulls_of e from to) all)) low high

pub in_one_box : (case : PlainProblem) (lines : List PlainBoxLine) (e : PlainTrack) (i slot : ℕ) → ((from to : ℕ) → AreInTime e from to) → AreBoxes case lines
    → slice_get case.tracks i ≡ Some e → slot < slot_count case.first case.last
    → IsInBox (slot_first case.first slot) (slot_last case.first case.last slot) e (box_listed lines slot i)
in_one_box case lines e i slot time are is lt = record {
  none = λ missing. no_state case e slot (false_from_ne_true (has_state_in case e slot) (λ some.
      let unfound = find_none (is_line_of i slot) lines (not_found (find (is_line_of i slot) lines) missing) in
      let apart : Each (λ p. p ≡ (i, slot) → ⊥) (flat_map slots_of_line lines) =
      Each-flat_map (λ p. p ≡ (i, slot) → ⊥) slots_of_line lines
      (Each-weaker (λ line. is_line_of i slot line ≡ false) (λ line. Each (λ p. p ≡ (i, slot) → ⊥) (slots_of_line line)) (not_of_line i slot) lines unfound) in
      let here : Exists (λ p. p ≡ (i, slot)) (flat_map slots_of_line lines) = subst (λ (ps : List (ℕ × ℕ)). Exists (λ p. p ≡ (i, slot)) ps) (sym are.slots) (has_slot case i slot e is lt some) in
      nowhere (flat_map slots_of_line lines) (Each-exists (λ p. p ≡ (i, slot) → ⊥) (λ p. p ≡ (i, slot)) (flat_map slots_of_line lines) apart here)));
  holds = λ r found m low high. from_line (find (is_line_of i slot) lines) refl r found m low high;
}
  where
    not_found : (o : Option PlainBoxLine) → option_map (λ line. line.area) o ≡ None → o ≡ None
    not_found None h = refl
    not_found (Some line) h = absurd cc

    nowhere : (ps : List (ℕ × ℕ)) → Exists (λ p. (p ≡ (i, slot) → ⊥) × (p ≡ (i, slot))) ps → ⊥
    nowhere [] here = here
    nowhere (p ∷ ps) (inl both) = both.0 both.1
    nowhere (p ∷ ps) (inr rest) = nowhere ps rest

    from_line : (o : Option PlainBoxLine) → find (is_line_of i slot) lines ≡ o → (r : PlainBox) → option_map (λ line. line.area) o ≡ Some r → (m : ℕ) → slot_first case.first slot ≤ m
        → m ≤ slot_last case.first case.last slot
        → IfSome (piece_holding e m) (λ x. IsPlaceIn (curve_of_piece x) m r)
    from_line None at r found m low high = absurd cc
    from_line (Some line) at r found m low high =
        let area : line.area ≡ r = cc in
        let told = find_some (is_line_of i slot) (HoldsHulls case) lines line (each_from_All (HoldsHulls case) lines are.hold) at in
        subst (λ (b : PlainBox). IfSome (piece_holding e m) (λ x. IsPlaceIn (curve_of_piece x) m b)) area (in_line case e i slot m line time is (told_by i slot line told.0) told.1 low high)

pub in_boxes : (case : PlainProblem) (c : PlainCertificate) → AreAllInTime case → c.objects ≡ length case.tracks → AreBoxes case c.boxes → AreInBoxes case (boxes_listed c)
in_boxes case c time objects are slot i e lt is =
    let below : i < c.objects = omega (arith, slice_get_within case.tracks i e is) in
    let at : slice_get (range_with_len 0 c.objects) i ≡ Some i = range_at 0 c.objects i below ∙ (let same : 0 + i ≡ i = omega arith in ap (λ (k : ℕ). Some k) same) in
    let listed : reaches_in (boxes_listed c slot) i ≡ box_listed c.boxes slot i =
    ap (λ (o : Option (Option PlainBox)). option_and_then (λ box. box) o)
    (slice_get-map (box_listed c.boxes slot) (range_with_len 0 c.objects) i ∙ ap (λ (o : Option ℕ). option_map (box_listed c.boxes slot) o) at) in
    subst (λ (b : Option PlainBox). IsInBox (slot_first case.first slot) (slot_last case.first case.last slot) e b) (sym listed) (in_one_box case c.boxes e i slot (time i e is) are is lt)
