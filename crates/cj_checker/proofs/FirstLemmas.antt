-- There is no first failure exactly where a certificate is accepted.
use Rattle.std.proofs.Common.{◌≡◌, ℕ, suc, ◌+◌, ◌<◌, ◌≤◌, ◌↔◌, Bool, true, false, ◌&&◌, List, [], ◌∷◌, ◌++◌, length, drop, map, Option, Some, None, refl, sym, ap, ◌∙◌, subst, inl, inr, arith}
use Rattle.std.specs.Prelude.{IsSomeAnd, ◌==◌, if◌then◌else◌, nat_le, slice_get}
use Rattle.std.specs.Bool.{Decides}
use Rattle.std.specs.List.{AllZip, enumerate_from, flat_map, range_with_len}
use Rattle.std.specs.Option.{option_or}
use Rattle.std.proofs.lemmas.Bool.{cases_eq, eqb-true, false_from_ne_true}
use Rattle.std.proofs.lemmas.Bool.Decides.{Decides-and, Decides-eqb}
use Rattle.cj_interval.proofs.ListLemmas.{Each, Each-weaker, Each-both, All-from_each, each_from_All}
use Rattle.cj_track.specs.PlainTracks.{PlainTrack}
use Rattle.cj_case.specs.PlainProblems.{PlainProblem}
use Rattle.cj_case.specs.Cells.{PlainCell}
use Rattle.cj_hermite.specs.Roots.{roots_of}
use Rattle.cj_hermite.proofs.RootLemmas.{IsRootOf, Each-roots}
use Rattle.cj_case.specs.Leaves.{PlainLeaf}
use Rattle.cj_bezier.specs.Tiles.{IsLeaf, Tile}
use Rattle.cj_cert.specs.declared.cert_lines.ShellLine.{ShellLine}
use Rattle.cj_cert.specs.declared.cert_lines.SizeOfLine.{SizeOfLine}
use Rattle.cj_cert.specs.Accepted.{AreSizesIn, AreShells, IsShellOver, slots_with_states, HoldsHulls, AreBoxes, IsSupported, TileRoots, Accepted}
use Rattle.cj_cert.specs.Certificates.{PlainBoxLine, PlainCertificate}
use Rattle.cj_cert.specs.Listed.{slots_of_line, is_candidate_listed}
use Rattle.cj_formats.specs.declared.check_cause.CheckCause.{CheckCause}
use Rattle.cj_formats.specs.declared.check_cause.CheckCause.TheVariants.{Header, SizeOf, ShellOf, BoxOf, Untiled, Stranger}
use Rattle.cj_formats.specs.declared.cert_version.CertVersion.{CertVersion}
use Rattle.cj_formats.specs.declared.cert_version.CertVersion.TheVariants.{One, Two}
use Rattle.cj_checker.specs.Tests.{is_size_line, is_shell_over, is_shell_line, is_box_line, are_in_front, holds_hulls, is_supported}
use Rattle.cj_checker.specs.First.{failed, header_failure, first_unfit, first_line, size_failure_in, size_failure, first_shell_line, shell_failure, Failure, shells_from}
use Rattle.cj_checker.specs.First.{unlisted, boxes_from, first_box_line, box_failure, begins, comes_after, behind, unsupported, cells_from, first_cell_line, cell_failure, first_failure}
use Rattle.cj_checker.proofs.CauseLemmas.{behind_last, cells_done}
use Rattle.cj_checker.proofs.TestLemmas.{decides_same, decides_shell, decides_holds, decides_front, decides_nat_le, decides_supported}

-- ---- failures one after another

pub neither_fails : (o p : Option Failure) → (option_or o p ≡ None) ↔ ((o ≡ None) × (p ≡ None))
neither_fails None p = (λ h. (refl, h), λ both. both.1)
neither_fails (Some f) p = (λ h. absurd cc, λ both. let wrong : ◌≡◌ {A = Option Failure} (Some f) None = both.0 in absurd cc)

-- a failure where a test fails, and else another
pub tested : {P : Type 0} (b : Bool) (line : ℕ) (cause : CheckCause) (o : Option Failure) → Decides b P → ((if b then o else failed line cause) ≡ None) ↔ (P × (o ≡ None))
tested true line cause o d = (λ h. (d.0 refl, h), λ both. both.1)
tested false line cause o d = (λ h. absurd cc, λ both. let wrong : false ≡ true = d.1 both.0 in absurd cc)

-- ---- what it was made for

pub record IsFor (case : PlainProblem) (c : PlainCertificate) : Type 0 where
  pub first : c.first ≡ case.first
  pub last : c.last ≡ case.last
  pub threshold : c.threshold ≡ case.threshold
  pub objects : c.objects ≡ length case.tracks

pub header_law : (case : PlainProblem) (c : PlainCertificate) → (header_failure case c ≡ None) ↔ IsFor case c
unfolding header_failure
header_law case c =
    let count = length case.tracks in
    let third = tested (c.objects == count) 4 Header None (Decides-eqb c.objects count) in
    let second = tested (c.threshold == case.threshold) 3 Header (if c.objects == count then None else failed 4 Header) (Decides-eqb c.threshold case.threshold) in
    let first =
    tested ((c.first == case.first) && (c.last == case.last)) 2 Header (if c.threshold == case.threshold then (if c.objects == count then None else failed 4 Header) else failed 3 Header)
    (Decides-and (c.first == case.first) (c.last == case.last) (Decides-eqb c.first case.first) (Decides-eqb c.last case.last)) in (
      λ h.
          let a = first.0 h in
          let window = a.0 in
          let b = second.0 a.1 in
          let d = third.0 b.1 in
          record { first = window.0; last = window.1; threshold = b.0; objects = d.0 },
      λ is. first.1 ((is.first, is.last), second.1 (is.threshold, third.1 (is.objects, refl))),
    )

-- ---- sizes

sizes_law : (n at : ℕ) (sizes : List ℕ) (lines : List SizeOfLine)
    → (first_unfit is_size_line SizeOf at (enumerate_from n sizes) lines ≡ None) ↔ (map (λ line. (line.object, line.size)) lines ≡ enumerate_from n sizes)
unfolding first_unfit
sizes_law n at [] [] = (λ h. refl, λ same. refl)
sizes_law n at [] (l ∷ lines) = (λ h. absurd cc, λ same. absurd cc)
sizes_law n at (s ∷ sizes) [] = (λ h. absurd cc, λ same. absurd cc)
sizes_law n at (s ∷ sizes) (l ∷ lines) =
    let here =
    tested (is_size_line (n, s) l) at SizeOf (first_unfit is_size_line SizeOf (at + 1) (enumerate_from (n + 1) sizes) lines)
    (Decides-and (l.object == n) (l.size == s) (Decides-eqb l.object n) (Decides-eqb l.size s)) in
    let rest = sizes_law (n + 1) (at + 1) sizes lines in (
      λ h.
          let both = here.0 h in
          let own = both.0 in
          let object = own.0 in
          let size = own.1 in
          let more = rest.0 both.1 in
          λ j. (object j, size j) ∷ more j,
      λ same.
          let head : ◌≡◌ {A = ℕ × ℕ} (l.object, l.size) (n, s) = cc in
          let tail : map (λ line. (line.object, line.size)) lines ≡ enumerate_from (n + 1) sizes = cc in
          here.1 ((ap (λ (p : ℕ × ℕ). p.0) head, ap (λ (p : ℕ × ℕ). p.1) head), rest.1 tail),
    )

pub size_law : (version : CertVersion) (case : PlainProblem) (lines : List SizeOfLine) → (size_failure_in version case lines ≡ None) ↔ AreSizesIn version case lines
size_law One case lines = (λ h. tt, λ h. refl)
size_law Two case lines = sizes_law 0 first_line case.sizes lines

-- ---- shells

-- the line of an object, with its shell from one tick to another
abbrev IsLineOf : List PlainTrack → ℕ → ℕ → ShellLine → Type 0
IsLineOf all from to line = IsSomeAnd (slice_get all line.object) (λ e. IsShellOver e from to line.shell)

shells_law : (from to : ℕ) (all : List PlainTrack) (n at : ℕ) (es : List PlainTrack) (lines : List ShellLine) → ((i : ℕ) → slice_get es i ≡ slice_get all (n + i))
    → (first_unfit (is_shell_line from to) ShellOf at (enumerate_from n es) lines ≡ None) ↔ ((map (λ line. line.object) lines ≡ range_with_len n (length es)) × Each (IsLineOf all from to) lines)
unfolding first_unfit
shells_law from to all n at [] [] places = (λ h. (refl, tt), λ same. refl)
shells_law from to all n at [] (l ∷ lines) places = (λ h. absurd cc, λ both. let same = both.0 in absurd cc)
shells_law from to all n at (e ∷ es) [] places = (λ h. absurd cc, λ both. let same = both.0 in absurd cc)
shells_law from to all n at (e ∷ es) (l ∷ lines) places =
    let here =
    tested (is_shell_line from to (n, e) l) at ShellOf (first_unfit (is_shell_line from to) ShellOf (at + 1) (enumerate_from (n + 1) es) lines)
    (Decides-and (l.object == n) (is_shell_over e from to l.shell) (Decides-eqb l.object n) (decides_shell e from to l.shell)) in
    let rest = shells_law from to all (n + 1) (at + 1) es lines
    (λ i. let k : n + suc i ≡ n + 1 + i = omega arith in places (suc i) ∙ ap (λ (j : ℕ). slice_get all j) k) in
    let there : l.object ≡ n → ◌≡◌ {A = Option PlainTrack} (Some e) (slice_get all l.object) =
    λ own. let k : n + 0 ≡ l.object = omega arith in places 0 ∙ ap (λ (j : ℕ). slice_get all j) k in (
      λ h.
          let both = here.0 h in
          let own = both.0 in
          let object = own.0 in
          let more = rest.0 both.1 in
          let objects = more.0 in (
            λ j. object j ∷ objects j,
            (subst (λ (o : Option PlainTrack). IsSomeAnd o (λ f. IsShellOver f from to l.shell)) (there object) own.1, more.1),
          ),
      λ both.
          let same = both.0 in
          let each = both.1 in
          let object : l.object ≡ n = cc in
          let objects : map (λ line. line.object) lines ≡ range_with_len (n + 1) (length es) = cc in
          let over : IsShellOver e from to l.shell =
          subst (λ (o : Option PlainTrack). IsSomeAnd o (λ f. IsShellOver f from to l.shell)) (sym (there object)) each.0 in
          here.1 ((object, over), rest.1 (objects, each.1)),
    )

pub shells_from_law : (case : PlainProblem) (line : ℕ) (shells : List ShellLine) → (shells_from case line shells ≡ None) ↔ AreShells case shells
shells_from_law case line shells =
    let law = shells_law case.first case.last case.tracks 0 line case.tracks shells
    (λ i. let k : i ≡ 0 + i = omega arith in ap (λ (j : ℕ). slice_get case.tracks j) k) in (
      λ h. let both = law.0 h in record { objects = both.0; hold = All-from_each (IsLineOf case.tracks case.first case.last) shells both.1 },
      λ are. law.1 (are.objects, each_from_All (IsLineOf case.tracks case.first case.last) shells are.hold),
    )

pub shell_law : (case : PlainProblem) (c : PlainCertificate) → (shell_failure case c ≡ None) ↔ AreShells case c.shells
shell_law case c = shells_from_law case (first_shell_line c) c.shells

-- ---- boxes

-- what holds of the line of a box by itself
record IsBoxLine (case : PlainProblem) (line : PlainBoxLine) : Type 0 where
  some : line.first ≤ line.last
  holds : HoldsHulls case line

drop_front : {X : Type 0} (xs ys : List X) → drop (length xs) (xs ++ ys) ≡ ys
drop_front [] ys = refl
drop_front (x ∷ xs) ys = drop_front xs ys

none_left : (left : List (ℕ × ℕ)) (at : ℕ) → (unlisted at left ≡ None) ↔ ([] ≡ left)
none_left [] at = (λ h. refl, λ same. refl)
none_left (place ∷ left) at = (λ h. absurd cc, λ same. absurd cc)

boxes_law : (case : PlainProblem) (at : ℕ) (left : List (ℕ × ℕ)) (lines : List PlainBoxLine)
    → (boxes_from case at left lines ≡ None) ↔ ((flat_map slots_of_line lines ≡ left) × Each (IsBoxLine case) lines)
unfolding boxes_from
boxes_law case at left [] = let none = none_left left at in (λ h. (none.0 h, tt), λ both. none.1 both.0)
boxes_law case at left (b ∷ lines) =
    let own = slots_of_line b in
    let after = drop (length own) left in
    let here =
    tested (is_box_line case left b) at BoxOf (boxes_from case (at + 1) after lines)
    (Decides-and (nat_le b.first b.last) (are_in_front own left && holds_hulls case b) (decides_nat_le b.first b.last)
    (Decides-and (are_in_front own left) (holds_hulls case b) (decides_front own left) (decides_holds case b))) in
    let rest = boxes_law case (at + 1) after lines in (
      λ h.
          let both = here.0 h in
          let is = both.0 in
          let more = rest.0 both.1 in
          (ap (λ (ps : List (ℕ × ℕ)). own ++ ps) more.0 ∙ is.1.0, (record { some = is.0; holds = is.1.1 }, more.1)),
      λ both.
          let each = both.1 in
          let line = each.0 in
          let whole : own ++ flat_map slots_of_line lines ≡ left = both.0 in
          let tail : flat_map slots_of_line lines ≡ after = sym (drop_front own (flat_map slots_of_line lines)) ∙ ap (λ (ps : List (ℕ × ℕ)). drop (length own) ps) whole in
          let front : own ++ after ≡ left = ap (λ (ps : List (ℕ × ℕ)). own ++ ps) (sym tail) ∙ whole in
          here.1 ((line.some, (front, line.holds)), rest.1 (tail, each.1)),
    )

pub box_law : (case : PlainProblem) (c : PlainCertificate) → (box_failure case c ≡ None) ↔ AreBoxes case c.boxes
box_law case c =
    let law = boxes_law case (first_box_line c) (slots_with_states case) c.boxes in (
      λ h.
          let both = law.0 h in
          record {
            some = All-from_each (λ line. line.first ≤ line.last) c.boxes (Each-weaker (IsBoxLine case) (λ line. line.first ≤ line.last) (λ line is. is.some) c.boxes both.1);
            slots = both.0;
            hold = All-from_each (HoldsHulls case) c.boxes (Each-weaker (IsBoxLine case) (HoldsHulls case) (λ line is. is.holds) c.boxes both.1);
          },
      λ are.
          law.1 (
            are.slots,
            Each-weaker (λ line. (line.first ≤ line.last) × HoldsHulls case line) (IsBoxLine case) (λ line both. record { some = both.0; holds = both.1 }) c.boxes
                (Each-both (λ line. line.first ≤ line.last) (HoldsHulls case) c.boxes
                (each_from_All (λ line. line.first ≤ line.last) c.boxes are.some) (each_from_All (HoldsHulls case) c.boxes are.hold)),
          ),
    )

-- ---- cells

-- the cell is of the root's objects, begins with it, and ends in it
record Begins (r : PlainCell) (s : PlainLeaf) : Type 0 where
  first_object : s.a ≡ r.a
  second_object : s.b ≡ r.b
  first : s.first ≡ r.first
  some : s.first ≤ s.last
  to : s.last ≤ r.last

decides_begins : (r : PlainCell) (s : PlainLeaf) → Decides (begins r s) (Begins r s)
decides_begins r s =
    decides_same (begins r s)
    (λ h. let objects = h.0 in let ticks = h.1 in record { first_object = objects.0; second_object = objects.1; first = ticks.0; some = ticks.1.0; to = ticks.1.1 })
    (λ h. ((h.first_object, h.second_object), (h.first, (h.some, h.to))))
    (Decides-and _ _ (Decides-and _ _ (Decides-eqb s.a r.a) (Decides-eqb s.b r.b))
    (Decides-and _ _ (Decides-eqb s.first r.first) (Decides-and _ _ (decides_nat_le s.first s.last) (decides_nat_le s.last r.last))))

-- what fails where a cell does not begin the root that is left
abbrev misplaced : ℕ → Bool → Option Failure
misplaced line after = if after then failed line Untiled else failed line Stranger

never_none : (line : ℕ) (after : Bool) → misplaced line after ≡ None → ⊥
never_none line true h = absurd cc
never_none line false h = absurd cc

begun : (b : Bool) (line : ℕ) (after : Bool) (o : Option Failure) {P : Type 0} → Decides b P → ((if b then o else misplaced line after) ≡ None) ↔ (P × (o ≡ None))
begun true line after o d = (λ h. (d.0 refl, h), λ both. both.1)
begun false line after o d = (λ h. absurd (never_none line after h), λ both. let wrong : false ≡ true = d.1 both.0 in absurd cc)

abbrev TileEach : PlainProblem → List PlainCell → List (List PlainLeaf) → Type 0
TileEach case roots parts = AllZip (λ r part. Tile (IsSupported case) r.a r.b r.first r.last part) roots parts

abbrev joined : List (List PlainLeaf) → List PlainLeaf
joined parts = flat_map (λ part. part) parts

-- the roots that are left behind a cell, by where it ends
before_end : (s : PlainLeaf) (r : PlainCell) (roots : List PlainCell) → (s.last ≡ r.last → ⊥) → behind s r roots ≡ record { a = r.a; b = r.b; first = s.last + 1; last = r.last } ∷ roots
before_end s r roots other =
    let other_is : (s.last == r.last) ≡ false = false_from_ne_true (s.last == r.last) (λ yes. other (eqb-true s.last r.last yes)) in
    rw other_is refl

-- what is left of a root behind a cell
abbrev rest_of : PlainLeaf → PlainCell → PlainCell
rest_of s r = record { a = r.a; b = r.b; first = s.last + 1; last = r.last }

leaf_of : (case : PlainProblem) (r : PlainCell) (s : PlainLeaf) → Begins r s → IsSupported case s → IsLeaf (IsSupported case) r.a r.b r.first r.last s
leaf_of case r s is support =
    let from : r.first ≤ s.first = omega (arith, is.first) in
    record { first_object = is.first_object; second_object = is.second_object; from = from; some = is.some; to = is.to; judged = support }

-- a cell more, in front of those that tile the rest of its root
in_root : (case : PlainProblem) (r : PlainCell) (roots : List PlainCell) (s : PlainLeaf) (cells : List PlainLeaf) (parts : List (List PlainLeaf)) → Begins r s → IsSupported case s
    → cells ≡ joined parts → TileEach case (rest_of s r ∷ roots) parts → TileRoots (IsSupported case) (r ∷ roots) (s ∷ cells)
in_root case r roots s cells [] is support whole tiles = absurd tiles
in_root case r roots s cells (part ∷ parts) is support whole tiles =
    record { parts = (s ∷ part) ∷ parts; whole = λ j. s ∷ whole j; tiles = ((is.first, (leaf_of case r s is support, tiles.0)), tiles.1) }

-- a cell more, which ends its root
at_last : (case : PlainProblem) (r : PlainCell) (roots : List PlainCell) (s : PlainLeaf) (cells : List PlainLeaf) → Begins r s → IsSupported case s → s.last ≡ r.last
    → TileRoots (IsSupported case) roots cells → TileRoots (IsSupported case) (r ∷ roots) (s ∷ cells)
at_last case r roots s cells is support same tile =
    let last : s.last + 1 ≡ r.last + 1 = omega arith in
    let whole = tile.whole in
    record { parts = (s ∷ []) ∷ tile.parts; whole = λ j. s ∷ whole j; tiles = ((is.first, (leaf_of case r s is support, last)), tile.tiles) }

one_more : (case : PlainProblem) (r : PlainCell) (roots : List PlainCell) (s : PlainLeaf) (cells : List PlainLeaf) → Begins r s → IsSupported case s
    → TileRoots (IsSupported case) (behind s r roots) cells → TileRoots (IsSupported case) (r ∷ roots) (s ∷ cells)
one_more case r roots s cells is support tile = elim (cases_eq s.last r.last) [
  | inl same ↦ at_last case r roots s cells is support same (subst (λ (rs : List PlainCell). TileRoots (IsSupported case) rs cells) (behind_last s r roots same) tile)
  | inr other ↦
      let left : TileRoots (IsSupported case) (rest_of s r ∷ roots) cells = subst (λ (rs : List PlainCell). TileRoots (IsSupported case) rs cells) (before_end s r roots other) tile in
      in_root case r roots s cells left.parts is support left.whole left.tiles
]

tiles_from : (case : PlainProblem) (at : ℕ) (roots : List PlainCell) (cells : List PlainLeaf) → cells_from case at roots cells ≡ None → TileRoots (IsSupported case) roots cells
unfolding cells_from
tiles_from case at [] [] h = record { parts = []; whole = refl; tiles = tt }
tiles_from case at (r ∷ roots) [] h = absurd cc
tiles_from case at [] (s ∷ cells) h = absurd cc
tiles_from case at (r ∷ roots) (s ∷ cells) h =
    let o = cells_from case (at + 1) (behind s r roots) cells in
    let a = (begun (begins r s) at (comes_after r s) (if is_supported case s then o else failed at (unsupported s.kind)) (decides_begins r s)).0 h in
    let b = (tested (is_supported case s) at (unsupported s.kind) o (decides_supported case s)).0 a.1 in
    one_more case r roots s cells a.0 b.0 (tiles_from case (at + 1) (behind s r roots) cells b.1)

-- roots that have ticks
abbrev HaveTicks : List PlainCell → Type 0
HaveTicks roots = Each (λ r. r.first ≤ r.last) roots

pub no_more : (P : PlainLeaf → Type 0) (a b lo hi : ℕ) (part : List PlainLeaf) → hi < lo → Tile P a b lo hi part → part ≡ []
no_more P a b lo hi [] lt tile = refl
no_more P a b lo hi (t ∷ part) lt tile = let leaf = tile.1.0 in absurd (omega (arith, leaf.from, leaf.some, leaf.to))

-- a cell that begins a part of the first root does not fail
front_none : (case : PlainProblem) (at : ℕ) (r : PlainCell) (roots : List PlainCell) (s : PlainLeaf) (cells part : List PlainLeaf) (parts : List (List PlainLeaf)) → HaveTicks (r ∷ roots)
    → Tile (IsSupported case) r.a r.b r.first r.last (s ∷ part) → cells ≡ part ++ joined parts → TileEach case roots parts
    → ((rs : List PlainCell) (more : List (List PlainLeaf)) → HaveTicks rs → cells ≡ joined more → TileEach case rs more → cells_from case (at + 1) rs cells ≡ None)
    → cells_from case at (r ∷ roots) (s ∷ cells) ≡ None
unfolding cells_from
front_none case at r roots s cells part parts ticks tile tail tiles rest =
    let leaf = tile.1.0 in
    let after : Tile (IsSupported case) r.a r.b (s.last + 1) r.last part = tile.1.1 in
    let is : Begins r s = record { first_object = leaf.first_object; second_object = leaf.second_object; first = tile.0; some = leaf.some; to = leaf.to } in
    let o = cells_from case (at + 1) (behind s r roots) cells in
    let more : cells_from case (at + 1) (behind s r roots) cells ≡ None =
    elim (cases_eq s.last r.last) [
      | inl same ↦
          let none : part ≡ [] = no_more (IsSupported case) r.a r.b (s.last + 1) r.last part (omega arith) after in
          subst (λ (rs : List PlainCell). cells_from case (at + 1) rs cells ≡ None) (sym (behind_last s r roots same))
          (rest roots parts ticks.1 (tail ∙ ap (λ (p : List PlainLeaf). p ++ joined parts) none) tiles)
      | inr other ↦
          let some : s.last + 1 ≤ r.last = omega (arith, leaf.to) in
          subst (λ (rs : List PlainCell). cells_from case (at + 1) rs cells ≡ None) (sym (before_end s r roots other))
          (rest (rest_of s r ∷ roots) (part ∷ parts) (some, ticks.1) tail (after, tiles))
    ] in
    (begun (begins r s) at (comes_after r s) (if is_supported case s then o else failed at (unsupported s.kind)) (decides_begins r s)).1
    (is, (tested (is_supported case s) at (unsupported s.kind) o (decides_supported case s)).1 (leaf.judged, more))

none_from : (case : PlainProblem) (at : ℕ) (roots : List PlainCell) (cells : List PlainLeaf) (parts : List (List PlainLeaf)) → HaveTicks roots → cells ≡ joined parts → TileEach case roots parts
    → cells_from case at roots cells ≡ None
none_from case at [] [] parts ticks whole tiles = cells_done case at
none_from case at [] (s ∷ cells) [] ticks whole tiles = absurd cc
none_from case at [] (s ∷ cells) (part ∷ parts) ticks whole tiles = absurd tiles
none_from case at (r ∷ roots) cells [] ticks whole tiles = absurd tiles
none_from case at (r ∷ roots) cells ([] ∷ parts) ticks whole tiles = let ended : r.first ≡ r.last + 1 = tiles.0 in let some = ticks.0 in absurd (omega arith)
none_from case at (r ∷ roots) [] ((t ∷ part) ∷ parts) ticks whole tiles = absurd cc
none_from case at (r ∷ roots) (s ∷ cells) ((t ∷ part) ∷ parts) ticks whole tiles =
    let same : t ≡ s = cc in
    let tail : cells ≡ part ++ joined parts = cc in
    front_none case at r roots s cells part parts ticks (subst (λ (u : PlainLeaf). Tile (IsSupported case) r.a r.b r.first r.last (u ∷ part)) same tiles.0) tail tiles.1
    (λ rs more. none_from case (at + 1) rs cells more)

cell_law : (case : PlainProblem) (c : PlainCertificate) → (cell_failure case c ≡ None) ↔ TileRoots (IsSupported case) (roots_of (is_candidate_listed case c) case) c.cells
cell_law case c =
    let roots = roots_of (is_candidate_listed case c) case in (
      λ h. tiles_from case (first_cell_line c) roots c.cells h,
      λ tile.
          none_from case (first_cell_line c) roots c.cells tile.parts
          (Each-weaker (IsRootOf case) (λ r. r.first ≤ r.last) (λ r is. let root = is.root in root.some) roots (Each-roots (is_candidate_listed case c) case)) tile.whole tile.tiles,
    )

-- ---- the certificate

pub first_law : (case : PlainProblem) (c : PlainCertificate) → (first_failure case c ≡ None) ↔ Accepted case c
unfolding first_failure
first_law case c =
    let cells = cell_failure case c in
    let boxes = option_or (box_failure case c) cells in
    let shells = option_or (shell_failure case c) boxes in
    let sizes = option_or (size_failure case c) shells in
    let by_header = neither_fails (header_failure case c) sizes in
    let by_size = neither_fails (size_failure case c) shells in
    let by_shell = neither_fails (shell_failure case c) boxes in
    let by_box = neither_fails (box_failure case c) cells in (
      λ h.
          let a = by_header.0 h in
          let b = by_size.0 a.1 in
          let d = by_shell.0 b.1 in
          let f = by_box.0 d.1 in
          let made = (header_law case c).0 a.0 in
          record {
            first = made.first;
            last = made.last;
            threshold = made.threshold;
            objects = made.objects;
            sizes = (size_law c.version case c.sizes).0 b.0;
            shells = (shell_law case c).0 d.0;
            boxes = (box_law case c).0 f.0;
            cells = (cell_law case c).0 f.1;
          },
      λ is.
          by_header.1 (
            (header_law case c).1 (record { first = is.first; last = is.last; threshold = is.threshold; objects = is.objects }),
            by_size.1 (
              (size_law c.version case c.sizes).1 is.sizes,
              by_shell.1 (
                (shell_law case c).1 is.shells,
                by_box.1 ((box_law case c).1 is.boxes, (cell_law case c).1 is.cells),
              ),
            ),
          ),
    )
