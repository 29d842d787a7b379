-- A certificate in brief has no first failure exactly where it is accepted.
use Rattle.std.proofs.Common.{◌≡◌, ℕ, ◌+◌, ◌≤◌, ◌&&◌, ◌||◌, ◌⊎◌, ◌↔◌, not, Bool, true, false, List, [], ◌∷◌, ◌++◌, None, refl, sym, ap, ◌∙◌, subst, inl, inr, arith}
use Rattle.std.specs.Prelude.{◌==◌, if◌then◌else◌}
use Rattle.std.specs.List.{AllZip, flat_map}
use Rattle.std.specs.Option.{option_or}
use Rattle.std.proofs.lemmas.Bool.Decides.{Decides-eqb}
use Rattle.std.proofs.lemmas.Bool.{cases_eq, eq-eqb, eqb-true, false_from_ne_true}
use Rattle.cj_interval.proofs.ListLemmas.{Each, Exists, Ordered, Each-exists, Each-weaker}
use Rattle.cj_case.specs.PlainProblems.{PlainProblem}
use Rattle.cj_case.specs.Primaries.{named}
use Rattle.cj_case.specs.Cells.{PlainCell}
use Rattle.cj_case.specs.Leaves.{PlainLeaf}
use Rattle.cj_formats.specs.declared.check_cause.CheckCause.TheVariants.{PrimaryOf, Stranger, Untiled}
use Rattle.cj_formats.specs.declared.cert_version.CertVersion.TheVariants.{Two}
use Rattle.cj_hermite.specs.Roots.{roots_by_slot}
use Rattle.cj_hermite.proofs.RootLemmas.{IsRootOf}
use Rattle.cj_bezier.specs.Tiles.{Tile}
use Rattle.cj_cert.specs.Accepted.{IsSupported}
use Rattle.cj_brief.specs.Accepted.{AcceptedInBrief, IsFarThroughout, TileOrFar, TilesOrFar, is_candidate_in_brief}
use Rattle.cj_brief.specs.Certificates.{PlainBrief}
use Rattle.cj_brief.proofs.RootsBySlotLemmas.{Each-by_slot}
use Rattle.cj_checker.specs.First.{failed, first_unfit, begins, behind, unsupported, header_failure, size_failure}
use Rattle.cj_checker.specs.Tests.{is_supported}
use Rattle.cj_checker.proofs.CauseLemmas.{behind_last, behind_within}
use Rattle.cj_checker.proofs.FirstLemmas.{header_law, neither_fails, no_more, shells_from_law, size_law, tested}
use Rattle.cj_checker.proofs.TestLemmas.{decides_nat_le, decides_supported}
use Rattle.cj_brief_checker.specs.declared.step.Step.TheVariants as steps
use Rattle.cj_brief_checker.specs.First.{comes_later, first_cell_line, first_failure_in_brief, first_primary_line, first_shell_line_in_brief, head_failure_in_brief, in_full, object_failure_in_brief, primary_failure, shell_failure_in_brief, told_failure, told_from, wants_cells}
use Rattle.cj_brief_checker.specs.Steps.{step_of}
use Rattle.cj_brief_checker.proofs.OrderLemmas.{IsAt, IsLater, Ordered-by_slot, later_cell, not_begun}
use Rattle.cj_brief_checker.proofs.StepLemmas.{after_step, told_end, told_none, told_step}
use Rattle.cj_brief_checker.proofs.ToldLemmas.{told_tiles}

-- ---- cells that tell of a root

abbrev joined : List (List PlainLeaf) → List PlainLeaf
joined parts = flat_map (λ part. part) parts

-- what is left of a root behind a cell
abbrev rest_of : PlainLeaf → PlainCell → PlainCell
rest_of s r = record { a = r.a; b = r.b; first = s.last + 1; last = r.last }

-- none of these cells fails behind the roots that are told of
abbrev NoneFails : PlainProblem → List PlainLeaf → List PlainCell → Type 0
NoneFails case cells roots = (line : ℕ) → told_from case cells line false roots ≡ None

takes : (case : PlainProblem) (r : PlainCell) (s : PlainLeaf) → s.a ≡ r.a → s.b ≡ r.b → s.first ≡ r.first → s.first ≤ s.last → s.last ≤ r.last → IsSupported case s
    → step_of (is_supported case s) case.first r s ≡ steps.Takes
takes case r s a b first some to support =
    let is : begins r s ≡ true = λ i. (eq-eqb s.a r.a a i && eq-eqb s.b r.b b i) && (eq-eqb s.first r.first first i && ((decides_nat_le s.first s.last).1 some i && (decides_nat_le s.last r.last).1 to i)) in
    let shown : is_supported case s ≡ true = (decides_supported case s).1 support in
    λ i. if is i then (if shown i then steps.Takes else steps.Fails (unsupported s.kind)) else (if comes_later case.first r s then steps.Leaves else steps.Fails Stranger)

tile_none : (case : PlainProblem) (r : PlainCell) (part rest : List PlainLeaf) (roots : List PlainCell) (line : ℕ) (begun : Bool) → r.first ≤ r.last
    → Tile (IsSupported case) r.a r.b r.first r.last part → NoneFails case rest roots → told_from case (part ++ rest) line begun (r ∷ roots) ≡ None
tile_none case r [] rest roots line begun some tile none = let ended : r.first ≡ r.last + 1 = tile in absurd (omega arith)
tile_none case r (s ∷ part) rest roots line begun some tile none = go (cases_eq s.last r.last) (tile_none case (rest_of s r) part rest roots (line + 1) true)
  where
    step : told_from case (s ∷ (part ++ rest)) line begun (r ∷ roots) ≡ told_from case (part ++ rest) (line + 1) (not (s.last == r.last)) (behind s r roots)
    step =
        let leaf = tile.1.0 in
        told_step case line begun r roots s (part ++ rest)
        ∙ ap (after_step case line (wants_cells case begun r) r roots s (part ++ rest))
        (takes case r s leaf.first_object leaf.second_object tile.0 leaf.some leaf.to leaf.judged)

    go : (s.last ≡ r.last) ⊎ (s.last ≡ r.last → ⊥) → (s.last + 1 ≤ r.last → Tile (IsSupported case) r.a r.b (s.last + 1) r.last part → NoneFails case rest roots
        → told_from case (part ++ rest) (line + 1) true (rest_of s r ∷ roots) ≡ None) → told_from case (s ∷ (part ++ rest)) line begun (r ∷ roots) ≡ None
    go (inl same) more =
        let empty : part ≡ [] = no_more (IsSupported case) r.a r.b (s.last + 1) r.last part (omega arith) tile.1.1 in
        step
        ∙ (λ i. told_from case (empty i ++ rest) (line + 1) (not (eq-eqb s.last r.last same i)) (behind_last s r roots same i))
        ∙ none (line + 1)
    go (inr other) more =
        let to = tile.1.0.to in
        let lt : s.last + 1 ≤ r.last = omega arith in
        let test : (s.last == r.last) ≡ false = false_from_ne_true (s.last == r.last) (λ yes. other (eqb-true s.last r.last yes)) in
        step
        ∙ (λ i. told_from case (part ++ rest) (line + 1) (not (test i)) (behind_within s r roots (omega arith) i))
        ∙ more lt tile.1.1 none

-- ---- all roots

abbrev AllTile : PlainProblem → List PlainCell → List (List PlainLeaf) → Type 0
AllTile case roots parts = AllZip (TilesOrFar (IsSupported case) (IsFarThroughout case)) roots parts

abbrev HaveTicks : List PlainCell → Type 0
HaveTicks roots = Each (λ r. r.first ≤ r.last) roots

-- the first cell begins with one of the roots
first_at : (case : PlainProblem) (roots : List PlainCell) (parts : List (List PlainLeaf)) (s : PlainLeaf) (cells : List PlainLeaf) → AllTile case roots parts → HaveTicks roots
    → joined parts ≡ s ∷ cells → Exists (λ q. IsAt q s) roots
first_at case [] [] s cells tiles ticks same = absurd cc
first_at case [] (part ∷ parts) s cells tiles ticks same = absurd tiles
first_at case (r ∷ roots) [] s cells tiles ticks same = absurd tiles
first_at case (r ∷ roots) ([] ∷ parts) s cells tiles ticks same = inr (first_at case roots parts s cells tiles.1 ticks.1 same)
first_at case (r ∷ roots) ((t ∷ part) ∷ parts) s cells tiles ticks same = elim tiles.0 [
  | inl tile ↦
      let leaf = tile.1.0 in
      let own : t ≡ s = cc in
      inl (subst (IsAt r) own (record { first_object = leaf.first_object; second_object = leaf.second_object; first = tile.0 }))
  | inr left ↦ let none : ◌≡◌ {A = List PlainLeaf} (t ∷ part) [] = left.0 in absurd cc
]

-- a root that is left out, and what is told of those behind
left_out_none : (case : PlainProblem) (r : PlainCell) (roots : List PlainCell) (parts : List (List PlainLeaf)) → IsFarThroughout case r → Each (IsLater case.first r) roots
    → AllTile case roots parts → HaveTicks roots → NoneFails case (joined parts) roots → (line : ℕ) → told_from case (joined parts) line false (r ∷ roots) ≡ None
left_out_none case r roots parts far later tiles ticks none line = go (joined parts) refl
  where
    unwanted : wants_cells case false r ≡ false
    unwanted = λ i. false || not (far i)

    gives : {P : PlainCell → Type 0} {C : Type 0} → ((q : PlainCell) → P q → C) → (qs : List PlainCell) → Exists P qs → C
    gives f [] there = absurd there
    gives f (q ∷ qs) (inl here) = f q here
    gives f (q ∷ qs) (inr there) = gives f qs there

    passed : (s : PlainLeaf) (cells : List PlainLeaf) (q : PlainCell) → joined parts ≡ s ∷ cells → IsLater case.first r q → IsAt q s → told_from case (s ∷ cells) line false (r ∷ roots) ≡ None
    passed s cells q same behind at =
        told_step case line false r roots s cells
        ∙ (λ i. after_step case line (unwanted i) r roots s cells (if not_begun case.first r q s behind at i then (if is_supported case s then steps.Takes else steps.Fails (unsupported s.kind))
        else (if later_cell case.first r q s behind at i then steps.Leaves else steps.Fails Stranger)))
        ∙ ap (λ (ss : List PlainLeaf). told_from case ss line false roots) (sym same) ∙ none line

    go : (cells : List PlainLeaf) → joined parts ≡ cells → told_from case (joined parts) line false (r ∷ roots) ≡ None
    go [] same =
        ap (λ (ss : List PlainLeaf). told_from case ss line false (r ∷ roots)) same
        ∙ told_end case line false r roots
        ∙ (λ i. if unwanted i then failed line Untiled else told_from case [] line false roots)
        ∙ ap (λ (ss : List PlainLeaf). told_from case ss line false roots) (sym same) ∙ none line
    go (s ∷ cells) same =
        ap (λ (ss : List PlainLeaf). told_from case ss line false (r ∷ roots)) same
        ∙ gives (λ q both. passed s cells q same both.0 both.1) roots (Each-exists (IsLater case.first r) (λ q. IsAt q s) roots later (first_at case roots parts s cells tiles ticks same))

all_none : (case : PlainProblem) (roots : List PlainCell) (parts : List (List PlainLeaf)) → HaveTicks roots → Ordered (IsLater case.first) roots → AllTile case roots parts
    → NoneFails case (joined parts) roots
all_none case [] [] ticks order tiles line = told_none case line false
all_none case [] (part ∷ parts) ticks order tiles line = absurd tiles
all_none case (r ∷ roots) [] ticks order tiles line = absurd tiles
all_none case (r ∷ roots) (part ∷ parts) ticks order tiles line = go tiles.0 (all_none case roots parts ticks.1 order.1 tiles.1)
  where
    go : TilesOrFar (IsSupported case) (IsFarThroughout case) r part → NoneFails case (joined parts) roots → told_from case (part ++ joined parts) line false (r ∷ roots) ≡ None
    go (inl tile) none = tile_none case r part (joined parts) roots line false ticks.0 tile none
    go (inr left) none =
        ap (λ (p : List PlainLeaf). told_from case (p ++ joined parts) line false (r ∷ roots)) left.0
        ∙ left_out_none case r roots parts left.1 order.0 tiles.1 ticks.1 none line

told_law : (case : PlainProblem) (c : PlainBrief)
    → (told_failure case c ≡ None) ↔ TileOrFar (IsSupported case) (IsFarThroughout case) (roots_by_slot (is_candidate_in_brief case c) case) c.cells
told_law case c =
    let roots = roots_by_slot (is_candidate_in_brief case c) case in (
      λ h. told_tiles case (first_cell_line c) roots c.cells h,
      λ tile.
          ap (λ (cells : List PlainLeaf). told_from case cells (first_cell_line c) false roots) tile.whole
          ∙ all_none case roots tile.parts
          (Each-weaker (IsRootOf case) (λ r. r.first ≤ r.last) (λ r is. let root = is.root in root.some) roots (Each-by_slot (is_candidate_in_brief case c) case))
          (Ordered-by_slot (is_candidate_in_brief case c) case) tile.tiles (first_cell_line c),
    )

-- ---- the lines of primaries

numbers_law : (at : ℕ) (numbers lines : List ℕ) → (first_unfit (λ object line. object == line) PrimaryOf at numbers lines ≡ None) ↔ (lines ≡ numbers)
unfolding first_unfit
numbers_law at [] [] = (λ h. refl, λ same. refl)
numbers_law at [] (l ∷ lines) = (λ h. absurd cc, λ same. absurd cc)
numbers_law at (n ∷ numbers) [] = (λ h. absurd cc, λ same. absurd cc)
numbers_law at (n ∷ numbers) (l ∷ lines) =
    let here = tested (n == l) at PrimaryOf (first_unfit (λ object line. object == line) PrimaryOf (at + 1) numbers lines) (Decides-eqb n l) in
    let rest = numbers_law (at + 1) numbers lines in (
      λ h. let both = here.0 h in let head = both.0 in let tail = rest.0 both.1 in λ j. sym head j ∷ tail j,
      λ same.
          let head : l ≡ n = cc in
          let tail : lines ≡ numbers = cc in
          here.1 (sym head, rest.1 tail),
    )

-- ---- the certificate

pub first_law : (case : PlainProblem) (c : PlainBrief) → (first_failure_in_brief case c ≡ None) ↔ AcceptedInBrief case c
unfolding first_failure_in_brief
first_law case c =
    let shells = shells_from_law case (first_shell_line_in_brief c) c.shells in
    let primaries = numbers_law (first_primary_line c) (named case.primaries) c.primaries in
    let both = neither_fails (object_failure_in_brief case c) (told_failure case c) in
    let by_head = neither_fails (head_failure_in_brief case c) (shell_failure_in_brief case c) in
    let by_header = neither_fails (header_failure case (in_full c)) (option_or (size_failure case (in_full c)) (primary_failure case c)) in
    let by_size = neither_fails (size_failure case (in_full c)) (primary_failure case c) in (
      λ h.
          let a = both.0 h in
          let e = by_head.0 a.0 in
          let b = by_header.0 e.0 in
          let d = by_size.0 b.1 in
          let made = (header_law case (in_full c)).0 b.0 in
          record {
            first = made.first;
            last = made.last;
            threshold = made.threshold;
            objects = made.objects;
            sizes = (size_law Two case c.sizes).0 d.0;
            primaries = primaries.0 d.1;
            shells = shells.0 e.1;
            cells = (told_law case c).0 a.1;
          },
      λ is.
          both.1 (
            by_head.1 (
              by_header.1 (
                (header_law case (in_full c)).1 (record { first = is.first; last = is.last; threshold = is.threshold; objects = is.objects }),
                by_size.1 ((size_law Two case c.sizes).1 is.sizes, primaries.1 is.primaries),
              ),
              shells.1 is.shells,
            ),
            (told_law case c).1 is.cells,
          ),
    )
