-- One cell more against the roots that are left, of which those that are far throughout may go without cells.
use Rattle.std.proofs.Common.{◌≡◌, ℕ, zero, suc, ◌+◌, ◌<◌, ◌≤◌, not, Bool, true, false, List, [], ◌∷◌, map, drop, length, get_or, Option, None, Result, Ok, Err, refl, sym, ap, ◌∙◌, arith}
use Rattle.std.specs.Prelude.{◌==◌, if◌then◌else◌, IfErr, IfOk}
use Rattle.std.proofs.lemmas.Bool.{eq-eqb, eqb-true, false_from_ne_true}
use Rattle.cj_case.specs.PlainProblems.{PlainProblem}
use Rattle.cj_case.specs.Cells.{PlainCell}
use Rattle.cj_case.specs.Leaves.{PlainLeaf}
use Rattle.cj_cert.specs.declared.cert_lines.CellLine.{CellLine}
use Rattle.cj_cert.specs.Certificates.{plain_cell_line}
use Rattle.cj_formats.specs.declared.check_cause.CheckCause.{CheckCause}
use Rattle.cj_formats.specs.declared.check_cause.CheckCause.TheVariants.{Untiled, Stranger}
use Rattle.cj_checker.specs.declared.root.Root.{Root}
use Rattle.cj_checker.specs.declared.cell_fault.CellFault.{CellFault}
use Rattle.cj_checker.specs.First.{failed, begins, behind, unsupported, Failure}
use Rattle.cj_checker.specs.Tests.{is_supported}
use Rattle.cj_checker.specs.Tiling.{is_shown, root_from, IsOf}
use Rattle.cj_checker.proofs.CauseLemmas.{Begun, begun, behind_last, behind_within}
use Rattle.cj_checker.proofs.TilingLemmas.{drop_mapped, shown}
use Rattle.cj_brief_checker.specs.declared.step.Step.{Step}
use Rattle.cj_brief_checker.specs.declared.step.Step.TheVariants as steps
use Rattle.cj_brief_checker.specs.First.{comes_later, goes_on, left_behind, left_out, told_from, wants_cells}
use Rattle.cj_brief_checker.specs.Steps.{step_of, left_at, told_behind}

-- ---- a cell

-- what follows a cell, by what it is for the first of the roots that are left, and by whether this root wants cells
abbrev pub after_step : PlainProblem → ℕ → Bool → PlainCell → List PlainCell → PlainLeaf → List PlainLeaf → Step → Option Failure
after_step case line wants r left s cells steps.Takes = told_from case cells (line + 1) (not (s.last == r.last)) (behind s r left)
after_step case line wants r left s cells steps.Leaves = if wants then failed line Untiled else told_from case (s ∷ cells) line false left
after_step case line wants r left s cells (steps.Fails cause) = failed line cause

pub told_step : (case : PlainProblem) (line : ℕ) (begun : Bool) (r : PlainCell) (left : List PlainCell) (s : PlainLeaf) (cells : List PlainLeaf)
    → told_from case (s ∷ cells) line begun (r ∷ left) ≡ after_step case line (wants_cells case begun r) r left s cells (step_of (is_supported case s) case.first r s)
unfolding told_from left_behind
told_step case line begun r left s cells = go (begins r s) (is_supported case s) (comes_later case.first r s) (wants_cells case begun r)
  where
    go : (b p q w : Bool) → goes_on (told_from case cells) line
        (if b then (if p then Ok (record { roots = behind s r left; begun = not (s.last == r.last) }) else Err (unsupported s.kind))
        else (if q then (if w then Err Untiled else left_behind case false left s) else Err Stranger))
        ≡ after_step case line w r left s cells (if b then (if p then steps.Takes else steps.Fails (unsupported s.kind)) else (if q then steps.Leaves else steps.Fails Stranger))
    go true true q w = refl
    go true false q w = refl
    go false p true true = refl
    go false p true false = refl
    go false p false w = refl

pub told_end : (case : PlainProblem) (line : ℕ) (begun : Bool) (r : PlainCell) (left : List PlainCell)
    → told_from case [] line begun (r ∷ left) ≡ (if wants_cells case begun r then failed line Untiled else told_from case [] line false left)
unfolding told_from left_out
told_end case line begun r left = refl

pub told_stray : (case : PlainProblem) (line : ℕ) (begun : Bool) (s : PlainLeaf) (cells : List PlainLeaf) → told_from case (s ∷ cells) line begun [] ≡ failed line Stranger
unfolding told_from left_behind
told_stray case line begun s cells = refl

pub told_none : (case : PlainProblem) (line : ℕ) (begun : Bool) → told_from case [] line begun [] ≡ None
unfolding told_from left_out
told_none case line begun = refl

-- cells that are left behind the last root
pub left_over : (case : PlainProblem) (line : ℕ) (cells : List CellLine) (k : ℕ) → k < length cells → told_from case (drop k (map plain_cell_line cells)) line false [] ≡ failed line Stranger
left_over case line [] k lt = absurd (omega arith)
left_over case line (c ∷ cells) zero lt = told_stray case line false (plain_cell_line c) (map plain_cell_line cells)
left_over case line (c ∷ cells) (suc k) lt = left_over case line cells k (omega arith)

-- ---- what a cell is

-- whether it is supported is asked only of a cell that begins the root
same_step : (p q : Bool) (first : ℕ) (r : PlainCell) (s : PlainLeaf) → (begins r s ≡ true → p ≡ q) → step_of p first r s ≡ step_of q first r s
same_step p q first r s same = go (begins r s) same
  where
    go : (b : Bool) → (b ≡ true → p ≡ q) → (if b then (if p then steps.Takes else steps.Fails (unsupported s.kind)) else (if comes_later first r s then steps.Leaves else steps.Fails Stranger))
        ≡ (if b then (if q then steps.Takes else steps.Fails (unsupported s.kind)) else (if comes_later first r s then steps.Leaves else steps.Fails Stranger))
    go true same = ap (λ (t : Bool). if t then steps.Takes else steps.Fails (unsupported s.kind)) (same refl)
    go false same = refl

-- a cell that is taken begins its root
pub taken : (p : Bool) (first : ℕ) (r : PlainCell) (s : PlainLeaf) → step_of p first r s ≡ steps.Takes → Begun r s
taken p first r s takes = go (begins r s) refl takes
  where
    misplaced : (q : Bool) → (if q then steps.Leaves else steps.Fails Stranger) ≡ steps.Takes → ⊥
    misplaced true h = absurd cc
    misplaced false h = absurd cc

    go : (b : Bool) → begins r s ≡ b → (if b then (if p then steps.Takes else steps.Fails (unsupported s.kind)) else (if comes_later first r s then steps.Leaves else steps.Fails Stranger)) ≡ steps.Takes
        → Begun r s
    go true is takes = begun r s is
    go false is takes = absurd (misplaced (comes_later first r s) takes)

-- ---- a cell of a root, as they are read

module _ (case : PlainProblem) (first : ℕ) (root : Root) (cells : List CellLine) (line at from : ℕ) (started : Bool) (left : List PlainCell) (cell : CellLine)
    (of : IsOf case root) (begin : case.first ≡ first) (low : root.ticks.first.micros ≤ from) (high : from ≤ root.ticks.last.micros) (lt : at < length cells) (is : cell ≡ get_or cells at cell) where
  cell_step : told_from case (drop at (map plain_cell_line cells)) (line + at) started (root_from root from ∷ left)
      ≡ after_step case (line + at) (wants_cells case started (root_from root from)) (root_from root from) left (plain_cell_line cell) (drop (at + 1) (map plain_cell_line cells))
      (step_of (is_shown root cell) first (root_from root from) (plain_cell_line cell))
  cell_step =
      ap (λ (ss : List PlainLeaf). told_from case ss (line + at) started (root_from root from ∷ left)) (drop_mapped plain_cell_line cells at cell lt is)
      ∙ told_step case (line + at) started (root_from root from) left (plain_cell_line cell) (drop (at + 1) (map plain_cell_line cells))
      ∙ ap (after_step case (line + at) (wants_cells case started (root_from root from)) (root_from root from) left (plain_cell_line cell) (drop (at + 1) (map plain_cell_line cells)))
      (same_step (is_supported case (plain_cell_line cell)) (is_shown root cell) case.first (root_from root from) (plain_cell_line cell) (shown case root from cell of low high)
      ∙ ap (λ (n : ℕ). step_of (is_shown root cell) n (root_from root from) (plain_cell_line cell)) begin)

  by_step : (step : Step) → step ≡ step_of (is_shown root cell) first (root_from root from) (plain_cell_line cell)
      → told_from case (drop at (map plain_cell_line cells)) (line + at) started (root_from root from ∷ left)
      ≡ after_step case (line + at) (wants_cells case started (root_from root from)) (root_from root from) left (plain_cell_line cell) (drop (at + 1) (map plain_cell_line cells)) step
  by_step step found = cell_step ∙ ap (after_step case (line + at) (wants_cells case started (root_from root from)) (root_from root from) left (plain_cell_line cell) (drop (at + 1) (map plain_cell_line cells))) (sym found)

  pub cell_fails : (cause : CheckCause) → steps.Fails cause ≡ step_of (is_shown root cell) first (root_from root from) (plain_cell_line cell)
      → told_from case (drop at (map plain_cell_line cells)) (line + at) started (root_from root from ∷ left) ≡ failed (line + at) cause
  cell_fails cause found = by_step (steps.Fails cause) found

  pub cell_leaves : steps.Leaves ≡ step_of (is_shown root cell) first (root_from root from) (plain_cell_line cell)
      → told_from case (drop at (map plain_cell_line cells)) (line + at) started (root_from root from ∷ left)
      ≡ (if wants_cells case started (root_from root from) then failed (line + at) Untiled else told_from case (drop at (map plain_cell_line cells)) (line + at) false left)
  cell_leaves found =
      by_step steps.Leaves found
      ∙ ap (λ (ss : List PlainLeaf). if wants_cells case started (root_from root from) then failed (line + at) Untiled else told_from case ss (line + at) false left) (sym (drop_mapped plain_cell_line cells at cell lt is))

  pub cell_ends : steps.Takes ≡ step_of (is_shown root cell) first (root_from root from) (plain_cell_line cell) → root.ticks.last.micros ≤ cell.last.micros
      → told_from case (drop at (map plain_cell_line cells)) (line + at) started (root_from root from ∷ left) ≡ told_from case (drop (at + 1) (map plain_cell_line cells)) (line + (at + 1)) false left
  cell_ends found ends =
      let b = taken (is_shown root cell) first (root_from root from) (plain_cell_line cell) (sym found) in
      let to = b.to in
      let last : cell.last.micros ≡ root.ticks.last.micros = omega arith in
      let test : (cell.last.micros == root.ticks.last.micros) ≡ true = eq-eqb cell.last.micros root.ticks.last.micros last in
      let next : line + at + 1 ≡ line + (at + 1) = omega arith in
      by_step steps.Takes found
      ∙ (λ i. told_from case (drop (at + 1) (map plain_cell_line cells)) (next i) (not (test i)) (behind_last (plain_cell_line cell) (root_from root from) left last i))

  pub cell_goes_on : steps.Takes ≡ step_of (is_shown root cell) first (root_from root from) (plain_cell_line cell) → cell.last.micros < root.ticks.last.micros
      → told_from case (drop at (map plain_cell_line cells)) (line + at) started (root_from root from ∷ left)
      ≡ told_from case (drop (at + 1) (map plain_cell_line cells)) (line + (at + 1)) true (root_from root (cell.last.micros + 1) ∷ left)
  cell_goes_on found within =
      let other : cell.last.micros ≡ root.ticks.last.micros → ⊥ = λ same. omega arith in
      let test : (cell.last.micros == root.ticks.last.micros) ≡ false =
      false_from_ne_true (cell.last.micros == root.ticks.last.micros) (λ yes. other (eqb-true cell.last.micros root.ticks.last.micros yes)) in
      let next : line + at + 1 ≡ line + (at + 1) = omega arith in
      by_step steps.Takes found
      ∙ (λ i. told_from case (drop (at + 1) (map plain_cell_line cells)) (next i) (not (test i)) (behind_within (plain_cell_line cell) (root_from root from) left within i))

-- what a cell that is taken says of its first tick
pub begins_there : (root : Root) (first from : ℕ) (cell : CellLine) → steps.Takes ≡ step_of (is_shown root cell) first (root_from root from) (plain_cell_line cell) → cell.first.micros ≡ from
begins_there root first from cell found = (taken (is_shown root cell) first (root_from root from) (plain_cell_line cell) (sym found)).from

-- ---- a root that is left

-- a root whose first ticks have cells wants more of them; and else it is whole
pub wants_same : (case : PlainProblem) (root : Root) (started : Bool) (from : ℕ) → (started ≡ false → from ≡ root.ticks.first.micros)
    → wants_cells case started (root_from root from) ≡ wants_cells case started (root_from root root.ticks.first.micros)
wants_same case root true from whole = refl
wants_same case root false from whole = ap (λ (n : ℕ). wants_cells case false (root_from root n)) (whole refl)

-- what is found where it is left
pub leave_tells : (case : PlainProblem) (line at : ℕ) (left : List PlainCell) (cells : List PlainLeaf) (wants own : Bool) (found : Result ℕ CellFault) → wants ≡ own → found ≡ left_at own at
    → (if wants then failed (line + at) Untiled else told_from case (drop at cells) (line + at) false left) ≡ told_behind case line left cells found
leave_tells case line at left cells wants own found same is =
    ap (λ (w : Bool). if w then failed (line + at) Untiled else told_from case (drop at cells) (line + at) false left) same ∙ go own ∙ ap (told_behind case line left cells) (sym is)
  where
    go : (w : Bool) → (if w then failed (line + at) Untiled else told_from case (drop at cells) (line + at) false left) ≡ told_behind case line left cells (left_at w at)
    go true = refl
    go false = refl

-- the place that is found, or that of the fault, is a place of the cells
pub ok_within : (found : Result ℕ CellFault) (at n : ℕ) → at ≤ n → IfOk found (λ next. next ≡ at) → IfOk found (λ next. next ≤ n)
ok_within (Ok next) at n le is = omega (arith, is)
ok_within (Err fault) at n le is = tt

pub err_within : (found : Result ℕ CellFault) (at n : ℕ) → at ≤ n → IfErr found (λ fault. fault.at ≡ at) → IfErr found (λ fault. fault.at ≤ n)
err_within (Ok next) at n le is = tt
err_within (Err fault) at n le is = omega (arith, is)
