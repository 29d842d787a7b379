-- One cell more against the roots that are left.
use Rattle.std.proofs.Common.{◌≡◌, ℕ, zero, suc, ◌+◌, ◌<◌, ◌≤◌, Bool, true, false, List, [], ◌∷◌, map, drop, length, Option, Some, None, refl, ap, arith}
use Rattle.std.specs.Prelude.{◌==◌, ◌&&◌, if◌then◌else◌, nat_le, slice_get, option_map, option_and_then}
use Rattle.std.specs.Option.{option_map_or}
use Rattle.std.proofs.lemmas.Bool.{eq-eqb, eqb-true, false_from_ne_true, and_parts, leb-true}
use Rattle.cj_track.specs.PlainTracks.{PlainTrack}
use Rattle.cj_hermite.specs.Interpolant.{Curve}
use Rattle.cj_hermite.specs.Pieces.{PlainPiece, piece_holding, curve_of_piece}
use Rattle.cj_case.specs.PlainProblems.{PlainProblem, threshold_of}
use Rattle.cj_hermite.specs.ObjectsAtTicks.{curve_at}
use Rattle.cj_case.specs.Cells.{PlainCell}
use Rattle.cj_bezier.specs.Gaps.{gap_terms, hull_gap}
use Rattle.cj_case.specs.Leaves.{PlainLeaf}
use Rattle.cj_bezier.specs.Verdicts.{supported}
use Rattle.cj_cert.specs.declared.cert_lines.CellLine.{CellLine}
use Rattle.cj_cert.specs.Certificates.{plain_cell_line}
use Rattle.cj_formats.specs.declared.check_cause.CheckCause.{CheckCause}
use Rattle.cj_formats.specs.declared.check_cause.CheckCause.TheVariants.{Untiled, Stranger}
use Rattle.cj_checker.specs.Tests.{is_supported}
use Rattle.cj_checker.specs.First.{failed, begins, comes_after, behind, unsupported, cells_from, Failure}
use Rattle.cj_checker.specs.Tiling.{cause_at}

-- ---- whether a kind is supported, by the interpolants

supported_there : (e f : Option PlainTrack) (m thr : ℕ) (s : PlainLeaf) (c d : Curve) → option_map curve_of_piece (option_and_then (λ e. piece_holding e m) e) ≡ Some c
    → option_map curve_of_piece (option_and_then (λ e. piece_holding e m) f) ≡ Some d
    → option_map_or (λ e. option_map_or (λ f. option_map_or (λ x. option_map_or (λ y.
    supported (gap_terms (hull_gap (curve_of_piece x) (curve_of_piece y) s.first s.last)) thr s.kind)
    (piece_holding f m) false) (piece_holding e m) false) f false) e false ≡ supported (gap_terms (hull_gap c d s.first s.last)) thr s.kind
supported_there None f m thr s c d h k = absurd cc
supported_there (Some e) None m thr s c d h k = absurd cc
supported_there (Some e) (Some f) m thr s c d h k = go (piece_holding e m) (piece_holding f m) h k
  where
    go : (o p : Option PlainPiece) → option_map curve_of_piece o ≡ Some c → option_map curve_of_piece p ≡ Some d
        → option_map_or (λ x. option_map_or (λ y. supported (gap_terms (hull_gap (curve_of_piece x) (curve_of_piece y) s.first s.last)) thr s.kind) p false) o false
        ≡ supported (gap_terms (hull_gap c d s.first s.last)) thr s.kind
    go None p h k = absurd cc
    go (Some x) None h k = absurd cc
    go (Some x) (Some y) h k =
        let one : curve_of_piece x ≡ c = cc in
        let other : curve_of_piece y ≡ d = cc in
        λ i. supported (gap_terms (hull_gap (one i) (other i) s.first s.last)) thr s.kind

pub supported_by : (case : PlainProblem) (s : PlainLeaf) (c d : Curve) → curve_at case s.a s.first ≡ Some c → curve_at case s.b s.first ≡ Some d
    → is_supported case s ≡ supported (gap_terms (hull_gap c d s.first s.last)) (threshold_of case s.a s.b) s.kind
unfolding curve_at
supported_by case s c d h k = supported_there (slice_get case.tracks s.a) (slice_get case.tracks s.b) s.first (threshold_of case s.a s.b) s c d h k

-- ---- what begins a root

pub record Begun (r : PlainCell) (s : PlainLeaf) : Type 0 where
  pub one : s.a ≡ r.a
  pub other : s.b ≡ r.b
  pub from : s.first ≡ r.first
  pub to : s.last ≤ r.last

pub begun : (r : PlainCell) (s : PlainLeaf) → begins r s ≡ true → Begun r s
begun r s is =
    let p = and_parts ((s.a == r.a) && (s.b == r.b)) ((s.first == r.first) && (nat_le s.first s.last && nat_le s.last r.last)) is in
    let objects = and_parts (s.a == r.a) (s.b == r.b) p.0 in
    let ticks = and_parts (s.first == r.first) (nat_le s.first s.last && nat_le s.last r.last) p.1 in
    let ends = and_parts (nat_le s.first s.last) (nat_le s.last r.last) ticks.1 in
    record { one = eqb-true s.a r.a objects.0; other = eqb-true s.b r.b objects.1; from = eqb-true s.first r.first ticks.0; to = leb-true s.last r.last ends.1 }

-- the tests are asked only of a cell that begins the root
pub same_cause : (p q : Bool) (r : PlainCell) (s : PlainLeaf) → (begins r s ≡ true → p ≡ q) → cause_at p r s ≡ cause_at q r s
same_cause p q r s same = go (begins r s) same
  where
    go : (b : Bool) → (b ≡ true → p ≡ q) → (if b then (if p then None else Some (unsupported s.kind)) else Some (if comes_after r s then Untiled else Stranger))
        ≡ (if b then (if q then None else Some (unsupported s.kind)) else Some (if comes_after r s then Untiled else Stranger))
    go true same = ap (λ (t : Bool). if t then None else Some (unsupported s.kind)) (same refl)
    go false same = refl

-- ---- a cell

-- without a cause the next cell follows, else it fails
abbrev pub after_cause : PlainProblem → ℕ → PlainCell → List PlainCell → PlainLeaf → List PlainLeaf → Option CheckCause → Option Failure
after_cause case line r left s cells None = cells_from case (line + 1) (behind s r left) cells
after_cause case line r left s cells (Some cause) = failed line cause

pub cells_step : (case : PlainProblem) (line : ℕ) (r : PlainCell) (left : List PlainCell) (s : PlainLeaf) (cells : List PlainLeaf)
    → cells_from case line (r ∷ left) (s ∷ cells) ≡ after_cause case line r left s cells (cause_at (is_supported case s) r s)
unfolding cells_from
cells_step case line r left s cells = go (begins r s) (is_supported case s) (comes_after r s)
  where
    go : (b p q : Bool) → (if b then (if p then cells_from case (line + 1) (behind s r left) cells else failed line (unsupported s.kind))
        else (if q then failed line Untiled else failed line Stranger))
        ≡ after_cause case line r left s cells (if b then (if p then None else Some (unsupported s.kind)) else Some (if q then Untiled else Stranger))
    go true true q = refl
    go true false q = refl
    go false p true = refl
    go false p false = refl

pub cells_missing : (case : PlainProblem) (line : ℕ) (r : PlainCell) (left : List PlainCell) → cells_from case line (r ∷ left) [] ≡ failed line Untiled
unfolding cells_from
cells_missing case line r left = refl

pub cells_left : (case : PlainProblem) (line : ℕ) (s : PlainLeaf) (cells : List PlainLeaf) → cells_from case line [] (s ∷ cells) ≡ failed line Stranger
unfolding cells_from
cells_left case line s cells = refl

pub cells_done : (case : PlainProblem) (line : ℕ) → cells_from case line [] [] ≡ None
unfolding cells_from
cells_done case line = refl

-- a cell without a cause begins its root
pub no_cause : (p : Bool) (r : PlainCell) (s : PlainLeaf) → cause_at p r s ≡ None → Begun r s
no_cause p r s none = go (begins r s) refl none
  where
    go : (b : Bool) → begins r s ≡ b → (if b then (if p then None else Some (unsupported s.kind)) else Some (if comes_after r s then Untiled else Stranger)) ≡ None → Begun r s
    go true is none = begun r s is
    go false is none = absurd cc

-- what is left behind it
pub behind_last : (s : PlainLeaf) (r : PlainCell) (left : List PlainCell) → s.last ≡ r.last → behind s r left ≡ left
behind_last s r left same = let is : (s.last == r.last) ≡ true = eq-eqb s.last r.last same in rw is refl

pub behind_within : (s : PlainLeaf) (r : PlainCell) (left : List PlainCell) → s.last < r.last → behind s r left ≡ record { a = r.a; b = r.b; first = s.last + 1; last = r.last } ∷ left
behind_within s r left lt =
    let other : s.last ≡ r.last → ⊥ = λ same. omega arith in
    let other_is : (s.last == r.last) ≡ false = false_from_ne_true (s.last == r.last) (λ yes. other (eqb-true s.last r.last yes)) in
    rw other_is refl

-- a cell that is left behind the last root
pub left_over : (case : PlainProblem) (line : ℕ) (cells : List CellLine) (k : ℕ) → k < length cells → cells_from case line [] (drop k (map plain_cell_line cells)) ≡ failed line Stranger
left_over case line [] k lt = absurd (omega arith)
left_over case line (c ∷ cells) zero lt = cells_left case line (plain_cell_line c) (map plain_cell_line cells)
left_over case line (c ∷ cells) (suc k) lt = left_over case line cells k (omega arith)
