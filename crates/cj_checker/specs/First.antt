-- The first failure of a certificate: the line at which it is not accepted for a problem, and why.
use Rattle.std.specs.Prelude.{ℕ, ◌+◌, ◌==◌, Bool, false, ◌&&◌, ◌||◌, nat_le, nat_lt, if◌then◌else◌, List, [], ◌∷◌, length, drop, Option, Some, None, slice_get}
use Rattle.std.specs.List.{enumerate_from}
use Rattle.std.specs.Option.{option_map_or, option_or}
use Rattle.cj_case.specs.PlainProblems.{PlainProblem}
use Rattle.cj_case.specs.Cells.{PlainCell}
use Rattle.cj_hermite.specs.Roots.{roots_of}
use Rattle.cj_case.specs.declared.kind.Kind.{Kind}
use Rattle.cj_case.specs.declared.kind.Kind.TheVariants as kinds
use Rattle.cj_case.specs.Leaves.{PlainLeaf}
use Rattle.cj_cert.specs.declared.cert_lines.ShellLine.{ShellLine}
use Rattle.cj_cert.specs.declared.cert_lines.SizeOfLine.{SizeOfLine}
use Rattle.cj_cert.specs.Accepted.{slots_with_states}
use Rattle.cj_cert.specs.Certificates.{PlainBoxLine, PlainCertificate}
use Rattle.cj_cert.specs.Listed.{slots_of_line, is_candidate_listed}
use Rattle.cj_kvn.specs.declared.text_fault.LineFault.{LineFault}
use Rattle.cj_formats.specs.declared.check_cause.CheckCause.{CheckCause}
use Rattle.cj_formats.specs.declared.check_cause.CheckCause.TheVariants.{Header, SizeOf, ShellOf, BoxOf, Untiled, Stranger, NotFar, NotNear, NotBand}
use Rattle.cj_formats.specs.declared.cert_version.CertVersion.{CertVersion}
use Rattle.cj_formats.specs.declared.cert_version.CertVersion.TheVariants.{One, Two}
use Rattle.cj_checker.specs.Tests.{is_size_line, is_shell_line, is_box_line, is_supported}

-- a line at which a certificate is not accepted, and why
abbrev pub Failure : Type 0
Failure = LineFault CheckCause

abbrev pub failed : ℕ → CheckCause → Option Failure
failed line cause = Some (record { line = line; cause = cause })

-- ---- what it was made for

-- another window, threshold or number of objects
unfoldable pub header_failure : PlainProblem → PlainCertificate → Option Failure
header_failure case c =
    if (c.first == case.first) && (c.last == case.last)
    then (if c.threshold == case.threshold then (if c.objects == length case.tracks then None else failed 4 Header) else failed 3 Header)
    else failed 2 Header

-- ---- a line for each object

-- From a line on: the first that does not fit what is to stand there. Where lines are missing or left, it is the line behind the others.
unfoldable pub first_unfit : {A B : Type 0} → (A → B → Bool) → CheckCause → ℕ → List A → List B → Option Failure
first_unfit fits cause line [] [] = None
first_unfit fits cause line [] (y ∷ ys) = failed line cause
first_unfit fits cause line (x ∷ xs) [] = failed line cause
first_unfit fits cause line (x ∷ xs) (y ∷ ys) = if fits x y then first_unfit fits cause (line + 1) xs ys else failed line cause

-- the line fits what is to stand in its place
abbrev pub fits_at : {A B : Type 0} → (A → B → Bool) → List A → ℕ → B → Bool
fits_at fits xs place y = option_map_or (λ x. fits x y) (slice_get xs place) false

-- the first line behind the header
abbrev pub first_line : ℕ
first_line = 5

-- the sizes, in a version that tells them
abbrev pub size_failure_in : CertVersion → PlainProblem → List SizeOfLine → Option Failure
size_failure_in One case lines = None
size_failure_in Two case lines = first_unfit is_size_line SizeOf first_line (enumerate_from 0 case.sizes) lines

abbrev pub size_failure : PlainProblem → PlainCertificate → Option Failure
size_failure case c = size_failure_in c.version case c.sizes

abbrev pub first_shell_line : PlainCertificate → ℕ
first_shell_line c = first_line + length c.sizes

-- the shells, whose first stands on this line
abbrev pub shells_from : PlainProblem → ℕ → List ShellLine → Option Failure
shells_from case line shells = first_unfit (is_shell_line case.first case.last) ShellOf line (enumerate_from 0 case.tracks) shells

abbrev pub shell_failure : PlainProblem → PlainCertificate → Option Failure
shell_failure case c = shells_from case (first_shell_line c) c.shells

-- ---- boxes

-- slots are left behind the lines
abbrev pub unlisted : ℕ → List (ℕ × ℕ) → Option Failure
unlisted line [] = None
unlisted line (place ∷ left) = failed line BoxOf

-- From a line on, against the slots that are left: the first line that does not have the next of them, or lets a hull out. Where slots
-- are left at the end, it is the line behind the others.
unfoldable pub boxes_from : PlainProblem → ℕ → List (ℕ × ℕ) → List PlainBoxLine → Option Failure
boxes_from case line left [] = unlisted line left
boxes_from case line left (b ∷ boxes) = if is_box_line case left b then boxes_from case (line + 1) (drop (length (slots_of_line b)) left) boxes else failed line BoxOf

abbrev pub first_box_line : PlainCertificate → ℕ
first_box_line c = first_shell_line c + length c.shells

abbrev pub box_failure : PlainProblem → PlainCertificate → Option Failure
box_failure case c = boxes_from case (first_box_line c) (slots_with_states case) c.boxes

-- ---- cells

-- the cell is of the root's objects, begins with it, and ends in it
abbrev pub begins : PlainCell → PlainLeaf → Bool
begins r s = ((s.a == r.a) && (s.b == r.b)) && ((s.first == r.first) && (nat_le s.first s.last && nat_le s.last r.last))

-- the cell begins behind the root's first tick, in order of pair and tick
abbrev pub comes_after : PlainCell → PlainLeaf → Bool
comes_after r s = nat_lt r.a s.a || ((s.a == r.a) && (nat_lt r.b s.b || ((s.b == r.b) && nat_lt r.first s.first)))

-- the roots that are left behind a cell with which the first of them begins
abbrev pub behind : PlainLeaf → PlainCell → List PlainCell → List PlainCell
behind s r roots = if s.last == r.last then roots else (record { a = r.a; b = r.b; first = s.last + 1; last = r.last } ∷ roots)

-- what is wrong with a cell of a kind that is not supported
abbrev pub unsupported : Kind → CheckCause
unsupported kinds.Far = NotFar
unsupported kinds.Near = NotNear
unsupported kinds.Undecided = NotBand

-- From a line on, against the roots that are left, the first of them cut to its ticks that are left: the first line that does not
-- begin it, or whose kind is not supported. Where roots are left at the end, it is the line behind the others.
unfoldable pub cells_from : PlainProblem → ℕ → List PlainCell → List PlainLeaf → Option Failure
cells_from case line [] [] = None
cells_from case line (r ∷ roots) [] = failed line Untiled
cells_from case line [] (s ∷ cells) = failed line Stranger
cells_from case line (r ∷ roots) (s ∷ cells) =
    if begins r s then (if is_supported case s then cells_from case (line + 1) (behind s r roots) cells else failed line (unsupported s.kind))
    else (if comes_after r s then failed line Untiled else failed line Stranger)

abbrev pub first_cell_line : PlainCertificate → ℕ
first_cell_line c = first_box_line c + length c.boxes

abbrev pub cell_failure : PlainProblem → PlainCertificate → Option Failure
cell_failure case c = cells_from case (first_cell_line c) (roots_of (is_candidate_listed case c) case) c.cells

-- ---- the certificate

-- its points one after another
unfoldable pub first_failure : PlainProblem → PlainCertificate → Option Failure
first_failure case c = option_or (header_failure case c) (option_or (size_failure case c) (option_or (shell_failure case c) (option_or (box_failure case c) (cell_failure case c))))
