-- How far the lines of boxes were read.
use Rattle.std.specs.Prelude.{◌≡◌, ℕ, ◌+◌, ◌<◌, ◌≤◌, if◌then◌else◌, true, false, List, drop, get_or, length, map, min, Option, IfNone, IfSome}
use Rattle.std.specs.List.{enumerate_from}
use Rattle.cj_track.specs.Tracks.{plain_track}
use Rattle.cj_case.specs.declared.problem.Problem.{Problem}
use Rattle.cj_case.specs.Problems.{plain_problem}
use Rattle.cj_cert.specs.declared.cert_lines.BoxLine.{BoxLine}
use Rattle.cj_cert.specs.declared.cert_lines.ShellLine.{ShellLine}
use Rattle.cj_case.specs.PlainProblems.{PlainProblem}
use Rattle.cj_cert.specs.Certificates.{PlainBoxLine, plain_box_line}
use Rattle.cj_checker.specs.declared.boxes_read.BoxesRead.{BoxesRead}
use Rattle.cj_checker.specs.declared.boxes_read.ObjectRead.{ObjectRead}
use Rattle.cj_formats.specs.declared.check_cause.CheckCause.TheVariants.{BoxOf}
use Rattle.cj_checker.specs.First.{failed, boxes_from, fits_at, Failure}
use Rattle.cj_checker.specs.Places.{places_from}
use Rattle.cj_checker.specs.Tests.{is_shell_line}

-- The failure of lines that begin at a line, where so many of them were read and these places are left: that of the next line, or that
-- of all that are left.
abbrev pub fails_behind : PlainProblem → ℕ → List (ℕ × ℕ) → List PlainBoxLine → BoxesRead → Option Failure
fails_behind case line left boxes read = if read.failed then failed (line + read.passed) BoxOf else boxes_from case (line + read.passed) left (drop read.passed boxes)

-- the lines of an object were read from a place on: the lines from there on fail as those behind do
abbrev pub IsReadOf : PlainProblem → ℕ → List PlainBoxLine → ℕ → BoxesRead → Type 0
IsReadOf case object boxes at read =
    (line : ℕ) → boxes_from case (line + at) (places_from case object 0) (drop at boxes) ≡ fails_behind case line (places_from case (object + 1) 0) boxes read

-- with the lines of an object more were read: the whole fails as it did
abbrev pub IsReadOn : PlainProblem → ℕ → List PlainBoxLine → BoxesRead → BoxesRead → Type 0
IsReadOn case object boxes old new = (line : ℕ) → fails_behind case line (places_from case object 0) boxes old ≡ fails_behind case line (places_from case (object + 1) 0) boxes new

-- an object was read by its line of a shell and the lines of boxes, from a place on, which nothing before failed
pub record IsObjectRead (problem : Problem) (object : ℕ) (line : ShellLine) (boxes : List BoxLine) (tried : ObjectRead) : Type 0 where
  pub none : IfNone tried.more (fits_at (is_shell_line problem.window.first.micros problem.window.last.micros) (enumerate_from 0 (map plain_track problem.tracks)) object line ≡ false)
  pub some : IfSome tried.more (λ more. fits_at (is_shell_line problem.window.first.micros problem.window.last.micros) (enumerate_from 0 (map plain_track problem.tracks)) object line ≡ true)
  pub place : IfSome tried.more (λ more. more.passed ≤ length boxes)
  pub on : IfSome tried.more (IsReadOn (plain_problem problem) object (map plain_box_line boxes) (record { passed = tried.from; failed = false }))

-- each object that has a line was read by it
pub record AreObjectsRead (problem : Problem) (lines : List ShellLine) (boxes : List BoxLine) (tries : List ObjectRead) : Type 0 where
  pub many : length tries ≡ min (length lines) (length problem.tracks)
  pub each : (object : ℕ) (d : ObjectRead) (l : ShellLine) → object < length tries → IsObjectRead problem object (get_or lines object l) boxes (get_or tries object d)
