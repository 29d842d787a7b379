-- A common run of two tracks keeps the pieces of both.
use Rattle.std.proofs.Common.{◌≡◌, ℕ, ◌+◌, List, ◌∷◌, map, length, get_or, sym, ap, subst, ◌∙◌, arith}
use Rattle.cj_interval.proofs.ListLemmas.{Each}
use Rattle.cj_base.specs.declared.tick.Window.{Window}
use Rattle.cj_track.specs.declared.track.Track.{Track}
use Rattle.cj_track.specs.Tracks.{plain_track}
use Rattle.cj_case.specs.declared.problem.Problem.{Problem}
use Rattle.cj_hermite.specs.CommonRuns.{Run, both, both_numbers, run_of, runs_between, IsNextCommon}
use Rattle.cj_hermite.specs.Pieces.{piece_at}
use Rattle.cj_case.specs.PlainProblems.{PlainProblem}
use Rattle.cj_case.specs.Problems.{plain_problem}
use Rattle.cj_hermite.specs.Roots.{KeepPieces, numbers_at, root_of_run, roots_between}
use Rattle.cj_hermite.proofs.RootLemmas.{IsRoot, Each-between}
use Rattle.cj_hermite.proofs.TrackLemmas.{number_of_track}

-- the first common run of two tracks keeps the pieces of both
pub keeps_run : (p : Problem) (first second : Track) (from last : ℕ) (ticks : Window) → length p.tracks ≡ 2 → first ≡ get_or p.tracks 0 first → second ≡ get_or p.tracks 1 second →
    IsNextCommon (plain_track first) (plain_track second) from last ticks → KeepPieces (plain_problem p) 0 1 ticks.first.micros ticks.last.micros
unfolding roots_between
keeps_run p first second from last ticks two a b next =
    let root = roots.0 in
    record { same = root.same; nodes = root.labelled }
  where
    case : PlainProblem
    case = plain_problem p

    labels : (m : ℕ) → numbers_at case 0 1 m ≡ both_numbers (plain_track first) (plain_track second) m
    labels m =
        let one = number_of_track p 0 m first (omega arith) ∙ ap (λ (t : Track). piece_at (plain_track t) m) (sym a) in
        let other = number_of_track p 1 m second (omega arith) ∙ ap (λ (t : Track). piece_at (plain_track t) m) (sym b) in
        λ i. both (one i) (other i)

    runs : runs_between (numbers_at case 0 1) from last ≡ run_of ticks ∷ runs_between (both_numbers (plain_track first) (plain_track second)) (ticks.last.micros + 1) last
    runs = (λ i. runs_between (λ m. labels m i) from last) ∙ next

    roots : Each (IsRoot case 0 1 from last) (map (root_of_run 0 1) (run_of ticks ∷ runs_between (both_numbers (plain_track first) (plain_track second)) (ticks.last.micros + 1) last))
    roots = subst (λ (rs : List Run). Each (IsRoot case 0 1 from last) (map (root_of_run 0 1) rs)) runs (Each-between case 0 1 from last)
