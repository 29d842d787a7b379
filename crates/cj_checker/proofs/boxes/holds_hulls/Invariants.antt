use Rattle.std.proofs.Common.{◌≡◌, ◌+◌, ◌-◌}
use Rattle.std.specs.List.{list_all, range_with_len}
use Rattle.cj_track.specs.Tracks.{plain_track}
use Rattle.cj_case.specs.Problems.{plain_problem}
use Rattle.cj_case.specs.Boxes.{plain_box}
use Rattle.cj_checker.specs.Tests.{is_in_box}
use Rattle.cj_checker.specs.Walks.{IsWalk}
use Rattle.cj_checker.proofs.boxes.holds_hulls.Given as goal

-- the slots from this one on pass as all of them
abbrev pub invariant-loop-slot : goal.invariant-loop-slot
invariant-loop-slot l =
    let passes = is_in_box (plain_problem l.course.problem.now) (plain_track l.course.track.now) (plain_box l.line.area) in
    record {
      walks : IsWalk l.course l.walk;
      rest : list_all passes (range_with_len l.line.first (l.line.last + 1 - l.line.first)) ≡ list_all passes (range_with_len l.slot (l.line.last + 1 - l.slot));
    }
