-- What a problem asks, as a case.
use Rattle.std.specs.Prelude.{map}
use Rattle.cj_track.specs.Tracks.{plain_track}
use Rattle.cj_case.specs.declared.problem.Problem.{Problem}
use Rattle.cj_case.specs.PlainProblems.{PlainProblem}

abbrev pub plain_problem : Problem → PlainProblem
plain_problem problem = record {
  tracks = map plain_track problem.tracks;
  first = problem.window.first.micros;
  last = problem.window.last.micros;
  threshold = problem.threshold;
  sizes = problem.sizes;
  primaries = problem.primaries;
}
