-- The certificate in brief that a run writes for a problem: its sizes, its primaries, exact shells, and the leaves of the roots that are not far throughout.
use Rattle.std.specs.Prelude.{length, map}
use Rattle.std.specs.List.{enumerate_from}
use Rattle.cj_case.specs.PlainProblems.{PlainProblem}
use Rattle.cj_case.specs.Primaries.{named}
use Rattle.cj_bezier.specs.ToldLeaves.{told_leaves}
use Rattle.cj_cert.specs.Written.{shell_line, size_lines}
use Rattle.cj_brief.specs.Certificates.{PlainBrief}

unfoldable pub written_in_brief : PlainProblem → PlainBrief
written_in_brief case = record {
  first = case.first;
  last = case.last;
  threshold = case.threshold;
  objects = length case.tracks;
  sizes = size_lines case.sizes;
  primaries = named case.primaries;
  shells = map (shell_line case) (enumerate_from 0 case.tracks);
  cells = told_leaves case;
}
