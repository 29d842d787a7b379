use Rattle.std.proofs.Common.{◌≡◌}
use Rattle.std.specs.List.{enumerate_from}
use Rattle.cj_formats.specs.declared.check_cause.CheckCause.TheVariants.{SizeOf}
use Rattle.cj_checker.specs.First.{first_line, first_unfit}
use Rattle.cj_checker.specs.Tests.{is_size_line}
use Rattle.cj_checker.proofs.UnfitLemmas.{unfit_from}
use Rattle.cj_checker.proofs.sizes.unfit_size.Given as goal

-- what is left fails as the whole
abbrev pub invariant-loop-line : goal.invariant-loop-line
invariant-loop-line l = record {
  place : l.object ≡ l.line-index;
  rest : first_unfit is_size_line SizeOf first_line (enumerate_from 0 l.sizes) l.lines ≡ unfit_from is_size_line SizeOf first_line (enumerate_from 0 l.sizes) l.lines l.object;
}
