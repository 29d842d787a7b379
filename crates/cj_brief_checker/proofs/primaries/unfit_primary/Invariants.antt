use Rattle.std.proofs.Common.{◌≡◌}
use Rattle.std.specs.Prelude.{◌==◌}
use Rattle.cj_formats.specs.declared.check_cause.CheckCause.TheVariants.{PrimaryOf}
use Rattle.cj_checker.specs.First.{first_unfit}
use Rattle.cj_checker.proofs.UnfitLemmas.{unfit_from}
use Rattle.cj_brief_checker.proofs.primaries.unfit_primary.Given as goal

-- what is left fails as the whole
abbrev pub invariant-loop-line : goal.invariant-loop-line
invariant-loop-line l = record {
  place : l.place ≡ l.line-index;
  rest : first_unfit (λ object line. object == line) PrimaryOf l.first l.named l.lines ≡ unfit_from (λ object line. object == line) PrimaryOf l.first l.named l.lines l.place;
}
