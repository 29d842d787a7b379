use Rattle.std.proofs.Common.{◌≡◌, ◌∙◌, Option, Vec, Global, map, ap, subst}
use Rattle.std.specs.Prelude.{IfSome}
use Rattle.cj_case.specs.declared.pair.Pair.{Pair}
use Rattle.cj_case.specs.Pairs.{objects_of}
use Rattle.cj_case.specs.Problems.{plain_problem}
use Rattle.cj_bezier.specs.Candidates.{pairs_kept}
use Rattle.cj_candidates.proofs.WantedLemmas.{all_hold, kept_hold}
use Rattle.cj_candidates.proofs.few_primaries.sought_among.Goals as goal

pub returns-in-None : goal.returns-in-None
returns-in-None c = all_hold (plain_problem c.args.problem.now)

pub returns-in-Some : goal.returns-in-Some
returns-in-Some c =
    let case = plain_problem c.args.problem.now in
    let kept = subst (λ (o : Option (Vec Pair Global)). IfSome o (λ pairs. map objects_of pairs.items ≡ pairs_kept case)) c.in-Some.is c.requires in
    kept_hold case _ (ap (map objects_of) c.as_slice.ensures.value ∙ kept)
