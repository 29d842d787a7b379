use Rattle.std.proofs.Common.{◌≡◌, ◌<◌, List, Some, get_or, length, sym, subst, ◌∙◌, arith}
use Rattle.std.proofs.lemmas.Bool.{eqb-true}
use Rattle.cj_track.specs.declared.track.Track.{Track}
use Rattle.cj_case.specs.Problems.{plain_problem}
use Rattle.cj_hermite.specs.Interpolant.{curve_of}
use Rattle.cj_hermite.specs.ObjectsAtTicks.{curve_at}
use Rattle.cj_hermite.specs.Whole.{IsWhole}
use Rattle.cj_hermite.proofs.WholeLemmas.{curve_of_run, whole_is_over, whole_run}
use Rattle.cj_brief_checker.proofs.cuts.cut_over.Goals as goal
use Rattle.cj_brief_checker.proofs.cuts.cut_over.Goals.{In_ok-run}

whole : (c : In_ok-run) → c.in_ok-run.run'.ticks.first.micros ≡ c.args.ticks.first.micros → c.in_ok-run.run'.ticks.last.micros ≡ c.args.ticks.last.micros
    → IsWhole (plain_problem c.args.problem.now) c.args.object c.args.ticks.first.micros c.args.ticks.last.micros
whole c from to =
    let p = c.args.problem.now in
    let track = c.in_ok-track.track.now in
    let found = c.in_ok-track.ensures.lookup in
    whole_run p c.args.object c.args.ticks.first.micros c.args.ticks.last.micros track c.in_ok-run.run'.ticks
    (subst (λ (ts : List Track). c.args.object < length ts) c.as_slice.ensures.value found.3.0)
    (subst (λ (ts : List Track). track ≡ get_or ts c.args.object track) c.as_slice.ensures.value found.1)
    c.in_ok-run.ensures.run from to c.requires

curve : (c : In_ok-run) → c.in_ok-run.run'.ticks.first.micros ≡ c.args.ticks.first.micros → c.in_ok-run.run'.ticks.last.micros ≡ c.args.ticks.last.micros
    → curve_at (plain_problem c.args.problem.now) c.args.object c.args.ticks.first.micros ≡ Some (curve_of c.in_ok-run.run'.piece)
curve c from to =
    let p = c.args.problem.now in
    let track = c.in_ok-track.track.now in
    let found = c.in_ok-track.ensures.lookup in
    curve_of_run p c.args.object c.args.ticks.first.micros track c.in_ok-run.run'.piece
    (subst (λ (ts : List Track). c.args.object < length ts) c.as_slice.ensures.value found.3.0)
    (subst (λ (ts : List Track). track ≡ get_or ts c.args.object track) c.as_slice.ensures.value found.1)
    (c.in_ok-run.ensures.piece c.args.ticks.first.micros (omega arith) (omega (arith, c.in_ok-run.ensures.after, from, to, c.requires)))

pub cut_of-requires-clause-over : goal.cut_of-requires-clause-over
cut_of-requires-clause-over c =
    let run = (goal.at.cut_of-requires-clause-over c).In_ok-run in
    let from = eqb-true _ _ (sym c.eq.ensures ∙ c.if-eq.true) in
    let to = eqb-true _ _ (sym c.eq-then-eq.ensures ∙ c.if-eq-2.true) in
    whole_is_over (plain_problem c.args.problem.now) c.args.object c.args.ticks.first.micros c.args.ticks.last.micros c.in_ok-run.run'.piece c.requires (whole run from to) (curve run from to)

pub returns-then-eq-2 : goal.returns-then-eq-2
returns-then-eq-2 c =
    let run = (goal.at.returns-then-eq-2 c).In_ok-run in
    let from = eqb-true _ _ (sym c.eq.ensures ∙ c.if-eq.true) in
    let to = eqb-true _ _ (sym c.eq-then-eq.ensures ∙ c.if-eq-2.true) in
    c.cut_of.ensures (plain_problem c.args.problem.now) (whole run from to) (curve run from to)
