use Rattle.std.proofs.Common.{◌∙◌, ap, refl}
use Rattle.cj_case.specs.PlainProblems.{threshold_of}
use Rattle.cj_case.specs.Problems.{plain_problem}
use Rattle.cj_case.specs.declared.problem.Problem.{Problem}
use Rattle.cj_hermite.specs.Ready.{curve_ready}
use Rattle.cj_brief_checker.proofs.CutLemmas.{IsCutFor, hull_here, whole_root}
use Rattle.cj_brief_checker.proofs.cuts.Cuts.root_by.Goals as goal

pub returns : goal.returns
returns c =
    let case = plain_problem c.args.self.now in
    let pair = c.args.pair in
    let ticks = c.args.ticks in
    let a = c.in_ok-a in
    let b = c.in_ok-b in
    let of_a : IsCutFor case pair.a ticks a.a.now = record { made = a.ensures.cut; same = a.ensures.object; from = a.ensures.first; to = a.ensures.last } in
    let of_b : IsCutFor case pair.b ticks b.b.now = record { made = b.ensures.cut; same = b.ensures.object; from = b.ensures.first; to = b.ensures.last } in
    whole_root case pair ticks a.a.now b.b.now _ c.requires.order of_a of_b refl refl refl refl
    (c.pair_threshold-thr.ensures.value ∙ ap (λ (q : Problem). threshold_of (plain_problem q) pair.a pair.b) c.self.view_is)
    (c.verdict_by-verdict.ensures (curve_ready a.a.now.ready) (curve_ready b.b.now.ready) ticks.first.micros ticks.last.micros (hull_here case pair.a ticks a.a.now of_a) (hull_here case pair.b ticks b.b.now of_b))
