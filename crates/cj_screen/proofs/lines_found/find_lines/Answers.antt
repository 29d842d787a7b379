use Rattle.std.proofs.Common.{◌≡◌, ◌∙◌, List, Result, Ok, length, refl, ap, sym, subst, arith}
use Rattle.std.specs.Prelude.{IfOk, OnOk}
use Rattle.std.proofs.lemmas.List.{length-map}
use Rattle.std.proofs.lemmas.Result.{err_from_is_err_and}
use Rattle.cj_case.specs.Leaves.{PlainLeaf, plain_leaf}
use Rattle.cj_case.specs.Problems.{plain_problem}
use Rattle.cj_cells.specs.Lists.{list_candidates}
use Rattle.cj_formats.specs.declared.cert_format.CertFormat.{CertFormat}
use Rattle.cj_outputs.specs.Outcome.{within_cells, within_told}
use Rattle.cj_status.specs.declared.status.Status.{Status}
use Rattle.cj_status.specs.Steps.{◌>>=◌, Gives, Stops}
use Rattle.cj_outputs.proofs.AcceptingLemmas.{stops_then}
use Rattle.cj_screen.proofs.ReportLemmas.{told_counted}
use Rattle.cj_screen.specs.Refining.{AreFoundLines, leaves_asked}
use Rattle.cj_screen.proofs.lines_found.find_lines.Goals as goal

pub returns-then-goes_by_slabs : goal.returns-then-goes_by_slabs
returns-then-goes_by_slabs g c =
    let case = plain_problem c.args.problem.now in
    let wanted = c.args.wanted in
    let r = c.sift_all.result in
    let is = sym (c.goes_by_slabs.ensures c.if-goes_by_slabs.true) in
    let done = c.sift_all.ensures in
    record {
      between = done.between;
      told = subst (λ (format : CertFormat). Gives ⊥ (λ _. list_candidates case) r (leaves_asked wanted.leaves wanted.told format case)) is done.told;
      few = done.few;
      few_told = subst (λ (format : CertFormat). OnOk r (within_told wanted.told format case ≡ Ok tt)) is done.few_told;
      found = subst (λ (format : CertFormat). IfOk r (AreFoundLines format case)) is done.found;
      ticks = done.ticks;
    }

pub returns-in_err-refined : goal.returns-in_err-refined
returns-in_err-refined g c =
    let wanted = c.args.wanted in
    let case = plain_problem c.args.problem.now in
    let s = c.in_err-refined.field-0.0 in
    let p = err_from_is_err_and c.from_residual.result c.from_residual.ensures.1 in
    rw (p.1, p.2) (record {
      between = c.in_err-refined.ensures.between;
      told = stops_then ⊥ s (within_cells wanted.leaves (list_candidates case)) (λ leaves. within_told wanted.told wanted.format case >>= λ done. Ok leaves) c.in_err-refined.ensures.told;
      few = tt;
      few_told = tt;
      found = tt;
      ticks = tt;
    })

pub returns-in_err-judge_told : goal.returns-in_err-judge_told
returns-in_err-judge_told g c =
    let wanted = c.args.wanted in
    let case = plain_problem c.args.problem.now in
    let s = c.in_err-judge_told.field-0.0 in
    let done = c.in_ok-refined.ensures in
    let refined = done.refined in
    let within = done.told ∙ ap (λ (ss : List PlainLeaf). Ok ss) refined.leaves in
    let counted = told_counted wanted.told wanted.format case c.in_ok-refined.refined.told.items c.deref.result.now c.deref.ensures.value refined.told in
    let stops = subst (λ (r : Result (Unit {0}) Status). Stops ⊥ s r) counted c.in_err-judge_told.ensures.told in
    let p = err_from_is_err_and c.from_residual-in_err-judge_told.result c.from_residual-in_err-judge_told.ensures.1 in
    rw (p.1, p.2) (record {
      between = c.in_err-judge_told.ensures.between;
      told = rw within (stops_then ⊥ s (within_told wanted.told wanted.format case) (λ done. Ok (list_candidates case)) stops);
      few = tt;
      few_told = tt;
      found = tt;
      ticks = tt;
    })

pub lines_of-requires : goal.lines_of-requires
lines_of-requires g c = omega (arith, c.in_ok-refined.ensures.refined.splits)

pub returns : goal.returns
returns g c =
    let case = plain_problem c.args.problem.now in
    let done = c.in_ok-refined.ensures in
    let refined = done.refined in
    let found = c.in_ok-refined.refined in
    let wanted = c.args.wanted in
    let within = done.told ∙ ap (λ (ss : List PlainLeaf). Ok ss) refined.leaves in
    let few : within_told wanted.told wanted.format case ≡ Ok tt =
    sym (told_counted wanted.told wanted.format case found.told.items c.deref.result.now c.deref.ensures.value refined.told) ∙ c.in_ok-judge_told.ensures.told in
    record {
      between = tt;
      told = rw (within, few) refl;
      few = omega (arith, done.few, ap (λ (ss : List PlainLeaf). length ss) refined.leaves, length-map found.leaves.items plain_leaf);
      few_told = few;
      found = c.lines_of.ensures case refined done.ticks;
      ticks = done.ticks;
    }
