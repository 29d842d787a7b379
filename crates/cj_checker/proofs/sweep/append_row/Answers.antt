use Rattle.std.proofs.Common.{◌≡◌, ℕ, ◌<◌, true, map, get_or, sym, subst, ◌∙◌, arith, below_more}
use Rattle.std.proofs.lemmas.List.{get_or_default}
use Rattle.cj_case.specs.Problems.{plain_problem}
use Rattle.cj_case.specs.Boxes.{plain_boxes}
use Rattle.cj_cert.specs.declared.cert_lines.ShellLine.{ShellLine}
use Rattle.cj_checker.specs.declared.reach.Reach.{Reach}
use Rattle.cj_case.specs.Pairs.{AreBoth, HasPair}
use Rattle.cj_checker.specs.Keys.{candidate_with}
use Rattle.cj_checker.proofs.sweep.append_row.Goals as goal

pub loop-other-init : goal.loop-other-init
loop-other-init c = record {
  candidate = λ all. all;
  kept = λ a b has. has;
  found = λ k lt. absurd (omega arith);
}

pub loop-other-preserved : goal.loop-other-preserved
loop-other-preserved c =
    let i = c.loop-other.invariant in
    let at = c.loop-other.other-index in
    let told = c.in_ok-append_near.ensures in
    let case = plain_problem c.args.problem.now in
    let shells = map (λ (line : ShellLine). line.shell) c.args.shells.now in
    let areas = plain_boxes c.args.boxes.now in
    record {
      candidate = λ all. told.candidate (i.candidate all);
      kept = λ a b has. told.kept a b (i.kept a b has);
      found = below_more (λ k. (reach : Reach) → get_or c.args.others.now k reach ≡ reach → (a b : ℕ) → a < b → AreBoth c.args.one reach.object a b
          → candidate_with case shells areas (a, b) ≡ true → HasPair c.append_near.new.pairs.items a b) at
          (λ k lt reach is a b up both candidate. told.kept a b (i.found k lt reach is a b up both candidate))
          (λ reach is a b up both candidate.
          told.found a b up (subst (λ (r : Reach). AreBoth c.args.one r.object a b) (sym (get_or_default c.args.others.now at _ reach (omega arith) ∙ is)) both) candidate);
    }

pub returns-clause-found : goal.returns-clause-found
returns-clause-found c reach has a b up both candidate =
    let lt = has.1 in
    c.loop-other.invariant.found has.0 (omega arith) reach has.2 a b up both candidate
