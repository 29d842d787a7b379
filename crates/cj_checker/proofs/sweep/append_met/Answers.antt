use Rattle.std.proofs.Common.{◌≡◌, ℕ, ◌<◌, true, map, get_or, sym, subst, ◌∙◌, arith, below_more}
use Rattle.std.specs.Prelude.{◌≤ℤ◌}
use Rattle.std.specs.List.{Contains}
use Rattle.std.proofs.lemmas.List.{get_or_default}
use Rattle.cj_case.specs.Problems.{plain_problem}
use Rattle.cj_case.specs.Boxes.{plain_boxes}
use Rattle.cj_cert.specs.declared.cert_lines.ShellLine.{ShellLine}
use Rattle.cj_checker.specs.declared.reach.Reach.{Reach}
use Rattle.cj_case.specs.Pairs.{AreBoth, HasPair}
use Rattle.cj_checker.specs.Keys.{candidate_with}
use Rattle.cj_checker.proofs.sweep.append_met.Goals as goal

pub loop-reach-init : goal.loop-reach-init
loop-reach-init c = record {
  candidate = λ all. all;
  kept = λ a b has. has;
  found = λ k lt. absurd (omega arith);
}

pub loop-reach-preserved : goal.loop-reach-preserved
loop-reach-preserved c =
    let i = c.loop-reach.invariant in
    let at = c.loop-reach.reach-index in
    let told = c.in_ok-append_row.ensures in
    let case = plain_problem c.args.problem.now in
    let shells = map (λ (line : ShellLine). line.shell) c.args.shells.now in
    let areas = plain_boxes c.args.boxes.now in
    record {
      candidate = λ all. told.candidate (i.candidate all);
      kept = λ a b has. told.kept a b (i.kept a b has);
      found = below_more (λ k. (r s : Reach) → get_or c.args.some.now k r ≡ r → Contains c.args.others.now s → r.low ≤ℤ s.low → s.low ≤ℤ r.high
          → (a b : ℕ) → a < b → AreBoth r.object s.object a b → candidate_with case shells areas (a, b) ≡ true → HasPair c.append_row.new.pairs.items a b) at
          (λ k lt r s is has low high a b up both candidate. told.kept a b (i.found k lt r s is has low high a b up both candidate))
          (λ r s is has low high a b up both candidate.
          let same : r ≡ get_or c.args.some.now at _ = sym (get_or_default c.args.some.now at _ r (omega arith) ∙ is) in
          told.found s
          (c.begun_within-met.ensures.kept s has (subst (λ (x : Reach). x.low ≤ℤ s.low) same low) (subst (λ (x : Reach). s.low ≤ℤ x.high) same high))
          a b up (subst (λ (x : Reach). AreBoth x.object s.object a b) same both) candidate);
    }

pub append_row-requires-clause-exist : goal.append_row-requires-clause-exist
append_row-requires-clause-exist c = c.begun_within-met.ensures.exist c.args.problem.now c.requires.exist_too

pub returns-clause-candidate : goal.returns-clause-candidate
returns-clause-candidate c = c.loop-reach.invariant.candidate

pub returns-clause-kept : goal.returns-clause-kept
returns-clause-kept c = c.loop-reach.invariant.kept

pub returns-clause-found : goal.returns-clause-found
returns-clause-found c r s has has' low high a b up both candidate =
    let lt = has.1 in
    c.loop-reach.invariant.found has.0 (omega arith) r s has.2 has' low high a b up both candidate
