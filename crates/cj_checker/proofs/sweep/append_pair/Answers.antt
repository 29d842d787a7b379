use Rattle.std.proofs.Common.{◌≡◌, ℕ, true, subst, arith}
use Rattle.std.proofs.lemmas.Option.{same_Some}
use Rattle.std.proofs.lemmas.Result.{on_ok_weaker}
use Rattle.cj_case.specs.Pairs.{HasPair, objects_of}
use Rattle.cj_checker.specs.Keys.{looks}
use Rattle.cj_checker.proofs.sweep.append_pair.Goals as goal

pub returns-in-None-clause-found : goal.returns-in-None-clause-found
returns-in-None-clause-found c a b up both is = let none = c.in-None.ensures.value a b up both in absurd cc

pub returns-in-None-clause-candidate : goal.returns-in-None-clause-candidate
returns-in-None-clause-candidate c = λ old. old

pub returns-in-None-clause-kept : goal.returns-in-None-clause-kept
returns-in-None-clause-kept c = λ a b has. has

pub returns-in-Some-clause-candidate : goal.returns-in-Some-clause-candidate
returns-in-Some-clause-candidate c = c.append_candidates.ensures.candidate

pub returns-in-Some-clause-kept : goal.returns-in-Some-clause-kept
returns-in-Some-clause-kept c = c.append_candidates.ensures.kept

pub returns-in-Some-clause-found : goal.returns-in-Some-clause-found
returns-in-Some-clause-found c =
    let candidate = looks c.args.problem.now c.args.shells.now c.args.boxes.now in
    on_ok_weaker c.append_candidates.result (λ found a b up both is.
    let same = same_Some (objects_of c.in-Some.pair) (a, b) (c.in-Some.ensures.value a b up both) in
    subst (λ (p : ℕ × ℕ). candidate p ≡ true → HasPair c.append_candidates.new.pairs.items p.0 p.1) same found is) c.append_candidates.ensures.found

pub append_candidates-requires-clause-exists : goal.append_candidates-requires-clause-exists
append_candidates-requires-clause-exists c = omega (arith, c.in-Some.ensures.among)
