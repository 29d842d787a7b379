use Rattle.std.proofs.Common.{◌≡◌, ℕ, ◌<◌, ◌≤◌, List, true, length, sym, ap, subst, arith, below_more}
use Rattle.std.specs.Prelude.{All}
use Rattle.std.proofs.lemmas.Result.{IfOk-from_err}
use Rattle.cj_case.specs.declared.pair.Pair.{Pair}
use Rattle.cj_case.specs.Problems.{plain_problem}
use Rattle.cj_case.specs.Slots.{slot_count}
use Rattle.cj_cert.specs.Certificates.{plain_certificate}
use Rattle.cj_cert.specs.Listed.{is_candidate_listed}
use Rattle.cj_case.specs.Pairs.{HasPair}
use Rattle.cj_checker.specs.Keys.{AreKeysIn, HasKey, IsKeyIn}
use Rattle.cj_checker.proofs.RoundLemmas.{wider_rows}
use Rattle.cj_checker.proofs.rounds.collect.Goals as goal

pub append_keys-requires : goal.append_keys-requires
append_keys-requires c =
    record {
      few = subst (λ (ps : List Pair). All (λ pair. pair.b ≤ 65_535) ps) (sym c.deref.ensures.value)
          (λ k d lt. let there = c.in_ok-find_pairs.ensures.exist k d lt in omega (arith, there, c.args.problem.now.few));
    }

pub loop-slot-preserved : goal.loop-slot-preserved
loop-slot-preserved c =
    let i = c.loop-slot.invariant in
    let slot = c.loop-slot.slot in
    let told = c.in_ok-append_keys.ensures in
    let found = c.in_ok-find_pairs.ensures in
    let case = plain_problem c.args.problem.now in
    let candidate = is_candidate_listed case (plain_certificate c.args.cert.now) in
    let slots = slot_count case.first case.last in
    let n = length c.args.problem.now.tracks in
    let left = c.leave_enough-end.ensures in
    let wider : (k a b : ℕ) → IsKeyIn candidate c.args.first c.leave_enough-end.result n slots (record { a = a; b = b; slot = k })
    → IsKeyIn candidate c.args.first c.loop-slot.end n slots (record { a = a; b = b; slot = k }) = wider_rows candidate c.args.first c.leave_enough-end.result c.loop-slot.end n slots left.within in
    record {
      some = left.some;
      within = let within = left.within in let old = i.within in omega arith;
      keys = left.keys candidate n slots (told.keys candidate n slots (omega arith)
          (subst (λ (ps : List Pair). All (λ pair. pair.b < n) ps) (sym c.deref.ensures.value) found.exist)
          (subst (λ (ps : List Pair). All (λ pair. candidate pair.a pair.b slot ≡ true) ps) (sym c.deref.ensures.value) found.candidate)
          i.keys);
      found = below_more (λ k. (a b : ℕ) → IsKeyIn candidate c.args.first c.leave_enough-end.result n slots (record { a = a; b = b; slot = k }) → HasKey c.leave_enough-end.new.keys.items a b k) slot
          (λ k lt a b is. left.kept a b k is.to (told.kept a b k (i.found k lt a b (wider k a b is))))
          (λ a b is.
          let to = (wider slot a b is).to in
          left.kept a b slot is.to
          (told.found a b (subst (λ (ps : List Pair). HasPair ps a b) (sym c.deref.ensures.value) (found.found a b is.from to is.ordered is.candidates_at)) is.from to));
    }

pub loop-slot-init : goal.loop-slot-init
loop-slot-init c =
    let case = plain_problem c.args.problem.now in
    let candidate = is_candidate_listed case (plain_certificate c.args.cert.now) in
    let n = length c.args.problem.now.tracks in
    let all = ap length c.as_slice.ensures.value in
    let are_keys = AreKeysIn candidate c.args.first (length c.as_slice.result.now) n (slot_count case.first case.last) in
    record {
      some = omega arith;
      within = omega arith;
      keys = subst are_keys (sym c.clear.ensures.items) (λ k d short. absurd (omega (arith, short)));
      found = λ k lt a b is. absurd (omega (arith, lt));
    }

pub find_pairs-requires : goal.find_pairs-requires
find_pairs-requires c = record { objects = c.requires.objects; shells = c.requires.shells; boxes = c.requires.boxes; within = c.loop-slot.invariant.within }

pub returns-clause-some : goal.returns-clause-some
returns-clause-some c = c.loop-slot.invariant.some

pub returns-clause-within : goal.returns-clause-within
returns-clause-within c = c.loop-slot.invariant.within

pub returns-clause-keys : goal.returns-clause-keys
returns-clause-keys c = c.loop-slot.invariant.keys

pub returns-clause-found : goal.returns-clause-found
returns-clause-found c = λ a b slot is. c.loop-slot.invariant.found slot (omega (arith, is.slot)) a b is

pub returns-in_err-find_pairs-clause-some : goal.returns-in_err-find_pairs-clause-some
returns-in_err-find_pairs-clause-some c = IfOk-from_err c.from_residual.result _ c.from_residual.ensures.0

pub returns-in_err-find_pairs-clause-within : goal.returns-in_err-find_pairs-clause-within
returns-in_err-find_pairs-clause-within c = IfOk-from_err c.from_residual.result _ c.from_residual.ensures.0

pub returns-in_err-find_pairs-clause-keys : goal.returns-in_err-find_pairs-clause-keys
returns-in_err-find_pairs-clause-keys c = IfOk-from_err c.from_residual.result _ c.from_residual.ensures.0

pub returns-in_err-find_pairs-clause-found : goal.returns-in_err-find_pairs-clause-found
returns-in_err-find_pairs-clause-found c = IfOk-from_err c.from_residual.result _ c.from_residual.ensures.0

pub returns-in_err-append_keys-clause-some : goal.returns-in_err-append_keys-clause-some
returns-in_err-append_keys-clause-some c = IfOk-from_err c.from_residual-in_err-append_keys.result _ c.from_residual-in_err-append_keys.ensures.0

pub returns-in_err-append_keys-clause-within : goal.returns-in_err-append_keys-clause-within
returns-in_err-append_keys-clause-within c = IfOk-from_err c.from_residual-in_err-append_keys.result _ c.from_residual-in_err-append_keys.ensures.0

pub returns-in_err-append_keys-clause-keys : goal.returns-in_err-append_keys-clause-keys
returns-in_err-append_keys-clause-keys c = IfOk-from_err c.from_residual-in_err-append_keys.result _ c.from_residual-in_err-append_keys.ensures.0

pub returns-in_err-append_keys-clause-found : goal.returns-in_err-append_keys-clause-found
returns-in_err-append_keys-clause-found c = IfOk-from_err c.from_residual-in_err-append_keys.result _ c.from_residual-in_err-append_keys.ensures.0
