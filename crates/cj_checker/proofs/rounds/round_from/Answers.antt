use Rattle.std.proofs.Common.{ℕ, sym, subst, arith}
use Rattle.std.proofs.lemmas.List.{length-map}
use Rattle.cj_track.specs.Tracks.{plain_track}
use Rattle.cj_case.specs.Problems.{plain_problem}
use Rattle.cj_case.specs.Slots.{slot_count}
use Rattle.cj_cert.specs.Certificates.{plain_certificate}
use Rattle.cj_cert.specs.Listed.{is_candidate_listed}
use Rattle.cj_checker.specs.Keys.{AreKeysIn, IsKeyIn}
use Rattle.cj_checker.proofs.KeyLemmas.{found_keys}
use Rattle.cj_checker.proofs.rounds.round_from.Goals as goal

pub returns-clause-keys : goal.returns-clause-keys
returns-clause-keys c =
    let case = plain_problem c.args.problem.now in
    let candidate = is_candidate_listed case (plain_certificate c.args.cert.now) in
    let slots = slot_count case.first case.last in
    let first = c.args.first in
    let end = c.in_ok-end.end in
    let count = length-map c.args.problem.now.tracks plain_track in
    let told = c.in_ok-end.ensures in
    let order = c.put_in_order.ensures in
    found_keys candidate case first end c.collect.new.keys.items c.put_in_order.new.keys.items (let some = told.some in omega arith) (let within = told.within in omega arith)
    (subst (λ (n : ℕ). AreKeysIn candidate first end n slots c.collect.new.keys.items) (sym count) told.keys)
    (λ a b slot is. told.found a b slot (subst (λ (n : ℕ). IsKeyIn candidate first end n slots (record { a = a; b = b; slot = slot })) count is))
    order.order order.from order.kept
