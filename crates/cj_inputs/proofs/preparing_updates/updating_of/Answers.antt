use Rattle.std.proofs.Common.{arith, ◌≡◌, ◌∙◌, ◌≤◌, ◌<◌, List, length, map, sym, ap, true, false}
use Rattle.std.specs.Prelude.{nat_le}
use Rattle.std.proofs.lemmas.Bool.Decides.{nat_tests}
use Rattle.std.proofs.lemmas.List.{length-map}
use Rattle.std.proofs.lemmas.Result.{err_from_is_err_and}
use Rattle.cj_base.specs.PlainTicks.{micros_of}
use Rattle.cj_case.specs.Problems.{plain_problem}
use Rattle.cj_track.specs.Tracks.{plain_track}
use Rattle.cj_track.specs.declared.track.Track.{Track}
use Rattle.cj_words.specs.Settings.{plain_settings}
use Rattle.cj_inputs.specs.Cases.{case_of_run}
use Rattle.cj_inputs.specs.ObjectAttributes.{plain_attributes}
use Rattle.cj_inputs.specs.Updates.{cases_of_run, plain_updated}
use Rattle.cj_inputs.proofs.UpdateCaseLemmas.{made_over, one_window, smaller_ends, given_end}
use Rattle.cj_inputs.proofs.preparing_updates.updating_of.Goals as goal

pub returns-in_err-base-clause-told : goal.returns-in_err-base-clause-told
returns-in_err-base-clause-told g c =
    let asked = plain_settings c.args.settings.now in
    let begins = given_end micros_of c.args.settings.now.from c.requires.begins in
    let ends = given_end micros_of c.args.settings.now.to c.requires.ends in
    let cases = cases_of_run asked (plain_updated c.args.tracks) (plain_attributes c.args.said.now) in
    let base = c.args.tracks.base.items in
    let new = c.args.tracks.new.items in
    let tested = ap (λ (ts : List Track). nat_le (length ts) (length new)) (sym c.deref-4.ensures.value) ∙ ap (λ (ts : List Track). nat_le (length c.deref-4.result.now) (length ts)) (sym c.deref-5.ensures.value)
    ∙ sym c.are_no_more.ensures ∙ c.if-are_no_more.true in
    let test : nat_le (length base) (length new) ≡ true = tested in
    let fewer : length base ≤ length new = grind (arith, nat_tests) in
    let p = err_from_is_err_and c.from_residual-in_err-base.result c.from_residual-in_err-base.ensures.1 in
    rw (p.1, p.2)
    (smaller_ends asked.limits.object_slots cases cases.new cases.base (plain_problem c.in_ok-new.new) c.in_err-base.field-0.0
    (one_window asked (map plain_track base) (map plain_track new) (plain_attributes c.args.said.now) begins ends)
    (omega (arith, fewer, length-map base plain_track, length-map new plain_track)) c.in_ok-new.ensures.told c.in_err-base.ensures.told)

pub invariant_of-result : goal.invariant_of-result
invariant_of-result g c =
    let asked = plain_settings c.args.settings.now in
    let begins = given_end micros_of c.args.settings.now.from c.requires.begins in
    let ends = given_end micros_of c.args.settings.now.to c.requires.ends in
    let base = map plain_track c.args.tracks.base.items in
    let new = map plain_track c.args.tracks.new.items in
    let said = plain_attributes c.args.said.now in
    let over = made_over asked.limits.object_slots (case_of_run asked base said) (case_of_run asked new said) (plain_problem c.in_ok-base.base) (plain_problem c.in_ok-new.new)
    (one_window asked base new said begins ends) c.in_ok-base.ensures.told c.in_ok-new.ensures.told in
    record { first = over.first; last = over.last; threshold = over.threshold }

pub invariant_of-result-else-are_no_more : goal.invariant_of-result-else-are_no_more
invariant_of-result-else-are_no_more g c =
    let asked = plain_settings c.args.settings.now in
    let begins = given_end micros_of c.args.settings.now.from c.requires.begins in
    let ends = given_end micros_of c.args.settings.now.to c.requires.ends in
    let base = map plain_track c.args.tracks.base.items in
    let new = map plain_track c.args.tracks.new.items in
    let said = plain_attributes c.args.said.now in
    let over = made_over asked.limits.object_slots (case_of_run asked base said) (case_of_run asked new said) (plain_problem c.in_ok-base-2.base) (plain_problem c.in_ok-new-2.new)
    (one_window asked base new said begins ends) c.in_ok-base-2.ensures.told c.in_ok-new-2.ensures.told in
    record { first = over.first; last = over.last; threshold = over.threshold }

pub returns-in_err-new-2-clause-told : goal.returns-in_err-new-2-clause-told
returns-in_err-new-2-clause-told g c =
    let asked = plain_settings c.args.settings.now in
    let begins = given_end micros_of c.args.settings.now.from c.requires.begins in
    let ends = given_end micros_of c.args.settings.now.to c.requires.ends in
    let cases = cases_of_run asked (plain_updated c.args.tracks) (plain_attributes c.args.said.now) in
    let base = c.args.tracks.base.items in
    let new = c.args.tracks.new.items in
    let tested = ap (λ (ts : List Track). nat_le (length ts) (length new)) (sym c.deref-4.ensures.value) ∙ ap (λ (ts : List Track). nat_le (length c.deref-4.result.now) (length ts)) (sym c.deref-5.ensures.value)
    ∙ sym c.are_no_more.ensures ∙ c.if-are_no_more.false in
    let test : nat_le (length base) (length new) ≡ false = tested in
    let fewer : length new < length base = grind (arith, nat_tests) in
    let p = err_from_is_err_and c.from_residual-in_err-new-2.result c.from_residual-in_err-new-2.ensures.1 in
    rw (p.1, p.2)
    (smaller_ends asked.limits.object_slots cases cases.base cases.new (plain_problem c.in_ok-base-2.base) c.in_err-new-2.field-0.0
    (one_window asked (map plain_track new) (map plain_track base) (plain_attributes c.args.said.now) begins ends)
    (omega (arith, fewer, length-map base plain_track, length-map new plain_track)) c.in_ok-base-2.ensures.told c.in_err-new-2.ensures.told)
