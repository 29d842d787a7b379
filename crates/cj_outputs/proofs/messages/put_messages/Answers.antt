use Rattle.std.proofs.Common.{◌≡◌, ◌<◌, ◌++◌, List, Ok, Some, length, get_or, refl, take, ap, subst, ◌∙◌, arith, rules}
use Rattle.std.proofs.lemmas.List.{take_all}
use Rattle.cj_io.specs.declared.file.FileBytes.{FileBytes}
use Rattle.cj_case.specs.Leaves.{PlainLeaf}
use Rattle.cj_meet.specs.Encounters.{groups_in}
use Rattle.cj_outputs.specs.Findings.{case_in, met_in}
use Rattle.cj_outputs.specs.Lines.{leaves_met}
use Rattle.cj_outputs.specs.Messages.{message_outputs}
use Rattle.cj_outputs.specs.Origins.{plain_origin}
use Rattle.cj_outputs.specs.Outcome.{encounters_in, Leaves}
use Rattle.cj_outputs.proofs.EndLemmas.{first_stand, nothing_made, put_failed}
use Rattle.cj_outputs.proofs.MessageLemmas.{encounters_within, groups_are, made_of_index, messages_cut, messages_more, messages_tallied}
use Rattle.cj_outputs.proofs.messages.put_messages.Goals as goal

pub overflow_cast-place : goal.overflow_cast-place
overflow_cast-place g c =
    let found = c.args.found.now in
    omega (arith, encounters_within (leaves_met found.lines) found.encounters.items c.requires.encounters c.requires.few)

pub overflow_add-place : goal.overflow_add-place
overflow_add-place g c =
    let found = c.args.found.now in
    omega (arith, encounters_within (leaves_met found.lines) found.encounters.items c.requires.encounters c.requires.few)

pub returns-in_err-covariances : goal.returns-in_err-covariances
returns-in_err-covariances g c =
    let ends = nothing_made _ _ _ _ c.from_residual.ensures.1 in
    record {
      comes = ends.comes;
      write = ends.write;
      leaves = ends.leaves;
      later = ends.later;
      counted = messages_tallied c.args.found.now (plain_origin c.args.origin) c.requires;
    }

pub returns-in_err-put_message : goal.returns-in_err-put_message
returns-in_err-put_message g c =
    let found = c.args.found.now in
    let case = case_in found in
    let origin = plain_origin c.args.origin in
    let ss = met_in found in
    let es = found.encounters.items in
    let i = c.loop-place.place in
    let e = c.encounter-item.result in
    let now = g.S.Shelf.outputs c.put_message.new.shelf in
    let e_is : e ≡ get_or es i e = search rules in
    let lt : i < length es = omega arith in
    let made = made_of_index found c.in_ok-covariances.covariances origin i c.stamp-stamp.result.number _ _ e c.index-closest.result.now c.in_ok-covariances.ensures c.requires lt e_is
    c.index-closest.ensures c.stamp-stamp.ensures (ap (λ s. s.number) c.stamp-stamp.ensures) c.relative_to_tell-relative.ensures in
    let s = c.in_err-put_message.field-0.0 in
    let failed = c.in_err-put_message.ensures in
    let ends =
    put_failed (message_outputs case origin (encounters_in case)) (g.S.Shelf.outputs c.args.shelf.now) now _ _ _ s _ c.from_residual-in_err-put_message.ensures.1
    c.loop-place.invariant.later failed.comes failed.write failed.later
    (λ old stood.
    subst (λ (gs : List (List PlainLeaf)). Leaves s (Ok (message_outputs case origin gs)) old now) (groups_are found c.requires)
    (messages_cut case origin ss es i e _ old now s lt e_is made failed.comes (failed.leaves _ (c.loop-place.invariant.put old stood)))) in
    record {
      comes = ends.comes;
      write = ends.write;
      leaves = ends.leaves;
      later = ends.later;
      counted = messages_tallied found origin c.requires;
    }

pub loop-place-preserved : goal.loop-place-preserved
loop-place-preserved g c =
    let found = c.args.found.now in
    let case = case_in found in
    let origin = plain_origin c.args.origin in
    let ss = met_in found in
    let es = found.encounters.items in
    let i = c.loop-place.place in
    let e = c.encounter-item.result in
    let now = g.S.Shelf.outputs c.put_message.new.shelf in
    let e_is : e ≡ get_or es i e = search rules in
    let lt : i < length es = omega arith in
    let made = made_of_index found c.in_ok-covariances.covariances origin i c.stamp-stamp.result.number _ _ e c.index-closest.result.now c.in_ok-covariances.ensures c.requires lt e_is
    c.index-closest.ensures c.stamp-stamp.ensures (ap (λ s. s.number) c.stamp-stamp.ensures) c.relative_to_tell-relative.ensures in
    record {
      put = λ old stood. messages_more case origin ss es i e _ old now lt e_is made (first_stand _ _ now (c.in_ok-put_message.ensures.leaves _ (c.loop-place.invariant.put old stood)));
      later = omega (arith, c.loop-place.invariant.later, c.in_ok-put_message.ensures.later);
    }

pub returns-clause-counted : goal.returns-clause-counted
returns-clause-counted g c = messages_tallied c.args.found.now (plain_origin c.args.origin) c.requires

pub returns-clause-leaves : goal.returns-clause-leaves
returns-clause-leaves g c = λ old stood.
    let found = c.args.found.now in
    let ss = met_in found in
    let es = found.encounters.items in
    let outputs : List (List PlainLeaf) → List FileBytes = message_outputs (case_in found) (plain_origin c.args.origin) in
    let all : take c.loop-place.place es ≡ es = take_all c.loop-place.place es (omega arith) in
    let groups : groups_in ss (take c.loop-place.place es) ≡ encounters_in (case_in found) = ap (groups_in ss) all ∙ groups_are found c.requires in
    (outputs (encounters_in (case_in found)), refl, c.loop-place.invariant.put old stood ∙ ap (λ (gs : List (List PlainLeaf)). Some (old ++ outputs gs)) groups)
