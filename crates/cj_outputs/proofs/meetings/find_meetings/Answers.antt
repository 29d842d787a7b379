use Rattle.std.proofs.Common.{◌≡◌, ◌∙◌, All, List, length, map, ap, sym, subst}
use Rattle.std.proofs.lemmas.Result.{err_from_is_err_and}
use Rattle.cj_case.specs.Problems.{plain_problem}
use Rattle.cj_case.specs.Leaves.{plain_leaves}
use Rattle.cj_case.specs.declared.encounter.Closest.{Closest}
use Rattle.cj_case.specs.declared.encounter.Encounter.{Encounter}
use Rattle.cj_meet.specs.Closest.{HasNearest, closest_of, some_closest}
use Rattle.cj_meet.specs.Encounters.{Describes, groups_in}
use Rattle.cj_outputs.proofs.MessageLemmas.{as_many_closest, noted_in}
use Rattle.cj_outputs.proofs.meetings.find_meetings.Goals as goal

pub closest_approaches-requires-clause-described : goal.closest_approaches-requires-clause-described
closest_approaches-requires-clause-described g c = λ lifetimes outlive.
    subst (All (Describes (plain_leaves c.args.leaves.now))) (sym c.deref.ensures.value) c.in_ok-encounters.ensures.described

pub note_messages-requires : goal.note_messages-requires
note_messages-requires g c = record {
  one_each = ap (λ (xs : List Closest). length xs) c.deref-3.ensures.value
      ∙ as_many_closest (plain_problem c.args.problem.now) (plain_leaves c.args.leaves.now) c.deref.result.now c.in_ok-closest.closest.items
      c.in_ok-closest.ensures.exact
      ∙ ap (λ (es : List Encounter). length es) (c.deref.ensures.value ∙ sym c.deref-2.ensures.value);
}

pub returns : goal.returns
returns g c =
    let case = plain_problem c.args.problem.now in
    let leaves = plain_leaves c.args.leaves.now in
    let es = c.in_ok-encounters.encounters.items in
    let found = c.in_ok-encounters.ensures in
    let closest : map some_closest c.in_ok-closest.closest.items ≡ map (closest_of case) (groups_in leaves es) =
    c.in_ok-closest.ensures.exact ∙ ap (λ (ls : List Encounter). map (closest_of case) (groups_in leaves ls)) c.deref.ensures.value in
    record {
      meetings = record {
        encounters = record { groups = found.groups; described = found.described };
        closest = closest;
        messages = noted_in case leaves es _ c.in_ok-closest.closest.items _ _ c.deref-2.ensures.value c.deref-3.ensures.value found.described closest
            c.in_ok-messages.ensures;
      };
      spans = found.exact_spans;
      nearest = subst (All (HasNearest case)) (ap (groups_in leaves) c.deref.ensures.value ∙ found.groups) c.in_ok-closest.ensures.law;
    }

pub returns-in_err-encounters : goal.returns-in_err-encounters
returns-in_err-encounters g c =
    let p = err_from_is_err_and c.from_residual.result c.from_residual.ensures.1 in
    rw p.1 (record { meetings = tt; spans = c.in_err-encounters.ensures.exact_spans; nearest = tt })

pub returns-in_err-closest : goal.returns-in_err-closest
returns-in_err-closest g c =
    let p = err_from_is_err_and c.from_residual-in_err-closest.result c.from_residual-in_err-closest.ensures.1 in
    rw p.1 (record { meetings = tt; spans = c.in_ok-encounters.ensures.exact_spans; nearest = tt })

pub returns-in_err-messages : goal.returns-in_err-messages
returns-in_err-messages g c =
    let p = err_from_is_err_and c.from_residual-in_err-messages.result c.from_residual-in_err-messages.ensures.1 in
    rw p.1 (record { meetings = tt; spans = c.in_ok-encounters.ensures.exact_spans; nearest = tt })
