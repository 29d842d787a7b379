use Rattle.std.proofs.Common.{◌∙◌, length, sym}
use Rattle.std.proofs.lemmas.Result.{IfOk-weaker}
use Rattle.cj_case.specs.Problems.{plain_problem}
use Rattle.cj_candidates.proofs.ListedLemmas.{tested_are}
use Rattle.cj_candidates.proofs.WantedLemmas.{candidates_held}
use Rattle.cj_candidates.proofs.one_slot.candidates_in_slot.Goals as goal

pub invariant_of-ground : goal.invariant_of-ground
invariant_of-ground c = record {
  in_shells = c.requires.measured.shells;
  in_boxes = c.requires.measured.boxes;
  in_slots = c.requires.measured.slots ∙ sym c.slot_count.ensures;
  counted = c.slot_count.ensures;
  are_pairs = tested_are (length (plain_problem c.args.problem.now).tracks) c.requires.sought.wanted _ c.requires.sought.listed;
}

pub returns : goal.returns
returns c =
    IfOk-weaker c.candidates_paired.result _ _
    (λ pairs same. same ∙ candidates_held (plain_problem c.args.problem.now) _ c.requires.sought c.args.slot) c.candidates_paired.ensures
