use Rattle.std.proofs.Common.{arith, rules}
use Rattle.cj_case.specs.Leaves.{plain_leaves}
use Rattle.cj_report.proofs.EncounterTextLemmas.{encounters_step}
use Rattle.cj_report.proofs.encounters.push_encounters.Goals as goal

pub loop-place-preserved : goal.loop-place-preserved
loop-place-preserved c = λ approach has_message each noted.
    encounters_step approach has_message (plain_leaves c.args.leaves.now) c.args.encounters.now c.args.approaches.now c.args.messages.now
    c.loop-place.place c.index-encounters-place.result c.index-approaches-place.result
    c.args.text.now.items c.loop-place.text.items c.push_encounter.new.text.items (omega arith) c.requires.one_each (search rules) (search rules) each noted
    (c.loop-place.invariant approach has_message each noted) c.in_ok-push_encounter.ensures
