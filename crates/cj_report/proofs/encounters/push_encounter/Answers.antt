use Rattle.cj_report.proofs.EncounterTextLemmas.{encounter_written}
use Rattle.cj_report.proofs.encounters.push_encounter.Goals as goal

pub returns : goal.returns
returns c =
    encounter_written c.args.leaves.now c.args.encounter.now c.args.closest.now c.args.has_message c.args.number c.args.text.now.items c.push_heading.new.text.items c.push_spans.new.text.items
    c.requires c.in_ok-push_heading.ensures c.in_ok-push_spans.ensures
