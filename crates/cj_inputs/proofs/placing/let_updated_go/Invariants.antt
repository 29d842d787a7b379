use Rattle.std.proofs.Common.{◌≡◌, drop}
use Rattle.std.specs.Prelude.{fold}
use Rattle.cj_inputs.specs.Places.{file_of}
use Rattle.cj_inputs.specs.Updates.{updated_names, without_first}
use Rattle.cj_inputs.proofs.placing.let_updated_go.Given as goal

-- what is let go of those that are left leads to what is let go of all
abbrev pub invariant-loop-entry : goal.invariant-loop-entry
invariant-loop-entry l =
    fold (without_first file_of) l.tracks.items (updated_names l.update (drop l.entry-index l.updates)) ≡ fold (without_first file_of) l.fn.tracks.items (updated_names l.update l.updates)
