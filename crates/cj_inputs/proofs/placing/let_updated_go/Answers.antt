use Rattle.std.proofs.Common.{◌∙◌, ◌+◌, ℕ, List, length, ap, sym, drop, arith}
use Rattle.std.specs.Prelude.{fold}
use Rattle.std.proofs.lemmas.List.{drop_all}
use Rattle.cj_track.specs.declared.track.Track.{Track}
use Rattle.cj_inputs.specs.declared.input_files.Entry.{Entry}
use Rattle.cj_inputs.specs.Places.{file_of}
use Rattle.cj_inputs.specs.Updates.{updated_name, updated_names, without_first}
use Rattle.cj_inputs.proofs.UpdateStepLemmas.{names_on}
use Rattle.cj_inputs.proofs.UpdatedLemmas.{fewer_stay}
use Rattle.cj_inputs.proofs.placing.let_updated_go.Goals as goal

pub loop-entry-preserved : goal.loop-entry-preserved
loop-entry-preserved c =
    let update = c.args.update.now in
    let updates = c.args.updates.now in
    let i = c.loop-entry.entry-index in
    let entry = c.entry-item.result in
    let tracks = c.loop-entry.tracks.items in
    let name = c.updated_name.ensures ∙ ap (updated_name update) c.as_slice.ensures in
    ap (λ (ts : List Track). fold (without_first file_of) ts (updated_names update (drop (i + 1) updates)))
    (c.let_first_go.ensures ∙ ap (λ (n : List ℕ). without_first file_of tracks n) name)
    ∙ names_on update file_of tracks updates i entry c.loop-entry-test.true c.entry-item.is
    ∙ c.loop-entry.invariant

pub returns-clause-value : goal.returns-clause-value
returns-clause-value c =
    let updates = c.args.updates.now in
    sym (ap (λ (es : List Entry). fold (without_first file_of) c.loop-entry.tracks.items (updated_names c.args.update.now es)) (drop_all c.loop-entry.entry-index updates c.loop-entry-test.false))
    ∙ c.loop-entry.invariant

pub returns-clause-fewer : goal.returns-clause-fewer
returns-clause-fewer c =
    let names = updated_names c.args.update.now c.args.updates.now in
    omega (arith, ap (λ (ts : List Track). length ts) (returns-clause-value c), fewer_stay file_of names c.args.tracks.now.items)
