use Rattle.std.proofs.Common.{◌∙◌, ap, ap₂, List, map}
use Rattle.std.proofs.lemmas.Result.{err_from_is_err_and}
use Rattle.cj_track.specs.Tracks.{plain_track}
use Rattle.cj_track.specs.declared.track.Track.{Track}
use Rattle.cj_words.specs.Settings.{plain_settings}
use Rattle.cj_sizes.specs.Sizes.{sizes_of}
use Rattle.cj_sizes.specs.declared.size_line.SizeLine.{SizeLine}
use Rattle.cj_inputs.specs.ObjectAttributes.{plain_attributes}
use Rattle.cj_inputs.specs.ObjectPrimaries.{object_primaries}
use Rattle.cj_inputs.specs.ObjectSizes.{object_sizes}
use Rattle.cj_inputs.specs.Windows.{window_first, window_last}
use Rattle.cj_inputs.proofs.StepLemmas.{case_made}
use Rattle.cj_inputs.proofs.preparing.silent_problem_of.Goals as goal

pub returns-in_err-sizes : goal.returns-in_err-sizes
returns-in_err-sizes c =
    let p = err_from_is_err_and c.from_residual.result c.from_residual.ensures.1 in
    rw (p.1, p.2) (record { between = tt; told = tt })

pub returns-in_err-primaries : goal.returns-in_err-primaries
returns-in_err-primaries c =
    let p = err_from_is_err_and c.from_residual-in_err-primaries.result c.from_residual-in_err-primaries.ensures.1 in
    rw (p.1, p.2) (record { between = tt; told = tt })

pub returns-clause-told : goal.returns-clause-told
returns-clause-told c =
    let asked = plain_settings c.args.settings.now in
    let said = plain_attributes c.args.said.now in
    let window = c.window_of-window in
    let made = case_made asked (map plain_track c.args.tracks.items) said
    window.result.first.micros window.result.last.micros c.in_ok-sizes.sizes c.in_ok-primaries.primaries
    (window.ensures.first ∙ ap (λ (ts : List Track). window_first asked (map plain_track ts)) c.deref-4.ensures.value)
    (window.ensures.last ∙ ap (λ (ts : List Track). window_last asked (map plain_track ts)) c.deref-4.ensures.value)
    (c.in_ok-sizes.ensures.value ∙ ap₂ (λ (lines : List SizeLine) (ts : List Track). object_sizes (sizes_of lines) (map plain_track ts)) c.deref.ensures.value c.deref-2.ensures.value)
    (c.in_ok-primaries.ensures.value ∙ ap (λ (ts : List Track). object_primaries said.primaries (map plain_track ts)) c.deref-3.ensures.value) in
    rw made c.make_problem.ensures.told
