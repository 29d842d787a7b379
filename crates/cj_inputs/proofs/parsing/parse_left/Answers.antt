use Rattle.std.proofs.Common.{◌∙◌, Ok, ap, sym}
use Rattle.std.proofs.lemmas.Result.{err_from_is_err_and}
use Rattle.cj_track.specs.PlainTracks.{PlainTrack}
use Rattle.cj_track.specs.Tracks.{plain_track}
use Rattle.cj_words.specs.Settings.{plain_settings}
use Rattle.cj_inputs.specs.Batches.{said_by}
use Rattle.cj_inputs.specs.Trims.{trims_of}
use Rattle.cj_inputs.proofs.TrimLemmas.{left_ok, reads_left}
use Rattle.cj_inputs.proofs.parsing.parse_left.Goals as goal

pub returns-in_err-whole : goal.returns-in_err-whole
returns-in_err-whole c =
    let settings = plain_settings c.args.settings.now in
    let p = err_from_is_err_and c.from_residual.result c.from_residual.ensures.1 in
    rw (p.1, p.2) (reads_left ⊥ plain_track c.in_err-whole.field-0.0 (trims_of settings) (said_by settings.as_hermite3 c.args.file.now) c.in_err-whole.ensures.value)

pub returns : goal.returns
returns c =
    let settings = plain_settings c.args.settings.now in
    left_ok (trims_of settings) (said_by settings.as_hermite3 c.args.file.now) (plain_track c.in_ok-whole.whole) c.in_ok-whole.ensures.value
    ∙ ap (λ (e : PlainTrack). Ok e) (sym c.in_ok-left.ensures)
