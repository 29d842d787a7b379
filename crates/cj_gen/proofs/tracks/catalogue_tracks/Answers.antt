use Rattle.std.proofs.Common.{◌≡◌, ◌+◌, ap, arith, length, map, ◌∙◌}
use Rattle.std.specs.List.{range_with_len}
use Rattle.std.proofs.lemmas.List.{map_push}
use Rattle.cj_track.specs.Tracks.{plain_track}
use Rattle.cj_gen.specs.MadeTracks.{track_of, tracks_of}
use Rattle.cj_gen.proofs.TrackLemmas.{each_accepted, file_count, made_at, one_accepted, one_short, said_once, track_more}
use Rattle.cj_gen.proofs.tracks.catalogue_tracks.Goals as goal

pub returns-in_err-files-clause-accepted : goal.returns-in_err-files-clause-accepted
returns-in_err-files-clause-accepted c = each_accepted c.args.seed c.args.objects c.args.minutes c.requires.some c.requires.minutes

pub returns-in_err-tracks-clause-accepted : goal.returns-in_err-tracks-clause-accepted
returns-in_err-tracks-clause-accepted c = each_accepted c.args.seed c.args.objects c.args.minutes c.requires.some c.requires.minutes

pub returns-in_err-track-clause-accepted : goal.returns-in_err-track-clause-accepted
returns-in_err-track-clause-accepted c = each_accepted c.args.seed c.args.objects c.args.minutes c.requires.some c.requires.minutes

pub returns-in_err-push-clause-accepted : goal.returns-in_err-push-clause-accepted
returns-in_err-push-clause-accepted c = each_accepted c.args.seed c.args.objects c.args.minutes c.requires.some c.requires.minutes

pub returns-clause-accepted : goal.returns-clause-accepted
returns-clause-accepted c = each_accepted c.args.seed c.args.objects c.args.minutes c.requires.some c.requires.minutes

pub track-requires-clause-short : goal.track-requires-clause-short
track-requires-clause-short c =
    let file =
    made_at c.args.seed c.args.objects c.args.minutes c.loop-file.file-index c.in_ok-files.files.items c.deref-file-items.result.now c.file-item.result
    c.deref-file-items.ensures.value c.in_ok-files.ensures c.loop-file-test.true c.file-item.is in
    one_short c.args.seed c.args.minutes (1 + c.loop-file.file-index) c.file-item.result c.requires.minutes file

pub track-requires-clause-accepted : goal.track-requires-clause-accepted
track-requires-clause-accepted c =
    let file =
    made_at c.args.seed c.args.objects c.args.minutes c.loop-file.file-index c.in_ok-files.files.items c.deref-file-items.result.now c.file-item.result
    c.deref-file-items.ensures.value c.in_ok-files.ensures c.loop-file-test.true c.file-item.is in
    one_accepted c.args.seed c.args.minutes (1 + c.loop-file.file-index) c.file-item.result c.requires.some c.requires.minutes file

pub loop-file-preserved : goal.loop-file-preserved
loop-file-preserved c =
    let i = c.loop-file.file-index in
    let track = c.in_ok-track.field-0 in
    let file =
    made_at c.args.seed c.args.objects c.args.minutes c.loop-file.file-index c.in_ok-files.files.items c.deref-file-items.result.now c.file-item.result
    c.deref-file-items.ensures.value c.in_ok-files.ensures c.loop-file-test.true c.file-item.is in
    let said = said_once c.file-item.result c.args.seed c.args.minutes (1 + i) (plain_track track) c.requires.some c.requires.minutes file c.in_ok-track.ensures in
    track_more c.args.seed c.args.minutes i (map plain_track c.loop-file.tracks.items) (map plain_track c.push.new.self.items) (plain_track track)
    c.loop-file.invariant said (ap (map plain_track) c.in_ok-push.ensures.items ∙ map_push plain_track c.loop-file.tracks.items track)

pub returns-clause-value : goal.returns-clause-value
unfolding tracks_of
returns-clause-value c =
    let all = ap length c.deref-file-items.ensures.value ∙ ap length c.in_ok-files.ensures ∙ file_count c.args.seed c.args.objects c.args.minutes in
    let whole : c.loop-file.file-index ≡ c.args.objects = omega (arith, all) in
    c.loop-file.invariant ∙ ap (λ n. map (track_of c.args.seed c.args.minutes) (range_with_len 1 n)) whole
