use Rattle.std.proofs.Common.{◌≡◌, ◌∙◌, Ok, ap, arith, get_or, length, subst, sym}
use Rattle.std.specs.Prelude.{IfOk}
use Rattle.std.proofs.lemmas.List.{get_or-map, length-map}
use Rattle.cj_track.specs.Tracks.{plain_track}
use Rattle.cj_candidates.specs.MeasuredObjects.{IsMeasured}
use Rattle.cj_candidates.proofs.MeasuredLemmas.{each_measured, in_one_are, rows_whole}
use Rattle.cj_candidates.proofs.objects_measured.measure_some.Goals as goal

pub in_one-requires : goal.in_one-requires
in_one-requires g c =
    let tracks = c.args.tracks.now in
    let found = c.in_ok-objects.objects in
    let same = c.in_ok-objects.ensures in
    let done = c.in_ok-made.ensures in
    let many : length found.items ≡ length tracks = sym (length-map found.items Ok) ∙ ap length same ∙ sym c.in_ok-made.made.ok.0 ∙ done.len in
    rows_whole tracks found.items c.args.window.first.micros c.args.window.last.micros c.args.slots many (λ i one track lt.
    let is = ap (λ rs. get_or rs i (Ok one)) (sym same) ∙ get_or-map Ok found.items i one (Ok one) (omega (arith, many, lt)) in
    subst (λ r. IfOk r (IsMeasured (plain_track (get_or tracks i track)) c.args.window.first.micros c.args.window.last.micros c.args.slots)) is ((done.each i (Ok one) lt).1.met track))

pub returns : goal.returns
returns g c =
    let tracks = c.args.tracks.now in
    let found = c.in_ok-objects.objects in
    let same = c.in_ok-objects.ensures in
    let done = c.in_ok-made.ensures in
    let many : length found.items ≡ length tracks = sym (length-map found.items Ok) ∙ ap length same ∙ sym c.in_ok-made.made.ok.0 ∙ done.len in
    in_one_are c.in_one.result tracks c.args.window.first.micros c.args.window.last.micros c.args.slots found.items
    (each_measured tracks found.items c.args.window.first.micros c.args.window.last.micros c.args.slots many (λ i one track lt.
    let is = ap (λ rs. get_or rs i (Ok one)) (sym same) ∙ get_or-map Ok found.items i one (Ok one) (omega (arith, many, lt)) in
    subst (λ r. IfOk r (IsMeasured (plain_track (get_or tracks i track)) c.args.window.first.micros c.args.window.last.micros c.args.slots)) is ((done.each i (Ok one) lt).1.met track)))
    c.in_one.ensures.shells c.in_one.ensures.boxes
