use Rattle.std.proofs.Common.{◌≡◌, ◌∙◌, length, ap, arith}
use Rattle.cj_candidates.proofs.MeasuredLemmas.{each_measured, in_one_are, measured_more, rows_whole}
use Rattle.cj_candidates.proofs.objects_measured.measure_in_turn.Goals as goal

pub loop-track-init : goal.loop-track-init
loop-track-init c = record {
  many = ap length c.in_ok-objects.ensures.items;
  each = λ i d t lt. absurd (omega arith);
}

pub loop-track-preserved : goal.loop-track-preserved
loop-track-preserved c =
    let i = c.loop-track.invariant in
    let pushed = c.in_ok-push.ensures.items in
    let found = c.loop-track.objects.items in
    measured_more c.args.tracks.now found c.push.new.self.items _ c.args.window.first.micros c.args.window.last.micros c.args.slots c.loop-track.track-index c.track-item.result
    (omega arith) c.track-item.is i.many i.each pushed c.in_ok-measure_object.ensures

pub in_one-requires : goal.in_one-requires
in_one-requires c =
    let i = c.loop-track.invariant in
    let tracks = c.args.tracks.now in
    let all : c.loop-track.track-index ≡ length tracks = omega arith in
    rows_whole tracks c.loop-track.objects.items c.args.window.first.micros c.args.window.last.micros c.args.slots (i.many ∙ all)
    (λ k d t lt. i.each k d t (omega (arith, all, lt)))

pub returns : goal.returns
returns c =
    let i = c.loop-track.invariant in
    let tracks = c.args.tracks.now in
    let all : c.loop-track.track-index ≡ length tracks = omega arith in
    in_one_are c.in_one.result tracks c.args.window.first.micros c.args.window.last.micros c.args.slots c.loop-track.objects.items
    (each_measured tracks c.loop-track.objects.items c.args.window.first.micros c.args.window.last.micros c.args.slots (i.many ∙ all)
    (λ k d t lt. i.each k d t (omega (arith, all, lt))))
    c.in_one.ensures.shells c.in_one.ensures.boxes
