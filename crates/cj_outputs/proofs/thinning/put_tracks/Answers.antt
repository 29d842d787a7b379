use Rattle.std.proofs.Common.{◌≡◌, ◌++◌, List, Some, map, take, ap, ◌∙◌, arith}
use Rattle.std.proofs.lemmas.List.{take_all}
use Rattle.std.proofs.lemmas.Result.{err_from_is_err_and}
use Rattle.cj_inputs.specs.Readings.{nodes_in}
use Rattle.cj_thin.specs.Thinned.{thinned}
use Rattle.cj_track.specs.Tracks.{plain_track}
use Rattle.cj_track.specs.declared.track.Track.{Track}
use Rattle.cj_outputs.proofs.EndLemmas.{rose_later}
use Rattle.cj_outputs.proofs.ThinnedLemmas.{done_is_no_write, few_all, few_more, kept_more, outputs_cut, outputs_more, thin_outputs}
use Rattle.cj_outputs.proofs.thinning.put_tracks.Goals as goal

pub overflow_add-kept : goal.overflow_add-kept
overflow_add-kept g c =
    let before = c.loop-track.invariant in
    let fits = few_all c.args.tracks.now c.loop-track.track-index c.track-item.result c.loop-track.kept c.in_ok-more.more c.loop-track-test.true c.track-item.is before.few c.in_ok-more.ensures.fewer in
    omega (arith, fits, c.requires.few)

pub loop-track-preserved : goal.loop-track-preserved
loop-track-preserved g c =
    let e = c.args.e in
    let tracks = c.args.tracks.now in
    let i = c.loop-track.track-index in
    let track = c.track-item.result in
    let before = c.loop-track.invariant in
    let put = c.in_ok-more.ensures in
    record {
      kept = kept_more e tracks i track c.loop-track.kept c.in_ok-more.more c.loop-track-test.true c.track-item.is before.kept put.kept;
      few = few_more tracks i track c.loop-track.kept c.in_ok-more.more c.loop-track-test.true c.track-item.is before.few put.fewer;
      put = λ old stood.
          outputs_more e tracks i track old (g.S.Shelf.outputs c.put_track.new.shelf) c.loop-track-test.true c.track-item.is
          (put.put (old ++ thin_outputs e (take i tracks)) (before.put old stood));
      later = omega (arith, put.later, before.later);
    }

pub returns-in_err-more : goal.returns-in_err-more
returns-in_err-more g c =
    let e = c.args.e in
    let tracks = c.args.tracks.now in
    let i = c.loop-track.track-index in
    let before = c.loop-track.invariant in
    let s = c.in_err-more.field-0.0 in
    let failed = c.in_err-more.ensures in
    let p = err_from_is_err_and c.from_residual.result c.from_residual.ensures.1 in
    rw (p.1, p.2) (record {
      comes = failed.comes;
      write = λ is.
          rose_later (g.S.Shelf.faults c.args.shelf.now) (g.S.Shelf.faults c.loop-track.shelf) (g.S.Shelf.faults c.put_track.new.shelf) before.later (failed.write is);
      kept = tt;
      put = λ old stood. tt;
      leaves = λ old stood.
          outputs_cut e tracks i c.track-item.result s old (g.S.Shelf.outputs c.put_track.new.shelf) c.loop-track-test.true c.track-item.is failed.comes
          (failed.leaves (old ++ thin_outputs e (take i tracks)) (before.put old stood));
      later = omega (arith, failed.later, before.later);
    })

pub returns : goal.returns
returns g c =
    let e = c.args.e in
    let tracks = c.args.tracks.now in
    let before = c.loop-track.invariant in
    let all : take c.loop-track.track-index tracks ≡ tracks = take_all c.loop-track.track-index tracks c.loop-track-test.false in
    record {
      comes = tt;
      write = done_is_no_write;
      kept = before.kept ∙ ap (λ (ts : List Track). nodes_in (map (thinned e) (map plain_track ts))) all;
      put = λ old stood. before.put old stood ∙ ap (λ (ts : List Track). Some (old ++ thin_outputs e ts)) all;
      leaves = λ old stood. tt;
      later = before.later;
    }
