use Rattle.std.proofs.Common.{None, get_or, sym, subst}
use Rattle.std.specs.Prelude.{IfSome}
use Rattle.cj_track.specs.declared.track.Track.{Track}
use Rattle.cj_track.specs.Tracks.{plain_track}
use Rattle.cj_candidates.specs.MeasuredObjects.{IsMeasuredAt}
use Rattle.cj_candidates.proofs.objects_measured.fn.measure_some.measure.Goals as goal

pub bounds-places-object : goal.bounds-places-object
bounds-places-object g c = c.requires.1

pub measured_at-requires : goal.measured_at-requires
measured_at-requires g c =
    let k = c.captures in
    subst (λ (t : Track). IfSome (get_or k.places.now c.args.object None) (λ p. IsMeasuredAt (plain_track t) k.window.first.micros k.window.last.micros k.slots k.from.now p))
    (sym c.index-tracks-object.is) (c.requires.2 c.index-tracks-object.result)
