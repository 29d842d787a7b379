use Rattle.std.proofs.Common.{List, Result, Vec, Global, map, refl, sym, subst, arith}
use Rattle.std.specs.List.{AllZip}
use Rattle.std.specs.Vec.Iter.{into_iter_items}
use Rattle.std.proofs.lemmas.List.{nil_from_length}
use Rattle.std.proofs.lemmas.Result.{IfOk-at_ok, err_from_is_err_and}
use Rattle.cj_track.specs.PlainTracks.{PlainTrack}
use Rattle.cj_track.specs.Tracks.{plain_track}
use Rattle.cj_track.specs.declared.track.Track.{Track}
use Rattle.cj_inputs.specs.declared.reading.InputError.{InputError}
use Rattle.cj_inputs.specs.declared.taken.Taken.{Taken}
use Rattle.cj_inputs.specs.Readings.{Reads}
use Rattle.cj_inputs.proofs.BatchLemmas.{given_up, none_left, not_taken, one_taken}
use Rattle.cj_inputs.proofs.taking.take_all.Goals as goal

abbrev seen : Taken → List PlainTrack
seen all = map plain_track all.tracks.items

pub loop-reading-init : goal.loop-reading-init
loop-reading-init c = λ said all. record {
  said = said;
  each = subst (λ (readings : List (Result Track InputError)). AllZip (Reads ⊥ plain_track) readings said) (sym c.into_iter-reading-iterator.ensures.into_iter_gives.0)
      (IfOk-at_ok (λ (readings : Vec (Result Track InputError) Global). AllZip (Reads ⊥ plain_track) readings.items said) c.in_ok-reading-items.was all);
  leads = refl;
}

pub returns-in_err-reading : goal.returns-in_err-reading
returns-in_err-reading c = λ said all.
    let p = err_from_is_err_and c.from_residual-in_err-reading.result c.from_residual-in_err-reading.ensures.1 in
    rw (p.1, p.2) (given_up seen c.in_err-reading.field-0.0 c.in-Some.ensures.steps.0 c.in_err-reading.was (c.loop-reading.invariant said all))

pub returns-in_err-taken : goal.returns-in_err-taken
returns-in_err-taken c = λ said all.
    let p = err_from_is_err_and c.from_residual-in_err-taken.result c.from_residual-in_err-taken.ensures.1 in
    let track = c.in_ok-reading.field-0 in
    rw (p.1, p.2)
    (not_taken (λ (taken : Taken). plain_track track) seen c.in_err-taken.field-0.0 track c.in-Some.ensures.steps.0 c.in_ok-reading.was c.in_err-taken.ensures.told (c.loop-reading.invariant said all))

pub loop-reading-preserved : goal.loop-reading-preserved
loop-reading-preserved c = λ said all.
    one_taken c.loop-reading.taken.tracks.items c.in_ok-taken.taken.tracks.items c.in_ok-reading.field-0 c.in-Some.ensures.steps.0 c.in_ok-reading.was
    c.in_ok-taken.ensures.told c.in_ok-taken.ensures.more (c.loop-reading.invariant said all)

pub returns : goal.returns
returns c = λ said all.
    let left = c.loop-reading.reading-iterator in
    none_left (nil_from_length (into_iter_items left) (omega (arith, left.rest.ok.0, c.in-None.ensures.steps.0))) (c.loop-reading.invariant said all)
