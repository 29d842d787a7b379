use Rattle.std.proofs.Common.{◌∙◌, List, Some, None, ap, sym, arith}
use Rattle.cj_track.specs.declared.track.Track.{Track}
use Rattle.cj_inputs.specs.Places.{file_of, place_of}
use Rattle.cj_inputs.proofs.PlaceLemmas.{first_out, none_out}
use Rattle.cj_inputs.proofs.placing.let_first_go.Goals as goal

pub remove-requires : goal.remove-requires
remove-requires c =
    let tracks = c.args.tracks.now in
    let there = ap (λ (ts : List Track). place_of ts c.args.name.now) (sym c.deref.ensures.value) ∙ sym c.in-Some.ensures in
    omega (arith, (first_out file_of c.args.name.now tracks.items c.in-Some.place there).0, tracks.ok.0)

pub returns-in-Some : goal.returns-in-Some
returns-in-Some c =
    let there = ap (λ (ts : List Track). place_of ts c.args.name.now) (sym c.deref.ensures.value) ∙ sym c.in-Some.ensures in
    c.remove.ensures.items ∙ sym (first_out file_of c.args.name.now c.args.tracks.now.items c.in-Some.place there).1

pub returns-in-None : goal.returns-in-None
returns-in-None c =
    let nowhere = ap (λ (ts : List Track). place_of ts c.args.name.now) (sym c.deref.ensures.value) ∙ sym c.in-None.ensures in
    sym (none_out file_of c.args.name.now c.args.tracks.now.items nowhere)
