use Rattle.std.proofs.Common.{◌≡◌, ◌++◌, map, take}
use Rattle.cj_inputs.proofs.PrimaryLemmas.{id_of, lent}
use Rattle.cj_inputs.proofs.object_primaries.push_ids.Given as goal

abbrev pub invariant-loop-track : goal.invariant-loop-track
invariant-loop-track l = map lent l.ids.items ≡ map lent l.fn.ids.items ++ map id_of (take l.track-index l.tracks)
