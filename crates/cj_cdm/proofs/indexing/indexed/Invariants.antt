use Rattle.std.proofs.Common.{◌≡◌, length}
use Rattle.cj_cdm.specs.Indexed.{AreOfTracks}
use Rattle.cj_cdm.proofs.indexing.indexed.Given as goal

abbrev pub invariant-loop-object : goal.invariant-loop-object
invariant-loop-object l = record {
  many : length l.indexed.items ≡ l.object;
  of_tracks : AreOfTracks l.tracks l.indexed.items;
}
