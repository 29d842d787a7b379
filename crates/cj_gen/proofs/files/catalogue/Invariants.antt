use Rattle.std.proofs.Common.{◌≡◌, ◌*◌, map}
use Rattle.std.specs.List.{range_with_len}
use Rattle.cj_gen.specs.Catalogues.{file_of}
use Rattle.cj_gen.specs.Draws.{state_after}
use Rattle.cj_gen.proofs.files.catalogue.Given as goal

abbrev pub invariant-loop-before : goal.invariant-loop-before
invariant-loop-before l = record {
  state : l.draws.state ≡ state_after l.seed (3 * l.before);
  files : l.files.items ≡ map (file_of l.seed l.minutes) (range_with_len 1 l.before);
}
