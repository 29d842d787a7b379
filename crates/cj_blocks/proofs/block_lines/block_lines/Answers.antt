use Rattle.std.proofs.Common.{◌<◌, ◌∙◌, List, ap, length, subst, sym}
use Rattle.std.specs.Prelude.{All}
use Rattle.cj_track.specs.declared.track.Track.{Track}
use Rattle.cj_blocks.proofs.block_lines.block_lines.Goals as goal

pub blocks-requires-clause-all : goal.blocks-requires-clause-all
blocks-requires-clause-all c = c.requires.all ∙ ap (λ (ts : List Track). length ts) (sym c.as_slice.ensures.value)

pub blocks-requires-clause-exist : goal.blocks-requires-clause-exist
blocks-requires-clause-exist c = subst (λ (ts : List Track). All (λ pair. pair.b < length ts) c.args.kept.now) (sym c.as_slice.ensures.value) c.requires.exist
