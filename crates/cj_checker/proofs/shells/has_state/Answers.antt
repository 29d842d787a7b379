use Rattle.std.proofs.Common.{◌∙◌}
use Rattle.cj_track.specs.Tracks.{plain_track}
use Rattle.cj_checker.proofs.HullLemmas.{is_there}
use Rattle.cj_checker.proofs.shells.has_state.Goals as goal

pub returns : goal.returns
returns c = c.is_some.ensures ∙ is_there (plain_track c.args.track.now) c.args.window.first.micros c.args.window.last.micros c.next_run.result c.next_run.ensures.run
