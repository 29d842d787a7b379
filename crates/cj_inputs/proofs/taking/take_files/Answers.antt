use Rattle.std.proofs.Common.{map}
use Rattle.cj_words.specs.Settings.{plain_settings}
use Rattle.cj_inputs.specs.Batches.{said_in}
use Rattle.cj_inputs.proofs.taking.take_files.Goals as goal

pub returns : goal.returns
returns g c = c.take_all.ensures (map (said_in (plain_settings c.args.settings.now)) c.args.files.now) c.parse_files.ensures
