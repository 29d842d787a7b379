use Rattle.std.proofs.Common.{rules, ap, ◌∙◌}
use Rattle.cj_epoch.specs.Reading.{reading_of}
use Rattle.cj_epoch.specs.Written.{epoch_of}
use Rattle.cj_epoch.proofs.WrittenLemmas.{epoch_of-read}
use Rattle.cj_epoch.proofs.text.epoch_text.Goals as goal

pub returns-clause-exact : goal.returns-clause-exact
unfolding epoch_of
returns-clause-exact c = search rules

pub returns-clause-read_again : goal.returns-clause-read_again
returns-clause-read_again c = ap reading_of (returns-clause-exact c) ∙ epoch_of-read c.args.at.micros c.args.at.in_range
