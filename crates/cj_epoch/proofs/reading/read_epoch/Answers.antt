use Rattle.cj_epoch.proofs.PictureLemmas.{calendar_long, ordinal_long}
use Rattle.cj_epoch.proofs.reading.read_epoch.Goals as goal

pub read_calendar-requires-clause-long : goal.read_calendar-requires-clause-long
read_calendar-requires-clause-long c = calendar_long c.args.text.now (cc)

pub read_ordinal-requires-clause-long : goal.read_ordinal-requires-clause-long
read_ordinal-requires-clause-long c = ordinal_long c.args.text.now (cc)
