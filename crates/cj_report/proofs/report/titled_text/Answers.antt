use Rattle.std.proofs.Common.{rules}
use Rattle.cj_report.proofs.report.titled_text.Goals as goal

pub returns : goal.returns
returns c = λ approach has_message each noted.
    let encounters = c.in_ok-push_encounters.ensures approach has_message each noted in
    search rules
