use Rattle.cj_cdm.specs.Texts.{heading_text}
use Rattle.cj_cdm.proofs.TextLemmas.{joined_ok}
use Rattle.cj_cdm.proofs.printing.heading.push_heading.Goals as goal

pub returns : goal.returns
unfolding heading_text
returns c = joined_ok c.push_period.result c.args.text.now.items _ _ _ _ c.in_ok-push_front.ensures c.push_period.ensures
