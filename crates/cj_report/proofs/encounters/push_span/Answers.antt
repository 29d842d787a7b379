use Rattle.cj_report.proofs.encounters.push_span.Goals as goal

pub returns : goal.returns
returns c = rw (c.kind_word.ensures, c.epoch_text.ensures.exact, c.epoch_text-2.ensures.exact) at c.push_line.ensures
