use Rattle.cj_words.proofs.reading.unsized_of.Goals as goal

pub invariant_of-result : goal.invariant_of-result
invariant_of-result c = record { some = c.requires.some; most = c.requires.most; limited = c.limits_of.ensures }
