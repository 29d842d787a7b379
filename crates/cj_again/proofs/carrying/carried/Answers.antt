use Rattle.cj_again.proofs.carrying.carried.Goals as goal

pub invariant_of-sources : goal.invariant_of-sources
invariant_of-sources c = record {
  first = c.requires.first;
  last = c.requires.last;
  threshold = c.requires.threshold;
  in_old = c.requires.old;
  in_anew = c.requires.anew;
}

pub returns-clause-value : goal.returns-clause-value
returns-clause-value c = c.all_rows.ensures.value

pub returns-clause-within : goal.returns-clause-within
returns-clause-within c = c.all_rows.ensures.within

pub returns-clause-too_many : goal.returns-clause-too_many
returns-clause-too_many c = c.all_rows.ensures.too_many
