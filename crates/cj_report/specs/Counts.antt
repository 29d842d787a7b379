-- The counts of a run as a tally.
use Rattle.cj_report.specs.declared.counts.Counts.{Counts}
use Rattle.cj_report.specs.Summary.{Tally}

abbrev pub tally_of : Counts → Tally
tally_of c = record {
  objects = c.objects;
  pairs = c.pairs;
  parted = c.parted;
  touching = c.touching;
  roots = c.roots;
  splits = c.splits;
  leaves = c.leaves;
  far = c.far;
  near = c.near;
  undecided = c.undecided;
  encounters = c.encounters;
  messages = c.messages;
}
