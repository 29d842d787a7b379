use Rattle.std.proofs.Common.{◌≡◌, ◌-◌}
use Rattle.std.specs.Prelude.{slice_get}
use Rattle.cj_kvn.specs.Fields.{fields}
use Rattle.cj_kvn.specs.Ranges.{IsWithin, text_at}
use Rattle.cj_kvn.proofs.fields.field.Given as goal

abbrev pub invariant-loop : goal.invariant-loop
invariant-loop l = record {
  left : slice_get (fields (text_at l.bytes l.rest)) (l.index - l.counter) ≡ slice_get (fields (text_at l.bytes l.fn.text)) l.index;
  within : IsWithin l.bytes l.rest;
}
