use Rattle.std.proofs.Common.{◌≡◌, ◌++◌, All, length, map, take}
use Rattle.cj_kvn.specs.Fields.{fields}
use Rattle.cj_kvn.specs.Ranges.{IsWithin, text_at}
use Rattle.cj_kvn.proofs.fields.row_fields.Given as goal

abbrev pub invariant-loop-count : goal.invariant-loop-count
invariant-loop-count l = record {
  said : map (text_at l.bytes) (take l.count l.found) ++ fields (text_at l.bytes l.rest) ≡ fields (text_at l.bytes l.fn.text);
  rest : IsWithin l.bytes l.rest;
  all : All (IsWithin l.bytes) l.found;
  ten : length l.found ≡ 10;
}
