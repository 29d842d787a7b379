use Rattle.std.proofs.Common.{◌≡◌, ◌++◌, drop}
use Rattle.cj_inputs.specs.InputFiles.{entries_from, plain_apart}
use Rattle.cj_inputs.proofs.input_files.entries.Given as goal

abbrev pub invariant-loop-name : goal.invariant-loop-name
invariant-loop-name l = record {
  number : l.number ≡ l.name-index;
  listed : l.entries.items ++ entries_from l.suffix (plain_apart l.apart) l.number (drop l.name-index l.names) ≡ entries_from l.suffix (plain_apart l.apart) 0 l.names;
}
