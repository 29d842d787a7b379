use Rattle.std.proofs.Common.{◌≡◌, ◌≤◌, ◌++◌, List, Some, take}
use Rattle.cj_io.specs.declared.file.FileBytes.{FileBytes}
use Rattle.cj_outputs.proofs.catalogues.put_files.Given as goal

abbrev pub invariant-loop-file : goal.invariant-loop-file
invariant-loop-file g l = record {
  put : (old : List FileBytes) → g.S.Shelf.outputs l.fn.shelf ≡ Some old → g.S.Shelf.outputs l.shelf ≡ Some (old ++ take l.file-index l.files);
  later : g.S.Shelf.faults l.fn.shelf ≤ g.S.Shelf.faults l.shelf;
}
