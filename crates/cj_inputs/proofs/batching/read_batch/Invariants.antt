use Rattle.std.proofs.Common.{◌≡◌, ◌*◌, ◌≤◌, List, Some, length, take}
use Rattle.std.specs.List.{AllZip}
use Rattle.cj_io.specs.declared.file.FileBytes.{FileBytes}
use Rattle.cj_inputs.specs.Batches.{WasRead}
use Rattle.cj_inputs.proofs.batching.read_batch.Given as goal

abbrev pub invariant-loop-entry : goal.invariant-loop-entry
invariant-loop-entry g l = record {
  front : (told : List FileBytes) → g.F.Folder.files l.fn.folder ≡ Some told → AllZip (WasRead told) (take l.entry-index l.entries) l.files.items;
  many : length l.files.items ≡ l.entry-index;
  size : l.total ≤ length l.files.items * 67_108_864;
  files : g.F.Folder.files l.folder ≡ g.F.Folder.files l.fn.folder;
  count : g.F.Folder.count l.folder ≡ g.F.Folder.count l.fn.folder;
  later : g.F.Folder.faults l.fn.folder ≤ g.F.Folder.faults l.folder;
}
