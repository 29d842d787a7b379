use Rattle.std.proofs.Common.{◌≡◌, ◌-◌, ◌≤◌, length, take, List, Some}
use Rattle.cj_io.specs.Files.{bytes_of}
use Rattle.cj_io.specs.declared.file.FileBytes.{FileBytes}
use Rattle.cj_io.proofs.whole.read_whole.Given as goal

abbrev pub invariant-loop-bytes : goal.invariant-loop-bytes
invariant-loop-bytes g l = record {
  within : l.read ≤ l.limit;
  room : l.read ≤ length l.bytes.items;
  told : (files : List FileBytes) → g.F.Folder.files l.fn.folder ≡ Some files → take l.read l.bytes.items ≡ take l.read (bytes_of files l.file);
  files : g.F.Folder.files l.folder ≡ g.F.Folder.files l.fn.folder;
  count : g.F.Folder.count l.folder ≡ g.F.Folder.count l.fn.folder;
  later : g.F.Folder.faults l.fn.folder ≤ g.F.Folder.faults l.folder;
}

abbrev pub decreases-loop-bytes : goal.decreases-loop-bytes
decreases-loop-bytes g l = l.limit - l.read
