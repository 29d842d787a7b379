use Rattle.std.proofs.Common.{◌≡◌, ◌≤◌}
use Rattle.cj_inputs.proofs.all_faults.tell_of_files.Given as goal

abbrev pub invariant-loop-entry : goal.invariant-loop-entry
invariant-loop-entry g l = record {
  count : g.F.Folder.count l.folder ≡ g.F.Folder.count l.fn.folder;
  files : g.F.Folder.files l.folder ≡ g.F.Folder.files l.fn.folder;
  later : g.F.Folder.faults l.fn.folder ≤ g.F.Folder.faults l.folder;
}
