use Rattle.std.proofs.Common.{◌≡◌, ◌≤◌, List, [], Some, drop}
use Rattle.cj_io.specs.declared.file.FileBytes.{FileBytes}
use Rattle.cj_inputs.specs.Alone.{plain_tracks, readings_alone}
use Rattle.cj_inputs.proofs.alone.read_each.Given as goal

-- what was read, then what is left, leads where all leads
abbrev pub invariant-loop-entry : goal.invariant-loop-entry
invariant-loop-entry g l = record {
  leads : (files : List FileBytes) → g.F.Folder.files l.fn.folder ≡ Some files
      → readings_alone l.as_hermite3 l.limits.nodes files (plain_tracks l.lone) (drop l.entry-index l.entries)
      ≡ readings_alone l.as_hermite3 l.limits.nodes files [] l.entries;
  files : g.F.Folder.files l.folder ≡ g.F.Folder.files l.fn.folder;
  count : g.F.Folder.count l.folder ≡ g.F.Folder.count l.fn.folder;
  later : g.F.Folder.faults l.fn.folder ≤ g.F.Folder.faults l.folder;
}
