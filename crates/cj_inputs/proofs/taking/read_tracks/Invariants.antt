use Rattle.std.proofs.Common.{◌≡◌, ◌-◌, ◌≤◌, List, Some, length}
use Rattle.cj_io.specs.Faults.{Rose}
use Rattle.cj_io.specs.declared.file.FileBytes.{FileBytes}
use Rattle.cj_words.specs.Settings.{plain_settings}
use Rattle.cj_inputs.specs.Batches.{Fits, IsOnTheWay}
use Rattle.cj_inputs.specs.declared.reading.InputError.TheVariants.{Failed}
use Rattle.cj_inputs.proofs.taking.read_tracks.Given as goal

abbrev pub invariant-loop-alloc : goal.invariant-loop-alloc
invariant-loop-alloc g l = record {
  told : (told : List FileBytes) → g.F.Folder.files l.fn.folder ≡ Some told → IsOnTheWay (plain_settings l.settings) told l.entries l.progress;
  fits : Fits l.entries l.progress;
  fault : l.progress.batch.stop ≡ Some Failed → Rose (g.F.Folder.faults l.fn.folder) (g.F.Folder.faults l.folder);
  files : g.F.Folder.files l.folder ≡ g.F.Folder.files l.fn.folder;
  count : g.F.Folder.count l.folder ≡ g.F.Folder.count l.fn.folder;
  later : g.F.Folder.faults l.fn.folder ≤ g.F.Folder.faults l.folder;
}

abbrev pub decreases-loop-alloc : goal.decreases-loop-alloc
decreases-loop-alloc g l = length l.entries - length l.progress.taken.tracks.items
