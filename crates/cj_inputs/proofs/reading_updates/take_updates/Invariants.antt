use Rattle.std.proofs.Common.{◌≡◌, ◌≤◌, List, Some, drop, length, map}
use Rattle.cj_io.specs.declared.file.FileBytes.{FileBytes}
use Rattle.cj_track.specs.Tracks.{plain_track}
use Rattle.cj_words.specs.Settings.{plain_settings}
use Rattle.cj_inputs.specs.Updates.{updates_after}
use Rattle.cj_inputs.proofs.reading_updates.take_updates.Given as goal

-- what was read, then what is left, leads where all leads
abbrev pub invariant-loop-entry : goal.invariant-loop-entry
invariant-loop-entry g l = record {
  leads : (files : List FileBytes) → g.F.Folder.files l.fn.folder ≡ Some files
      → updates_after (plain_settings l.settings) l.update files (map plain_track l.taken.tracks.items) (drop l.entry-index l.updates)
      ≡ updates_after (plain_settings l.settings) l.update files (map plain_track l.fn.taken.tracks.items) l.updates;
  more : length l.fn.taken.tracks.items ≤ length l.taken.tracks.items;
  files : g.F.Folder.files l.folder ≡ g.F.Folder.files l.fn.folder;
  count : g.F.Folder.count l.folder ≡ g.F.Folder.count l.fn.folder;
  later : g.F.Folder.faults l.fn.folder ≤ g.F.Folder.faults l.folder;
}
