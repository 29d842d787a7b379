use Rattle.std.proofs.Common.{◌≡◌, take}
use Rattle.cj_io.specs.Files.{names_of}
use Rattle.cj_io.proofs.calm_folder.copy_names.Given as goal

abbrev pub invariant-loop-file : goal.invariant-loop-file
invariant-loop-file l = l.names.items ≡ names_of (take l.file-index l.files)
