use Rattle.std.proofs.Common.{◌≡◌, length}
use Rattle.cj_host.proofs.folder.names_of.Given as goal

abbrev pub invariant-loop-file : goal.invariant-loop-file
invariant-loop-file l = length l.names.items ≡ l.file-index
