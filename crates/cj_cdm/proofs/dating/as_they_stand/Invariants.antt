use Rattle.std.proofs.Common.{◌≡◌, take}
use Rattle.cj_cdm.specs.Dated.{dated_from}
use Rattle.cj_cdm.proofs.dating.as_they_stand.Given as goal

abbrev pub invariant-loop-place : goal.invariant-loop-place
invariant-loop-place l = l.dated.items ≡ dated_from 0 (take l.place l.matrices)
