use Rattle.std.proofs.Common.{◌≡◌, ◌++◌, map}
use Rattle.cj_base.specs.Decimals.{number_of}
use Rattle.cj_cdm.specs.Building.{in_square_metres}
use Rattle.cj_cdm.proofs.ElementLemmas.{written}
use Rattle.cj_cdm.proofs.printing.covariance.push_elements.Given as goal

abbrev pub invariant-loop-index : goal.invariant-loop-index
invariant-loop-index l = l.text.items ≡ l.fn.text.items ++ written l.index (map in_square_metres (map number_of l.values))
