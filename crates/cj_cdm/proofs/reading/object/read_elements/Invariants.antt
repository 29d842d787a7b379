use Rattle.std.proofs.Common.{◌≡◌, drop, length, map, take}
use Rattle.cj_base.specs.Decimals.{number_of}
use Rattle.cj_cdm.specs.Read.{plain_rest}
use Rattle.cj_cdm.specs.Reading.{elements_said}
use Rattle.cj_cdm.specs.Texts.{elements}
use Rattle.cj_cdm.proofs.ReaderLemmas.{prepended}
use Rattle.cj_cdm.proofs.reading.object.read_elements.Given as goal

-- what is read so far and what is left say together what the whole says
abbrev pub invariant-loop-index : goal.invariant-loop-index
invariant-loop-index l =
    (length l.values ≡ 21)
    × (elements_said elements (plain_rest l.fn.rest) ≡ prepended (map number_of (take l.index l.values)) (elements_said (drop l.index elements) (plain_rest l.rest)))
