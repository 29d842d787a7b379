use Rattle.std.proofs.Common.{map, take}
use Rattle.std.specs.List.{AllWithin}
use Rattle.cj_base.specs.Decimals.{number_of}
use Rattle.cj_kvn.specs.Fields.{fields}
use Rattle.cj_kvn.specs.Ranges.{text_at}
use Rattle.cj_oem.proofs.DraftLemmas.{HasSaid, IsKept}
use Rattle.cj_oem.proofs.draft.read_numbers.Given as goal

abbrev pub invariant-loop-index : goal.invariant-loop-index
invariant-loop-index l = HasSaid (fields (text_at l.bytes l.text)) l.index (map number_of (take l.index l.places)) × AllWithin IsKept l.places 0 l.index
