use Rattle.std.proofs.Common.{◌∙◌}
use Rattle.cj_status.proofs.AppendLemmas.{appended}
use Rattle.cj_status.proofs.fault_line.push_number.Goals as goal

pub returns : goal.returns
returns c = appended c.extend_from_slice.result _ _ _ _ c.extend_from_slice.ensures.items (c.as_bytes.ensures.value ∙ c.in_ok-digits.ensures.ok)
