use Rattle.std.proofs.Common.{ℕ, sym, subst, to_z, of_z, to_z-of_z, FitsSigned}
use Rattle.std.specs.Int.{w128}
use Rattle.std.specs.Prelude.{ℤ}
use Rattle.cj_interval.specs.Sizes.{IsWithin}
use Rattle.cj_rtn.proofs.states.middle_of_box.Goals as goal

read_within : (m : ℕ) (z : ℤ) → FitsSigned w128 z → IsWithin m z → IsWithin m (to_z w128 (of_z w128 z))
read_within m z fits h = subst (λ (x : ℤ). IsWithin m x) (sym (to_z-of_z fits)) h

pub returns-clause-within : goal.returns-clause-within
returns-clause-within c m h = record {
  x = read_within m c.middle.result (record { sfits = c.middle.type_inv }) (c.middle.ensures.within m h.x);
  y = read_within m c.middle-2.result (record { sfits = c.middle-2.type_inv }) (c.middle-2.ensures.within m h.y);
  z = read_within m c.middle-3.result (record { sfits = c.middle-3.type_inv }) (c.middle-3.ensures.within m h.z);
}
