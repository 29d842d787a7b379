use Rattle.std.proofs.Common.{◌≡◌, length, subst}
use Rattle.cj_case.specs.Tables.{IsEven}
use Rattle.cj_case.proofs.TableLemmas.{all_seen}
use Rattle.cj_case.proofs.by_slot.BySlot.slots.Goals as goal

pub returns-clause-even : goal.returns-clause-even
returns-clause-even g c = subst (λ t. IsEven t) c.self.view_is (all_seen (λ row. length row ≡ c.self.inside.slots) (λ row. row.items) c.self.inside.rows.items c.self.invariant)
