use Rattle.std.proofs.Common.{length, ap, ◌∙◌}
use Rattle.cj_ledger.specs.declared.count.Opening.{Opening}
use Rattle.cj_pool.specs.Hands.{RefinerySeen}
use Rattle.cj_pool.proofs.refinery.Refinery.without_deques.Goals as goal

abbrev opening : RefinerySeen → Opening
opening r = record { roots = length r.roots; shares = r.hands }

pub returns : goal.returns
returns g c = record {
  problem = ap (λ (r : RefinerySeen). r.problem) c.self.view_is;
  limit = ap (λ (r : RefinerySeen). r.limit) c.self.view_is;
  ledger = ap (λ (r : RefinerySeen). r.ledger) c.self.view_is;
  opening = c.self.invariant.7 ∙ ap opening c.self.view_is;
}
