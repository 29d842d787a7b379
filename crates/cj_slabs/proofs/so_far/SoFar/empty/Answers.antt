use Rattle.std.proofs.Common.{List, Vec, Global, length, ap, arith}
use Rattle.cj_case.specs.declared.leaf.Leaf.{Leaf}
use Rattle.cj_slabs.specs.Slabs.{leaves_listed}
use Rattle.cj_slabs.proofs.JoinLemmas.{no_slabs}
use Rattle.cj_slabs.proofs.so_far.SoFar.empty.Goals as goal

pub returns-clause-found : goal.returns-clause-found
returns-clause-found c = λ case.
    let empty = c.empty.ensures in
    (no_slabs case c.empty.result empty.slabs empty.touching empty.counts, omega (arith, ap (λ (lists : List (Vec Leaf Global)). length (leaves_listed lists)) empty.slabs))
