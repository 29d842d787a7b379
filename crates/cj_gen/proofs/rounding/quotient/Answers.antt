use Rattle.cj_gen.proofs.RoundingLemmas.{read_down}
use Rattle.cj_gen.proofs.rounding.quotient.Goals as goal

pub returns : goal.returns
returns c =
    read_down c.args.z c.div_euclid.result c.from.result c.args.by c.ranges.z
    (record { sfits = c.from.type_inv }) (record { sfits = c.div_euclid.type_inv }) c.from.ensures c.div_euclid.ensures
