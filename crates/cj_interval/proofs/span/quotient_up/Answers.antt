use Rattle.cj_interval.proofs.MachineLemmas.{read_up}
use Rattle.cj_interval.proofs.span.quotient_up.Goals as goal

pub returns : goal.returns
returns c =
    read_up c.args.z c.div_euclid.result c.from.result c.args.by c.ranges.z
    (record { sfits = c.from.type_inv }) (record { sfits = c.div_euclid.type_inv }) c.from.ensures c.requires.within c.div_euclid.ensures c.requires.some
