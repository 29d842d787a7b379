use Rattle.cj_interval.proofs.MachineLemmas.{read_down}
use Rattle.cj_rtn.proofs.vectors.quotient.Goals as goal

pub returns : goal.returns
returns c =
    read_down c.args.a c.div_euclid.result c.from.result c.args.by c.ranges.a (record { sfits = c.from.type_inv }) (record { sfits = c.div_euclid.type_inv }) c.from.ensures
    c.div_euclid.ensures
