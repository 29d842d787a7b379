use Rattle.cj_interval.proofs.MachineLemmas.{read_down}
use Rattle.cj_bezier.proofs.squares.part_down.Goals as goal

pub returns-clause-value : goal.returns-clause-value
returns-clause-value c =
    read_down c.args.end c.div_euclid.result c.from.result c.args.choose c.ranges.end
    (record { sfits = c.from.type_inv }) (record { sfits = c.div_euclid.type_inv }) c.from.ensures c.div_euclid.ensures
