use Rattle.std.proofs.Common.{ℕ, ◌≤◌, arith, ap, length, refl, subst, List}
use Rattle.cj_track.specs.declared.node.Node.{Node}
use Rattle.cj_track.specs.Useable.{LiesWithin}
use Rattle.cj_oem.proofs.node_checks.check_nodes.Goals as goal

pub returns-clause-enough : goal.returns-clause-enough
returns-clause-enough c = omega (arith, ap length c.as_slice-nodes.ensures)

pub returns-clause-some : goal.returns-clause-some
returns-clause-some c = c.if-not-is_useable.ensures.some refl

pub returns-clause-within : goal.returns-clause-within
returns-clause-within c =
    let metadata = c.args.open_segment.now.metadata in
    subst (λ (nodes : List Node). LiesWithin metadata.first.micros metadata.last.micros nodes) c.as_slice-nodes.ensures (c.if-not-is_useable.ensures.within refl)

pub returns-clause-later : goal.returns-clause-later
returns-clause-later c = subst (λ (end : ℕ). end ≤ c.args.open_segment.now.metadata.first.micros) c.end.ensures c.if-metadata-end.false
