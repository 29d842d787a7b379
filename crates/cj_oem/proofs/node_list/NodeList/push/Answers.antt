use Rattle.std.proofs.Common.{◌-◌, List, IfSome, length, slice_get, subst, sym}
use Rattle.cj_track.specs.declared.node.Node.{Node}
use Rattle.cj_track.specs.Nodes.{IsStep}
use Rattle.cj_oem.proofs.ListLemmas.{steps_push}
use Rattle.cj_oem.proofs.node_list.NodeList.push.Goals as goal

pub invariant_of-self-2 : goal.invariant_of-self-2
invariant_of-self-2 c =
    rw c.in_ok-push.ensures.items (steps_push c.self.inside.items.items c.args.node c.self.invariant
    (subst (λ (nodes : List Node). IfSome (slice_get nodes (length nodes - 1)) (λ last. IsStep last c.args.node)) (sym c.self.view_is) c.requires))
