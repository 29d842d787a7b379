use Rattle.std.proofs.Common.{◌∙◌, sym, arith}
use Rattle.cj_geometry_tests.proofs.crowds.crowd.Goals as goal

pub new-tracks-requires-clause-few : goal.new-tracks-requires-clause-few
new-tracks-requires-clause-few c = omega (arith, c.in_ok-objects.ensures.many, c.requires)

pub new-tracks-requires-clause-frame : goal.new-tracks-requires-clause-frame
new-tracks-requires-clause-frame c = λ i j d below_i below_j. c.in_ok-objects.ensures.frames i d below_i ∙ sym (c.in_ok-objects.ensures.frames j d below_j)

pub new-tracks-requires-clause-nodes : goal.new-tracks-requires-clause-nodes
new-tracks-requires-clause-nodes c = omega (arith, c.in_ok-objects.ensures.nodes, c.requires)
