use Rattle.std.proofs.Common.{◌++◌, length, ap, ◌∙◌, arith}
use Rattle.std.proofs.lemmas.Result.{on_ok_weaker}
use Rattle.std.proofs.lemmas.List.{length-map}
use Rattle.cj_case.specs.Leaves.{plain_leaf, plain_leaves}
use Rattle.cj_case.specs.Pairs.{objects_of}
use Rattle.cj_again.specs.PairLeaves.{renamed}
use Rattle.cj_again.proofs.carrying.append_pair.Goals as goal

pub returns-clause-ok : goal.returns-clause-ok
returns-clause-ok c =
    on_ok_weaker c.append_as.result (λ is. is ∙ ap (λ ss. plain_leaves c.args.leaves.now.items ++ ss) c.known.ensures) c.append_as.ensures.ok

pub returns-clause-within : goal.returns-clause-within
returns-clause-within c = c.append_as.ensures.within

pub returns-clause-too_many : goal.returns-clause-too_many
returns-clause-too_many c is =
    let many = c.append_as.ensures.too_many is in
    let same = ap length c.known.ensures in
    omega (arith, many, same, length-map (plain_leaves c.known.result.now) (renamed (objects_of c.args.pair)), length-map c.known.result.now plain_leaf)
