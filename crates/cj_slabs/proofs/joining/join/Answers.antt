use Rattle.std.proofs.lemmas.Result.{err_from_is_err_and}
use Rattle.cj_slabs.specs.declared.sifted.Sifted.{Sifted}
use Rattle.cj_slabs.proofs.JoinLemmas.{slabs_more, told_pushed}
use Rattle.cj_slabs.proofs.joining.join.Goals as goal

pub returns-clause-found : goal.returns-clause-found
returns-clause-found c = λ case some more first second.
    let counts = c.with-found.ensures in
    let new : Sifted = record { slabs = c.push.new.self; touching = c.saturating_add-found.result; counts = c.with-found.result } in
    slabs_more case some more c.args.found.now new c.args.slab c.in_ok-push.ensures.items c.saturating_add-found.ensures
    counts.roots counts.leaves counts.far counts.near counts.undecided first second

pub returns-clause-told : goal.returns-clause-told
returns-clause-told c = told_pushed c.args.found.now.slabs.items c.push.new.self.items c.args.slab.told c.in_ok-push.ensures.items

pub returns-in_err-push : goal.returns-in_err-push
returns-in_err-push c =
    let p = err_from_is_err_and c.from_residual.result c.from_residual.ensures.1 in
    rw p.1 (record { found = λ case some more first second. tt; leaves = tt; told = tt })
