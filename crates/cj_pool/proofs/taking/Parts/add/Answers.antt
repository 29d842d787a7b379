use Rattle.std.proofs.lemmas.Result.{err_from_is_err_and}
use Rattle.std.proofs.Common.{[], sym, ap, ◌∙◌}
use Rattle.std.proofs.lemmas.List.{flat_map_more}
use Rattle.cj_pool.specs.Refined.{in_runs}
use Rattle.cj_pool.proofs.taking.Parts.add.Goals as goal

pub returns-in_err-push : goal.returns-in_err-push
returns-in_err-push g c =
    let p = err_from_is_err_and c.from_residual.result c.from_residual.ensures.1 in
    rw p.1 (record { stations = tt; shares = tt; leaves = tt; kept = tt })

pub returns-in_err-push-2 : goal.returns-in_err-push-2
returns-in_err-push-2 g c =
    let p = err_from_is_err_and c.from_residual-in_err-push-2.result c.from_residual-in_err-push-2.ensures.1 in
    rw p.1 (record { stations = tt; shares = tt; leaves = tt; kept = tt })

pub returns-in_err-push-3 : goal.returns-in_err-push-3
returns-in_err-push-3 g c =
    let p = err_from_is_err_and c.from_residual-in_err-push-3.result c.from_residual-in_err-push-3.ensures.1 in
    rw p.1 (record { stations = tt; shares = tt; leaves = tt; kept = tt })

pub returns-in_err-extend_from_slice : goal.returns-in_err-extend_from_slice
returns-in_err-extend_from_slice g c =
    let p = err_from_is_err_and c.from_residual-in_err-extend_from_slice.result c.from_residual-in_err-extend_from_slice.ensures.1 in
    rw p.1 (record { stations = tt; shares = tt; leaves = tt; kept = tt })

pub returns-clause-kept : goal.returns-clause-kept
returns-clause-kept g c = c.in_ok-extend_from_slice.ensures.items

pub returns-clause-leaves : goal.returns-clause-leaves
returns-clause-leaves g c =
    ap in_runs c.in_ok-push-3.ensures.items ∙ sym (flat_map_more (λ run. run.items) [] c.args.self.now.runs.items c.args.closed)

pub returns-clause-shares : goal.returns-clause-shares
returns-clause-shares g c = c.in_ok-push-2.ensures.items

pub returns-clause-stations : goal.returns-clause-stations
returns-clause-stations g c = c.in_ok-push.ensures.items
