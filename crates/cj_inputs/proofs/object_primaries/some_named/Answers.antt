use Rattle.std.proofs.Common.{sym, arith}
use Rattle.std.proofs.lemmas.Result.{err_from_is_err_and}
use Rattle.cj_inputs.proofs.PrimaryLemmas.{nobody_named, somebody_named}
use Rattle.cj_inputs.proofs.object_primaries.some_named.Goals as goal

pub returns-in_err-copy_of : goal.returns-in_err-copy_of
returns-in_err-copy_of c =
    let p = err_from_is_err_and c.from_residual.result c.from_residual.ensures.1 in
    rw (p.1, p.2) tt

pub returns-then-is_empty : goal.returns-then-is_empty
returns-then-is_empty c =
    let ids = c.args.ids in
    rw c.in_ok-copy_of.ensures (nobody_named c.args.name.now ids.items ids.len (omega (arith, ids.ok.0)) (sym c.if-is_empty.ensures))

pub returns : goal.returns
returns c =
    let ids = c.args.ids in
    somebody_named c.args.name.now ids.items ids.len (omega (arith, ids.ok.0)) (sym c.if-is_empty.ensures)
