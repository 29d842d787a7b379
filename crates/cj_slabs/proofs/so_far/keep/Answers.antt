use Rattle.std.proofs.Common.{◌≡◌, length, refl, arith}
use Rattle.std.proofs.lemmas.Result.{err_from_is_err_and}
use Rattle.cj_slabs.proofs.JoinLemmas.{given_up}
use Rattle.cj_slabs.proofs.so_far.keep.Goals as goal

pub returns-then-told-room : goal.returns-then-told-room
returns-then-told-room c =
    let long : c.len-told.result ≡ length c.args.slab.told.items = omega (arith, c.len-told.ensures, c.args.slab.told.ok.0) in
    record {
      found = λ limits case some more are all is. given_up limits case some more c.args.found c.args.slab _ c.args.room c.len-told.result long (omega (arith, c.if-told-room.true)) refl are all is;
      leaves = refl;
      memory = tt;
    }

pub returns-in_err-join : goal.returns-in_err-join
returns-in_err-join c =
    let p = err_from_is_err_and c.from_residual.result c.from_residual.ensures.1 in
    rw (p.1, p.2) (record { found = λ limits case some more are all is. tt; leaves = tt; memory = refl })

pub returns : goal.returns
returns c =
    let long : c.len-told.result ≡ length c.args.slab.told.items = omega (arith, c.len-told.ensures, c.args.slab.told.ok.0) in
    record {
      found = λ limits case some more are all is. (c.in_ok-join.ensures.found case some more are is, omega (arith, all, c.in_ok-join.ensures.told, long, c.if-told-room.false));
      leaves = c.in_ok-join.ensures.leaves;
      memory = tt;
    }
