use Rattle.std.proofs.Common.{◌≡◌, true, ap, refl}
use Rattle.std.specs.Prelude.{◌==◌}
use Rattle.std.proofs.lemmas.List.{map-append}
use Rattle.cj_oem.specs.CovarianceRows.{closed}
use Rattle.cj_oem.proofs.covariances.Covariances.finish.Goals as goal

pub returns-in_ok-push : goal.returns-in_ok-push
unfolding closed
returns-in_ok-push c =
    let draft = c.in-Some.draft in
    let six : (draft.rows == 6) ≡ true = ap (λ n. n == 6) c.if-draft-ne6.false in
    let rtn : draft.rtn ≡ true = c.if-draft.true in
    rw (c.in-Some.is, six, rtn, c.in_ok-push.ensures.items, map-append, c.matrix.ensures) refl
