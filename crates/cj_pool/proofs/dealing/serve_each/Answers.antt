use Rattle.std.specs.Prelude.{slice_index_or}
use Rattle.std.proofs.lemmas.Result.{IfOk-weaker}
use Rattle.cj_pool.proofs.dealing.serve_each.Goals as goal

pub returns-clause-like : goal.returns-clause-like
returns-clause-like g c =
    IfOk-weaker c.serve_all.result _ _
    (λ done each i d e lt. IfOk-weaker (slice_index_or done.items i d) _ _ (λ _ is. is.0) (each i d e lt)) c.serve_all.ensures.each

pub returns-clause-dealt : goal.returns-clause-dealt
returns-clause-dealt g c =
    IfOk-weaker c.serve_all.result _ _
    (λ done each i d e lt. IfOk-weaker (slice_index_or done.items i d) _ _ (λ _ is. is.1) (each i d e lt)) c.serve_all.ensures.each
