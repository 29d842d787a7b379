use Rattle.std.proofs.Common.{◌∙◌, ◌++◌, ◌∷◌, [], ap}
use Rattle.std.specs.Prelude.{None}
use Rattle.std.proofs.lemmas.List.{replicate_more}
use Rattle.cj_threads.proofs.dealing.empty_places.Goals as goal

pub loop-preserved : goal.loop-preserved
loop-preserved g c = c.in_ok-push.ensures.items ∙ ap (λ places. places ++ None ∷ []) c.loop.invariant ∙ replicate_more c.loop.counter None
