use Rattle.std.proofs.lemmas.Result.{IfOk-weaker}
use Rattle.cj_meet.proofs.approach_list.closest_approaches.Goals as goal

pub returns-clause-exact : goal.returns-clause-exact
returns-clause-exact c = λ c'. IfOk-weaker c'.search_by_threads.result _ _ (λ found are. are.exact) c'.search_by_threads.ensures

pub returns-clause-law : goal.returns-clause-law
returns-clause-law c = λ c'. IfOk-weaker c'.search_by_threads.result _ _ (λ found are. are.law) c'.search_by_threads.ensures

pub returns-then-workers-lt2-clause-exact : goal.returns-then-workers-lt2-clause-exact
returns-then-workers-lt2-clause-exact c = λ c'. IfOk-weaker c'.search_in_turn.result _ _ (λ found are. are.exact) c'.search_in_turn.ensures

pub returns-then-workers-lt2-clause-law : goal.returns-then-workers-lt2-clause-law
returns-then-workers-lt2-clause-law c = λ c'. IfOk-weaker c'.search_in_turn.result _ _ (λ found are. are.law) c'.search_in_turn.ensures
