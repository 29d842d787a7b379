use Rattle.std.proofs.Common.{List, sym, subst}
use Rattle.cj_checker.specs.declared.keys.Key.{Key}
use Rattle.cj_checker.specs.Keys.{AreKeysKept}
use Rattle.cj_checker.proofs.RoundLemmas.{keys_more}
use Rattle.cj_checker.proofs.rounds.append_key.Goals as goal

pub returns-in_ok-push-clause-kept : goal.returns-in_ok-push-clause-kept
returns-in_ok-push-clause-kept c = subst (λ (ks : List Key). AreKeysKept c.args.keys.now.items ks) (sym c.in_ok-push.ensures.items) (keys_more c.args.keys.now.items _)
