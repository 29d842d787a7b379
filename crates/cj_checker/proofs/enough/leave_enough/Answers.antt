use Rattle.std.proofs.Common.{List, sym, subst}
use Rattle.cj_checker.specs.declared.keys.Key.{Key}
use Rattle.cj_checker.specs.Keys.{AreKeysIn, HasKey}
use Rattle.cj_checker.proofs.RoundLemmas.{keys_before, key_before}
use Rattle.cj_checker.proofs.enough.leave_enough.Goals as goal

pub returns-clause-keys : goal.returns-clause-keys
returns-clause-keys c candidate objects slots are =
    subst (AreKeysIn candidate c.args.first c.end_of_enough-row.result objects slots) (sym c.leave_before.ensures)
    (keys_before candidate c.args.first c.args.end c.end_of_enough-row.result objects slots c.args.keys.now.items are)

pub returns-clause-kept : goal.returns-clause-kept
returns-clause-kept c a b slot before has =
    subst (λ (ks : List Key). HasKey ks a b slot) (sym c.leave_before.ensures) (key_before c.args.keys.now.items c.end_of_enough-row.result a b slot before has)
