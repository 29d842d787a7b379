use Rattle.std.proofs.Common.{◌≡◌, ℕ, List, true, Bor, get_or, subst, arith, below_more}
use Rattle.std.proofs.lemmas.List.{get_or_default}
use Rattle.cj_sizes.specs.Radii.{has_id}
use Rattle.cj_sizes.proofs.RadiusLemmas.{own_asked, still_asked}
use Rattle.cj_sizes.proofs.radii.ids_asked.Goals as goal

pub loop-id-preserved : goal.loop-id-preserved
loop-id-preserved c =
    let ids = c.args.ids.now in
    let at = c.loop-id.id-index in
    below_more (λ k. (d : Bor (List ℕ)) → has_id c.insert.new.self (get_or ids k d).now ≡ true) at
    (λ k lt d. still_asked c.loop-id.asked c.insert.new.self _ (get_or ids k d).now c.in_ok-insert.ensures.updates (c.loop-id.invariant k lt d))
    (λ d. subst (λ (id : Bor (List ℕ)). has_id c.insert.new.self id.now ≡ true) (get_or_default ids at _ d c.loop-id-test.true) (own_asked c.loop-id.asked c.insert.new.self _ c.in_ok-insert.ensures.updates))

pub returns : goal.returns
returns c = λ k d lt. c.loop-id.invariant k (omega arith) d
