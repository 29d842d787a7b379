use Rattle.std.proofs.Common.{◌≡◌, List, [], ◌∷◌, ◌++◌, sym, subst, ◌∙◌}
use Rattle.cj_interval.proofs.ListLemmas.{Contains-map_longer, Contains-map_push}
use Rattle.cj_case.specs.declared.pair.Pair.{Pair}
use Rattle.cj_case.specs.Pairs.{ArePairsKept, HasPair, objects_of}
use Rattle.cj_grid.specs.Among.{TouchAmong}
use Rattle.cj_grid.proofs.PairingLemmas.{touching_more}
use Rattle.cj_grid.proofs.bucket_pairs.append_touching.Goals as goal

-- what holds of the pairs with one behind them holds of what was pushed to
after_push : (P : List Pair → Type 0) (old new : List Pair) (pair : Pair) → new ≡ old ++ pair ∷ [] → P (old ++ pair ∷ []) → P new
after_push P old new pair pushed holds = subst P (sym pushed) holds

pub returns-clause-touching : goal.returns-clause-touching
returns-clause-touching g c all =
    let objects = c.args.objects.now in
    after_push (λ ps. TouchAmong objects ps) c.args.pairs.now.items c.push.new.self.items c.args.pair c.in_ok-push.ensures.items
    (touching_more objects.thr objects.sizes.now objects.boxes.now c.args.pairs.now.items c.args.pair (sym c.pair_touches.ensures.value ∙ c.if-not-pair_touches.false) all)

pub returns-clause-kept : goal.returns-clause-kept
returns-clause-kept g c =
    after_push (λ ps. ArePairsKept c.args.pairs.now.items ps) c.args.pairs.now.items c.push.new.self.items c.args.pair c.in_ok-push.ensures.items
    (λ a b has. Contains-map_longer objects_of c.args.pairs.now.items c.args.pair (a, b) has)

pub returns-clause-found : goal.returns-clause-found
returns-clause-found g c touch =
    after_push (λ ps. HasPair ps c.args.pair.a c.args.pair.b) c.args.pairs.now.items c.push.new.self.items c.args.pair c.in_ok-push.ensures.items
    (Contains-map_push objects_of c.args.pairs.now.items c.args.pair)
