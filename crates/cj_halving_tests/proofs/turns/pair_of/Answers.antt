use Rattle.std.proofs.Common.{◌≡◌, List, [], ◌∷◌, ◌++◌, ap, ◌∙◌, subst}
use Rattle.std.specs.Prelude.{All}
use Rattle.std.specs.List.{range_with_len}
use Rattle.cj_pool.specs.Hands.{HandSeen, IsHandOf}
use Rattle.cj_pool.specs.Refined.{numbers_of}
use Rattle.cj_halving_tests.proofs.PairLemmas.{are_pair}
use Rattle.cj_halving_tests.proofs.turns.pair_of.Goals as goal

pub returns-clause-zero : goal.returns-clause-zero
returns-clause-zero g c =
    let r = c.args._refinery.now in
    let rest = c.pop-2.new.self.items in
    let one = c.in-Some.one in
    let is = c.in-Some.ensures.items ∙ ap (λ (xs : List HandSeen). xs ++ one ∷ []) c.in-Some-pop.ensures.items in
    let pair = are_pair r rest c.in-Some-pop.zero one (subst (All (IsHandOf r)) is c.requires.hands)
    (subst (λ (xs : List HandSeen). numbers_of xs ≡ range_with_len 0 2) is c.requires.numbers) in
    pair.zero_is

pub returns-clause-one : goal.returns-clause-one
returns-clause-one g c =
    let r = c.args._refinery.now in
    let rest = c.pop-2.new.self.items in
    let one = c.in-Some.one in
    let is = c.in-Some.ensures.items ∙ ap (λ (xs : List HandSeen). xs ++ one ∷ []) c.in-Some-pop.ensures.items in
    let pair = are_pair r rest c.in-Some-pop.zero one (subst (All (IsHandOf r)) is c.requires.hands)
    (subst (λ (xs : List HandSeen). numbers_of xs ≡ range_with_len 0 2) is c.requires.numbers) in
    pair.one_is
