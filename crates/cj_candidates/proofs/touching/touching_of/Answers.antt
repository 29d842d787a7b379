use Rattle.std.proofs.Common.{◌≡◌, ℕ, Bool, Result, Ok, Err, Vec, Global, filter, map, length, ap, ◌∙◌}
use Rattle.std.specs.Prelude.{IfOk}
use Rattle.std.specs.declared.alloc.AllocError.{AllocError}
use Rattle.cj_bezier.specs.SlotBoxes.{touch_between}
use Rattle.cj_case.specs.Boxes.{plain_boxes}
use Rattle.cj_case.specs.declared.pair.Pair.{Pair}
use Rattle.cj_case.specs.Pairs.{objects_of}
use Rattle.cj_candidates.specs.SoughtPairs.{is_listed}
use Rattle.cj_candidates.proofs.ListedLemmas.{are_existing, listed_of_passing}
use Rattle.cj_candidates.proofs.ObjectLemmas.{unlisted_exist}
use Rattle.cj_candidates.proofs.touching.touching_of.Goals as goal

pub touching_one_by_one-requires-clause-exist : goal.touching_one_by_one-requires-clause-exist
touching_one_by_one-requires-clause-exist c = unlisted_exist (length c.args.boxes.now) c.args.pairs.now (are_existing (length c.args.boxes.now) (map objects_of c.args.pairs.now) c.requires.pairs)

pub in_list-requires : goal.in_list-requires
in_list-requires c = (length c.args.boxes.now, c.requires.pairs)

pub returns : goal.returns
returns c = go c.in_list.result c.in_list.ensures
  where
    test : ℕ × ℕ → Bool
    test = touch_between c.args.thr c.args.sizes.now (plain_boxes c.args.boxes.now)

    go : (r : Result (Vec Pair Global) AllocError) → IfOk r (λ some. map objects_of some.items ≡ filter (is_listed (map objects_of c.args.pairs.now)) (map objects_of c.deref.result.now))
        → IfOk r (λ some. map objects_of some.items ≡ filter test (map objects_of c.args.pairs.now))
    go (Err e) h = tt
    go (Ok some) h =
        listed_of_passing (length c.args.boxes.now) test (map objects_of c.args.pairs.now) (map objects_of c.deref.result.now) (map objects_of some.items) c.requires.pairs
        (ap (map objects_of) c.deref.ensures.value ∙ c.in_ok-touching.ensures.value) h
