use Rattle.std.proofs.Common.{◌++◌, List, subst, sym}
use Rattle.std.specs.Borrow.{Bor}
use Rattle.std.specs.List.Sorted.{IsPermutation}
use Rattle.cj_threads.specs.Runs.{elements_of}
use Rattle.cj_threads.proofs.RunLemmas.{pushed, range_more}
use Rattle.cj_threads.proofs.ranges.cut_at.Goals as goal

pub loop-place-preserved : goal.loop-place-preserved
loop-place-preserved g c =
    let below = c.in_ok-below.below in
    let above = c.in_ok-below.above.items in
    rw c.in_ok-push.ensures.items
    (range_more (elements_of c.args.runs.items) c.loop-place.ranges.items below c.loop-place.rest.items above c.loop-place.invariant
    (subst (λ (left : List (Bor (List g.row.T.Denot))). IsPermutation (elements_of left) (elements_of below.items ++ elements_of above)) c.deref.ensures.value c.in_ok-below.ensures))

pub returns : goal.returns
returns g c =
    rw c.in_ok-push-2.ensures.items
    (subst (IsPermutation (elements_of c.args.runs.items)) (sym (pushed (λ range. elements_of range.items) c.loop-place.ranges.items c.loop-place.rest))
    c.loop-place.invariant)
