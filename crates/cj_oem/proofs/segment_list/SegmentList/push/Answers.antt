use Rattle.std.proofs.Common.{◌≤◌, List, map, subst, sym}
use Rattle.cj_track.specs.declared.segment.Segment.{Segment}
use Rattle.cj_oem.specs.Stages.{end_of}
use Rattle.cj_track.specs.Tracks.{plain_segment}
use Rattle.cj_oem.proofs.ListLemmas.{order_push}
use Rattle.cj_oem.proofs.segment_list.SegmentList.push.Goals as goal

pub invariant_of-self-2 : goal.invariant_of-self-2
invariant_of-self-2 c =
    rw c.in_ok-push.ensures.items (order_push c.self.inside.items.items c.args.segment c.self.invariant
    (subst (λ (segments : List Segment). end_of (map plain_segment segments) ≤ c.args.segment.first.micros) (sym c.self.view_is) c.requires))
