use Rattle.std.proofs.Common.{◌≡◌, ◌∙◌, ap, sym, Option}
use Rattle.std.specs.Prelude.{unwrap_or}
use Rattle.std.specs.Option.{option_map}
use Rattle.cj_track.specs.declared.segment.Segment.{Segment}
use Rattle.cj_oem.proofs.ListLemmas.{end_is}
use Rattle.cj_oem.proofs.segment_list.SegmentList.end.Goals as goal

pub returns-in-Some : goal.returns-in-Some
returns-in-Some c =
    let same : c.deref.result.now ≡ c.args.self.now = cc in
    sym (rw (sym same) (end_is c.deref.result.now ∙ ap (λ (o : Option Segment). unwrap_or (option_map (λ (s : Segment). s.last.micros) o) 0) (sym c.in-Some.ensures.value)))
