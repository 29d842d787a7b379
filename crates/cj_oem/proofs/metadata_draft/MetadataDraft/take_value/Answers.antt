use Rattle.std.proofs.Common.{refl}
use Rattle.std.proofs.lemmas.Result.{err_from_is_err_and}
use Rattle.cj_oem.specs.Metadata.{with_value}
use Rattle.cj_oem.proofs.metadata_draft.MetadataDraft.take_value.Goals as goal

pub returns-in_err-parse_epoch-in-StartTime : goal.returns-in_err-parse_epoch-in-StartTime
unfolding with_value
returns-in_err-parse_epoch-in-StartTime c =
    let p = err_from_is_err_and c.from_residual-in_err-parse_epoch-in-StartTime.result c.from_residual-in_err-parse_epoch-in-StartTime.ensures.1 in
    rw (p.1, p.2, c.in-StartTime.is) (rw c.in_err-parse_epoch-in-StartTime.ensures refl)

pub returns-in_ok-parse_epoch-in-StartTime : goal.returns-in_ok-parse_epoch-in-StartTime
unfolding with_value
returns-in_ok-parse_epoch-in-StartTime c = rw c.in-StartTime.is (rw c.in_ok-parse_epoch-in-StartTime.ensures refl)

pub returns-in_err-parse_epoch-in-StopTime : goal.returns-in_err-parse_epoch-in-StopTime
unfolding with_value
returns-in_err-parse_epoch-in-StopTime c =
    let p = err_from_is_err_and c.from_residual-in_err-parse_epoch-in-StopTime.result c.from_residual-in_err-parse_epoch-in-StopTime.ensures.1 in
    rw (p.1, p.2, c.in-StopTime.is) (rw c.in_err-parse_epoch-in-StopTime.ensures refl)

pub returns-in_ok-parse_epoch-in-StopTime : goal.returns-in_ok-parse_epoch-in-StopTime
unfolding with_value
returns-in_ok-parse_epoch-in-StopTime c = rw c.in-StopTime.is (rw c.in_ok-parse_epoch-in-StopTime.ensures refl)

pub returns-in_err-parse_epoch-in-UseableStartTime : goal.returns-in_err-parse_epoch-in-UseableStartTime
unfolding with_value
returns-in_err-parse_epoch-in-UseableStartTime c =
    let p = err_from_is_err_and c.from_residual-in_err-parse_epoch-in-UseableStartTime.result
    c.from_residual-in_err-parse_epoch-in-UseableStartTime.ensures.1 in
    rw (p.1, p.2, c.in-UseableStartTime.is) (rw c.in_err-parse_epoch-in-UseableStartTime.ensures refl)

pub returns-in_ok-parse_epoch-in-UseableStartTime : goal.returns-in_ok-parse_epoch-in-UseableStartTime
unfolding with_value
returns-in_ok-parse_epoch-in-UseableStartTime c = rw c.in-UseableStartTime.is (rw c.in_ok-parse_epoch-in-UseableStartTime.ensures refl)

pub returns-in_err-parse_epoch-in-UseableStopTime : goal.returns-in_err-parse_epoch-in-UseableStopTime
unfolding with_value
returns-in_err-parse_epoch-in-UseableStopTime c =
    let p = err_from_is_err_and c.from_residual-in_err-parse_epoch-in-UseableStopTime.result c.from_residual-in_err-parse_epoch-in-UseableStopTime.ensures.1 in
    rw (p.1, p.2, c.in-UseableStopTime.is) (rw c.in_err-parse_epoch-in-UseableStopTime.ensures refl)

pub returns-in_ok-parse_epoch-in-UseableStopTime : goal.returns-in_ok-parse_epoch-in-UseableStopTime
unfolding with_value
returns-in_ok-parse_epoch-in-UseableStopTime c = rw c.in-UseableStopTime.is (rw c.in_ok-parse_epoch-in-UseableStopTime.ensures refl)

pub returns-in-RefFrameEpoch : goal.returns-in-RefFrameEpoch
unfolding with_value
returns-in-RefFrameEpoch c = rw c.in-RefFrameEpoch.is refl
