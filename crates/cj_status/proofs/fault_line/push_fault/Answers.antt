use Rattle.cj_status.proofs.fault_line.push_fault.Goals as goal

pub returns-in-BadFile : goal.returns-in-BadFile
returns-in-BadFile c = rw (c.in-BadFile.is, ← c.as_slice.ensures) c.push_refused.ensures

pub returns-in-Limit : goal.returns-in-Limit
returns-in-Limit c = rw c.in-Limit.is c.push_limit.ensures

pub returns-in-Usage : goal.returns-in-Usage
returns-in-Usage c = rw c.in-Usage.is c.push_usage.ensures

pub returns-in-NotAccepted : goal.returns-in-NotAccepted
returns-in-NotAccepted c = rw (c.in-NotAccepted.is, ← c.certificate_cause_name.ensures) c.push_place.ensures
