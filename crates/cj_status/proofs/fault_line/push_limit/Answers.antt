use Rattle.cj_kvn.proofs.TextLemmas.{joined_ok}
use Rattle.std.proofs.lemmas.Result.{IfOk-from_err}
use Rattle.cj_status.proofs.fault_line.push_limit.Goals as goal

pub returns-in_err-extend_from_slice-in-FileBytes : goal.returns-in_err-extend_from_slice-in-FileBytes
returns-in_err-extend_from_slice-in-FileBytes c = IfOk-from_err c.from_residual.result _ c.from_residual.ensures.0

pub returns-in-Nodes : goal.returns-in-Nodes
returns-in-Nodes c = rw c.in-Nodes.is c.push_count-in-Nodes.ensures

pub returns-in-Window : goal.returns-in-Window
returns-in-Window c = rw c.in-Window.is c.push_count-in-Window.ensures

pub returns-in-Slots : goal.returns-in-Slots
returns-in-Slots c = rw c.in-Slots.is c.push_count-in-Slots.ensures

pub returns-in-Cells : goal.returns-in-Cells
returns-in-Cells c = rw c.in-Cells.is c.push_count-in-Cells.ensures

pub returns-in-Told : goal.returns-in-Told
returns-in-Told c = rw c.in-Told.is c.push_count-in-Told.ensures

pub returns-in-Objects : goal.returns-in-Objects
returns-in-Objects c = rw (c.in-Objects.is, ← c.from.ensures) c.push_count.ensures

pub returns-in_ok-extend_from_slice-in-FileBytes : goal.returns-in_ok-extend_from_slice-in-FileBytes
returns-in_ok-extend_from_slice-in-FileBytes c =
    rw (c.in-FileBytes.is, ← c.as_slice.ensures)
    (joined_ok c.push_name.result c.args.text.now.items _ _ _ _ c.in_ok-extend_from_slice-in-FileBytes.ensures.items c.push_name.ensures)
