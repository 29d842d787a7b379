-- Boxes of lines that are entered by object and slot.
use Rattle.std.specs.Prelude.{◌≡◌, ℕ, ◌<◌, if◌then◌else◌, length, Option, Some}
use Rattle.cj_case.specs.declared.axis_box.AxisBox.{AxisBox}
use Rattle.cj_case.specs.Tables.{Table, value_at}
use Rattle.cj_cert.specs.declared.cert_lines.BoxLine.{BoxLine}
use Rattle.cj_cert.specs.Certificates.{plain_box_line}
use Rattle.cj_cert.specs.Listed.{is_line_of}

-- after this each object has the box of a line in the line's slots, and all else is as before
abbrev pub IsEntered : BoxLine → Table (Option AxisBox) → Table (Option AxisBox) → Type 0
IsEntered line old new = (object slot : ℕ) → object < length old.rows → slot < old.slots
    → value_at new.rows object slot ≡ (if is_line_of object slot (plain_box_line line) then Some (Some line.area) else value_at old.rows object slot)
