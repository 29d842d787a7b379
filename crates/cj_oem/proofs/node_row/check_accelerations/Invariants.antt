use Rattle.std.proofs.Common.{◌≡◌, drop}
use Rattle.std.specs.List.{list_all}
use Rattle.cj_kvn.specs.Fields.{texts_of}
use Rattle.cj_oem.specs.NodeRows.{is_decimal}
use Rattle.cj_oem.proofs.node_row.check_accelerations.Given as goal

abbrev pub invariant-loop-index : goal.invariant-loop-index
invariant-loop-index l =
    let row = texts_of l.bytes l.row in
    list_all is_decimal (drop 7 row) ≡ list_all is_decimal (drop l.index row)
