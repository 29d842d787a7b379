use Rattle.std.proofs.Common.{◌∙◌, w64, FitsSigned, to_z-of_z}
use Rattle.std.specs.Prelude.{pos}
use Rattle.cj_filter_tests.proofs.boxes.point_in_row.Goals as goal

pub returns : goal.returns
returns c =
    let fits : FitsSigned w64 c.along-x.result = record { sfits = c.along-x.type_inv } in
    let x = to_z-of_z fits ∙ c.along-x.ensures in
    λ i. record {
      x = record { least = x i; most = x i };
      y = record { least = pos 0; most = pos 0 };
      z = record { least = pos 0; most = pos 0 };
    }
