use Rattle.std.proofs.Common.{◌∙◌, ◌++◌, ap}
use Rattle.cj_bezier.specs.AllBoxes.{boxes_over}
use Rattle.cj_case.specs.Boxes.{plain_boxes}
use Rattle.cj_track.specs.Tracks.{plain_track}
use Rattle.cj_candidates.proofs.objects_measured.measure_object.Goals as goal

pub returns : goal.returns
returns c =
    let told = c.in_ok-shell.ensures in
    record {
      shell = told.shell;
      boxes = told.boxes ∙ ap (λ bs. plain_boxes bs ++ boxes_over (plain_track c.args.track.now) c.args.window.first.micros c.args.window.last.micros c.args.slots) c.in_ok-boxes.ensures.items;
      in_shell = told.in_shell;
      in_boxes = told.in_boxes;
    }
