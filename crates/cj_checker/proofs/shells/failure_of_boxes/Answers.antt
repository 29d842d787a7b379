use Rattle.std.proofs.Common.{◌∙◌, [], map, refl, sym, arith}
use Rattle.std.proofs.lemmas.List.{length-map}
use Rattle.cj_cert.specs.Certificates.{plain_box_line}
use Rattle.cj_checker.proofs.ReadLemmas.{next_fails, line_left, none_left}
use Rattle.cj_checker.proofs.UnfitLemmas.{read_past}
use Rattle.cj_checker.proofs.shells.failure_of_boxes.Goals.{then-read-via-then-read, then-read-via-else-read+then-read-lines}
use Rattle.cj_checker.proofs.shells.failure_of_boxes.Goals as goal

pub returns-then-read : goal.returns-then-read
returns-then-read c case =
    let boxes = map plain_box_line c.args.lines.now in
    let count = length-map c.args.lines.now plain_box_line in
    elim c.then-read.branch [
      | then-read-via-then-read w ↦ c.failed.ensures ∙ sym (next_fails case c.args.first [] boxes c.args.read w.if-read.true)
      | then-read-via-else-read+then-read-lines w ↦ c.failed.ensures ∙ sym (line_left case c.args.first boxes c.args.read w.if-read.false (omega (arith, count, w.if-read-lines.true)))
    ]

pub returns : goal.returns
returns c case =
    let lines = c.args.lines.now in
    sym (none_left case c.args.first (map plain_box_line lines) c.args.read c.if-read.false (read_past plain_box_line lines lines c.args.read.passed refl c.if-read-lines.false))
