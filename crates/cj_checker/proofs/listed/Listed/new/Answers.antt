use Rattle.std.proofs.Common.{◌≡◌, ◌∙◌, ◌-◌, ℕ, List, length, map, refl, sym, ap, subst, arith}
use Rattle.std.proofs.lemmas.List.{length-map}
use Rattle.std.proofs.lemmas.Option.{slice_get_read}
use Rattle.cj_track.specs.declared.track.Track.{Track}
use Rattle.cj_track.specs.Tracks.{plain_track}
use Rattle.cj_case.specs.Problems.{plain_problem}
use Rattle.cj_case.specs.Slots.{slot_count}
use Rattle.cj_case.specs.Tables.{Table, even_table}
use Rattle.cj_cert.specs.declared.cert_lines.BoxLine.{BoxLine}
use Rattle.cj_cert.specs.Accepted.{AreBoxes}
use Rattle.cj_cert.specs.Certificates.{plain_box_line, plain_certificate}
use Rattle.cj_cert.specs.Listed.{box_listed}
use Rattle.cj_checker.proofs.FirstLemmas.{box_law}
use Rattle.cj_checker.proofs.TableLemmas.{IsTableFrom, no_lines, line_entered, line_is_in, table_is}
use Rattle.cj_checker.proofs.listed.Listed.new.Goals as goal

pub loop-number-init : goal.loop-number-init
loop-number-init c =
    let problem = c.args.problem.now in
    let lines = c.as_slice-boxes.result.now in
    let slots = slot_count problem.window.first.micros problem.window.last.micros in
    let many : length c.as_slice.result.now ≡ length problem.tracks = ap (λ (ts : List Track). length ts) c.as_slice.ensures.value in
    record {
      within = omega arith;
      table = no_lines lines slots (length problem.tracks) c.in_ok-numbers.numbers
          (c.in_ok-numbers.ensures ∙ ap (λ (n : ℕ). let t : Table ℕ = even_table n c.slot_count.result 0 in t) many ∙ ap (λ (n : ℕ). let t : Table ℕ = even_table (length problem.tracks) n 0 in t) c.slot_count.ensures);
    }

pub enter-requires-clause-some : goal.enter-requires-clause-some
enter-requires-clause-some c =
    let case = plain_problem c.args.problem.now in
    let boxes = c.args.cert.now.boxes.items in
    let are = (box_law case (plain_certificate c.args.cert.now)).0 c.requires.accepted in
    let is = line_is_in case boxes c.as_slice-boxes.result.now (c.loop-number.number - 1) c.index-boxes-number.result are c.as_slice-boxes.ensures.value (omega arith) c.index-boxes-number.is in
    is.some

pub enter-requires-clause-slots : goal.enter-requires-clause-slots
enter-requires-clause-slots c =
    let case = plain_problem c.args.problem.now in
    let boxes = c.args.cert.now.boxes.items in
    let are = (box_law case (plain_certificate c.args.cert.now)).0 c.requires.accepted in
    let is = line_is_in case boxes c.as_slice-boxes.result.now (c.loop-number.number - 1) c.index-boxes-number.result are c.as_slice-boxes.ensures.value (omega arith) c.index-boxes-number.is in
    omega (arith, is.within, c.loop-number.invariant.table.wide)

pub enter-requires-clause-few : goal.enter-requires-clause-few
enter-requires-clause-few c = omega (arith, c.loop-number.invariant.table.wide, c.slot_count.ensures, c.slot_count.type_inv)

pub enter-requires-clause-objects : goal.enter-requires-clause-objects
enter-requires-clause-objects c =
    let case = plain_problem c.args.problem.now in
    let boxes = c.args.cert.now.boxes.items in
    let are = (box_law case (plain_certificate c.args.cert.now)).0 c.requires.accepted in
    let is = line_is_in case boxes c.as_slice-boxes.result.now (c.loop-number.number - 1) c.index-boxes-number.result are c.as_slice-boxes.ensures.value (omega arith) c.index-boxes-number.is in
    omega (arith, is.there, length-map c.args.problem.now.tracks plain_track, c.loop-number.invariant.table.many)

pub loop-number-preserved : goal.loop-number-preserved
loop-number-preserved c =
    let problem = c.args.problem.now in
    let slots = slot_count problem.window.first.micros problem.window.last.micros in
    let number = c.loop-number.number in
    let lines = c.as_slice-boxes.result.now in
    let line = c.index-boxes-number.result in
    let told = c.enter.ensures in
    let is = slice_get_read lines (length lines) (number - 1) line refl (omega arith) c.index-boxes-number.is in
    record {
      within = omega (arith, c.loop-number.invariant.within);
      table = line_entered lines slots (length problem.tracks) number line c.loop-number.numbers c.enter.new.numbers c.loop-number-test.true is told.even told.objects told.slots told.entered
          c.loop-number.invariant.table;
    }

pub returns : goal.returns
returns c =
    let case = plain_problem c.args.problem.now in
    let tracks = c.args.problem.now.tracks in
    let lines = c.as_slice-boxes.result.now in
    let value = c.as_slice-boxes.ensures.value in
    let slots = slot_count case.first case.last in
    let numbers = c.loop-number.numbers in
    let are = (box_law case (plain_certificate c.args.cert.now)).0 c.requires.accepted in
    let zero : c.loop-number.number ≡ 0 = omega arith in
    let table = subst (λ (n : ℕ). IsTableFrom lines slots n 0 numbers) (sym (length-map tracks plain_track))
    (subst (λ (k : ℕ). IsTableFrom lines slots (length tracks) k numbers) zero c.loop-number.invariant.table) in
    table_is case lines numbers (subst (λ (ls : List BoxLine). AreBoxes case (map plain_box_line ls)) (sym value) are) table
    ∙ ap (λ (ls : List BoxLine). box_listed (map plain_box_line ls)) value
