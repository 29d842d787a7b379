use Rattle.std.proofs.Common.{◌≡◌, ℕ, ◌+◌, ◌++◌, ◌∙◌, ◌≤◌, [], ◌∷◌, drop, length, map, ap, refl, sym, subst, arith, length-append}
use Rattle.std.specs.Prelude.{option_map}
use Rattle.std.specs.Vec.Iter.{into_iter_items}
use Rattle.std.proofs.lemmas.List.{length-map, map-append, nil_from_length}
use Rattle.cj_track.specs.Tracks.{plain_track}
use Rattle.cj_case.specs.Problems.{plain_problem}
use Rattle.cj_case.specs.Tables.{Table}
use Rattle.cj_case.specs.Boxes.{plain_box, plain_boxes, plain_rows}
use Rattle.cj_formats.specs.declared.check_cause.CheckCause.TheVariants.{ShellOf}
use Rattle.cj_bezier.specs.AllBoxes.{boxes_of}
use Rattle.cj_checker.specs.First.{failed}
use Rattle.cj_checker.specs.Rows.{plain_row}
use Rattle.cj_brief_checker.proofs.ShownLemmas.{AreLeft, all_fit, all_left, boxes_grow, boxes_whole, one_fails, one_more, row_long, too_few}
use Rattle.cj_brief_checker.proofs.showing.in_one.Goals as goal

pub loop-found-init : goal.loop-found-init
loop-found-init c =
    let case = plain_problem c.args.problem.now in
    let gives = c.into_iter-found-iterator.ensures.into_iter_gives in
    let items = into_iter_items c.into_iter-found-iterator.result in
    record {
      left = subst (λ (t : Table _). AreLeft case c.args.first (length t.rows) c.args._lines.now items) (sym c.new-boxes.ensures)
          (all_left case c.args.first c.args._lines.now items (ap (map plain_row) gives.0 ∙ c.requires.rows));
      boxes = subst (λ (t : Table _). plain_rows t.rows ++ drop (length t.rows) (boxes_of case) ≡ boxes_of case) (sym c.new-boxes.ensures) refl;
      slots = ap (λ (t : Table _). t.slots) c.new-boxes.ensures ∙ c.slot_count.ensures;
      count = let none = ap (λ (t : Table _). length t.rows) c.new-boxes.ensures in omega (arith, none);
      len = gives.1 ∙ c.args.rows.ok.0 ∙ sym (ap length gives.0);
    }

pub push-requires : goal.push-requires
push-requires c =
    let case = plain_problem c.args.problem.now in
    let i = c.loop-found.invariant in
    let k = length c.loop-found.boxes.rows in
    let row = c.in-Some-found.row in
    let rest = into_iter_items c.next.new.self in
    let left = subst (AreLeft case c.args.first k c.args._lines.now) c.in-Some.ensures.steps.0 i.left in
    let one = one_more case c.args.first k c.args._lines.now c.in-Some.found rest (plain_boxes row.boxes.items) left (ap plain_row c.in-Some-found.is) in
    sym (length-map row.boxes.items (option_map plain_box)) ∙ row_long case k (plain_boxes row.boxes.items) one.boxes ∙ sym i.slots

pub loop-found-preserved : goal.loop-found-preserved
loop-found-preserved c =
    let case = plain_problem c.args.problem.now in
    let i = c.loop-found.invariant in
    let steps = c.in-Some.ensures.steps in
    let k = length c.loop-found.boxes.rows in
    let row = c.in-Some-found.row in
    let rest = into_iter_items c.next.new.self in
    let left = subst (AreLeft case c.args.first k c.args._lines.now) steps.0 i.left in
    let one = one_more case c.args.first k c.args._lines.now c.in-Some.found rest (plain_boxes row.boxes.items) left (ap plain_row c.in-Some-found.is) in
    let rows = ap (λ (t : Table _). t.rows) c.in_ok-push.ensures in
    let more : length c.push.new.self.rows ≡ k + 1 = ap length rows ∙ length-append c.loop-found.boxes.rows (row.boxes.items ∷ []) in
    record {
      left = subst (λ (n : ℕ). AreLeft case c.args.first n c.args._lines.now rest) (sym more) one.left;
      boxes = (λ j. plain_rows (rows j) ++ drop (more j) (boxes_of case))
          ∙ (ap (λ bs. bs ++ drop (k + 1) (boxes_of case)) (map-append plain_boxes c.loop-found.boxes.rows (row.boxes.items ∷ []))
          ∙ boxes_grow (boxes_of case) (plain_rows c.loop-found.boxes.rows) k (plain_boxes row.boxes.items) i.boxes one.boxes);
      slots = ap (λ (t : Table _). t.slots) c.in_ok-push.ensures ∙ i.slots;
      count = omega (arith, i.count, more, ap length steps.0);
      len = omega (arith, i.len, steps.1, ap length steps.0);
    }

-- a row that is missing
pub unfit-requires : goal.unfit-requires
unfit-requires c =
    let i = c.loop-found.invariant in
    let gives = c.into_iter-found-iterator.ensures.into_iter_gives in
    omega (arith, c.requires.few, i.count, ap length c.in-Some.ensures.steps.0, ap length gives.0, c.objects.ensures.value)

pub returns-in_default : goal.returns-in_default
returns-in_default c =
    let case = plain_problem c.args.problem.now in
    let i = c.loop-found.invariant in
    let k = length c.loop-found.boxes.rows in
    let rest = into_iter_items c.next.new.self in
    let left = subst (AreLeft case c.args.first k c.args._lines.now) c.in-Some.ensures.steps.0 i.left in
    one_fails case c.args.first k c.args._lines.now c.in-Some.found rest left (ap plain_row c.in_default.is)
    ∙ (ap (λ (n : ℕ). failed (c.args.first + n) ShellOf) (sym c.objects.ensures.value) ∙ sym c.unfit.ensures)

-- no row is left
pub returns-then-count-as_slice : goal.returns-then-count-as_slice
returns-then-count-as_slice c =
    let case = plain_problem c.args.problem.now in
    let i = c.loop-found.invariant in
    let k = length c.loop-found.boxes.rows in
    let all = into_iter_items c.loop-found.found-iterator in
    let empty = nil_from_length all (omega (arith, i.len, c.in-None.ensures.steps.0)) in
    let left = subst (AreLeft case c.args.first k c.args._lines.now) empty i.left in
    let tracks = ap length c.as_slice.ensures.value in
    let objects = length-map c.args.problem.now.tracks plain_track in
    too_few case c.args.first k c.args._lines.now left (omega (arith, tracks, objects, c.objects-count.ensures.value, c.if-count-as_slice.true))
    ∙ (ap (λ (n : ℕ). failed (c.args.first + n) ShellOf) (sym c.objects-count.ensures.value) ∙ sym c.unfit-then-count-as_slice.ensures)

pub returns : goal.returns
returns c =
    let case = plain_problem c.args.problem.now in
    let i = c.loop-found.invariant in
    let k = length c.loop-found.boxes.rows in
    let all = into_iter_items c.loop-found.found-iterator in
    let empty = nil_from_length all (omega (arith, i.len, c.in-None.ensures.steps.0)) in
    let left = subst (AreLeft case c.args.first k c.args._lines.now) empty i.left in
    let tracks = ap length c.as_slice.ensures.value in
    let objects = length-map c.args.problem.now.tracks plain_track in
    let whole : length case.tracks ≤ k = omega (arith, tracks, objects, c.objects-count.ensures.value, c.if-count-as_slice.false) in
    (all_fit case c.args.first k c.args._lines.now left whole, record { rows = boxes_whole case (plain_rows c.loop-found.boxes.rows) k i.boxes whole; slots = i.slots })
