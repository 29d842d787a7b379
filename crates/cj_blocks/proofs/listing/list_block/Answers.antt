use Rattle.std.proofs.Common.{◌∙◌, ◌++◌, ℕ, List, Option, Some, ap, map, option_map, subst, sym, arith}
use Rattle.cj_case.specs.Boxes.{PlainBox, plain_box, plain_rows}
use Rattle.cj_case.specs.Tables.{Table}
use Rattle.cj_case.specs.declared.axis_box.AxisBox.{AxisBox}
use Rattle.cj_blocks.specs.Blocks.{PlainBlock, listed_in}
use Rattle.cj_blocks.specs.BoxRows.{box_at}
use Rattle.cj_blocks.specs.Listed.{IsFilled, plain_block}
use Rattle.cj_blocks.proofs.FillLemmas.{is_filled}
use Rattle.cj_blocks.proofs.RowLemmas.{own_singles}
use Rattle.cj_blocks.proofs.listing.list_block.Goals as goal

pub fill-requires-clause-object : goal.fill-requires-clause-object
fill-requires-clause-object c = omega (arith, c.requires.exists, c.requires.same)

pub fill-requires-clause-within : goal.fill-requires-clause-within
fill-requires-clause-within c = let within = c.args.slots.within in omega (arith, within, c.requires.same_wide)

pub of_object-requires : goal.of_object-requires
of_object-requires c = omega (arith, c.requires.exists, c.requires.all)

pub append_singles-requires : goal.append_singles-requires
append_singles-requires c = c.of_object.ensures.len ∙ c.requires.wide

pub returns-in_ok-push-in-Some-clause-current : goal.returns-in_ok-push-in-Some-clause-current
returns-in_ok-push-in-Some-clause-current c =
    let s = c.args.slots in
    let object = c.args.object in
    let old = c.args.current.now in
    let area : Option PlainBox = Some (plain_box c.in-Some.area) in
    let within = s.within in
    let joined = sym (ap (option_map plain_box) c.in-Some.is) ∙ c.joined_box.ensures in
    subst (λ (o : Option PlainBox). IsFilled s.all object s.first s.count o old.rows c.fill.new.self.rows) joined
    (subst (λ (n : ℕ). IsFilled n object s.first s.count area old.rows c.fill.new.self.rows) c.requires.same_wide
    (subst (λ (new : Table (Option AxisBox)). IsFilled old.slots object s.first s.count area old.rows new.rows) (sym c.fill.ensures.value)
    (is_filled old object s.first s.count c.in-Some.area c.fill.ensures.even (omega (arith, c.requires.exists, c.requires.same)) (omega (arith, within, c.requires.same_wide)))))

pub returns-in_ok-append_singles-in-None-clause-blocks : goal.returns-in_ok-append_singles-in-None-clause-blocks
returns-in_ok-append_singles-in-None-clause-blocks c =
    let s = c.args.slots in
    let object = c.args.object in
    let own = box_at (plain_rows c.args.boxes.now.rows) in
    let before = map plain_block c.args.blocks.now.items in
    let none = sym (ap (option_map plain_box) c.in-None.is) ∙ c.joined_box.ensures in
    c.in_ok-append_singles-in-None.ensures
    ∙ ap (λ (bs : List PlainBlock). before ++ bs) (own_singles c.args.boxes.now.rows object c.of_object.result.now s.first s.count c.of_object.ensures.row)
    ∙ ap (λ (o : Option PlainBox). before ++ listed_in own object s.first s.count o) none
