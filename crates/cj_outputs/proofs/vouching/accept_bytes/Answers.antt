use Rattle.std.proofs.Common.{◌≡◌, ◌∙◌, ◌≤◌, List, length, map, ap, sym, subst, arith}
use Rattle.std.specs.Prelude.{All}
use Rattle.std.proofs.lemmas.List.{length-map}
use Rattle.cj_case.specs.Problems.{plain_problem}
use Rattle.cj_case.specs.declared.leaf.Leaf.{Leaf}
use Rattle.cj_case.specs.Leaves.{PlainLeaf, plain_leaf, plain_leaves}
use Rattle.cj_case.specs.Order.{AreInOrder}
use Rattle.cj_meet.specs.Closest.{HasNearest, KeepTheirPieces}
use Rattle.cj_meet.specs.Encounters.{encounters_of}
use Rattle.cj_meet.specs.Spans.{HaveExactSpans}
use Rattle.cj_cert.specs.Certificates.{plain_cell_line}
use Rattle.cj_outputs.specs.Outcome.{report_bytes}
use Rattle.cj_outputs.proofs.VouchLemmas.{report_judged}
use Rattle.cj_outputs.proofs.vouching.accept_bytes.Goals as goal

pub report_due-requires-clause-few : goal.report_due-requires-clause-few
report_due-requires-clause-few g c = λ lifetimes outlive.
    let made : length (plain_leaves c.in_ok-leaves.leaves.items) ≡ length (map plain_cell_line c.args.cells.now) =
    ap (λ (ss : List PlainLeaf). length ss) c.in_ok-leaves.ensures in
    let lent : length c.deref.result.now ≡ length c.in_ok-leaves.leaves.items = ap (λ (ls : List Leaf). length ls) c.deref.ensures.value in
    let few = c.if-cells-most_cells.false in
    omega (arith, c.requires.few, length-map c.in_ok-leaves.leaves.items plain_leaf, length-map c.args.cells.now plain_cell_line)

pub report_due-requires-clause-in_order : goal.report_due-requires-clause-in_order
report_due-requires-clause-in_order g c = λ lifetimes outlive.
    subst AreInOrder (sym (ap plain_leaves c.deref.ensures.value ∙ c.in_ok-leaves.ensures)) c.requires.in_order

pub report_due-requires-clause-pieces : goal.report_due-requires-clause-pieces
report_due-requires-clause-pieces g c = λ lifetimes outlive.
    subst (KeepTheirPieces (plain_problem c.args.problem.now)) (sym (ap plain_leaves c.deref.ensures.value ∙ c.in_ok-leaves.ensures)) c.requires.pieces

pub returns : goal.returns
returns g c =
    let case = plain_problem c.args.problem.now in
    let cells = map plain_cell_line c.args.cells.now in
    let due = c.in_ok-due.ensures in
    let lent : plain_leaves c.deref.result.now ≡ cells = ap plain_leaves c.deref.ensures.value ∙ c.in_ok-leaves.ensures in
    let test = c.if-cells-most_cells.false in
    let few : length cells ≤ c.args.most_cells = omega (arith, length-map c.args.cells.now plain_cell_line) in
    let all =
    report_judged c.args.most_cells c.args.tells case cells c.args.bytes.now c.deref-2.result.now c.accept_as.result few c.accept_as.ensures
    (c.deref-2.ensures.value ∙ due.text ∙ ap (report_bytes c.args.tells case) lent) c.requires.split (subst HaveExactSpans lent due.spans)
    (subst (λ (ss : List PlainLeaf). All (HasNearest case) (encounters_of ss)) lent due.nearest) in
    record { between = all.between; read = all.read; told = all.told; holds = all.holds }
