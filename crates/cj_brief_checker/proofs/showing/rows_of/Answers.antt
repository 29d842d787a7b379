use Rattle.std.proofs.Common.{◌≡◌, ◌∙◌, Ok, ap, arith, get_or, length, subst, sym}
use Rattle.std.specs.Prelude.{IfOk}
use Rattle.std.proofs.lemmas.List.{get_or-map, length-map}
use Rattle.cj_case.specs.Problems.{plain_problem}
use Rattle.cj_checker.specs.Rows.{plain_row, row_at}
use Rattle.cj_brief_checker.proofs.ShownLemmas.{rows_are}
use Rattle.cj_brief_checker.proofs.showing.rows_of.Goals as goal

pub returns : goal.returns
returns g c =
    let case = plain_problem c.args.problem.now in
    let lines = c.args.lines.now in
    let n = c.args.slots in
    let found = c.in_ok-made.made in
    let same = c.in_ok-made.ensures in
    let done = c.in_ok-rows.ensures in
    let many : length found.items ≡ length lines = sym (length-map found.items Ok) ∙ ap length same ∙ sym c.in_ok-rows.rows.ok.0 ∙ done.len in
    rows_are case n lines found.items many (λ k d l lt.
    let is = ap (λ rs. get_or rs k (Ok d)) (sym same) ∙ get_or-map Ok found.items k d (Ok d) (omega (arith, many, lt)) in
    subst (λ r. IfOk r (λ row. plain_row row ≡ row_at case n k (get_or lines k l))) is ((done.each k (Ok d) lt).1.met l))
