use Rattle.std.proofs.Common.{FitsSigned, ap, get_or, pos, rules, subst, sym, to_z-of_z, ◌∙◌}
use Rattle.std.specs.Int.{w128}
use Rattle.cj_cert_text.specs.Lines.{cell}
use Rattle.cj_cert_text.specs.Readers.{Tells, plain_line}
use Rattle.cj_cert_text.proofs.BoxLemmas.{four_numbers}
use Rattle.cj_cert_text.proofs.line_text.cell.Goals as goal

pub returns : goal.returns
returns c =
    let ns = c.args.numbers.now in
    let a : FitsSigned w128 (get_or ns 0 (pos 0)) = search rules in
    let b : FitsSigned w128 (get_or ns 1 (pos 0)) = search rules in
    let first : FitsSigned w128 (get_or ns 2 (pos 0)) = search rules in
    let last : FitsSigned w128 (get_or ns 3 (pos 0)) = search rules in
    subst (Tells plain_line c.cell_of.result)
    (sym (ap (cell c.args.format ns) (sym c.in-Some.ensures) ∙ four_numbers c.args.format ns _ c.in-len4.len_at_least c.in-len4.len_below))
    (simp to_z-of_z at c.cell_of.ensures)
