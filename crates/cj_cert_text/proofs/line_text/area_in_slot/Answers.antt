use Rattle.std.proofs.Common.{FitsSigned, get_or, pos, rules, subst, sym, to_z-of_z}
use Rattle.std.specs.Int.{w128}
use Rattle.cj_cert_text.specs.Readers.{Tells, plain_line}
use Rattle.cj_cert_text.proofs.BoxLemmas.{one_slot}
use Rattle.cj_cert_text.proofs.line_text.area_in_slot.Goals as goal

pub returns : goal.returns
returns c =
    let number : FitsSigned w128 (get_or c.args.numbers.now 0 (pos 0)) = search rules in
    let slot : FitsSigned w128 (get_or c.args.numbers.now 1 (pos 0)) = search rules in
    subst (Tells plain_line c.area_of.result) (sym (one_slot c.args.numbers.now c.in-len2-up.len_at_least)) (simp to_z-of_z at c.area_of.ensures)
