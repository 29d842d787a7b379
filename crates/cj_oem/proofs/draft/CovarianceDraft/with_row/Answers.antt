use Rattle.std.proofs.Common.{◌≡◌, ◌+◌, ◌≤◌, List, length, map, true, false, Ok, arith, rules, ap, refl, sym, ◌∙◌}
use Rattle.std.specs.Prelude.{◌==◌, ◌||◌, not}
use Rattle.std.proofs.lemmas.Bool.Decides.{nat_tests}
use Rattle.cj_base.specs.Numbers.{Number}
use Rattle.cj_base.specs.Decimals.{number_of}
use Rattle.cj_kvn.specs.Fields.{fields}
use Rattle.cj_kvn.specs.Ranges.{text_at}
use Rattle.cj_oem.specs.Drafts.{draft_of}
use Rattle.cj_oem.proofs.DraftLemmas.{row_added, row_kept, row_written}
use Rattle.cj_oem.proofs.draft.CovarianceDraft.with_row.Goals as goal

pub returns : goal.returns
returns c =
    let d = c.args.self in
    let row = fields (text_at c.args.bytes.now c.args.text) in
    let written = c.read_numbers.new.places in
    let one_more : length written ≡ d.rows + 1 = omega (arith, c.read_numbers.auto.places) in
    let all : length d.values ≡ 21 = search (rules, c.type_inv) in
    let few : d.rows ≤ 5 = omega (arith, d.few, c.if-self-eq6.false) in
    let not_six : (d.rows == 6) ≡ false = grind (arith, nat_tests) in
    let right : (length row == d.rows + 1) ≡ true = sym c.has_fields.ensures ∙ c.if-not-has_fields.false in
    let form : ((d.rows == 6) || not (length row == d.rows + 1)) ≡ false = rw (not_six, right) refl in
    row_added (draft_of d) row (map number_of written) form c.in_ok-read_numbers.ensures.value
    ∙ ap (λ (values : List Number). Ok (record (draft_of d) { rows = d.rows + 1; values = values })) (sym (row_written d.rows _ d.values written few all one_more))

pub invariant_of-result-clause-few : goal.invariant_of-result-clause-few
invariant_of-result-clause-few c = omega (arith, c.args.self.few, c.if-self-eq6.false)

pub invariant_of-result-clause-readable : goal.invariant_of-result-clause-readable
invariant_of-result-clause-readable c = row_kept _ _ c.args.self.values c.read_numbers.new.places c.args.self.readable c.in_ok-read_numbers.ensures.readable
