use Rattle.std.proofs.Common.{◌≡◌, ◌∙◌, ap, arith, ℕ, List, ◌++◌}
use Rattle.std.specs.Prelude.{codes}
use Rattle.std.specs.Fmt.{decimal}
use Rattle.std.proofs.lemmas.Result.{on_ok_weaker}
use Rattle.cj_status.specs.Faults.{shown_name}
use Rattle.cj_advice.proofs.WarningLemmas.{both_appended, count_shown, name_shown}
use Rattle.cj_advice.proofs.warnings.push_tally.Goals as goal

pub returns : goal.returns
returns c =
    let before = c.args.text.now.items in
    let name = shown_name c.args.first.now in
    let middle = codes ": " ++ (decimal c.args.count ++ codes ", first ") in
    let counted : c.extend_from_slice.new.self.items ≡ before ++ middle =
    c.in_ok-extend_from_slice.ensures.items ∙ ap (λ (t : List ℕ). before ++ t) (c.as_bytes.ensures.value ∙ c.in_ok-number.ensures.ok) in
    let shown = count_shown c.args.count (omega (arith, c.ranges.count.fits)) in
    on_ok_weaker c.push_name.result
    (λ named. both_appended before middle name _ (named ∙ ap (λ (t : List ℕ). t ++ name) counted) shown (name_shown c.args.first.now))
    c.push_name.ensures
