use Rattle.std.proofs.Common.{◌≡◌, ℕ, ◌*◌, Bool, length, rules, ap, ◌∙◌}
use Rattle.std.proofs.lemmas.Iterator.{YieldsList-from_slice, YieldsList-from_zip}
use Rattle.std.proofs.lemmas.Iterator.Search.{all_from_yields_List}
use Rattle.std.specs.List.{list_all, zip}
use Rattle.std.specs.Prelude.{pos, int_lt}
use borrow.Author.Tests.{tests}
use Rattle.cj_interval.specs.declared.span.Span.{Span}
use Rattle.cj_bezier.proofs.TestLemmas.{CHOOSE6, zipped_above}
use Rattle.cj_bezier.proofs.verdict_of_gap.are_above.Goals as goal

pub returns : goal.returns
returns c =
    let test : ℕ → Span × ℕ → Bool = λ (square : ℕ) (p : Span × ℕ). int_lt (pos (p.1 * square)) p.0.lo in
    let chosen : c.zip.result.b.rest.now ≡ CHOOSE6 = c.zip.ensures.second.0 in
    let seven : length c.args.terms.now ≡ 7 = search rules in
    all_from_yields_List (test c.squared-square.result) c.all.new.self _ c.all.result c.all.ensures.ran
    (YieldsList-from_zip (YieldsList-from_slice c.args.terms.now cc) (YieldsList-from_slice CHOOSE6 chosen)) (λ x b q k. search (rules, tests))
    ∙ ap (λ (square : ℕ). list_all (test square) (zip c.args.terms.now CHOOSE6)) c.squared-square.ensures.value
    ∙ zipped_above c.args.terms.now c.args.e seven
