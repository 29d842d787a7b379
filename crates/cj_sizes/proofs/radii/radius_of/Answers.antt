use Rattle.std.proofs.Common.{rules, tests, option_map, bytes_eq, ap, ◌∙◌, sym}
use Rattle.std.proofs.lemmas.Iterator.{YieldsList-from_slice}
use Rattle.std.proofs.lemmas.Iterator.Search.{find_from_yields_List}
use Rattle.cj_sizes.specs.declared.size_line.SizeLine.{SizeLine}
use Rattle.cj_sizes.proofs.RadiusLemmas.{radius_found, radius_of_first}
use Rattle.cj_sizes.proofs.radii.radius_of.Goals as goal

pub returns-in-None-clause-value : goal.returns-in-None-clause-value
returns-in-None-clause-value c =
    let found = find_from_yields_List (λ (line : SizeLine). bytes_eq line.id c.args.id.now) _ _ c.find.result c.find.ensures.ran (YieldsList-from_slice c.args.lines.now cc) (λ x b q k. search (rules, tests)) in
    ap (λ r. radius_found (option_map (λ l. l.now) r)) (sym c.in-None.is) ∙ ap radius_found found ∙ radius_of_first c.args.lines.now c.args.id.now

pub returns-in-Some-clause-value : goal.returns-in-Some-clause-value
returns-in-Some-clause-value c =
    let found = find_from_yields_List (λ (line : SizeLine). bytes_eq line.id c.args.id.now) _ _ c.find.result c.find.ensures.ran (YieldsList-from_slice c.args.lines.now cc) (λ x b q k. search (rules, tests)) in
    ap (λ r. radius_found (option_map (λ l. l.now) r)) (sym c.in-Some.is) ∙ ap radius_found found ∙ radius_of_first c.args.lines.now c.args.id.now
