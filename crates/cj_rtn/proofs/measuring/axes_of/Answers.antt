use Rattle.std.proofs.Common.{◌≡◌, ◌<◌, true, arith, rules, sym, ap, subst, ◌∙◌}
use Rattle.cj_rtn.specs.declared.vector.Vector.{Vector}
use Rattle.cj_rtn.specs.Axes.{normal, is_long}
use Rattle.cj_rtn.specs.Vectors.{size}
use Rattle.cj_rtn.proofs.AxisLemmas.{HasAxes, place_ge, normal_ge, transverse_ge}
use Rattle.cj_rtn.proofs.ExactLemmas.{long_square}
use Rattle.cj_rtn.proofs.SizeLemmas.{each_more}
use Rattle.cj_rtn.proofs.measuring.axes_of.Goals as goal

pub returns-clause-long : goal.returns-clause-long
returns-clause-long c =
    let s = c.args.state.now in
    let long : is_long s.place ≡ true = sym c.is_long.ensures ∙ (search rules) in
    let turning : is_long (normal s) ≡ true = sym (c.is_long-else-not-is_long.ensures ∙ ap is_long c.normal-normal.ensures.value) ∙ (search rules) in
    let has : HasAxes s = record { place = c.requires.place; rate = c.requires.rate; far = long_square s.place long; turning = long_square (normal s) turning } in
    let across = c.transverse-transverse.ensures in
    record {
      radial = record { some = omega (arith, place_ge s has); within = each_more _ _ s.place (omega arith) c.requires.place };
      transverse = record { some = subst (λ (a : Vector). 0 < size a) (sym across.value) (omega (arith, transverse_ge s has)); within = across.within };
      normal = record {
        some = subst (λ (a : Vector). 0 < size a) (sym c.normal-normal.ensures.value) (omega (arith, normal_ge s has));
        within = each_more _ _ c.normal-normal.result (omega arith) c.normal-normal.ensures.within;
      };
    }
