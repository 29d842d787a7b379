use Rattle.std.proofs.Common.{Some, ap, ◌∙◌, sym, subst}
use Rattle.cj_hermite.specs.Interpolant.{Curve, IsOver}
use Rattle.cj_slabs.proofs.cutting.cut_of.Goals as goal

pub returns : goal.returns
returns c = λ case whole is. record {
  whole = whole;
  curve = is ∙ ap (λ (k : Curve). Some k) (sym c.ready-made.ensures);
  over = subst (λ (k : Curve). IsOver k c.args.first.micros c.args.last.micros) (sym c.ready-made.ensures) c.requires.over;
  hull = c.hull_ready.ensures.value;
}
