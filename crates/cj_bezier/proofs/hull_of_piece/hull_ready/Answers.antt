use Rattle.std.proofs.Common.{◌≡◌, ℕ, ◌-◌, arith, ap, ◌∙◌, subst, sym}
use Rattle.cj_hermite.specs.Interpolant.{Four, IsOver}
use Rattle.cj_hermite.specs.Ready.{controls_ready, curve_ready}
use Rattle.cj_bezier.specs.Hulls.{Ends, PlainHull, Encloses, hull_ends, hull_axes}
use Rattle.cj_bezier.proofs.BoxLemmas.{axes_same}
use Rattle.cj_bezier.proofs.HullLemmas.{encloses}
use Rattle.cj_bezier.proofs.hull_of_piece.hull_ready.Goals as goal

along : (e : Ends) (k k' : Four) (t t' a a' b b' : ℕ) → k ≡ k' → t ≡ t' → a ≡ a' → b ≡ b' → e ≡ hull_ends k t a b → e ≡ hull_ends k' t' a' b'
along e k k' t t' a a' b b' ek et ea eb h =
    h
    ∙ ap (λ (x : Four). hull_ends x t a b) ek
    ∙ ap (λ (x : ℕ). hull_ends k' x a b) et
    ∙ ap (λ (x : ℕ). hull_ends k' t' x b) ea
    ∙ ap (λ (x : ℕ). hull_ends k' t' a' x) eb

pub returns-clause-value : goal.returns-clause-value
unfolding hull_axes
returns-clause-value c =
    let r = c.args.ready.now in
    let et : c.fraction-from.result.of ≡ r.divisor.of = omega arith in
    let ea : c.fraction-from.result.at ≡ c.args.first.micros - r.start.micros = omega arith in
    let eb : c.fraction-to.result.at ≡ c.args.last.micros - r.start.micros = omega arith in
    c.points.ensures.value
    ∙ axes_same _ _
    (along _ _ (curve_ready r).x _ _ _ _ _ _ (ap (controls_ready r.x) et) et ea eb c.hull_axis.ensures.value)
    (along _ _ (curve_ready r).y _ _ _ _ _ _ (ap (controls_ready r.y) et) et ea eb c.hull_axis-2.ensures.value)
    (along _ _ (curve_ready r).z _ _ _ _ _ _ (ap (controls_ready r.z) et) et ea eb c.hull_axis-3.ensures.value)

pub returns-clause-encloses : goal.returns-clause-encloses
returns-clause-encloses c m p q =
    let r = c.args.ready.now in
    let over : IsOver (curve_ready r) c.args.first.micros c.args.last.micros = record { some = r.divisor.some; from = c.requires.after; to = c.requires.before } in
    subst (λ (h : PlainHull). Encloses h (curve_ready r) m) (sym (returns-clause-value c)) (encloses (curve_ready r) c.args.first.micros m c.args.last.micros over p q)

pub points-requires : goal.points-requires
points-requires c = record {
  x_within = c.hull_axis.ensures.within;
  y_within = c.hull_axis-2.ensures.within;
  z_within = c.hull_axis-3.ensures.within;
  x_narrow = c.hull_axis.ensures.narrow;
  y_narrow = c.hull_axis-2.ensures.narrow;
  z_narrow = c.hull_axis-3.ensures.narrow;
}

pub returns-clause-within : goal.returns-clause-within
returns-clause-within c = c.points.ensures.within

pub returns-clause-narrow : goal.returns-clause-narrow
returns-clause-narrow c = c.points.ensures.narrow
