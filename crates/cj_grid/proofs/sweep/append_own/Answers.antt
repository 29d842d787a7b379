use Rattle.std.proofs.Common.{List, inl, inr, sym, subst}
use Rattle.std.specs.List.{Contains}
use Rattle.cj_grid.specs.declared.reach.Reach.{Reach}
use Rattle.cj_grid.proofs.sweep.append_own.Goals as goal

pub returns-clause-touching : goal.returns-clause-touching
returns-clause-touching g c = λ all. c.in_ok-append_met-2.ensures.touching (c.in_ok-append_met.ensures.touching all)

pub returns-clause-kept : goal.returns-clause-kept
returns-clause-kept g c = λ a b has. c.in_ok-append_met-2.ensures.kept a b (c.in_ok-append_met.ensures.kept a b has)

pub returns-clause-found : goal.returns-clause-found
returns-clause-found g c = λ other met a b up both touch.
    elim met.there [
      | inl there ↦
          c.in_ok-append_met-2.ensures.kept a b (c.in_ok-append_met.ensures.found other
          (c.begun_within-wide.ensures.kept other (subst (λ (rs : List Reach). Contains rs other) (sym c.deref.ensures.value) there.0) there.1 met.before)
          a b up both touch)
      | inr there ↦
          c.in_ok-append_met-2.ensures.found other
          (c.begun_about-others.ensures.kept other (subst (λ (rs : List Reach). Contains rs other) (sym c.deref-2.ensures.value) there.0) there.1 met.before)
          a b up both touch
    ]
