use Rattle.std.proofs.Common.{ℕ, ◌≤◌, arith, sym, ap, subst, ◌∙◌}
use Rattle.std.specs.Prelude.{IfSome, Option}
use Rattle.cj_hermite.specs.declared.pieces.Piece.{Piece}
use Rattle.cj_hermite.specs.Interpolant.{IsOver, curve_of}
use Rattle.cj_hermite.specs.Limits.{REACH}
use Rattle.cj_rtn.specs.declared.relative.Rtn.{Rtn}
use Rattle.cj_rtn.specs.declared.state.State.{State}
use Rattle.cj_rtn.specs.Exact.{IsNearlyAt}
use Rattle.cj_rtn.specs.Relative.{relative_of}
use Rattle.cj_rtn.specs.States.{state_at}
use Rattle.cj_rtn.specs.Vectors.{IsEachWithin}
use Rattle.cj_rtn.proofs.ExactLemmas.{relative_near}
use Rattle.cj_rtn.proofs.relating.rtn.Goals as goal

over : (p : Piece) (m : ℕ) → p.t0.micros ≤ m → m ≤ p.t1.micros → IsOver (curve_of p) m m
over p m from to = let up = p.ordered in record { some = omega arith; from = from; to = omega arith }

pub returns-clause-law : goal.returns-clause-law
returns-clause-law c within =
    let a = c.args.a.now in
    let b = c.args.b.now in
    let m = c.args.at.micros in
    let same =
    c.relative.ensures
    ∙ ap (λ (s : State). relative_of s c.state_at-2.result) c.state_at.ensures.value
    ∙ ap (λ (s : State). relative_of (state_at (curve_of a) m) s) c.state_at-2.ensures.value in
    subst (λ (o : Option Rtn). IfSome o (IsNearlyAt (curve_of a) (curve_of b) m)) (sym same)
    (relative_near (curve_of a) (curve_of b) m (over a m c.requires.a_after c.requires.a_before) (over b m c.requires.b_after c.requires.b_before)
    (subst (λ (s : State). IsEachWithin REACH s.place) c.state_at.ensures.value c.state_at.ensures.within) within)
