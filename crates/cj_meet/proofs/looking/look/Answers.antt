use Rattle.std.proofs.Common.{◌≡◌, refl, sym, ap, subst, ◌∙◌, inl, inr}
use Rattle.cj_hermite.specs.Ready.{curve_ready}
use Rattle.cj_bezier.specs.Gaps.{gap_terms, hull_gap}
use Rattle.cj_bezier.specs.Squares.{least_square}
use Rattle.cj_meet.specs.Closest.{approach_at}
use Rattle.cj_meet.specs.Flat.{is_flat}
use Rattle.cj_meet.specs.Searches.{plain_approach}
use Rattle.cj_meet.proofs.EndLemmas.{open_run-two}
use Rattle.cj_meet.proofs.NearerLemmas.{IsTaken, NoWorse-refl, taken}
use Rattle.cj_meet.proofs.SearchLemmas.{left_out}
use Rattle.cj_meet.proofs.looking.look.Goals as goal
use Rattle.cj_meet.proofs.looking.look.Goals.{After-is_flat}

-- what was found with both ends
found : (c : After-is_flat) → let x = curve_ready c.args.a.now in let y = curve_ready c.args.b.now in let run = c.args.part in
    IsTaken (plain_approach c.args.best) (approach_at x y run.first.micros) (approach_at x y run.last.micros) (plain_approach c.nearer-found.result)
found c =
    let x = curve_ready c.args.a.now in
    let y = curve_ready c.args.b.now in
    let run = c.args.part in
    let ends = c.ends.ensures x y c.gap_over-gap.ensures in
    subst (λ q. IsTaken (plain_approach c.args.best) (approach_at x y run.first.micros) q (plain_approach c.nearer-found.result)) ends.1
    (subst (λ q. IsTaken (plain_approach c.args.best) q (plain_approach c.ends.result.1) (plain_approach c.nearer-found.result)) ends.0
    (taken (plain_approach c.args.best) (plain_approach c.ends.result.0) (plain_approach c.ends.result.1) (plain_approach c.nearer.result) (plain_approach c.nearer-found.result) c.nearer.ensures c.nearer-found.ensures))

-- whether the part is flat
flat : (c : After-is_flat) → is_flat (gap_terms (hull_gap (curve_ready c.args.a.now) (curve_ready c.args.b.now) c.args.part.first.micros c.args.part.last.micros)) ≡ c.is_flat.result
flat c = ap is_flat (sym c.gap_over-gap.ensures) ∙ sym c.is_flat.ensures

pub returns-then-can_be_left_out-clause-settled : goal.returns-then-can_be_left_out-clause-settled
returns-then-can_be_left_out-clause-settled c =
    record {
      no_worse = NoWorse-refl (plain_approach c.args.best);
      one_of = inl refl;
      done = inl (left_out (curve_ready c.args.a.now) (curve_ready c.args.b.now) c.args.part c.args.best c.least_square-low.result c.requires.first_over c.requires.second_over
          (c.least_square-low.ensures.value ∙ ap least_square c.gap_over-gap.ensures) (sym c.can_be_left_out.ensures ∙ c.if-can_be_left_out.true));
    }

pub returns-then-is_flat-clause-settled : goal.returns-then-is_flat-clause-settled
returns-then-is_flat-clause-settled c =
    let at = (goal.at.returns-then-is_flat-clause-settled c).After-is_flat in
    let is = found at in
    record {
      no_worse = is.no_worse;
      one_of = is.one_of;
      done = inr (record { flat = flat at ∙ c.if-is_flat.true; first = is.first_no_worse; last = is.last_no_worse });
    }

pub halves-requires : goal.halves-requires
halves-requires c =
    let at = (goal.at.halves-requires c).After-is_flat in
    open_run-two (curve_ready c.args.a.now) (curve_ready c.args.b.now) c.args.part.first.micros c.args.part.last.micros c.args.part.some c.requires.first_over c.requires.second_over
    (flat at ∙ c.if-is_flat.false)

pub returns-clause-halved : goal.returns-clause-halved
returns-clause-halved c =
    let at = (goal.at.returns-clause-halved c).After-is_flat in
    let is = found at in
    record { no_worse = is.no_worse; one_of = is.one_of; open_run = flat at ∙ c.if-is_flat.false; halves = c.halves.ensures }
