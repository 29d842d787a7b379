use Rattle.std.proofs.Common.{FitsSigned, ap, rules, to_z-of_z, ◌≡◌, ◌∙◌, ℕ, ◌<◌, ◌≤◌, ◌++◌, [], ◌∷◌, length, max, sym, subst, arith, below_more}
use Rattle.std.specs.Int.{w128}
use Rattle.std.specs.List.{Contains}
use Rattle.std.proofs.lemmas.List.Elements.{All-push, Contains-append_left, Contains-push}
use Rattle.cj_checker.specs.declared.reach.Reach.{Reach}
use Rattle.cj_checker.specs.Sweeps.{moved, stripe_in}
use Rattle.cj_checker.proofs.stripes.enter_in_stripes.Goals as goal

pub loop-stripe-init : goal.loop-stripe-init
loop-stripe-init c = record {
  exist = λ problem lt are. are;
  kept = λ reach has. has;
  entered = λ k lt low. absurd (omega (arith, lt, low));
}

pub loop-stripe-preserved : goal.loop-stripe-preserved
loop-stripe-preserved c =
    let i = c.loop-stripe.invariant in
    let old = c.loop-stripe.reaches.items in
    let own = c.args.own.now in
    record {
      exist = λ problem lt are. rw c.in_ok-push.ensures.items (All-push (λ reach. reach.object < length problem.tracks) old _ (i.exist problem lt are) (rw c.moved.ensures lt));
      kept = λ reach has. rw c.in_ok-push.ensures.items (Contains-append_left old _ reach (i.kept reach has));
      entered = below_more (λ k. c.stripe_in-first.result ≤ k → Contains c.push.new.self.items (moved k own)) c.loop-stripe.stripe
          (λ k lt low. rw c.in_ok-push.ensures.items (Contains-append_left old _ (moved k own) (i.entered k lt low)))
          (λ low. rw c.in_ok-push.ensures.items (subst (λ (r : Reach). Contains (old ++ c.moved.result ∷ []) r) c.moved.ensures (Contains-push old c.moved.result)));
    }

pub returns-clause-exist : goal.returns-clause-exist
returns-clause-exist c = c.loop-stripe.invariant.exist

pub returns-clause-kept : goal.returns-clause-kept
returns-clause-kept c = c.loop-stripe.invariant.kept

pub returns-clause-entered : goal.returns-clause-entered
returns-clause-entered c stripe meets =
    let x = c.args.across.now in
    let low_fits : FitsSigned w128 x.low = search rules in
    let high_fits : FitsSigned w128 x.high = search rules in
    let first = c.stripe_in-first.ensures.value ∙ ap (stripe_in c.args.striped) (to_z-of_z low_fits) in
    let other = c.stripe_in-other.ensures.value ∙ ap (stripe_in c.args.striped) (to_z-of_z high_fits) in
    let last : c.max-last.result ≡ max (stripe_in c.args.striped x.high) (stripe_in c.args.striped x.low) = c.max-last.ensures ∙ (λ i. max (other i) (first i)) in
    let upto : stripe ≤ c.max-last.result = subst (λ (n : ℕ). stripe ≤ n) (sym last) meets.upto in
    c.loop-stripe.invariant.entered stripe (omega (arith, upto, c.loop-stripe-test.false)) (omega (arith, first, meets.from))
