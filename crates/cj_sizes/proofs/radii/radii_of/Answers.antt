use Rattle.std.proofs.Common.{◌≡◌, ◌≤◌, All, map, take, length, subst, sym, ap, ◌∙◌, List, ℕ, Option, Bor, unwrap_or, arith}
use Rattle.std.proofs.lemmas.Result.{IfOk-from_err}
use Rattle.std.proofs.Math.Seq.{take-length}
use Rattle.cj_sizes.specs.Limits.{MAX_RADIUS}
use Rattle.cj_sizes.specs.Sizes.{radius_of, sizes_of}
use Rattle.cj_sizes.proofs.RadiusLemmas.{radii_more, radii_within}
use Rattle.cj_sizes.proofs.radii.radii_of.Goals as goal

pub returns-clause-within : goal.returns-clause-within
returns-clause-within c =
    let all : c.loop-id.id-index ≡ length c.args.ids.now = omega arith in
    let radii = λ (ids : List (Bor (List ℕ))). map (λ (id : Bor (List ℕ)). radius_of (sizes_of c.args.lines.now) id.now) ids in
    let whole : c.loop-id.radii.items ≡ radii c.args.ids.now = c.loop-id.invariant ∙ ap (λ (k : ℕ). radii (take k c.args.ids.now)) all ∙ ap radii (take-length c.args.ids.now) in
    subst (λ (rs : List ℕ). All (λ radius. radius ≤ MAX_RADIUS) rs) (sym whole) (radii_within c.args.lines.now c.args.ids.now)

pub loop-id-preserved : goal.loop-id-preserved
loop-id-preserved c =
    let radius = c.radius_among.ensures ∙ ap (λ (o : Option ℕ). unwrap_or o 0) (c.in_ok-given.ensures _ (c.in_ok-asked.ensures c.loop-id.id-index _ c.loop-id-test.true)) in
    radii_more c.args.lines.now c.args.ids.now c.loop-id.id-index _ c.loop-id.radii.items c.push.new.self.items c.radius_among.result c.loop-id-test.true
    c.in_ok-push.ensures.items radius c.loop-id.invariant

pub returns-in_err-given-clause-value : goal.returns-in_err-given-clause-value
returns-in_err-given-clause-value c = IfOk-from_err c.from_residual-in_err-given.result _ c.from_residual-in_err-given.ensures.0

pub returns-in_err-given-clause-within : goal.returns-in_err-given-clause-within
returns-in_err-given-clause-within c = IfOk-from_err c.from_residual-in_err-given.result _ c.from_residual-in_err-given.ensures.0

pub returns-in_err-radii-clause-value : goal.returns-in_err-radii-clause-value
returns-in_err-radii-clause-value c = IfOk-from_err c.from_residual-in_err-radii.result _ c.from_residual-in_err-radii.ensures.0

pub returns-in_err-radii-clause-within : goal.returns-in_err-radii-clause-within
returns-in_err-radii-clause-within c = IfOk-from_err c.from_residual-in_err-radii.result _ c.from_residual-in_err-radii.ensures.0

pub returns-in_err-push-clause-value : goal.returns-in_err-push-clause-value
returns-in_err-push-clause-value c = IfOk-from_err c.from_residual-in_err-push.result _ c.from_residual-in_err-push.ensures.0

pub returns-in_err-push-clause-within : goal.returns-in_err-push-clause-within
returns-in_err-push-clause-within c = IfOk-from_err c.from_residual-in_err-push.result _ c.from_residual-in_err-push.ensures.0

pub returns-in_err-asked-clause-value : goal.returns-in_err-asked-clause-value
returns-in_err-asked-clause-value c = IfOk-from_err c.from_residual.result _ c.from_residual.ensures.0

pub returns-in_err-asked-clause-within : goal.returns-in_err-asked-clause-within
returns-in_err-asked-clause-within c = IfOk-from_err c.from_residual.result _ c.from_residual.ensures.0
