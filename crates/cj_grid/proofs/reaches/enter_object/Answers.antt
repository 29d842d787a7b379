use Rattle.std.proofs.Common.{◌≡◌, ◌<◌, ◌∷◌, ◌++◌, [], List, Some, None, length, sym, subst, ◌∙◌}
use Rattle.std.specs.Prelude.{slice_index}
use Rattle.std.specs.List.{Contains}
use Rattle.std.proofs.lemmas.List.{get_or_default}
use Rattle.std.proofs.lemmas.List.Elements.{All-push, Contains-append_left, Contains-push}
use Rattle.std.proofs.lemmas.Option.{same_Some}
use Rattle.cj_case.specs.declared.axis_box.AxisBox.{AxisBox}
use Rattle.cj_case.specs.Boxes.{plain_box}
use Rattle.cj_grid.specs.declared.reach.Reach.{Reach}
use Rattle.cj_grid.specs.Sweeps.{reach_of, side}
use Rattle.cj_grid.proofs.reaches.enter_object.Goals as goal

pub returns-in_default-clause-exist : goal.returns-in_default-clause-exist
returns-in_default-clause-exist c = λ old. old

pub returns-in_default-clause-kept : goal.returns-in_default-clause-kept
returns-in_default-clause-kept c = λ reach has. has

pub returns-in_default-clause-entered : goal.returns-in_default-clause-entered
returns-in_default-clause-entered c = λ area is.
    let none : Some area ≡ None = sym is ∙ get_or_default c.args.objects.now.boxes.now c.args.object None c.index-objects-object.result c.requires.exists ∙ c.in_default.is in
    absurd cc

pub returns-clause-exist : goal.returns-clause-exist
returns-clause-exist c = λ old. rw c.in_ok-push.ensures.items (All-push (λ reach. reach.object < length c.args.objects.now.boxes.now) c.args.reaches.now.items _ old (rw c.reach_along.ensures c.requires.exists))

pub returns-clause-kept : goal.returns-clause-kept
returns-clause-kept c = λ reach has. rw c.in_ok-push.ensures.items (Contains-append_left c.args.reaches.now.items _ reach has)

pub returns-clause-entered : goal.returns-clause-entered
returns-clause-entered c = λ area is.
    let boxes = c.args.objects.now.boxes.now in
    let object = c.args.object in
    let own = c.in-Some.area in
    let same : Some own ≡ Some area = sym c.in-Some.is ∙ sym (get_or_default boxes object None c.index-objects-object.result c.requires.exists) ∙ is in
    subst (λ (a : AxisBox). Contains c.push.new.self.items (reach_of c.args.objects.now.thr (slice_index c.args.objects.now.sizes.now object) c.args.longest object (side c.args.axis (plain_box a)))) (same_Some own area same)
    (subst (λ (rs : List Reach). Contains rs (reach_of c.args.objects.now.thr (slice_index c.args.objects.now.sizes.now object) c.args.longest object (side c.args.axis (plain_box own)))) (sym c.in_ok-push.ensures.items)
    (subst (λ (r : Reach). Contains (c.args.reaches.now.items ++ c.reach_along.result ∷ []) r) c.reach_along.ensures (Contains-push c.args.reaches.now.items c.reach_along.result)))
