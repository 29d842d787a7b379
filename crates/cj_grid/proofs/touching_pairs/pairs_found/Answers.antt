use Rattle.std.proofs.Common.{◌≡◌, inl, inr, ℕ, ◌+◌, ◌*◌, ◌<◌, ◌≤◌, List, length, sym, subst, ◌∙◌, arith}
use Rattle.std.specs.Prelude.{All, count_by, is_some}
use Rattle.std.specs.List.{Contains}
use Rattle.std.specs.List.Sorted.{IsPermutation}
use Rattle.std.proofs.lemmas.List.Elements.{All-nil}
use Rattle.std.proofs.lemmas.List.Sorted.{All-permutation}
use Rattle.cj_interval.proofs.ListLemmas.{All-from_each, Contains-from_exists}
use Rattle.cj_case.specs.declared.pair.Pair.{Pair}
use Rattle.cj_grid.specs.declared.entries.Entry.{Entry}
use Rattle.cj_grid.specs.declared.slot_objects.SlotObjects.{SlotObjects}
use Rattle.cj_grid.specs.Among.{entries_among, wide_among, bound_among, TouchAmong}
use Rattle.cj_grid.specs.Buckets.{entries_of, wide_of, bucket_squares}
use Rattle.cj_grid.specs.Found.{AreInOrder}
use Rattle.cj_grid.proofs.BucketLemmas.{entries_exist, wide_listed, touching_near}
use Rattle.cj_grid.proofs.EntryLemmas.{bound_is}
use Rattle.cj_grid.proofs.PairingLemmas.{places}
use Rattle.cj_grid.proofs.touching_pairs.pairs_found.Goals as goal

-- entries that are lent are those that were sorted
lent_entries : (objects : SlotObjects) (sorted lent : List Entry) → lent ≡ sorted → IsPermutation (entries_among objects) sorted → IsPermutation (entries_among objects) lent
lent_entries objects sorted lent is moved = subst (λ (es : List Entry). IsPermutation (entries_among objects) es) (sym is) moved

pub append_shared-requires-clause-order : goal.append_shared-requires-clause-order
append_shared-requires-clause-order g c = subst (λ (es : List Entry). AreInOrder es) (sym c.deref.ensures.value) c.in_ok-entries.ensures.order

pub append_shared-requires-clause-objects : goal.append_shared-requires-clause-objects
append_shared-requires-clause-objects g c =
    let thr = c.args.objects.now.thr in
    let sizes = c.args.objects.now.sizes.now in
    let boxes = c.args.objects.now.boxes.now in
    let each = entries_exist thr sizes boxes in
    subst (λ (es : List Entry). All (λ entry. entry.object < length boxes) es) (sym c.deref.ensures.value)
    (All-permutation (λ (entry : Entry). entry.object < length boxes) (entries_of thr sizes boxes) c.in_ok-entries.entries.items c.in_ok-entries.ensures.same
    (All-from_each (λ (entry : Entry). entry.object < length boxes) (entries_of thr sizes boxes) each))

pub append_wide-requires : goal.append_wide-requires
append_wide-requires g c = c.deref-2.ensures.value ∙ c.in_ok-wide.ensures

pub returns-clause-touching : goal.returns-clause-touching
returns-clause-touching g c =
    c.in_ok-append_wide.ensures.touching (c.in_ok-append_shared.ensures.touching
    (subst (λ (ps : List Pair). TouchAmong c.args.objects.now ps) (sym c.new-pairs.ensures.items) (All-nil _)))

pub returns-clause-found : goal.returns-clause-found
returns-clause-found g c a b up touch =
    let thr = c.args.objects.now.thr in
    let sizes = c.args.objects.now.sizes.now in
    let boxes = c.args.objects.now.boxes.now in
    let near = touching_near thr sizes boxes a b touch in
    let moved = lent_entries c.args.objects.now c.in_ok-entries.entries.items c.deref.result.now c.deref.ensures.value c.in_ok-entries.ensures.same in
    let order : AreInOrder c.deref.result.now = subst (λ (es : List Entry). AreInOrder es) (sym c.deref.ensures.value) c.in_ok-entries.ensures.order in
    let listed : (k : ℕ) → Contains (wide_of thr sizes boxes) k → Contains c.deref-2.result.now k = λ k has. subst (λ (ws : List ℕ). Contains ws k) (sym (c.deref-2.ensures.value ∙ c.in_ok-wide.ensures)) has in
    elim near.by [
      | inl together ↦
          let p = places (entries_of thr sizes boxes) c.deref.result.now a b moved order up together in
          c.in_ok-append_wide.ensures.kept a b (c.in_ok-append_shared.ensures.found p.first p.second p.ordered (p.exists, p.bucket) a b p.one p.other up touch)
      | inr wide ↦ elim wide [
        | inl first ↦ c.in_ok-append_wide.ensures.found a b up (inl (listed a (Contains-from_exists (wide_of thr sizes boxes) a (wide_listed thr sizes boxes a near.first_exists first)))) touch
        | inr second ↦ c.in_ok-append_wide.ensures.found a b up (inr (listed b (Contains-from_exists (wide_of thr sizes boxes) b (wide_listed thr sizes boxes b near.second_exists second)))) touch
      ]
    ]

bounded : (objects : SlotObjects) (entries : List Entry) (wide : List ℕ) (old steps : ℕ) → IsPermutation (entries_among objects) entries → wide ≡ wide_among objects
    → steps ≤ old + bucket_squares entries + length wide * count_by is_some objects.boxes.now → steps ≤ old + bound_among objects
bounded objects entries wide old steps moved is few =
    let bound = bound_is objects.thr objects.sizes.now objects.boxes.now entries wide moved is in
    omega arith

pub returns-clause-steps : goal.returns-clause-steps
returns-clause-steps g c =
    let moved = lent_entries c.args.objects.now c.in_ok-entries.entries.items c.deref.result.now c.deref.ensures.value c.in_ok-entries.ensures.same in
    let first = c.append_shared.ensures.steps in
    let second = c.append_wide.ensures.steps in
    bounded c.args.objects.now c.deref.result.now c.deref-2.result.now _ _ moved (c.deref-2.ensures.value ∙ c.in_ok-wide.ensures) (omega arith)

pub returns-in_err-append_wide-clause-steps : goal.returns-in_err-append_wide-clause-steps
returns-in_err-append_wide-clause-steps g c =
    let moved = lent_entries c.args.objects.now c.in_ok-entries.entries.items c.deref.result.now c.deref.ensures.value c.in_ok-entries.ensures.same in
    let first = c.append_shared.ensures.steps in
    let second = c.append_wide.ensures.steps in
    bounded c.args.objects.now c.deref.result.now c.deref-2.result.now _ _ moved (c.deref-2.ensures.value ∙ c.in_ok-wide.ensures) (omega arith)

pub returns-in_err-append_shared-clause-steps : goal.returns-in_err-append_shared-clause-steps
returns-in_err-append_shared-clause-steps g c =
    let moved = lent_entries c.args.objects.now c.in_ok-entries.entries.items c.deref.result.now c.deref.ensures.value c.in_ok-entries.ensures.same in
    let first = c.append_shared.ensures.steps in
    bounded c.args.objects.now c.deref.result.now c.in_ok-wide.wide.items _ _ moved c.in_ok-wide.ensures (omega arith)
