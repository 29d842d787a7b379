use Rattle.std.proofs.Common.{length, refl, ap, ◌∙◌, arith}
use Rattle.std.proofs.lemmas.List.{length-map}
use Rattle.std.proofs.lemmas.Result.{err_from_is_err_and}
use Rattle.cj_case.specs.Cells.{plain_cell}
use Rattle.cj_case.specs.Leaves.{plain_leaf, plain_leaves}
use Rattle.cj_case.specs.Problems.{plain_problem}
use Rattle.cj_bezier.specs.RootLeaves.{leaves_of_root}
use Rattle.cj_cells.proofs.ListingLemmas.{error_is}
use Rattle.cj_cells.proofs.WalkLemmas.{no_refusal}
use Rattle.cj_slabs.specs.declared.slab.Slab.{Slab}
use Rattle.cj_slabs.proofs.CountLemmas.{one_counted}
use Rattle.cj_slabs.proofs.SlabLemmas.{all_leaves_added, root_added, some_described}
use Rattle.cj_slabs.proofs.roots_sifted.sift_root.Goals as goal

pub returns-in_err-refine-clause-too_many : goal.returns-in_err-refine-clause-too_many
returns-in_err-refine-clause-too_many c =
    let p = err_from_is_err_and c.from_residual.result c.from_residual.ensures.1 in
    rw (p.1, p.2) (λ is. let many = c.in_err-refine.ensures.too_many (error_is _ _ is) in omega (arith, many, c.clear.new.self.ok.0, ap length c.clear.ensures.items))

pub returns-in_err-tell_leaves-clause-too_many : goal.returns-in_err-tell_leaves-clause-too_many
returns-in_err-tell_leaves-clause-too_many c =
    let p = err_from_is_err_and c.from_residual-in_err-tell_leaves.result c.from_residual-in_err-tell_leaves.ensures.1 in
    rw (p.1, p.2) (λ is. absurd cc)

pub with_root-slab-requires-clause-some : goal.with_root-slab-requires-clause-some
with_root-slab-requires-clause-some c =
    let case = plain_problem c.args.cuts.now in
    let r = plain_cell c.args.root in
    let leaves = c.refine.new.leaves.items in
    let all = all_leaves_added c.clear.new.self.items leaves (leaves_of_root case r) c.clear.ensures.items c.in_ok-refine.ensures.ok in
    let some = some_described case r (leaves_of_root case r) c.args.root.some c.refine.ensures.leaves in
    omega (arith, some, ap length all, length-map leaves plain_leaf, ap length c.deref-2.ensures.value)

pub with_root-slab-requires-clause-few : goal.with_root-slab-requires-clause-few
with_root-slab-requires-clause-few c = omega (arith, c.in_ok-refine.ensures.within, c.refine.new.leaves.ok.0, ap length c.deref-2.ensures.value)

pub returns-clause-added : goal.returns-clause-added
returns-clause-added c =
    let case = plain_problem c.args.cuts.now in
    let r = plain_cell c.args.root in
    let leaves = c.refine.new.leaves.items in
    let all = all_leaves_added c.clear.new.self.items leaves (leaves_of_root case r) c.clear.ensures.items c.in_ok-refine.ensures.ok in
    let one = ap plain_leaves c.deref.ensures.value in
    let two = ap plain_leaves c.deref-2.ensures.value in
    let counts = c.with_root-slab.ensures in
    let new : Slab = record { told = c.tell_leaves.new.told; touching = c.args.slab.now.touching; counts = c.with_root-slab.result } in
    root_added case r c.deref.result.now c.args.slab.now new (one ∙ all) c.refine.ensures.leaves c.in_ok-tell_leaves.ensures
    (one_counted case r c.deref-2.result.now c.args.slab.now.counts c.with_root-slab.result (two ∙ all) counts.roots counts.leaves counts.far counts.near counts.undecided)
    refl

pub returns-clause-within : goal.returns-clause-within
returns-clause-within c = omega (arith, c.with_root-slab.ensures.leaves, c.in_ok-refine.ensures.within, c.refine.new.leaves.ok.0, ap length c.deref-2.ensures.value)

pub returns-clause-too_many : goal.returns-clause-too_many
returns-clause-too_many c is = absurd (no_refusal _ _ is)
