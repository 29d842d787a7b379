use Rattle.std.proofs.Common.{◌<◌, ◌+◌, ◌∙◌, [], ◌∷◌, List, length, refl, sym, subst, arith}
use Rattle.std.proofs.lemmas.Result.{err_from_is_err_and}
use Rattle.std.proofs.lemmas.List.{take_all}
use Rattle.cj_case.specs.declared.cell.Cell.{Cell}
use Rattle.cj_case.specs.Cells.{plain_cell, plain_cells}
use Rattle.cj_case.specs.Problems.{plain_problem}
use Rattle.cj_case.specs.declared.problem.Problem.{Problem}
use Rattle.cj_hermite.specs.Roots.{KeepPieces}
use Rattle.cj_bezier.specs.RootLeaves.{leaves_of_root}
use Rattle.cj_cells.proofs.ListingLemmas.{error_is}
use Rattle.cj_cells.proofs.WalkLemmas.{no_refusal}
use Rattle.cj_slabs.specs.Slabs.{AddRoots}
use Rattle.cj_slabs.proofs.SlabLemmas.{no_roots_added, root_more, upto_root}
use Rattle.cj_slabs.proofs.roots_sifted.sift_roots.Goals as goal

pub loop-root-init : goal.loop-root-init
loop-root-init c = record { same = refl; room = c.requires.room; added = no_roots_added (plain_problem c.args.cuts.now) c.args.slab.now }

pub sift_root-requires : goal.sift_root-requires
sift_root-requires c =
    let case = plain_problem c.args.cuts.now in
    let keep = c.requires.pieces c.loop-root.root-index c.root-item.result (omega arith) in
    record {
      pieces = subst (λ (p : Problem). KeepPieces (plain_problem p) c.root-item.result.pair.a c.root-item.result.pair.b c.root-item.result.first.micros c.root-item.result.last.micros)
          (sym c.loop-root.invariant.same) (subst (λ (r : Cell). KeepPieces case r.pair.a r.pair.b r.first.micros r.last.micros) (sym c.root-item.is) keep);
      room = c.loop-root.invariant.room;
    }

pub returns-in_err-sift_root-clause-too_many : goal.returns-in_err-sift_root-clause-too_many
returns-in_err-sift_root-clause-too_many c =
    let i = c.loop-root.invariant in
    let p = err_from_is_err_and c.from_residual.result c.from_residual.ensures.1 in
    let upto = upto_root (plain_problem c.args.cuts.now) c.args.roots.now c.loop-root.root-index c.root-item.result (omega arith) c.root-item.is in
    rw (p.1, p.2) (λ is. let many = subst (λ (p : Problem). c.args.limit < c.loop-root.slab.counts.leaves + length (leaves_of_root (plain_problem p) (plain_cell c.root-item.result))) i.same
    (c.in_err-sift_root.ensures.too_many (error_is _ _ is)) in omega (arith, many, upto, i.added.counts.leaves))

pub returns-in_err-sift_root-clause-same : goal.returns-in_err-sift_root-clause-same
returns-in_err-sift_root-clause-same c = c.sift_root.ensures.same ∙ c.loop-root.invariant.same

pub loop-root-preserved : goal.loop-root-preserved
loop-root-preserved c =
    let i = c.loop-root.invariant in
    record {
      same = c.sift_root.ensures.same ∙ i.same;
      room = c.in_ok-sift_root.ensures.within;
      added = root_more (plain_problem c.args.cuts.now) c.args.roots.now c.loop-root.root-index c.root-item.result c.args.slab.now c.loop-root.slab c.sift_root.new.slab (omega arith) c.root-item.is
          i.added (subst (λ (p : Problem). AddRoots (plain_problem p) (plain_cell c.root-item.result ∷ []) c.loop-root.slab c.sift_root.new.slab) i.same c.in_ok-sift_root.ensures.added);
    }

pub returns-clause-added : goal.returns-clause-added
returns-clause-added c =
    subst (λ (roots : List Cell). AddRoots (plain_problem c.args.cuts.now) (plain_cells roots) c.args.slab.now c.loop-root.slab)
    (take_all c.loop-root.root-index c.args.roots.now (omega arith)) c.loop-root.invariant.added

pub returns-clause-same : goal.returns-clause-same
returns-clause-same c = c.loop-root.invariant.same

pub returns-clause-within : goal.returns-clause-within
returns-clause-within c = c.loop-root.invariant.room

pub returns-clause-too_many : goal.returns-clause-too_many
returns-clause-too_many c is = absurd (no_refusal _ _ is)
