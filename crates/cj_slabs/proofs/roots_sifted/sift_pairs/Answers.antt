use Rattle.std.proofs.Common.{◌∙◌, arith}
use Rattle.std.proofs.lemmas.Result.{err_from_is_err_and}
use Rattle.cj_case.specs.Problems.{plain_problem}
use Rattle.cj_cells.proofs.ListingLemmas.{error_is}
use Rattle.cj_slabs.proofs.SlabLemmas.{next_pair_added, no_roots_added, upto_pair}
use Rattle.cj_slabs.proofs.roots_sifted.sift_pairs.Goals as goal

pub loop-pair-init : goal.loop-pair-init
loop-pair-init c = record { cuts = c.requires.cuts; room = c.requires.room; added = no_roots_added (plain_problem c.args.problem.now) c.args.slab.now }

pub returns-in_err-sift_pair-clause-too_many : goal.returns-in_err-sift_pair-clause-too_many
returns-in_err-sift_pair-clause-too_many c =
    let i = c.loop-pair.invariant in
    let p = err_from_is_err_and c.from_residual.result c.from_residual.ensures.1 in
    let upto = upto_pair (plain_problem c.args.problem.now) c.args.slot c.loop-pair.pair-index c.args.pairs.now c.pair-item.result (omega arith) c.pair-item.is in
    rw (p.1, p.2) (λ is. let many = c.in_err-sift_pair.ensures.too_many (error_is _ _ is) in omega (arith, many, upto, i.added.counts.leaves))

pub loop-pair-preserved : goal.loop-pair-preserved
loop-pair-preserved c =
    let i = c.loop-pair.invariant in
    record {
      cuts = c.sift_pair.ensures.cuts ∙ i.cuts;
      room = c.in_ok-sift_pair.ensures.within;
      added = next_pair_added (plain_problem c.args.problem.now) c.args.slot c.loop-pair.pair-index c.args.pairs.now c.pair-item.result c.args.slab.now c.loop-pair.slab c.sift_pair.new.slab
          (omega arith) c.pair-item.is i.added c.in_ok-sift_pair.ensures.added;
    }
