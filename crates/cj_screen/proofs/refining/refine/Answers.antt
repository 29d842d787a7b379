use Rattle.std.proofs.Common.{◌≤◌, ◌∙◌, Ok, Err, length, ap, sym, arith}
use Rattle.std.proofs.lemmas.List.{length-map}
use Rattle.std.proofs.lemmas.Result.{err_from_is_err_and}
use Rattle.cj_case.specs.Problems.{plain_problem}
use Rattle.cj_case.specs.Cells.{plain_cell, plain_cells}
use Rattle.cj_case.specs.Leaves.{plain_leaf, plain_leaves}
use Rattle.cj_cells.specs.Lists.{list_candidates}
use Rattle.cj_cells.proofs.LeafLemmas.{list_split}
use Rattle.cj_screen.proofs.ReportLemmas.{between_refined, few_leaves, stops_refined}
use Rattle.cj_screen.proofs.refining.refine.Goals as goal

pub returns-in-Err : goal.returns-in-Err
returns-in-Err g c =
    let case = plain_problem c.args.problem.now in
    rw c.refused.ensures (record {
      between = between_refined c.args.wanted.leaves c.in-Err.error;
      told = stops_refined c.args.wanted.leaves (list_candidates case) c.in-Err.error
          (λ is. let many = c.in-Err.ensures.too_many (ap (λ e. Err e) is) in omega (arith, many, list_split case));
      few = tt;
      theirs = tt;
      refined = tt;
      ticks = tt;
    })

pub returns-in-Err-leaves : goal.returns-in-Err-leaves
returns-in-Err-leaves g c =
    let failed = c.in-Err-leaves in
    rw c.refused-in-Err-leaves.ensures (record {
      between = between_refined c.args.wanted.leaves failed.error;
      told = stops_refined c.args.wanted.leaves (list_candidates (plain_problem c.args.problem.now)) failed.error (λ is. failed.ensures.too_many (ap (λ e. Err e) is));
      few = tt;
      theirs = tt;
      refined = tt;
      ticks = tt;
    })

pub returns-in_err-kept : goal.returns-in_err-kept
returns-in_err-kept g c =
    let p = err_from_is_err_and c.from_residual.result c.from_residual.ensures.1 in
    rw (p.1, p.2) (record { between = tt; told = tt; few = tt; theirs = tt; refined = tt; ticks = tt })

pub returns-in_err-told : goal.returns-in_err-told
returns-in_err-told g c =
    let p = err_from_is_err_and c.from_residual-in_err-told.result c.from_residual-in_err-told.ensures.1 in
    rw (p.1, p.2) (record { between = tt; told = tt; few = tt; theirs = tt; refined = tt; ticks = tt })

pub told_leaves-requires-clause-roots : goal.told_leaves-requires-clause-roots
told_leaves-requires-clause-roots g c = λ is. ap plain_cells (c.deref-2.ensures.value ∙ c.in_ok-kept.ensures is ∙ c.deref.ensures.value) ∙ c.in-Ok.ensures.roots

pub told_leaves-requires-clause-leaves : goal.told_leaves-requires-clause-leaves
told_leaves-requires-clause-leaves g c = ap plain_leaves c.deref-3.ensures.value ∙ c.in-Ok-leaves.ensures.value

pub returns : goal.returns
returns g c =
    let all = list_candidates (plain_problem c.args.problem.now) in
    let found = c.in-Ok.ensures in
    let roots = c.in-Ok.candidates.roots in
    let counted = c.counts_of-counted.ensures in
    let listed = c.in-Ok-leaves.ensures in
    let leaves = c.in-Ok-leaves.leaves in
    let few : length all ≤ c.args.wanted.leaves = omega (arith, ap (λ ss. length ss) listed.value, listed.within, leaves.ok.0, length-map leaves.items plain_leaf) in
    record {
      between = tt;
      told = few_leaves c.args.wanted.leaves all few ∙ ap (λ ss. Ok ss) (sym listed.value);
      few = omega (arith, listed.within, leaves.ok.0);
      theirs = found.theirs;
      refined = record {
        measured = found.measured;
        leaves = listed.value;
        told = c.in_ok-told.ensures;
        few = omega (arith, listed.within, leaves.ok.0, c.args.wanted.few_leaves);
        kept = counted.kept ∙ found.kept;
        touching = counted.touching ∙ found.touching;
        roots = omega (arith, counted.roots, ap (λ cs. length cs) found.roots, length-map roots.items plain_cell);
        splits = omega (arith, counted.roots, listed.splits, leaves.ok.0, roots.ok.0);
      };
      ticks = record {
        sound = listed.sound;
        complete = listed.complete;
        far = found.far;
        ordered = listed.ordered;
        pieces = listed.pieces;
      };
    }
