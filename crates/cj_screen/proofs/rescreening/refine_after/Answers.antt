use Rattle.std.proofs.Common.{◌∙◌, ◌<◌, List, length, ap, subst, sym, arith}
use Rattle.std.proofs.lemmas.List.{length-map}
use Rattle.std.proofs.lemmas.Result.{err_from_is_err_and}
use Rattle.cj_case.specs.declared.problem.Problem.{Problem}
use Rattle.cj_case.specs.Problems.{plain_problem}
use Rattle.cj_case.specs.Cells.{PlainCell, plain_cell}
use Rattle.cj_case.specs.Leaves.{PlainLeaf, plain_leaf}
use Rattle.cj_bezier.specs.Candidates.{is_candidate}
use Rattle.cj_bezier.specs.Enclosed.{OthersAreFar}
use Rattle.cj_cells.proofs.LeafLemmas.{list_split}
use Rattle.cj_cells.proofs.ListingLemmas.{error_is}
use Rattle.cj_cells.specs.Lists.{list_candidates}
use Rattle.cj_hermite.specs.Roots.{roots_of}
use Rattle.cj_outputs.specs.Findings.{told_in}
use Rattle.cj_screen.specs.Refining.{AreFoundLeaves}
use Rattle.cj_screen.specs.declared.refining.FoundLeaves.{FoundLeaves}
use Rattle.cj_screen.proofs.RescreenLemmas.{kept_of_both}
use Rattle.cj_screen.proofs.rescreening.refine_after.Goals as goal

pub returns-clause-few : goal.returns-clause-few
returns-clause-few g c = omega (arith, c.in_ok-leaves.ensures.within, c.in_ok-leaves.leaves.ok.0)

pub returns-clause-refined : goal.returns-clause-refined
returns-clause-refined g c =
    let same = c.in_ok-matching.ensures.new in
    let new = plain_problem c.in_ok-matching.matching.new.now in
    let found = c.in_ok-candidates.ensures in
    let counted = c.counts_of-counted.ensures in
    let roots = c.in_ok-candidates.candidates.roots in
    let leaves = c.in_ok-leaves.leaves in
    let value = c.in_ok-leaves.ensures.value in
    let cells = ap (λ (cs : List PlainCell). length cs) found.roots in
    let all : FoundLeaves = record { measured = c.in_ok-candidates.candidates.measured; counted = c.counts_of-counted.result; leaves = leaves; told = c.in_ok-told.told } in
    subst (λ (n : Problem). AreFoundLeaves c.args.wanted.format (plain_problem n) all) same (record {
      measured = found.measured;
      leaves = value;
      told = c.in_ok-told.ensures ∙ ap (λ (n : Problem). told_in c.args.wanted.format (plain_problem n)) (sym same);
      few = omega (arith, c.in_ok-leaves.ensures.within, leaves.ok.0, c.args.wanted.few_leaves);
      kept = counted.kept ∙ found.kept;
      touching = counted.touching ∙ found.touching;
      roots = omega (arith, counted.roots, cells, length-map roots.items plain_cell);
      splits = omega (arith, counted.roots, cells, length-map roots.items plain_cell, ap (λ (ss : List PlainLeaf). length ss) value, length-map leaves.items plain_leaf, list_split new);
    })

pub returns-clause-kept : goal.returns-clause-kept
returns-clause-kept g c =
    let matching = c.in_ok-matching.matching in
    let both = c.in_ok-matching.ensures in
    kept_of_both matching.old.now c.args.base.now matching.new.now c.args.new.now _ both.old both.new c.kept_unchanged-kept.ensures

pub returns-clause-ticks : goal.returns-clause-ticks
returns-clause-ticks g c =
    let list = c.true_lists.ensures (is_candidate (plain_problem c.args.new.now)) in
    record {
      sound = list.sound;
      complete = list.complete;
      far = subst (λ (n : Problem). OthersAreFar (plain_problem n) (is_candidate (plain_problem n))) c.in_ok-matching.ensures.new c.in_ok-candidates.ensures.far;
      ordered = list.ordered;
      pieces = list.pieces;
    }

pub returns-clause-too_many : goal.returns-clause-too_many
returns-clause-too_many g c = λ is. absurd cc

pub returns-in_err-matching-clause-too_many : goal.returns-in_err-matching-clause-too_many
returns-in_err-matching-clause-too_many g c =
    let p = err_from_is_err_and c.from_residual.result c.from_residual.ensures.1 in
    rw (p.1, p.2) (λ is. absurd cc)

pub returns-in_err-candidates-clause-too_many : goal.returns-in_err-candidates-clause-too_many
returns-in_err-candidates-clause-too_many g c =
    let new = plain_problem c.args.new.now in
    let p = err_from_is_err_and c.from_residual-in_err-candidates.result c.from_residual-in_err-candidates.ensures.1 in
    rw (p.1, p.2) (λ is.
    let many : c.args.wanted.leaves < length (roots_of (is_candidate new) new) =
    subst (λ (n : Problem). c.args.wanted.leaves < length (roots_of (is_candidate (plain_problem n)) (plain_problem n))) c.in_ok-matching.ensures.new
    (c.in_err-candidates.ensures.too_many (error_is _ _ is)) in
    omega (arith, many, list_split new))

pub returns-in_err-leaves-clause-too_many : goal.returns-in_err-leaves-clause-too_many
returns-in_err-leaves-clause-too_many g c =
    let p = err_from_is_err_and c.from_residual-in_err-leaves.result c.from_residual-in_err-leaves.ensures.1 in
    rw (p.1, p.2) (λ is.
    subst (λ (n : Problem). c.args.wanted.leaves < length (list_candidates (plain_problem n))) c.in_ok-matching.ensures.new (c.in_err-leaves.ensures.too_many (error_is _ _ is)))

pub returns-in_err-told-clause-too_many : goal.returns-in_err-told-clause-too_many
returns-in_err-told-clause-too_many g c =
    let p = err_from_is_err_and c.from_residual-in_err-told.result c.from_residual-in_err-told.ensures.1 in
    rw (p.1, p.2) (λ is. absurd cc)
