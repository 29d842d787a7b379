use Rattle.std.proofs.Common.{◌≡◌, ◌++◌, ℕ, length, sym, ap, ◌∙◌, arith, append_assoc, append-nil, length-append}
use Rattle.std.proofs.lemmas.Result.{IfOk-from_err, err_from_is_err_and}
use Rattle.std.proofs.lemmas.List.{length-map}
use Rattle.cj_case.specs.Leaves.{plain_leaf, plain_leaves}
use Rattle.cj_case.specs.Problems.{plain_problem}
use Rattle.cj_bezier.specs.Candidates.{is_candidate}
use Rattle.cj_cells.proofs.ListingLemmas.{error_is}
use Rattle.cj_again.specs.PairLeaves.{leaves_of_pair, leaves_to}
use Rattle.cj_track.specs.Tracks.{plain_track}
use Rattle.cj_again.proofs.PairLeafLemmas.{leaves_to_more, leaves_to_none, part_of_row}
use Rattle.cj_again.proofs.carrying.append_row.Goals as goal

pub loop-b-init : goal.loop-b-init
loop-b-init c =
    let new = plain_problem c.args.sources.now.matching.now.new.now in
    let old = plain_leaves c.args.leaves.now.items in
    record {
      value = sym (append-nil old) ∙ ap (λ ss. old ++ ss) (sym (leaves_to_none (is_candidate new) new c.args.a));
      room = c.requires.room;
    }

pub loop-b-preserved : goal.loop-b-preserved
loop-b-preserved c =
    let i = c.loop-b.invariant in
    let new = plain_problem c.args.sources.now.matching.now.new.now in
    let old = plain_leaves c.args.leaves.now.items in
    let a = c.args.a in
    let b = c.loop-b.b in
    let here = leaves_of_pair (is_candidate new) new (a, b) in
    record {
      value = c.in_ok-append_pair.ensures.ok ∙ ap (λ ss. ss ++ here) i.value ∙ append_assoc old (leaves_to (is_candidate new) new a b) here
          ∙ ap (λ ss. old ++ ss) (sym (leaves_to_more (is_candidate new) new a b (omega arith)));
      room = c.in_ok-append_pair.ensures.within;
    }

pub returns-in_err-append_pair-clause-ok : goal.returns-in_err-append_pair-clause-ok
returns-in_err-append_pair-clause-ok c = IfOk-from_err c.from_residual.result _ c.from_residual.ensures.0

pub returns-in_err-append_pair-clause-within : goal.returns-in_err-append_pair-clause-within
returns-in_err-append_pair-clause-within c = IfOk-from_err c.from_residual.result _ c.from_residual.ensures.0

pub returns-in_err-append_pair-clause-too_many : goal.returns-in_err-append_pair-clause-too_many
returns-in_err-append_pair-clause-too_many c =
    let i = c.loop-b.invariant in
    let p = err_from_is_err_and c.from_residual.result c.from_residual.ensures.1 in
    let problem = c.args.sources.now.matching.now.new.now in
    let new = plain_problem problem in
    let old = plain_leaves c.args.leaves.now.items in
    let a = c.args.a in
    let b = c.loop-b.b in
    let row = part_of_row (is_candidate new) new a b (omega arith) (omega (arith, length-map problem.tracks plain_track)) in
    let so_far = ap length i.value in
    rw (p.1, p.2) (λ is.
    let many = c.in_err-append_pair.ensures.too_many (error_is _ _ is) in
    omega (
      arith,
      many,
      row,
      so_far,
      length-append old (leaves_to (is_candidate new) new a b),
      length-map c.args.leaves.now.items plain_leaf,
      length-map c.loop-b.leaves.items plain_leaf,
      c.args.leaves.now.ok.0,
      c.loop-b.leaves.ok.0,
    ))

pub returns-clause-ok : goal.returns-clause-ok
returns-clause-ok c =
    let problem = c.args.sources.now.matching.now.new.now in
    let new = plain_problem problem in
    let end : c.loop-b.b ≡ length new.tracks = omega (arith, length-map problem.tracks plain_track) in
    c.loop-b.invariant.value ∙ ap (λ (b : ℕ). plain_leaves c.args.leaves.now.items ++ leaves_to (is_candidate new) new c.args.a b) end

pub returns-clause-within : goal.returns-clause-within
returns-clause-within c = c.loop-b.invariant.room

pub returns-clause-too_many : goal.returns-clause-too_many
returns-clause-too_many c is = absurd cc
