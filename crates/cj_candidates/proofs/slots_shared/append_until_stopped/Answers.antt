use Rattle.std.proofs.Common.{◌≡◌, ◌<◌, ◌++◌, ℕ, List, length, rules, take, drop, sym, ap, subst, ◌∙◌, arith, append-nil, length-append}
use Rattle.std.specs.Prelude.{All}
use Rattle.std.proofs.lemmas.List.{nil_from_length}
use Rattle.std.proofs.lemmas.List.Elements.{All-drop, All-take}
use Rattle.cj_case.specs.declared.pair.Pair.{Pair}
use Rattle.cj_case.specs.Problems.{plain_problem}
use Rattle.cj_case.specs.Cells.{PlainCell}
use Rattle.cj_cells.specs.Cells.{added_roots}
use Rattle.cj_cells.proofs.WalkLemmas.{added_count, kept_twice}
use Rattle.cj_candidates.proofs.SlotRunLemmas.{added_before, few_so_far, pairs_apart, roots_with}
use Rattle.cj_candidates.proofs.slots_shared.append_until_stopped.Goals as goal

pub append_some-requires-clause-exist : goal.append_some-requires-clause-exist
append_some-requires-clause-exist c =
    let P = λ (pair : Pair). pair.b < length c.args.problem.now.tracks in
    subst (λ (ps : List Pair). All P ps) (sym c.split_at.ensures.front) (All-take P c.min.result c.loop-rest.rest.now c.loop-rest.invariant.exist)

pub loop-rest-preserved : goal.loop-rest-preserved
loop-rest-preserved c =
    let i = c.loop-rest.invariant in
    let case = plain_problem c.args.problem.now in
    let slot = c.args.slot in
    let P = λ (pair : Pair). pair.b < length c.args.problem.now.tracks in
    let old = c.args.roots.now.items in
    let mid = c.loop-rest.roots in
    let new = c.append_some.new.roots.items in
    let rest = c.loop-rest.rest.now in
    let n = c.min.result in
    let kept = subst (λ (k : ℕ). take k new ≡ mid.items) mid.ok.0 c.append_some.ensures.kept in
    let whole = c.if-not-branch.false in
    let some = roots_with case slot (take n rest) in
    let before = added_roots old mid.items in
    record {
      exist = subst (λ (ps : List Pair). All P ps) (sym c.split_at.ensures.back) (All-drop P n rest i.exist);
      room = c.in_ok-append_some.ensures.room whole;
      kept = kept_twice old mid.items new i.kept kept;
      added = added_before old mid.items new some (roots_with case slot c.split_at.result.1.now) (roots_with case slot c.args.pairs.now) i.kept kept
          (c.in_ok-append_some.ensures.added whole ∙ ap (roots_with case slot) c.split_at.ensures.front)
          (ap (λ (ps : List Pair). before ++ (some ++ roots_with case slot ps)) c.split_at.ensures.back
          ∙ ap (λ (rs : List PlainCell). before ++ rs) (sym (pairs_apart case slot n rest)) ∙ i.added);
    }

pub returns-then-not-branch-clause-few : goal.returns-then-not-branch-clause-few
returns-then-not-branch-clause-few c =
    let i = c.loop-rest.invariant in
    let case = plain_problem c.args.problem.now in
    let slot = c.args.slot in
    let old = c.args.roots.now in
    let mid = c.loop-rest.roots in
    let new = c.append_some.new.roots in
    let rest = c.loop-rest.rest.now in
    let n = c.min.result in
    let some = roots_with case slot (take n rest) in
    let before = added_roots old.items mid.items in
    let here = ap length (ap (roots_with case slot) c.split_at.ensures.front) in
    let now = c.in_ok-append_some.ensures.few in
    let few = few_so_far old.items mid.items new.items some (roots_with case slot (drop n rest)) (roots_with case slot c.args.pairs.now) i.kept
    (ap (λ (rs : List PlainCell). before ++ rs) (sym (pairs_apart case slot n rest)) ∙ i.added) (omega (arith, now, here, mid.ok.0, new.ok.0)) in
    omega (arith, few, old.ok.0, new.ok.0)

pub returns-then-not-branch-clause-kept : goal.returns-then-not-branch-clause-kept
returns-then-not-branch-clause-kept c =
    let old = c.args.roots.now in
    let mid = c.loop-rest.roots in
    let new = c.append_some.new.roots.items in
    let kept = subst (λ (k : ℕ). take k new ≡ mid.items) mid.ok.0 c.append_some.ensures.kept in
    subst (λ (k : ℕ). take k new ≡ old.items) (sym old.ok.0) (kept_twice old.items mid.items new c.loop-rest.invariant.kept kept)

pub returns-clause-added : goal.returns-clause-added
returns-clause-added c = λ _.
    let case = plain_problem c.args.problem.now in
    let before = added_roots c.args.roots.now.items c.loop-rest.roots.items in
    let none : length c.loop-rest.rest.now ≡ 0 = search (rules, c.loop-rest-test.false) in
    sym (append-nil before) ∙ ap (λ (ps : List Pair). before ++ roots_with case c.args.slot ps) (sym (nil_from_length c.loop-rest.rest.now none)) ∙ c.loop-rest.invariant.added

pub returns-clause-few : goal.returns-clause-few
returns-clause-few c =
    let i = c.loop-rest.invariant in
    let old = c.args.roots.now in
    let mid = c.loop-rest.roots in
    let rest = roots_with (plain_problem c.args.problem.now) c.args.slot c.loop-rest.rest.now in
    omega (arith, added_count old.items mid.items i.kept, ap length i.added, length-append (added_roots old.items mid.items) rest, old.ok.0, mid.ok.0)

pub returns-clause-kept : goal.returns-clause-kept
returns-clause-kept c =
    let old = c.args.roots.now in
    subst (λ (k : ℕ). take k c.loop-rest.roots.items ≡ old.items) (sym old.ok.0) c.loop-rest.invariant.kept
