use Rattle.std.proofs.Common.{◌≡◌, ◌+◌, ◌<◌, ◌++◌, ℕ, List, [], length, take, drop, vec_len, map, All, refl, sym, ap, subst, ◌∙◌, arith}
use Rattle.std.proofs.lemmas.Result.{IfOk-from_err, err_from_is_err_and}
use Rattle.std.proofs.lemmas.List.{take_all, drop_all}
use Rattle.std.proofs.lemmas.List.Elements.{All-nil, All-same}
use Rattle.cj_track.specs.Tracks.{plain_track}
use Rattle.cj_case.specs.declared.pair.Pair.{Pair}
use Rattle.cj_hermite.specs.CommonRuns.{runs_between, both_numbers}
use Rattle.cj_case.specs.Pairs.{objects_of}
use Rattle.cj_case.specs.Problems.{plain_problem}
use Rattle.cj_case.specs.Cells.{PlainCell}
use Rattle.cj_hermite.specs.Roots.{root_of_run, roots_in}
use Rattle.cj_hermite.proofs.SlotRootLemmas.{walked, empty_slot, roots_of_pairs, pair_more, pairs_apart}
use Rattle.cj_case.specs.Cells.{plain_cells}
use Rattle.cj_cells.specs.Cells.{added_roots}
use Rattle.cj_cells.proofs.WalkLemmas.{no_refusal, added_nothing, added_twice, added_count, kept_twice, root_twice}
use Rattle.cj_cells.proofs.SlotRootLemmas.{prefix_added, count_of, cells_keep, both_exist}
use Rattle.cj_cells.proofs.rooting.roots_of_slot.Goals as goal
use Rattle.cj_cells.proofs.rooting.roots_of_slot.Goals.{After-walk}

-- the roots of the pair, as the case has them
pair_roots : (c : After-walk) → let pair = c.pair-item.result in
    map (root_of_run pair.a pair.b) (runs_between (both_numbers (plain_track c.index-tracks-pair.result) (plain_track c.index-tracks-pair-in-loop-pair.result)) c.in-Some.ticks.first.micros c.in-Some.ticks.last.micros)
    ≡ roots_in (plain_problem c.args.problem.now) c.args.slot pair.a pair.b
pair_roots c =
    let problem = c.args.problem.now in
    let pair = c.pair-item.result in
    let ticks = c.in-Some.ticks in
    let exists : pair.b < length problem.tracks = subst (λ (q : Pair). q.b < length problem.tracks) (sym c.pair-item.is) (c.requires.exist c.loop-pair.pair-index pair (omega arith)) in
    walked problem c.args.slot c.as_slice-tracks.result.now pair.a pair.b ticks.first.micros ticks.last.micros c.index-tracks-pair.result c.index-tracks-pair-in-loop-pair.result
    c.as_slice-tracks.ensures.value c.index-tracks-pair.is c.index-tracks-pair-in-loop-pair.is pair.ordered exists c.in-Some.ensures.first c.in-Some.ensures.last

-- all roots: those of the pairs before, of this pair, and of the pairs behind
apart : (c : After-walk) → let found = roots_of_pairs (plain_problem c.args.problem.now) c.args.slot in
    found c.args.pairs.now ≡ found (take c.loop-pair.pair-index c.args.pairs.now)
    ++ (roots_in (plain_problem c.args.problem.now) c.args.slot c.pair-item.result.a c.pair-item.result.b ++ found (drop (c.loop-pair.pair-index + 1) c.args.pairs.now))
apart c = pairs_apart (plain_problem c.args.problem.now) c.args.slot c.loop-pair.pair-index c.args.pairs.now c.pair-item.result (omega arith) c.pair-item.is

pub returns-in_default-clause-ok : goal.returns-in_default-clause-ok
returns-in_default-clause-ok c =
    added_nothing c.args.roots.now.items c.args.roots.now.items refl
    ∙ sym (empty_slot (plain_problem c.args.problem.now) c.args.slot (map objects_of c.args.pairs.now) c.in_default.ensures.none)

pub returns-in_err-walk-clause-too_many : goal.returns-in_err-walk-clause-too_many
returns-in_err-walk-clause-too_many c =
    let walk = (goal.at.returns-in_err-walk-clause-too_many c).After-walk in
    let i = c.loop-pair.invariant in
    let case = plain_problem c.args.problem.now in
    let pair = c.pair-item.result in
    let pairs = c.args.pairs.now in
    let at = c.loop-pair.pair-index in
    let p = err_from_is_err_and c.from_residual.result c.from_residual.ensures.1 in
    let count = count_of (roots_of_pairs case c.args.slot (take at pairs)) (roots_in case c.args.slot pair.a pair.b) (roots_of_pairs case c.args.slot (drop (at + 1) pairs)) (roots_of_pairs case c.args.slot pairs) (apart walk) in
    let sum = added_count c.args.roots.now.items c.loop-pair.roots.items i.kept in
    let same = ap length (pair_roots walk) in
    let done = ap length i.added in
    rw (p.1, p.2) (λ is. let many = c.in_err-walk.ensures.too_many is in omega (arith, many, count, sum, same, done, c.args.roots.now.ok.0, c.loop-pair.roots.ok.0))

pub returns-in_err-walk-clause-err : goal.returns-in_err-walk-clause-err
returns-in_err-walk-clause-err c =
    let walk = (goal.at.returns-in_err-walk-clause-err c).After-walk in
    let i = c.loop-pair.invariant in
    let mid = c.loop-pair.roots.items in
    let new = c.walk.new.roots.items in
    let n : vec_len c.loop-pair.roots ≡ length mid = omega (arith, c.loop-pair.roots.ok.0) in
    let kept = subst (λ (k : ℕ). take k new ≡ mid) n c.in_err-walk.ensures.kept in
    let p = err_from_is_err_and c.from_residual.result c.from_residual.ensures.1 in
    rw p.1
    (prefix_added c.args.roots.now.items mid new _ _ _ _ i.kept kept i.added (c.in_err-walk.ensures.err ∙ ap (take (length (added_roots mid new))) (pair_roots walk)) (apart walk))

pub returns-in_err-walk-clause-root : goal.returns-in_err-walk-clause-root
returns-in_err-walk-clause-root c =
    let i = c.loop-pair.invariant in
    let old = c.args.roots.now.items in
    let mid = c.loop-pair.roots.items in
    let new = c.walk.new.roots.items in
    let m : vec_len c.args.roots.now ≡ length old = omega (arith, c.args.roots.now.ok.0) in
    let n : vec_len c.loop-pair.roots ≡ length mid = omega (arith, c.loop-pair.roots.ok.0) in
    let kept = subst (λ (k : ℕ). take k new ≡ mid) n c.in_err-walk.ensures.kept in
    let more = subst (λ (k : ℕ). All (λ cell. cell.root ≡ 0) (drop k new)) n c.in_err-walk.ensures.root in
    subst (λ (k : ℕ). All (λ cell. cell.root ≡ 0) (drop k new)) (sym m) (root_twice old mid new i.kept kept i.root more)

pub loop-pair-preserved : goal.loop-pair-preserved
loop-pair-preserved c =
    let walk = (goal.at.loop-pair-preserved c).After-walk in
    let i = c.loop-pair.invariant in
    let case = plain_problem c.args.problem.now in
    let pairs = c.args.pairs.now in
    let at = c.loop-pair.pair-index in
    let old = c.args.roots.now.items in
    let mid = c.loop-pair.roots.items in
    let new = c.walk.new.roots.items in
    let n : vec_len c.loop-pair.roots ≡ length mid = omega (arith, c.loop-pair.roots.ok.0) in
    let kept = subst (λ (k : ℕ). take k new ≡ mid) n c.in_ok-walk.ensures.kept in
    let more = subst (λ (k : ℕ). All (λ cell. cell.root ≡ 0) (drop k new)) n c.in_ok-walk.ensures.root in
    record {
      room = c.in_ok-walk.ensures.within;
      added = added_twice old mid new i.kept kept ∙ ap (λ (rs : List PlainCell). rs ++ added_roots mid new) i.added
          ∙ ap (λ (rs : List PlainCell). roots_of_pairs case c.args.slot (take at pairs) ++ rs) (c.in_ok-walk.ensures.ok ∙ pair_roots walk)
          ∙ sym (pair_more case c.args.slot at pairs c.pair-item.result (omega arith) c.pair-item.is);
      kept = kept_twice old mid new i.kept kept;
      root = root_twice old mid new i.kept kept i.root more;
    }

pub returns-in_default-clause-pieces : goal.returns-in_default-clause-pieces
returns-in_default-clause-pieces c =
    let m : vec_len c.args.roots.now ≡ length c.args.roots.now.items = omega (arith, c.args.roots.now.ok.0) in
    cells_keep (plain_problem c.args.problem.now) c.args.slot 0 c.args.pairs.now (drop (vec_len c.args.roots.now) c.args.roots.now.items)
    (ap (λ (k : ℕ). plain_cells (drop k c.args.roots.now.items)) m ∙ added_nothing c.args.roots.now.items c.args.roots.now.items refl)

pub returns-in_err-walk-clause-pieces : goal.returns-in_err-walk-clause-pieces
returns-in_err-walk-clause-pieces c =
    let walk = (goal.at.returns-in_err-walk-clause-pieces c).After-walk in
    let i = c.loop-pair.invariant in
    let old = c.args.roots.now.items in
    let mid = c.loop-pair.roots.items in
    let new = c.walk.new.roots.items in
    let m : vec_len c.args.roots.now ≡ length old = omega (arith, c.args.roots.now.ok.0) in
    let n : vec_len c.loop-pair.roots ≡ length mid = omega (arith, c.loop-pair.roots.ok.0) in
    let kept = subst (λ (k : ℕ). take k new ≡ mid) n c.in_err-walk.ensures.kept in
    cells_keep (plain_problem c.args.problem.now) c.args.slot (length (added_roots old new)) c.args.pairs.now (drop (vec_len c.args.roots.now) new)
    (ap (λ (k : ℕ). plain_cells (drop k new)) m
    ∙ prefix_added old mid new _ _ _ _ i.kept kept i.added (c.in_err-walk.ensures.err ∙ ap (take (length (added_roots mid new))) (pair_roots walk)) (apart walk))

pub returns-clause-pieces : goal.returns-clause-pieces
returns-clause-pieces c =
    let i = c.loop-pair.invariant in
    let case = plain_problem c.args.problem.now in
    let m : vec_len c.args.roots.now ≡ length c.args.roots.now.items = omega (arith, c.args.roots.now.ok.0) in
    let all = take_all c.loop-pair.pair-index c.args.pairs.now (omega arith) in
    let found = roots_of_pairs case c.args.slot c.args.pairs.now in
    cells_keep case c.args.slot (length found) c.args.pairs.now (drop (vec_len c.args.roots.now) c.loop-pair.roots.items)
    (ap (λ (k : ℕ). plain_cells (drop k c.loop-pair.roots.items)) m ∙ i.added ∙ ap (roots_of_pairs case c.args.slot) all ∙ sym (take_all (length found) found (omega arith)))

pub bounds-tracks-pair : goal.bounds-tracks-pair
bounds-tracks-pair c =
    (both_exist c.args.pairs.now c.args.problem.now.tracks c.as_slice-tracks.result.now c.loop-pair.pair-index c.pair-item.result
    c.requires.exist (omega arith) c.pair-item.is c.as_slice-tracks.ensures.value).0

pub bounds-tracks-pair-in-loop-pair : goal.bounds-tracks-pair-in-loop-pair
bounds-tracks-pair-in-loop-pair c =
    (both_exist c.args.pairs.now c.args.problem.now.tracks c.as_slice-tracks.result.now c.loop-pair.pair-index c.pair-item.result
    c.requires.exist (omega arith) c.pair-item.is c.as_slice-tracks.ensures.value).1

pub walk-requires-clause-some : goal.walk-requires-clause-some
walk-requires-clause-some c = c.in-Some.ensures.some

pub walk-requires-clause-room : goal.walk-requires-clause-room
walk-requires-clause-room c = c.loop-pair.invariant.room

pub loop-pair-init : goal.loop-pair-init
loop-pair-init c =
    let old = c.args.roots.now.items in
    record {
      room = c.requires.room;
      added = added_nothing old old refl;
      kept = take_all (length old) old (omega arith);
      root = All-same (λ cell. cell.root ≡ 0) _ [] (drop_all (length old) old (omega arith)) (All-nil (λ cell. cell.root ≡ 0));
    }

-- ---- a slot behind the window

pub returns-in_default-clause-within : goal.returns-in_default-clause-within
returns-in_default-clause-within c = c.requires.room

pub returns-in_default-clause-too_many : goal.returns-in_default-clause-too_many
returns-in_default-clause-too_many c is = absurd (no_refusal _ _ is)

pub returns-in_default-clause-kept : goal.returns-in_default-clause-kept
returns-in_default-clause-kept c = take_all _ c.args.roots.now.items (omega (arith, c.args.roots.now.ok.0))

pub returns-in_default-clause-root : goal.returns-in_default-clause-root
returns-in_default-clause-root c =
    let none = drop_all (vec_len c.args.roots.now) c.args.roots.now.items (omega (arith, c.args.roots.now.ok.0)) in
    All-same (λ cell. cell.root ≡ 0) _ [] none (All-nil (λ cell. cell.root ≡ 0))

-- ---- after a refusal

pub returns-in_err-walk-clause-ok : goal.returns-in_err-walk-clause-ok
returns-in_err-walk-clause-ok c = IfOk-from_err c.from_residual.result _ c.from_residual.ensures.0

pub returns-in_err-walk-clause-within : goal.returns-in_err-walk-clause-within
returns-in_err-walk-clause-within c = IfOk-from_err c.from_residual.result _ c.from_residual.ensures.0

pub returns-in_err-walk-clause-kept : goal.returns-in_err-walk-clause-kept
returns-in_err-walk-clause-kept c =
    let old = c.args.roots.now.items in
    let mid = c.loop-pair.roots.items in
    let new = c.walk.new.roots.items in
    let kept = subst (λ (k : ℕ). take k new ≡ mid) c.loop-pair.roots.ok.0 c.in_err-walk.ensures.kept in
    ap (λ (k : ℕ). take k new) c.args.roots.now.ok.0 ∙ kept_twice old mid new c.loop-pair.invariant.kept kept

-- ---- after the last pair

pub returns-clause-ok : goal.returns-clause-ok
returns-clause-ok c =
    let all = take_all c.loop-pair.pair-index c.args.pairs.now (omega arith) in
    c.loop-pair.invariant.added ∙ ap (roots_of_pairs (plain_problem c.args.problem.now) c.args.slot) all

pub returns-clause-within : goal.returns-clause-within
returns-clause-within c = c.loop-pair.invariant.room

pub returns-clause-too_many : goal.returns-clause-too_many
returns-clause-too_many c is = absurd (no_refusal _ _ is)

pub returns-clause-kept : goal.returns-clause-kept
returns-clause-kept c = ap (λ (k : ℕ). take k c.loop-pair.roots.items) c.args.roots.now.ok.0 ∙ c.loop-pair.invariant.kept

pub returns-clause-root : goal.returns-clause-root
returns-clause-root c = subst (λ (k : ℕ). All (λ cell. cell.root ≡ 0) (drop k c.loop-pair.roots.items)) (sym c.args.roots.now.ok.0) c.loop-pair.invariant.root
