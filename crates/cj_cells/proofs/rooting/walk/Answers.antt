use Rattle.std.proofs.Common.{◌≡◌, ◌++◌, ℕ, List, [], length, take, drop, map, vec_len, All, refl, sym, ap, subst, ◌∙◌, arith}
use Rattle.std.proofs.lemmas.Result.{IfOk-from_err, err_from_is_err_and}
use Rattle.std.proofs.lemmas.List.{take_all, drop_all}
use Rattle.std.proofs.lemmas.List.Elements.{All-nil, All-same}
use Rattle.cj_track.specs.Tracks.{plain_track}
use Rattle.cj_hermite.specs.CommonRuns.{runs_between, both_numbers}
use Rattle.cj_hermite.specs.Roots.{root_of_run}
use Rattle.cj_case.specs.declared.cell.Cell.{Cell}
use Rattle.cj_cells.specs.Cells.{added_roots}
use Rattle.cj_cells.proofs.WalkLemmas.{no_refusal, prefix_done, roots_left, no_more, walk_done, whole_step, count_step, kept_twice, root_twice, added_count, added_nothing}
use Rattle.cj_cells.proofs.rooting.walk.Goals as goal

pub loop-ticks-init : goal.loop-ticks-init
loop-ticks-init c =
    let old = c.args.roots.now.items in
    record {
      room = c.requires.room;
      within = c.requires.some;
      whole = ap (λ rs. rs ++ roots_left c.args.pair.a c.args.pair.b (plain_track c.args.a.now) (plain_track c.args.b.now) c.args.slot.first.micros c.args.slot.last.micros) (added_nothing old old refl);
      kept = take_all (length old) old (omega arith);
      root = All-same (λ cell. cell.root ≡ 0) _ [] (drop_all (length old) old (omega arith)) (All-nil (λ cell. cell.root ≡ 0));
    }

pub returns-in_err-append-clause-too_many : goal.returns-in_err-append-clause-too_many
returns-in_err-append-clause-too_many c =
    let p = err_from_is_err_and c.from_residual.result c.from_residual.ensures.1 in
    let i = c.loop-ticks.invariant in
    let pair = c.args.pair in
    let e = plain_track c.args.a.now in
    let f = plain_track c.args.b.now in
    let last = c.args.slot.last.micros in
    let count = count_step pair.a pair.b e f c.loop-ticks.from.micros last c.in-Some.ticks c.in-Some.ensures.run
    (added_roots c.args.roots.now.items c.loop-ticks.roots.items) (map (root_of_run pair.a pair.b) (runs_between (both_numbers e f) c.args.slot.first.micros last)) i.whole in
    let sum = added_count c.args.roots.now.items c.loop-ticks.roots.items i.kept in
    rw (p.1, p.2) (λ is. let many = c.in_err-append.ensures.too_many is in omega (arith, many, count, sum, c.args.roots.now.ok.0, c.loop-ticks.roots.ok.0))

pub returns-then-ticks-slot-clause-ok : goal.returns-then-ticks-slot-clause-ok
returns-then-ticks-slot-clause-ok c =
    let i = c.loop-ticks.invariant in
    let pair = c.args.pair in
    let e = plain_track c.args.a.now in
    let f = plain_track c.args.b.now in
    let last = c.args.slot.last.micros in
    let all = map (root_of_run pair.a pair.b) (runs_between (both_numbers e f) c.args.slot.first.micros last) in
    let n : vec_len c.loop-ticks.roots ≡ length c.loop-ticks.roots.items = omega (arith, c.loop-ticks.roots.ok.0) in
    let kept = subst (λ (k : ℕ). take k c.append.new.roots.items ≡ c.loop-ticks.roots.items) n c.in_ok-append.ensures.kept in
    walk_done pair.a pair.b e f c.in-Some.ticks.last.micros last (added_roots c.args.roots.now.items c.append.new.roots.items) all c.if-ticks-slot.true
    (whole_step pair.a pair.b e f c.loop-ticks.from.micros last c.in-Some.ticks c.in-Some.ensures.run
    c.args.roots.now.items c.loop-ticks.roots.items c.append.new.roots.items all i.kept kept c.in_ok-append.ensures.ok i.whole)

pub returns-then-ticks-slot-clause-root : goal.returns-then-ticks-slot-clause-root
returns-then-ticks-slot-clause-root c =
    let i = c.loop-ticks.invariant in
    let m : vec_len c.args.roots.now ≡ length c.args.roots.now.items = omega (arith, c.args.roots.now.ok.0) in
    let n : vec_len c.loop-ticks.roots ≡ length c.loop-ticks.roots.items = omega (arith, c.loop-ticks.roots.ok.0) in
    let kept = subst (λ (k : ℕ). take k c.append.new.roots.items ≡ c.loop-ticks.roots.items) n c.in_ok-append.ensures.kept in
    let more = subst (λ (k : ℕ). All (λ cell. cell.root ≡ 0) (drop k c.append.new.roots.items)) n c.in_ok-append.ensures.root in
    subst (λ (k : ℕ). All (λ cell. cell.root ≡ 0) (drop k c.append.new.roots.items)) (sym m)
    (root_twice c.args.roots.now.items c.loop-ticks.roots.items c.append.new.roots.items i.kept kept i.root more)

pub loop-ticks-preserved : goal.loop-ticks-preserved
loop-ticks-preserved c =
    let i = c.loop-ticks.invariant in
    let pair = c.args.pair in
    let e = plain_track c.args.a.now in
    let f = plain_track c.args.b.now in
    let last = c.args.slot.last.micros in
    let all = map (root_of_run pair.a pair.b) (runs_between (both_numbers e f) c.args.slot.first.micros last) in
    let n : vec_len c.loop-ticks.roots ≡ length c.loop-ticks.roots.items = omega (arith, c.loop-ticks.roots.ok.0) in
    let kept = subst (λ (k : ℕ). take k c.append.new.roots.items ≡ c.loop-ticks.roots.items) n c.in_ok-append.ensures.kept in
    let more = subst (λ (k : ℕ). All (λ cell. cell.root ≡ 0) (drop k c.append.new.roots.items)) n c.in_ok-append.ensures.root in
    record {
      room = c.in_ok-append.ensures.within;
      within = omega (arith, c.in-Some.ensures.to, c.next-from.ensures);
      whole = subst (λ (k : ℕ). added_roots c.args.roots.now.items c.append.new.roots.items ++ roots_left pair.a pair.b e f k last ≡ all) (sym c.next-from.ensures)
          (whole_step pair.a pair.b e f c.loop-ticks.from.micros last c.in-Some.ticks c.in-Some.ensures.run
          c.args.roots.now.items c.loop-ticks.roots.items c.append.new.roots.items all i.kept kept c.in_ok-append.ensures.ok i.whole);
      kept = kept_twice c.args.roots.now.items c.loop-ticks.roots.items c.append.new.roots.items i.kept kept;
      root = root_twice c.args.roots.now.items c.loop-ticks.roots.items c.append.new.roots.items i.kept kept i.root more;
    }

pub returns-clause-ok : goal.returns-clause-ok
returns-clause-ok c =
    let i = c.loop-ticks.invariant in
    let pair = c.args.pair in
    let e = plain_track c.args.a.now in
    let f = plain_track c.args.b.now in
    let last = c.args.slot.last.micros in
    no_more pair.a pair.b e f c.loop-ticks.from.micros last (added_roots c.args.roots.now.items c.loop-ticks.roots.items) (map (root_of_run pair.a pair.b) (runs_between (both_numbers e f) c.args.slot.first.micros last))
    c.in_default.ensures.none i.whole

pub returns-clause-within : goal.returns-clause-within
returns-clause-within c = c.loop-ticks.invariant.room

pub returns-clause-too_many : goal.returns-clause-too_many
returns-clause-too_many c is = absurd (no_refusal _ _ is)

pub returns-clause-kept : goal.returns-clause-kept
returns-clause-kept c = ap (λ (k : ℕ). take k c.loop-ticks.roots.items) c.args.roots.now.ok.0 ∙ c.loop-ticks.invariant.kept

pub returns-clause-root : goal.returns-clause-root
returns-clause-root c = subst (λ (k : ℕ). All (λ cell. cell.root ≡ 0) (drop k c.loop-ticks.roots.items)) (sym c.args.roots.now.ok.0) c.loop-ticks.invariant.root

-- ---- at the last tick

pub returns-then-ticks-slot-clause-within : goal.returns-then-ticks-slot-clause-within
returns-then-ticks-slot-clause-within c = c.in_ok-append.ensures.within

pub returns-then-ticks-slot-clause-too_many : goal.returns-then-ticks-slot-clause-too_many
returns-then-ticks-slot-clause-too_many c is = absurd (no_refusal _ _ is)

pub returns-then-ticks-slot-clause-kept : goal.returns-then-ticks-slot-clause-kept
returns-then-ticks-slot-clause-kept c =
    let new = c.append.new.roots.items in
    let kept = subst (λ (k : ℕ). take k new ≡ c.loop-ticks.roots.items) c.loop-ticks.roots.ok.0 c.in_ok-append.ensures.kept in
    ap (λ (k : ℕ). take k new) c.args.roots.now.ok.0 ∙ kept_twice c.args.roots.now.items c.loop-ticks.roots.items new c.loop-ticks.invariant.kept kept

-- ---- after a refusal

pub returns-in_err-append-clause-ok : goal.returns-in_err-append-clause-ok
returns-in_err-append-clause-ok c = IfOk-from_err c.from_residual.result _ c.from_residual.ensures.0

pub returns-in_err-append-clause-within : goal.returns-in_err-append-clause-within
returns-in_err-append-clause-within c = IfOk-from_err c.from_residual.result _ c.from_residual.ensures.0

pub returns-in_err-append-clause-err : goal.returns-in_err-append-clause-err
returns-in_err-append-clause-err c =
    let p = err_from_is_err_and c.from_residual.result c.from_residual.ensures.1 in
    rw (p.1, c.in_err-append.ensures.err) (prefix_done _ _ _ c.loop-ticks.invariant.whole)

pub returns-in_err-append-clause-kept : goal.returns-in_err-append-clause-kept
returns-in_err-append-clause-kept c =
    rw (c.in_err-append.ensures.err) (ap (λ (k : ℕ). take k c.loop-ticks.roots.items) c.args.roots.now.ok.0 ∙ c.loop-ticks.invariant.kept)

pub returns-in_err-append-clause-root : goal.returns-in_err-append-clause-root
returns-in_err-append-clause-root c =
    subst (λ (xs : List Cell). All (λ cell. cell.root ≡ 0) (drop c.args.roots.now.len xs)) (sym c.in_err-append.ensures.err)
    (subst (λ (k : ℕ). All (λ cell. cell.root ≡ 0) (drop k c.loop-ticks.roots.items)) (sym c.args.roots.now.ok.0) c.loop-ticks.invariant.root)
