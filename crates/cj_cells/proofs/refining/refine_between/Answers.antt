use Rattle.std.proofs.Common.{◌≡◌, ◌+◌, ◌-◌, ℕ, List, All, length, ◌++◌, [], ◌∷◌, get_or, take, drop, refl, sym, ap, subst, ◌∙◌, arith}
use Rattle.cj_hermite.specs.Ready.{curve_ready}
use Rattle.std.proofs.lemmas.Result.{IfOk-from_err, err_from_is_err_and}
use Rattle.std.proofs.lemmas.List.{take_all, drop_all, length-set}
use Rattle.std.proofs.lemmas.List.Elements.{All-nil, All-same}
use Rattle.cj_case.specs.declared.cell.Cell.{Cell}
use Rattle.cj_case.specs.declared.leaf.Leaf.{Leaf}
use Rattle.cj_case.specs.Leaves.{PlainLeaf, plain_leaf, plain_leaves}
use Rattle.cj_bezier.specs.RootLeaves.{kind_between}
use Rattle.cj_bezier.specs.Halving.{leaves_between, closed}
use Rattle.cj_cells.specs.Cells.{added_leaves}
use Rattle.cj_cells.proofs.WalkLemmas.{no_refusal, not_too_many, prefix_done}
use Rattle.cj_cells.proofs.RefineLemmas.{rest, part_bounds, closed_fit, halved_place, halved_fit, closed_rest, part_ticks, part_halved, more_behind, closed_counted, halved_counted, few_looks, all_looks, added_length, nothing_waits, added_more, kept_more, root_more, rest-all, fit_all}
use Rattle.cj_cells.proofs.refining.refine_between.Goals as goal

pub loop-top-init : goal.loop-top-init
loop-top-init g c =
    let cell = c.args.cell in
    let a = c.args.a.now in
    let over = c.requires.first_over in
    let none = drop_all (length c.args.leaves.now.items) c.args.leaves.now.items (omega arith) in
    record {
      from = omega arith;
      places = refl;
      place = omega arith;
      room = c.requires.room;
      fit = fit_all cell.first.micros 32 cell.last cell.some (omega (arith, over.from, over.to, a.short));
      whole = ap (λ ls. plain_leaves ls ++ rest (kind_between (curve_ready a) (curve_ready c.args.b.now) c.args.thr) cell.pair.a cell.pair.b cell.first.micros (cell.last ∷ [])) none
          ∙ rest-all (kind_between (curve_ready a) (curve_ready c.args.b.now) c.args.thr) cell.pair.a cell.pair.b cell.first.micros cell.last;
      kept = take_all (length c.args.leaves.now.items) c.args.leaves.now.items (omega arith);
      root = All-same (λ l. l.cell.root ≡ cell.root) _ [] none (All-nil (λ l. l.cell.root ≡ cell.root));
      no_fewer = omega arith;
      steps = let first : length (added_leaves c.args.leaves.now.items c.args.leaves.now.items) ≡ 0 = ap (λ ls. length (plain_leaves ls)) none in omega (arith, first);
    }

pub returns-then-len-limit-clause-too_many : goal.returns-then-len-limit-clause-too_many
returns-then-len-limit-clause-too_many g c _ =
    let i = c.loop-top.invariant in
    let cell = c.args.cell in
    let a = curve_ready c.args.a.now in
    let b = curve_ready c.args.b.now in
    let more = more_behind a b c.args.thr cell.pair.a cell.pair.b cell.first.micros cell.last.micros c.loop-top.first c.loop-top.top c.loop-top.lasts cell.last
    (added_leaves c.args.leaves.now.items c.loop-top.leaves.items) (leaves_between (kind_between a b c.args.thr) cell.pair.a cell.pair.b cell.first.micros cell.last.micros)
    c.requires.least c.requires.first_over c.requires.second_over i.from (omega arith) i.fit i.whole in
    let count = added_length c.args.leaves.now.items c.loop-top.leaves.items i.kept in
    omega (arith, more, count, c.args.leaves.now.ok.0, c.loop-top.leaves.ok.0, i.room)

pub invariant_of-part : goal.invariant_of-part
invariant_of-part g c =
    let b = part_bounds c.args.cell.last.micros c.loop-top.first c.loop-top.top c.loop-top.lasts c.index-lasts-top.result (omega arith) c.loop-top.invariant.fit in
    let cell = c.args.cell in
    record { in_range = (omega (arith, cell.first.in_range.0), omega (arith, b.0, b.1, cell.last.in_range.1)) }

pub invariant_of-part-in-loop-top : goal.invariant_of-part-in-loop-top
invariant_of-part-in-loop-top g c =
    record { some = (part_bounds c.args.cell.last.micros c.loop-top.first c.loop-top.top c.loop-top.lasts c.index-lasts-top.result (omega arith) c.loop-top.invariant.fit).0 }

pub look_at-requires-clause-first_over : goal.look_at-requires-clause-first_over
look_at-requires-clause-first_over g c =
    let i = c.loop-top.invariant in
    let b = part_bounds c.args.cell.last.micros c.loop-top.first c.loop-top.top c.loop-top.lasts c.index-lasts-top.result (omega arith) c.loop-top.invariant.fit in
    let over = c.requires.first_over in
    record { some = over.some; from = omega (arith, over.from, i.from); to = omega (arith, over.to, b.1) }

pub look_at-requires-clause-second_over : goal.look_at-requires-clause-second_over
look_at-requires-clause-second_over g c =
    let i = c.loop-top.invariant in
    let b = part_bounds c.args.cell.last.micros c.loop-top.first c.loop-top.top c.loop-top.lasts c.index-lasts-top.result (omega arith) c.loop-top.invariant.fit in
    let over = c.requires.second_over in
    record { some = over.some; from = omega (arith, over.from, i.from); to = omega (arith, over.to, b.1) }

pub loop-top-smaller-in-Closed : goal.loop-top-smaller-in-Closed
loop-top-smaller-in-Closed g c =
    let b = part_bounds c.args.cell.last.micros c.loop-top.first c.loop-top.top c.loop-top.lasts c.index-lasts-top.result (omega arith) c.loop-top.invariant.fit in
    omega (arith, b.0, b.1)

pub loop-top-preserved-in-Closed : goal.loop-top-preserved-in-Closed
loop-top-preserved-in-Closed g c =
    let i = c.loop-top.invariant in
    let cell = c.args.cell in
    let leaf = c.in-Closed.leaf in
    let old = c.args.leaves.now.items in
    let items = c.loop-top.leaves.items in
    let b = part_bounds c.args.cell.last.micros c.loop-top.first c.loop-top.top c.loop-top.lasts c.index-lasts-top.result (omega arith) c.loop-top.invariant.fit in
    let same = c.in-Closed.ensures.closed in
    let judge = kind_between (curve_ready c.args.a.now) (curve_ready c.args.b.now) c.args.thr in
    let last = (get_or c.loop-top.lasts c.loop-top.top c.index-lasts-top.result).micros in
    let shown : plain_leaf leaf ≡ closed cell.pair.a cell.pair.b c.loop-top.first last leaf.kind =
    ap (λ (x : Cell). let s : PlainLeaf = record { a = x.pair.a; b = x.pair.b; first = x.first.micros; last = x.last.micros; kind = leaf.kind } in s) same in
    let pushed = c.in_ok-push-in-Closed.ensures.items in
    record {
      from = omega (arith, i.from, b.0);
      places = i.places;
      place = omega arith;
      room = omega (arith, c.in_ok-push-in-Closed.ensures.len);
      fit = closed_fit cell.last.micros c.loop-top.first c.loop-top.top c.loop-top.lasts c.index-lasts-top.result (omega arith) i.fit;
      whole = ap (λ xs. added_leaves old xs ++ rest judge cell.pair.a cell.pair.b (last + 1) (drop (c.loop-top.top + 1) c.loop-top.lasts)) pushed
          ∙ ap (λ ss. ss ++ rest judge cell.pair.a cell.pair.b (last + 1) (drop (c.loop-top.top + 1) c.loop-top.lasts)) (added_more old items leaf i.kept)
          ∙ ap (λ s. (added_leaves old items ++ s ∷ []) ++ rest judge cell.pair.a cell.pair.b (last + 1) (drop (c.loop-top.top + 1) c.loop-top.lasts)) shown
          ∙ closed_rest judge cell.pair.a cell.pair.b c.loop-top.first c.loop-top.top c.loop-top.lasts c.index-lasts-top.result leaf.kind (added_leaves old items)
          (leaves_between judge cell.pair.a cell.pair.b cell.first.micros cell.last.micros) (omega arith) (sym c.in-Closed.ensures.kind) i.whole;
      kept = ap (take (length old)) pushed ∙ kept_more old items leaf i.kept;
      root = All-same (λ l. l.cell.root ≡ cell.root) _ _ (ap (drop (length old)) pushed)
          (root_more cell.root old items leaf i.kept i.root (ap (λ (x : Cell). x.root) same));
      no_fewer = omega (arith, i.no_fewer, c.tick.ensures);
      steps = closed_counted c.args.steps.now c.loop-top.steps c.tick.new.self c.loop-top.top old items c.push.new.self.items leaf i.kept pushed (omega arith) c.tick.ensures i.steps;
    }

pub overflow_sub-top-in-Halves : goal.overflow_sub-top-in-Halves
overflow_sub-top-in-Halves g c =
    let more = part_ticks (curve_ready c.args.a.now) (curve_ready c.args.b.now) c.args.thr c.args.cell.pair.a c.args.cell.pair.b c.args.cell.first.micros c.args.cell.last.micros
    c.loop-top.first c.loop-top.top c.loop-top.lasts c.index-lasts-top.result c.requires.least c.requires.first_over c.requires.second_over c.loop-top.invariant.from (omega arith)
    c.loop-top.invariant.fit (sym c.in-Halves.ensures.kind) in
    halved_place c.args.cell.last.micros c.loop-top.first c.loop-top.top c.loop-top.lasts c.index-lasts-top.result (omega arith) c.loop-top.invariant.fit more

pub loop-top-smaller : goal.loop-top-smaller
loop-top-smaller g c =
    let more = part_ticks (curve_ready c.args.a.now) (curve_ready c.args.b.now) c.args.thr c.args.cell.pair.a c.args.cell.pair.b c.args.cell.first.micros c.args.cell.last.micros
    c.loop-top.first c.loop-top.top c.loop-top.lasts c.index-lasts-top.result c.requires.least c.requires.first_over c.requires.second_over c.loop-top.invariant.from (omega arith)
    c.loop-top.invariant.fit (sym c.in-Halves.ensures.kind) in
    let some = halved_place c.args.cell.last.micros c.loop-top.first c.loop-top.top c.loop-top.lasts c.index-lasts-top.result (omega arith) c.loop-top.invariant.fit more in
    omega (arith, some)

pub loop-top-preserved : goal.loop-top-preserved
loop-top-preserved g c =
    let i = c.loop-top.invariant in
    let cell = c.args.cell in
    let a = curve_ready c.args.a.now in
    let b = curve_ready c.args.b.now in
    let none = sym c.in-Halves.ensures.kind in
    let halves = c.in-Halves.ensures.halved in
    let more = part_ticks (curve_ready c.args.a.now) (curve_ready c.args.b.now) c.args.thr c.args.cell.pair.a c.args.cell.pair.b c.args.cell.first.micros c.args.cell.last.micros
    c.loop-top.first c.loop-top.top c.loop-top.lasts c.index-lasts-top.result c.requires.least c.requires.first_over c.requires.second_over c.loop-top.invariant.from (omega arith)
    c.loop-top.invariant.fit (sym c.in-Halves.ensures.kind) in
    record {
      from = i.from;
      places = length-set c.loop-top.lasts (c.loop-top.top - 1) c.in-Halves.left.last ∙ i.places;
      place = omega arith;
      room = i.room;
      fit = halved_fit cell.last.micros c.loop-top.first c.loop-top.top c.loop-top.lasts c.index-lasts-top.result c.in-Halves.left.last (omega arith) i.fit more halves.left_last;
      whole = ap (λ ss. added_leaves c.args.leaves.now.items c.loop-top.leaves.items ++ ss)
          (part_halved a b c.args.thr cell.pair.a cell.pair.b cell.first.micros cell.last.micros c.loop-top.first c.loop-top.top c.loop-top.lasts c.index-lasts-top.result c.in-Halves.left.last
          c.requires.least c.requires.first_over c.requires.second_over i.from (omega arith) i.fit none halves.left_last)
          ∙ i.whole;
      kept = i.kept;
      root = i.root;
      no_fewer = omega (arith, i.no_fewer, c.tick.ensures);
      steps = halved_counted c.args.steps.now c.loop-top.steps c.tick.new.self c.loop-top.top (length (added_leaves c.args.leaves.now.items c.loop-top.leaves.items))
          (halved_place cell.last.micros c.loop-top.first c.loop-top.top c.loop-top.lasts c.index-lasts-top.result (omega arith) i.fit more) (omega arith) c.tick.ensures i.steps;
    }

pub returns-clause-ok : goal.returns-clause-ok
returns-clause-ok g c =
    nothing_waits (kind_between (curve_ready c.args.a.now) (curve_ready c.args.b.now) c.args.thr) c.args.cell.pair.a c.args.cell.pair.b c.loop-top.first c.loop-top.top c.loop-top.lasts
    (added_leaves c.args.leaves.now.items c.loop-top.leaves.items)
    (leaves_between (kind_between (curve_ready c.args.a.now) (curve_ready c.args.b.now) c.args.thr) c.args.cell.pair.a c.args.cell.pair.b c.args.cell.first.micros c.args.cell.last.micros)
    (let i = c.loop-top.invariant in omega (arith, i.places)) c.loop-top.invariant.whole

pub returns-clause-within : goal.returns-clause-within
returns-clause-within g c = c.loop-top.invariant.room

pub returns-clause-too_many : goal.returns-clause-too_many
returns-clause-too_many g c is = absurd (no_refusal _ _ is)

pub returns-clause-kept : goal.returns-clause-kept
returns-clause-kept g c = ap (λ (k : ℕ). take k c.loop-top.leaves.items) c.args.leaves.now.ok.0 ∙ c.loop-top.invariant.kept

pub returns-clause-root : goal.returns-clause-root
returns-clause-root g c =
    subst (λ (k : ℕ). All (λ leaf. leaf.cell.root ≡ c.args.cell.root) (drop k c.loop-top.leaves.items)) (sym c.args.leaves.now.ok.0) c.loop-top.invariant.root

-- ---- at the limit

pub returns-then-len-limit-clause-err : goal.returns-then-len-limit-clause-err
returns-then-len-limit-clause-err g c = prefix_done _ _ _ c.loop-top.invariant.whole

pub returns-then-len-limit-clause-kept : goal.returns-then-len-limit-clause-kept
returns-then-len-limit-clause-kept g c = ap (λ (k : ℕ). take k c.loop-top.leaves.items) c.args.leaves.now.ok.0 ∙ c.loop-top.invariant.kept

pub returns-then-len-limit-clause-root : goal.returns-then-len-limit-clause-root
returns-then-len-limit-clause-root g c =
    subst (λ (k : ℕ). All (λ leaf. leaf.cell.root ≡ c.args.cell.root) (drop k c.loop-top.leaves.items)) (sym c.args.leaves.now.ok.0) c.loop-top.invariant.root

-- ---- without memory

pub returns-in_err-push-in-Closed-clause-ok : goal.returns-in_err-push-in-Closed-clause-ok
returns-in_err-push-in-Closed-clause-ok g c = IfOk-from_err c.from_residual.result _ c.from_residual.ensures.0

pub returns-in_err-push-in-Closed-clause-within : goal.returns-in_err-push-in-Closed-clause-within
returns-in_err-push-in-Closed-clause-within g c = IfOk-from_err c.from_residual.result _ c.from_residual.ensures.0

pub returns-in_err-push-in-Closed-clause-too_many : goal.returns-in_err-push-in-Closed-clause-too_many
returns-in_err-push-in-Closed-clause-too_many g c is =
    let p = err_from_is_err_and c.from_residual.result c.from_residual.ensures.1 in
    absurd (not_too_many _ _ p.1 p.2 is)

pub returns-in_err-push-in-Closed-clause-err : goal.returns-in_err-push-in-Closed-clause-err
returns-in_err-push-in-Closed-clause-err g c =
    let p = err_from_is_err_and c.from_residual.result c.from_residual.ensures.1 in
    rw (p.1, c.in_err-push-in-Closed.ensures.items) (prefix_done _ _ _ c.loop-top.invariant.whole)

pub returns-in_err-push-in-Closed-clause-kept : goal.returns-in_err-push-in-Closed-clause-kept
returns-in_err-push-in-Closed-clause-kept g c =
    rw (c.in_err-push-in-Closed.ensures.items) (ap (λ (k : ℕ). take k c.loop-top.leaves.items) c.args.leaves.now.ok.0 ∙ c.loop-top.invariant.kept)

pub returns-in_err-push-in-Closed-clause-root : goal.returns-in_err-push-in-Closed-clause-root
returns-in_err-push-in-Closed-clause-root g c =
    let root = c.args.cell.root in
    subst (λ (xs : List Leaf). All (λ leaf. leaf.cell.root ≡ root) (drop c.args.leaves.now.len xs)) (sym c.in_err-push-in-Closed.ensures.items)
    (subst (λ (k : ℕ). All (λ leaf. leaf.cell.root ≡ root) (drop k c.loop-top.leaves.items)) (sym c.args.leaves.now.ok.0) c.loop-top.invariant.root)

-- ---- how often was looked

pub returns-clause-no_fewer : goal.returns-clause-no_fewer
returns-clause-no_fewer g c = c.loop-top.invariant.no_fewer

pub returns-clause-steps : goal.returns-clause-steps
returns-clause-steps g c =
    let i = c.loop-top.invariant in
    let cell = c.args.cell in
    all_looks (kind_between (curve_ready c.args.a.now) (curve_ready c.args.b.now) c.args.thr) cell.pair.a cell.pair.b cell.first.micros cell.last.micros c.args.steps.now c.loop-top.steps
    (added_leaves c.args.leaves.now.items c.loop-top.leaves.items) (returns-clause-ok g c) (omega (arith, i.steps, i.place))

pub returns-clause-few_steps : goal.returns-clause-few_steps
returns-clause-few_steps g c = let all = returns-clause-steps g c in omega (arith, all)

pub returns-then-len-limit-clause-no_fewer : goal.returns-then-len-limit-clause-no_fewer
returns-then-len-limit-clause-no_fewer g c = c.loop-top.invariant.no_fewer

pub returns-then-len-limit-clause-few_steps : goal.returns-then-len-limit-clause-few_steps
returns-then-len-limit-clause-few_steps g c =
    let i = c.loop-top.invariant in
    let cell = c.args.cell in
    few_looks (kind_between (curve_ready c.args.a.now) (curve_ready c.args.b.now) c.args.thr) cell.pair.a cell.pair.b cell.first.micros cell.last.micros c.loop-top.first c.loop-top.top
    c.args.steps.now c.loop-top.steps c.loop-top.lasts (added_leaves c.args.leaves.now.items c.loop-top.leaves.items) (omega arith) i.whole (omega (arith, i.steps, i.places))

pub returns-in_err-push-in-Closed-clause-no_fewer : goal.returns-in_err-push-in-Closed-clause-no_fewer
returns-in_err-push-in-Closed-clause-no_fewer g c = omega (arith, c.loop-top.invariant.no_fewer, c.tick.ensures)

pub returns-in_err-push-in-Closed-clause-few_steps : goal.returns-in_err-push-in-Closed-clause-few_steps
returns-in_err-push-in-Closed-clause-few_steps g c =
    let i = c.loop-top.invariant in
    let cell = c.args.cell in
    few_looks (kind_between (curve_ready c.args.a.now) (curve_ready c.args.b.now) c.args.thr) cell.pair.a cell.pair.b cell.first.micros cell.last.micros c.loop-top.first c.loop-top.top
    c.args.steps.now c.tick.new.self c.loop-top.lasts (added_leaves c.args.leaves.now.items c.loop-top.leaves.items) (omega arith) i.whole (omega (arith, i.steps, i.places, c.tick.ensures))
