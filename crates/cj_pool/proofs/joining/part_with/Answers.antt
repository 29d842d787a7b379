use Rattle.std.proofs.Common.{◌≡◌, ◌+◌, [], ◌∷◌, length, get_or, rules, vec_len, refl, sym, ap, ◌∙◌, arith, length-append}
use Rattle.std.proofs.lemmas.List.{get_or_default}
use Rattle.crossbeam_deque.specs.Handles.{worker_deque}
use Rattle.cj_pool.proofs.PartLemmas.{last_pass, pass_of, part_begins, at_station, below_split, above_last, part_parts, part_step, part_given}
use Rattle.cj_pool.proofs.joining.part_with.Goals as goal

pub loop-pass-init : goal.loop-pass-init
loop-pass-init g c = part_begins g.K.Run.workers c.args.stations.now c.args.last.now c.requires.stations

pub trade-requires-clause-owners : goal.trade-requires-clause-owners
trade-requires-clause-owners g c =
    let l = c.loop-pass in
    let i = c.len.result in
    let at : i ≡ length c.pop.new.self.items = omega (arith, c.len.ensures, c.pop.new.self.ok.0) in
    let count : length l.last.below.items ≡ i + 1 = ap length c.in-Some.ensures.items ∙ omega
    (arith, at, length-append c.pop.new.self.items (c.in-Some.pass ∷ [])) in
    let old = get_or l.stations i c.index-stations-len.result in
    let is = get_or_default l.stations i c.index-stations-len.result old (omega (arith, count, l.invariant.few)) in
    part_parts g.K.Run.workers c.args.stations.now c.args.last.now l.stations l.last l.invariant old i count is c.requires.few

pub trade-requires-clause-to_earlier : goal.trade-requires-clause-to_earlier
trade-requires-clause-to_earlier g c =
    let l = c.loop-pass in
    let i = c.len.result in
    let at : i ≡ length c.pop.new.self.items = omega (arith, c.len.ensures, c.pop.new.self.ok.0) in
    let count : length l.last.below.items ≡ i + 1 = ap length c.in-Some.ensures.items ∙ omega
    (arith, at, length-append c.pop.new.self.items (c.in-Some.pass ∷ [])) in
    let old = get_or l.stations i c.index-stations-len.result in
    let is = get_or_default l.stations i c.index-stations-len.result old (omega (arith, count, l.invariant.few)) in
    let pass = last_pass l.last.below.items c.pop.new.self.items c.in-Some.pass c.in-Some.ensures.items l.invariant.ready in
    let split = below_split g.K.Run.workers c.args.stations.now c.args.last.now l.stations l.last l.invariant old i count is in
    (pass_of c.in-Some.pass (worker_deque old.own) pass.ready (pass.deque _ (worker_deque old.own) split).1, pass.ready)

pub trade-requires-clause-to_last : goal.trade-requires-clause-to_last
trade-requires-clause-to_last g c =
    let l = c.loop-pass in
    let i = c.len.result in
    let at : i ≡ length c.pop.new.self.items = omega (arith, c.len.ensures, c.pop.new.self.ok.0) in
    let count : length l.last.below.items ≡ i + 1 = ap length c.in-Some.ensures.items ∙ omega
    (arith, at, length-append c.pop.new.self.items (c.in-Some.pass ∷ [])) in
    let old = get_or l.stations i c.index-stations-len.result in
    let is = get_or_default l.stations i c.index-stations-len.result old (omega (arith, count, l.invariant.few)) in
    let here = at_station g.K.Run.workers c.args.stations.now c.args.last.now l.stations l.last l.invariant old i count is in
    (above_last g.K.Run.workers c.args.stations.now c.args.last.now l.stations l.last l.invariant old i count is, here.ready_above)

pub loop-pass-preserved : goal.loop-pass-preserved
loop-pass-preserved g c =
    let l = c.loop-pass in
    let i = c.len.result in
    let at : i ≡ length c.pop.new.self.items = omega (arith, c.len.ensures, c.pop.new.self.ok.0) in
    let count : length l.last.below.items ≡ i + 1 = ap length c.in-Some.ensures.items ∙ omega
    (arith, at, length-append c.pop.new.self.items (c.in-Some.pass ∷ [])) in
    let old = get_or l.stations i c.index-stations-len.result in
    let is = get_or_default l.stations i c.index-stations-len.result old (omega (arith, count, l.invariant.few)) in
    let pass = last_pass l.last.below.items c.pop.new.self.items c.in-Some.pass c.in-Some.ensures.items l.invariant.ready in
    let t = c.trade.ensures in
    part_step g.K.Run.workers c.args.stations.now c.args.last.now l.stations l.last l.invariant old i count is c.trade.new.earlier
    (record { number = l.last.number; own = l.last.own; below = c.pop.new.self; above = l.last.above })
    c.trade.new.last c.in-Some.pass refl refl pass (sym at)
    (record { numbers = t.numbers; below = t.below; above = t.above; parts = t.parts; less = t.less; taken = t.taken })

pub returns-clause-given : goal.returns-clause-given
returns-clause-given g c =
    let l = c.loop-pass in
    let none : vec_len l.last.below ≡ 0 = search (rules, c.in_default.ensures.cases, c.in_default.not-Some) in
    part_given g.K.Run.workers c.args.stations.now c.args.last.now l.stations l.last l.invariant (omega (arith, none, l.last.below.ok.0))
    (record { number = l.last.number; own = l.last.own; below = c.pop.new.self; above = l.last.above }) refl
