use Rattle.std.proofs.Common.{[], ◌∷◌, ap, arith, length, length-append, ◌≡◌}
use Rattle.std.proofs.lemmas.List.{length-map}
use Rattle.crossbeam_deque.specs.Handles.{view, worker_deque, worker_view}
use Rattle.cj_pool.specs.Passes.{deques, takens}
use Rattle.cj_pool.specs.Stations.{without_last}
use Rattle.cj_pool.proofs.PartLemmas.{part_up, last_pass, traded_taken, pass_of}
use Rattle.cj_pool.proofs.joining.trade.Goals as goal

pub returns-in-Some-clause-parts : goal.returns-in-Some-clause-parts
returns-in-Some-clause-parts g c =
    let ready = c.requires.to_earlier.1 in
    let last = last_pass c.args.earlier.now.above.items c.pop.new.self.items c.in-Some.back c.in-Some.ensures.items c.requires.to_last.1 in
    let back = last.ready in
    let up = part_up (worker_view c.args.earlier.now.own) (view c.args.pass) (worker_view c.absorb.new.own) c.absorb.ensures.rule ready.parts
    ready.opening ready.pushed in
    let up' = part_up (worker_view c.args.last.now.own) (view c.in-Some.back) (worker_view c.absorb-in-Some.new.own) c.absorb-in-Some.ensures.rule
    back.parts back.opening back.pushed in (
      record { same = c.absorb.ensures.same; parts = up.0; all = up.1; opening = up.2; pushed = up.3 },
      record { same = c.absorb-in-Some.ensures.same; parts = up'.0; all = up'.1; opening = up'.2; pushed = up'.3 },
    )

pub returns-in-Some-clause-less : goal.returns-in-Some-clause-less
returns-in-Some-clause-less g c =
    let last = last_pass c.args.earlier.now.above.items c.pop.new.self.items c.in-Some.back c.in-Some.ensures.items c.requires.to_last.1 in
    ((last.deque (without_last (deques c.args.earlier.now.above.items)) (worker_deque c.args.last.now.own) c.requires.to_last.0).0, last.rest_ready)

pub returns-in-Some-clause-taken : goal.returns-in-Some-clause-taken
returns-in-Some-clause-taken g c w =
    let last = last_pass c.args.earlier.now.above.items c.pop.new.self.items c.in-Some.back c.in-Some.ensures.items c.requires.to_last.1 in
    traded_taken w (takens c.args.earlier.now.below.items) (takens c.args.earlier.now.above.items) (takens c.pop.new.self.items)
    (worker_view c.args.earlier.now.own) (worker_view c.absorb.new.own) (view c.args.pass)
    (worker_view c.args.last.now.own) (worker_view c.absorb-in-Some.new.own) (view c.in-Some.back) c.absorb.ensures.rule
    c.absorb-in-Some.ensures.rule (last.taken w)

pub absorb-requires : goal.absorb-requires
absorb-requires g c = (c.requires.owners.0, c.requires.to_earlier.0)

pub absorb-requires-in-Some : goal.absorb-requires-in-Some
absorb-requires-in-Some g c =
    let last = last_pass c.args.earlier.now.above.items c.pop.new.self.items c.in-Some.back c.in-Some.ensures.items c.requires.to_last.1 in
    let deque = worker_deque c.args.last.now.own in
    let split = last.deque (without_last (deques c.args.earlier.now.above.items)) deque c.requires.to_last.0 in
    (c.requires.owners.1, pass_of c.in-Some.back deque last.ready split.1)

pub returns-in_default : goal.returns-in_default
returns-in_default g c =
    let above = c.args.earlier.now.above in
    let all = deques above.items in
    let count : length all ≡ length above.items = length-map above.items _ in
    let none = rw c.in_default.is at c.pop.ensures.cases in
    let more = length-append (without_last all) (worker_deque c.args.last.now.own ∷ []) in
    absurd (omega (arith, none.0, above.ok.0, ap length c.requires.to_last.0, more, count))
