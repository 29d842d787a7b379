use Rattle.std.proofs.Common.{◌≡◌, ◌∙◌, ◌≤◌, ◌*◌, arith, length, subst, sym}
use Rattle.std.proofs.lemmas.Result.{IfOk-weaker}
use Rattle.cj_threads.proofs.DealingLemmas.{as_many, by_parts_made}
use Rattle.cj_threads.proofs.dealt_parts.map_parts.Goals as goal

pub returns-clause-some : goal.returns-clause-some
returns-clause-some g c =
    let outputs = c.in_ok-outputs.outputs in
    IfOk-weaker c.all_made.result _ _
    (λ made same. omega (arith, outputs.ok.0, c.in_ok-outputs.ensures.len, c.part_count-count.ensures.some, as_many made.items outputs.items same)) c.all_made.ensures

pub returns-clause-each : goal.returns-clause-each
returns-clause-each g c =
    let outputs = c.in_ok-outputs.outputs in
    let many : length outputs.items ≡ c.part_count-count.result = sym outputs.ok.0 ∙ c.in_ok-outputs.ensures.len in
    IfOk-weaker c.all_made.result _ _
    (λ made same. by_parts_made g.F.Fn c.args.f.now c.args.size c.args.list.now made.items outputs.items same
    (λ i d lt. (c.in_ok-outputs.ensures.each i d (omega (arith, lt, many))).1.met)
    (subst (λ n. length c.args.list.now ≤ n * c.args.size) (sym many) c.part_count-count.ensures.covers)) c.all_made.ensures
