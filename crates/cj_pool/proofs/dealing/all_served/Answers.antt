use Rattle.std.proofs.lemmas.Result.{err_from_is_err_and}
use Rattle.std.proofs.Common.{◌≡◌, [], ◌∷◌, ◌++◌, Ok, map, length, append-nil, append_assoc, sym, ap, ◌∙◌, arith}
use Rattle.std.specs.Vec.Iter.{into_iter_items}
use Rattle.std.proofs.lemmas.List.{map_push, nil_from_length}
use Rattle.cj_pool.proofs.dealing.all_served.Goals as goal

pub returns-in_err-station : goal.returns-in_err-station
returns-in_err-station g c = let p = err_from_is_err_and c.from_residual.result c.from_residual.ensures.1 in rw p.1 tt

pub returns-in_err-push : goal.returns-in_err-push
returns-in_err-push g c = let p = err_from_is_err_and c.from_residual-in_err-push.result c.from_residual-in_err-push.ensures.1 in rw p.1 tt

pub returns : goal.returns
returns g c =
    let whole = c.loop-station.invariant in
    let rest = into_iter_items c.loop-station.station-iterator in
    let none : rest ≡ [] = nil_from_length rest (sym whole.left ∙ c.in-None.ensures.steps.0) in
    let done = map Ok c.loop-station.stations.items in
    sym (append-nil done) ∙ (ap (λ left. done ++ left) (sym none) ∙ whole.whole)

pub loop-station-preserved : goal.loop-station-preserved
loop-station-preserved g c =
    let i = c.loop-station.invariant in
    let rest = into_iter_items c.next.new.self in
    let done = map Ok c.loop-station.stations.items in
    let s = c.in_ok-station.field-0 in
    let step = c.in-Some.ensures.steps.0 ∙ ap (λ given. given ∷ rest) c.in_ok-station.was in
    let count = c.in-Some.ensures.steps.1 in
    record {
      left = omega (arith, i.left, count, ap length c.in-Some.ensures.steps.0);
      whole = ap (λ stations. map Ok stations ++ rest) c.in_ok-push.ensures.items
          ∙ (ap (λ now. now ++ rest) (map_push Ok c.loop-station.stations.items s)
          ∙ (append_assoc done (Ok s ∷ []) rest ∙ (ap (λ left. done ++ left) (sym step) ∙ i.whole)));
    }
