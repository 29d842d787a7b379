use Rattle.std.proofs.Common.{◌≡◌, ◌++◌, ◌∷◌, [], length, sym, ap, ◌∙◌, subst, arith, length-append}
use Rattle.std.specs.Prelude.{All}
use Rattle.std.proofs.lemmas.List.{with_items_is}
use Rattle.std.proofs.lemmas.Result.{err_from_is_err_and}
use Rattle.cj_pool.specs.Stations.{AreStations, IsUnused, IsUnopened}
use Rattle.cj_pool.proofs.growing.new_stations.Goals as goal

pub loop-number-init : goal.loop-number-init
loop-number-init g c =
    let none = ap length c.new-stations.ensures.items in
    record {
      len = none;
      stations = λ j d lt. absurd (omega arith);
      unused = λ j d lt. absurd (omega arith);
      unopened = λ j d lt. absurd (omega arith);
    }

pub loop-number-preserved : goal.loop-number-preserved
loop-number-preserved g c =
    let i = c.loop-number.invariant in
    let swap = c.in_ok-swap_with_each.ensures in
    let start = c.deref_mut.ensures.value in
    let len : length c.swap_with_each.new.stations ≡ length c.loop-number.stations.items = omega
    (arith, c.swap_with_each.auto.stations, ap length start) in
    let items : c.push.new.self.items ≡ c.swap_with_each.new.stations ++ c.swap_with_each.new.next ∷ [] =
    c.in_ok-push.ensures.items ∙ ap (λ xs. xs ++ c.swap_with_each.new.next ∷ [])
    (with_items_is c.loop-number.stations c.swap_with_each.new.stations (omega (arith, len, c.loop-number.stations.ok.0))) in
    record {
      len = ap length items ∙ omega (arith, len, i.len, length-append c.swap_with_each.new.stations (c.swap_with_each.new.next ∷ []));
      stations = subst (AreStations g.K.Run.workers) (sym items) swap.stations;
      unused = subst (All IsUnused) (sym items) (swap.unused (subst (All IsUnused) (sym start) i.unused));
      unopened = subst (All IsUnopened) (sym items) (swap.unopened (subst (All IsUnopened) (sym start) i.unopened));
    }

pub returns-in_err-next : goal.returns-in_err-next
returns-in_err-next g c =
    let p = err_from_is_err_and c.from_residual.result c.from_residual.ensures.1 in
    rw p.1 (record { len = tt; stations = tt; unused = tt; unopened = tt })

pub returns-in_err-swap_with_each : goal.returns-in_err-swap_with_each
returns-in_err-swap_with_each g c =
    let p = err_from_is_err_and c.from_residual-in_err-swap_with_each.result c.from_residual-in_err-swap_with_each.ensures.1 in
    rw p.1 (record { len = tt; stations = tt; unused = tt; unopened = tt })

pub returns-in_err-push : goal.returns-in_err-push
returns-in_err-push g c =
    let p = err_from_is_err_and c.from_residual-in_err-push.result c.from_residual-in_err-push.ensures.1 in
    rw p.1 (record { len = tt; stations = tt; unused = tt; unopened = tt })
