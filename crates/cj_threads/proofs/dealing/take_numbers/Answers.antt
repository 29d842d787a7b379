use Rattle.std.proofs.Common.{All, subst, sym, arith}
use Rattle.std.proofs.lemmas.List.Elements.{All-push}
use Rattle.cj_threads.specs.Dealing.{IsDone}
use Rattle.cj_threads.proofs.dealing.take_numbers.Goals as goal

pub loop-preserved : goal.loop-preserved
loop-preserved g c =
    let P = IsDone g.F.Fn c.args.f.now c.args.count in
    subst (All P) (sym c.in_ok-push.ensures.items)
    (All-push P c.loop.done.items (record { number = c.fetch_add-number.result; output = c.f-output.result }) c.loop.invariant
    (record { number = omega (arith, c.if-number-count.false); output = record { met = c.f-output.ensures } }))
