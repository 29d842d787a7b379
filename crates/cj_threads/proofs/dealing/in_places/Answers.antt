use Rattle.std.proofs.Common.{◌∙◌, ap, length, subst, sym, arith}
use Rattle.std.specs.Prelude.{IfSome, Some, None}
use Rattle.std.proofs.lemmas.List.{length-replicate, length-set}
use Rattle.std.proofs.lemmas.List.Elements.{All-pop}
use Rattle.cj_threads.specs.Dealing.{IsDone, HoldWhatIsDone}
use Rattle.cj_threads.proofs.DealingLemmas.{nothing_held, one_more_held}
use Rattle.cj_threads.proofs.dealing.in_places.Goals as goal

pub loop-one-init : goal.loop-one-init
loop-one-init g c =
    record {
      done = c.requires;
      len = ap length c.in_ok-places.ensures ∙ length-replicate c.args.count None;
      hold = subst (HoldWhatIsDone g.F.Fn c.args._f.now) (sym c.in_ok-places.ensures) (nothing_held g.F.Fn c.args._f.now c.args.count);
    }

pub put_at-requires : goal.put_at-requires
put_at-requires g c =
    let P = IsDone g.F.Fn c.args._f.now c.args.count in
    let popped = All-pop P c.loop-one.done.items c.pop.new.self.items c.pop.result c.pop.ensures.items c.loop-one.invariant.done in
    let this = subst (λ r. IfSome r P) c.in-Some.is popped.1 in
    omega (arith, this.number, c.loop-one.invariant.len, c.loop-one.places.ok.0)

pub loop-one-preserved : goal.loop-one-preserved
loop-one-preserved g c =
    let P = IsDone g.F.Fn c.args._f.now c.args.count in
    let i = c.loop-one.invariant in
    let places = c.loop-one.places.items in
    let one = c.in-Some.one in
    let popped = All-pop P c.loop-one.done.items c.pop.new.self.items c.pop.result c.pop.ensures.items i.done in
    let this = subst (λ r. IfSome r P) c.in-Some.is popped.1 in
    record {
      done = popped.0;
      len = ap length c.put_at.ensures ∙ length-set places one.number (Some one.output) ∙ i.len;
      hold = subst (HoldWhatIsDone g.F.Fn c.args._f.now) (sym c.put_at.ensures)
          (one_more_held g.F.Fn c.args._f.now places one.number one.output (omega (arith, this.number, i.len)) this.output i.hold);
    }
