use Rattle.std.proofs.Common.{rules, ◌≡◌, ◌+◌, ◌<◌, arith, sym, ap, ◌∙◌, All, subst}
use Rattle.std.specs.Prelude.{vec_len}
use Rattle.cj_ledger.specs.Counts.{both}
use Rattle.cj_ledger.specs.Shares.{LedgerSeen, ShareSeen, IsOf}
use Rattle.cj_ledger.specs.declared.count.Count.{Count}
use Rattle.cj_ledger.proofs.ShareLemmas.{popped}
use Rattle.cj_ledger.proofs.StepLemmas.{takes_in, loads_live, loads_leaves}
use Rattle.cj_ledger.proofs.ledger.Ledger.total.Goals as goal

pub loop-share-init : goal.loop-share-init
loop-share-init c =
    let i = c.first.inside in
    let l : LedgerSeen = record { id = c.self.inside.table.shared.table_id; opening = c.self.inside.opening } in
    let s : ShareSeen = record { ledger = i.seat.table_id; count = i.seat.me.0 } in
    let mine = subst (λ (v : LedgerSeen). All (IsOf v) c.args.shares.items) (sym c.self.view_is) c.requires.mine in
    let p = popped l c.args.shares.items c.pop.new.self.items c.pop.result c.in-Some.first s c.pop.ensures.items c.in-Some.is c.first.view_is mine in
    let all = c.requires.all ∙ ap (λ (v : LedgerSeen). v.opening.shares) (sym c.self.view_is) in
    let len : i.seat.me.0.parts + vec_len c.pop.new.self ≡ c.self.inside.opening.shares = omega (arith, p.3, all, c.first.invariant.0) in
    let some_part : 0 < i.seat.me.0.parts = omega (arith, c.first.invariant.0) in (
      p.1.0,
      c.first.invariant.2,
      p.0,
      p.1.1,
      len,
      some_part,
      c.first.invariant.1,
      (let e = p.2 (λ v. v.count.roots) in omega (arith, e)),
      (let e = p.2 (λ v. v.count.firsts) in omega (arith, e)),
      (let e = p.2 (λ v. v.count.closes) in omega (arith, e)),
    )

pub loop-share-preserved : goal.loop-share-preserved
loop-share-preserved c =
    let i = c.share.inside in
    let inv = c.loop-share.invariant in
    let l : LedgerSeen = record { id = c.self.inside.table.shared.table_id; opening = c.self.inside.opening } in
    let s : ShareSeen = record { ledger = i.seat.table_id; count = i.seat.me.0 } in
    let p = popped l c.loop-share.shares.items c.pop-in-loop-share.new.self.items c.pop-in-loop-share.result c.in-Some-pop.share s c.pop-in-loop-share.ensures.items c.in-Some-pop.is c.share.view_is inv.2 in
    let now = c.join_seat.new.seat.me.0 in
    let me : now ≡ both c.loop-share.seat.me.0 i.seat.me.0 = ap (λ m. m.0) c.join_seat.ensures.2 in
    let parts = ap (λ (v : Count). v.parts) me in
    let firsts = ap (λ (v : Count). v.firsts) me in
    let seconds = ap (λ (v : Count). v.seconds) me in
    let roots = ap (λ (v : Count). v.roots) me in
    let closes = ap (λ (v : Count). v.closes) me in
    let one = c.share.invariant.0 in
    let even = c.share.invariant.1 in
    let len : now.parts + vec_len c.pop-in-loop-share.new.self ≡ c.self.inside.opening.shares = omega (arith, p.3, one, parts, inv.4) in
    let some_part : 0 < now.parts = omega (arith, one, parts) in
    let even' : now.firsts ≡ now.seconds = omega (arith, firsts, seconds, even, inv.6) in (
      c.join_seat.ensures.0 ∙ inv.0,
      ap (λ m. m.1) c.join_seat.ensures.2 ∙ inv.1,
      p.0,
      ap (λ (v : Count). v.opening) me ∙ inv.3,
      len,
      some_part,
      even',
      (let e = p.2 (λ v. v.count.roots) in omega (arith, roots, e, inv.7)),
      (let e = p.2 (λ v. v.count.firsts) in omega (arith, firsts, e, inv.8)),
      (let e = p.2 (λ v. v.count.closes) in omega (arith, closes, e, inv.9)),
    )

pub join_seat-requires : goal.join_seat-requires
join_seat-requires c =
    let inv = c.loop-share.invariant in
    let v = c.loop-share.seat in
    let other = c.share.inside.seat in
    (inv.0, search rules, search rules, search rules, takes_in c.self.inside.table.shared.key v.id v.me.0 other.id other.me.0 inv.5 inv.6 c.share.invariant.1)

pub load-live-requires : goal.load-live-requires
load-live-requires c =
    let table = c.self.inside.table.shared in
    let inv = c.loop-share.invariant in
    let v = c.loop-share.seat in
    (inv.0, search rules, loads_live table.key table.table_id.slots v.id v.me.0 v.me.1 inv.5)

pub load-leaves-requires : goal.load-leaves-requires
load-leaves-requires c =
    let table = c.self.inside.table.shared in
    let v = c.load-live.new.seat in
    let some_part : 0 < v.me.0.parts = search (rules, c.loop-share.invariant.5) in
    (search rules, search rules, loads_leaves table.key table.table_id.slots v.id v.me.0 v.me.1 some_part)
