use Rattle.std.proofs.Common.{◌∙◌, ◌≡◌, ◌+◌, ◌-◌, vec_len, ap, sym, arith}
use Rattle.std.specs.List.{sum_by}
use Rattle.std.proofs.lemmas.List.Elements.{All-push, All-same}
use Rattle.std.proofs.lemmas.List.Sums.{sum_by_push}
use Rattle.cj_ledger.specs.Counts.{cut_off, fresh, less_a_part, opened}
use Rattle.cj_ledger.specs.Shares.{IsNew, IsOf, ShareSeen}
use Rattle.cj_ledger.specs.declared.count.Count.{Count}
use Rattle.cj_ledger.proofs.ledger.Ledger.shares_of.Goals as goal

pub loop-preserved : goal.loop-preserved
loop-preserved c =
    let l = c.args.self.now in
    let inv = c.loop.invariant in
    let made = c.loop.made.items in
    let left = c.part_of.ensures.left in
    let share = c.part_of.ensures.share ∙ ap (λ (v : Count). record { ledger = l.id; count = cut_off v }) inv.parts in
    let roots = ap (λ (s : ShareSeen). s.count.roots) share in
    let longer : vec_len c.push.new.self ≡ vec_len c.loop.made + 1 = omega (arith, c.in_ok-push.ensures.len) in
    record {
      table = c.part_of.ensures.table;
      handed = (λ i. (left i).1) ∙ inv.handed;
      parts = (λ i. (left i).0) ∙ ap less_a_part inv.parts ∙ ap (λ n. record (opened l.opening) { parts = n }) (omega (arith, longer));
      count = omega (arith, longer, inv.count);
      mine = All-same (IsOf l) _ _ c.in_ok-push.ensures.items (All-push (IsOf l) made _ inv.mine (ap (λ (s : ShareSeen). s.ledger) share, ap (λ (s : ShareSeen). s.count.opening) share));
      new = All-same (IsNew l) _ _ c.in_ok-push.ensures.items (All-push (IsNew l) made _ inv.new (ap (λ (s : ShareSeen). s.ledger) share, ap (λ (s : ShareSeen). s.count) share ∙ sym (ap (fresh l.opening) roots)));
      roots = ap (sum_by (λ (s : ShareSeen). s.count.roots)) c.in_ok-push.ensures.items ∙ sum_by_push (λ (s : ShareSeen). s.count.roots) made _ ∙ omega (arith, inv.roots, roots);
    }

pub returns-clause-mine : goal.returns-clause-mine
returns-clause-mine c = let l = c.args.self.now in
    All-same (IsOf l) _ _ c.in_ok-push-2.ensures.items (All-push (IsOf l) c.loop.made.items _ c.loop.invariant.mine (c.loop.invariant.table, ap (λ (v : Count). v.opening) c.loop.invariant.parts))

pub returns-clause-new : goal.returns-clause-new
returns-clause-new c =
    let l = c.args.self.now in
    let inv = c.loop.invariant in
    let one : l.opening.shares - vec_len c.loop.made ≡ 1 = omega (arith, inv.count, c.loop-test.false, c.requires.count) in
    let last = inv.parts ∙ ap (λ n. record (opened l.opening) { parts = n }) one in
    let roots = ap (λ (v : Count). v.roots) last in
    All-same (IsNew l) _ _ c.in_ok-push-2.ensures.items (All-push (IsNew l) c.loop.made.items _ inv.new (inv.table, last ∙ sym (ap (fresh l.opening) roots)))

pub returns-clause-roots : goal.returns-clause-roots
returns-clause-roots c =
    ap (sum_by (λ (s : ShareSeen). s.count.roots)) c.in_ok-push-2.ensures.items ∙ sum_by_push (λ (s : ShareSeen). s.count.roots) c.loop.made.items _
    ∙ omega (arith, c.loop.invariant.roots, ap (λ (v : Count). v.roots) c.loop.invariant.parts)
