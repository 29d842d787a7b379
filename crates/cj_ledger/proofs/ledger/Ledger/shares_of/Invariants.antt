use Rattle.std.proofs.Common.{◌≡◌, ◌+◌, ◌-◌, [], vec_len, All}
use Rattle.std.specs.List.{sum_by}
use Rattle.cj_ledger.specs.Counts.{opened}
use Rattle.cj_ledger.specs.Shares.{IsNew, IsOf}
use Rattle.cj_ledger.proofs.ledger.Ledger.shares_of.Given as goal

abbrev pub invariant-loop : goal.invariant-loop
invariant-loop l = record {
  table : l.seat.table_id ≡ l.self.id;
  handed : l.seat.me.1 ≡ [];
  parts : l.seat.me.0 ≡ record (opened l.self.opening) { parts = l.self.opening.shares - vec_len l.made };
  count : vec_len l.made + 1 ≡ l.counter;
  mine : All (IsOf l.self) l.made.items;
  new : All (IsNew l.self) l.made.items;
  roots : sum_by (λ s. s.count.roots) l.made.items ≡ 0;
}
