-- A ledger and its shares as contracts see them.
use Rattle.std.specs.Prelude.{◌≡◌}
pub use Rattle.atomic_table.specs.Seated.{TableId}
use Rattle.cj_ledger.specs.Counts.{fresh}
use Rattle.cj_ledger.specs.declared.count.Count.{Count}
use Rattle.cj_ledger.specs.declared.count.Opening.{Opening}

-- which ledger it is, and how it was opened
pub record LedgerSeen : Type 0 where
  pub id : TableId
  pub opening : Opening

-- which ledger a share is of, and what it has counted
pub record ShareSeen : Type 0 where
  pub ledger : TableId
  pub count : Count

-- a share of this ledger
abbrev pub IsOf : LedgerSeen → ShareSeen → Type 0
IsOf l s = (s.ledger ≡ l.id) × (s.count.opening ≡ l.opening)

-- a share of this ledger that made no step
abbrev pub IsNew : LedgerSeen → ShareSeen → Type 0
IsNew l s = (s.ledger ≡ l.id) × (s.count ≡ fresh l.opening s.count.roots)
