-- How much a run may take: objects, nodes of all tracks, objects times slots, and leaves.
use Rattle.std.specs.Prelude.{ℕ}
use Rattle.cj_base.specs.declared.limits.Limits.{Limits}

pub record PlainLimits : Type 0 where
  pub objects : ℕ
  pub nodes : ℕ
  pub object_slots : ℕ
  pub leaves : ℕ

abbrev pub plain_limits : Limits → PlainLimits
plain_limits l = record { objects = l.objects; nodes = l.nodes; object_slots = l.object_slots; leaves = l.leaves }

-- those of a run that is not told any
abbrev pub USUAL : PlainLimits
USUAL = record { objects = 2000; nodes = 2_000_000; object_slots = 4_000_000; leaves = 4_000_000 }
