-- What a share counts, and how each of its steps changes it.
use Rattle.std.specs.Prelude.{ℕ, ◌+◌, ◌-◌}
use Rattle.cj_ledger.specs.declared.count.Count.{Count}
use Rattle.cj_ledger.specs.declared.count.Loaded.{Loaded}
use Rattle.cj_ledger.specs.declared.count.Opening.{Opening}
use Rattle.cj_ledger.specs.declared.why.Why.{Why}
use Rattle.cj_ledger.specs.declared.why.Why.TheVariants.{Cells, Memory}

-- a word of which nothing was told
abbrev pub untold : Loaded
untold = record { times = 0; last = 0 }

-- the same word, of which this value was told
abbrev pub told : Loaded → ℕ → Loaded
told word value = record { times = word.times + 1; last = value }

-- no part, and nothing counted
abbrev pub nobody : Count
nobody = record {
  parts = 0;
  opening = record { roots = 0; shares = 0 };
  roots = 0;
  firsts = 0;
  seconds = 0;
  closes = 0;
  live = untold;
  leaves = untold;
  halts = untold;
  cells = 0;
  memory = 0;
}

-- a share that made no step: it has so many roots, and was told of all roots that they are live
abbrev pub fresh : Opening → ℕ → Count
fresh opening roots = record nobody { parts = 1; opening = opening; roots = roots; live = record { times = 1; last = opening.roots } }

-- who opens a ledger has all parts and all roots
abbrev pub opened : Opening → Count
opened opening = record (fresh opening opening.roots) { parts = opening.shares }

-- after a load of the live cells
abbrev pub told_live : Count → ℕ → Count
told_live v value = record v { live = told v.live value }

-- after a load of the leaves
abbrev pub told_leaves : Count → ℕ → Count
told_leaves v value = record v { leaves = told v.leaves value }

-- after a load of the halt bits
abbrev pub told_halts : Count → ℕ → Count
told_halts v value = record v { halts = told v.halts value }

-- after the first step of a split
abbrev pub after_first : Count → Count
after_first v = record v { firsts = v.firsts + 1 }

-- after the second step of a split, which was answered this number of leaves
abbrev pub after_second : Count → ℕ → Count
after_second v leaves = record v { seconds = v.seconds + 1; leaves = told v.leaves leaves }

-- after a split that was answered this number of leaves
abbrev pub after_split : Count → ℕ → Count
after_split v leaves = after_second (after_first v) leaves

-- after so many cells were closed
abbrev pub after_closes : Count → ℕ → Count
after_closes v cells = record v { closes = v.closes + cells }

-- after a cause to stop was set
abbrev pub after_halt : Why → Count → Count
after_halt Cells v = record v { cells = v.cells + 1 }
after_halt Memory v = record v { memory = v.memory + 1 }

-- a share of which one part was cut off
abbrev pub less_a_part : Count → Count
less_a_part v = record v { parts = v.parts - 1 }

-- the share that was cut off: no count, and what the other was told of the live cells
abbrev pub cut_off : Count → Count
cut_off v = record nobody { parts = 1; opening = v.opening; live = v.live }

-- a share that took in another's parts and counts
abbrev pub both : Count → Count → Count
both v w = record v {
  parts = v.parts + w.parts;
  roots = v.roots + w.roots;
  firsts = v.firsts + w.firsts;
  seconds = v.seconds + w.seconds;
  closes = v.closes + w.closes;
  cells = v.cells + w.cells;
  memory = v.memory + w.memory;
}
