-- A tick as a number of microseconds.
use Rattle.std.specs.Prelude.{ℕ}
use Rattle.cj_base.specs.declared.tick.Tick.{Tick}

abbrev pub micros_of : Tick → ℕ
micros_of tick = tick.micros
