-- Bytes that come in parts.
use Rattle.std.specs.Prelude.{ℕ, List}
use Rattle.std.specs.List.{flat_map}
use Rattle.std.specs.Global.{Vec}

-- the parts, one behind another
abbrev pub joined : List (Vec ℕ) → List ℕ
joined parts = flat_map (λ part. part.items) parts
