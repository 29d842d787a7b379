-- Looks: what becomes of a cell.
use Rattle.std.specs.Prelude.{Option, Some, None}
use Rattle.cj_case.specs.declared.kind.Kind.{Kind}
use Rattle.cj_case.specs.declared.cell.Cell.{Cell}
use Rattle.cj_case.specs.declared.leaf.Leaf.{Leaf}
use Rattle.cj_cells.specs.declared.outcome.Look.{Look}
use Rattle.cj_cells.specs.declared.outcome.Look.TheVariants.{Closed, Halves}

-- the kind of a cell that is closed, none where it is halved
abbrev pub kind_found : Look → Option Kind
kind_found (Closed leaf) = Some leaf.kind
kind_found (Halves left right) = None

-- what holds of the leaf, where there is one
abbrev pub IfClosed : Look → (Leaf → Type 0) → Type 0
IfClosed (Closed leaf) P = P leaf
IfClosed (Halves left right) P = Unit {0}

-- what holds of the halves, where there are two
abbrev pub IfHalves : Look → (Cell → Cell → Type 0) → Type 0
IfHalves (Closed leaf) P = Unit {0}
IfHalves (Halves left right) P = P left right
