-- Leaves as plain facts: consecutive ticks of a pair, with the kind that they were found to be of; and which ticks are a leaf's.
use Rattle.std.specs.Prelude.{◌≡◌, ℕ, ◌≤◌, Bool, true, false, List, map}
use Rattle.cj_case.specs.declared.kind.Kind.{Kind}
use Rattle.cj_case.specs.declared.kind.Kind.TheVariants.{Far, Near, Undecided}
use Rattle.cj_case.specs.declared.leaf.Leaf.{Leaf}

abbrev pub same_kind : Kind → Kind → Bool
same_kind Far Far = true
same_kind Far Near = false
same_kind Far Undecided = false
same_kind Near Far = false
same_kind Near Near = true
same_kind Near Undecided = false
same_kind Undecided Far = false
same_kind Undecided Near = false
same_kind Undecided Undecided = true

-- the ticks from first to last of the objects a and b, numbered from 0
pub record PlainLeaf : Type 0 where
  pub a : ℕ
  pub b : ℕ
  pub first : ℕ
  pub last : ℕ
  pub kind : Kind

abbrev pub plain_leaf : Leaf → PlainLeaf
plain_leaf leaf = record {
  a = leaf.cell.pair.a;
  b = leaf.cell.pair.b;
  first = leaf.cell.first.micros;
  last = leaf.cell.last.micros;
  kind = leaf.kind;
}

abbrev pub plain_leaves : List Leaf → List PlainLeaf
plain_leaves leaves = map plain_leaf leaves

-- the tick is one of the leaf's, which is of the objects a and b
pub record IsTickOf (a b m : ℕ) (s : PlainLeaf) : Type 0 where
  pub first_object : s.a ≡ a
  pub second_object : s.b ≡ b
  pub from : s.first ≤ m
  pub to : m ≤ s.last

-- the leaf is of this kind, and the tick is one of its own
pub record Covers (kind : Kind) (tick : ℕ) (s : PlainLeaf) : Type 0 where
  pub same : s.kind ≡ kind
  pub from : s.first ≤ tick
  pub to : tick ≤ s.last

-- the tick lies in this leaf, which is of this kind and of the objects a and b
pub record LiesIn (kind : Kind) (a b tick : ℕ) (s : PlainLeaf) : Type 0 where
  pub objects : (s.a ≡ a) × (s.b ≡ b)
  pub covered : Covers kind tick s
