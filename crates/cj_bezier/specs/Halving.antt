-- Halving: a run of ticks is closed as one kind, or is halved until each part can be.
use Rattle.std.specs.Prelude.{◌≡◌, ℕ, zero, suc, ◌+◌, ◌-◌, ◌/◌, ◌<◌, List, [], ◌∷◌, ◌++◌, Option, Some, None, unwrap_or}
use Rattle.cj_case.specs.declared.kind.Kind.{Kind}
use Rattle.cj_case.specs.declared.kind.Kind.TheVariants.{Undecided}
use Rattle.cj_case.specs.Leaves.{PlainLeaf}

-- the last tick of the first half
abbrev pub middle : ℕ → ℕ → ℕ
middle first last = (first + last) / 2

abbrev pub closed : ℕ → ℕ → ℕ → ℕ → Kind → PlainLeaf
closed a b first last kind = record { a = a; b = b; first = first; last = last; kind = kind }

-- the leaf alone where it has a kind, and else these
abbrev pub closed_or : ℕ → ℕ → ℕ → ℕ → Option Kind → List PlainLeaf → List PlainLeaf
closed_or a b first last (Some kind) halves = closed a b first last kind ∷ []
closed_or a b first last None halves = halves

-- the leaves of the ticks from first to last of the objects a and b, where a cell of at most n + 1 ticks is judged
unfoldable pub leaves_within : (ℕ → ℕ → Option Kind) → ℕ → ℕ → ℕ → ℕ → ℕ → List PlainLeaf
leaves_within judge a b zero first last = closed a b first last (unwrap_or (judge first last) Undecided) ∷ []
leaves_within judge a b (suc n) first last =
    closed_or a b first last (judge first last)
    (leaves_within judge a b n first (middle first last) ++ leaves_within judge a b n (middle first last + 1) last)

-- the leaves of the ticks from first to last of the objects a and b; one tick is never halved
unfoldable pub leaves_between : (ℕ → ℕ → Option Kind) → ℕ → ℕ → ℕ → ℕ → List PlainLeaf
leaves_between judge a b first last = leaves_within judge a b (last - first) first last

-- how often ticks are halved: not at all where they have a kind, and else once and each half as often as it is
abbrev pub halved_or : Option Kind → ℕ → ℕ
halved_or (Some kind) halves = 0
halved_or None halves = 1 + halves

-- how often the ticks from first to last are halved, where a cell of at most n + 1 ticks is judged
unfoldable pub splits_within : (ℕ → ℕ → Option Kind) → ℕ → ℕ → ℕ → ℕ
splits_within judge zero first last = 0
splits_within judge (suc n) first last =
    halved_or (judge first last) (splits_within judge n first (middle first last) + splits_within judge n (middle first last + 1) last)

-- how often the ticks from first to last are halved
abbrev pub splits_between : (ℕ → ℕ → Option Kind) → ℕ → ℕ → ℕ
splits_between judge first last = splits_within judge (last - first) first last

-- a cell of the halving tree over the ticks from first to last: those ticks, or a half of a cell of the tree that is not closed
pub data InHalving (judge : ℕ → ℕ → Option Kind) (first last : ℕ) : ℕ → ℕ → Type 0 where
  whole : InHalving judge first last first last
  left : (lo hi : ℕ) → InHalving judge first last lo hi → lo < hi → judge lo hi ≡ None → InHalving judge first last lo (middle lo hi)
  right : (lo hi : ℕ) → InHalving judge first last lo hi → lo < hi → judge lo hi ≡ None → InHalving judge first last (middle lo hi + 1) hi
