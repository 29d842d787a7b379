-- Encounters of a list of leaves, which are in order of pair and time and do not overlap.
use Rattle.std.specs.Prelude.{◌≡◌, ℕ, ◌+◌, ◌≤◌, ◌==◌, Bool, true, false, ◌&&◌, if◌then◌else◌, List, [], ◌∷◌, length, map, All, slice_range}
use Rattle.std.specs.List.{list_any}
use Rattle.cj_case.specs.declared.kind.Kind.{Kind}
use Rattle.cj_case.specs.declared.kind.Kind.TheVariants.{Far, Near, Undecided}
use Rattle.cj_case.specs.declared.encounter.Encounter.{Encounter}
use Rattle.cj_case.specs.declared.encounter.Mark.{Mark}
use Rattle.cj_case.specs.declared.encounter.Mark.TheVariants as mark
use Rattle.cj_case.specs.Leaves.{PlainLeaf}

abbrev pub is_far : PlainLeaf → Bool
is_far s = far_kind s.kind
  where
    far_kind : Kind → Bool
    far_kind Far = true
    far_kind Near = false
    far_kind Undecided = false

abbrev pub is_near : PlainLeaf → Bool
is_near s = near_kind s.kind
  where
    near_kind : Kind → Bool
    near_kind Far = false
    near_kind Near = true
    near_kind Undecided = false

-- t begins at the tick after s, and is of the same pair
abbrev pub follows : PlainLeaf → PlainLeaf → Bool
follows s t = s.a == t.a && (s.b == t.b && s.last + 1 == t.first)

-- a leaf in front of encounters: it joins the first of them where that follows, else it is one of its own
abbrev pub with_front : PlainLeaf → List (List PlainLeaf) → List (List PlainLeaf)
with_front s [] = (s ∷ []) ∷ []
with_front s ([] ∷ others) = (s ∷ []) ∷ others
with_front s ((t ∷ ts) ∷ others) = if follows s t then (s ∷ t ∷ ts) ∷ others else (s ∷ []) ∷ (t ∷ ts) ∷ others

-- the encounters: the leaves that are near or undecided, those of consecutive ticks together
abbrev pub encounters_of : List PlainLeaf → List (List PlainLeaf)
encounters_of [] = []
encounters_of (s ∷ ss) = if is_far s then encounters_of ss else with_front s (encounters_of ss)

-- the first object of an encounter
abbrev pub first_object : List PlainLeaf → ℕ
first_object [] = 0
first_object (s ∷ ss) = s.a

-- the second object of an encounter
abbrev pub second_object : List PlainLeaf → ℕ
second_object [] = 0
second_object (s ∷ ss) = s.b

-- the first tick of an encounter
abbrev pub first_tick : List PlainLeaf → ℕ
first_tick [] = 0
first_tick (s ∷ ss) = s.first

-- the last tick of an encounter
abbrev pub last_tick : List PlainLeaf → ℕ
last_tick [] = 0
last_tick (s ∷ []) = s.last
last_tick (s ∷ t ∷ ss) = last_tick (t ∷ ss)

abbrev pub is_near_mark : Mark → Bool
is_near_mark mark.Near = true
is_near_mark mark.Undecided = false

-- near where some leaf is
abbrev pub mark_of : List PlainLeaf → Mark
mark_of ss = if list_any is_near ss then mark.Near else mark.Undecided

-- the leaves from an encounter's first leaf to its last
abbrev pub leaves_in : List PlainLeaf → Encounter → List PlainLeaf
leaves_in ss e = slice_range ss e.leaf e.past

-- the same of several encounters
abbrev pub groups_in : List PlainLeaf → List Encounter → List (List PlainLeaf)
groups_in ss es = map (leaves_in ss) es

-- an encounter says of its leaves what holds of them
pub record Describes (ss : List PlainLeaf) (e : Encounter) : Type 0 where
  pub within : e.past ≤ length ss
  pub objects : All (λ s. (s.a ≡ e.pair.a) × (s.b ≡ e.pair.b)) (leaves_in ss e)
  pub first : e.first.micros ≡ first_tick (leaves_in ss e)
  pub last : e.last.micros ≡ last_tick (leaves_in ss e)
  pub mark : e.mark ≡ mark_of (leaves_in ss e)

-- these are the encounters of the leaves, each with what it says
pub record AreEncounters (ss : List PlainLeaf) (es : List Encounter) : Type 0 where
  pub groups : groups_in ss es ≡ encounters_of ss
  pub described : All (Describes ss) es
