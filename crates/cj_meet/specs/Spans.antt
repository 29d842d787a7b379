-- Spans of encounters, and the ticks that lie in them.
use Rattle.std.specs.Prelude.{◌≡◌, ◌≢◌, ◌↔◌, ℕ, ◌&&◌, if◌then◌else◌, List, [], ◌∷◌, All, Any}
use Rattle.cj_case.specs.declared.kind.Kind.{Kind}
use Rattle.cj_case.specs.declared.kind.Kind.TheVariants.{Far, Near, Undecided}
use Rattle.cj_case.specs.Leaves.{PlainLeaf, Covers, LiesIn, same_kind}
use Rattle.cj_meet.specs.Encounters.{follows, encounters_of, first_object, second_object}

-- a leaf in front of spans: the first of them begins with it where that follows and is of the same kind
abbrev pub with_span : PlainLeaf → List PlainLeaf → List PlainLeaf
with_span s [] = s ∷ []
with_span s (t ∷ ts) = if follows s t && same_kind s.kind t.kind then record t { first = s.first } ∷ ts else s ∷ t ∷ ts

-- the spans of an encounter: its leaves, those of one kind and of consecutive ticks together
abbrev pub spans_of : List PlainLeaf → List PlainLeaf
spans_of [] = []
spans_of (s ∷ ss) = with_span s (spans_of ss)

-- the tick lies in a span of this kind of this encounter, which is one of the objects a and b
pub record LiesInSpan (kind : Kind) (a b tick : ℕ) (encounter : List PlainLeaf) : Type 0 where
  pub objects : (first_object encounter ≡ a) × (second_object encounter ≡ b)
  pub span : Any (Covers kind tick) (spans_of encounter)

-- the spans of the encounters of these leaves hold the ticks that they ought to, and no others
pub record HaveExactSpans (ss : List PlainLeaf) : Type 0 where
  pub near : (a b tick : ℕ) → Any (LiesInSpan Near a b tick) (encounters_of ss) ↔ Any (LiesIn Near a b tick) ss
  pub undecided : (a b tick : ℕ) → Any (LiesInSpan Undecided a b tick) (encounters_of ss) ↔ Any (LiesIn Undecided a b tick) ss
  pub none_far : All (λ encounter. All (λ s. s.kind ≢ Far) (spans_of encounter)) (encounters_of ss)
