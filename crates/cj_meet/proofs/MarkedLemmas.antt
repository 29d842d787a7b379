-- The encounters of leaves are those of the near and undecided ones among them.
use Rattle.std.proofs.Common.{◌≡◌, Bool, true, false, cond, not, List, [], ◌∷◌, refl, sym, ap, ◌∙◌}
use Rattle.std.specs.Prelude.{filter}
use Rattle.cj_case.specs.declared.kind.Kind.{Kind}
use Rattle.cj_case.specs.declared.kind.Kind.TheVariants.{Far, Near, Undecided}
use Rattle.cj_case.specs.Leaves.{PlainLeaf, same_kind}
use Rattle.cj_meet.specs.Encounters.{encounters_of, is_far, with_front}

far_by_kind : (s : PlainLeaf) → is_far s ≡ same_kind Far s.kind
far_by_kind s = elim s.kind as (λ (k : Kind). is_far (record s { kind = k }) ≡ same_kind Far k) [ Far ↦ refl | Near ↦ refl | Undecided ↦ refl ]

-- a leaf in front, which is left out where it is far
one_more : (s : PlainLeaf) (some all : List PlainLeaf) (far : Bool) → is_far s ≡ far → encounters_of some ≡ encounters_of all
    → encounters_of (cond (not far) (s ∷ some) some) ≡ cond far (encounters_of all) (with_front s (encounters_of all))
one_more s some all true is same = same
one_more s some all false is same =
    ap (λ (far : Bool). cond far (encounters_of some) (with_front s (encounters_of some))) is ∙ ap (with_front s) same

pub encounters_of_marked : (ss : List PlainLeaf) → encounters_of (filter (λ s. not (same_kind Far s.kind)) ss) ≡ encounters_of ss
encounters_of_marked [] = refl
encounters_of_marked (s ∷ ss) =
    one_more s (filter (λ t. not (same_kind Far t.kind)) ss) ss (same_kind Far s.kind) (far_by_kind s) (encounters_of_marked ss)
    ∙ ap (λ (far : Bool). cond far (encounters_of ss) (with_front s (encounters_of ss))) (sym (far_by_kind s))
