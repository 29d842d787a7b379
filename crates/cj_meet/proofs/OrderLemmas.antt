-- When leaves are in order.
use Rattle.std.proofs.Common.{◌≡◌, ◌≤◌, List, [], ◌∷◌, sym, ◌∙◌, arith}
use Rattle.std.proofs.lemmas.List.Elements.{All-nil, All-cons, All-head, All-tail, All-weaker}
use Rattle.std.proofs.lemmas.List.Kept.{AllPairs-cons}
use Rattle.std.specs.Prelude.{All}
use Rattle.cj_case.specs.Leaves.{PlainLeaf}
use Rattle.cj_case.specs.Order.{IsBefore, AreInOrder, HaveTicks}

-- each leaf lies before the next
abbrev pub AreNeighbours : List PlainLeaf → Type 0
AreNeighbours [] = Unit {0}
AreNeighbours (s ∷ []) = Unit {0}
AreNeighbours (s ∷ t ∷ ss) = IsBefore s t × AreNeighbours (t ∷ ss)

before_through : (s t u : PlainLeaf) → t.first ≤ t.last → IsBefore s t → IsBefore t u → IsBefore s u
before_through s t u some st tu = record {
  first_object = omega (arith, st.first_object, tu.first_object);
  second_object = λ a.
      let sa : s.a ≡ t.a = omega (arith, a, st.first_object, tu.first_object) in
      omega (arith, st.second_object sa, tu.second_object (sym sa ∙ a));
  ticks = λ a b.
      let sa : s.a ≡ t.a = omega (arith, a, st.first_object, tu.first_object) in
      let sb : s.b ≡ t.b = omega (arith, b, st.second_object sa, tu.second_object (sym sa ∙ a)) in
      omega (arith, some, st.ticks sa sb, tu.ticks (sym sa ∙ a) (sym sb ∙ b));
}

before_all : (s : PlainLeaf) (ss : List PlainLeaf) → HaveTicks ss → AreNeighbours (s ∷ ss) → All (IsBefore s) ss
before_all s [] ticks near = All-nil (IsBefore s)
before_all s (t ∷ ss) ticks near =
    let some = All-head (λ u. u.first ≤ u.last) t ss ticks in
    All-cons (IsBefore s) t ss near.0
    (All-weaker (IsBefore t) (IsBefore s) (λ u. before_through s t u some near.0) ss (before_all t ss (All-tail (λ u. u.first ≤ u.last) t ss ticks) near.1))

neighbours-tail : (s : PlainLeaf) (ss : List PlainLeaf) → AreNeighbours (s ∷ ss) → AreNeighbours ss
neighbours-tail s [] near = tt
neighbours-tail s (t ∷ ss) near = near.1

-- leaves with ticks are in order where neighbours are
pub in_order_from_neighbours : (ss : List PlainLeaf) → HaveTicks ss → AreNeighbours ss → AreInOrder ss
in_order_from_neighbours [] ticks near = λ i j d below short. absurd (omega (arith, short))
in_order_from_neighbours (s ∷ ss) ticks near =
    let rest = All-tail (λ u. u.first ≤ u.last) s ss ticks in
    AllPairs-cons IsBefore s ss (before_all s ss rest near) (in_order_from_neighbours ss rest (neighbours-tail s ss near))
