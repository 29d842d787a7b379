-- The roots slot by slot stand in order of slot, pair and tick.
use Rattle.std.proofs.Common.{◌≡◌, ℕ, ◌<◌, ◌≤◌, ◌&&◌, ◌||◌, Bool, true, false, cond, List, [], ◌∷◌, filter, length, refl, sym, ap, ◌∙◌, subst, inl, inr, arith}
use Rattle.std.specs.Prelude.{◌==◌, nat_lt}
use Rattle.std.proofs.lemmas.Bool.{cases_eq, eq-eqb, false_from_ne_true}
use Rattle.std.proofs.lemmas.Bool.Decides.{nat_tests}
use Rattle.cj_interval.proofs.ListLemmas.{Each, Ordered, Each-always, Each-append, Each-both, Each-filter, Each-weaker, Ordered-flat_map, Ordered-range}
use Rattle.cj_case.specs.PlainProblems.{PlainProblem}
use Rattle.cj_case.specs.Cells.{IsRootBefore, PlainCell}
use Rattle.cj_case.specs.Leaves.{PlainLeaf}
use Rattle.cj_case.specs.Pairs.{pairs_of}
use Rattle.cj_case.specs.Slots.{slot_count, slot_first, slot_last, slot_of}
use Rattle.cj_case.proofs.PairLemmas.{PairBefore, Ordered-pairs}
use Rattle.cj_hermite.specs.Roots.{roots_by_slot, roots_in, roots_in_slot, slots_of}
use Rattle.cj_hermite.proofs.RootLemmas.{IsRoot, Each-between, Ordered-between}
use Rattle.cj_checker.specs.First.{begins, comes_after}
use Rattle.cj_checker.proofs.CauseLemmas.{begun}
use Rattle.cj_checker.proofs.TestLemmas.{decides_nat_le}
use Rattle.cj_brief_checker.specs.First.{comes_later}

-- ---- lists in order

pub ordered_filter : {X : Type 0} (R : X → X → Type 0) (test : X → Bool) (xs : List X) → Ordered R xs → Ordered R (filter test xs)
ordered_filter R test [] order = tt
ordered_filter {X = X} R test (x ∷ xs) order = go (test x) (Each-filter (R x) test xs order.0) (ordered_filter R test xs order.1)
  where
    go : (b : Bool) → Each (R x) (filter test xs) → Ordered R (filter test xs) → Ordered R (cond b (x ∷ filter test xs) (filter test xs))
    go true first rest = (first, rest)
    go false first rest = rest

-- one order from another, where something holds of each element
pub ordered_with : {X : Type 0} (P : X → Type 0) (R S : X → X → Type 0) → ((x y : X) → P x → P y → R x y → S x y) → (xs : List X) → Each P xs → Ordered R xs → Ordered S xs
ordered_with P R S law [] each order = tt
ordered_with P R S law (x ∷ xs) each order = (
  Each-weaker (λ y. P y × R x y) (S x) (λ y h. law x y each.0 h.0 h.1) xs (Each-both P (R x) xs each.1 order.0),
  ordered_with P R S law xs each.1 order.1,
)

-- ---- one root behind another

-- seen from a window that begins at first, q stands in a later slot than r, or behind it in the same one
pub record IsLater (first : ℕ) (r q : PlainCell) : Type 0 where
  pub begun : first ≤ q.first
  pub slot : slot_of first r.first ≤ slot_of first q.first
  pub first_object : slot_of first r.first ≡ slot_of first q.first → r.a ≤ q.a
  pub second_object : slot_of first r.first ≡ slot_of first q.first → r.a ≡ q.a → r.b ≤ q.b
  pub ticks : slot_of first r.first ≡ slot_of first q.first → r.a ≡ q.a → r.b ≡ q.b → r.first < q.first

-- a cell begins with the first tick of a root
pub record IsAt (q : PlainCell) (s : PlainLeaf) : Type 0 where
  pub first_object : s.a ≡ q.a
  pub second_object : s.b ≡ q.b
  pub first : s.first ≡ q.first

lt_test : (x y : ℕ) → x < y → nat_lt x y ≡ true
lt_test x y lt = grind (arith, nat_tests)

or_true : (b : Bool) → (b || true) ≡ true
or_true true = refl
or_true false = refl

-- less, or equal and something more
less_or : (x y : ℕ) (same more : Bool) → x ≤ y → (x ≡ y → same ≡ true) → (x ≡ y → more ≡ true) → (nat_lt x y || (same && more)) ≡ true
less_or x y same more le eq rest = elim (cases_eq x y) [
  | inl is ↦ (λ i. nat_lt x y || (eq is i && rest is i)) ∙ or_true (nat_lt x y)
  | inr other ↦ let lt : x < y = omega arith in λ i. lt_test x y lt i || (same && more)
]

pub later_cell : (first : ℕ) (r q : PlainCell) (s : PlainLeaf) → IsLater first r q → IsAt q s → comes_later first r s ≡ true
later_cell first r q s later at =
    let a : s.a ≡ q.a = at.first_object in
    let b : s.b ≡ q.b = at.second_object in
    let begin : s.first ≡ q.first = at.first in
    let slot : slot_of first s.first ≡ slot_of first q.first = ap (slot_of first) begin in
    let le : first ≤ s.first = omega (arith, later.begun) in
    let slots : slot_of first r.first ≤ slot_of first s.first = subst (λ (k : ℕ). slot_of first r.first ≤ k) (sym slot) later.slot in
    let after : slot_of first r.first ≡ slot_of first s.first → comes_after r s ≡ true = λ same.
    let own : slot_of first r.first ≡ slot_of first q.first = same ∙ slot in
    let first_object = later.first_object own in
    less_or r.a s.a (s.a == r.a) (nat_lt r.b s.b || ((s.b == r.b) && nat_lt r.first s.first)) (omega arith) (λ e. eq-eqb s.a r.a (sym e))
    (λ e. let second_object = later.second_object own (e ∙ a) in
    less_or r.b s.b (s.b == r.b) (nat_lt r.first s.first) (omega arith) (λ f. eq-eqb s.b r.b (sym f))
    (λ f. let ticks = later.ticks own (e ∙ a) (f ∙ b) in lt_test r.first s.first (omega arith))) in
    (λ i. (decides_nat_le first s.first).1 le i && (nat_lt (slot_of first r.first) (slot_of first s.first) || ((slot_of first r.first == slot_of first s.first) && comes_after r s)))
    ∙ less_or (slot_of first r.first) (slot_of first s.first) (slot_of first r.first == slot_of first s.first) (comes_after r s) slots (λ e. eq-eqb (slot_of first r.first) (slot_of first s.first) e) after

pub not_begun : (first : ℕ) (r q : PlainCell) (s : PlainLeaf) → IsLater first r q → IsAt q s → begins r s ≡ false
not_begun first r q s later at = false_from_ne_true (begins r s) (λ yes.
    let is = begun r s yes in
    let a : r.a ≡ q.a = sym is.one ∙ at.first_object in
    let b : r.b ≡ q.b = sym is.other ∙ at.second_object in
    let begin : r.first ≡ q.first = sym is.from ∙ at.first in
    let ticks = later.ticks (ap (slot_of first) begin) a b in
    absurd (omega arith))

-- ---- all roots

abbrev IsRootIn : PlainProblem → ℕ → ℕ × ℕ → PlainCell → Type 0
IsRootIn case slot pair = IsRoot case pair.0 pair.1 (slot_first case.first slot) (slot_last case.first case.last slot)

slot_is : (first last slot m : ℕ) → slot_first first slot ≤ m → m ≤ slot_last first last slot → slot_of first m ≡ slot
slot_is first last slot m low high = omega arith

abbrev candidates : (ℕ → ℕ → ℕ → Bool) → PlainProblem → ℕ → List (ℕ × ℕ)
candidates candidate case slot = filter (λ pair. candidate pair.0 pair.1 slot) (pairs_of (length case.tracks))

-- of one pair in one slot
of_pair : (case : PlainProblem) (slot : ℕ) (pair : ℕ × ℕ) → Ordered (IsLater case.first) (roots_in case slot pair.0 pair.1)
of_pair case slot pair =
    ordered_with (IsRootIn case slot pair) IsRootBefore (IsLater case.first)
    (λ r q is next before.
    let own = slot_is case.first case.last slot r.first (is.from) (omega (arith, is.some, is.to)) in
    let other = slot_is case.first case.last slot q.first (next.from) (omega (arith, next.some, next.to)) in
    let a : r.a ≡ q.a = is.first_object ∙ sym next.first_object in
    let b : r.b ≡ q.b = is.second_object ∙ sym next.second_object in
    let behind = before.ticks a b in
    record {
      begun = omega (arith, next.from);
      slot = omega arith;
      first_object = λ e. omega arith;
      second_object = λ e f. omega arith;
      ticks = λ e f g. omega (arith, is.some);
    })
    (roots_in case slot pair.0 pair.1) (Each-between case pair.0 pair.1 (slot_first case.first slot) (slot_last case.first case.last slot))
    (Ordered-between case pair.0 pair.1 (slot_first case.first slot) (slot_last case.first case.last slot))

-- of one pair behind those of another, in one slot
behind_pair : (case : PlainProblem) (slot : ℕ) (p q : ℕ × ℕ) → PairBefore p q
    → Each (λ r. Each (IsLater case.first r) (roots_in case slot q.0 q.1)) (roots_in case slot p.0 p.1)
behind_pair case slot p q before =
    Each-weaker (IsRootIn case slot p) (λ r. Each (IsLater case.first r) (roots_in case slot q.0 q.1))
    (λ r is. Each-weaker (IsRootIn case slot q) (IsLater case.first r)
    (λ s next.
    let own = slot_is case.first case.last slot r.first (is.from) (omega (arith, is.some, is.to)) in
    let other = slot_is case.first case.last slot s.first (next.from) (omega (arith, next.some, next.to)) in
    let a : r.a ≡ p.0 = is.first_object in
    let b : r.b ≡ p.1 = is.second_object in
    let c : s.a ≡ q.0 = next.first_object in
    let d : s.b ≡ q.1 = next.second_object in
    let up = before.first_object in
    record {
      begun = omega (arith, next.from);
      slot = omega arith;
      first_object = λ e. omega arith;
      second_object = λ e f. let lt = before.second_object (omega arith) in omega arith;
      ticks = λ e f g. let lt = before.second_object (omega arith) in absurd (omega arith);
    })
    (roots_in case slot q.0 q.1) (Each-between case q.0 q.1 (slot_first case.first slot) (slot_last case.first case.last slot)))
    (roots_in case slot p.0 p.1) (Each-between case p.0 p.1 (slot_first case.first slot) (slot_last case.first case.last slot))

-- a root in a slot
record IsInSlot (case : PlainProblem) (slot : ℕ) (r : PlainCell) : Type 0 where
  begun : case.first ≤ r.first
  slot_same : slot_of case.first r.first ≡ slot

each_in_slot : (case : PlainProblem) (slot : ℕ) (pairs : List (ℕ × ℕ)) → Each (IsInSlot case slot) (roots_in_slot case slot pairs)
each_in_slot case slot [] = tt
each_in_slot case slot (pair ∷ pairs) =
    Each-append (IsInSlot case slot) (roots_in case slot pair.0 pair.1) (roots_in_slot case slot pairs)
    (Each-weaker (IsRootIn case slot pair) (IsInSlot case slot)
    (λ r is. record { begun = omega (arith, is.from); slot_same = slot_is case.first case.last slot r.first is.from (omega (arith, is.some, is.to)) })
    (roots_in case slot pair.0 pair.1) (Each-between case pair.0 pair.1 (slot_first case.first slot) (slot_last case.first case.last slot)))
    (each_in_slot case slot pairs)

pub Ordered-by_slot : (candidate : ℕ → ℕ → ℕ → Bool) (case : PlainProblem) → Ordered (IsLater case.first) (roots_by_slot candidate case)
unfolding roots_by_slot
Ordered-by_slot candidate case =
    Ordered-flat_map (IsLater case.first) (λ j k. j < k) (λ slot. Unit {0}) (λ slot. roots_in_slot case slot (candidates candidate case slot))
    (λ slot _. of_slot slot)
    (λ j k _ _ lt. Each-weaker (IsInSlot case j) (λ r. Each (IsLater case.first r) (roots_in_slot case k (candidates candidate case k)))
    (λ r is. Each-weaker (IsInSlot case k) (IsLater case.first r)
    (λ q next.
    let own = is.slot_same in
    let other = next.slot_same in
    record {
      begun = next.begun;
      slot = omega arith;
      first_object = λ e. absurd (omega arith);
      second_object = λ e f. absurd (omega arith);
      ticks = λ e f g. absurd (omega arith);
    })
    (roots_in_slot case k (candidates candidate case k)) (each_in_slot case k (candidates candidate case k)))
    (roots_in_slot case j (candidates candidate case j)) (each_in_slot case j (candidates candidate case j)))
    (slots_of case) (Each-always (λ slot. Unit {0}) (λ slot. tt) (slots_of case)) (Ordered-range 0 (slot_count case.first case.last))
  where
    of_slot : (slot : ℕ) → Ordered (IsLater case.first) (roots_in_slot case slot (candidates candidate case slot))
    of_slot slot =
        Ordered-flat_map (IsLater case.first) PairBefore (λ pair. Unit {0}) (λ pair. roots_in case slot pair.0 pair.1)
        (λ pair _. of_pair case slot pair) (λ p q _ _ before. behind_pair case slot p q before)
        (candidates candidate case slot) (Each-always (λ pair. Unit {0}) (λ pair. tt) (candidates candidate case slot))
        (ordered_filter PairBefore (λ pair. candidate pair.0 pair.1 slot) (pairs_of (length case.tracks)) (Ordered-pairs (length case.tracks)))
