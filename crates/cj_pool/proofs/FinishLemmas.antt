-- The leaves of all hands and of the open cells, once they are sorted, are the leaves of the roots.
use Rattle.std.proofs.Common.{◌≡◌, ℕ, zero, suc, ◌+◌, ◌^◌, ◌<◌, ◌≤◌, Bool, true, cond, ◌&&◌, eqb, leb, List, [], ◌∷◌, ◌++◌, length, get_or, take, drop, refl, sym, ap, ◌∙◌, subst, arith, length-append, inl, inr}
use Rattle.std.specs.Prelude.{All, AllPairs, Contains}
use Rattle.std.specs.List.{flat_map, range_with_len}
use Rattle.std.specs.List.Sorted.{IsPermutation}
use Rattle.std.proofs.lemmas.Bool.{cases_Bool, eqb-true, eq-eqb, and_parts, and_from}
use Rattle.std.proofs.lemmas.List.{length-map}
use Rattle.std.proofs.lemmas.List.Elements.{All-weaker, All-contains, All-contains_itself, Contains-append_left, Contains-append_right}
use Rattle.std.proofs.lemmas.List.Sorted.{Contains-permutation}
use Rattle.cj_interval.proofs.ListLemmas.{Each, Exists, Ordered, Each-append, each_from_All, ordered_from_AllPairs, All-from_each}
use Rattle.cj_interval.proofs.SumLemmas.{total, same_totals, same_list}
use Rattle.cj_case.specs.PlainProblems.{PlainProblem}
use Rattle.cj_case.specs.Cells.{IsRootBefore, IsRootUpTo}
use Rattle.cj_case.specs.declared.cell.Cell.{Cell}
use Rattle.cj_case.specs.declared.leaf.Leaf.{Leaf}
use Rattle.cj_case.specs.Cells.{plain_cell, plain_cells}
use Rattle.cj_case.specs.Leaves.{PlainLeaf, plain_leaf, plain_leaves, same_kind}
use Rattle.cj_case.specs.Order.{IsBefore}
use Rattle.cj_bezier.proofs.KindLemmas.{from_same_kind, same_kind-self}
use Rattle.cj_bezier.specs.RootLeaves.{leaves_of_root, leaves_of_roots, Describe}
use Rattle.cj_pool.specs.Hands.{HandSeen, Accounts, cells_of}
use Rattle.cj_hermite.specs.Lengths.{HaveLengths}
use Rattle.cj_ledger.specs.declared.totals.Totals.{Totals}
use Rattle.cj_pool.specs.Refined.{AreOpen, TotalsOf, kept_in, leaves_in, numbers_of}
use Rattle.cj_pool.specs.RootLists.{IsKept, AreRoots}
use Rattle.cj_pool.specs.Tree.{InTree, IsLeafOf}
use Rattle.cj_pool.specs.Weights.{weigh, has}
use Rattle.cj_pool.proofs.HandSumLemmas.{all_taken, open_shared}
use Rattle.cj_pool.proofs.LeafSumLemmas.{leaves_shared, described_cells, leaves_ordered, leaves_some, weigh_leaves, weigh_closed}
use Rattle.cj_pool.proofs.RefineLemmas.{kept_whole}
use Rattle.cj_pool.proofs.TreeLemmas.{tree_keeps}
use Rattle.cj_pool.proofs.WeightLemmas.{weigh_append, weigh_is, weigh_one}

-- ---- a test of two leaves

abbrev is_leaf : PlainLeaf → PlainLeaf → Bool
is_leaf s t = eqb s.a t.a && (eqb s.b t.b && (eqb s.first t.first && (eqb s.last t.last && same_kind s.kind t.kind)))

is_leaf-self : (s : PlainLeaf) → is_leaf s s ≡ true
is_leaf-self s =
    and_from (eqb s.a s.a) _ (eq-eqb s.a s.a refl)
    (and_from (eqb s.b s.b) _ (eq-eqb s.b s.b refl)
    (and_from (eqb s.first s.first) _ (eq-eqb s.first s.first refl)
    (and_from (eqb s.last s.last) (same_kind s.kind s.kind) (eq-eqb s.last s.last refl) (same_kind-self s.kind))))

same_from_is_leaf : (s t : PlainLeaf) → is_leaf s t ≡ true → s ≡ t
same_from_is_leaf s t e =
    let p = and_parts (eqb s.a t.a) (eqb s.b t.b && (eqb s.first t.first && (eqb s.last t.last && same_kind s.kind t.kind))) e in
    let q = and_parts (eqb s.b t.b) (eqb s.first t.first && (eqb s.last t.last && same_kind s.kind t.kind)) p.1 in
    let r = and_parts (eqb s.first t.first) (eqb s.last t.last && same_kind s.kind t.kind) q.1 in
    let u = and_parts (eqb s.last t.last) (same_kind s.kind t.kind) r.1 in
    let a : s.a ≡ t.a = eqb-true s.a t.a p.0 in
    let b : s.b ≡ t.b = eqb-true s.b t.b q.0 in
    let first : s.first ≡ t.first = eqb-true s.first t.first r.0 in
    let last : s.last ≡ t.last = eqb-true s.last t.last u.0 in
    let kind : s.kind ≡ t.kind = from_same_kind s.kind t.kind u.1 in
    λ i. record { a = a i; b = b i; first = first i; last = last i; kind = kind i }

-- ---- two orders of leaves

-- s begins no later than t, in the order of pair and tick
abbrev IsUpTo : PlainLeaf → PlainLeaf → Type 0
IsUpTo s t = IsRootUpTo (record { a = s.a; b = s.b; first = s.first; last = s.last }) (record { a = t.a; b = t.b; first = t.first; last = t.last })

-- neither order goes against the other for a leaf that has a tick
up_or_down : (s t : PlainLeaf) → s.first ≤ s.last → IsBefore s t → IsUpTo t s → ⊥
up_or_down s t some down up =
    let a : s.a ≡ t.a = omega (arith, up.first_object, down.first_object) in
    let b : s.b ≡ t.b = omega (arith, up.second_object (sym a), down.second_object a) in
    omega (arith, up.ticks (sym a) (sym b), down.ticks a b, some)

each_up_to : (l : Leaf) (leaves : List Leaf) → Each (IsRootUpTo (plain_cell l.cell)) (plain_cells (cells_of leaves)) →
    Each (IsUpTo (plain_leaf l)) (plain_leaves leaves)
each_up_to l [] each = tt
each_up_to l (m ∷ leaves) each = (each.0, each_up_to l leaves each.1)

ordered_up_to : (leaves : List Leaf) → Ordered IsRootUpTo (plain_cells (cells_of leaves)) → Ordered IsUpTo (plain_leaves leaves)
ordered_up_to [] ordered = tt
ordered_up_to (l ∷ leaves) ordered = (each_up_to l leaves ordered.0, ordered_up_to leaves ordered.1)

-- ---- the list

module _ (case : PlainProblem) (roots : List Cell) (long : HaveLengths case) (big : 10 ^ 9 ≤ case.threshold) (are : AreRoots case roots) where
  described_roots : Each (λ r. Describe case r (leaves_of_root case r)) (plain_cells roots)
  described_roots = described_cells case long big roots (each_from_All (IsKept case) roots are.keep)

  pub roots_described : All (λ r. Describe case r (leaves_of_root case r)) (plain_cells roots)
  roots_described = All-from_each (λ r. Describe case r (leaves_of_root case r)) (plain_cells roots) described_roots

  module _ (n : ℕ) (hands : List HandSeen) (cells : List Cell) (some : 0 < n) (accounts : Each (Accounts case roots n) hands) (numbers : numbers_of hands ≡ range_with_len 0 n) (open_cells : AreOpen hands cells)
      (closed : Each (IsLeafOf case roots) (leaves_in hands)) where
    -- however leaves are weighed, those of the hands and of the open cells weigh what those of the roots weigh
    pub same_weights : (f : PlainLeaf → ℕ) →
        weigh f (plain_leaves (leaves_in hands) ++ leaves_of_roots case (plain_cells cells)) ≡ weigh f (leaves_of_roots case (plain_cells roots))
    same_weights f =
        let w = λ (c : Cell). weigh f (leaves_of_root case (plain_cell c)) in
        let all = open_shared case roots n hands cells some accounts numbers open_cells w (leaves_shared case long big f) in
        omega (
          arith,
          all,
          weigh_append f (plain_leaves (leaves_in hands)) (leaves_of_roots case (plain_cells cells)),
          weigh_closed case roots f (leaves_in hands) are closed,
          weigh_leaves case f cells,
          weigh_leaves case f roots,
        )

    pub same_length : length (leaves_in hands) + length (leaves_of_roots case (plain_cells cells)) ≡ length (leaves_of_roots case (plain_cells roots))
    same_length =
        let all = same_weights (λ _. 1) in
        omega (
          arith,
          all,
          weigh_one (plain_leaves (leaves_in hands) ++ leaves_of_roots case (plain_cells cells)),
          weigh_one (leaves_of_roots case (plain_cells roots)),
          length-append (plain_leaves (leaves_in hands)) (leaves_of_roots case (plain_cells cells)),
          length-map (leaves_in hands) plain_leaf,
        )

    -- in order they are the same
    pub sorted_leaves : (sorted : List Leaf) →
        IsPermutation (plain_leaves (leaves_in hands) ++ leaves_of_roots case (plain_cells cells)) (plain_leaves sorted) →
        AllPairs IsRootUpTo (plain_cells (cells_of sorted)) →
        plain_leaves sorted ≡ leaves_of_roots case (plain_cells roots)
    sorted_leaves sorted moved ordered =
        let found = plain_leaves (leaves_in hands) ++ leaves_of_roots case (plain_cells cells) in
        sym (same_list is_leaf (record { itself = is_leaf-self; exact = same_from_is_leaf }) (λ s. s.first ≤ s.last) IsBefore IsUpTo up_or_down
        (leaves_of_roots case (plain_cells roots)) (plain_leaves sorted)
        (leaves_some case long big (plain_cells roots) described_roots)
        (leaves_ordered case long big (plain_cells roots) described_roots (ordered_from_AllPairs IsRootBefore (plain_cells roots) are.ordered))
        (ordered_up_to sorted (ordered_from_AllPairs IsRootUpTo (plain_cells (cells_of sorted)) ordered))
        (λ f.
        sym (weigh_is f (leaves_of_roots case (plain_cells roots)))
        ∙ sym (same_weights f)
        ∙ weigh_is f found
        ∙ sym (same_totals f found (plain_leaves sorted) moved)))

-- ---- each tick of a root is in that root alone

within : (first last m : ℕ) → first ≤ m → m ≤ last → cond {A = ℕ} (leb first m) (cond (leb m last) 1 0) 0 ≡ 1
within first last m low high = grind (arith)

before_first : (first last m : ℕ) → m < first → cond {A = ℕ} (leb first m) (cond (leb m last) 1 0) 0 ≡ 0
before_first first last m lt = grind (arith)

behind_last : (first last m : ℕ) → last < m → cond {A = ℕ} (leb first m) (cond (leb m last) 1 0) 0 ≡ 0
behind_last first last m lt = grind (arith)

-- of another pair, or at other ticks
missed : (c : Cell) (a b m : ℕ) → (c.pair.a ≡ a → c.pair.b ≡ b → cond {A = ℕ} (leb c.first.micros m) (cond (leb m c.last.micros) 1 0) 0 ≡ 0) →
    has a b m c ≡ 0
missed c a b m other = elim (cases_Bool (eqb c.pair.a a)) [
  | inl e ↦ elim (cases_Bool (eqb c.pair.b b)) [
    | inl f ↦ rw (e, f) (other (eqb-true c.pair.a a e) (eqb-true c.pair.b b f))
    | inr f ↦ rw (e, f) refl
  ]
  | inr e ↦ rw e refl
]

has_here : (r : Cell) (m : ℕ) → r.first.micros ≤ m → m ≤ r.last.micros → has r.pair.a r.pair.b m r ≡ 1
has_here r m low high =
    let e : eqb r.pair.a r.pair.a ≡ true = eq-eqb r.pair.a r.pair.a refl in
    let f : eqb r.pair.b r.pair.b ≡ true = eq-eqb r.pair.b r.pair.b refl in
    rw (e, f) (within r.first.micros r.last.micros m low high)

none_after : (r : Cell) (m : ℕ) (cells : List Cell) → m ≤ r.last.micros → Each (IsRootBefore (plain_cell r)) (plain_cells cells) →
    weigh (has r.pair.a r.pair.b m) cells ≡ 0
none_after r m [] high each = refl
none_after r m (c ∷ cells) high each =
    let here = missed c r.pair.a r.pair.b m (λ e f. before_first c.first.micros c.last.micros m (omega (arith, each.0.ticks (sym e) (sym f)))) in
    let rest = none_after r m cells high each.1 in omega arith

before_one : (c r : Cell) (cells : List Cell) → Each (IsRootBefore (plain_cell c)) (plain_cells cells) → Exists (λ x. r ≡ x) cells →
    IsRootBefore (plain_cell c) (plain_cell r)
before_one c r [] each e = absurd e
before_one c r (x ∷ cells) each (inl e) = subst (λ (y : Cell). IsRootBefore (plain_cell c) (plain_cell y)) (sym e) each.0
before_one c r (x ∷ cells) each (inr e) = before_one c r cells each.1 e

in_one : (roots : List Cell) (r : Cell) (m : ℕ) → Ordered IsRootBefore (plain_cells roots) → Exists (λ x. r ≡ x) roots → r.first.micros ≤ m →
    m ≤ r.last.micros → weigh (has r.pair.a r.pair.b m) roots ≡ 1
in_one [] r m ordered e low high = absurd e
in_one (c ∷ roots) r m ordered (inl e) low high =
    let here : has r.pair.a r.pair.b m c ≡ 1 = ap (has r.pair.a r.pair.b m) (sym e) ∙ has_here r m low high in
    let rest = none_after r m roots high (subst (λ (x : Cell). Each (IsRootBefore (plain_cell x)) (plain_cells roots)) (sym e) ordered.0) in
    omega arith
in_one (c ∷ roots) r m ordered (inr e) low high =
    let before = before_one c r roots ordered.0 e in
    let here = missed c r.pair.a r.pair.b m (λ p q. behind_last c.first.micros c.last.micros m (omega (arith, before.ticks p q, low))) in
    let rest = in_one roots r m ordered.1 e low high in omega arith

exists_from_contains : (roots : List Cell) (r : Cell) → Contains roots r → Exists (λ x. r ≡ x) roots
exists_from_contains roots r has_it = go roots has_it.0 has_it.1 has_it.2
  where
    go : (xs : List Cell) (k : ℕ) → k < length xs → get_or xs k r ≡ r → Exists (λ x. r ≡ x) xs
    go [] k lt is = absurd (omega arith)
    go (x ∷ xs) zero lt is = inl (sym is)
    go (x ∷ xs) (suc k) lt is = inr (go xs k (omega arith) is)

pub one_root : (case : PlainProblem) (roots : List Cell) (r : Cell) (m : ℕ) → AreRoots case roots → Contains roots r → r.first.micros ≤ m →
    m ≤ r.last.micros → weigh (has r.pair.a r.pair.b m) roots ≡ 1
one_root case roots r m are has_it low high = in_one roots r m (ordered_from_AllPairs IsRootBefore (plain_cells roots) are.ordered)
    (exists_from_contains roots r has_it) low high

-- ---- what holds of the items of all hands

pub all_in : {X Y : Type 0} (P : Y → Type 0) (f : X → List Y) (xs : List X) → Each (λ x. All P (f x)) xs → Each P (flat_map f xs)
all_in P f [] each = tt
all_in P f (x ∷ xs) each = Each-append P (f x) (flat_map f xs) (each_from_All P (f x) each.0) (all_in P f xs each.1)

-- the items of each are among those of all
pub contained : {X Y : Type 0} (f : X → List Y) (xs : List X) (ys : List Y) → ((y : Y) → Contains (flat_map f xs) y → Contains ys y) →
    Each (λ x. All (Contains ys) (f x)) xs
contained f [] ys among = tt
contained f (x ∷ xs) ys among = (
  All-weaker (Contains (f x)) (Contains ys) (λ y has_it. among y (Contains-append_left (f x) (flat_map f xs) y has_it)) (f x)
      (All-contains_itself (f x)),
  contained f xs ys (λ y has_it. among y (Contains-append_right (f x) (flat_map f xs) y has_it)),
)

-- the first leaves that were found are among the sorted ones
pub first_found : (first found sorted : List Leaf) → take (length first) found ≡ first → IsPermutation found sorted →
    All (λ leaf. Contains sorted leaf) first
first_found first found sorted kept moved =
    All-weaker (Contains first) (Contains sorted)
    (λ l has_it. Contains-permutation found sorted l moved
    (subst (λ (xs : List Leaf). Contains xs l) (sym (kept_whole first found kept)) (Contains-append_left first (drop (length first) found) l has_it)))
    first (All-contains_itself first)

-- so a leaf that a hand closed is among leaves that have all of them
pub closed_found : (hands : List HandSeen) (sorted : List Leaf) → All (λ leaf. Contains sorted leaf) (leaves_in hands) →
    All (λ h. All (λ leaf. Contains sorted leaf) h.closed) hands
closed_found hands sorted among =
    All-from_each (λ h. All (Contains sorted) h.closed) hands
    (contained (λ (h : HandSeen). h.closed) hands sorted (λ l has_it. All-contains (Contains sorted) (leaves_in hands) l among has_it))

-- ---- the cells that are open at the end

pub are_open : (hands : List HandSeen) (start cells : List Cell) (given taken : (Cell → ℕ) → ℕ) → start ≡ kept_in hands →
    take (length start) cells ≡ start → ((w : Cell → ℕ) → weigh w start + given w ≡ taken w + weigh w cells) →
    ((w : Cell → ℕ) → given w ≡ weigh (λ h. weigh w h.opening + weigh w h.pushed) hands) → ((w : Cell → ℕ) → taken w ≡ all_taken w hands) → AreOpen
    hands cells
are_open hands start cells given taken is kept left opened took = record {
  kept = subst (λ (xs : List Cell). take (length xs) cells ≡ xs) is kept;
  queues = λ w.
      let l = left w in
      let g = opened w in
      let t = took w in
      let s = ap (weigh w) is in omega (arith, l, g, t, s);
}

-- cells of trees keep their pieces
pub trees_keep : (case : PlainProblem) (roots cells : List Cell) → AreRoots case roots → All (InTree case roots) cells → All (IsKept case) cells
trees_keep case roots cells are trees = All-weaker (InTree case roots) (IsKept case) (λ c t. tree_keeps case roots c are t) cells trees

-- the cells that hands keep, and the leaves that they closed
pub kept_trees : (case : PlainProblem) (roots : List Cell) (n : ℕ) (hands : List HandSeen) → All (Accounts case roots n) hands →
    All (InTree case roots) (kept_in hands)
kept_trees case roots n hands accounts =
    All-from_each (InTree case roots) (kept_in hands)
    (all_in (InTree case roots) (λ (h : HandSeen). h.kept) hands
    (each_from_All (λ h. All (InTree case roots) h.kept) hands
    (All-weaker (Accounts case roots n) (λ h. All (InTree case roots) h.kept) (λ h a. a.tree) hands accounts)))

pub closed_leaves : (case : PlainProblem) (roots : List Cell) (n : ℕ) (hands : List HandSeen) → All (Accounts case roots n) hands →
    Each (IsLeafOf case roots) (leaves_in hands)
closed_leaves case roots n hands accounts =
    all_in (IsLeafOf case roots) (λ (h : HandSeen). h.closed) hands
    (each_from_All (λ h. All (IsLeafOf case roots) h.closed) hands
    (All-weaker (Accounts case roots n) (λ h. All (IsLeafOf case roots) h.closed) (λ h a. a.leaves) hands accounts))

-- ---- what is counted

-- the counts of all shares, with what was refined
pub counted : (roots closed open_cells added total firsts closes : ℕ) (totals : Totals) → total ≡ closed + added → open_cells ≤ added →
    firsts + roots ≡ closed + open_cells → closes ≡ closed →
    totals.roots ≡ roots → totals.splits + open_cells ≡ firsts + added → totals.closes ≡ closes + added → TotalsOf roots total totals
counted roots closed open_cells added total firsts closes totals sum enough halves all r t u = record {
  roots_are = r;
  closes = omega arith;
  each = omega arith;
}
