-- Leaves pair by pair: they are the same leaves, and where those of each pair are in order of time they are all in order.
use Rattle.std.proofs.Common.{◌≡◌, ℕ, ◌<◌, ◌≤◌, Bool, true, false, cond, List, [], ◌∷◌, length, filter, refl, sym, ◌∙◌, subst, inl, inr, arith}
use Rattle.std.specs.Prelude.{Any, ◌==◌}
use Rattle.std.specs.List.{AllZip, flat_map}
use Rattle.std.proofs.lemmas.Bool.{and_from, and_parts, eq-eqb, eqb-true}
use Rattle.std.proofs.lemmas.List.Elements.{filter_passes}
use Rattle.cj_interval.proofs.ListLemmas.{Each, Exists, Ordered, Each-weaker, Each-always, Each-both, Each-append, Each-filter, Each-flat_map, Exists-weaker, Exists-filter, Exists-flat_map, Ordered-append, Ordered-flat_map, Ordered-range, All-from_each, Any-from_exists, AllPairs-from_ordered, each_from_All, exists_from_Any}
use Rattle.cj_case.specs.PlainProblems.{PlainProblem}
use Rattle.cj_case.specs.Cells.{IsRootBefore, PlainCell}
use Rattle.cj_case.specs.Leaves.{PlainLeaf}
use Rattle.cj_case.specs.Order.{IsBefore, AreInOrder}
use Rattle.cj_case.specs.Pairs.{pairs_of}
use Rattle.cj_case.specs.Slots.{slot_count, slot_first, slot_last}
use Rattle.cj_case.proofs.PairLemmas.{PairBefore, Exists-pairs, Ordered-pairs}
use Rattle.cj_hermite.specs.Roots.{roots_by_slot, roots_in, roots_in_slot, slots_of}
use Rattle.cj_hermite.proofs.RootLemmas.{IsRoot, IsRootOf, Each-between, Ordered-between}
use Rattle.cj_bezier.specs.Tiles.{IsLeaf}
use Rattle.cj_bezier.proofs.HalvingLemmas.{Each-tile}
use Rattle.cj_meet.specs.Closest.{KeepTheirPieces}
use Rattle.cj_cert.specs.Accepted.{IsSupported}
use Rattle.cj_cert.specs.Splits.{CellsSplit}
use Rattle.cj_brief.specs.Accepted.{AcceptedInBrief, IsFarThroughout, TilesOrFar, is_candidate_in_brief}
use Rattle.cj_brief.specs.Certificates.{PlainBrief}
use Rattle.cj_brief.proofs.BriefLemmas.{each_told}
use Rattle.cj_brief.proofs.RootsBySlotLemmas.{Each-by_slot}
use Rattle.cj_outputs.specs.Either.{PlainAnyCertificate, InFull, InBrief, AnySplits, AreOfObjects, IsAcceptedFor, NamesItsObjects, by_pairs, cells_in, is_of_pair}
use Rattle.cj_outputs.proofs.CellLemmas.{Keeps, cells_in_order, cells_keep, kept, tile_ordered}

-- ---- lists in order

ordered_filter : {X : Type 0} (R : X → X → Type 0) (test : X → Bool) (xs : List X) → Ordered R xs → Ordered R (filter test xs)
ordered_filter R test [] order = tt
ordered_filter {X = X} R test (x ∷ xs) order = go (test x) (Each-filter (R x) test xs order.0) (ordered_filter R test xs order.1)
  where
    go : (b : Bool) → Each (R x) (filter test xs) → Ordered R (filter test xs) → Ordered R (cond b (x ∷ filter test xs) (filter test xs))
    go true first rest = (first, rest)
    go false first rest = rest

-- one order from another, where something holds of each element
ordered_with : {X : Type 0} (P : X → Type 0) (R S : X → X → Type 0) → ((x y : X) → P x → P y → R x y → S x y) → (xs : List X) → Each P xs → Ordered R xs → Ordered S xs
ordered_with P R S law [] each order = tt
ordered_with P R S law (x ∷ xs) each order = (
  Each-weaker (λ y. P y × R x y) (S x) (λ y h. law x y each.0 h.0 h.1) xs (Each-both P (R x) xs each.1 order.0),
  ordered_with P R S law xs each.1 order.1,
)

-- ---- the same leaves

pub Each-by_pairs : (P : PlainLeaf → Type 0) (n : ℕ) (ss : List PlainLeaf) → Each P ss → Each P (by_pairs n ss)
unfolding by_pairs
Each-by_pairs P n ss each =
    Each-flat_map P (λ pair. filter (is_of_pair pair) ss) (pairs_of n)
    (Each-always (λ pair. Each P (filter (is_of_pair pair) ss)) (λ pair. Each-filter P (is_of_pair pair) ss each) (pairs_of n))

-- each element is one of them
among : {X : Type 0} (R : X → X → Type 0) → ((x : X) → R x x) → (xs : List X) → Each (λ x. Exists (R x) xs) xs
among R own [] = tt
among R own (x ∷ xs) = (inl (own x), Each-weaker (λ y. Exists (R y) xs) (λ y. Exists (R y) (x ∷ xs)) (λ y h. inr h) xs (among R own xs))

-- what follows of each of them where P holds follows where P holds of some
from_each : {X : Type 0} (P : X → Type 0) (G : Type 0) (xs : List X) → Each (λ x. P x → G) xs → Exists P xs → G
from_each P G [] each some = absurd some
from_each P G (x ∷ xs) each (inl here) = each.0 here
from_each P G (x ∷ xs) each (inr rest) = from_each P G xs each.1 rest

some_of : (P : PlainLeaf → Type 0) (n : ℕ) (ss : List PlainLeaf) → Exists P (by_pairs n ss) → Exists P ss
some_of P n ss some =
    from_each P (Exists P ss) (by_pairs n ss)
    (Each-by_pairs (λ s. P s → Exists P ss) n ss
    (Each-weaker (λ s. Exists (λ t. P s → P t) ss) (λ s. P s → Exists P ss) (λ s h p. Exists-weaker (λ t. P s → P t) P (λ t q. q p) ss h) ss
    (among (λ s t. P s → P t) (λ s p. p) ss)))
    some

abbrev pair_of : PlainLeaf → ℕ × ℕ
pair_of s = (s.a, s.b)

of_own_pair : (s : PlainLeaf) → is_of_pair (pair_of s) s ≡ true
of_own_pair s = and_from (s.a == s.a) (s.b == s.b) (eq-eqb s.a s.a refl) (eq-eqb s.b s.b refl)

Exists-by_pairs : (P : PlainLeaf → Type 0) (n : ℕ) (ss : List PlainLeaf) → AreOfObjects n ss → Exists P ss → Exists P (by_pairs n ss)
unfolding by_pairs
Exists-by_pairs P n ss objects some =
    from_each P (Exists P (flat_map f (pairs_of n))) ss
    (Each-weaker (λ s. (s.a < s.b × s.b < n) × Exists (R s) ss) (λ s. P s → Exists P (flat_map f (pairs_of n))) law ss
    (Each-both (λ s. s.a < s.b × s.b < n) (λ s. Exists (R s) ss) ss (each_from_All (λ s. s.a < s.b × s.b < n) ss objects) (among R (λ s p. (p, of_own_pair s)) ss)))
    some
  where
    f : ℕ × ℕ → List PlainLeaf
    f pair = filter (is_of_pair pair) ss

    R : PlainLeaf → PlainLeaf → Type 0
    R s t = P s → P t × (is_of_pair (pair_of s) t ≡ true)

    law : (s : PlainLeaf) → (s.a < s.b × s.b < n) × Exists (R s) ss → P s → Exists P (flat_map f (pairs_of n))
    law s h p =
        let own : Exists P (f (pair_of s)) =
        Exists-filter P (is_of_pair (pair_of s)) ss (Exists-weaker (R s) (λ t. P t × (is_of_pair (pair_of s) t ≡ true)) (λ t r. r p) ss h.1) in
        Exists-flat_map P f (pairs_of n)
        (Exists-weaker (λ pair. pair ≡ pair_of s) (λ pair. Exists P (f pair)) (λ pair same. subst (λ (q : ℕ × ℕ). Exists P (f q)) (sym same) own)
        (pairs_of n) (Exists-pairs n s.a s.b h.0.0 h.0.1))

-- pair by pair they split the common ticks as before
pub split_by_pairs : (case : PlainProblem) (n : ℕ) (ss : List PlainLeaf) → AreOfObjects n ss → CellsSplit case ss → CellsSplit case (by_pairs n ss)
split_by_pairs case n ss objects split = record {
  near = λ a b m here. split.near a b m (back _ here);
  undecided = λ a b m here. split.undecided a b m (back _ here);
  outside = λ a b m common near undecided. split.outside a b m common (λ here. near (forth _ here)) (λ here. undecided (forth _ here));
}
  where
    back : (P : PlainLeaf → Type 0) → Any P (by_pairs n ss) → Any P ss
    back P here = Any-from_exists P ss (some_of P n ss (exists_from_Any P (by_pairs n ss) here))

    forth : (P : PlainLeaf → Type 0) → Any P ss → Any P (by_pairs n ss)
    forth P here = Any-from_exists P (by_pairs n ss) (Exists-by_pairs P n ss objects (exists_from_Any P ss here))

-- ---- in order

-- of the same pair t stands behind s
abbrev pub IsBehind : PlainLeaf → PlainLeaf → Type 0
IsBehind s t = s.a ≡ t.a → s.b ≡ t.b → s.last < t.first

-- the leaf is of the pair
record IsOf (pair : ℕ × ℕ) (s : PlainLeaf) : Type 0 where
  first_object : s.a ≡ pair.0
  second_object : s.b ≡ pair.1

each_of : (pair : ℕ × ℕ) (ss : List PlainLeaf) → Each (IsOf pair) (filter (is_of_pair pair) ss)
each_of pair ss =
    Each-weaker (λ s. is_of_pair pair s ≡ true) (IsOf pair)
    (λ s is. let parts = and_parts (s.a == pair.0) (s.b == pair.1) is in record { first_object = eqb-true s.a pair.0 parts.0; second_object = eqb-true s.b pair.1 parts.1 })
    (filter (is_of_pair pair) ss) (each_from_All (λ s. is_of_pair pair s ≡ true) (filter (is_of_pair pair) ss) (filter_passes (is_of_pair pair) ss))

within_pair : (pair : ℕ × ℕ) (ss : List PlainLeaf) → Ordered IsBehind ss → Ordered IsBefore (filter (is_of_pair pair) ss)
within_pair pair ss behind =
    ordered_with (IsOf pair) IsBehind IsBefore
    (λ s t one other next.
    let a : s.a ≡ t.a = one.first_object ∙ sym other.first_object in
    let b : s.b ≡ t.b = one.second_object ∙ sym other.second_object in
    record { first_object = omega arith; second_object = λ e. omega arith; ticks = next })
    (filter (is_of_pair pair) ss) (each_of pair ss) (ordered_filter IsBehind (is_of_pair pair) ss behind)

behind_pair : (ss : List PlainLeaf) (p q : ℕ × ℕ) → PairBefore p q → Each (λ s. Each (IsBefore s) (filter (is_of_pair q) ss)) (filter (is_of_pair p) ss)
behind_pair ss p q before =
    Each-weaker (IsOf p) (λ s. Each (IsBefore s) (filter (is_of_pair q) ss))
    (λ s one. Each-weaker (IsOf q) (IsBefore s)
    (λ t other.
    let a : s.a ≡ p.0 = one.first_object in
    let b : s.b ≡ p.1 = one.second_object in
    let c : t.a ≡ q.0 = other.first_object in
    let d : t.b ≡ q.1 = other.second_object in
    let up = before.first_object in
    record {
      first_object = omega arith;
      second_object = λ e. let lt = before.second_object (omega arith) in omega arith;
      ticks = λ e f. let lt = before.second_object (omega arith) in absurd (omega arith);
    })
    (filter (is_of_pair q) ss) (each_of q ss))
    (filter (is_of_pair p) ss) (each_of p ss)

pub by_pairs_in_order : (n : ℕ) (ss : List PlainLeaf) → Ordered IsBehind ss → AreInOrder (by_pairs n ss)
unfolding by_pairs
by_pairs_in_order n ss behind =
    let f = λ (pair : ℕ × ℕ). filter (is_of_pair pair) ss in
    AllPairs-from_ordered IsBefore (flat_map f (pairs_of n))
    (Ordered-flat_map IsBefore PairBefore (λ pair. Unit {0}) f (λ pair _. within_pair pair ss behind) (λ p q _ _ before. behind_pair ss p q before)
    (pairs_of n) (Each-always (λ pair. Unit {0}) (λ pair. tt) (pairs_of n)) (Ordered-pairs n))

-- ---- roots slot by slot

-- of the same pair the root q stands behind r
abbrev IsRootBehind : PlainCell → PlainCell → Type 0
IsRootBehind r q = r.a ≡ q.a → r.b ≡ q.b → r.last < q.first

abbrev IsRootIn : PlainProblem → ℕ → ℕ × ℕ → PlainCell → Type 0
IsRootIn case slot pair = IsRoot case pair.0 pair.1 (slot_first case.first slot) (slot_last case.first case.last slot)

each_root : (case : PlainProblem) (slot : ℕ) (pair : ℕ × ℕ) → Each (IsRootIn case slot pair) (roots_in case slot pair.0 pair.1)
each_root case slot pair = Each-between case pair.0 pair.1 (slot_first case.first slot) (slot_last case.first case.last slot)

roots_of_pair : (case : PlainProblem) (slot : ℕ) (pair : ℕ × ℕ) → Ordered IsRootBehind (roots_in case slot pair.0 pair.1)
roots_of_pair case slot pair =
    ordered_with (IsRootIn case slot pair) IsRootBefore IsRootBehind (λ r q _ _ before. before.ticks) (roots_in case slot pair.0 pair.1) (each_root case slot pair)
    (Ordered-between case pair.0 pair.1 (slot_first case.first slot) (slot_last case.first case.last slot))

roots_behind_pair : (case : PlainProblem) (slot : ℕ) (p q : ℕ × ℕ) → PairBefore p q
    → Each (λ r. Each (IsRootBehind r) (roots_in case slot q.0 q.1)) (roots_in case slot p.0 p.1)
roots_behind_pair case slot p q before =
    Each-weaker (IsRootIn case slot p) (λ r. Each (IsRootBehind r) (roots_in case slot q.0 q.1))
    (λ r is. Each-weaker (IsRootIn case slot q) (IsRootBehind r)
    (λ s next e f.
    let a : r.a ≡ p.0 = is.first_object in
    let b : r.b ≡ p.1 = is.second_object in
    let c : s.a ≡ q.0 = next.first_object in
    let d : s.b ≡ q.1 = next.second_object in
    let lt = before.second_object (omega arith) in
    absurd (omega arith))
    (roots_in case slot q.0 q.1) (each_root case slot q))
    (roots_in case slot p.0 p.1) (each_root case slot p)

-- the root's ticks are those of a slot
record IsInSlot (case : PlainProblem) (slot : ℕ) (r : PlainCell) : Type 0 where
  from : slot_first case.first slot ≤ r.first
  to : r.last ≤ slot_last case.first case.last slot

each_in_slot : (case : PlainProblem) (slot : ℕ) (pairs : List (ℕ × ℕ)) → Each (IsInSlot case slot) (roots_in_slot case slot pairs)
each_in_slot case slot [] = tt
each_in_slot case slot (pair ∷ pairs) =
    Each-append (IsInSlot case slot) (roots_in case slot pair.0 pair.1) (roots_in_slot case slot pairs)
    (Each-weaker (IsRootIn case slot pair) (IsInSlot case slot) (λ r is. record { from = is.from; to = is.to }) (roots_in case slot pair.0 pair.1) (each_root case slot pair))
    (each_in_slot case slot pairs)

slot_behind : (first last j k : ℕ) → j < k → slot_last first last j < slot_first first k
slot_behind first last j k lt = omega arith

roots_behind : (candidate : ℕ → ℕ → ℕ → Bool) (case : PlainProblem) → Ordered IsRootBehind (roots_by_slot candidate case)
unfolding roots_by_slot
roots_behind candidate case =
    Ordered-flat_map IsRootBehind (λ j k. j < k) (λ slot. Unit {0}) own (λ slot _. of_slot slot)
    (λ j k _ _ lt. Each-weaker (IsInSlot case j) (λ r. Each (IsRootBehind r) (own k))
    (λ r is. Each-weaker (IsInSlot case k) (IsRootBehind r) (λ q next e f. let to = is.to in let from = next.from in let between = slot_behind case.first case.last j k lt in omega arith)
    (own k) (each_in_slot case k (candidates k)))
    (own j) (each_in_slot case j (candidates j)))
    (slots_of case) (Each-always (λ slot. Unit {0}) (λ slot. tt) (slots_of case)) (Ordered-range 0 (slot_count case.first case.last))
  where
    candidates : ℕ → List (ℕ × ℕ)
    candidates slot = filter (λ pair. candidate pair.0 pair.1 slot) (pairs_of (length case.tracks))

    own : ℕ → List PlainCell
    own slot = roots_in_slot case slot (candidates slot)

    of_slot : (slot : ℕ) → Ordered IsRootBehind (own slot)
    of_slot slot =
        Ordered-flat_map IsRootBehind PairBefore (λ pair. Unit {0}) (λ pair. roots_in case slot pair.0 pair.1)
        (λ pair _. roots_of_pair case slot pair) (λ p q _ _ before. roots_behind_pair case slot p q before)
        (candidates slot) (Each-always (λ pair. Unit {0}) (λ pair. tt) (candidates slot))
        (ordered_filter PairBefore (λ pair. candidate pair.0 pair.1 slot) (pairs_of (length case.tracks)) (Ordered-pairs (length case.tracks)))

-- ---- the cells of an accepted certificate in brief

module _ (P : PlainLeaf → Type 0) (F : PlainCell → Type 0) where
  -- those of one root
  part_behind : (r : PlainCell) (part : List PlainLeaf) → TilesOrFar P F r part → Ordered IsBehind part
  part_behind r part (inl tile) =
      ordered_with (λ s. Unit {0}) IsBefore IsBehind (λ s t _ _ before. before.ticks) part (Each-always (λ s. Unit {0}) (λ s. tt) part) (tile_ordered P r.a r.b r.first r.last part tile)
  part_behind r part (inr left) = subst (Ordered IsBehind) (sym left.0) tt

  -- what holds of each leaf of a root holds of its part
  of_part : (S : PlainLeaf → Type 0) (r : PlainCell) (part : List PlainLeaf) → ((s : PlainLeaf) → IsLeaf P r.a r.b r.first r.last s → S s) → TilesOrFar P F r part → Each S part
  of_part S r part law (inl tile) = Each-weaker (IsLeaf P r.a r.b r.first r.last) S law part (Each-tile P r.a r.b r.first r.first r.last part (omega arith) tile)
  of_part S r part law (inr left) = subst (Each S) (sym left.0) tt

  parts_behind : (roots : List PlainCell) (parts : List (List PlainLeaf)) → AllZip (TilesOrFar P F) roots parts → Ordered IsRootBehind roots → Ordered IsBehind (flat_map (λ part. part) parts)
  parts_behind [] [] tiles behind = tt
  parts_behind [] (part ∷ parts) tiles behind = absurd tiles
  parts_behind (r ∷ roots) [] tiles behind = absurd tiles
  parts_behind (r ∷ roots) (part ∷ parts) tiles behind =
      let rest = flat_map (λ part. part) parts in
      Ordered-append IsBehind part rest (part_behind r part tiles.0) (parts_behind roots parts tiles.1 behind.1)
      (of_part (λ s. Each (IsBehind s) rest) r part
      (λ s leaf. each_told P (IsBehind s) F (IsRootBehind r)
      (λ q t next other e f.
      let a : r.a ≡ q.a = sym leaf.first_object ∙ e ∙ other.first_object in
      let b : r.b ≡ q.b = sym leaf.second_object ∙ f ∙ other.second_object in
      let lt = next a b in
      omega (arith, leaf.to, other.from))
      roots rest (record { parts = parts; whole = refl; tiles = tiles.1 }) behind.0)
      tiles.0)

cells_behind : (case : PlainProblem) (c : PlainBrief) → AcceptedInBrief case c → Ordered IsBehind c.cells
cells_behind case c accepted =
    let candidate = is_candidate_in_brief case c in
    let tile = accepted.cells in
    subst (Ordered IsBehind) (sym tile.whole)
    (parts_behind (IsSupported case) (IsFarThroughout case) (roots_by_slot candidate case) tile.parts tile.tiles (roots_behind candidate case))

-- what follows for each of them from its root
pub each_cell : (S : PlainLeaf → Type 0) (case : PlainProblem) (c : PlainBrief) → ((r : PlainCell) (s : PlainLeaf) → IsRootOf case r → IsLeaf (IsSupported case) r.a r.b r.first r.last s → S s)
    → AcceptedInBrief case c → Each S c.cells
each_cell S case c law accepted =
    let candidate = is_candidate_in_brief case c in
    each_told (IsSupported case) S (IsFarThroughout case) (IsRootOf case) law (roots_by_slot candidate case) c.cells accepted.cells (Each-by_slot candidate case)

of_objects : (case : PlainProblem) (c : PlainBrief) → AcceptedInBrief case c → AreOfObjects c.objects c.cells
of_objects case c accepted =
    All-from_each (λ s. s.a < s.b × s.b < c.objects) c.cells
    (each_cell (λ s. s.a < s.b × s.b < c.objects) case c
    (λ r s is leaf.
    let a : s.a ≡ r.a = leaf.first_object in
    let b : s.b ≡ r.b = leaf.second_object in
    let ordered = is.ordered in
    let exists = is.exists in
    let objects : c.objects ≡ length case.tracks = accepted.objects in
    (omega arith, omega arith))
    accepted)

-- ---- the cells of an accepted certificate

pub names_its_objects : (case : PlainProblem) (c : PlainAnyCertificate) → IsAcceptedFor case c → NamesItsObjects c
names_its_objects case (InFull c) accepted = tt
names_its_objects case (InBrief c) accepted = of_objects case c accepted

pub any_in_order : (case : PlainProblem) (c : PlainAnyCertificate) → IsAcceptedFor case c → AreInOrder (cells_in c)
any_in_order case (InFull c) accepted = cells_in_order case c accepted
any_in_order case (InBrief c) accepted = by_pairs_in_order c.objects c.cells (cells_behind case c accepted)

pub any_keep : (case : PlainProblem) (c : PlainAnyCertificate) → IsAcceptedFor case c → KeepTheirPieces case (cells_in c)
any_keep case (InFull c) accepted = cells_keep case c accepted
any_keep case (InBrief c) accepted =
    All-from_each (Keeps case) (by_pairs c.objects c.cells) (Each-by_pairs (Keeps case) c.objects c.cells (each_cell (Keeps case) case c (kept case) accepted))

pub any_split : (case : PlainProblem) (c : PlainAnyCertificate) → AnySplits case → IsAcceptedFor case c → CellsSplit case (cells_in c)
any_split case (InFull c) splits accepted = splits.0 c accepted
any_split case (InBrief c) splits accepted = split_by_pairs case c.objects c.cells (of_objects case c accepted) (splits.1 c accepted)
