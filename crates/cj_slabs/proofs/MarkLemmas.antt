-- The near and undecided leaves of what is told are those of the one-thread list, once they are sorted.
use Rattle.std.proofs.Common.{◌≡◌, ℕ, suc, ◌+◌, ◌<◌, ◌≤◌, Bool, true, false, cond, ◌&&◌, eqb, not, List, [], ◌∷◌, ◌++◌, Vec, Global, length, get_or, take, refl, sym, ap, ◌∙◌, subst, arith}
use Rattle.std.specs.Prelude.{filter}
use Rattle.std.specs.List.{list_all}
use Rattle.std.specs.List.Sorted.{IsPermutation}
use Rattle.std.proofs.lemmas.Bool.{eqb-true, eq-eqb, and_parts, and_from}
use Rattle.std.proofs.lemmas.List.Elements.{filter-append, filter_more}
use Rattle.std.proofs.lemmas.List.Sorted.{IsPermutation-append, IsPermutation-map, IsPermutation-refl, IsPermutation-trans}
use Rattle.cj_interval.proofs.ListLemmas.{Ordered, Each-filter, Ordered-map, AllPairs-from_ordered, each_from_All, ordered_from_AllPairs}
use Rattle.cj_interval.proofs.SumLemmas.{total, total_same, total-flat_map, total-filter, same_totals, same_list}
use Rattle.cj_case.specs.PlainProblems.{PlainProblem}
use Rattle.cj_case.specs.Cells.{PlainCell}
use Rattle.cj_case.specs.declared.kind.Kind.TheVariants.{Far}
use Rattle.cj_case.specs.declared.leaf.Leaf.{Leaf}
use Rattle.cj_case.specs.Leaves.{PlainLeaf, plain_leaf, plain_leaves, same_kind}
use Rattle.cj_case.specs.Order.{IsBefore, AreInOrder, HaveTicks}
use Rattle.cj_case.specs.PairOrder.{AreInOrderBy}
use Rattle.cj_hermite.specs.Roots.{roots_of, roots_by_slot}
use Rattle.cj_hermite.proofs.RootSumLemmas.{same_roots}
use Rattle.cj_bezier.specs.Candidates.{is_candidate}
use Rattle.cj_bezier.specs.RootLeaves.{is_far_throughout, leaves_of_root, leaves_of_roots, told_of_root}
use Rattle.cj_bezier.proofs.KindLemmas.{from_same_kind, same_kind-self}
use Rattle.cj_bezier.specs.ToldLeaves.{told_by, told_leaves}
use Rattle.cj_cells.specs.Lists.{list_of, list_candidates, marked_leaves}
use Rattle.cj_slabs.specs.Marks.{AreMarked, is_marked}
use Rattle.cj_slabs.specs.Slabs.{leaves_listed}

-- ---- the same leaves, as sums

abbrev is_near_or_undecided : PlainLeaf → Bool
is_near_or_undecided s = not (same_kind Far s.kind)

-- far leaves add nothing
none_marked : (f : PlainLeaf → ℕ) (ss : List PlainLeaf) → list_all (λ s. same_kind Far s.kind) ss ≡ true → total (λ s. cond (is_near_or_undecided s) (f s) 0) ss ≡ 0
unfolding total
none_marked f [] far = refl
none_marked f (s ∷ ss) far =
    let parts = and_parts (same_kind Far s.kind) (list_all (λ (t : PlainLeaf). same_kind Far t.kind) ss) far in
    let here : cond {A = ℕ} (is_near_or_undecided s) (f s) 0 ≡ 0 = ap (λ (c : Bool). cond {A = ℕ} (not c) (f s) 0) parts.0 in
    let rest = none_marked f ss parts.1 in
    omega arith

-- so what is told of a root has the same sum as all its leaves
told_alike : (case : PlainProblem) (f : PlainLeaf → ℕ) (r : PlainCell)
    → total (λ s. cond (is_near_or_undecided s) (f s) 0) (told_of_root case r) ≡ total (λ s. cond (is_near_or_undecided s) (f s) 0) (leaves_of_root case r)
unfolding told_of_root is_far_throughout total
told_alike case f r = go (leaves_of_root case r) (list_all (λ s. same_kind Far s.kind) (leaves_of_root case r)) refl
  where
    go : (ss : List PlainLeaf) (far : Bool) → list_all (λ s. same_kind Far s.kind) ss ≡ far
        → total (λ s. cond (is_near_or_undecided s) (f s) 0) (cond far [] ss) ≡ total (λ s. cond (is_near_or_undecided s) (f s) 0) ss
    go ss true is = sym (none_marked f ss is)
    go ss false is = refl

same_marks : (case : PlainProblem) (f : PlainLeaf → ℕ) → total f (filter is_near_or_undecided (told_leaves case)) ≡ total f (marked_leaves case)
unfolding told_by marked_leaves list_of leaves_of_roots
same_marks case f =
    let g = λ (s : PlainLeaf). cond (is_near_or_undecided s) (f s) 0 in
    let candidate = is_candidate case in
    total-filter f is_near_or_undecided (told_leaves case)
    ∙ total-flat_map g (told_of_root case) (roots_by_slot candidate case)
    ∙ total_same (λ r. total g (told_of_root case r)) (λ r. total g (leaves_of_root case r)) (told_alike case f) (roots_by_slot candidate case)
    ∙ same_roots candidate case (λ r. total g (leaves_of_root case r))
    ∙ sym (total-flat_map g (leaves_of_root case) (roots_of candidate case))
    ∙ sym (total-filter f is_near_or_undecided (list_candidates case))

-- ---- a test of two leaves

abbrev is_leaf : PlainLeaf → PlainLeaf → Bool
is_leaf s t = eqb s.a t.a && (eqb s.b t.b && (eqb s.first t.first && (eqb s.last t.last && same_kind s.kind t.kind)))

is_leaf-self : (s : PlainLeaf) → is_leaf s s ≡ true
is_leaf-self s =
    and_from (eqb s.a s.a) _ (eq-eqb s.a s.a refl)
    (and_from (eqb s.b s.b) _ (eq-eqb s.b s.b refl)
    (and_from (eqb s.first s.first) _ (eq-eqb s.first s.first refl)
    (and_from (eqb s.last s.last) (same_kind s.kind s.kind) (eq-eqb s.last s.last refl) (same_kind-self s.kind))))

same_from_is_leaf : (s t : PlainLeaf) → is_leaf s t ≡ true → s ≡ t
same_from_is_leaf s t e =
    let p = and_parts (eqb s.a t.a) (eqb s.b t.b && (eqb s.first t.first && (eqb s.last t.last && same_kind s.kind t.kind))) e in
    let q = and_parts (eqb s.b t.b) (eqb s.first t.first && (eqb s.last t.last && same_kind s.kind t.kind)) p.1 in
    let r = and_parts (eqb s.first t.first) (eqb s.last t.last && same_kind s.kind t.kind) q.1 in
    let u = and_parts (eqb s.last t.last) (same_kind s.kind t.kind) r.1 in
    let a : s.a ≡ t.a = eqb-true s.a t.a p.0 in
    let b : s.b ≡ t.b = eqb-true s.b t.b q.0 in
    let first : s.first ≡ t.first = eqb-true s.first t.first r.0 in
    let last : s.last ≡ t.last = eqb-true s.last t.last u.0 in
    let kind : s.kind ≡ t.kind = from_same_kind s.kind t.kind u.1 in
    λ i. record { a = a i; b = b i; first = first i; last = last i; kind = kind i }

-- ---- two orders of leaves

-- s begins no later than t, in the order of pair and tick
record IsUpTo (s t : PlainLeaf) : Type 0 where
  first_object : s.a ≤ t.a
  second_object : s.a ≡ t.a → s.b ≤ t.b
  ticks : s.a ≡ t.a → s.b ≡ t.b → s.first ≤ t.first

-- neither order goes against the other for a leaf that has a tick
up_or_down : (s t : PlainLeaf) → s.first ≤ s.last → IsBefore s t → IsUpTo t s → ⊥
up_or_down s t some down up =
    let a : s.a ≡ t.a = omega (arith, up.first_object, down.first_object) in
    let b : s.b ≡ t.b = omega (arith, up.second_object (sym a), down.second_object a) in
    omega (arith, up.ticks (sym a) (sym b), down.ticks a b, some)

-- what is left of a list in order is in order
Ordered-filter : {X : Type 0} (R : X → X → Type 0) (test : X → Bool) (xs : List X) → Ordered R xs → Ordered R (filter test xs)
Ordered-filter R test [] o = tt
Ordered-filter {X} R test (x ∷ xs) o = go (test x) (Ordered-filter R test xs o.1)
  where
    go : (c : Bool) → Ordered R (filter test xs) → Ordered R (cond c (x ∷ filter test xs) (filter test xs))
    go true rest = (Each-filter (R x) test xs o.0, rest)
    go false rest = rest

leaves_up_to : (leaves : List Leaf) → AreInOrderBy (λ leaf. (leaf.cell.pair, leaf.cell.first)) leaves → Ordered IsUpTo (plain_leaves leaves)
leaves_up_to leaves ordered =
    Ordered-map IsUpTo plain_leaf leaves
    (ordered_from_AllPairs (λ c d. IsUpTo (plain_leaf c) (plain_leaf d)) leaves
    (λ i j e lt le. let u = ordered i j e lt le in record { first_object = u.first_object; second_object = u.second_object; ticks = u.tick }))

-- ---- the list

plain_filter : (leaves : List Leaf) → plain_leaves (filter is_marked leaves) ≡ filter is_near_or_undecided (plain_leaves leaves)
plain_filter [] = refl
plain_filter (leaf ∷ leaves) = go (is_marked leaf) (plain_filter leaves)
  where
    go : (c : Bool) → plain_leaves (filter is_marked leaves) ≡ filter is_near_or_undecided (plain_leaves leaves)
        → plain_leaves (cond c (leaf ∷ filter is_marked leaves) (filter is_marked leaves))
        ≡ cond c (plain_leaf leaf ∷ filter is_near_or_undecided (plain_leaves leaves)) (filter is_near_or_undecided (plain_leaves leaves))
    go true rest = ap (λ ss. plain_leaf leaf ∷ ss) rest
    go false rest = rest

-- one leaf more of a slab, which is marked or far
pub marked_more : (slab : List Leaf) (i : ℕ) (leaf : Leaf) (far : Bool) (marks new : List Leaf) → i < length slab → leaf ≡ get_or slab i leaf → same_kind Far leaf.kind ≡ far
    → marks ≡ filter is_marked (take i slab) → new ≡ marks ++ cond (not far) (leaf ∷ []) [] → new ≡ filter is_marked (take (i + 1) slab)
marked_more slab i leaf far marks new lt at is so_far grown =
    let done = filter is_marked (take i slab) in
    grown
    ∙ ap (λ (ls : List Leaf). ls ++ cond (not far) (leaf ∷ []) []) so_far
    ∙ ap (λ (f : Bool). done ++ cond (not f) (leaf ∷ []) []) (sym is)
    ∙ ap (λ (l : Leaf). done ++ cond (is_marked l) (l ∷ []) []) at
    ∙ sym (filter_more is_marked slab i leaf lt)

-- those of several lists, one list behind another
pub each_marked : (slabs lists : List (Vec Leaf Global)) → length lists ≡ length slabs
    → ((i : ℕ) (list slab : Vec Leaf Global) → i < length slabs → IsPermutation (filter is_marked (get_or slabs i slab).items) (get_or lists i list).items)
    → IsPermutation (filter is_marked (leaves_listed slabs)) (leaves_listed lists)
each_marked [] [] same each = IsPermutation-refl []
each_marked [] (list ∷ lists) same each = absurd (omega arith)
each_marked (slab ∷ slabs) [] same each = absurd (omega arith)
each_marked (slab ∷ slabs) (list ∷ lists) same each =
    let more = leaves_listed slabs in
    let rest = each_marked slabs lists (omega arith) (λ i l s lt. each (suc i) l s (omega arith)) in
    subst (λ (ls : List Leaf). IsPermutation ls (list.items ++ leaves_listed lists)) (sym (filter-append is_marked slab.items more))
    (IsPermutation-append (filter is_marked slab.items) list.items (filter is_marked more) (leaves_listed lists) (each 0 list slab (omega arith)) rest)

-- the marked ones of the leaves that are told, in order
pub marks_are : (case : PlainProblem) (told marks sorted : List Leaf) → plain_leaves told ≡ told_leaves case → HaveTicks (list_candidates case) → AreInOrder (list_candidates case)
    → IsPermutation (filter is_marked told) marks → IsPermutation marks sorted → AreInOrderBy (λ leaf. (leaf.cell.pair, leaf.cell.first)) sorted → AreMarked case sorted
unfolding marked_leaves
marks_are case told marks sorted is ticks ordered some moved up =
    let list = list_candidates case in
    let moves = IsPermutation-map plain_leaf (filter is_marked told) sorted (IsPermutation-trans (filter is_marked told) marks sorted some moved) in
    let first : Ordered IsBefore (marked_leaves case) = Ordered-filter IsBefore is_near_or_undecided list (ordered_from_AllPairs IsBefore list ordered) in
    let same : marked_leaves case ≡ plain_leaves sorted =
    same_list is_leaf (record { itself = is_leaf-self; exact = same_from_is_leaf }) (λ s. s.first ≤ s.last) IsBefore IsUpTo up_or_down
    (marked_leaves case) (plain_leaves sorted)
    (Each-filter (λ s. s.first ≤ s.last) is_near_or_undecided list (each_from_All (λ s. s.first ≤ s.last) list ticks))
    first
    (leaves_up_to sorted up)
    (λ f.
    sym (same_marks case f)
    ∙ ap (λ ss. total f (filter is_near_or_undecided ss)) (sym is)
    ∙ ap (total f) (sym (plain_filter told))
    ∙ sym (same_totals f (plain_leaves (filter is_marked told)) (plain_leaves sorted) moves)) in
    record {
      value = sym same;
      ordered = subst AreInOrder same (AllPairs-from_ordered IsBefore (marked_leaves case) first);
    }
