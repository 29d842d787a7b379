-- Slabs: what is added root by root and slot by slot, and what is found in slots that follow each other.
use Rattle.std.proofs.Common.{◌≡◌, ℕ, ◌+◌, ◌<◌, ◌≤◌, List, [], ◌∷◌, ◌++◌, Vec, Global, length, map, get_or, take, drop, min, refl, sym, ap, subst, ◌∙◌, arith, append-nil, append_assoc}
use Rattle.std.specs.Prelude.{All}
use Rattle.std.proofs.lemmas.List.{drop_more, length-map, map-append, map_push, take-append-drop, take_more}
use Rattle.std.proofs.lemmas.List.Concat.{flat_map-append}
use Rattle.std.proofs.lemmas.List.Elements.{All-append, All-nil}
use Rattle.std.proofs.lemmas.List.Sums.{sum_by-append, sum_by-cons}
use Rattle.cj_interval.proofs.ListLemmas.{Each, Each-append, Each-weaker, exists_from_Any}
use Rattle.cj_case.specs.PlainProblems.{PlainProblem}
use Rattle.cj_case.specs.declared.cell.Cell.{Cell}
use Rattle.cj_case.specs.declared.leaf.Leaf.{Leaf}
use Rattle.cj_case.specs.declared.pair.Pair.{Pair}
use Rattle.cj_case.specs.Cells.{PlainCell, plain_cell, plain_cells}
use Rattle.cj_case.specs.Leaves.{PlainLeaf, plain_leaf, plain_leaves, IsTickOf}
use Rattle.cj_case.specs.Pairs.{objects_of}
use Rattle.cj_case.specs.Slots.{slot_first, slot_last}
use Rattle.cj_case.proofs.SlotLemmas.{slot_within}
use Rattle.cj_hermite.specs.Roots.{roots_in, roots_in_slot}
use Rattle.cj_hermite.proofs.RootLemmas.{IsRoot, IsRootOf, Each-between}
use Rattle.cj_hermite.proofs.SlotRootLemmas.{pair_more, pairs_apart}
use Rattle.cj_bezier.specs.Candidates.{candidate_pairs}
use Rattle.cj_bezier.specs.RootLeaves.{is_far_throughout, told_of_root}
use Rattle.cj_bezier.specs.RootLeaves.{leaves_of_root, leaves_of_roots, Describe}
use Rattle.cj_bezier.proofs.LeafLemmas.{fewer_roots}
use Rattle.cj_cells.specs.Cells.{added_leaves, added_roots}
use Rattle.cj_cells.proofs.ListingLemmas.{leaves_of_cells, roots_apart}
use Rattle.cj_cells.proofs.SlotRootLemmas.{count_of}
use Rattle.cj_slabs.specs.declared.leaf_counts.LeafCounts.{LeafCounts}
use Rattle.cj_slabs.specs.declared.slab.Slab.{Slab}
use Rattle.cj_slabs.specs.Counts.{AddCounts, AreCountsOf}
use Rattle.cj_slabs.specs.Slabs.{AddRoots, AddSlot, IsSlabOf, roots_at, slot_roots, told_of, told_of_roots}
use Rattle.cj_slabs.proofs.CountLemmas.{counts_more, more_counts, no_counts, none_counted, number_both}

pub told_both : (case : PlainProblem) (rs ss : List PlainCell) → told_of_roots case (rs ++ ss) ≡ told_of_roots case rs ++ told_of_roots case ss
told_both case rs ss = flat_map-append (told_of_root case) rs ss

pub roots_both : (case : PlainProblem) (some more : List ℕ) → roots_at case (some ++ more) ≡ roots_at case some ++ roots_at case more
roots_both case some more = flat_map-append (slot_roots case) some more

-- ---- root by root

-- leaves that describe a root are some
pub some_described : (case : PlainProblem) (r : PlainCell) (ss : List PlainLeaf) → r.first ≤ r.last → Describe case r ss → 0 < length ss
some_described case r [] some is = absurd (exists_from_Any (IsTickOf r.a r.b r.first) [] (is.complete r.first (omega arith) some))
some_described case r (s ∷ ss) some is = omega arith

-- the leaves of one root are told, or counted alone
pub root_added : (case : PlainProblem) (r : PlainCell) (leaves : List Leaf) (old new : Slab) → plain_leaves leaves ≡ leaves_of_root case r → Describe case r (leaves_of_root case r)
    → plain_leaves new.told.items ≡ plain_leaves old.told.items ++ told_of (plain_leaves leaves) → AddCounts case (r ∷ []) old.counts new.counts → new.touching ≡ old.touching
    → AddRoots case (r ∷ []) old new
unfolding told_of_root is_far_throughout
root_added case r leaves old new same described told counts touching = record {
  told = told ∙ ap (λ (ss : List PlainLeaf). plain_leaves old.told.items ++ told_of ss) same
      ∙ ap (λ (ts : List PlainLeaf). plain_leaves old.told.items ++ ts) (sym (append-nil (told_of_root case r)));
  counts = counts;
  described = λ k d lt. let at : k ≡ 0 = omega arith in subst (λ (j : ℕ). Describe case (get_or (r ∷ []) j d) (leaves_of_root case (get_or (r ∷ []) j d))) (sym at) described;
  touching = touching;
}

-- what was added to an empty list is all of it
pub all_added : (old new : List Cell) (rs : List PlainCell) → old ≡ [] → added_roots old new ≡ rs → plain_cells new ≡ rs
all_added old new rs none added = ap (λ (cells : List Cell). plain_cells (drop (length cells) new)) (sym none) ∙ added

pub all_leaves_added : (old new : List Leaf) (ss : List PlainLeaf) → old ≡ [] → added_leaves old new ≡ ss → plain_leaves new ≡ ss
all_leaves_added old new ss none added = ap (λ (leaves : List Leaf). plain_leaves (drop (length leaves) new)) (sym none) ∙ added

pub no_roots_added : (case : PlainProblem) (slab : Slab) → AddRoots case [] slab slab
no_roots_added case slab = record {
  told = sym (append-nil (plain_leaves slab.told.items));
  counts = no_counts case slab.counts;
  described = All-nil (λ r. Describe case r (leaves_of_root case r));
  touching = refl;
}

told_more : (case : PlainProblem) (rs ss : List PlainCell) (old mid new : List PlainLeaf) → mid ≡ old ++ told_of_roots case rs → new ≡ mid ++ told_of_roots case ss → new ≡ old ++ told_of_roots case (rs ++ ss)
told_more case rs ss old mid new some more =
    more ∙ ap (λ (ts : List PlainLeaf). ts ++ told_of_roots case ss) some ∙ append_assoc old (told_of_roots case rs) (told_of_roots case ss)
    ∙ ap (λ (ts : List PlainLeaf). old ++ ts) (sym (told_both case rs ss))

pub more_roots : (case : PlainProblem) (rs ss : List PlainCell) (old mid new : Slab) → AddRoots case rs old mid → AddRoots case ss mid new → AddRoots case (rs ++ ss) old new
more_roots case rs ss old mid new some more = record {
  told = told_more case rs ss (plain_leaves old.told.items) (plain_leaves mid.told.items) (plain_leaves new.told.items) some.told more.told;
  counts = more_counts case rs ss old.counts mid.counts new.counts some.counts more.counts;
  described = All-append (λ r. Describe case r (leaves_of_root case r)) rs ss some.described more.described;
  touching = more.touching ∙ some.touching;
}

-- one root more of a list
pub root_more : (case : PlainProblem) (roots : List Cell) (i : ℕ) (root : Cell) (old mid new : Slab) → i < length roots → root ≡ get_or roots i root
    → AddRoots case (plain_cells (take i roots)) old mid → AddRoots case (plain_cell root ∷ []) mid new → AddRoots case (plain_cells (take (i + 1) roots)) old new
root_more case roots i root old mid new lt is some more =
    let whole : plain_cells (take (i + 1) roots) ≡ plain_cells (take i roots) ++ plain_cell root ∷ [] =
    ap plain_cells (take_more roots i root lt) ∙ map_push plain_cell (take i roots) (get_or roots i root) ∙ ap (λ (c : Cell). plain_cells (take i roots) ++ plain_cell c ∷ []) (sym is) in
    subst (λ (rs : List PlainCell). AddRoots case rs old new) (sym whole) (more_roots case (plain_cells (take i roots)) (plain_cell root ∷ []) old mid new some more)

-- the first of some roots and the next have no more leaves than all
pub upto_root : (case : PlainProblem) (roots : List Cell) (i : ℕ) (root : Cell) → i < length roots → root ≡ get_or roots i root
    → length (leaves_of_roots case (plain_cells (take i roots))) + length (leaves_of_root case (plain_cell root)) ≤ length (leaves_of_roots case (plain_cells roots))
upto_root case roots i root lt is =
    count_of (leaves_of_cells case (take i roots)) (leaves_of_root case (plain_cell root)) (leaves_of_cells case (drop (i + 1) roots)) (leaves_of_cells case roots)
    (roots_apart case i roots root lt is)

-- ---- pairs of a slot

-- the roots of pairs in a slot
abbrev pub roots_with : PlainProblem → ℕ → List Pair → List PlainCell
roots_with case slot pairs = roots_in_slot case slot (map objects_of pairs)

are_roots : (case : PlainProblem) (slot : ℕ) (pairs : List Pair) → Each (λ pair. pair.b < length case.tracks) pairs → Each (IsRootOf case) (roots_with case slot pairs)
are_roots case slot [] exist = tt
are_roots case slot (pair ∷ pairs) exist =
    Each-append (IsRootOf case) (roots_in case slot pair.a pair.b) (roots_with case slot pairs)
    (Each-weaker (IsRoot case pair.a pair.b (slot_first case.first slot) (slot_last case.first case.last slot)) (IsRootOf case) (λ r is. let within = slot_within case.first case.last slot in
    let a : r.a ≡ pair.a = is.first_object in
    let b : r.b ≡ pair.b = is.second_object in
    let whole : IsRoot case pair.a pair.b case.first case.last r = record {
      first_object = a;
      second_object = b;
      from = omega (arith, is.from);
      some = is.some;
      to = omega (arith, is.to, within);
      same = is.same;
      labelled = is.labelled;
    } in
    record {
      ordered = omega (arith, a, b, pair.ordered);
      exists = omega (arith, b, exist.0);
      root = subst (λ (x : ℕ). IsRoot case x r.b case.first case.last r) (sym a) (subst (λ (x : ℕ). IsRoot case pair.a x case.first case.last r) (sym b) whole);
    }) (roots_in case slot pair.a pair.b) (Each-between case pair.a pair.b (slot_first case.first slot) (slot_last case.first case.last slot)))
    (are_roots case slot pairs exist.1)

-- their roots are no more than the leaves of these
pub fewer_with : (case : PlainProblem) (slot : ℕ) (pairs : List Pair) → Each (λ pair. pair.b < length case.tracks) pairs → length (roots_with case slot pairs) ≤ length (leaves_of_roots case (roots_with case slot pairs))
fewer_with case slot pairs exist = fewer_roots case (roots_with case slot pairs) (are_roots case slot pairs exist)

-- the roots of one pair
pub one_pair : (case : PlainProblem) (slot : ℕ) (pair : Pair) → roots_in_slot case slot (objects_of pair ∷ []) ≡ roots_in case slot pair.a pair.b
one_pair case slot pair = append-nil (roots_in case slot pair.a pair.b)

-- what is more than the leaves of a root is more than those of a list of it alone
pub one_root_leaves : (case : PlainProblem) (r : PlainCell) (limit before : ℕ) → limit < before + length (leaves_of_root case r) → limit < before + length (leaves_of_roots case (r ∷ []))
unfolding leaves_of_roots
one_root_leaves case r limit before many =
    let same : length (leaves_of_roots case (r ∷ [])) ≡ length (leaves_of_root case r) = ap length (append-nil (leaves_of_root case r)) in
    omega (arith, many, same)

-- one pair more of a list
pub next_pair_added : (case : PlainProblem) (slot i : ℕ) (pairs : List Pair) (pair : Pair) (old mid new : Slab) → i < length pairs → pair ≡ get_or pairs i pair
    → AddRoots case (roots_with case slot (take i pairs)) old mid → AddRoots case (roots_in_slot case slot (objects_of pair ∷ [])) mid new → AddRoots case (roots_with case slot (take (i + 1) pairs)) old new
next_pair_added case slot i pairs pair old mid new lt is some more =
    let whole : roots_with case slot (take i pairs) ++ roots_in_slot case slot (objects_of pair ∷ []) ≡ roots_with case slot (take (i + 1) pairs) =
    ap (λ (rs : List PlainCell). roots_with case slot (take i pairs) ++ rs) (one_pair case slot pair) ∙ sym (pair_more case slot i pairs pair lt is) in
    subst (λ (rs : List PlainCell). AddRoots case rs old new) whole
    (more_roots case (roots_with case slot (take i pairs)) (roots_in_slot case slot (objects_of pair ∷ [])) old mid new some more)

-- the first pairs and the next have no more leaves than all
pub upto_pair : (case : PlainProblem) (slot i : ℕ) (pairs : List Pair) (pair : Pair) → i < length pairs → pair ≡ get_or pairs i pair
    → length (leaves_of_roots case (roots_with case slot (take i pairs))) + length (leaves_of_roots case (roots_in_slot case slot (objects_of pair ∷ [])))
    ≤ length (leaves_of_roots case (roots_with case slot pairs))
upto_pair case slot i pairs pair lt is =
    let done = roots_with case slot (take i pairs) in
    let next = roots_in case slot pair.a pair.b in
    let rest = roots_with case slot (drop (i + 1) pairs) in
    omega (
      arith,
      ap (λ (rs : List PlainCell). length (leaves_of_roots case rs)) (one_pair case slot pair),
      ap (λ (rs : List PlainCell). length (leaves_of_roots case rs)) (pairs_apart case slot i pairs pair lt is),
      number_both case done (next ++ rest),
      number_both case next rest,
    )

with_both : (case : PlainProblem) (slot n : ℕ) (pairs : List Pair) → roots_with case slot pairs ≡ roots_with case slot (take n pairs) ++ roots_with case slot (drop n pairs)
with_both case slot n pairs =
    ap (roots_with case slot) (sym (take-append-drop n pairs))
    ∙ ap (roots_in_slot case slot) (map-append objects_of (take n pairs) (drop n pairs))
    ∙ flat_map-append (λ (pair : ℕ × ℕ). roots_in case slot pair.0 pair.1) (map objects_of (take n pairs)) (map objects_of (drop n pairs))

-- the roots of the first pairs are added, and those are left
pub record AddedSoFar (case : PlainProblem) (slot : ℕ) (pairs left : List Pair) (old new : Slab) : Type 0 where
  pub done : List PlainCell
  pub added : AddRoots case done old new
  pub whole : done ++ roots_with case slot left ≡ roots_with case slot pairs

pub none_so_far : (case : PlainProblem) (slot : ℕ) (pairs : List Pair) (slab : Slab) → AddedSoFar case slot pairs pairs slab slab
none_so_far case slot pairs slab = record { done = []; added = no_roots_added case slab; whole = refl }

module _ (case : PlainProblem) (slot n : ℕ) (pairs left some : List Pair) (old mid : Slab) (is : some ≡ take n left) (so_far : AddedSoFar case slot pairs left old mid) where
  whole_so_far : so_far.done ++ (roots_with case slot some ++ roots_with case slot (drop n left)) ≡ roots_with case slot pairs
  whole_so_far =
      ap (λ (ps : List Pair). so_far.done ++ (roots_with case slot ps ++ roots_with case slot (drop n left))) is
      ∙ ap (λ (rs : List PlainCell). so_far.done ++ rs) (sym (with_both case slot n left)) ∙ so_far.whole

  -- the next pairs are too
  pub more_so_far : (new : Slab) (others : List Pair) → others ≡ drop n left → AddRoots case (roots_with case slot some) mid new → AddedSoFar case slot pairs others old new
  more_so_far new others rest added = record {
    done = so_far.done ++ roots_with case slot some;
    added = more_roots case so_far.done (roots_with case slot some) old mid new so_far.added added;
    whole = ap (λ (ps : List Pair). (so_far.done ++ roots_with case slot some) ++ roots_with case slot ps) rest
        ∙ append_assoc so_far.done (roots_with case slot some) (roots_with case slot (drop n left)) ∙ whole_so_far;
  }

  -- with the next pairs there are no more leaves than in all
  pub few_with_next : mid.counts.leaves + length (leaves_of_roots case (roots_with case slot some)) ≤ old.counts.leaves + length (leaves_of_roots case (roots_with case slot pairs))
  few_with_next =
      let next = roots_with case slot some in
      let rest = roots_with case slot (drop n left) in
      let counts = so_far.added.counts in
      omega (
        arith,
        counts.leaves,
        ap (λ (rs : List PlainCell). length (leaves_of_roots case rs)) whole_so_far,
        number_both case so_far.done (next ++ rest),
        number_both case next rest,
      )

-- so far there are no more leaves than in all
pub few_so_far : (case : PlainProblem) (slot : ℕ) (pairs left : List Pair) (old new : Slab) → AddedSoFar case slot pairs left old new
    → new.counts.leaves ≤ old.counts.leaves + length (leaves_of_roots case (roots_with case slot pairs))
few_so_far case slot pairs left old new so_far =
    let counts = so_far.added.counts in
    omega (
      arith,
      counts.leaves,
      ap (λ (rs : List PlainCell). length (leaves_of_roots case rs)) so_far.whole,
      number_both case so_far.done (roots_with case slot left),
    )

-- no pair is left
pub all_so_far : (case : PlainProblem) (slot : ℕ) (pairs left : List Pair) (old new : Slab) → left ≡ [] → AddedSoFar case slot pairs left old new → AddRoots case (roots_with case slot pairs) old new
all_so_far case slot pairs left old new none so_far =
    let whole : so_far.done ≡ roots_with case slot pairs =
    sym (append-nil so_far.done) ∙ ap (λ (ps : List Pair). so_far.done ++ roots_with case slot ps) (sym none) ∙ so_far.whole in
    subst (λ (rs : List PlainCell). AddRoots case rs old new) whole so_far.added

-- ---- slot by slot

-- the roots of its candidates are those of the slot
pub slot_added : (case : PlainProblem) (slot : ℕ) (pairs : List Pair) (old mid new : Slab) → map objects_of pairs ≡ candidate_pairs case slot → mid.told ≡ old.told → mid.counts ≡ old.counts
    → mid.touching ≡ min (old.touching + length pairs) 18_446_744_073_709_551_615 → AddRoots case (roots_with case slot pairs) mid new → AddSlot case slot old new
slot_added case slot pairs old mid new are told counts touching added =
    let roots : roots_with case slot pairs ≡ slot_roots case slot = ap (roots_in_slot case slot) are in
    let whole = subst (λ (rs : List PlainCell). AddRoots case rs mid new) roots added in
    record {
      told = whole.told ∙ ap (λ (list : Vec Leaf Global). plain_leaves list.items ++ told_of_roots case (slot_roots case slot)) told;
      counts = subst (λ (c : LeafCounts). AddCounts case (slot_roots case slot) c new.counts) counts whole.counts;
      described = whole.described;
      touching = whole.touching ∙ touching ∙ ap (λ (n : ℕ). min (old.touching + n) 18_446_744_073_709_551_615) (sym (length-map pairs objects_of) ∙ ap length are);
    }

pub nothing_found : (case : PlainProblem) (slab : Slab) → slab.told.items ≡ [] → slab.touching ≡ 0 → slab.counts.leaves ≡ 0 → IsSlabOf case [] slab
nothing_found case slab told touching counts = record {
  told = ap plain_leaves told;
  counts = none_counted case slab.counts counts;
  described = All-nil (λ r. Describe case r (leaves_of_root case r));
  touching = touching;
}

-- one slot more
found_more : (case : PlainProblem) (some : List ℕ) (slot : ℕ) (old new : Slab) → IsSlabOf case some old → AddSlot case slot old new → IsSlabOf case (some ++ slot ∷ []) new
found_more case some slot old new found added =
    let roots : roots_at case (some ++ slot ∷ []) ≡ roots_at case some ++ slot_roots case slot =
    roots_both case some (slot ∷ []) ∙ ap (λ rs. roots_at case some ++ rs) (append-nil (slot_roots case slot)) in
    let f = λ (k : ℕ). length (candidate_pairs case k) in
    record {
      told = added.told ∙ ap (λ (ts : List PlainLeaf). ts ++ told_of_roots case (slot_roots case slot)) found.told
          ∙ sym (told_both case (roots_at case some) (slot_roots case slot)) ∙ ap (told_of_roots case) (sym roots);
      counts = subst (λ (rs : List PlainCell). AreCountsOf case rs new.counts) (sym roots) (counts_more case (roots_at case some) (slot_roots case slot) old.counts new.counts found.counts added.counts);
      described = subst (All (λ r. Describe case r (leaves_of_root case r))) (sym roots)
          (All-append (λ r. Describe case r (leaves_of_root case r)) (roots_at case some) (slot_roots case slot) found.described added.described);
      touching = let all = sum_by-append f some (slot ∷ []) in let one = sum_by-cons f slot [] in omega (arith, added.touching, found.touching, all, one);
    }

-- one slot more of a list
pub next_found : (case : PlainProblem) (slots : List ℕ) (i d : ℕ) (old new : Slab) → i < length slots → IsSlabOf case (take i slots) old → AddSlot case (get_or slots i d) old new
    → IsSlabOf case (take (i + 1) slots) new
next_found case slots i d old new lt found added =
    subst (λ (some : List ℕ). IsSlabOf case some new) (sym (take_more slots i d lt)) (found_more case (take i slots) (get_or slots i d) old new found added)

-- the list of what is told may have given room back
pub given_back : (case : PlainProblem) (slots : List ℕ) (slab : Slab) (told : Vec Leaf Global) → told.items ≡ slab.told.items → IsSlabOf case slots slab
    → IsSlabOf case slots (record slab { told = told })
given_back case slots slab told same is = record { told = ap plain_leaves same ∙ is.told; counts = is.counts; described = is.described; touching = is.touching }

-- the leaves of a slab, and those of them that are told, are as many as those of its roots
pub counted_alone : (case : PlainProblem) (slots : List ℕ) (slab : Slab) (told : ℕ) → told ≡ length slab.told.items → IsSlabOf case slots slab
    → (slab.counts.leaves ≡ length (leaves_of_roots case (roots_at case slots))) × (told ≡ length (told_of_roots case (roots_at case slots)))
counted_alone case slots slab told same is =
    let counts = is.counts in
    (counts.leaves, same ∙ sym (length-map slab.told.items plain_leaf) ∙ ap length is.told)

-- the first of some slots and the next have no more leaves than all
pub upto_slot : (case : PlainProblem) (slots : List ℕ) (i d : ℕ) → i < length slots
    → length (leaves_of_roots case (roots_at case (take i slots))) + length (leaves_of_roots case (slot_roots case (get_or slots i d))) ≤ length (leaves_of_roots case (roots_at case slots))
upto_slot case slots i d lt =
    let rest = drop (i + 1) slots in
    let whole : roots_at case slots ≡ roots_at case (take i slots) ++ (slot_roots case (get_or slots i d) ++ roots_at case rest) =
    ap (roots_at case) (sym (take-append-drop i slots) ∙ ap (λ (ks : List ℕ). take i slots ++ ks) (drop_more slots i d lt)) ∙ roots_both case (take i slots) (get_or slots i d ∷ rest) in
    omega (
      arith,
      ap (λ (rs : List PlainCell). length (leaves_of_roots case rs)) whole,
      number_both case (roots_at case (take i slots)) (slot_roots case (get_or slots i d) ++ roots_at case rest),
      number_both case (slot_roots case (get_or slots i d)) (roots_at case rest),
    )
