-- The roots slot by slot: each is of two objects in the window, and each common tick of a candidate lies in one.
use Rattle.std.proofs.Common.{◌≡◌, ℕ, ◌<◌, ◌≤◌, Bool, true, false, cond, List, [], ◌∷◌, length, refl, sym, subst, arith}
use Rattle.std.specs.Prelude.{filter, is_some}
use Rattle.cj_interval.proofs.ListLemmas.{Each, Exists, Each-always, Each-filter, Each-flat_map, Each-weaker, Exists-filter, Exists-flat_map, Exists-range, Exists-weaker}
use Rattle.cj_case.specs.PlainProblems.{PlainProblem}
use Rattle.cj_case.specs.Pairs.{pairs_of}
use Rattle.cj_case.specs.Cells.{PlainCell}
use Rattle.cj_case.specs.Slots.{slot_count, slot_first, slot_last, slot_of}
use Rattle.cj_case.proofs.PairLemmas.{IsPair, Each-pairs, Exists-pairs}
use Rattle.cj_case.proofs.SlotLemmas.{slot_begins, slot_ends, slot_exists, slot_within}
use Rattle.cj_hermite.specs.Roots.{numbers_at, roots_by_slot, roots_in, roots_in_slot, slots_of}
use Rattle.cj_hermite.proofs.RootLemmas.{Holds, IsRoot, IsRootOf, Each-between, Exists-between}

-- the candidates of a slot, in order
abbrev candidates : (ℕ → ℕ → ℕ → Bool) → PlainProblem → ℕ → List (ℕ × ℕ)
candidates candidate case slot = filter (λ pair. candidate pair.0 pair.1 slot) (pairs_of (length case.tracks))

-- a root of a pair in a slot
abbrev IsRootIn : PlainProblem → ℕ → ℕ × ℕ → PlainCell → Type 0
IsRootIn case slot pair = IsRoot case pair.0 pair.1 (slot_first case.first slot) (slot_last case.first case.last slot)

in_window : (case : PlainProblem) (slot : ℕ) (pair : ℕ × ℕ) (r : PlainCell) → IsPair (length case.tracks) pair → IsRootIn case slot pair r → IsRootOf case r
in_window case slot pair r p is =
    let a : r.a ≡ pair.0 = is.first_object in
    let b : r.b ≡ pair.1 = is.second_object in
    let within : IsRoot case pair.0 pair.1 case.first case.last r = record {
      first_object = a;
      second_object = b;
      from = omega (arith, is.from);
      some = is.some;
      to = omega (arith, is.to, slot_within case.first case.last slot);
      same = is.same;
      labelled = is.labelled;
    } in
    record {
      ordered = omega (arith, p.ordered);
      exists = omega (arith, p.exists);
      root = subst (λ (x : ℕ). IsRoot case x r.b case.first case.last r) (sym a) (subst (λ (y : ℕ). IsRoot case pair.0 y case.first case.last r) (sym b) within);
    }

pub Each-by_slot : (candidate : ℕ → ℕ → ℕ → Bool) (case : PlainProblem) → Each (IsRootOf case) (roots_by_slot candidate case)
unfolding roots_by_slot
Each-by_slot candidate case =
    Each-flat_map (IsRootOf case) (λ slot. roots_in_slot case slot (candidates candidate case slot)) (slots_of case)
    (Each-always (λ slot. Each (IsRootOf case) (roots_in_slot case slot (candidates candidate case slot))) of_slot (slots_of case))
  where
    of_slot : (slot : ℕ) → Each (IsRootOf case) (roots_in_slot case slot (candidates candidate case slot))
    of_slot slot =
        Each-flat_map (IsRootOf case) (λ pair. roots_in case slot pair.0 pair.1) (candidates candidate case slot)
        (Each-weaker (IsPair (length case.tracks)) (λ pair. Each (IsRootOf case) (roots_in case slot pair.0 pair.1))
        (λ pair p. Each-weaker (IsRootIn case slot pair) (IsRootOf case) (λ r is. in_window case slot pair r p is) (roots_in case slot pair.0 pair.1)
        (Each-between case pair.0 pair.1 (slot_first case.first slot) (slot_last case.first case.last slot)))
        (candidates candidate case slot)
        (Each-filter (IsPair (length case.tracks)) (λ pair. candidate pair.0 pair.1 slot) (pairs_of (length case.tracks)) (Each-pairs (length case.tracks))))

-- what is tested of the pairs that are taken
each_passes : {X : Type 0} (test : X → Bool) (xs : List X) → Each (λ x. test x ≡ true) (filter test xs)
each_passes test [] = tt
each_passes test (x ∷ xs) = taken (test x) refl (each_passes test xs)
  where
    taken : (passes : Bool) → test x ≡ passes → Each (λ y. test y ≡ true) (filter test xs) → Each (λ y. test y ≡ true) (cond passes (x ∷ filter test xs) (filter test xs))
    taken true is rest = (is, rest)
    taken false is rest = rest

-- what holds of the pair of each candidate holds of the pair of each root
pub admitted_by_slot : (P : ℕ → ℕ → Type 0) (candidate : ℕ → ℕ → ℕ → Bool) (case : PlainProblem) → ((a b slot : ℕ) → candidate a b slot ≡ true → P a b) →
    Each (λ r. P r.a r.b) (roots_by_slot candidate case)
unfolding roots_by_slot
admitted_by_slot P candidate case law =
    Each-flat_map (λ r. P r.a r.b) (λ slot. roots_in_slot case slot (candidates candidate case slot)) (slots_of case)
    (Each-always (λ slot. Each (λ r. P r.a r.b) (roots_in_slot case slot (candidates candidate case slot))) of_slot (slots_of case))
  where
    of_slot : (slot : ℕ) → Each (λ r. P r.a r.b) (roots_in_slot case slot (candidates candidate case slot))
    of_slot slot =
        Each-flat_map (λ r. P r.a r.b) (λ pair. roots_in case slot pair.0 pair.1) (candidates candidate case slot)
        (Each-weaker (λ pair. candidate pair.0 pair.1 slot ≡ true) (λ pair. Each (λ r. P r.a r.b) (roots_in case slot pair.0 pair.1))
        (λ pair is. Each-weaker (IsRootIn case slot pair) (λ r. P r.a r.b)
        (λ r root. subst (λ (x : ℕ). P x r.b) (sym root.first_object) (subst (λ (y : ℕ). P pair.0 y) (sym root.second_object) (law pair.0 pair.1 slot is)))
        (roots_in case slot pair.0 pair.1) (Each-between case pair.0 pair.1 (slot_first case.first slot) (slot_last case.first case.last slot)))
        (candidates candidate case slot) (each_passes (λ pair. candidate pair.0 pair.1 slot) (pairs_of (length case.tracks))))

pub Exists-by_slot : (candidate : ℕ → ℕ → ℕ → Bool) (case : PlainProblem) (a b m : ℕ) → a < b → b < length case.tracks → case.first ≤ m → m ≤ case.last
    → candidate a b (slot_of case.first m) ≡ true → is_some (numbers_at case a b m) ≡ true → Exists (Holds a b m) (roots_by_slot candidate case)
unfolding roots_by_slot
Exists-by_slot candidate case a b m ordered exists low high is some =
    Exists-flat_map (Holds a b m) (λ slot. roots_in_slot case slot (candidates candidate case slot)) (slots_of case)
    (Exists-weaker (λ slot. slot ≡ slot_of case.first m) (λ slot. Exists (Holds a b m) (roots_in_slot case slot (candidates candidate case slot)))
    (λ slot same. subst (λ (k : ℕ). Exists (Holds a b m) (roots_in_slot case k (candidates candidate case k))) (sym same) here)
    (slots_of case)
    (Exists-range 0 (slot_count case.first case.last) (slot_of case.first m) (omega arith) (omega (arith, slot_exists case.first case.last m low high))))
  where
    own : ℕ
    own = slot_of case.first m

    of_pair : (pair : ℕ × ℕ) → pair ≡ (a, b) → Exists (Holds a b m) (roots_in case own pair.0 pair.1)
    of_pair pair same =
        subst (λ (p : ℕ × ℕ). Exists (Holds a b m) (roots_in case own p.0 p.1)) (sym same)
        (Exists-between case a b (slot_first case.first own) (slot_last case.first case.last own) m (slot_begins case.first m low) (slot_ends case.first case.last m low high) some)

    passes : (pair : ℕ × ℕ) → pair ≡ (a, b) → candidate pair.0 pair.1 own ≡ true
    passes pair same = subst (λ (p : ℕ × ℕ). candidate p.0 p.1 own ≡ true) (sym same) is

    here : Exists (Holds a b m) (roots_in_slot case own (candidates candidate case own))
    here =
        Exists-flat_map (Holds a b m) (λ pair. roots_in case own pair.0 pair.1) (candidates candidate case own)
        (Exists-filter (λ pair. Exists (Holds a b m) (roots_in case own pair.0 pair.1)) (λ pair. candidate pair.0 pair.1 own) (pairs_of (length case.tracks))
        (Exists-weaker (λ pair. pair ≡ (a, b)) (λ pair. Exists (Holds a b m) (roots_in case own pair.0 pair.1) × (candidate pair.0 pair.1 own ≡ true))
        (λ pair same. (of_pair pair same, passes pair same))
        (pairs_of (length case.tracks)) (Exists-pairs (length case.tracks) a b ordered exists)))
