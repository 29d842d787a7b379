-- Sums over roots: slot by slot they are the same as pair by pair, so that the same roots in order are one list.
use Rattle.std.proofs.Common.{◌≡◌, ℕ, ◌≤◌, Bool, true, cond, eqb, ◌&&◌, List, [], length, refl, sym, ◌∙◌, arith}
use Rattle.std.specs.Prelude.{filter}
use Rattle.std.specs.List.{flat_map}
use Rattle.std.proofs.lemmas.Bool.{eqb-true, eq-eqb, and_parts, and_from}
use Rattle.cj_case.specs.PlainProblems.{PlainProblem}
use Rattle.cj_case.specs.Pairs.{pairs_of}
use Rattle.cj_case.specs.Cells.{PlainCell, IsRootBefore, IsRootUpTo}
use Rattle.cj_hermite.specs.Roots.{roots_in, slots_of, roots_of, roots_by_slot}
use Rattle.cj_interval.proofs.ListLemmas.{Each, Ordered}
use Rattle.cj_interval.proofs.SumLemmas.{total, total_same, total-swap, total-flat_map, total-filter, total-taken, same_list}

-- ---- the roots slot by slot are all roots

pub same_roots : (candidate : ℕ → ℕ → ℕ → Bool) (case : PlainProblem) (f : PlainCell → ℕ) → total f (roots_by_slot candidate case) ≡ total f (roots_of candidate case)
unfolding roots_by_slot roots_of
same_roots candidate case f =
    let pairs : List (ℕ × ℕ) = pairs_of (length case.tracks) in
    let slots : List ℕ = slots_of case in
    total-flat_map f (λ slot. flat_map (λ pair. roots_in case slot pair.0 pair.1) (filter (λ pair. candidate pair.0 pair.1 slot) pairs)) slots
    ∙ total_same (λ slot. total f (flat_map (λ pair. roots_in case slot pair.0 pair.1) (filter (λ pair. candidate pair.0 pair.1 slot) pairs))) (λ slot. total (λ pair. cell pair slot) pairs) (one_slot pairs) slots
    ∙ total-swap (λ slot pair. cell pair slot) slots pairs
    ∙ sym (total_same (λ pair. total f (flat_map (λ slot. cond (candidate pair.0 pair.1 slot) (roots_in case slot pair.0 pair.1) []) slots)) (λ pair. total (λ slot. cell pair slot) slots) (one_pair slots) pairs)
    ∙ sym (total-flat_map f (λ pair. flat_map (λ slot. cond (candidate pair.0 pair.1 slot) (roots_in case slot pair.0 pair.1) []) slots) pairs)
  where
    cell : ℕ × ℕ → ℕ → ℕ
    cell pair slot = cond (candidate pair.0 pair.1 slot) (total f (roots_in case slot pair.0 pair.1)) 0

    one_slot : (pairs : List (ℕ × ℕ)) (slot : ℕ) → total f (flat_map (λ pair. roots_in case slot pair.0 pair.1) (filter (λ pair. candidate pair.0 pair.1 slot) pairs)) ≡ total (λ pair. cell pair slot) pairs
    one_slot pairs slot =
        total-flat_map f (λ pair. roots_in case slot pair.0 pair.1) (filter (λ pair. candidate pair.0 pair.1 slot) pairs)
        ∙ total-filter (λ pair. total f (roots_in case slot pair.0 pair.1)) (λ pair. candidate pair.0 pair.1 slot) pairs

    one_pair : (slots : List ℕ) (pair : ℕ × ℕ) → total f (flat_map (λ slot. cond (candidate pair.0 pair.1 slot) (roots_in case slot pair.0 pair.1) []) slots) ≡ total (λ slot. cell pair slot) slots
    one_pair slots pair =
        total-flat_map f (λ slot. cond (candidate pair.0 pair.1 slot) (roots_in case slot pair.0 pair.1) []) slots
        ∙ total_same (λ slot. total f (cond (candidate pair.0 pair.1 slot) (roots_in case slot pair.0 pair.1) [])) (λ slot. cell pair slot)
        (λ slot. total-taken f (candidate pair.0 pair.1 slot) (roots_in case slot pair.0 pair.1)) slots

-- ---- the same roots in order

abbrev is_root : PlainCell → PlainCell → Bool
is_root r s = eqb r.a s.a && (eqb r.b s.b && (eqb r.first s.first && eqb r.last s.last))

is_root-self : (r : PlainCell) → is_root r r ≡ true
is_root-self r =
    and_from (eqb r.a r.a) (eqb r.b r.b && (eqb r.first r.first && eqb r.last r.last)) (eq-eqb r.a r.a refl)
    (and_from (eqb r.b r.b) (eqb r.first r.first && eqb r.last r.last) (eq-eqb r.b r.b refl)
    (and_from (eqb r.first r.first) (eqb r.last r.last) (eq-eqb r.first r.first refl) (eq-eqb r.last r.last refl)))

same_from_is_root : (r s : PlainCell) → is_root r s ≡ true → r ≡ s
same_from_is_root r s e =
    let p = and_parts (eqb r.a s.a) (eqb r.b s.b && (eqb r.first s.first && eqb r.last s.last)) e in
    let q = and_parts (eqb r.b s.b) (eqb r.first s.first && eqb r.last s.last) p.1 in
    let t = and_parts (eqb r.first s.first) (eqb r.last s.last) q.1 in
    let a : r.a ≡ s.a = eqb-true r.a s.a p.0 in
    let b : r.b ≡ s.b = eqb-true r.b s.b q.0 in
    let first : r.first ≡ s.first = eqb-true r.first s.first t.0 in
    let last : r.last ≡ s.last = eqb-true r.last s.last t.1 in
    λ i. record { a = a i; b = b i; first = first i; last = last i }

-- neither order goes against the other for a root that has a tick
up_or_down : (r s : PlainCell) → r.first ≤ r.last → IsRootBefore r s → IsRootUpTo s r → ⊥
up_or_down r s some down up =
    let a : r.a ≡ s.a = omega (arith, up.first_object, down.first_object) in
    let b : r.b ≡ s.b = omega (arith, up.second_object (sym a), down.second_object a) in
    omega (arith, up.ticks (sym a) (sym b), down.ticks a b, some)

pub same_root_list : (rs ss : List PlainCell) → Each (λ r. r.first ≤ r.last) rs → Ordered IsRootBefore rs → Ordered IsRootUpTo ss → ((f : PlainCell → ℕ) → total f rs ≡ total f ss) → rs ≡ ss
same_root_list = same_list is_root (record { itself = is_root-self; exact = same_from_is_root }) (λ r. r.first ≤ r.last) IsRootBefore IsRootUpTo up_or_down
