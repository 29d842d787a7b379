-- Roots: what they hold, their order, and that each common tick lies in one.
use Rattle.std.proofs.Common.{◌≡◌, ℕ, ◌+◌, ◌-◌, ◌<◌, ◌≤◌, Bool, true, false, cond, List, [], ◌∷◌, map, length, Option, refl, sym, subst, arith}
use Rattle.std.specs.Prelude.{is_some}
use Rattle.std.specs.List.{flat_map, range_with_len}
use Rattle.cj_case.specs.PlainProblems.{PlainProblem}
use Rattle.cj_case.specs.Pairs.{pairs_of}
use Rattle.cj_case.specs.Slots.{slot_first, slot_last, slot_count, slot_of}
use Rattle.cj_hermite.specs.CommonRuns.{Run, runs_over, runs_between}
use Rattle.cj_case.specs.Cells.{PlainCell, IsRootBefore}
use Rattle.cj_hermite.specs.Roots.{numbers_at, root_of_run, roots_between, roots_in, slots_of, roots_of}
use Rattle.cj_interval.proofs.ListLemmas.{Each, Exists, Ordered, Each-weaker, Each-map, Each-flat_map, Each-range, Each-taken, Exists-weaker, Exists-map, Exists-flat_map, Exists-range, Exists-taken, Ordered-flat_map, Ordered-range, Ordered-taken}
use Rattle.cj_hermite.proofs.CommonRunLemmas.{IsRun, AreRuns, Has, runs_are, runs_have}
use Rattle.cj_case.proofs.PairLemmas.{IsPair, PairBefore, Each-pairs, Ordered-pairs, Exists-pairs}
use Rattle.cj_case.proofs.SlotLemmas.{slot_exists, slot_begins, slot_ends, slots_follow, slot_within}

-- ---- runs in order

record RunBefore (r s : Run) : Type 0 where
  ticks : r.last < s.first

Each-run : (label : ℕ → Option (ℕ × ℕ)) (lo lo' hi : ℕ) (rs : List Run) → lo ≤ lo' → AreRuns label lo' hi rs → Each (IsRun label lo hi) rs
Each-run label lo lo' hi [] le are = tt
Each-run label lo lo' hi (r ∷ rs) le are =
    let run = are.0 in (
      record { from = omega (arith, run.from); some = run.some; to = run.to; same = run.same; labelled = run.labelled },
      Each-run label lo (r.last + 1) hi rs (omega (arith, run.from, run.some)) are.1,
    )

Ordered-run : (label : ℕ → Option (ℕ × ℕ)) (lo hi : ℕ) (rs : List Run) → AreRuns label lo hi rs → Ordered RunBefore rs
Ordered-run label lo hi [] are = tt
Ordered-run label lo hi (r ∷ rs) are = (
  Each-weaker (IsRun label (r.last + 1) hi) (RunBefore r) (λ s run. record { ticks = omega (arith, run.from) }) rs
      (Each-run label (r.last + 1) (r.last + 1) hi rs (omega arith) are.1),
  Ordered-run label (r.last + 1) hi rs are.1,
)

-- ---- the roots of a pair

-- ticks of the objects a and b from lo to hi, at which each of both is in one piece
pub record IsRoot (case : PlainProblem) (a b lo hi : ℕ) (r : PlainCell) : Type 0 where
  pub first_object : r.a ≡ a
  pub second_object : r.b ≡ b
  pub from : lo ≤ r.first
  pub some : r.first ≤ r.last
  pub to : r.last ≤ hi
  pub same : (k : ℕ) → r.first ≤ k → k ≤ r.last → numbers_at case a b k ≡ numbers_at case a b r.first
  pub labelled : is_some (numbers_at case a b r.first) ≡ true

-- the tick is one of the root's, which is of the objects a and b
pub record Holds (a b m : ℕ) (r : PlainCell) : Type 0 where
  pub first_object : r.a ≡ a
  pub second_object : r.b ≡ b
  pub from : r.first ≤ m
  pub to : m ≤ r.last

pub Each-between : (case : PlainProblem) (a b first last : ℕ) → Each (IsRoot case a b first last) (roots_between case a b first last)
unfolding roots_between runs_between
Each-between case a b first last =
    Each-map (IsRoot case a b first last) (root_of_run a b) (runs_over (numbers_at case a b) (range_with_len first (last + 1 - first)))
    (Each-weaker (IsRun (numbers_at case a b) first (first + (last + 1 - first))) (λ run. IsRoot case a b first last (root_of_run a b run))
    (λ run is. record {
      first_object = refl;
      second_object = refl;
      from = is.from;
      some = is.some;
      to = omega (arith, is.from, is.some, is.to);
      same = is.same;
      labelled = is.labelled;
    })
    (runs_over (numbers_at case a b) (range_with_len first (last + 1 - first)))
    (Each-run (numbers_at case a b) first first (first + (last + 1 - first)) (runs_over (numbers_at case a b) (range_with_len first (last + 1 - first))) (omega arith)
    (runs_are (numbers_at case a b) first (last + 1 - first) (first + (last + 1 - first)) (omega arith))))

pub Ordered-between : (case : PlainProblem) (a b first last : ℕ) → Ordered IsRootBefore (roots_between case a b first last)
unfolding roots_between runs_between
Ordered-between case a b first last = ordered (runs_over (numbers_at case a b) (range_with_len first (last + 1 - first)))
    (Ordered-run (numbers_at case a b) first (first + (last + 1 - first)) (runs_over (numbers_at case a b) (range_with_len first (last + 1 - first)))
    (runs_are (numbers_at case a b) first (last + 1 - first) (first + (last + 1 - first)) (omega arith)))
  where
    ordered : (runs : List Run) → Ordered RunBefore runs → Ordered IsRootBefore (map (root_of_run a b) runs)
    ordered [] o = tt
    ordered (r ∷ rs) o = (
      Each-map (IsRootBefore (root_of_run a b r)) (root_of_run a b) rs
          (Each-weaker (RunBefore r) (λ s. IsRootBefore (root_of_run a b r) (root_of_run a b s))
          (λ s before. record { first_object = omega arith; second_object = λ e. omega arith; ticks = λ e f. before.ticks }) rs o.0),
      ordered rs o.1,
    )

pub Exists-between : (case : PlainProblem) (a b first last m : ℕ) → first ≤ m → m ≤ last → is_some (numbers_at case a b m) ≡ true → Exists (Holds a b m) (roots_between case a b first last)
unfolding roots_between runs_between
Exists-between case a b first last m low high some =
    Exists-map (Holds a b m) (root_of_run a b) (runs_over (numbers_at case a b) (range_with_len first (last + 1 - first)))
    (Exists-weaker (Has m) (λ run. Holds a b m (root_of_run a b run)) (λ run has. record { first_object = refl; second_object = refl; from = has.from; to = has.to })
    (runs_over (numbers_at case a b) (range_with_len first (last + 1 - first)))
    (runs_have (numbers_at case a b) first (last + 1 - first) m low (omega arith) some))

-- ---- those of all slots

abbrev pub roots_of_pair : (ℕ → ℕ → ℕ → Bool) → PlainProblem → ℕ × ℕ → List PlainCell
roots_of_pair candidate case pair = flat_map (λ slot. cond (candidate pair.0 pair.1 slot) (roots_in case slot pair.0 pair.1) []) (slots_of case)

in_slot : (case : PlainProblem) (a b slot : ℕ) (r : PlainCell) → IsRoot case a b (slot_first case.first slot) (slot_last case.first case.last slot) r → IsRoot case a b case.first case.last r
in_slot case a b slot r is = record {
  first_object = is.first_object;
  second_object = is.second_object;
  from = omega (arith, is.from);
  some = is.some;
  to = omega (arith, is.to, slot_within case.first case.last slot);
  same = is.same;
  labelled = is.labelled;
}

pub Each-pair : (candidate : ℕ → ℕ → ℕ → Bool) (case : PlainProblem) (pair : ℕ × ℕ) → Each (IsRoot case pair.0 pair.1 case.first case.last) (roots_of_pair candidate case pair)
Each-pair candidate case pair =
    Each-flat_map (IsRoot case pair.0 pair.1 case.first case.last) (λ slot. cond (candidate pair.0 pair.1 slot) (roots_in case slot pair.0 pair.1) []) (slots_of case)
    (Each-range (λ slot. Each (IsRoot case pair.0 pair.1 case.first case.last) (cond (candidate pair.0 pair.1 slot) (roots_in case slot pair.0 pair.1) [])) 0 (slot_count case.first case.last)
    (λ slot low high. Each-taken (IsRoot case pair.0 pair.1 case.first case.last) (candidate pair.0 pair.1 slot) (roots_in case slot pair.0 pair.1)
    (Each-weaker (IsRoot case pair.0 pair.1 (slot_first case.first slot) (slot_last case.first case.last slot)) (IsRoot case pair.0 pair.1 case.first case.last)
    (in_slot case pair.0 pair.1 slot) (roots_in case slot pair.0 pair.1)
    (Each-between case pair.0 pair.1 (slot_first case.first slot) (slot_last case.first case.last slot)))))

Ordered-pair : (candidate : ℕ → ℕ → ℕ → Bool) (case : PlainProblem) (pair : ℕ × ℕ) → Ordered IsRootBefore (roots_of_pair candidate case pair)
Ordered-pair candidate case pair =
    Ordered-flat_map IsRootBefore (λ j k. j < k) (λ slot. Unit {0}) (λ slot. cond (candidate pair.0 pair.1 slot) (roots_in case slot pair.0 pair.1) [])
    (λ slot _. Ordered-taken IsRootBefore (candidate pair.0 pair.1 slot) (roots_in case slot pair.0 pair.1) (Ordered-between case pair.0 pair.1 (slot_first case.first slot) (slot_last case.first case.last slot)))
    (λ j k _ _ lt. across j k lt)
    (slots_of case) (Each-range (λ slot. Unit {0}) 0 (slot_count case.first case.last) (λ k low high. tt)) (Ordered-range 0 (slot_count case.first case.last))
  where
    in_one : (slot : ℕ) → Each (IsRoot case pair.0 pair.1 (slot_first case.first slot) (slot_last case.first case.last slot)) (cond (candidate pair.0 pair.1 slot) (roots_in case slot pair.0 pair.1) [])
    in_one slot = Each-taken (IsRoot case pair.0 pair.1 (slot_first case.first slot) (slot_last case.first case.last slot)) (candidate pair.0 pair.1 slot) (roots_in case slot pair.0 pair.1)
        (Each-between case pair.0 pair.1 (slot_first case.first slot) (slot_last case.first case.last slot))

    across : (j k : ℕ) → j < k → Each (λ r. Each (IsRootBefore r) (cond (candidate pair.0 pair.1 k) (roots_in case k pair.0 pair.1) [])) (cond (candidate pair.0 pair.1 j) (roots_in case j pair.0 pair.1) [])
    across j k lt =
        Each-weaker (IsRoot case pair.0 pair.1 (slot_first case.first j) (slot_last case.first case.last j)) (λ r. Each (IsRootBefore r) (cond (candidate pair.0 pair.1 k) (roots_in case k pair.0 pair.1) []))
        (λ r is. Each-weaker (IsRoot case pair.0 pair.1 (slot_first case.first k) (slot_last case.first case.last k)) (IsRootBefore r)
        (λ s later. record {
          first_object = omega (arith, is.first_object, later.first_object);
          second_object = λ e. omega (arith, is.second_object, later.second_object);
          ticks = λ e f. omega (arith, is.to, later.from, slots_follow case.first case.last j k lt);
        })
        (cond (candidate pair.0 pair.1 k) (roots_in case k pair.0 pair.1) []) (in_one k))
        (cond (candidate pair.0 pair.1 j) (roots_in case j pair.0 pair.1) []) (in_one j)

Exists-pair : (candidate : ℕ → ℕ → ℕ → Bool) (case : PlainProblem) (pair : ℕ × ℕ) (m : ℕ) → case.first ≤ m → m ≤ case.last → candidate pair.0 pair.1 (slot_of case.first m) ≡ true →
    is_some (numbers_at case pair.0 pair.1 m) ≡ true → Exists (Holds pair.0 pair.1 m) (roots_of_pair candidate case pair)
Exists-pair candidate case pair m low high is some =
    Exists-flat_map (Holds pair.0 pair.1 m) (λ slot. cond (candidate pair.0 pair.1 slot) (roots_in case slot pair.0 pair.1) []) (slots_of case)
    (Exists-weaker (λ slot. slot ≡ slot_of case.first m) (λ slot. Exists (Holds pair.0 pair.1 m) (cond (candidate pair.0 pair.1 slot) (roots_in case slot pair.0 pair.1) []))
    (λ slot e. rw e
    (Exists-taken (Holds pair.0 pair.1 m) (candidate pair.0 pair.1 (slot_of case.first m)) (roots_in case (slot_of case.first m) pair.0 pair.1) is
    (Exists-between case pair.0 pair.1 (slot_first case.first (slot_of case.first m)) (slot_last case.first case.last (slot_of case.first m)) m
    (slot_begins case.first m low) (slot_ends case.first case.last m low high) some)))
    (slots_of case)
    (Exists-range 0 (slot_count case.first case.last) (slot_of case.first m) (omega arith) (omega (arith, slot_exists case.first case.last m low high))))

-- ---- all roots

-- a root of two of the objects, in the window
pub record IsRootOf (case : PlainProblem) (r : PlainCell) : Type 0 where
  pub ordered : r.a < r.b
  pub exists : r.b < length case.tracks
  pub root : IsRoot case r.a r.b case.first case.last r

of_pair : (case : PlainProblem) (pair : ℕ × ℕ) (r : PlainCell) → IsPair (length case.tracks) pair → IsRoot case pair.0 pair.1 case.first case.last r → IsRootOf case r
of_pair case pair r p is =
    let e : r.a ≡ pair.0 = is.first_object in
    let f : r.b ≡ pair.1 = is.second_object in
    record { ordered = omega (arith, p.ordered); exists = omega (arith, p.exists); root = subst (λ a. IsRoot case a r.b case.first case.last r) (sym e) (subst (λ b. IsRoot case pair.0 b case.first case.last r) (sym f) is) }

pub Each-roots : (candidate : ℕ → ℕ → ℕ → Bool) (case : PlainProblem) → Each (IsRootOf case) (roots_of candidate case)
unfolding roots_of
Each-roots candidate case =
    Each-flat_map (IsRootOf case) (roots_of_pair candidate case) (pairs_of (length case.tracks))
    (Each-weaker (IsPair (length case.tracks)) (λ pair. Each (IsRootOf case) (roots_of_pair candidate case pair))
    (λ pair p. Each-weaker (IsRoot case pair.0 pair.1 case.first case.last) (IsRootOf case) (λ r is. of_pair case pair r p is) (roots_of_pair candidate case pair) (Each-pair candidate case pair))
    (pairs_of (length case.tracks)) (Each-pairs (length case.tracks)))

-- what holds of the pair of each candidate holds of the pair of each root
admitted_in : (P : ℕ → ℕ → Type 0) (case : PlainProblem) (a b from to : ℕ) (taken : Bool) → (taken ≡ true → P a b) → Each (λ r. P r.a r.b) (cond taken (roots_between case a b from to) [])
admitted_in P case a b from to false law = tt
admitted_in P case a b from to true law =
    Each-weaker (IsRoot case a b from to) (λ r. P r.a r.b)
    (λ r is. subst (λ (x : ℕ). P x r.b) (sym is.first_object) (subst (λ (y : ℕ). P a y) (sym is.second_object) (law refl)))
    (roots_between case a b from to) (Each-between case a b from to)

admitted_of : (P : ℕ → ℕ → Type 0) (candidate : ℕ → ℕ → ℕ → Bool) (case : PlainProblem) (pair : ℕ × ℕ) → ((a b slot : ℕ) → candidate a b slot ≡ true → P a b) →
    Each (λ r. P r.a r.b) (roots_of_pair candidate case pair)
admitted_of P candidate case pair law =
    Each-flat_map (λ r. P r.a r.b) (λ slot. cond (candidate pair.0 pair.1 slot) (roots_in case slot pair.0 pair.1) []) (slots_of case)
    (Each-range (λ slot. Each (λ r. P r.a r.b) (cond (candidate pair.0 pair.1 slot) (roots_in case slot pair.0 pair.1) [])) 0 (slot_count case.first case.last)
    (λ k low high. admitted_in P case pair.0 pair.1 (slot_first case.first k) (slot_last case.first case.last k) (candidate pair.0 pair.1 k) (law pair.0 pair.1 k)))

pub Each-admitted : (P : ℕ → ℕ → Type 0) (candidate : ℕ → ℕ → ℕ → Bool) (case : PlainProblem) → ((a b slot : ℕ) → candidate a b slot ≡ true → P a b) →
    Each (λ r. P r.a r.b) (roots_of candidate case)
unfolding roots_of
Each-admitted P candidate case law =
    Each-flat_map (λ r. P r.a r.b) (roots_of_pair candidate case) (pairs_of (length case.tracks))
    (Each-weaker (IsPair (length case.tracks)) (λ pair. Each (λ r. P r.a r.b) (roots_of_pair candidate case pair)) (λ pair is. admitted_of P candidate case pair law)
    (pairs_of (length case.tracks)) (Each-pairs (length case.tracks)))

pub Ordered-roots : (candidate : ℕ → ℕ → ℕ → Bool) (case : PlainProblem) → Ordered IsRootBefore (roots_of candidate case)
unfolding roots_of
Ordered-roots candidate case =
    Ordered-flat_map IsRootBefore PairBefore (IsPair (length case.tracks)) (roots_of_pair candidate case)
    (λ pair _. Ordered-pair candidate case pair)
    (λ p q _ _ before. Each-weaker (IsRoot case p.0 p.1 case.first case.last) (λ r. Each (IsRootBefore r) (roots_of_pair candidate case q))
    (λ r is. Each-weaker (IsRoot case q.0 q.1 case.first case.last) (IsRootBefore r) (λ s later. record {
      first_object = omega (arith, is.first_object, later.first_object, before.first_object);
      second_object = λ e. omega (arith, is.first_object, later.first_object, is.second_object, later.second_object, before.second_object (omega (arith, is.first_object, later.first_object)));
      ticks = λ e f. absurd (omega (arith, is.second_object, later.second_object, before.second_object (omega (arith, is.first_object, later.first_object))));
    }) (roots_of_pair candidate case q) (Each-pair candidate case q))
    (roots_of_pair candidate case p) (Each-pair candidate case p))
    (pairs_of (length case.tracks)) (Each-pairs (length case.tracks)) (Ordered-pairs (length case.tracks))

pub Exists-roots : (candidate : ℕ → ℕ → ℕ → Bool) (case : PlainProblem) (a b m : ℕ) → a < b → b < length case.tracks → case.first ≤ m → m ≤ case.last → candidate a b (slot_of case.first m) ≡ true →
    is_some (numbers_at case a b m) ≡ true → Exists (Holds a b m) (roots_of candidate case)
unfolding roots_of
Exists-roots candidate case a b m ordered exists low high is some =
    Exists-flat_map (Holds a b m) (roots_of_pair candidate case) (pairs_of (length case.tracks))
    (Exists-weaker (λ p. p ≡ (a, b)) (λ p. Exists (Holds a b m) (roots_of_pair candidate case p)) (λ p e. rw e (Exists-pair candidate case (a, b) m low high is some))
    (pairs_of (length case.tracks)) (Exists-pairs (length case.tracks) a b ordered exists))
