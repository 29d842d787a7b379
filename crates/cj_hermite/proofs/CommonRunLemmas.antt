-- Runs of ticks with one label: what they hold, and how a walk from run to run finds them.
use Rattle.std.proofs.Common.{◌≡◌, ℕ, zero, suc, ◌+◌, ◌<◌, ◌≤◌, ◌⊎◌, Bool, true, false, cond, eqb, ◌&&◌, List, [], ◌∷◌, Option, Some, None, refl, sym, ap, ◌∙◌, inl, inr, arith, add-zero, zero-add}
use Rattle.std.specs.Prelude.{is_some}
use Rattle.std.specs.List.{range_with_len}
use Rattle.std.proofs.lemmas.Bool.{eqb-true, eq-eqb, and_parts, and_from, cond-true, cond-false, cases_eq, false_from_ne_true}
use Rattle.cj_hermite.specs.CommonRuns.{Run, is_same, with_tick, runs_over}
use Rattle.cj_interval.proofs.ListLemmas.{Exists}

-- ---- labels

pub same_from_is_same : (p q : Option (ℕ × ℕ)) → is_same p q ≡ true → p ≡ q
same_from_is_same None q h = absurd cc
same_from_is_same (Some p) None h = absurd cc
same_from_is_same (Some p) (Some q) h =
    let both = and_parts (eqb p.0 q.0) (eqb p.1 q.1) h in
    let first : p.0 ≡ q.0 = eqb-true p.0 q.0 both.0 in
    let second : p.1 ≡ q.1 = eqb-true p.1 q.1 both.1 in
    ap (λ (x : ℕ × ℕ). Some x) (rw (first, second))

pub is_same-self : (p : Option (ℕ × ℕ)) → is_some p ≡ true → is_same p p ≡ true
is_same-self None h = absurd cc
is_same-self (Some p) h = and_from (eqb p.0 p.0) (eqb p.1 p.1) (eq-eqb p.0 p.0 refl) (eq-eqb p.1 p.1 refl)

-- ---- what the runs of n ticks from m on hold

-- a run of ticks with one label, from lo on and before hi
pub record IsRun (label : ℕ → Option (ℕ × ℕ)) (lo hi : ℕ) (r : Run) : Type 0 where
  pub from : lo ≤ r.first
  pub some : r.first ≤ r.last
  pub to : r.last < hi
  pub same : (k : ℕ) → r.first ≤ k → k ≤ r.last → label k ≡ label r.first
  pub labelled : is_some (label r.first) ≡ true

-- runs that follow one another, from lo on and before hi
abbrev pub AreRuns : (ℕ → Option (ℕ × ℕ)) → ℕ → ℕ → List Run → Type 0
AreRuns label lo hi [] = Unit {0}
AreRuns label lo hi (r ∷ rs) = IsRun label lo hi r × AreRuns label (r.last + 1) hi rs

AreRuns-earlier : (label : ℕ → Option (ℕ × ℕ)) (lo lo' hi : ℕ) (rs : List Run) → lo' ≤ lo → AreRuns label lo hi rs → AreRuns label lo' hi rs
AreRuns-earlier label lo lo' hi [] le h = tt
AreRuns-earlier label lo lo' hi (r ∷ rs) le h =
    (record { from = omega arith; some = h.0.some; to = h.0.to; same = h.0.same; labelled = h.0.labelled }, h.1)

one_tick : (label : ℕ → Option (ℕ × ℕ)) (m k : ℕ) → m ≤ k → k ≤ m → label k ≡ label m
one_tick label m k low high = let e : k ≡ m = omega arith in rw e

-- a tick with a label in front of runs
put_front : (label : ℕ → Option (ℕ × ℕ)) (m hi : ℕ) (rs : List Run) → m < hi → is_some (label m) ≡ true → AreRuns label (m + 1) hi rs → AreRuns label m hi (with_tick label m rs)
put_front label m hi [] lt some h =
    (record { from = omega arith; some = omega arith; to = lt; same = one_tick label m; labelled = some }, tt)
put_front label m hi (r ∷ rs) lt some h = go (eqb r.first (m + 1) && is_same (label m) (label r.first)) refl
  where
    go : (c : Bool) → eqb r.first (m + 1) && is_same (label m) (label r.first) ≡ c
        → AreRuns label m hi (cond c (record r { first = m } ∷ rs) (record { first = m; last = m } ∷ r ∷ rs))
    go true e =
        let parts = and_parts (eqb r.first (m + 1)) (is_same (label m) (label r.first)) e in
        let next : r.first ≡ m + 1 = eqb-true r.first (m + 1) parts.0 in
        let as_first : label m ≡ label r.first = same_from_is_same (label m) (label r.first) parts.1 in
        let here = h.0 in (
          record {
            from = omega arith;
            some = omega (arith, here.some);
            to = here.to;
            same = λ k low high. at_first k low high (cases_eq k m) next as_first;
            labelled = some;
          },
          h.1,
        )
      where
        at_first : (k : ℕ) → m ≤ k → k ≤ r.last → (k ≡ m) ⊎ (k ≡ m → ⊥) → r.first ≡ m + 1 → label m ≡ label r.first → label k ≡ label m
        at_first k low high (inl e) next as_first = rw e
        at_first k low high (inr ne) next as_first = h.0.same k (omega arith) high ∙ sym as_first
    go false e =
        let here = h.0 in
        (record { from = omega arith; some = omega arith; to = lt; same = one_tick label m; labelled = some }, (here, h.1))

-- a tick in front of runs, where it has a label
abbrev pub with_front : (ℕ → Option (ℕ × ℕ)) → ℕ → List Run → List Run
with_front label m rs = cond (is_some (label m)) (with_tick label m rs) rs

front_are : (label : ℕ → Option (ℕ × ℕ)) (m hi : ℕ) (rs : List Run) → m < hi → AreRuns label (m + 1) hi rs → AreRuns label m hi (with_front label m rs)
front_are label m hi rs lt rest = go (is_some (label m)) refl
  where
    go : (c : Bool) → is_some (label m) ≡ c → AreRuns label m hi (cond c (with_tick label m rs) rs)
    go true e = put_front label m hi rs lt e rest
    go false e = AreRuns-earlier label (m + 1) m hi rs (omega arith) rest

pub runs_are : (label : ℕ → Option (ℕ × ℕ)) (m n hi : ℕ) → m + n ≤ hi → AreRuns label m hi (runs_over label (range_with_len m n))
runs_are label m zero hi le = tt
runs_are label m (suc n) hi le =
    front_are label m hi (runs_over label (range_with_len (m + 1) n)) (omega arith) (runs_are label (m + 1) n hi (omega arith))

-- ---- each tick with a label lies in a run

pub record Has (k : ℕ) (r : Run) : Type 0 where
  pub from : r.first ≤ k
  pub to : k ≤ r.last

has_front : (label : ℕ → Option (ℕ × ℕ)) (m hi : ℕ) (rs : List Run) → AreRuns label (m + 1) hi rs → Exists (Has m) (with_tick label m rs)
has_front label m hi [] are = inl (record { from = omega arith; to = omega arith })
has_front label m hi (r ∷ rs) are = go (eqb r.first (m + 1) && is_same (label m) (label r.first))
  where
    go : (c : Bool) → Exists (Has m) (cond c (record r { first = m } ∷ rs) (record { first = m; last = m } ∷ r ∷ rs))
    go true = let first = are.0 in inl (record { from = omega arith; to = omega (arith, first.from, first.some) })
    go false = inl (record { from = omega arith; to = omega arith })

has_still : (label : ℕ → Option (ℕ × ℕ)) (m hi k : ℕ) (rs : List Run) → AreRuns label (m + 1) hi rs → Exists (Has k) rs → Exists (Has k) (with_tick label m rs)
has_still label m hi k [] are has = absurd has
has_still label m hi k (r ∷ rs) are has = go (eqb r.first (m + 1) && is_same (label m) (label r.first)) has
  where
    go : (c : Bool) → Exists (Has k) (r ∷ rs) → Exists (Has k) (cond c (record r { first = m } ∷ rs) (record { first = m; last = m } ∷ r ∷ rs))
    go true (inl h) = let first = are.0 in inl (record { from = omega (arith, first.from, h.from); to = h.to })
    go true (inr h) = inr h
    go false h = inr h

front_has : (label : ℕ → Option (ℕ × ℕ)) (m hi k : ℕ) (rs : List Run) → AreRuns label (m + 1) hi rs → is_some (label k) ≡ true →
    (k ≡ m) ⊎ Exists (Has k) rs → Exists (Has k) (with_front label m rs)
front_has label m hi k rs are some h = go (is_some (label m)) refl h
  where
    go : (c : Bool) → is_some (label m) ≡ c → (k ≡ m) ⊎ Exists (Has k) rs → Exists (Has k) (cond c (with_tick label m rs) rs)
    go true e (inl at) = rw at (has_front label m hi rs are)
    go true e (inr has) = has_still label m hi k rs are has
    go false e (inl at) = let same : is_some (label k) ≡ is_some (label m) = rw at in absurd cc
    go false e (inr has) = has

pub runs_have : (label : ℕ → Option (ℕ × ℕ)) (m n k : ℕ) → m ≤ k → k < m + n → is_some (label k) ≡ true → Exists (Has k) (runs_over label (range_with_len m n))
runs_have label m zero k low high some = absurd (omega arith)
runs_have label m (suc n) k low high some =
    front_has label m (m + 1 + n) k (runs_over label (range_with_len (m + 1) n)) (runs_are label (m + 1) n (m + 1 + n) (omega arith)) some
    (elim (cases_eq k m) [ inl e ↦ inl e | inr ne ↦ inr (runs_have label (m + 1) n k (omega arith) (omega arith) some) ])

-- ---- a walk from run to run

-- ticks without a label are in no run
pub skipped : (label : ℕ → Option (ℕ × ℕ)) (m j n : ℕ) → ((k : ℕ) → m ≤ k → k < m + j → label k ≡ None) →
    runs_over label (range_with_len m (j + n)) ≡ runs_over label (range_with_len (m + j) n)
skipped label m zero n none = rw (zero-add, add-zero)
skipped label m (suc j) n none =
    let here : is_some (label m) ≡ false = ap is_some (none m (omega arith) (omega arith)) in
    let more : suc j + n ≡ suc (j + n) = omega arith in
    let behind : m + suc j ≡ m + 1 + j = omega arith in
    rw (more, behind)
    (cond-false (is_some (label m)) (with_tick label m (runs_over label (range_with_len (m + 1) (j + n)))) (runs_over label (range_with_len (m + 1) (j + n))) here
    ∙ skipped label (m + 1) j n (λ k low high. none k (omega arith) (omega arith)))

-- a tick in front of runs that it does not join
alone : (label : ℕ → Option (ℕ × ℕ)) (m hi : ℕ) (rs : List Run) → AreRuns label (m + 1) hi rs → (m + 1 < hi → is_same (label m) (label (m + 1)) ≡ false) →
    with_tick label m rs ≡ record { first = m; last = m } ∷ rs
alone label m hi [] are apart = refl
alone label m hi (r ∷ rs) are apart =
    cond-false (eqb r.first (m + 1) && is_same (label m) (label r.first)) (record r { first = m } ∷ rs) (record { first = m; last = m } ∷ r ∷ rs)
    (false_from_ne_true (eqb r.first (m + 1) && is_same (label m) (label r.first)) (λ e.
    let parts = and_parts (eqb r.first (m + 1)) (is_same (label m) (label r.first)) e in
    let next : r.first ≡ m + 1 = eqb-true r.first (m + 1) parts.0 in
    let here = are.0 in
    let same : is_same (label m) (label r.first) ≡ is_same (label m) (label (m + 1)) = rw next in
    let not_same = apart (omega (arith, here.some, here.to)) in
    absurd cc))

-- a tick in front of a run that it joins
joined : (label : ℕ → Option (ℕ × ℕ)) (m last : ℕ) (rs : List Run) → is_some (label m) ≡ true → label (m + 1) ≡ label m →
    with_tick label m (record { first = m + 1; last = last } ∷ rs) ≡ record { first = m; last = last } ∷ rs
joined label m last rs some same =
    cond-true (eqb (m + 1) (m + 1) && is_same (label m) (label (m + 1))) (record { first = m; last = last } ∷ rs) (record { first = m; last = m } ∷ record { first = m + 1; last = last } ∷ rs)
    (and_from (eqb (m + 1) (m + 1)) (is_same (label m) (label (m + 1))) (eq-eqb (m + 1) (m + 1) refl) (rw same (is_same-self (label m) some)))

-- the ticks from m to last have one label, which the next tick does not have: they are the first run
pub taken : (label : ℕ → Option (ℕ × ℕ)) (j m last n : ℕ) → m + j ≡ last → is_some (label m) ≡ true → ((k : ℕ) → m ≤ k → k ≤ last → label k ≡ label m) →
    (0 < n → is_same (label last) (label (last + 1)) ≡ false) →
    runs_over label (range_with_len m (suc j + n)) ≡ record { first = m; last = last } ∷ runs_over label (range_with_len (last + 1) n)
taken label zero m last n at some same apart =
    let e : m ≡ last = omega arith in
    let more : suc zero + n ≡ suc n = omega arith in
    let now : is_some (label last) ≡ true = rw (← e) some in
    rw (more, e)
    (cond-true (is_some (label last)) (with_tick label last (runs_over label (range_with_len (last + 1) n))) (runs_over label (range_with_len (last + 1) n)) now
    ∙ alone label last (last + 1 + n) (runs_over label (range_with_len (last + 1) n)) (runs_are label (last + 1) n (last + 1 + n) (omega arith)) (λ lt. apart (omega arith)))
taken label (suc j) m last n at some same apart =
    let more : suc (suc j) + n ≡ suc (suc j + n) = omega arith in
    let next : label (m + 1) ≡ label m = same (m + 1) (omega arith) (omega arith) in
    let now : is_some (label (m + 1)) ≡ true = rw next some in
    let after : runs_over label (range_with_len (m + 1) (suc j + n)) ≡ record { first = m + 1; last = last } ∷ runs_over label (range_with_len (last + 1) n) =
    taken label j (m + 1) last n (omega arith) now (λ k low high. same k (omega arith) high ∙ sym next) apart in
    rw more
    (cond-true (is_some (label m)) (with_tick label m (runs_over label (range_with_len (m + 1) (suc j + n)))) (runs_over label (range_with_len (m + 1) (suc j + n))) some
    ∙ ap (with_tick label m) after
    ∙ joined label m last (runs_over label (range_with_len (last + 1) n)) some next)
