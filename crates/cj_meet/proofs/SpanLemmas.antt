-- The ticks in the spans of the encounters of leaves are those in the leaves themselves.
use Rattle.std.proofs.Common.{◌≡◌, ◌≢◌, ◌⊎◌, ◌↔◌, ℕ, ◌+◌, ◌≤◌, ◌==◌, true, false, ◌&&◌, List, [], ◌∷◌, get_or, refl, sym, ◌∙◌, ap, inl, inr, ⊎_elim, arith, eqb-true, eq-eqb}
use Rattle.std.proofs.lemmas.Bool.{and_parts, cases_lt, cond_both, cond-true, cond-false, and_from, cases_Bool}
use Rattle.std.proofs.lemmas.List.Elements.{All-nil, All-cons, All-head, All-tail, All-weaker, All-map}
use Rattle.std.specs.Prelude.{All, Any}
use Rattle.cj_interval.proofs.ListLemmas.{Exists, Any-from_exists, exists_from_Any}
use Rattle.cj_case.specs.declared.kind.Kind.{Kind}
use Rattle.cj_case.specs.declared.kind.Kind.TheVariants.{Far, Near, Undecided}
use Rattle.cj_case.specs.Leaves.{PlainLeaf, plain_leaf, plain_leaves, Covers, LiesIn, same_kind}
use Rattle.cj_case.specs.declared.leaf.Leaf.{Leaf}
use Rattle.cj_case.specs.Order.{HaveTicks}
use Rattle.cj_meet.specs.Encounters.{is_far, follows, with_front, encounters_of, first_object, second_object}
use Rattle.cj_meet.specs.Spans.{with_span, spans_of, LiesInSpan, HaveExactSpans}
use Rattle.cj_bezier.proofs.KindLemmas.{from_same_kind}

-- one leaf goes on from another
pub record GoesOn (s t : PlainLeaf) : Type 0 where
  pub a : s.a ≡ t.a
  pub b : s.b ≡ t.b
  pub next : s.last + 1 ≡ t.first

pub goes_on-from : (s t : PlainLeaf) → follows s t ≡ true → GoesOn s t
goes_on-from s t on =
    let test = and_parts (s.a == t.a) (s.b == t.b && s.last + 1 == t.first) on in
    let tests = and_parts (s.b == t.b) (s.last + 1 == t.first) test.1 in
    record { a = eqb-true _ _ test.0; b = eqb-true _ _ tests.0; next = eqb-true _ _ tests.1 }

abbrev HasTick : PlainLeaf → Type 0
HasTick s = s.first ≤ s.last

-- two leaves as one
abbrev pub joined : PlainLeaf → PlainLeaf → PlainLeaf
joined s t = record t { first = s.first }

covers_either : (kind : Kind) (tick : ℕ) (s t : PlainLeaf) → GoesOn s t → s.kind ≡ t.kind → Covers kind tick (joined s t) → Covers kind tick s ⊎ Covers kind tick t
covers_either kind tick s t on alike h =
    ⊎_elim (λ early. inl (record { same = alike ∙ h.same; from = h.from; to = omega (arith, early, on.next) }))
    (λ late. inr (record { same = h.same; from = late; to = h.to })) (cases_lt tick t.first)

covers_first : (kind : Kind) (tick : ℕ) (s t : PlainLeaf) → GoesOn s t → HasTick t → s.kind ≡ t.kind → Covers kind tick s → Covers kind tick (joined s t)
covers_first kind tick s t on some alike h = record { same = sym alike ∙ h.same; from = h.from; to = omega (arith, h.to, on.next, some) }

covers_second : (kind : Kind) (tick : ℕ) (s t : PlainLeaf) → GoesOn s t → HasTick s → Covers kind tick t → Covers kind tick (joined s t)
covers_second kind tick s t on some h = record { same = h.same; from = omega (arith, h.from, on.next, some); to = h.to }

-- what a span of leaves with ticks adds to others
with_span-case : (P : List PlainLeaf → Type 0) (s t : PlainLeaf) (ts : List PlainLeaf) →
    (follows s t ≡ true → same_kind s.kind t.kind ≡ true → P (joined s t ∷ ts)) → P (s ∷ t ∷ ts) → P (with_span s (t ∷ ts))
with_span-case P s t ts merged apart =
    cond_both (follows s t && same_kind s.kind t.kind) (joined s t ∷ ts) (s ∷ t ∷ ts) P
    (λ on. let test = and_parts (follows s t) (same_kind s.kind t.kind) on in merged test.0 test.1) (λ off. apart)

with_span-ticks : (s : PlainLeaf) (ts : List PlainLeaf) → HasTick s → HaveTicks ts → HaveTicks (with_span s ts)
with_span-ticks s [] some all = All-cons HasTick s [] some all
with_span-ticks s (t ∷ ts) some all =
    let here = All-head HasTick t ts all in
    with_span-case HaveTicks s t ts
    (λ on alike. All-cons HasTick (joined s t) ts (omega (arith, some, here, (goes_on-from s t on).next)) (All-tail HasTick t ts all))
    (All-cons HasTick s (t ∷ ts) some all)

spans_of-ticks : (ss : List PlainLeaf) → HaveTicks ss → HaveTicks (spans_of ss)
spans_of-ticks [] all = all
spans_of-ticks (s ∷ ss) all = with_span-ticks s (spans_of ss) (All-head HasTick s ss all) (spans_of-ticks ss (All-tail HasTick s ss all))

with_span-covers : (kind : Kind) (tick : ℕ) (s : PlainLeaf) (ts : List PlainLeaf) → HasTick s → HaveTicks ts →
    Exists (Covers kind tick) (with_span s ts) ↔ (Covers kind tick s ⊎ Exists (Covers kind tick) ts)
with_span-covers kind tick s [] some all = (λ h. h, λ h. h)
with_span-covers kind tick s (t ∷ ts) some all =
    let here = All-head HasTick t ts all in
    with_span-case (λ l. Exists (Covers kind tick) l ↔ (Covers kind tick s ⊎ Exists (Covers kind tick) (t ∷ ts))) s t ts
    (λ on alike.
    let goes = goes_on-from s t on in
    let same = from_same_kind s.kind t.kind alike in (
      ⊎_elim (λ h. ⊎_elim inl (λ g. inr (inl g)) (covers_either kind tick s t goes same h)) (λ g. inr (inr g)),
      ⊎_elim (λ h. inl (covers_first kind tick s t goes here same h)) (⊎_elim (λ h. inl (covers_second kind tick s t goes some h)) inr),
    ))
    (λ h. h, λ h. h)

-- the spans of leaves cover what the leaves do
spans_of-covers : (kind : Kind) (tick : ℕ) (ss : List PlainLeaf) → HaveTicks ss → Exists (Covers kind tick) (spans_of ss) ↔ Exists (Covers kind tick) ss
spans_of-covers kind tick [] all = (λ h. h, λ h. h)
spans_of-covers kind tick (s ∷ ss) all =
    let here = All-head HasTick s ss all in
    let rest = All-tail HasTick s ss all in
    let step = with_span-covers kind tick s (spans_of ss) here (spans_of-ticks ss rest) in
    let others = spans_of-covers kind tick ss rest in
    (λ h. ⊎_elim inl (λ g. inr (others.0 g)) (step.0 h), λ h. step.1 (⊎_elim inl (λ g. inr (others.1 g)) h))

far_is : (k : Kind) → is_far (record { a = 0; b = 0; first = 0; last = 0; kind = k }) ≡ true → k ≡ Far
far_is Far h = refl
far_is Near h = cc
far_is Undecided h = cc

not_far_is : (k : Kind) → is_far (record { a = 0; b = 0; first = 0; last = 0; kind = k }) ≡ false → k ≢ Far
not_far_is Far h e = cc
not_far_is Near h e = cc
not_far_is Undecided h e = cc

-- an encounter: leaves with ticks, none of them far, of one pair
pub record IsGroup (g : List PlainLeaf) : Type 0 where
  ticks : HaveTicks g
  near : All (λ s. s.kind ≢ Far) g
  alike : All (λ s. (s.a ≡ first_object g) × (s.b ≡ second_object g)) g

alone : (s : PlainLeaf) → HasTick s → s.kind ≢ Far → IsGroup (s ∷ [])
alone s some near = record {
  ticks = All-cons HasTick s [] some (All-nil HasTick);
  near = All-cons (λ u. u.kind ≢ Far) s [] near (All-nil (λ u. u.kind ≢ Far));
  alike = All-cons (λ u. (u.a ≡ s.a) × (u.b ≡ s.b)) s [] (refl, refl) (All-nil (λ u. (u.a ≡ s.a) × (u.b ≡ s.b)));
}

module _ (kind : Kind) (a b tick : ℕ) where
  -- the tick lies in an encounter of the objects a and b, in one of its leaves of this kind
  abbrev LiesInGroup : List PlainLeaf → Type 0
  LiesInGroup g = Exists (LiesIn kind a b tick) g

  -- one pair for all leaves, told apart from the tick
  told_apart : (c d : ℕ) (g : List PlainLeaf) → All (λ s. (s.a ≡ c) × (s.b ≡ d)) g → Exists (LiesIn kind a b tick) g → (c ≡ a) × (d ≡ b) × Exists (Covers kind tick) g
  told_apart c d [] alike h = absurd h
  told_apart c d (s ∷ g) alike (inl h) =
      let here = All-head (λ s. (s.a ≡ c) × (s.b ≡ d)) s g alike in
      (sym here.0 ∙ h.objects.0, sym here.1 ∙ h.objects.1, inl h.covered)
  told_apart c d (s ∷ g) alike (inr h) =
      let r = told_apart c d g (All-tail (λ s. (s.a ≡ c) × (s.b ≡ d)) s g alike) h in (r.0, r.1, inr r.2)

  told_together : (c d : ℕ) (g : List PlainLeaf) → All (λ s. (s.a ≡ c) × (s.b ≡ d)) g → c ≡ a → d ≡ b → Exists (Covers kind tick) g → Exists (LiesIn kind a b tick) g
  told_together c d [] alike ca db h = absurd h
  told_together c d (s ∷ g) alike ca db (inl h) =
      let here = All-head (λ s. (s.a ≡ c) × (s.b ≡ d)) s g alike in
      inl (record { objects = (here.0 ∙ ca, here.1 ∙ db); covered = h })
  told_together c d (s ∷ g) alike ca db (inr h) = inr (told_together c d g (All-tail (λ s. (s.a ≡ c) × (s.b ≡ d)) s g alike) ca db h)

  -- a tick lies in a span of an encounter where it lies in the encounter
  in_span : (g : List PlainLeaf) → IsGroup g → LiesInGroup g → LiesInSpan kind a b tick g
  in_span g is h =
      let r = told_apart (first_object g) (second_object g) g is.alike h in
      record { objects = (r.0, r.1); span = Any-from_exists (Covers kind tick) (spans_of g) ((spans_of-covers kind tick g is.ticks).1 r.2) }

  in_group : (g : List PlainLeaf) → IsGroup g → LiesInSpan kind a b tick g → LiesInGroup g
  in_group g is h =
      told_together (first_object g) (second_object g) g is.alike h.objects.0 h.objects.1
      ((spans_of-covers kind tick g is.ticks).0 (exists_from_Any (Covers kind tick) (spans_of g) h.span))

  -- a leaf in front adds its own ticks
  with_front-ticks : (s : PlainLeaf) (gs : List (List PlainLeaf)) →
      Exists LiesInGroup (with_front s gs) ↔ (LiesIn kind a b tick s ⊎ Exists LiesInGroup gs)
  with_front-ticks s [] = (⊎_elim (⊎_elim inl absurd) absurd, ⊎_elim (λ h. inl (inl h)) absurd)
  with_front-ticks s ([] ∷ gs) = (⊎_elim (⊎_elim inl absurd) (λ h. inr (inr h)), ⊎_elim (λ h. inl (inl h)) (⊎_elim absurd inr))
  with_front-ticks s ((t ∷ ts) ∷ gs) =
      cond_both (follows s t) ((s ∷ t ∷ ts) ∷ gs) ((s ∷ []) ∷ (t ∷ ts) ∷ gs) (λ l. Exists LiesInGroup l ↔ (LiesIn kind a b tick s ⊎ Exists LiesInGroup ((t ∷ ts) ∷ gs)))
      (λ on. (⊎_elim (⊎_elim inl (λ h. inr (inl h))) (λ h. inr (inr h)), ⊎_elim (λ h. inl (inl h)) (⊎_elim (λ h. inl (inr h)) inr)))
      (λ off. (⊎_elim (⊎_elim inl absurd) inr, ⊎_elim (λ h. inl (inl h)) inr))

  -- no tick of a far leaf counts
  far_has_none : (s : PlainLeaf) → kind ≢ Far → is_far s ≡ true → LiesIn kind a b tick s → ⊥
  far_has_none s near far h = near (sym h.covered.same ∙ far_is s.kind far)

  encounters_of-ticks : (ss : List PlainLeaf) → kind ≢ Far → Exists LiesInGroup (encounters_of ss) ↔ Exists (LiesIn kind a b tick) ss
  encounters_of-ticks [] near = (λ h. h, λ h. h)
  encounters_of-ticks (s ∷ ss) near =
      let others = encounters_of-ticks ss near in
      let step = with_front-ticks s (encounters_of ss) in
      cond_both (is_far s) (encounters_of ss) (with_front s (encounters_of ss)) (λ l. Exists LiesInGroup l ↔ (LiesIn kind a b tick s ⊎ Exists (LiesIn kind a b tick) ss))
      (λ far. (λ h. inr (others.0 h), ⊎_elim (λ h. absurd (far_has_none s near far h)) others.1))
      (λ off. (λ h. ⊎_elim inl (λ g. inr (others.0 g)) (step.0 h), λ h. step.1 (⊎_elim inl (λ g. inr (others.1 g)) h)))

  spans-from_groups : (gs : List (List PlainLeaf)) → All IsGroup gs → Exists LiesInGroup gs → Exists (LiesInSpan kind a b tick) gs
  spans-from_groups [] are h = absurd h
  spans-from_groups (g ∷ gs) are (inl h) = inl (in_span g (All-head IsGroup g gs are) h)
  spans-from_groups (g ∷ gs) are (inr h) = inr (spans-from_groups gs (All-tail IsGroup g gs are) h)

  groups-from_spans : (gs : List (List PlainLeaf)) → All IsGroup gs → Exists (LiesInSpan kind a b tick) gs → Exists LiesInGroup gs
  groups-from_spans [] are h = absurd h
  groups-from_spans (g ∷ gs) are (inl h) = inl (in_group g (All-head IsGroup g gs are) h)
  groups-from_spans (g ∷ gs) are (inr h) = inr (groups-from_spans gs (All-tail IsGroup g gs are) h)

with_front-groups : (s : PlainLeaf) (gs : List (List PlainLeaf)) → HasTick s → s.kind ≢ Far → All IsGroup gs → All IsGroup (with_front s gs)
with_front-groups s [] some near are = All-cons IsGroup (s ∷ []) [] (alone s some near) are
with_front-groups s ([] ∷ gs) some near are = All-cons IsGroup (s ∷ []) gs (alone s some near) (All-tail IsGroup [] gs are)
with_front-groups s ((t ∷ ts) ∷ gs) some near are =
    let here = All-head IsGroup (t ∷ ts) gs are in
    let rest = All-tail IsGroup (t ∷ ts) gs are in
    cond_both (follows s t) ((s ∷ t ∷ ts) ∷ gs) ((s ∷ []) ∷ (t ∷ ts) ∷ gs) (All IsGroup)
    (λ on.
    let goes = goes_on-from s t on in
    All-cons IsGroup (s ∷ t ∷ ts) gs (record {
      ticks = All-cons HasTick s (t ∷ ts) some here.ticks;
      near = All-cons (λ u. u.kind ≢ Far) s (t ∷ ts) near here.near;
      alike = All-cons (λ u. (u.a ≡ s.a) × (u.b ≡ s.b)) s (t ∷ ts) (refl, refl) (All-weaker (λ u. (u.a ≡ t.a) × (u.b ≡ t.b)) (λ u. (u.a ≡ s.a) × (u.b ≡ s.b)) (λ u e. (e.0 ∙ sym goes.a, e.1 ∙ sym goes.b)) (t ∷ ts) here.alike);
    }) rest)
    (λ off. All-cons IsGroup (s ∷ []) ((t ∷ ts) ∷ gs) (alone s some near) are)

encounters_of-groups : (ss : List PlainLeaf) → HaveTicks ss → All IsGroup (encounters_of ss)
encounters_of-groups [] all = All-nil IsGroup
encounters_of-groups (s ∷ ss) all =
    let rest = encounters_of-groups ss (All-tail HasTick s ss all) in
    cond_both (is_far s) (encounters_of ss) (with_front s (encounters_of ss)) (All IsGroup)
    (λ far. rest) (λ off. with_front-groups s (encounters_of ss) (All-head HasTick s ss all) (not_far_is s.kind off) rest)

-- a tick lies in a near or undecided span of an encounter exactly where it lies in such a leaf
pub spans_hold : (kind : Kind) (a b tick : ℕ) (ss : List PlainLeaf) → kind ≢ Far → HaveTicks ss →
    Any (LiesInSpan kind a b tick) (encounters_of ss) ↔ Any (LiesIn kind a b tick) ss
spans_hold kind a b tick ss near all =
    let are = encounters_of-groups ss all in
    let same = encounters_of-ticks kind a b tick ss near in (
      λ h. Any-from_exists (LiesIn kind a b tick) ss (same.0 (groups-from_spans kind a b tick (encounters_of ss) are (exists_from_Any (LiesInSpan kind a b tick) (encounters_of ss) h))),
      λ h. Any-from_exists (LiesInSpan kind a b tick) (encounters_of ss) (spans-from_groups kind a b tick (encounters_of ss) are (same.1 (exists_from_Any (LiesIn kind a b tick) ss h))),
    )

with_span-near : (s : PlainLeaf) (ts : List PlainLeaf) → s.kind ≢ Far → All (λ t. t.kind ≢ Far) ts → All (λ t. t.kind ≢ Far) (with_span s ts)
with_span-near s [] near all = All-cons (λ t. t.kind ≢ Far) s [] near all
with_span-near s (t ∷ ts) near all =
    with_span-case (All (λ u. u.kind ≢ Far)) s t ts
    (λ on alike. All-cons (λ u. u.kind ≢ Far) (joined s t) ts (All-head (λ u. u.kind ≢ Far) t ts all) (All-tail (λ u. u.kind ≢ Far) t ts all))
    (All-cons (λ u. u.kind ≢ Far) s (t ∷ ts) near all)

spans_of-near : (ss : List PlainLeaf) → All (λ t. t.kind ≢ Far) ss → All (λ t. t.kind ≢ Far) (spans_of ss)
spans_of-near [] all = all
spans_of-near (s ∷ ss) all = with_span-near s (spans_of ss) (All-head (λ u. u.kind ≢ Far) s ss all) (spans_of-near ss (All-tail (λ u. u.kind ≢ Far) s ss all))

-- no span of an encounter is far
pub spans_near : (ss : List PlainLeaf) → HaveTicks ss → All (λ group. All (λ s. s.kind ≢ Far) (spans_of group)) (encounters_of ss)
spans_near ss all = All-weaker IsGroup (λ g. All (λ s. s.kind ≢ Far) (spans_of g)) (λ g is. spans_of-near g is.near) (encounters_of ss) (encounters_of-groups ss all)

pub leaves_have_ticks : (leaves : List Leaf) → HaveTicks (plain_leaves leaves)
leaves_have_ticks leaves = All-map HasTick plain_leaf leaves (λ k d short. (get_or leaves k d).cell.some)

-- so are all spans of leaves that have ticks
pub exact_spans_of : (ss : List PlainLeaf) → HaveTicks ss → HaveExactSpans ss
exact_spans_of ss ticks = record {
  near = λ a b tick. spans_hold Near a b tick ss (λ e. cc) ticks;
  undecided = λ a b tick. spans_hold Undecided a b tick ss (λ e. cc) ticks;
  none_far = spans_near ss ticks;
}

-- the same of leaves, which have ticks by their type
pub exact_spans : (leaves : List Leaf) → HaveExactSpans (plain_leaves leaves)
exact_spans leaves = exact_spans_of (plain_leaves leaves) (leaves_have_ticks leaves)

follows-from : (s t : PlainLeaf) → GoesOn s t → follows s t ≡ true
follows-from s t on = rw (eq-eqb _ _ on.a, eq-eqb _ _ on.b, eq-eqb _ _ on.next) refl

-- the first span of leaves begins as the first of them does
record IsHead (t : PlainLeaf) (spans : List PlainLeaf) : Type 0 where
  head : PlainLeaf
  rest : List PlainLeaf
  is : spans ≡ head ∷ rest
  a : head.a ≡ t.a
  b : head.b ≡ t.b
  first : head.first ≡ t.first
  kind : head.kind ≡ t.kind

with_span-head : (t : PlainLeaf) (ts : List PlainLeaf) → IsHead t (with_span t ts)
with_span-head t [] = record { head = t; rest = []; is = refl; a = refl; b = refl; first = refl; kind = refl }
with_span-head t (u ∷ us) =
    with_span-case (IsHead t) t u us
    (λ on alike.
    let goes = goes_on-from t u on in
    record { head = joined t u; rest = us; is = refl; a = sym goes.a; b = sym goes.b; first = refl; kind = sym (from_same_kind t.kind u.kind alike) })
    (record { head = t; rest = u ∷ us; is = refl; a = refl; b = refl; first = refl; kind = refl })

-- a leaf in front of spans that goes on with the first of them
with_span-on : (s t : PlainLeaf) (ts : List PlainLeaf) → follows s t ≡ true → same_kind s.kind t.kind ≡ true → with_span s (t ∷ ts) ≡ joined s t ∷ ts
with_span-on s t ts on alike =
    cond-true (follows s t && same_kind s.kind t.kind) (joined s t ∷ ts) (s ∷ t ∷ ts) (and_from (follows s t) (same_kind s.kind t.kind) on alike)

with_span-off : (s t : PlainLeaf) (ts : List PlainLeaf) → (follows s t && same_kind s.kind t.kind) ≡ false → with_span s (t ∷ ts) ≡ s ∷ t ∷ ts
with_span-off s t ts off = cond-false (follows s t && same_kind s.kind t.kind) (joined s t ∷ ts) (s ∷ t ∷ ts) off

with_span-joined : (s t : PlainLeaf) (ts : List PlainLeaf) → follows s t ≡ true → same_kind s.kind t.kind ≡ true → with_span s (with_span t ts) ≡ with_span (joined s t) ts
with_span-joined s t [] on alike = with_span-on s t [] on alike
with_span-joined s t (u ∷ us) on alike =
    let goes = goes_on-from s t on in
    ⊎_elim
    (λ yes_t.
    let parts = and_parts (follows t u) (same_kind t.kind u.kind) yes_t in
    let next = goes_on-from t u parts.0 in
    let through : follows s (joined t u) ≡ true = follows-from s (joined t u) (record { a = goes.a ∙ next.a; b = goes.b ∙ next.b; next = goes.next }) in
    let kinds : same_kind s.kind u.kind ≡ true = rw (from_same_kind s.kind t.kind alike) parts.1 in
    ap (with_span s) (with_span-on t u us parts.0 parts.1) ∙ (with_span-on s (joined t u) us through kinds ∙ sym (with_span-on (joined s t) u us parts.0 parts.1)))
    (λ no_t.
    ap (with_span s) (with_span-off t u us no_t) ∙ (with_span-on s t (u ∷ us) on alike ∙ sym (with_span-off (joined s t) u us no_t)))
    (cases_Bool (follows t u && same_kind t.kind u.kind))

-- two leaves that go on and are of one kind have the spans of one leaf
pub spans_of-joined : (s t : PlainLeaf) (ss : List PlainLeaf) → (follows s t && same_kind s.kind t.kind) ≡ true → spans_of (s ∷ t ∷ ss) ≡ spans_of (joined s t ∷ ss)
spans_of-joined s t ss on =
    let test = and_parts (follows s t) (same_kind s.kind t.kind) on in
    with_span-joined s t (spans_of ss) test.0 test.1

-- the spans of other leaves begin with the first of them
pub spans_of-parted : (s t : PlainLeaf) (ss : List PlainLeaf) → (follows s t && same_kind s.kind t.kind) ≡ false → spans_of (s ∷ t ∷ ss) ≡ s ∷ spans_of (t ∷ ss)
spans_of-parted s t ss off =
    let head = with_span-head t (spans_of ss) in
    let test : (follows s head.head && same_kind s.kind head.head.kind) ≡ false = rw (head.a, head.b, head.first, head.kind) off in
    rw head.is (with_span-off s head.head head.rest test)
