-- Leaves of a cell: they tile it in order, each with its own kind.
use Rattle.std.proofs.Common.{◌≡◌, ℕ, zero, suc, ◌+◌, ◌-◌, ◌<◌, ◌≤◌, List, [], ◌∷◌, ◌++◌, Option, Some, None, refl, ap, ◌∙◌, inl, inr, arith}
use Rattle.std.specs.Prelude.{is_some, unwrap_or, true}
use Rattle.std.proofs.lemmas.Bool.{cases_lt}
use Rattle.cj_case.specs.declared.kind.Kind.{Kind}
use Rattle.cj_case.specs.declared.kind.Kind.TheVariants.{Undecided}
use Rattle.cj_case.specs.Leaves.{PlainLeaf}
use Rattle.cj_bezier.specs.Halving.{middle, closed, closed_or, leaves_within, leaves_between}
use Rattle.cj_bezier.specs.Tiles.{IsLeaf, Tile}
use Rattle.cj_case.specs.Order.{IsBefore}
use Rattle.cj_interval.proofs.ListLemmas.{Each, Exists, Ordered, Each-weaker}

-- the leaf has the kind that its ticks are judged to have
abbrev pub HasKind : (ℕ → ℕ → Option Kind) → PlainLeaf → Type 0
HasKind judge s = judge s.first s.last ≡ Some s.kind

Tile-append : (P : PlainLeaf → Type 0) (a b lo mid hi : ℕ) (ss ts : List PlainLeaf) → mid ≤ hi → Tile P a b lo mid ss → Tile P a b (mid + 1) hi ts → Tile P a b lo hi (ss ++ ts)
Tile-append P a b lo mid hi [] ts le s t = rw s t
Tile-append P a b lo mid hi (x ∷ ss) ts le s t =
    let leaf = s.1.0 in (
      s.0,
      (
        record {
          first_object = leaf.first_object;
          second_object = leaf.second_object;
          from = leaf.from;
          some = leaf.some;
          to = omega (arith, leaf.to);
          judged = leaf.judged;
        },
        Tile-append P a b (x.last + 1) mid hi ss ts le s.1.1 t,
      ),
    )

-- one tick always has a kind
abbrev pub IsSettled : (ℕ → ℕ → Option Kind) → ℕ → ℕ → Type 0
IsSettled judge first last = (m : ℕ) → first ≤ m → m ≤ last → is_some (judge m m) ≡ true

one_leaf : (judge : ℕ → ℕ → Option Kind) (a b first last : ℕ) (kind : Kind) → first ≤ last → judge first last ≡ Some kind → Tile (HasKind judge) a b first last (closed a b first last kind ∷ [])
one_leaf judge a b first last kind le is =
    (refl, (record { first_object = refl; second_object = refl; from = omega arith; some = le; to = omega arith; judged = is }, refl))

-- a cell that is not closed has two ticks or more
pub two_ticks : (judge : ℕ → ℕ → Option Kind) (first last : ℕ) → first ≤ last → IsSettled judge first last → judge first last ≡ None → first < last
two_ticks judge first last le settled none = elim (cases_lt first last) [
  | inl lt ↦ lt
  | inr ge ↦
      let e : first ≡ last = omega arith in
      let one : is_some (judge first first) ≡ true = settled first (omega arith) le in
      let same : judge first first ≡ None = ap (judge first) e ∙ none in
      let no : is_some (judge first first) ≡ is_some {T = Kind} None = ap is_some same in
      absurd cc
]

pub tiles : (judge : ℕ → ℕ → Option Kind) (a b n first last : ℕ) → first ≤ last → last ≤ first + n → IsSettled judge first last → Tile (HasKind judge) a b first last (leaves_within judge a b n first last)
unfolding leaves_within
tiles judge a b zero first last le enough settled = go (judge first last) refl
  where
    go : (o : Option Kind) → judge first last ≡ o → Tile (HasKind judge) a b first last (closed a b first last (unwrap_or o Undecided) ∷ [])
    go (Some kind) e = one_leaf judge a b first last kind le e
    go None e = let more = two_ticks judge first last le settled e in absurd (omega arith)
tiles judge a b (suc n) first last le enough settled =
    go (judge first last) refl
    (λ lt. tiles judge a b n first (middle first last) (omega arith) (omega arith) (λ m low high. settled m low (omega arith)))
    (λ lt. tiles judge a b n (middle first last + 1) last (omega arith) (omega arith) (λ m low high. settled m (omega arith) high))
  where
    go : (o : Option Kind) → judge first last ≡ o
        → (first < last → Tile (HasKind judge) a b first (middle first last) (leaves_within judge a b n first (middle first last)))
        → (first < last → Tile (HasKind judge) a b (middle first last + 1) last (leaves_within judge a b n (middle first last + 1) last))
        → Tile (HasKind judge) a b first last (closed_or a b first last o (leaves_within judge a b n first (middle first last) ++ leaves_within judge a b n (middle first last + 1) last))
    go (Some kind) e left right = one_leaf judge a b first last kind le e
    go None e left right =
        let more = two_ticks judge first last le settled e in
        Tile-append (HasKind judge) a b first (middle first last) last _ _ (omega arith) (left more) (right more)

-- it does not matter how many ticks were allowed for
enough_is_enough : (judge : ℕ → ℕ → Option Kind) (a b n k first last : ℕ) → first ≤ last → last ≤ first + n → last ≤ first + k → IsSettled judge first last →
    leaves_within judge a b n first last ≡ leaves_within judge a b k first last
unfolding leaves_within
enough_is_enough judge a b zero zero first last le n_enough k_enough settled = refl
enough_is_enough judge a b zero (suc k) first last le n_enough k_enough settled = go (judge first last) refl
  where
    go : (o : Option Kind) → judge first last ≡ o → closed a b first last (unwrap_or o Undecided) ∷ []
        ≡ closed_or a b first last o (leaves_within judge a b k first (middle first last) ++ leaves_within judge a b k (middle first last + 1) last)
    go (Some kind) e = refl
    go None e = let more = two_ticks judge first last le settled e in absurd (omega arith)
enough_is_enough judge a b (suc n) zero first last le n_enough k_enough settled = go (judge first last) refl
  where
    go : (o : Option Kind) → judge first last ≡ o
        → closed_or a b first last o (leaves_within judge a b n first (middle first last) ++ leaves_within judge a b n (middle first last + 1) last)
        ≡ closed a b first last (unwrap_or o Undecided) ∷ []
    go (Some kind) e = refl
    go None e = let more = two_ticks judge first last le settled e in absurd (omega arith)
enough_is_enough judge a b (suc n) (suc k) first last le n_enough k_enough settled =
    go (judge first last) refl
    (λ lt. enough_is_enough judge a b n k first (middle first last) (omega arith) (omega arith) (omega arith) (λ m low high. settled m low (omega arith)))
    (λ lt. enough_is_enough judge a b n k (middle first last + 1) last (omega arith) (omega arith) (omega arith) (λ m low high. settled m (omega arith) high))
  where
    go : (o : Option Kind) → judge first last ≡ o
        → (first < last → leaves_within judge a b n first (middle first last) ≡ leaves_within judge a b k first (middle first last))
        → (first < last → leaves_within judge a b n (middle first last + 1) last ≡ leaves_within judge a b k (middle first last + 1) last)
        → closed_or a b first last o (leaves_within judge a b n first (middle first last) ++ leaves_within judge a b n (middle first last + 1) last)
        ≡ closed_or a b first last o (leaves_within judge a b k first (middle first last) ++ leaves_within judge a b k (middle first last + 1) last)
    go (Some kind) e left right = refl
    go None e left right =
        let more = two_ticks judge first last le settled e in
        let l = left more in
        let r = right more in
        rw (l, r)

-- ---- a cell that has a kind, and one that has none

pub leaves-closed : (judge : ℕ → ℕ → Option Kind) (a b first last : ℕ) (kind : Kind) → judge first last ≡ Some kind → leaves_between judge a b first last ≡ closed a b first last kind ∷ []
unfolding leaves_between leaves_within
leaves-closed judge a b first last kind is = go (last - first)
  where
    go : (n : ℕ) → leaves_within judge a b n first last ≡ closed a b first last kind ∷ []
    go zero = rw is
    go (suc n) = rw is

pub leaves-halved : (judge : ℕ → ℕ → Option Kind) (a b first last : ℕ) → first ≤ last → IsSettled judge first last → judge first last ≡ None →
    leaves_between judge a b first last ≡ leaves_between judge a b first (middle first last) ++ leaves_between judge a b (middle first last + 1) last
unfolding leaves_between leaves_within
leaves-halved judge a b first last le settled none = go (last - first) (omega arith)
  where
    more : first < last
    more = two_ticks judge first last le settled none

    go : (n : ℕ) → n ≡ last - first → leaves_within judge a b n first last
        ≡ leaves_within judge a b (middle first last - first) first (middle first last) ++ leaves_within judge a b (last - (middle first last + 1)) (middle first last + 1) last
    go zero e = let more = more in absurd (omega arith)
    go (suc n) e =
        let more = more in
        let left = enough_is_enough judge a b n (middle first last - first) first (middle first last) (omega arith) (omega arith) (omega arith) (λ m low high. settled m low (omega arith)) in
        let right = enough_is_enough judge a b n (last - (middle first last + 1)) (middle first last + 1) last (omega arith) (omega arith) (omega arith) (λ m low high. settled m (omega arith) high) in
        rw (none, left, right)

-- ---- what tiling leaves hold

pub Each-tile : (P : PlainLeaf → Type 0) (a b lo lo' hi : ℕ) (ss : List PlainLeaf) → lo ≤ lo' → Tile P a b lo' hi ss → Each (IsLeaf P a b lo hi) ss
Each-tile P a b lo lo' hi [] le t = tt
Each-tile P a b lo lo' hi (s ∷ ss) le t =
    let leaf = t.1.0 in (
      record {
        first_object = leaf.first_object;
        second_object = leaf.second_object;
        from = omega (arith, leaf.from);
        some = leaf.some;
        to = leaf.to;
        judged = leaf.judged;
      },
      Each-tile P a b lo (s.last + 1) hi ss (omega (arith, leaf.from, leaf.some)) t.1.1,
    )

pub Ordered-tile : (P : PlainLeaf → Type 0) (a b lo hi : ℕ) (ss : List PlainLeaf) → Tile P a b lo hi ss → Ordered IsBefore ss
Ordered-tile P a b lo hi [] t = tt
Ordered-tile P a b lo hi (s ∷ ss) t =
    let leaf = t.1.0 in (
      Each-weaker (IsLeaf P a b (s.last + 1) hi) (IsBefore s) (λ x later. record {
        first_object = omega (arith, leaf.first_object, later.first_object);
        second_object = λ _. omega (arith, leaf.second_object, later.second_object);
        ticks = λ _ _. omega (arith, later.from);
      }) ss (Each-tile P a b (s.last + 1) (s.last + 1) hi ss (omega arith) t.1.1),
      Ordered-tile P a b (s.last + 1) hi ss t.1.1,
    )

-- the tick is one of the leaf's
pub record HasTick (m : ℕ) (s : PlainLeaf) : Type 0 where
  pub from : s.first ≤ m
  pub to : m ≤ s.last

pub Exists-tile : (P : PlainLeaf → Type 0) (a b lo hi m : ℕ) (ss : List PlainLeaf) → Tile P a b lo hi ss → lo ≤ m → m ≤ hi → Exists (HasTick m) ss
Exists-tile P a b lo hi m [] t low high = absurd (omega (arith, t))
Exists-tile P a b lo hi m (s ∷ ss) t low high = elim (cases_lt s.last m) [
  | inl after ↦ inr (Exists-tile P a b (s.last + 1) hi m ss t.1.1 (omega arith) high)
  | inr upto ↦ inl (record { from = omega (arith, t.0); to = upto })
]
