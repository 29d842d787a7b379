-- The hulls of the parts of a track as a list, and what holds of each of them.
use Rattle.std.proofs.Common.{◌≡◌, ℕ, zero, suc, ◌+◌, ◌-◌, ◌<◌, ◌≤◌, Bool, true, false, cond, List, [], ◌∷◌, ◌++◌, filter, Option, Some, None, refl, sym, ap, subst, ◌∙◌, inl, inr, arith}
use Rattle.std.specs.Prelude.{slice_get, IfSome}
use Rattle.std.specs.List.{enumerate_from, flat_map, range_with_len}
use Rattle.std.proofs.lemmas.Bool.{cases_eq, eqb-true, eq-eqb}
use Rattle.cj_interval.proofs.ListLemmas.{Each, Exists, Each-flat_map, Exists-flat_map, each_from_flat_map}
use Rattle.cj_interval.proofs.RangeLemmas.{Each-numbered, Exists-enumerated, each_from_numbered}
use Rattle.cj_track.specs.PlainTracks.{PlainTrack}
use Rattle.cj_hermite.specs.Interpolant.{Curve, IsOver}
use Rattle.cj_hermite.specs.Pieces.{PlainPiece, pieces_of, piece_holding, piece_at, curve_of_piece}
use Rattle.cj_hermite.specs.Walks.{HasNone}
use Rattle.cj_hermite.proofs.StateLemmas.{IsState, has, lacks, state, covered_has}
use Rattle.cj_bezier.specs.Hulls.{PlainHull, hull_axes}
use Rattle.cj_bezier.specs.Parts.{IsPart, OfEachHull, is_number, ticks_used, last_tick, hull_over, hulls_of, HasPart, HaveParts, AreInTime}

-- ---- the first and the last tick that passes a test

-- m is the first of the ticks of a range that pass a test, and l the last
pub record AreEnds (q : ℕ → Bool) (from n m l : ℕ) : Type 0 where
  pub first_is : q m ≡ true
  pub last_is : q l ≡ true
  pub low : from ≤ m
  pub order : m ≤ l
  pub high : l < from + n
  pub within : (k : ℕ) → from ≤ k → k < from + n → q k ≡ true → (m ≤ k) × (k ≤ l)

-- none of the ticks of a range passes
abbrev pub AreNone : (ℕ → Bool) → ℕ → ℕ → Type 0
AreNone q from n = (k : ℕ) → from ≤ k → k < from + n → q k ≡ false

-- what a filtered range comes to
abbrev pub Filtered : (ℕ → Bool) → ℕ → ℕ → List ℕ → Type 0
Filtered q from n [] = AreNone q from n
Filtered q from n (m ∷ ms) = AreEnds q from n m (last_tick m ms)

pub filtered : (q : ℕ → Bool) (from n : ℕ) → Filtered q from n (filter q (range_with_len from n))
filtered q from zero = λ k low high. absurd (omega arith)
filtered q from (suc n) = go (q from) refl (filter q (range_with_len (from + 1) n)) (filtered q (from + 1) n)
  where
    go : (b : Bool) → q from ≡ b → (ms : List ℕ) → Filtered q (from + 1) n ms → Filtered q from (suc n) (cond b (from ∷ ms) ms)
    go true is [] f = record {
      first_is = is;
      last_is = is;
      low = omega arith;
      order = omega arith;
      high = omega arith;
      within = λ k low high yes. elim (cases_eq k from) [
        | inl same ↦ (omega arith, omega arith)
        | inr other ↦ let no = f k (omega arith) (omega arith) in absurd cc
      ];
    }
    go true is (m ∷ ms) ends = record {
      first_is = is;
      last_is = ends.last_is;
      low = omega arith;
      order = omega (arith, ends.low, ends.order);
      high = omega (arith, ends.high);
      within = λ k low high yes. elim (cases_eq k from) [
        | inl same ↦ (omega arith, omega (arith, ends.low, ends.order))
        | inr other ↦ let w = ends.within k (omega arith) (omega arith) yes in (omega arith, w.1)
      ];
    }
    go false is [] f = λ k low high. elim (cases_eq k from) [
      | inl same ↦ subst (λ (i : ℕ). q i ≡ false) (sym same) is
      | inr other ↦ f k (omega arith) (omega arith)
    ]
    go false is (m ∷ ms) ends = record {
      first_is = ends.first_is;
      last_is = ends.last_is;
      low = omega (arith, ends.low);
      order = ends.order;
      high = omega (arith, ends.high);
      within = λ k low high yes. elim (cases_eq k from) [
        | inl same ↦ let no : q k ≡ false = subst (λ (i : ℕ). q i ≡ false) (sym same) is in absurd cc
        | inr other ↦ ends.within k (omega arith) (omega arith) yes
      ];
    }

-- ---- numbers of pieces

pub number_is : (index : ℕ) (o : Option ℕ) → is_number index o ≡ true → o ≡ Some index
number_is index None h = absurd cc
number_is index (Some i) h = ap (λ (k : ℕ). Some k) (eqb-true i index h)

pub is_the_number : (index : ℕ) (o : Option ℕ) → o ≡ Some index → is_number index o ≡ true
is_the_number index None h = absurd cc
is_the_number index (Some i) h = let same : i ≡ index = cc in eq-eqb i index same

-- ---- the hulls of the parts

-- a tick of the range
pub in_range : (from to m : ℕ) → from ≤ m → m ≤ to → m < from + (to + 1 - from)
in_range from to m low high = omega arith

-- the ticks of a piece that has a part
pub ends_of_part : (e : PlainTrack) (from to index : ℕ) (x : PlainPiece) (first last m l : ℕ) → IsPart e from to index x first last
    → AreEnds (λ k. is_number index (piece_at e k)) from (to + 1 - from) m l → (m ≡ first) × (l ≡ last)
ends_of_part e from to index x first last m l part ends =
    let some = part.some in
    let f = (part.ticks first).0 (omega arith, some) in
    let l' = (part.ticks last).0 (some, omega arith) in
    let a = ends.within first f.after (in_range from to first f.after f.before) (is_the_number index (piece_at e first) f.here) in
    let b = ends.within last l'.after (in_range from to last l'.after l'.before) (is_the_number index (piece_at e last) l'.here) in
    let c = (part.ticks m).1 (record { after = ends.low; before = omega (arith, ends.order, ends.high); here = number_is index (piece_at e m) ends.first_is }) in
    let d = (part.ticks l).1 (record { after = omega (arith, ends.low, ends.order); before = omega (arith, ends.high); here = number_is index (piece_at e l) ends.last_is }) in
    (omega arith, omega arith)

-- what holds of the list's hulls holds of each part's
pub of_each_hull : (e : PlainTrack) (from to : ℕ) (P : PlainHull → Type 0) → Each P (hulls_of e from to) → OfEachHull e from to P
unfolding hulls_of
of_each_hull e from to P each index first last x part =
    go (ticks_used e from to index) (filtered (λ k. is_number index (piece_at e k)) from (to + 1 - from))
    (each_from_numbered (λ p. Each P (hull_over p.1 (ticks_used e from to p.0))) (pieces_of e)
    (each_from_flat_map P (λ p. hull_over p.1 (ticks_used e from to p.0)) (enumerate_from 0 (pieces_of e)) each) index x part.piece)
  where
    go : (ms : List ℕ) → Filtered (λ k. is_number index (piece_at e k)) from (to + 1 - from) ms → Each P (hull_over x ms) → P (hull_axes (curve_of_piece x) first last)
    go [] f h =
        let u = (part.ticks first).0 (omega arith, part.some) in
        let no = f first u.after (in_range from to first u.after u.before) in
        let yes = is_the_number index (piece_at e first) u.here in
        absurd cc
    go (m ∷ ms) ends h =
        let same = ends_of_part e from to index x first last m (last_tick m ms) part ends in
        subst (λ (l : ℕ). P (hull_axes (curve_of_piece x) first l)) same.1 (subst (λ (k : ℕ). P (hull_axes (curve_of_piece x) k (last_tick m ms))) same.0 h.0)

-- what holds of each part's hull holds of the list's, where each piece that is used has a part
pub each_hull : (e : PlainTrack) (from to : ℕ) (P : PlainHull → Type 0) → HaveParts e from to from to → OfEachHull e from to P → Each P (hulls_of e from to)
unfolding hulls_of
each_hull e from to P have each =
    Each-flat_map P (λ p. hull_over p.1 (ticks_used e from to p.0)) (enumerate_from 0 (pieces_of e))
    (Each-numbered (λ p. Each P (hull_over p.1 (ticks_used e from to p.0))) (pieces_of e)
    (λ index x is. go index x is (ticks_used e from to index) (filtered (λ k. is_number index (piece_at e k)) from (to + 1 - from))))
  where
    go : (index : ℕ) (x : PlainPiece) → slice_get (pieces_of e) index ≡ Some x → (ms : List ℕ) → Filtered (λ k. is_number index (piece_at e k)) from (to + 1 - from) ms → Each P (hull_over x ms)
    go index x is [] f = tt
    go index x is (m ∷ ms) ends =
        let has = have m index ends.low (omega (arith, ends.order, ends.high)) (number_is index (piece_at e m) ends.first_is) in
        let same = ends_of_part e from to index has.piece has.first has.last m (last_tick m ms) has.part ends in
        let place = has.part.piece in
        let one : has.piece ≡ x = cc in
        let hull = each index has.first has.last has.piece has.part in (
          subst (λ (l : ℕ). P (hull_axes (curve_of_piece x) m l)) (sym same.1)
              (subst (λ (k : ℕ). P (hull_axes (curve_of_piece x) k has.last)) (sym same.0)
              (subst (λ (y : PlainPiece). P (hull_axes (curve_of_piece y) has.first has.last)) one hull)),
          tt,
        )

-- where there is no state there is no hull
pub no_hulls : (e : PlainTrack) (from to : ℕ) → HasNone e from to → hulls_of e from to ≡ []
unfolding hulls_of
no_hulls e from to none_here = go 0 (pieces_of e)
  where
    empty : (index : ℕ) (x : PlainPiece) (ms : List ℕ) → Filtered (λ k. is_number index (piece_at e k)) from (to + 1 - from) ms → hull_over x ms ≡ []
    empty index x [] f = refl
    empty index x (m ∷ ms) ends =
        let no = none_here m ends.low (omega (arith, ends.order, ends.high)) in
        let yes = number_is index (piece_at e m) ends.first_is in
        absurd cc

    go : (n : ℕ) (xs : List PlainPiece) → flat_map (λ p. hull_over p.1 (ticks_used e from to p.0)) (enumerate_from n xs) ≡ []
    go n [] = refl
    go n (x ∷ xs) =
        ap (λ (hs : List PlainHull). hs ++ flat_map (λ p. hull_over p.1 (ticks_used e from to p.0)) (enumerate_from (n + 1) xs)) (empty n x (ticks_used e from to n) (filtered (λ k. is_number n (piece_at e k)) from (to + 1 - from)))
        ∙ go (n + 1) xs

-- ---- the hull at a tick

-- the hull of an interpolant over ticks round this one
pub record IsHullRound (c : Curve) (m : ℕ) (h : PlainHull) : Type 0 where
  pub first : ℕ
  pub last : ℕ
  pub over : IsOver c first last
  pub hull : h ≡ hull_axes c first last
  pub after : first ≤ m
  pub before : m ≤ last

-- the state of a number
pub of_number : (e : PlainTrack) (m index : ℕ) (x : PlainPiece) → slice_get (pieces_of e) index ≡ Some x → piece_at e m ≡ Some index → IsState e m index x
of_number e m index x is here = elim (state e m) [
  | lacks unnumbered none ↦ absurd cc
  | has number y found ↦
      let numbered = found.numbered in
      let one : number ≡ index = cc in
      let place : slice_get (pieces_of e) index ≡ Some y = subst (λ (k : ℕ). slice_get (pieces_of e) k ≡ Some y) one found.place in
      let same : y ≡ x = cc in
      subst (λ (z : PlainPiece). IsState e m index z) same (subst (λ (k : ℕ). IsState e m k y) one found)
]

-- where the nodes of a piece rise, its hull is in the list at each tick at which it is used
pub hull_at : (e : PlainTrack) (from to m index : ℕ) (x : PlainPiece) → IsState e m index x → x.from.at < x.to.at → from ≤ m → m ≤ to → Exists (IsHullRound (curve_of_piece x) m) (hulls_of e from to)
unfolding hulls_of
hull_at e from to m index x is rises low high =
    Exists-flat_map (IsHullRound (curve_of_piece x) m) (λ p. hull_over p.1 (ticks_used e from to p.0)) (enumerate_from 0 (pieces_of e))
    (Exists-enumerated (λ p. Exists (IsHullRound (curve_of_piece x) m) (hull_over p.1 (ticks_used e from to p.0))) 0 index (pieces_of e) x is.place
    (let here : index ≡ 0 + index = omega arith in
    subst (λ (i : ℕ). Exists (IsHullRound (curve_of_piece x) m) (hull_over x (ticks_used e from to i))) here
    (go (ticks_used e from to index) (filtered (λ k. is_number index (piece_at e k)) from (to + 1 - from)))))
  where
    go : (ms : List ℕ) → Filtered (λ k. is_number index (piece_at e k)) from (to + 1 - from) ms → Exists (IsHullRound (curve_of_piece x) m) (hull_over x ms)
    go [] f =
        let no = f m low (in_range from to m low high) in
        let yes = is_the_number index (piece_at e m) is.numbered in
        absurd cc
    go (k ∷ ks) ends =
        let within = ends.within m low (in_range from to m low high) (is_the_number index (piece_at e m) is.numbered) in
        let a = (of_number e k index x is.place (number_is index (piece_at e k) ends.first_is)).covers in
        let b = (of_number e (last_tick k ks) index x is.place (number_is index (piece_at e (last_tick k ks)) ends.last_is)).covers in
        inl (record {
          first = k;
          last = last_tick k ks;
          over = record { some = omega arith; from = a.from; to = omega (arith, b.to) };
          hull = refl;
          after = within.0;
          before = within.1;
        })

-- a track with no hull has no state
pub no_state : (e : PlainTrack) (from to : ℕ) → hulls_of e from to ≡ [] → HasNone e from to
unfolding hulls_of
no_state e from to empty m low high = elim (state e m) [
  | lacks unnumbered none ↦ unnumbered
  | has index x is ↦
      absurd (subst (Exists (λ h. Unit {0})) empty
      (Exists-flat_map (λ h. Unit {0}) (λ p. hull_over p.1 (ticks_used e from to p.0)) (enumerate_from 0 (pieces_of e))
      (Exists-enumerated (λ p. Exists (λ h. Unit {0}) (hull_over p.1 (ticks_used e from to p.0))) 0 index (pieces_of e) x is.place
      (let here : index ≡ 0 + index = omega arith in
      subst (λ (i : ℕ). Exists (λ h. Unit {0}) (hull_over x (ticks_used e from to i))) here
      (go index x (ticks_used e from to index) (filtered (λ k. is_number index (piece_at e k)) from (to + 1 - from)) is.numbered)))))
]
  where
    go : (index : ℕ) (x : PlainPiece) (ms : List ℕ) → Filtered (λ k. is_number index (piece_at e k)) from (to + 1 - from) ms → piece_at e m ≡ Some index → Exists (λ h. Unit {0}) (hull_over x ms)
    go index x [] f here =
        let no = f m low (in_range from to m low high) in
        let yes = is_the_number index (piece_at e m) here in
        absurd cc
    go index x (k ∷ ks) ends here = inl tt

-- ---- where the pieces are in time

-- a fact of the hull round each tick, from one of each hull
pub at_each_tick : (e : PlainTrack) (from to m : ℕ) (P : PlainHull → Type 0) (Q : Curve → Type 0) → AreInTime e from to → Each P (hulls_of e from to)
    → ((h : PlainHull) (c : Curve) → P h → IsHullRound c m h → Q c) → from ≤ m → m ≤ to → IfSome (piece_holding e m) (λ x. Q (curve_of_piece x))
at_each_tick e from to m P Q time each law low high = elim (state e m) [
  | lacks unnumbered none ↦ subst (λ (o : Option PlainPiece). IfSome o (λ x. Q (curve_of_piece x))) (sym none) tt
  | has index x is ↦
      let at = is.at in
      let rises : x.from.at < x.to.at = subst (λ (o : Option PlainPiece). IfSome o (λ y. y.from.at < y.to.at)) at (time m low high).rises in
      subst (λ (o : Option PlainPiece). IfSome o (λ x. Q (curve_of_piece x))) (sym at)
      (go (hulls_of e from to) (curve_of_piece x) each (hull_at e from to m index x is rises low high))
]
  where
    go : (hs : List PlainHull) (c : Curve) → Each P hs → Exists (IsHullRound c m) hs → Q c
    go [] c each exists = absurd exists
    go (h ∷ hs) c each (inl round) = law h c each.0 round
    go (h ∷ hs) c each (inr rest) = go hs c each.1 rest

-- a piece that is used has one run of ticks
pub have_parts : (e : PlainTrack) (from to : ℕ) → AreInTime e from to → HaveParts e from to from to
have_parts e from to time m index low high here = elim (state e m) [
  | lacks unnumbered none ↦ absurd cc
  | has number x is ↦
      let numbered = is.numbered in
      let one : number ≡ index = cc in
      go x (subst (λ (k : ℕ). slice_get (pieces_of e) k ≡ Some x) one is.place) (ticks_used e from to index) (filtered (λ k. is_number index (piece_at e k)) from (to + 1 - from))
]
  where
    -- between two ticks at which it is used
    between : (x : PlainPiece) (f k l : ℕ) → slice_get (pieces_of e) index ≡ Some x → from ≤ f → f ≤ k → k ≤ l → l ≤ to → piece_at e f ≡ Some index → piece_at e l ≡ Some index → piece_at e k ≡ Some index
    between x f k l place low after before high first last = elim (state e k) [
      | lacks unnumbered none ↦
          let a = (of_number e f index x place first).covers in
          let b = (of_number e l index x place last).covers in
          absurd (covered_has e k index x place (record { from = omega (arith, a.from); to = omega (arith, b.to); first = omega (arith, a.first); last = omega (arith, b.last) }) unnumbered)
      | has number y is ↦
          let a = (time f low (omega arith)).later k index number after first is.numbered in
          let b = (time k (omega arith) (omega arith)).later l number index before is.numbered last in
          let same : number ≡ index = omega arith in
          subst (λ (n : ℕ). piece_at e k ≡ Some n) same is.numbered
    ]

    go : (x : PlainPiece) → slice_get (pieces_of e) index ≡ Some x → (ms : List ℕ) → Filtered (λ k. is_number index (piece_at e k)) from (to + 1 - from) ms → HasPart e from to index
    go x place [] f =
        let no = f m low (in_range from to m low high) in
        let yes = is_the_number index (piece_at e m) here in
        absurd cc
    go x place (f ∷ ms) ends =
        let first = number_is index (piece_at e f) ends.first_is in
        let last = number_is index (piece_at e (last_tick f ms)) ends.last_is in
        record {
          piece = x;
          first = f;
          last = last_tick f ms;
          part = record {
            piece = place;
            some = ends.order;
            ticks = λ k. (
              λ h. record {
                after = omega (arith, ends.low, h.0);
                before = omega (arith, ends.high, h.1);
                here = between x f k (last_tick f ms) place ends.low h.0 h.1 (omega (arith, ends.high)) first last;
              },
              λ u. ends.within k u.after (in_range from to k u.after u.before) (is_the_number index (piece_at e k) u.here),
            );
          };
        }
