-- The ends of a run: the ends of its flat cells, which tile it.
use Rattle.std.proofs.Common.{◌≡◌, ℕ, ◌+◌, ◌-◌, ◌<◌, ◌≤◌, Bool, true, false, cond, List, [], ◌∷◌, ◌++◌, Some, None, refl, ap, ◌∙◌, inl, inr, arith}
use Rattle.std.specs.Prelude.{is_some}
use Rattle.std.proofs.lemmas.Bool.{cases_order}
use Rattle.std.specs.List.{flat_map}
use Rattle.std.proofs.lemmas.List.Concat.{flat_map-append}
use Rattle.cj_interval.proofs.ListLemmas.{Each, Exists, Each-weaker, Each-exists, Each-flat_map, Exists-weaker, Exists-flat_map}
use Rattle.cj_hermite.specs.Interpolant.{Curve, IsOver}
use Rattle.cj_hermite.proofs.TrackLemmas.{over_part}
use Rattle.cj_case.specs.declared.kind.Kind.{Kind}
use Rattle.cj_bezier.specs.Gaps.{gap_terms, hull_gap}
use Rattle.cj_bezier.specs.Halving.{middle, leaves_between}
use Rattle.cj_case.specs.Leaves.{PlainLeaf}
use Rattle.cj_bezier.specs.Tiles.{IsLeaf, Tile}
use Rattle.cj_bezier.proofs.HalvingLemmas.{HasKind, HasTick, IsSettled, tiles, leaves-closed, leaves-halved, Each-tile, Exists-tile}
use Rattle.cj_meet.specs.Closest.{PlainApproach, approach_at, ends_of, ends_between}
use Rattle.cj_meet.specs.Flat.{is_flat, flat_kind, flats_between}
use Rattle.cj_meet.proofs.TickLemmas.{one_tick_flat}

flat_is : (c d : Curve) (kind : Kind) (first last : ℕ) → is_flat (gap_terms (hull_gap c d first last)) ≡ true → flat_kind c d kind first last ≡ Some kind
unfolding flat_kind
flat_is c d kind first last is = rw is refl

open_is : (c d : Curve) (kind : Kind) (first last : ℕ) → is_flat (gap_terms (hull_gap c d first last)) ≡ false → flat_kind c d kind first last ≡ None
unfolding flat_kind
open_is c d kind first last is = rw is refl

flat_from : (c d : Curve) (kind was : Kind) (first last : ℕ) → flat_kind c d kind first last ≡ Some was → is_flat (gap_terms (hull_gap c d first last)) ≡ true
unfolding flat_kind
flat_from c d kind was first last is = go (is_flat (gap_terms (hull_gap c d first last))) refl is
  where
    go : (b : Bool) → is_flat (gap_terms (hull_gap c d first last)) ≡ b → cond b (Some kind) None ≡ Some was → is_flat (gap_terms (hull_gap c d first last)) ≡ true
    go true e is = e
    go false e is = absurd cc

-- each tick is flat, so that halving ends
pub settled_ticks : (c d : Curve) (kind : Kind) (first last : ℕ) → IsOver c first last → IsOver d first last → IsSettled (flat_kind c d kind) first last
settled_ticks c d kind first last oc od m low high =
    ap is_some (flat_is c d kind m m (one_tick_flat c d m (over_part c first last m m oc low high) (over_part d first last m m od low high)))

-- a run that is not flat has two ticks or more
pub open_run-two : (c d : Curve) (first last : ℕ) → first ≤ last → IsOver c first last → IsOver d first last → is_flat (gap_terms (hull_gap c d first last)) ≡ false → first < last
open_run-two c d first last le oc od is =
    elim (cases_order first last) [
      | inl same ↦
          let one = one_tick_flat c d first (over_part c first last first first oc (omega arith) le) (over_part d first last first first od (omega arith) le) in
          let here : is_flat (gap_terms (hull_gap c d first first)) ≡ false = ap (λ (m : ℕ). is_flat (gap_terms (hull_gap c d first m))) same ∙ is in
          absurd cc
      | inr other ↦ elim other [
        | inl lt ↦ lt
        | inr gt ↦ absurd (omega arith)
      ]
    ]

module _ (c d : Curve) (s : PlainLeaf) (first last : ℕ) where
  -- the ends of a flat run are its ends
  pub ends-flat : is_flat (gap_terms (hull_gap c d first last)) ≡ true → ends_between c d s first last ≡ approach_at c d first ∷ approach_at c d last ∷ []
  unfolding flats_between
  ends-flat is = ap (flat_map (ends_of c d)) (leaves-closed (flat_kind c d s.kind) s.a s.b first last s.kind (flat_is c d s.kind first last is))

  -- those of another run are those of its halves
  pub ends-halved : first ≤ last → IsOver c first last → IsOver d first last → is_flat (gap_terms (hull_gap c d first last)) ≡ false →
      ends_between c d s first last ≡ ends_between c d s first (middle first last) ++ ends_between c d s (middle first last + 1) last
  unfolding flats_between
  ends-halved le oc od is =
      ap (flat_map (ends_of c d))
      (leaves-halved (flat_kind c d s.kind) s.a s.b first last le (settled_ticks c d s.kind first last oc od) (open_is c d s.kind first last is))
      ∙ flat_map-append (ends_of c d) (flats_between c d s first (middle first last)) (flats_between c d s (middle first last + 1) last)

  module _ (le : first ≤ last) (oc : IsOver c first last) (od : IsOver d first last) where
    flats_tile : Tile (HasKind (flat_kind c d s.kind)) s.a s.b first last (flats_between c d s first last)
    unfolding flats_between leaves_between
    flats_tile = tiles (flat_kind c d s.kind) s.a s.b (last - first) first last le (omega arith) (settled_ticks c d s.kind first last oc od)

    each_flat : Each (IsLeaf (HasKind (flat_kind c d s.kind)) s.a s.b first last) (flats_between c d s first last)
    each_flat = Each-tile (HasKind (flat_kind c d s.kind)) s.a s.b first first last (flats_between c d s first last) (omega arith) flats_tile

    flat_with : (m : ℕ) → first ≤ m → m ≤ last → Exists (λ f. IsLeaf (HasKind (flat_kind c d s.kind)) s.a s.b first last f × HasTick m f) (flats_between c d s first last)
    flat_with m low high =
        Each-exists (IsLeaf (HasKind (flat_kind c d s.kind)) s.a s.b first last) (HasTick m) (flats_between c d s first last) each_flat
        (Exists-tile (HasKind (flat_kind c d s.kind)) s.a s.b first last m (flats_between c d s first last) flats_tile low high)

    -- each end lies in the run
    pub each_end : (P : PlainApproach → Type 0) → ((m : ℕ) → first ≤ m → m ≤ last → P (approach_at c d m)) → Each P (ends_between c d s first last)
    each_end P at =
        Each-flat_map P (ends_of c d) (flats_between c d s first last)
        (Each-weaker (IsLeaf (HasKind (flat_kind c d s.kind)) s.a s.b first last) (λ f. Each P (ends_of c d f))
        (λ f leaf. (
          at f.first leaf.from (omega (arith, leaf.some, leaf.to)),
          (at f.last (omega (arith, leaf.from, leaf.some)) leaf.to, tt),
        )) (flats_between c d s first last) each_flat)

    -- the ends of the run are ends
    pub first_end : Exists (λ p. p ≡ approach_at c d first) (ends_between c d s first last)
    first_end =
        Exists-flat_map (λ p. p ≡ approach_at c d first) (ends_of c d) (flats_between c d s first last)
        (Exists-weaker (λ f. IsLeaf (HasKind (flat_kind c d s.kind)) s.a s.b first last f × HasTick first f) (λ f. Exists (λ p. p ≡ approach_at c d first) (ends_of c d f))
        (λ f h. let leaf = h.0 in let has = h.1 in let same : f.first ≡ first = omega (arith, leaf.from, has.from) in inl (ap (approach_at c d) same))
        (flats_between c d s first last) (flat_with first (omega arith) le))

    pub last_end : Exists (λ p. p ≡ approach_at c d last) (ends_between c d s first last)
    last_end =
        Exists-flat_map (λ p. p ≡ approach_at c d last) (ends_of c d) (flats_between c d s first last)
        (Exists-weaker (λ f. IsLeaf (HasKind (flat_kind c d s.kind)) s.a s.b first last f × HasTick last f) (λ f. Exists (λ p. p ≡ approach_at c d last) (ends_of c d f))
        (λ f h. let leaf = h.0 in let has = h.1 in let same : f.last ≡ last = omega (arith, leaf.to, has.to) in inr (inl (ap (approach_at c d) same)))
        (flats_between c d s first last) (flat_with last le (omega arith)))

-- a flat cell that has a tick, and of whose first tick P holds
pub record HasFlat (c d : Curve) (first last m : ℕ) (P : PlainApproach → Type 0) : Type 0 where
  pub from : ℕ
  pub to : ℕ
  pub inside : (first ≤ from) × (to ≤ last)
  pub has : (from ≤ m) × (m ≤ to)
  pub flat : is_flat (gap_terms (hull_gap c d from to)) ≡ true
  pub holds : P (approach_at c d from)

-- where P holds of each end of a run, each tick of it lies in a flat cell of whose first tick P holds
pub flat_at : (c d : Curve) (s : PlainLeaf) (first last m : ℕ) (P : PlainApproach → Type 0) → first ≤ last → IsOver c first last → IsOver d first last →
    Each P (ends_between c d s first last) → first ≤ m → m ≤ last → HasFlat c d first last m P
flat_at c d s first last m P le oc od each low high = go (flats_between c d s first last) each (flat_with c d s first last le oc od m low high)
  where
    go : (fs : List PlainLeaf) → Each P (flat_map (ends_of c d) fs) → Exists (λ f. IsLeaf (HasKind (flat_kind c d s.kind)) s.a s.b first last f × HasTick m f) fs → HasFlat c d first last m P
    go [] each some = absurd some
    go (f ∷ fs) each (inl h) =
        let leaf = h.0 in
        let has = h.1 in
        record {
          from = f.first;
          to = f.last;
          inside = (leaf.from, leaf.to);
          has = (has.from, has.to);
          flat = flat_from c d s.kind f.kind f.first f.last leaf.judged;
          holds = each.0;
        }
    go (f ∷ fs) each (inr h) = go fs each.1.1 h
