-- The box of a track, one part after another.
use Rattle.std.proofs.Common.{◌≡◌, ℕ, ◌+◌, ◌≤◌, List, ◌∷◌, Some, arith, sym, ap, ◌∙◌, subst}
use Rattle.cj_track.specs.PlainTracks.{PlainTrack}
use Rattle.cj_hermite.specs.declared.box3.Box3.{Box3}
use Rattle.cj_hermite.specs.Boxes.{IsBoxWithin}
use Rattle.cj_hermite.specs.Walks.{HasNone}
use Rattle.cj_bezier.specs.Hulls.{PlainHull}
use Rattle.cj_bezier.specs.JoinedBoxes.{reaches_of_spans, reaches_of_hull, reaches_with}
use Rattle.cj_bezier.specs.Parts.{hulls_of, AreInTime}
use Rattle.cj_bezier.specs.Sizes.{HULL_REACH}
use Rattle.cj_case.specs.Boxes.{PlainBox}
use Rattle.cj_bezier.specs.SlotBoxes.{box_of, round_two}
use Rattle.cj_bezier.proofs.HullListLemmas.{no_hulls}
use Rattle.cj_bezier.proofs.JoinedBoxLemmas.{first_hull, next_hull}
use Rattle.cj_bezier.proofs.NextPartLemmas.{none_in_time, join_time}

-- the box of the parts up to tick `at`, of which the rest makes the whole
pub record IsBoxUpTo (e : PlainTrack) (from at to : ℕ) (b : Box3) : Type 0 where
  pub within : at ≤ to
  pub area : box_of e from to ≡ Some (reaches_with (reaches_of_spans b) (hulls_of e (at + 1) to))
  pub size : IsBoxWithin HULL_REACH b
  pub time : AreInTime e from at

pub first_part : (e : PlainTrack) (from at to : ℕ) (h : PlainHull) (b : Box3) → at ≤ to → hulls_of e from to ≡ h ∷ hulls_of e (at + 1) to → AreInTime e from at → reaches_of_spans b ≡ reaches_of_hull h → IsBoxWithin HULL_REACH b
    → IsBoxUpTo e from at to b
first_part e from at to h b within front time same size = record {
  within = within;
  area = first_hull (hulls_of e from to) (hulls_of e (at + 1) to) h front ∙ ap (λ (r : PlainBox). Some (reaches_with r (hulls_of e (at + 1) to))) (sym same);
  size = size;
  time = time;
}

pub one_part_more : (e : PlainTrack) (from before at to : ℕ) (h : PlainHull) (old own b : Box3) → IsBoxUpTo e from before to old → at ≤ to → hulls_of e (before + 1) to ≡ h ∷ hulls_of e (at + 1) to → AreInTime e (before + 1) at
    → reaches_of_spans own ≡ reaches_of_hull h → IsBoxWithin HULL_REACH own → reaches_of_spans b ≡ round_two (reaches_of_spans old) (reaches_of_spans own)
    → (IsBoxWithin HULL_REACH old → IsBoxWithin HULL_REACH own → IsBoxWithin HULL_REACH b) → IsBoxUpTo e from at to b
one_part_more e from before at to h old own b so_far within front time same small both size =
    let grown : reaches_of_spans b ≡ round_two (reaches_of_spans old) (reaches_of_hull h) = both ∙ ap (round_two (reaches_of_spans old)) same in
    record {
      within = within;
      area = so_far.area ∙ ap (λ (r : PlainBox). Some r) (next_hull (reaches_of_spans old) (hulls_of e (before + 1) to) (hulls_of e (at + 1) to) h front
          ∙ ap (λ (r : PlainBox). reaches_with r (hulls_of e (at + 1) to)) (sym grown));
      size = size so_far.size small;
      time = join_time e from before at so_far.time time;
    }

-- where no part is left
pub record IsBoxOfAll (e : PlainTrack) (from to : ℕ) (b : Box3) : Type 0 where
  pub area : Some (reaches_of_spans b) ≡ box_of e from to
  pub time : AreInTime e from to

pub no_part_more : (e : PlainTrack) (from at to : ℕ) (b : Box3) → IsBoxUpTo e from at to b → HasNone e (at + 1) to → IsBoxOfAll e from to b
no_part_more e from at to b so_far none = record {
  area = sym (so_far.area ∙ ap (λ (hs : List PlainHull). Some (reaches_with (reaches_of_spans b) hs)) (no_hulls e (at + 1) to none));
  time = join_time e from at to so_far.time (none_in_time e (at + 1) to none);
}

pub last_tick : (e : PlainTrack) (from at to : ℕ) (b : Box3) → IsBoxUpTo e from at to b → to ≤ at → IsBoxOfAll e from to b
last_tick e from at to b so_far all = no_part_more e from at to b so_far (λ m low high. absurd (omega arith))

-- the same of other names for the ends
pub at_ends : (P : ℕ → ℕ → Type 0) (a b a' b' : ℕ) → a ≡ a' → b ≡ b' → P a b → P a' b'
at_ends P a b a' b' first last holds = subst (λ (n : ℕ). P n b') first (subst (λ (n : ℕ). P a n) last holds)
