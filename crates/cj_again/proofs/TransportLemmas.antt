-- What is so of a pair of one case is so of the same pair of another case, under its numbers there: its runs, its hulls, its distances.
use Rattle.std.proofs.Common.{◌≡◌, ℕ, zero, suc, ◌+◌, ◌-◌, Bool, true, false, cond, List, [], ◌∷◌, ◌++◌, map, Option, Some, None, refl, sym, ap, ◌∙◌}
use Rattle.std.specs.Prelude.{◌&&◌, ◌||◌, ◌==◌, option_map, option_and_then, slice_get, slice_index}
use Rattle.std.specs.Bool.{beq}
use Rattle.std.specs.Cmp.{booleans_Decides, first_so, second_so, unsigned_Decides}
use Rattle.std.specs.List.{flat_map}
use Rattle.std.proofs.lemmas.List.{map-append}
use Rattle.std.proofs.lemmas.Option.{slice_get-map}
use Rattle.cj_track.specs.PlainTracks.{PlainTrack}
use Rattle.cj_case.specs.declared.kind.Kind.{Kind}
use Rattle.cj_case.specs.declared.shells.Shell.{Shell}
use Rattle.cj_case.specs.Boxes.{PlainBox}
use Rattle.cj_case.specs.Leaves.{PlainLeaf}
use Rattle.cj_case.specs.PlainProblems.{PlainProblem, threshold_of}
use Rattle.cj_case.specs.Primaries.{concerns, has_primary, is_primary}
use Rattle.cj_case.specs.Slots.{slot_first, slot_last}
use Rattle.cj_case.specs.Unchanged.{are_same, is_object}
use Rattle.cj_hermite.specs.Interpolant.{Curve}
use Rattle.cj_hermite.specs.CommonRuns.{Run, runs_between, both}
use Rattle.cj_hermite.specs.ObjectsAtTicks.{curve_at, number_at}
use Rattle.cj_hermite.specs.Pieces.{curve_of_piece, piece_at, piece_holding}
use Rattle.cj_hermite.specs.Roots.{numbers_at, root_of_run, roots_between, roots_in, slots_of}
use Rattle.cj_bezier.specs.Candidates.{boxes_in, is_candidate, shells_of}
use Rattle.cj_bezier.specs.Halving.{closed_or, leaves_between, leaves_within, middle}
use Rattle.cj_bezier.specs.RootLeaves.{kind_between, leaves_of_curves, leaves_of_root, leaves_of_roots}
use Rattle.cj_bezier.specs.Shells.{are_kept, shell_in, shell_of}
use Rattle.cj_bezier.specs.SlotBoxes.{both_touch, box_of, reaches_in}
use Rattle.cj_again.specs.PairLeaves.{leaves_of_pair, renamed, roots_of_pair}
use Rattle.cj_again.proofs.SameLemmas.{exact_track}
use Rattle.cj_interval.proofs.ListLemmas.{flat_map-flat_map}

-- the objects a and b of the new case are p and q of the old one, which has the same window and threshold
pub record IsSame (old new : PlainProblem) (p q a b : ℕ) : Type 0 where
  pub first_track : slice_get new.tracks a ≡ slice_get old.tracks p
  pub second_track : slice_get new.tracks b ≡ slice_get old.tracks q
  pub first_size : slice_index new.sizes a ≡ slice_index old.sizes p
  pub second_size : slice_index new.sizes b ≡ slice_index old.sizes q
  pub first_primary : is_primary new a ≡ is_primary old p
  pub second_primary : is_primary new b ≡ is_primary old q
  pub from : new.first ≡ old.first
  pub to : new.last ≡ old.last
  pub threshold : new.threshold ≡ old.threshold

tracks_are : (x y : Option PlainTrack) → are_same x y ≡ true → y ≡ x
tracks_are None y is = absurd cc
tracks_are (Some e) None is = absurd cc
tracks_are (Some e) (Some f) is = ap (λ (t : PlainTrack). Some t) (sym (exact_track e f is))

-- what it says that an object of one case is one of another
pub object_is : (old new : PlainProblem) (p i : ℕ) → is_object old new p i ≡ true
    → (slice_get new.tracks i ≡ slice_get old.tracks p) × (slice_index new.sizes i ≡ slice_index old.sizes p) × (is_primary new i ≡ is_primary old p)
unfolding is_object
object_is old new p i is =
    let tracks = are_same (slice_get old.tracks p) (slice_get new.tracks i) in
    let sizes = slice_index old.sizes p == slice_index new.sizes i in
    let primaries = beq (is_primary old p) (is_primary new i) in
    let both = first_so (tracks && sizes) primaries is in (
      tracks_are (slice_get old.tracks p) (slice_get new.tracks i) (first_so tracks sizes both),
      sym ((unsigned_Decides (slice_index old.sizes p) (slice_index new.sizes i)).0 (second_so tracks sizes both)),
      sym ((booleans_Decides (is_primary old p) (is_primary new i)).0 (second_so (tracks && sizes) primaries is)),
    )

-- ---- leaves under other numbers

pub within_renamed : (judge : ℕ → ℕ → Option Kind) (a b p q n first last : ℕ) → leaves_within judge a b n first last ≡ map (renamed (a, b)) (leaves_within judge p q n first last)
unfolding leaves_within
within_renamed judge a b p q zero first last = refl
within_renamed judge a b p q (suc n) first last =
    go (judge first last) (leaves_within judge a b n first (middle first last)) (leaves_within judge a b n (middle first last + 1) last)
    (leaves_within judge p q n first (middle first last)) (leaves_within judge p q n (middle first last + 1) last)
    (within_renamed judge a b p q n first (middle first last)) (within_renamed judge a b p q n (middle first last + 1) last)
  where
    go : (o : Option Kind) (xs ys us vs : List PlainLeaf) → xs ≡ map (renamed (a, b)) us → ys ≡ map (renamed (a, b)) vs
        → closed_or a b first last o (xs ++ ys) ≡ map (renamed (a, b)) (closed_or p q first last o (us ++ vs))
    go (Some kind) xs ys us vs left right = refl
    go None xs ys us vs left right = (λ i. left i ++ right i) ∙ sym (map-append (renamed (a, b)) us vs)

curves_renamed : (a b p q thr : ℕ) (run : Run) (c d : Option Curve) →
    leaves_of_curves (root_of_run a b run) thr c d ≡ map (renamed (a, b)) (leaves_of_curves (root_of_run p q run) thr c d)
unfolding leaves_between
curves_renamed a b p q thr run None d = refl
curves_renamed a b p q thr run (Some c) None = refl
curves_renamed a b p q thr run (Some c) (Some d) = within_renamed (kind_between c d thr) a b p q (run.last - run.first) run.first run.last

-- the leaf of a list under other numbers, list by list
flat_renamed : {X : Type 0} (a b : ℕ) (f g : X → List PlainLeaf) → ((x : X) → f x ≡ map (renamed (a, b)) (g x)) → (xs : List X) → flat_map f xs ≡ map (renamed (a, b)) (flat_map g xs)
flat_renamed a b f g same [] = refl
flat_renamed a b f g same (x ∷ xs) =
    let here = same x in
    let rest = flat_renamed a b f g same xs in
    (λ i. here i ++ rest i) ∙ sym (map-append (renamed (a, b)) (g x) (flat_map g xs))

flat_mapped : {X Y : Type 0} (a b : ℕ) (f : Y → List PlainLeaf) (g : X → List PlainLeaf) (v : Run → Y) (w : Run → X) → ((run : Run) → f (v run) ≡ map (renamed (a, b)) (g (w run)))
    → (runs : List Run) → flat_map f (map v runs) ≡ map (renamed (a, b)) (flat_map g (map w runs))
flat_mapped a b f g v w same [] = refl
flat_mapped a b f g v w same (r ∷ runs) =
    let here = same r in
    let rest = flat_mapped a b f g v w same runs in
    (λ i. here i ++ rest i) ∙ sym (map-append (renamed (a, b)) (g (w r)) (flat_map g (map w runs)))

-- ---- the same pair in two cases

module _ (old new : PlainProblem) (p q a b : ℕ) (same : IsSame old new p q a b) where
  numbers_same : numbers_at new a b ≡ numbers_at old p q
  unfolding number_at
  numbers_same = λ i m. both (option_and_then (λ e. piece_at e m) (same.first_track i)) (option_and_then (λ e. piece_at e m) (same.second_track i))

  threshold_same : threshold_of new a b ≡ threshold_of old p q
  threshold_same = λ i. same.threshold i + same.first_size i + same.second_size i

  first_curve : (m : ℕ) → curve_at new a m ≡ curve_at old p m
  unfolding curve_at
  first_curve m = ap (λ (o : Option PlainTrack). option_map curve_of_piece (option_and_then (λ e. piece_holding e m) o)) same.first_track

  second_curve : (m : ℕ) → curve_at new b m ≡ curve_at old q m
  unfolding curve_at
  second_curve m = ap (λ (o : Option PlainTrack). option_map curve_of_piece (option_and_then (λ e. piece_holding e m) o)) same.second_track

  -- the runs of ticks in a slot
  runs_same : (slot : ℕ) → runs_between (numbers_at new a b) (slot_first new.first slot) (slot_last new.first new.last slot)
      ≡ runs_between (numbers_at old p q) (slot_first old.first slot) (slot_last old.first old.last slot)
  runs_same slot = λ i. runs_between (numbers_same i) (slot_first (same.from i) slot) (slot_last (same.from i) (same.to i) slot)

  slots_same : slots_of new ≡ slots_of old
  slots_same = λ i. slots_of (record { tracks = []; first = same.from i; last = same.to i; threshold = 0; sizes = []; primaries = None })

  -- ---- as candidates

  first_shell : shell_in (shells_of new) a ≡ shell_in (shells_of old) p
  unfolding shells_of
  first_shell =
      ap (option_and_then (λ (s : Option Shell). s)) (slice_get-map (λ e. shell_of e new.first new.last) new.tracks a)
      ∙ (λ i. option_and_then (λ (s : Option Shell). s) (option_map (λ e. shell_of e (same.from i) (same.to i)) (same.first_track i)))
      ∙ ap (option_and_then (λ (s : Option Shell). s)) (sym (slice_get-map (λ e. shell_of e old.first old.last) old.tracks p))

  second_shell : shell_in (shells_of new) b ≡ shell_in (shells_of old) q
  unfolding shells_of
  second_shell =
      ap (option_and_then (λ (s : Option Shell). s)) (slice_get-map (λ e. shell_of e new.first new.last) new.tracks b)
      ∙ (λ i. option_and_then (λ (s : Option Shell). s) (option_map (λ e. shell_of e (same.from i) (same.to i)) (same.second_track i)))
      ∙ ap (option_and_then (λ (s : Option Shell). s)) (sym (slice_get-map (λ e. shell_of e old.first old.last) old.tracks q))

  first_box : (slot : ℕ) → reaches_in (boxes_in new slot) a ≡ reaches_in (boxes_in old slot) p
  unfolding boxes_in
  first_box slot =
      ap (option_and_then (λ (s : Option PlainBox). s)) (slice_get-map (λ e. box_of e (slot_first new.first slot) (slot_last new.first new.last slot)) new.tracks a)
      ∙ (λ i. option_and_then (λ (s : Option PlainBox). s) (option_map (λ e. box_of e (slot_first (same.from i) slot) (slot_last (same.from i) (same.to i) slot)) (same.first_track i)))
      ∙ ap (option_and_then (λ (s : Option PlainBox). s)) (sym (slice_get-map (λ e. box_of e (slot_first old.first slot) (slot_last old.first old.last slot)) old.tracks p))

  second_box : (slot : ℕ) → reaches_in (boxes_in new slot) b ≡ reaches_in (boxes_in old slot) q
  unfolding boxes_in
  second_box slot =
      ap (option_and_then (λ (s : Option PlainBox). s)) (slice_get-map (λ e. box_of e (slot_first new.first slot) (slot_last new.first new.last slot)) new.tracks b)
      ∙ (λ i. option_and_then (λ (s : Option PlainBox). s) (option_map (λ e. box_of e (slot_first (same.from i) slot) (slot_last (same.from i) (same.to i) slot)) (same.second_track i)))
      ∙ ap (option_and_then (λ (s : Option PlainBox). s)) (sym (slice_get-map (λ e. box_of e (slot_first old.first slot) (slot_last old.first old.last slot)) old.tracks q))

  looked_at_same : concerns new (a, b) ≡ concerns old (p, q)
  unfolding has_primary
  looked_at_same = λ i. same.first_primary i || same.second_primary i

  candidate_same : (slot : ℕ) → is_candidate new a b slot ≡ is_candidate old p q slot
  unfolding is_candidate
  candidate_same slot =
      let box_a = first_box slot in
      let box_b = second_box slot in
      λ i. (looked_at_same i && are_kept (threshold_same i) (first_shell i) (second_shell i)) && both_touch (threshold_same i) (box_a i) (box_b i)

  -- ---- as roots and leaves

  run_leaves : (run : Run) → leaves_of_root new (root_of_run a b run) ≡ map (renamed (a, b)) (leaves_of_root old (root_of_run p q run))
  unfolding leaves_of_root
  run_leaves run =
      let first = first_curve run.first in
      let second = second_curve run.first in
      (λ i. leaves_of_curves (root_of_run a b run) (threshold_same i) (first i) (second i))
      ∙ curves_renamed a b p q (threshold_of old p q) run (curve_at old p run.first) (curve_at old q run.first)

  slot_leaves : (slot : ℕ) → flat_map (leaves_of_root new) (cond (is_candidate new a b slot) (roots_in new slot a b) [])
      ≡ map (renamed (a, b)) (flat_map (leaves_of_root old) (cond (is_candidate old p q slot) (roots_in old slot p q) []))
  unfolding roots_between
  slot_leaves slot =
      (let is = candidate_same slot in
      let runs = runs_same slot in
      λ i. flat_map (leaves_of_root new) (cond (is i) (map (root_of_run a b) (runs i)) []))
      ∙ go (is_candidate old p q slot) (runs_between (numbers_at old p q) (slot_first old.first slot) (slot_last old.first old.last slot))
    where
      go : (c : Bool) (runs : List Run) → flat_map (leaves_of_root new) (cond c (map (root_of_run a b) runs) [])
          ≡ map (renamed (a, b)) (flat_map (leaves_of_root old) (cond c (map (root_of_run p q) runs) []))
      go true runs = flat_mapped a b (leaves_of_root new) (leaves_of_root old) (root_of_run a b) (root_of_run p q) run_leaves runs
      go false runs = refl

  -- the leaves of the pair are those that it has in the old case, under its new numbers
  pub pair_leaves : leaves_of_pair (is_candidate new) new (a, b) ≡ map (renamed (a, b)) (leaves_of_pair (is_candidate old) old (p, q))
  unfolding leaves_of_pair roots_of_pair leaves_of_roots
  pair_leaves =
      flat_map-flat_map (leaves_of_root new) (λ slot. cond (is_candidate new a b slot) (roots_in new slot a b) []) (slots_of new)
      ∙ ap (flat_map (λ slot. flat_map (leaves_of_root new) (cond (is_candidate new a b slot) (roots_in new slot a b) []))) slots_same
      ∙ flat_renamed a b (λ slot. flat_map (leaves_of_root new) (cond (is_candidate new a b slot) (roots_in new slot a b) []))
      (λ slot. flat_map (leaves_of_root old) (cond (is_candidate old p q slot) (roots_in old slot p q) [])) slot_leaves (slots_of old)
      ∙ ap (map (renamed (a, b))) (sym (flat_map-flat_map (leaves_of_root old) (λ slot. cond (is_candidate old p q slot) (roots_in old slot p q) []) (slots_of old)))
