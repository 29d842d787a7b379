-- A certificate that is rewritten with blocks is accepted where it was before.
use Rattle.std.proofs.Common.{◌≡◌, ℕ, suc, ◌+◌, ◌-◌, ◌<◌, ◌≤◌, ◌&&◌, Bool, true, false, cond, List, [], ◌∷◌, ◌++◌, length, map, filter, Option, Some, None, refl, sym, ap, ◌∙◌, subst, arith}
use Rattle.std.specs.Prelude.{ℤ, ◌≤ℤ◌, All, IsSomeAnd, is_some, option_map, option_and_then, slice_get}
use Rattle.std.specs.List.{enumerate_from, find, flat_map, range_with_len}
use Rattle.std.proofs.lemmas.Int.{ints}
use Rattle.std.proofs.lemmas.List.Elements.{filter_passes}
use Rattle.std.proofs.lemmas.List.Folds.{list_any_none}
use Rattle.std.proofs.lemmas.Option.{slice_get-map, slice_get_within}
use Rattle.cj_interval.proofs.ListLemmas.{Each, Each-weaker, Each-both, Each-map, Each-flat_map, Each-range, All-from_each, each_from_All, each_from_flat_map, each_from_map, Each-filter, flat_map_alike}
use Rattle.cj_interval.proofs.RangeLemmas.{each_in_range}
use Rattle.cj_formats.specs.declared.cert_version.CertVersion.{CertVersion}
use Rattle.cj_formats.specs.declared.cert_version.CertVersion.TheVariants.{One, Two}
use Rattle.cj_track.specs.PlainTracks.{PlainTrack}
use Rattle.cj_hermite.specs.Interpolant.{Four}
use Rattle.cj_case.specs.Pairs.{pairs_of}
use Rattle.cj_hermite.specs.Pieces.{piece_at}
use Rattle.cj_case.specs.PlainProblems.{PlainProblem, threshold_between}
use Rattle.cj_case.specs.Cells.{PlainCell}
use Rattle.cj_hermite.specs.Roots.{roots_in, roots_of, slots_of}
use Rattle.cj_case.specs.Slots.{slot_first, slot_last, slot_count}
use Rattle.cj_hermite.specs.Walks.{HasNone}
use Rattle.cj_case.proofs.PairLemmas.{IsPair, Each-pairs}
use Rattle.cj_case.proofs.TableLemmas.{value_made}
use Rattle.cj_case.specs.declared.shells.Shell.{Shell}
use Rattle.cj_bezier.specs.Hulls.{PlainHull}
use Rattle.cj_bezier.specs.Candidates.{pairs_kept}
use Rattle.cj_bezier.specs.Parts.{hulls_of}
use Rattle.cj_bezier.specs.Shells.{keeps_between}
use Rattle.cj_bezier.specs.SlotBoxes.{IsAtMostEach, IsAtLeastEach, reaches_in, both_touch, touch_between}
use Rattle.cj_case.specs.Boxes.{PlainBox}
use Rattle.cj_blocks.specs.Blocks as blocks
use Rattle.cj_blocks.specs.Blocks.{PlainBlock, Given, box_given, blocks_of, is_block_of, pair_touches}
use Rattle.cj_blocks.proofs.CurrentLemmas.{filtered_each}
use Rattle.cj_blocks.proofs.RoundLemmas.{LiesIn}
use Rattle.cj_blocks.proofs.RunLemmas.{IsRound, each_round, slots_told, slots_are, touch_listed}
use Rattle.cj_cert.specs.Accepted.{IsHullIn, has_state_in, slots_with_states, HoldsHulls, AreBoxes, IsSupported, TileRoots, Accepted}
use Rattle.cj_cert.specs.Certificates.{PlainBoxLine, PlainCertificate}
use Rattle.cj_cert.specs.Listed.{slots_of_line, is_line_of, box_listed, boxes_listed, shells_listed, is_candidate_listed}
use Rattle.cj_blocks.specs.Rewritten.{line_of_block, boxes_by_lines, pairs_by_shells, given_of, with_blocks, rewritten, from_version, in_version_2, written_in_blocks, written_in}
use Rattle.cj_bezier.specs.AllBoxes.{boxes_of}
use Rattle.cj_cert.specs.Written.{box_in, written}
use Rattle.cj_cert.proofs.ListedLemmas.{AreAllInTime, told_by, find_some, in_one_box, range_at}
use Rattle.cj_cert.proofs.WrittenLemmas.{IsAtNumber, numbered, lines_of, box_is, shells_same}
use Rattle.cj_cert.proofs.WrittenLineLemmas.{flat_map_numbered, sizes_numbered}

-- ---- boxes by object and slot

-- the box that is given of an object in a slot is the listed one
given_is : (case : PlainProblem) (c : PlainCertificate) (object slot : ℕ) → object < length case.tracks → slot < slot_count case.first case.last
    → box_given (given_of case (boxes_by_lines case c.boxes) (pairs_by_shells case c)) object slot ≡ box_listed c.boxes slot object
unfolding boxes_by_lines
given_is case c object slot exists lt =
    let own : 0 + object ≡ object = omega arith in
    ap (λ (o : Option (Option PlainBox)). option_and_then (λ b. b) o)
    (value_made (λ (object slot : ℕ). box_listed c.boxes slot object) (range_with_len 0 (length case.tracks)) (slot_count case.first case.last) object slot object
    (range_at 0 (length case.tracks) object exists ∙ ap (λ (k : ℕ). Some k) own) lt)

-- ---- where lines tell of an object

-- an object with this number has a state in a slot
abbrev HasState : PlainProblem → ℕ × ℕ → Type 0
HasState case p = IsSomeAnd (slice_get case.tracks p.0) (λ e. has_state_in case e p.1 ≡ true)

have_states : (case : PlainProblem) → Each (HasState case) (slots_with_states case)
have_states case =
    Each-flat_map (HasState case) (λ object. map (λ slot. (object.0, slot)) (filter (has_state_in case object.1) (slots_of case))) (enumerate_from 0 case.tracks)
    (Each-weaker (IsAtNumber case) (λ object. Each (HasState case) (map (λ slot. (object.0, slot)) (filter (has_state_in case object.1) (slots_of case))))
    (λ object at. Each-map (HasState case) (λ (slot : ℕ). let p : ℕ × ℕ = (object.0, slot) in p) (filter (has_state_in case object.1) (slots_of case))
    (Each-weaker (λ slot. has_state_in case object.1 slot ≡ true) (λ slot. HasState case (object.0, slot))
    (λ slot has. subst (λ (o : Option PlainTrack). IsSomeAnd o (λ e. has_state_in case e slot ≡ true)) (sym at) has)
    (filter (has_state_in case object.1) (slots_of case))
    (each_from_All (λ slot. has_state_in case object.1 slot ≡ true) (filter (has_state_in case object.1) (slots_of case)) (filter_passes (has_state_in case object.1) (slots_of case)))))
    (enumerate_from 0 case.tracks) (numbered case))

-- the object of a line has a state in each of its slots
abbrev HasStates : PlainProblem → PlainBoxLine → Type 0
HasStates case line = (slot : ℕ) → line.first ≤ slot → slot ≤ line.last → HasState case (line.object, slot)

lines_have : (case : PlainProblem) (lines : List PlainBoxLine) → AreBoxes case lines → Each (HasStates case) lines
lines_have case lines are =
    Each-weaker (λ line. Each (HasState case) (slots_of_line line)) (HasStates case)
    (λ line each slot low high. each_in_range (λ k. HasState case (line.object, k)) line.first (line.last + 1 - line.first)
    (each_from_map (HasState case) (λ (k : ℕ). let p : ℕ × ℕ = (line.object, k) in p) (range_with_len line.first (line.last + 1 - line.first)) each) slot low (omega arith)) lines
    (each_from_flat_map (HasState case) slots_of_line lines (subst (λ (ps : List (ℕ × ℕ)). Each (HasState case) ps) (sym are.slots) (have_states case)))

-- none of the slots of an object without a state is told of
has_none : (case : PlainProblem) (e : PlainTrack) (slot : ℕ) → HasNone e (slot_first case.first slot) (slot_last case.first case.last slot) → has_state_in case e slot ≡ false
has_none case e slot none =
    let from = slot_first case.first slot in
    let to = slot_last case.first case.last slot in
    list_any_none (λ m. is_some (piece_at e m)) (range_with_len from (to + 1 - from))
    (All-from_each (λ m. is_some (piece_at e m) ≡ false) (range_with_len from (to + 1 - from))
    (Each-range (λ m. is_some (piece_at e m) ≡ false) from (to + 1 - from) (λ m low high. ap is_some (none m low (omega arith)))))

told_as : (case : PlainProblem) (lines : List PlainBoxLine) (e : PlainTrack) (i slot : ℕ) → AreAllInTime case → AreBoxes case lines → slice_get case.tracks i ≡ Some e → slot < slot_count case.first case.last
    → is_some (box_listed lines slot i) ≡ has_state_in case e slot
told_as case lines e i slot time are at lt = go (find (is_line_of i slot) lines) refl
  where
    go : (o : Option PlainBoxLine) → find (is_line_of i slot) lines ≡ o → is_some (box_listed lines slot i) ≡ has_state_in case e slot
    go None found =
        let none : box_listed lines slot i ≡ None = ap (λ (o : Option PlainBoxLine). option_map (λ line. line.area) o) found in
        ap is_some none ∙ sym (has_none case e slot ((in_one_box case lines e i slot (time i e at) are at lt).none none))
    go (Some line) found =
        let told = find_some (is_line_of i slot) (HasStates case) lines line (lines_have case lines are) found in
        let by = told_by i slot line told.0 in
        let has : HasState case (line.object, slot) = told.1 slot by.low by.high in
        let own : slice_get case.tracks line.object ≡ Some e = subst (λ (k : ℕ). slice_get case.tracks k ≡ Some e) (sym by.own) at in
        let state : has_state_in case e slot ≡ true = subst (λ (o : Option PlainTrack). IsSomeAnd o (λ e. has_state_in case e slot ≡ true)) own has in
        ap (λ (o : Option PlainBoxLine). is_some (option_map (λ line. line.area) o)) found ∙ sym state

-- ---- the slots of the new lines

slots_of_lines : (bs : List PlainBlock) → flat_map slots_of_line (map line_of_block bs) ≡ flat_map slots_told bs
slots_of_lines [] = refl
slots_of_lines (b ∷ bs) = ap (λ (ps : List (ℕ × ℕ)). slots_told b ++ ps) (slots_of_lines bs)

filter_alike : (p q : ℕ → Bool) (ks : List ℕ) → Each (λ k. p k ≡ q k) ks → filter p ks ≡ filter q ks
filter_alike p q [] same = refl
filter_alike p q (k ∷ ks) same = let here = same.0 in let rest = filter_alike p q ks same.1 in λ i. cond (here i) (k ∷ rest i) (rest i)

new_slots : (case : PlainProblem) (c : PlainCertificate) → AreAllInTime case → AreBoxes case c.boxes
    → flat_map slots_of_line (map line_of_block (blocks_of (given_of case (boxes_by_lines case c.boxes) (pairs_by_shells case c)))) ≡ slots_with_states case
new_slots case c time are =
    slots_of_lines (blocks_of g) ∙ slots_are g
    ∙ flat_map_numbered (λ object. map (λ slot. (object, slot)) (filter (λ slot. is_some (box_given g object slot)) (range_with_len 0 g.slots)))
    (λ object. map (λ slot. (object.0, slot)) (filter (has_state_in case object.1) (slots_of case))) 0 case.tracks (λ i e is.
    let at : 0 + i ≡ i = omega arith in
    let there : slice_get case.tracks (0 + i) ≡ Some e = subst (λ (k : ℕ). slice_get case.tracks k ≡ Some e) (sym at) is in
    ap (map (λ (slot : ℕ). let p : ℕ × ℕ = (0 + i, slot) in p))
    (filter_alike (λ slot. is_some (box_given g (0 + i) slot)) (has_state_in case e) (slots_of case)
    (Each-range (λ slot. is_some (box_given g (0 + i) slot) ≡ has_state_in case e slot) 0 (slot_count case.first case.last) (λ slot low high.
    ap is_some (given_is case c (0 + i) slot (slice_get_within case.tracks (0 + i) e there) (omega arith)) ∙ told_as case c.boxes e (0 + i) slot time are there (omega arith)))))
  where
    g : Given
    g = given_of case (boxes_by_lines case c.boxes) (pairs_by_shells case c)

-- ---- the new boxes hold the hulls

low_further : (v w : ℤ) (k : Four) → w ≤ℤ v → IsAtMostEach v k → IsAtMostEach w k
low_further v w k le h = let a = h.k0 in let b = h.k1 in let d = h.k2 in let e = h.k3 in record { k0 = omega (arith, ints); k1 = omega (arith, ints); k2 = omega (arith, ints); k3 = omega (arith, ints) }

high_further : (v w : ℤ) (k : Four) → v ≤ℤ w → IsAtLeastEach v k → IsAtLeastEach w k
high_further v w k le h = let a = h.k0 in let b = h.k1 in let d = h.k2 in let e = h.k3 in record { k0 = omega (arith, ints); k1 = omega (arith, ints); k2 = omega (arith, ints); k3 = omega (arith, ints) }

hull_further : (a b : PlainBox) → LiesIn a b → (h : PlainHull) → IsHullIn a h → IsHullIn b h
hull_further a b lies h is = record {
  x_low = low_further a.x.least b.x.least h.x.low lies.x.low is.x_low;
  x_high = high_further a.x.most b.x.most h.x.high lies.x.high is.x_high;
  y_low = low_further a.y.least b.y.least h.y.low lies.y.low is.y_low;
  y_high = high_further a.y.most b.y.most h.y.high lies.y.high is.y_high;
  z_low = low_further a.z.least b.z.least h.z.low lies.z.low is.z_low;
  z_high = high_further a.z.most b.z.most h.z.high lies.z.high is.z_high;
}

-- in each of its slots a block holds the hulls that the line of the slot holds
holds_in : (case : PlainProblem) (c : PlainCertificate) (object slot : ℕ) (area : PlainBox) → AreBoxes case c.boxes → IsSomeAnd (box_listed c.boxes slot object) (λ x. LiesIn x area)
    → IsSomeAnd (slice_get case.tracks object) (λ e. All (IsHullIn area) (hulls_of e (slot_first case.first slot) (slot_last case.first case.last slot)))
holds_in case c object slot area are some = go (find (is_line_of object slot) c.boxes) refl some
  where
    from : ℕ
    from = slot_first case.first slot

    to : ℕ
    to = slot_last case.first case.last slot

    in_area : (a : PlainBox) (o : Option PlainTrack) → LiesIn a area → IsSomeAnd o (λ e. All (IsHullIn a) (hulls_of e from to)) → IsSomeAnd o (λ e. All (IsHullIn area) (hulls_of e from to))
    in_area a None lies all = all
    in_area a (Some e) lies all = All-from_each (IsHullIn area) (hulls_of e from to)
        (Each-weaker (IsHullIn a) (IsHullIn area) (hull_further a area lies) (hulls_of e from to) (each_from_All (IsHullIn a) (hulls_of e from to) all))

    go : (o : Option PlainBoxLine) → find (is_line_of object slot) c.boxes ≡ o → IsSomeAnd (option_map (λ line. line.area) o) (λ x. LiesIn x area)
        → IsSomeAnd (slice_get case.tracks object) (λ e. All (IsHullIn area) (hulls_of e from to))
    go None found lies = absurd lies
    go (Some line) found lies =
        let told = find_some (is_line_of object slot) (HoldsHulls case) c.boxes line (each_from_All (HoldsHulls case) c.boxes are.hold) found in
        let by = told_by object slot line told.0 in
        subst (λ (k : ℕ). IsSomeAnd (slice_get case.tracks k) (λ e. All (IsHullIn area) (hulls_of e from to))) by.own
        (in_area line.area (slice_get case.tracks line.object) lies (told.1 slot by.low by.high))

block_holds : (case : PlainProblem) (c : PlainCertificate) → AreBoxes case c.boxes → (b : PlainBlock) → IsRound (given_of case (boxes_by_lines case c.boxes) (pairs_by_shells case c)) b
    → HoldsHulls case (line_of_block b)
block_holds case c are b is slot low high =
    let within = is.within in
    holds_in case c b.object slot b.area are
    (subst (λ (o : Option PlainBox). IsSomeAnd o (λ x. LiesIn x b.area)) (given_is case c b.object slot is.exists (omega arith)) (is.holds slot low high))

new_boxes : (case : PlainProblem) (c : PlainCertificate) → AreAllInTime case → AreBoxes case c.boxes
    → AreBoxes case (map line_of_block (blocks_of (given_of case (boxes_by_lines case c.boxes) (pairs_by_shells case c))))
new_boxes case c time are =
    let g = given_of case (boxes_by_lines case c.boxes) (pairs_by_shells case c) in
    let lines = map line_of_block (blocks_of g) in
    record {
      some = All-from_each (λ line. line.first ≤ line.last) lines
          (Each-map (λ line. line.first ≤ line.last) line_of_block (blocks_of g) (Each-weaker (IsRound g) (λ b. b.first ≤ b.last) (λ b is. is.some) (blocks_of g) (each_round g)));
      slots = new_slots case c time are;
      hold = All-from_each (HoldsHulls case) lines
          (Each-map (HoldsHulls case) line_of_block (blocks_of g) (Each-weaker (IsRound g) (λ b. HoldsHulls case (line_of_block b)) (block_holds case c are) (blocks_of g) (each_round g)));
    }

-- ---- candidates

found_same : (object slot : ℕ) (bs : List PlainBlock) → box_listed (map line_of_block bs) slot object ≡ blocks.box_listed bs object slot
found_same object slot [] = refl
found_same object slot (b ∷ bs) = go (is_block_of object slot b) (found_same object slot bs)
  where
    go : (t : Bool) → box_listed (map line_of_block bs) slot object ≡ blocks.box_listed bs object slot
        → option_map (λ line. line.area) (cond t (Some (line_of_block b)) (find (is_line_of object slot) (map line_of_block bs))) ≡ option_map (λ b. b.area) (cond t (Some b) (find (is_block_of object slot) bs))
    go true rest = refl
    go false rest = rest

-- the listed box of an object among those of all
listed_at : (c : PlainCertificate) (slot object : ℕ) → object < c.objects → reaches_in (boxes_listed c slot) object ≡ box_listed c.boxes slot object
listed_at c slot object exists =
    let own : 0 + object ≡ object = omega arith in
    ap (λ (o : Option (Option PlainBox)). option_and_then (λ box. box) o)
    (slice_get-map (box_listed c.boxes slot) (range_with_len 0 c.objects) object
    ∙ ap (λ (o : Option ℕ). option_map (box_listed c.boxes slot) o) (range_at 0 c.objects object exists ∙ ap (λ (k : ℕ). Some k) own))

-- what holds in each slot of each element
each_slot : {X : Type 0} (P : ℕ → X → Type 0) (n : ℕ) (xs : List X) → ((slot : ℕ) → slot < n → Each (P slot) xs) → Each (λ x. (slot : ℕ) → slot < n → P slot x) xs
each_slot P n [] f = tt
each_slot P n (x ∷ xs) f = (λ slot lt. (f slot lt).0, each_slot P n xs (λ slot lt. (f slot lt).1))

-- the boxes of a pair that is kept touch by the new lines where they do by the old ones
one_pair : (case : PlainProblem) (c : PlainCertificate) (pair : ℕ × ℕ) (slot : ℕ) → c.objects ≡ length case.tracks → IsPair (length case.tracks) pair → slot < slot_count case.first case.last
    → (kept : Bool) → (keeps_between case.primaries case.threshold case.sizes (shells_listed c) pair ≡ kept)
    → (kept ≡ true → pair_touches (given_of case (boxes_by_lines case c.boxes) (pairs_by_shells case c)) (blocks.box_listed (blocks_of (given_of case (boxes_by_lines case c.boxes) (pairs_by_shells case c)))) slot pair
    ≡ pair_touches (given_of case (boxes_by_lines case c.boxes) (pairs_by_shells case c)) (box_given (given_of case (boxes_by_lines case c.boxes) (pairs_by_shells case c))) slot pair)
    → (kept && touch_between case.threshold case.sizes (boxes_listed (rewritten case c) slot) pair) ≡ (kept && touch_between case.threshold case.sizes (boxes_listed c slot) pair)
unfolding with_blocks
one_pair case c pair slot objects is lt false none alike = refl
one_pair case c pair slot objects is lt true kept alike =
    let g = given_of case (boxes_by_lines case c.boxes) (pairs_by_shells case c) in
    let thr = threshold_between case.threshold case.sizes pair.0 pair.1 in
    let up = is.ordered in
    let exists = is.exists in
    let one = listed_at (rewritten case c) slot pair.0 (omega (arith, up, exists, objects)) ∙ found_same pair.0 slot (blocks_of g) in
    let two = listed_at (rewritten case c) slot pair.1 (omega (arith, exists, objects)) ∙ found_same pair.1 slot (blocks_of g) in
    let old = given_is case c pair.0 slot (omega (arith, up, exists)) lt ∙ sym (listed_at c slot pair.0 (omega (arith, up, exists, objects))) in
    let old' = given_is case c pair.1 slot exists lt ∙ sym (listed_at c slot pair.1 (omega (arith, exists, objects))) in
    (λ i. both_touch thr (one i) (two i)) ∙ alike refl ∙ (λ i. both_touch thr (old i) (old' i))

-- a pair is a candidate in the same slots
candidates_as : (case : PlainProblem) (c : PlainCertificate) → c.objects ≡ length case.tracks
    → Each (λ pair. (slot : ℕ) → slot < slot_count case.first case.last → is_candidate_listed case (rewritten case c) pair.0 pair.1 slot ≡ is_candidate_listed case c pair.0 pair.1 slot) (pairs_of (length case.tracks))
unfolding is_candidate_listed with_blocks
candidates_as case c objects =
    Each-weaker (λ pair. IsPair n pair × (keeps pair ≡ true → (slot : ℕ) → slot < slot_count case.first case.last → pair_touches g (blocks.box_listed (blocks_of g)) slot pair ≡ pair_touches g (box_given g) slot pair))
    (λ pair. (slot : ℕ) → slot < slot_count case.first case.last
    → (keeps pair && touch_between case.threshold case.sizes (boxes_listed new slot) pair) ≡ (keeps pair && touch_between case.threshold case.sizes (boxes_listed c slot) pair))
    (λ pair h slot lt. one_pair case c pair slot objects h.0 lt (keeps pair) refl (λ kept. h.1 kept slot lt)) (pairs_of n)
    (Each-both (IsPair n) (λ pair. keeps pair ≡ true → (slot : ℕ) → slot < slot_count case.first case.last → pair_touches g (blocks.box_listed (blocks_of g)) slot pair ≡ pair_touches g (box_given g) slot pair)
    (pairs_of n) (Each-pairs n)
    (filtered_each (λ pair. (slot : ℕ) → slot < slot_count case.first case.last → pair_touches g (blocks.box_listed (blocks_of g)) slot pair ≡ pair_touches g (box_given g) slot pair) keeps (pairs_of n)
    kept_touch))
  where
    n : ℕ
    n = length case.tracks

    g : Given
    g = given_of case (boxes_by_lines case c.boxes) (pairs_by_shells case c)

    new : PlainCertificate
    new = rewritten case c

    keeps : ℕ × ℕ → Bool
    keeps = keeps_between case.primaries case.threshold case.sizes (shells_listed c)

    kept_pairs : Each (IsPair n) (filter keeps (pairs_of n))
    kept_pairs = Each-filter (IsPair n) keeps (pairs_of n) (Each-pairs n)

    kept_touch : Each (λ pair. (slot : ℕ) → slot < slot_count case.first case.last → pair_touches g (blocks.box_listed (blocks_of g)) slot pair ≡ pair_touches g (box_given g) slot pair) (filter keeps (pairs_of n))
    kept_touch =
        each_slot (λ slot pair. pair_touches g (blocks.box_listed (blocks_of g)) slot pair ≡ pair_touches g (box_given g) slot pair) (slot_count case.first case.last) (filter keeps (pairs_of n))
        (λ slot lt. each_from_All (λ pair. pair_touches g (blocks.box_listed (blocks_of g)) slot pair ≡ pair_touches g (box_given g) slot pair) (filter keeps (pairs_of n))
        (touch_listed g (Each-weaker (IsPair n) (λ pair. pair.0 < pair.1) (λ pair is. is.ordered) (filter keeps (pairs_of n)) kept_pairs)
        (Each-weaker (IsPair n) (λ pair. pair.1 < n) (λ pair is. is.exists) (filter keeps (pairs_of n)) kept_pairs) slot lt))

-- the roots are the same where the candidates are the same
roots_as : (f g : ℕ → ℕ → ℕ → Bool) (case : PlainProblem) → Each (λ pair. (slot : ℕ) → slot < slot_count case.first case.last → f pair.0 pair.1 slot ≡ g pair.0 pair.1 slot) (pairs_of (length case.tracks))
    → roots_of f case ≡ roots_of g case
unfolding roots_of
roots_as f g case same =
    flat_map_alike (λ pair. flat_map (λ slot. cond (f pair.0 pair.1 slot) (roots_in case slot pair.0 pair.1) []) (slots_of case))
    (λ pair. flat_map (λ slot. cond (g pair.0 pair.1 slot) (roots_in case slot pair.0 pair.1) []) (slots_of case)) (pairs_of (length case.tracks))
    (Each-weaker (λ pair. (slot : ℕ) → slot < slot_count case.first case.last → f pair.0 pair.1 slot ≡ g pair.0 pair.1 slot)
    (λ pair. flat_map (λ slot. cond (f pair.0 pair.1 slot) (roots_in case slot pair.0 pair.1) []) (slots_of case)
    ≡ flat_map (λ slot. cond (g pair.0 pair.1 slot) (roots_in case slot pair.0 pair.1) []) (slots_of case))
    (λ pair alike. flat_map_alike (λ slot. cond (f pair.0 pair.1 slot) (roots_in case slot pair.0 pair.1) []) (λ slot. cond (g pair.0 pair.1 slot) (roots_in case slot pair.0 pair.1) []) (slots_of case)
    (Each-range (λ slot. cond (f pair.0 pair.1 slot) (roots_in case slot pair.0 pair.1) [] ≡ cond (g pair.0 pair.1 slot) (roots_in case slot pair.0 pair.1) []) 0 (slot_count case.first case.last)
    (λ slot low high. ap (λ (b : Bool). cond b (roots_in case slot pair.0 pair.1) []) (alike slot (omega arith)))))
    (pairs_of (length case.tracks)) same)

-- ---- the certificate

pub rewritten_accepted : (case : PlainProblem) (c : PlainCertificate) → AreAllInTime case → Accepted case c → Accepted case (rewritten case c)
unfolding with_blocks
rewritten_accepted case c time accepted = record {
  first = accepted.first;
  last = accepted.last;
  threshold = accepted.threshold;
  objects = accepted.objects;
  sizes = sizes_numbered 0 case.sizes;
  shells = accepted.shells;
  boxes = new_boxes case c time accepted.boxes;
  cells = subst (λ (roots : List PlainCell). TileRoots (IsSupported case) roots c.cells)
      (sym (roots_as (is_candidate_listed case (rewritten case c)) (is_candidate_listed case c) case (candidates_as case c accepted.objects))) accepted.cells;
}

-- a certificate of either version
pub in_version_2_accepted : (case : PlainProblem) (c : PlainCertificate) → AreAllInTime case → Accepted case c → Accepted case (in_version_2 case c)
in_version_2_accepted case c time accepted = go c.version
  where
    go : (version : CertVersion) → Accepted case (from_version version case c)
    go One = rewritten_accepted case c time accepted
    go Two = accepted

-- ---- what a run writes

rows_same : (case : PlainProblem) (lines : List PlainBoxLine) → ((i : ℕ) (e : PlainTrack) → slice_get case.tracks i ≡ Some e → (slot : ℕ) → slot < slot_count case.first case.last → box_listed lines slot i ≡ box_in case e slot)
    → boxes_by_lines case lines ≡ boxes_of case
unfolding boxes_by_lines boxes_of
rows_same case lines same = each_row 0 case.tracks (λ i e is slot lt. let at : 0 + i ≡ i = omega arith in ap (box_listed lines slot) at ∙ same i e is slot lt)
  where
    map_alike : (f g : ℕ → Option PlainBox) (ks : List ℕ) → Each (λ k. f k ≡ g k) ks → map f ks ≡ map g ks
    map_alike f g [] alike = refl
    map_alike f g (k ∷ ks) alike = let here = alike.0 in let rest = map_alike f g ks alike.1 in λ i. here i ∷ rest i

    each_row : (n : ℕ) (es : List PlainTrack) → ((i : ℕ) (e : PlainTrack) → slice_get es i ≡ Some e → (slot : ℕ) → slot < slot_count case.first case.last → box_listed lines slot (n + i) ≡ box_in case e slot)
        → map (λ object. map (λ slot. box_listed lines slot object) (slots_of case)) (range_with_len n (length es)) ≡ map (λ e. map (box_in case e) (slots_of case)) es
    each_row n [] alike = refl
    each_row n (e ∷ es) alike =
        let at : n ≡ n + 0 = omega arith in
        let here : map (λ slot. box_listed lines slot n) (slots_of case) ≡ map (box_in case e) (slots_of case) =
        map_alike (λ slot. box_listed lines slot n) (box_in case e) (slots_of case)
        (Each-range (λ slot. box_listed lines slot n ≡ box_in case e slot) 0 (slot_count case.first case.last) (λ slot low high. ap (box_listed lines slot) at ∙ alike 0 e refl slot (omega arith))) in
        let rest = each_row (n + 1) es (λ i d is slot lt. let next : n + 1 + i ≡ n + suc i = omega arith in ap (box_listed lines slot) next ∙ alike (suc i) d is slot lt) in
        λ i. here i ∷ rest i

-- blocks over the exact boxes are those of the certificate that has each of these in a line
pub blocks_same : (case : PlainProblem) → AreAllInTime case → rewritten case (written case) ≡ written_in_blocks case
unfolding written
blocks_same case time =
    let boxes = rows_same case (lines_of case) (λ i e is slot lt. box_is case e i slot time is lt) in
    let kept : pairs_by_shells case (written case) ≡ pairs_kept case =
    ap (λ (ss : List (Option Shell)). filter (keeps_between case.primaries case.threshold case.sizes ss) (pairs_of (length case.tracks))) (shells_same case) in
    λ i. with_blocks case (given_of case (boxes i) (kept i)) (written case)

-- what a run writes in version 2 is accepted where it is in version 1
pub written_in_blocks_accepted : (case : PlainProblem) → AreAllInTime case → Accepted case (written case) → Accepted case (written_in_blocks case)
written_in_blocks_accepted case time accepted = subst (λ (c : PlainCertificate). Accepted case c) (blocks_same case time) (rewritten_accepted case (written case) time accepted)

-- in either version
pub written_in_accepted : (version : CertVersion) (case : PlainProblem) → AreAllInTime case → Accepted case (written case) → Accepted case (written_in version case)
written_in_accepted One case time accepted = accepted
written_in_accepted Two case time accepted = written_in_blocks_accepted case time accepted
