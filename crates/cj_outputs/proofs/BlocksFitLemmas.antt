-- The certificate that a run writes fits in either version, and one that is rewritten fits where the given one does.
use Rattle.std.proofs.Common.{◌≡◌, ℕ, ◌+◌, ◌^◌, ◌<◌, ◌≤◌, Bool, true, false, cond, List, [], ◌∷◌, length, map, filter, Option, Some, None, refl, subst, arith}
use Rattle.std.specs.Prelude.{All, IfSome, option_and_then, option_map, slice_get}
use Rattle.std.specs.List.{enumerate_from, filter_map, find, flat_map, fold, list_all, range_with_len}
use Rattle.cj_interval.proofs.ListLemmas.{Each, Each-weaker, Each-always, Each-both, Each-map, Each-flat_map, All-from_each, each_at, each_from_All}
use Rattle.cj_formats.specs.declared.cert_version.CertVersion.{CertVersion}
use Rattle.cj_formats.specs.declared.cert_version.CertVersion.TheVariants.{One, Two}
use Rattle.cj_formats.specs.Versions.{most_objects}
use Rattle.cj_case.specs.CaseLimits.{MAX_SIZE}
use Rattle.cj_case.specs.PlainProblems.{PlainProblem}
use Rattle.cj_hermite.specs.Roots.{slots_of}
use Rattle.cj_case.specs.Slots.{slot_count}
use Rattle.cj_bezier.specs.SlotBoxes.{reaches_in}
use Rattle.cj_case.specs.Boxes.{PlainBox}
use Rattle.cj_blocks.specs.BoxRows.{box_at, round_all, round_both}
use Rattle.cj_blocks.specs.Blocks.{PlainBlock, Given, block_count, blocks_in, blocks_of, box_given, current_boxes, first_slot, is_pair_of, joined_box, joined_in, listed_in, single_in, slots_in, slots_of_block, touches_as_own}
use Rattle.cj_blocks.proofs.RunLemmas.{IsRound, each_round}
use Rattle.cj_cert.specs.Accepted.{Accepted}
use Rattle.cj_cert.specs.Certificates.{PlainBoxLine, PlainCertificate}
use Rattle.cj_cert.specs.Listed.{box_listed, is_line_of}
use Rattle.cj_cert.specs.Reaches.{StaysNear}
use Rattle.cj_blocks.specs.Rewritten.{boxes_by_lines, from_version, given_of, in_version_2, line_of_block, pairs_by_shells, rewritten, with_blocks, written_in, written_in_blocks}
use Rattle.cj_cert.specs.Written.{size_line, size_lines, written}
use Rattle.cj_cert.proofs.ListedLemmas.{AreAllInTime}
use Rattle.cj_blocks.proofs.RewrittenLemmas.{blocks_same}
use Rattle.cj_cert_text.specs.Fits.{Fits, FitsBox, FitsCell, FitsShell, FitsSize}
use Rattle.cj_cert_text.proofs.WrittenFitsLemmas.{IsOfRun, IsToldBox, of_told, round_told, told_box, written_fits}

-- ---- the box round several

abbrev IsToldWhere : Option PlainBox → Type 0
IsToldWhere o = IfSome o IsToldBox

both_told : (a b : Option PlainBox) → IsToldWhere a → IsToldWhere b → IsToldWhere (round_both a b)
both_told None b one two = tt
both_told (Some a) None one two = tt
both_told (Some a) (Some b) one two = record { x = round_told a.x b.x one.x two.x; y = round_told a.y b.y one.y two.y; z = round_told a.z b.z one.z two.z }

fold_told : (a : Option PlainBox) (bs : List (Option PlainBox)) → IsToldWhere a → Each IsToldWhere bs → IsToldWhere (fold round_both a bs)
fold_told a [] first each = first
fold_told a (b ∷ bs) first each = fold_told (round_both a b) bs (both_told a b first each.0) each.1

all_told : (bs : List (Option PlainBox)) → Each IsToldWhere bs → IsToldWhere (round_all bs)
unfolding round_all
all_told [] each = tt
all_told (b ∷ bs) each = fold_told b bs each.0 each.1

-- ---- blocks

-- the boxes of objects in slots
abbrev AreTold : (ℕ → ℕ → Option PlainBox) → Type 0
AreTold own = (object slot : ℕ) → IsToldWhere (own object slot)

joined_told : (thr : ℕ) (sizes : List ℕ) (pairs : List (ℕ × ℕ)) (own current : ℕ → ℕ → Option PlainBox) (object : ℕ) (slots : List ℕ) → AreTold own
    → IsToldWhere (joined_box thr sizes pairs own current object slots)
unfolding joined_box
joined_told thr sizes pairs own current object slots told =
    go (list_all (touches_as_own thr sizes own current object slots (round_all (map (own object) slots))) pairs)
    (all_told (map (own object) slots) (Each-map IsToldWhere (own object) slots (Each-always (λ slot. IsToldWhere (own object slot)) (told object) slots)))
  where
    go : (b : Bool) → IsToldWhere (round_all (map (own object) slots)) → IsToldWhere (cond b (round_all (map (own object) slots)) None)
    go true told = told
    go false told = tt

abbrev HasToldArea : PlainBlock → Type 0
HasToldArea b = IsToldBox b.area

singles_told : (own : ℕ → ℕ → Option PlainBox) → AreTold own → (object : ℕ) (slots : List ℕ) → Each HasToldArea (filter_map (single_in own object) slots)
singles_told own told object [] = tt
singles_told own told object (k ∷ slots) = go (own object k) refl (told object k) (singles_told own told object slots)
  where
    go : (o : Option PlainBox) → own object k ≡ o → IsToldWhere o → Each HasToldArea (filter_map (single_in own object) slots) → Each HasToldArea (filter_map (single_in own object) (k ∷ slots))
    go None is here rest = rw is rest
    go (Some area) is here rest =
        let single : PlainBlock = record { object = object; first = k; last = k; area = area } in
        let all : Each HasToldArea (single ∷ filter_map (single_in own object) slots) = (here, rest) in
        rw is all

listed_told : (own : ℕ → ℕ → Option PlainBox) → AreTold own → (object first count : ℕ) (joined : Option PlainBox) → IsToldWhere joined → Each HasToldArea (listed_in own object first count joined)
listed_told own told object first count None all = singles_told own told object (range_with_len first count)
listed_told own told object first count (Some area) all = (all, tt)

blocks_told : (g : Given) → AreTold (box_given g) → Each HasToldArea (blocks_of g)
unfolding blocks_of
blocks_told g told =
    Each-flat_map HasToldArea (λ object. flat_map (blocks_in g object) (range_with_len 0 (block_count g.slots))) (range_with_len 0 g.objects)
    (Each-always (λ object. Each HasToldArea (flat_map (blocks_in g object) (range_with_len 0 (block_count g.slots)))) (λ object.
    Each-flat_map HasToldArea (blocks_in g object) (range_with_len 0 (block_count g.slots))
    (Each-always (λ block. Each HasToldArea (blocks_in g object block)) (λ block.
    listed_told (box_given g) told object (first_slot block) (slots_in g.slots block) (joined_in g (current_boxes g object) object block)
    (joined_told g.threshold g.sizes (filter (is_pair_of object) g.kept) (box_given g) (current_boxes g object) object (slots_of_block g.slots block) told))
    (range_with_len 0 (block_count g.slots))))
    (range_with_len 0 g.objects))

-- ---- the boxes that lines list

abbrev HasToldBox : PlainBoxLine → Type 0
HasToldBox b = IsToldBox b.area

found_told : (lines : List PlainBoxLine) → Each HasToldBox lines → (slot object : ℕ) → IsToldWhere (box_listed lines slot object)
found_told [] each slot object = tt
found_told (b ∷ lines) each slot object = go (is_line_of object slot b) (found_told lines each.1 slot object)
  where
    go : (is : Bool) → IsToldWhere (box_listed lines slot object) → IsToldWhere (option_map (λ line. line.area) (cond is (Some b) (find (is_line_of object slot) lines)))
    go true rest = each.0
    go false rest = rest

reaches_told : (boxes : List (Option PlainBox)) → Each IsToldWhere boxes → (k : ℕ) → IsToldWhere (reaches_in boxes k)
reaches_told boxes each k = go (slice_get boxes k) refl
  where
    go : (o : Option (Option PlainBox)) → slice_get boxes k ≡ o → IsToldWhere (option_and_then (λ box. box) o)
    go None is = tt
    go (Some b) is = each_at IsToldWhere boxes k b each is

-- the boxes of rows
rows_told : (rows : List (List (Option PlainBox))) → Each (λ row. Each IsToldWhere row) rows → (object slot : ℕ) → IsToldWhere (box_at rows object slot)
rows_told rows each object slot = go (slice_get rows object) refl
  where
    go : (o : Option (List (Option PlainBox))) → slice_get rows object ≡ o → IsToldWhere (option_and_then (λ box. box) (option_and_then (λ row. slice_get row slot) o))
    go None is = tt
    go (Some row) is = reaches_told row (each_at (λ row. Each IsToldWhere row) rows object row each is) slot

by_lines_told : (case : PlainProblem) (lines : List PlainBoxLine) → Each HasToldBox lines → Each (λ row. Each IsToldWhere row) (boxes_by_lines case lines)
unfolding boxes_by_lines
by_lines_told case lines each =
    Each-map (λ row. Each IsToldWhere row) (λ object. map (λ slot. box_listed lines slot object) (slots_of case)) (range_with_len 0 (length case.tracks))
    (Each-always (λ object. Each IsToldWhere (map (λ slot. box_listed lines slot object) (slots_of case)))
    (λ object. Each-map IsToldWhere (λ slot. box_listed lines slot object) (slots_of case)
    (Each-always (λ slot. IsToldWhere (box_listed lines slot object)) (λ slot. found_told lines each slot object) (slots_of case)))
    (range_with_len 0 (length case.tracks)))

blocks_fit : (most own : ℕ) (case : PlainProblem) (lines : List PlainBoxLine) (kept : List (ℕ × ℕ)) → length case.tracks ≤ most → slot_count case.first case.last < 2 ^ 32 → Each (FitsBox own) lines
    → Each (FitsBox most) (map line_of_block (blocks_of (given_of case (boxes_by_lines case lines) kept)))
blocks_fit most own case lines kept few short each =
    let g = given_of case (boxes_by_lines case lines) kept in
    let boxes = by_lines_told case lines (Each-weaker (FitsBox own) HasToldBox (told_box own) lines each) in
    Each-map (FitsBox most) line_of_block (blocks_of g)
    (Each-weaker (λ b. IsRound g b × HasToldArea b) (λ b. FitsBox most (line_of_block b)) (λ b both.
    let exists = both.0.exists in
    let within = both.0.within in
    record {
      object = omega arith;
      some = both.0.some;
      last = omega arith;
      x = of_told b.area.x both.1.x;
      y = of_told b.area.y both.1.y;
      z = of_told b.area.z both.1.z;
    }) (blocks_of g)
    (Each-both (IsRound g) HasToldArea (blocks_of g) (each_round g)
    (blocks_told g (rows_told (boxes_by_lines case lines) boxes))))

-- ---- a certificate that is rewritten

pub sizes_fit : (most n : ℕ) (sizes : List ℕ) → Each (λ size. size ≤ MAX_SIZE) sizes → n + length sizes ≤ most → Each (FitsSize most) (map size_line (enumerate_from n sizes))
sizes_fit most n [] each few = tt
sizes_fit most n (size ∷ sizes) each few = (record { object = omega arith; size = each.0 }, sizes_fit most (n + 1) sizes each.1 (omega arith))

pub rewritten_fits : (case : PlainProblem) (c : PlainCertificate) → c.version ≡ One → IsOfRun case → Fits c → Fits (rewritten case c)
unfolding with_blocks
rewritten_fits case c first run fits = record {
  version = tt;
  first = fits.first;
  last = fits.last;
  some = fits.some;
  threshold = fits.threshold;
  objects = subst (λ (v : CertVersion). c.objects ≤ most_objects v) first fits.objects;
  sizes = All-from_each (FitsSize (most_objects Two)) (size_lines case.sizes)
      (sizes_fit (most_objects Two) 0 case.sizes (each_from_All (λ size. size ≤ MAX_SIZE) case.sizes run.sizes) (omega (arith, run.sized, run.few Two)));
  shells = subst (λ (v : CertVersion). All (FitsShell (most_objects v)) c.shells) first fits.shells;
  boxes = All-from_each (FitsBox (most_objects Two)) (map line_of_block (blocks_of (given_of case (boxes_by_lines case c.boxes) (pairs_by_shells case c))))
      (blocks_fit (most_objects Two) (most_objects c.version) case c.boxes (pairs_by_shells case c) (run.few Two) run.short
      (each_from_All (FitsBox (most_objects c.version)) c.boxes fits.boxes));
  cells = subst (λ (v : CertVersion). All (FitsCell (most_objects v)) c.cells) first fits.cells;
}

pub in_version_2_fits : (case : PlainProblem) (c : PlainCertificate) → IsOfRun case → Fits c → Fits (in_version_2 case c)
in_version_2_fits case c run fits = go c.version refl
  where
    go : (version : CertVersion) → c.version ≡ version → Fits (from_version version case c)
    go One first = rewritten_fits case c first run fits
    go Two second = fits

-- ---- what a run writes

written_in_blocks_fits : (case : PlainProblem) → IsOfRun case → Accepted case (written case) → Fits (written_in_blocks case)
unfolding written
written_in_blocks_fits case run accepted =
    subst (λ (c : PlainCertificate). Fits c) (blocks_same case time) (rewritten_fits case (written case) refl run (written_fits case run accepted))
  where
    time : AreAllInTime case
    time i e is from to = (each_at StaysNear case.tracks i e (each_from_All StaysNear case.tracks run.near) is).time from to

pub written_in_fits : (version : CertVersion) (case : PlainProblem) → IsOfRun case → Accepted case (written case) → Fits (written_in version case)
written_in_fits One case run accepted = written_fits case run accepted
written_in_fits Two case run accepted = written_in_blocks_fits case run accepted
