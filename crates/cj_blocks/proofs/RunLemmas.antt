-- The runs of slots of blocks: each slot with a given box is in one, and its box lies in that of the block.
use Rattle.std.proofs.Common.{◌≡◌, ℕ, zero, suc, ◌+◌, ◌-◌, ◌<◌, ◌≤◌, Bool, true, List, [], ◌∷◌, ◌++◌, map, filter, Option, Some, None, refl, sym, ap, ◌∙◌, subst, arith}
use Rattle.std.specs.Prelude.{is_some, IsSomeAnd}
use Rattle.std.specs.List.{filter_map, flat_map, range_with_len}
use Rattle.std.proofs.lemmas.List.{map-append}
use Rattle.std.proofs.lemmas.List.Elements.{filter-append}
use Rattle.cj_interval.proofs.ListLemmas.{Each, Each-weaker, Each-flat_map, Each-range, Each-both, All-from_each, flat_map_alike, flat_map-flat_map}
use Rattle.cj_interval.proofs.RangeLemmas.{range_cut}
use Rattle.cj_case.specs.PlainProblems.{threshold_between}
use Rattle.cj_case.specs.Boxes.{PlainBox}
use Rattle.cj_bezier.specs.SlotBoxes.{both_touch}
use Rattle.cj_blocks.specs.Blocks.{PlainBlock, Given, block_count, box_given, first_slot, slots_in, slots_of_block, is_pair_of, joined_in, current_boxes, single_in, listed_in, blocks_in, blocks_of, box_listed, pair_touches, TouchAsGiven}
use Rattle.cj_blocks.proofs.CurrentLemmas.{AreOrdered, TouchesAsGiven, touch_as_given}
use Rattle.cj_blocks.proofs.FoundLemmas.{listed_is}
use Rattle.cj_blocks.proofs.JoinLemmas.{joins}
use Rattle.cj_blocks.proofs.RoundLemmas.{LiesIn, lies_in_itself}

-- ---- what each block is round

-- a block of an object, in slots from a first one to the one before the end, in each of which its own box is there and lies in the block's
pub record IsRoundOwn (own : ℕ → ℕ → Option PlainBox) (object first end : ℕ) (b : PlainBlock) : Type 0 where
  pub same : b.object ≡ object
  pub some : b.first ≤ b.last
  pub from : first ≤ b.first
  pub to : b.last < end
  pub holds : (slot : ℕ) → b.first ≤ slot → slot ≤ b.last → IsSomeAnd (own object slot) (λ x. LiesIn x b.area)

wider : (own : ℕ → ℕ → Option PlainBox) (object first end first' end' : ℕ) → first' ≤ first → end ≤ end' → (b : PlainBlock) → IsRoundOwn own object first end b → IsRoundOwn own object first' end' b
wider own object first end first' end' low high b is = let from = is.from in let to = is.to in record { same = is.same; some = is.some; from = omega arith; to = omega arith; holds = is.holds }

singles_round : (own : ℕ → ℕ → Option PlainBox) (object a n : ℕ) → Each (IsRoundOwn own object a (a + n)) (filter_map (single_in own object) (range_with_len a n))
singles_round own object a zero = tt
singles_round own object a (suc n) =
    go (own object a) refl (Each-weaker (IsRoundOwn own object (a + 1) (a + 1 + n)) (IsRoundOwn own object a (a + suc n)) (wider own object (a + 1) (a + 1 + n) a (a + suc n) (omega arith) (omega arith))
    (filter_map (single_in own object) (range_with_len (a + 1) n)) (singles_round own object (a + 1) n))
  where
    go : (o : Option PlainBox) → own object a ≡ o → Each (IsRoundOwn own object a (a + suc n)) (filter_map (single_in own object) (range_with_len (a + 1) n))
        → Each (IsRoundOwn own object a (a + suc n)) (filter_map (single_in own object) (range_with_len a (suc n)))
    go None is rest = rw is rest
    go (Some area) is rest =
        let single : PlainBlock = record { object = object; first = a; last = a; area = area } in
        let here : IsRoundOwn own object a (a + suc n) single = record {
          same = refl;
          some = omega arith;
          from = omega arith;
          to = omega arith;
          holds = λ slot low high.
              let at : a ≡ slot = omega arith in
              let own_is : own object slot ≡ Some area = subst (λ (k : ℕ). own object k ≡ Some area) at is in
              subst (λ (o : Option PlainBox). IsSomeAnd o (λ x. LiesIn x area)) (sym own_is) (lies_in_itself area);
        } in
        let all : Each (IsRoundOwn own object a (a + suc n)) (single ∷ filter_map (single_in own object) (range_with_len (a + 1) n)) = (here, rest) in
        rw is all

-- a box that joins the slots
abbrev HoldsOwn : (ℕ → ℕ → Option PlainBox) → ℕ → ℕ → ℕ → PlainBox → Type 0
HoldsOwn own object first count area = (slot : ℕ) → first ≤ slot → slot < first + count → IsSomeAnd (own object slot) (λ x. LiesIn x area)

listed_round : (own : ℕ → ℕ → Option PlainBox) (object first count : ℕ) (joined : Option PlainBox) → 0 < count → ((area : PlainBox) → joined ≡ Some area → HoldsOwn own object first count area)
    → Each (IsRoundOwn own object first (first + count)) (listed_in own object first count joined)
listed_round own object first count None some holds = singles_round own object first count
listed_round own object first count (Some area) some holds =
    (record { same = refl; some = omega arith; from = omega arith; to = omega arith; holds = λ slot low high. holds area refl slot low (omega arith) }, tt)

joined_holds : (g : Given) (object block : ℕ) (area : PlainBox) → joined_in g (current_boxes g object) object block ≡ Some area
    → HoldsOwn (box_given g) object (first_slot block) (slots_in g.slots block) area
joined_holds g object block area is =
    (joins g.threshold g.sizes (filter (is_pair_of object) g.kept) (box_given g) (current_boxes g object) object (first_slot block) (slots_in g.slots block) area is).holds

-- a block of one of the objects, in slots of the window, with the given boxes in it
pub record IsRound (g : Given) (b : PlainBlock) : Type 0 where
  pub exists : b.object < g.objects
  pub some : b.first ≤ b.last
  pub within : b.last < g.slots
  pub holds : (slot : ℕ) → b.first ≤ slot → slot ≤ b.last → IsSomeAnd (box_given g b.object slot) (λ x. LiesIn x b.area)

pub each_round : (g : Given) → Each (IsRound g) (blocks_of g)
unfolding blocks_of
each_round g =
    Each-flat_map (IsRound g) (λ object. flat_map (blocks_in g object) (range_with_len 0 (block_count g.slots))) (range_with_len 0 g.objects)
    (Each-range (λ object. Each (IsRound g) (flat_map (blocks_in g object) (range_with_len 0 (block_count g.slots)))) 0 g.objects (λ object low exists.
    Each-flat_map (IsRound g) (blocks_in g object) (range_with_len 0 (block_count g.slots))
    (Each-range (λ block. Each (IsRound g) (blocks_in g object block)) 0 (block_count g.slots) (λ block least most.
    Each-weaker (IsRoundOwn (box_given g) object (first_slot block) (first_slot block + slots_in g.slots block)) (IsRound g) (round_in object block exists) (blocks_in g object block)
    (listed_round (box_given g) object (first_slot block) (slots_in g.slots block) (joined_in g (current_boxes g object) object block) (omega arith) (joined_holds g object block))))))
  where
    round_in : (object block : ℕ) → object < 0 + g.objects → (b : PlainBlock) → IsRoundOwn (box_given g) object (first_slot block) (first_slot block + slots_in g.slots block) b → IsRound g b
    round_in object block exists b is =
        let same = is.same in
        let to = is.to in
        let some = is.some in
        let from = is.from in
        record {
          exists = omega arith;
          some = some;
          within = omega arith;
          holds = subst (λ (k : ℕ). (slot : ℕ) → b.first ≤ slot → slot ≤ b.last → IsSomeAnd (box_given g k slot) (λ x. LiesIn x b.area)) (sym same) is.holds;
        }

-- ---- the slots of all blocks

-- the slots of a block, each with its object
abbrev pub slots_told : PlainBlock → List (ℕ × ℕ)
slots_told b = map (λ slot. (b.object, slot)) (range_with_len b.first (b.last + 1 - b.first))

-- those of an object in which it has a box, of some slots
abbrev slots_own : (ℕ → ℕ → Option PlainBox) → ℕ → List ℕ → List (ℕ × ℕ)
slots_own own object slots = map (λ (slot : ℕ). let p : ℕ × ℕ = (object, slot) in p) (filter (λ slot. is_some (own object slot)) slots)

one_slot : (object slot : ℕ) (area : PlainBox) → slots_told (record { object = object; first = slot; last = slot; area = area }) ≡ (object, slot) ∷ []
one_slot object slot area = let one : slot + 1 - slot ≡ 1 = omega arith in ap (λ (n : ℕ). map (λ (k : ℕ). let p : ℕ × ℕ = (object, k) in p) (range_with_len slot n)) one

singles_told : (own : ℕ → ℕ → Option PlainBox) (object : ℕ) (slots : List ℕ) → flat_map slots_told (filter_map (single_in own object) slots) ≡ slots_own own object slots
singles_told own object [] = refl
singles_told own object (k ∷ slots) = go (own object k) refl (singles_told own object slots)
  where
    go : (o : Option PlainBox) → own object k ≡ o → flat_map slots_told (filter_map (single_in own object) slots) ≡ slots_own own object slots
        → flat_map slots_told (filter_map (single_in own object) (k ∷ slots)) ≡ slots_own own object (k ∷ slots)
    go None is rest = rw is rest
    go (Some area) is rest = rw is (λ i. one_slot object k area i ++ rest i)

all_taken : {X : Type 0} (p : X → Bool) (xs : List X) → Each (λ x. p x ≡ true) xs → filter p xs ≡ xs
all_taken p [] each = refl
all_taken p (x ∷ xs) each = let here = each.0 in let rest = all_taken p xs each.1 in rw here (ap (λ ys. x ∷ ys) rest)

there_is : (o : Option PlainBox) (P : PlainBox → Type 0) → IsSomeAnd o P → is_some o ≡ true
there_is None P h = absurd h
there_is (Some x) P h = refl

listed_told : (own : ℕ → ℕ → Option PlainBox) (object first count : ℕ) (joined : Option PlainBox) → 0 < count → ((area : PlainBox) → joined ≡ Some area → HoldsOwn own object first count area)
    → flat_map slots_told (listed_in own object first count joined) ≡ slots_own own object (range_with_len first count)
listed_told own object first count None some holds = singles_told own object (range_with_len first count)
listed_told own object first count (Some area) some holds =
    let whole : first + count - 1 + 1 - first ≡ count = omega arith in
    let all : filter (λ slot. is_some (own object slot)) (range_with_len first count) ≡ range_with_len first count =
    all_taken (λ slot. is_some (own object slot)) (range_with_len first count)
    (Each-range (λ slot. is_some (own object slot) ≡ true) first count (λ slot low high. there_is (own object slot) (λ x. LiesIn x area) (holds area refl slot low high))) in
    append_none (map (λ (slot : ℕ). let p : ℕ × ℕ = (object, slot) in p) (range_with_len first (first + count - 1 + 1 - first)))
    ∙ ap (λ (n : ℕ). map (λ (slot : ℕ). let p : ℕ × ℕ = (object, slot) in p) (range_with_len first n)) whole
    ∙ ap (map (λ (slot : ℕ). let p : ℕ × ℕ = (object, slot) in p)) (sym all)
  where
    append_none : (ps : List (ℕ × ℕ)) → ps ++ [] ≡ ps
    append_none [] = refl
    append_none (p ∷ ps) = ap (λ (qs : List (ℕ × ℕ)). p ∷ qs) (append_none ps)

own_in_parts : (own : ℕ → ℕ → Option PlainBox) (object : ℕ) (f : ℕ → List ℕ) (ks : List ℕ) → flat_map (λ k. slots_own own object (f k)) ks ≡ slots_own own object (flat_map f ks)
own_in_parts own object f [] = refl
own_in_parts own object f (k ∷ ks) =
    let test = λ (slot : ℕ). is_some (own object slot) in
    let pair = λ (slot : ℕ). let p : ℕ × ℕ = (object, slot) in p in
    ap (λ (ps : List (ℕ × ℕ)). slots_own own object (f k) ++ ps) (own_in_parts own object f ks)
    ∙ sym (map-append pair (filter test (f k)) (filter test (flat_map f ks)))
    ∙ ap (map pair) (sym (filter-append test (f k) (flat_map f ks)))

-- ---- blocks have all slots

range_on : (a m n b : ℕ) → b ≡ a + m → range_with_len a m ++ range_with_len b n ≡ range_with_len a (m + n)
range_on a m n b at = ap (λ (k : ℕ). range_with_len a m ++ range_with_len k n) at ∙ sym (range_cut a m n)

slots_from : (slots q n : ℕ) → q + n ≡ block_count slots → flat_map (slots_of_block slots) (range_with_len q n) ≡ range_with_len (first_slot q) (slots - first_slot q)
slots_from slots q zero all = ap (range_with_len (first_slot q)) (let none : 0 ≡ slots - first_slot q = omega arith in none)
slots_from slots q (suc n) all = ap (λ (ks : List ℕ). slots_of_block slots q ++ ks) (slots_from slots (q + 1) n (omega arith)) ∙ go (slots - first_slot (q + 1)) refl
  where
    go : (m : ℕ) → slots - first_slot (q + 1) ≡ m → range_with_len (first_slot q) (slots_in slots q) ++ range_with_len (first_slot (q + 1)) m ≡ range_with_len (first_slot q) (slots - first_slot q)
    go zero none =
        let own : slots_in slots q + 0 ≡ slots - first_slot q = omega arith in
        range_on (first_slot q) (slots_in slots q) 0 (first_slot q + slots_in slots q) refl ∙ ap (range_with_len (first_slot q)) own
    go (suc m) more =
        let own : slots_in slots q + suc m ≡ slots - first_slot q = omega arith in
        range_on (first_slot q) (slots_in slots q) (suc m) (first_slot (q + 1)) (omega arith) ∙ ap (range_with_len (first_slot q)) own

-- the slots of all blocks are those in which an object has a box, in order of object and slot
pub slots_are : (g : Given) → flat_map slots_told (blocks_of g)
    ≡ flat_map (λ object. map (λ slot. (object, slot)) (filter (λ slot. is_some (box_given g object slot)) (range_with_len 0 g.slots))) (range_with_len 0 g.objects)
unfolding blocks_of
slots_are g =
    flat_map-flat_map slots_told (λ object. flat_map (blocks_in g object) (range_with_len 0 (block_count g.slots))) (range_with_len 0 g.objects)
    ∙ flat_map_alike (λ object. flat_map slots_told (flat_map (blocks_in g object) (range_with_len 0 (block_count g.slots)))) (λ object. slots_own (box_given g) object (range_with_len 0 g.slots))
    (range_with_len 0 g.objects)
    (Each-range (λ object. flat_map slots_told (flat_map (blocks_in g object) (range_with_len 0 (block_count g.slots))) ≡ slots_own (box_given g) object (range_with_len 0 g.slots)) 0 g.objects
    (λ object low exists. of_object object))
  where
    of_object : (object : ℕ) → flat_map slots_told (flat_map (blocks_in g object) (range_with_len 0 (block_count g.slots))) ≡ slots_own (box_given g) object (range_with_len 0 g.slots)
    of_object object =
        let blocks = range_with_len 0 (block_count g.slots) in
        flat_map-flat_map slots_told (blocks_in g object) blocks
        ∙ flat_map_alike (λ block. flat_map slots_told (blocks_in g object block)) (λ block. slots_own (box_given g) object (slots_of_block g.slots block)) blocks
        (Each-range (λ block. flat_map slots_told (blocks_in g object block) ≡ slots_own (box_given g) object (slots_of_block g.slots block)) 0 (block_count g.slots)
        (λ block least most.
        listed_told (box_given g) object (first_slot block) (slots_in g.slots block) (joined_in g (current_boxes g object) object block) (omega arith) (joined_holds g object block)))
        ∙ own_in_parts (box_given g) object (slots_of_block g.slots) blocks
        ∙ ap (slots_own (box_given g) object) (slots_from g.slots 0 (block_count g.slots) (omega arith))
        ∙ ap (λ (n : ℕ). slots_own (box_given g) object (range_with_len 0 n)) (let all : g.slots - 0 ≡ g.slots = omega arith in all)

-- ---- what touches by the listed boxes

pub touch_listed : (g : Given) → AreOrdered g → Each (λ pair. pair.1 < g.objects) g.kept → TouchAsGiven g (blocks_of g)
touch_listed g ordered exist slot lt =
    All-from_each (λ pair. pair_touches g (box_listed (blocks_of g)) slot pair ≡ pair_touches g (box_given g) slot pair) g.kept
    (Each-weaker (λ pair. ((pair.0 < pair.1) × (pair.1 < g.objects)) × TouchesAsGiven g (current_boxes g g.objects) slot pair)
    (λ pair. pair_touches g (box_listed (blocks_of g)) slot pair ≡ pair_touches g (box_given g) slot pair)
    (λ pair h.
    let up = h.0.0 in
    let exists = h.0.1 in
    let one = listed_is g pair.0 slot (omega arith) lt in
    let two = listed_is g pair.1 slot exists lt in
    (λ i. both_touch (threshold_between g.threshold g.sizes pair.0 pair.1) (one i) (two i)) ∙ h.1) g.kept
    (Each-both (λ pair. (pair.0 < pair.1) × (pair.1 < g.objects)) (TouchesAsGiven g (current_boxes g g.objects) slot) g.kept
    (Each-both (λ pair. pair.0 < pair.1) (λ pair. pair.1 < g.objects) g.kept ordered exist) (touch_as_given g g.objects slot ordered lt)))
