-- What blocks list: in each slot of an object its current box after all were treated, and no slot twice.
use Rattle.std.proofs.Common.{◌≡◌, ℕ, zero, suc, ◌+◌, ◌-◌, ◌/◌, ◌<◌, ◌≤◌, Bool, true, false, eqb, List, ◌∷◌, Option, Some, None, refl, sym, ap, ◌∙◌, subst, inl, inr, arith}
use Rattle.std.specs.Prelude.{◌==◌, ◌&&◌, nat_le, option_map}
use Rattle.std.specs.List.{filter_map, find, flat_map, range_with_len}
use Rattle.std.specs.Option.{option_or}
use Rattle.std.proofs.lemmas.Bool.{and_parts, cases_eq, eqb-true, leb-true}
use Rattle.std.proofs.lemmas.Bool.Decides.{nat_tests}
use Rattle.std.proofs.lemmas.List.Folds.{find-append}
use Rattle.cj_interval.proofs.ListLemmas.{Each, Each-weaker, Each-flat_map, Each-range, none_found}
use Rattle.cj_case.specs.Boxes.{PlainBox}
use Rattle.cj_blocks.specs.Blocks.{PlainBlock, Given, BLOCK, block_count, box_given, first_slot, slots_in, joined_in, current_boxes, single_in, listed_in, blocks_in, blocks_of, is_block_of, box_listed}
use Rattle.cj_blocks.proofs.CurrentLemmas.{in_own_block, block_of_slot, long_ago, same_number}

-- ---- a block and its slots

-- a block of an object from a first slot to the one before the end
pub record LiesFrom (object first end : ℕ) (b : PlainBlock) : Type 0 where
  pub own : b.object ≡ object
  pub from : first ≤ b.first
  pub some : b.first ≤ b.last
  pub to : b.last < end

-- a block tells of no other object and of no other slot
not_told : (object first end i slot : ℕ) (b : PlainBlock) → LiesFrom object first end b → (i ≡ object → first ≤ slot → slot < end → ⊥) → is_block_of i slot b ≡ false
not_told object first end i slot b lies none = go (is_block_of i slot b) refl
  where
    go : (c : Bool) → is_block_of i slot b ≡ c → c ≡ false
    go false is = refl
    go true is =
        let outer = and_parts (b.object == i && nat_le b.first slot) (nat_le slot b.last) is in
        let inner = and_parts (b.object == i) (nat_le b.first slot) outer.0 in
        let own = lies.own in
        let from = lies.from in
        let to = lies.to in
        let same : b.object ≡ i = eqb-true b.object i inner.0 in
        let low : b.first ≤ slot = leb-true b.first slot inner.1 in
        let high : slot ≤ b.last = leb-true slot b.last outer.1 in
        absurd (none (omega arith) (omega arith) (omega arith))

or_none : {X : Type 0} (o : Option X) → option_or o None ≡ o
or_none None = refl
or_none (Some x) = refl

nowhere : {X : Type 0} (p : X → Bool) (f : ℕ → List X) (a n : ℕ) → ((j : ℕ) → a ≤ j → j < a + n → find p (f j) ≡ None) → find p (flat_map f (range_with_len a n)) ≡ None
nowhere p f a zero none = refl
nowhere p f a (suc n) none =
    let here = none a (omega arith) (omega arith) in
    let rest = nowhere p f (a + 1) n (λ j least most. none j (omega arith) (omega arith)) in
    find-append p (f a) (flat_map f (range_with_len (a + 1) n)) ∙ (λ i. option_or (here i) (rest i))

-- the first that passes a test, where only one list has such
found_in : {X : Type 0} (p : X → Bool) (f : ℕ → List X) (a n k : ℕ) → a ≤ k → k < a + n → ((j : ℕ) → a ≤ j → j < a + n → (j ≡ k → ⊥) → find p (f j) ≡ None) → find p (flat_map f (range_with_len a n)) ≡ find p (f k)
found_in p f a zero k low high none = absurd (omega arith)
found_in {X = X} p f a (suc n) k low high none = find-append p (f a) (flat_map f (range_with_len (a + 1) n)) ∙ elim (cases_eq a k) [
  | inl same ↦ ap (λ (o : Option X). option_or (find p (f a)) o) (nowhere p f (a + 1) n (λ j least most. none j (omega arith) (omega arith) (λ e. absurd (omega arith)))) ∙ or_none (find p (f a))
      ∙ ap (λ (j : ℕ). find p (f j)) same
  | inr other ↦ ap (λ (o : Option X). option_or o (find p (flat_map f (range_with_len (a + 1) n)))) (none a (omega arith) (omega arith) other)
      ∙ found_in p f (a + 1) n k (omega arith) (omega arith) (λ j least most. none j (omega arith) (omega arith))
]

-- ---- what is listed in some slots

singles_lie : (own : ℕ → ℕ → Option PlainBox) (object a n : ℕ) → Each (LiesFrom object a (a + n)) (filter_map (single_in own object) (range_with_len a n))
singles_lie own object a zero = tt
singles_lie own object a (suc n) = go (own object a) refl (singles_lie own object (a + 1) n)
  where
    wider : (b : PlainBlock) → LiesFrom object (a + 1) (a + 1 + n) b → LiesFrom object a (a + suc n) b
    wider b lies = let from = lies.from in let to = lies.to in record { own = lies.own; from = omega arith; some = lies.some; to = omega arith }

    go : (o : Option PlainBox) → own object a ≡ o → Each (LiesFrom object (a + 1) (a + 1 + n)) (filter_map (single_in own object) (range_with_len (a + 1) n))
        → Each (LiesFrom object a (a + suc n)) (filter_map (single_in own object) (range_with_len a (suc n)))
    go None is rest =
        rw is (Each-weaker (LiesFrom object (a + 1) (a + 1 + n)) (LiesFrom object a (a + suc n)) wider (filter_map (single_in own object) (range_with_len (a + 1) n)) rest)
    go (Some area) is rest =
        let single : PlainBlock = record { object = object; first = a; last = a; area = area } in
        let here : LiesFrom object a (a + suc n) single = record { own = refl; from = omega arith; some = omega arith; to = omega arith } in
        let all : Each (LiesFrom object a (a + suc n)) (single ∷ filter_map (single_in own object) (range_with_len (a + 1) n)) =
        (here, Each-weaker (LiesFrom object (a + 1) (a + 1 + n)) (LiesFrom object a (a + suc n)) wider (filter_map (single_in own object) (range_with_len (a + 1) n)) rest) in
        rw is all

listed_lie : (own : ℕ → ℕ → Option PlainBox) (object first count : ℕ) (joined : Option PlainBox) → 0 < count → Each (LiesFrom object first (first + count)) (listed_in own object first count joined)
listed_lie own object first count None some = singles_lie own object first count
listed_lie own object first count (Some area) some = (record { own = refl; from = omega arith; some = omega arith; to = omega arith }, tt)

abbrev area_found : Option PlainBlock → Option PlainBox
area_found o = option_map (λ b. b.area) o

told_of : (object first last slot : ℕ) (area : PlainBox) → first ≤ slot → slot ≤ last → is_block_of object slot (record { object = object; first = first; last = last; area = area }) ≡ true
told_of object first last slot area low high = let e : eqb object object ≡ true = same_number object in grind (arith, nat_tests)

single_found : (own : ℕ → ℕ → Option PlainBox) (object a n slot : ℕ) → a ≤ slot → slot < a + n
    → area_found (find (is_block_of object slot) (filter_map (single_in own object) (range_with_len a n))) ≡ own object slot
single_found own object a zero slot low high = absurd (omega arith)
single_found own object a (suc n) slot low high = elim (cases_eq a slot) [
  | inl same ↦ here same (own object a) refl
  | inr other ↦ later other (own object a) refl (single_found own object (a + 1) n slot (omega arith) (omega arith))
]
  where
    rest : List PlainBlock
    rest = filter_map (single_in own object) (range_with_len (a + 1) n)

    behind : a ≡ slot → find (is_block_of object slot) rest ≡ None
    behind same =
        none_found (is_block_of object slot) rest
        (Each-weaker (LiesFrom object (a + 1) (a + 1 + n)) (λ b. is_block_of object slot b ≡ false)
        (λ b lies. not_told object (a + 1) (a + 1 + n) object slot b lies (λ e from to. absurd (omega arith))) rest (singles_lie own object (a + 1) n))

    single : PlainBox → PlainBlock
    single area = record { object = object; first = a; last = a; area = area }

    here : a ≡ slot → (o : Option PlainBox) → own object a ≡ o → area_found (find (is_block_of object slot) (filter_map (single_in own object) (range_with_len a (suc n)))) ≡ own object slot
    here same None is =
        let none = behind same in
        let own_is : own object slot ≡ None = subst (λ (k : ℕ). own object k ≡ None) same is in
        rw is (ap area_found none ∙ sym own_is)
    here same (Some area) is =
        let own_is : own object slot ≡ Some area = subst (λ (k : ℕ). own object k ≡ Some area) same is in
        let told : is_block_of object slot (single area) ≡ true = told_of object a a slot area (omega arith) (omega arith) in
        rw (is, told) (sym own_is)

    later : (a ≡ slot → ⊥) → (o : Option PlainBox) → own object a ≡ o → area_found (find (is_block_of object slot) rest) ≡ own object slot
        → area_found (find (is_block_of object slot) (filter_map (single_in own object) (range_with_len a (suc n)))) ≡ own object slot
    later other None is found = rw is found
    later other (Some area) is found =
        let lies : LiesFrom object a (a + 1) (single area) = record { own = refl; from = omega arith; some = omega arith; to = omega arith } in
        let missed : is_block_of object slot (single area) ≡ false = not_told object a (a + 1) object slot (single area) lies (λ e from to. absurd (omega arith)) in
        rw (is, missed) found

-- the box that is listed in one of some slots
listed_found : (own : ℕ → ℕ → Option PlainBox) (object first count slot : ℕ) (joined : Option PlainBox) → first ≤ slot → slot < first + count
    → area_found (find (is_block_of object slot) (listed_in own object first count joined)) ≡ option_or joined (own object slot)
listed_found own object first count slot None low high = single_found own object first count slot low high
listed_found own object first count slot (Some area) low high =
    let told : is_block_of object slot (record { object = object; first = first; last = first + count - 1; area = area }) ≡ true =
    told_of object first (first + count - 1) slot area low (omega arith) in
    rw told refl

-- ---- all objects

some_slots : (slots block : ℕ) → block < block_count slots → 0 < slots_in slots block
some_slots slots block lt = omega arith

-- each block of an object in one of its blocks of slots
each_in_block : (g : Given) (object block : ℕ) → block < block_count g.slots → Each (LiesFrom object (first_slot block) (first_slot block + slots_in g.slots block)) (blocks_in g object block)
each_in_block g object block lt =
    listed_lie (box_given g) object (first_slot block) (slots_in g.slots block) (joined_in g (current_boxes g object) object block) (some_slots g.slots block lt)

each_of_object : (g : Given) (object : ℕ) → Each (LiesFrom object 0 g.slots) (flat_map (blocks_in g object) (range_with_len 0 (block_count g.slots)))
each_of_object g object =
    Each-flat_map (LiesFrom object 0 g.slots) (blocks_in g object) (range_with_len 0 (block_count g.slots))
    (Each-range (λ block. Each (LiesFrom object 0 g.slots) (blocks_in g object block)) 0 (block_count g.slots) (λ block low high.
    Each-weaker (LiesFrom object (first_slot block) (first_slot block + slots_in g.slots block)) (LiesFrom object 0 g.slots)
    (λ b lies. let to = lies.to in record { own = lies.own; from = omega arith; some = lies.some; to = omega arith }) (blocks_in g object block) (each_in_block g object block (omega arith))))

-- the blocks that are listed of an object tell of its slots alone
none_of_other : (g : Given) (object i slot : ℕ) → (object ≡ i → ⊥) → find (is_block_of i slot) (flat_map (blocks_in g object) (range_with_len 0 (block_count g.slots))) ≡ None
none_of_other g object i slot other =
    let bs = flat_map (blocks_in g object) (range_with_len 0 (block_count g.slots)) in
    none_found (is_block_of i slot) bs
    (Each-weaker (LiesFrom object 0 g.slots) (λ b. is_block_of i slot b ≡ false) (λ b lies. not_told object 0 g.slots i slot b lies (λ e from to. other (sym e))) bs (each_of_object g object))

-- so do those of a block of slots
none_of_block : (g : Given) (object block slot : ℕ) → block < block_count g.slots → slot < g.slots → (block ≡ slot / BLOCK → ⊥) → find (is_block_of object slot) (blocks_in g object block) ≡ None
none_of_block g object block slot exists lt other =
    none_found (is_block_of object slot) (blocks_in g object block)
    (Each-weaker (LiesFrom object (first_slot block) (first_slot block + slots_in g.slots block)) (λ b. is_block_of object slot b ≡ false)
    (λ b lies. not_told object (first_slot block) (first_slot block + slots_in g.slots block) object slot b lies
    (λ e from to. other (sym (block_of_slot g.slots block slot (record { from = from; to = to }))))) (blocks_in g object block) (each_in_block g object block exists))

-- the box that is listed of an object in a slot is the current one after all were treated
pub listed_is : (g : Given) (object slot : ℕ) → object < g.objects → slot < g.slots → box_listed (blocks_of g) object slot ≡ current_boxes g g.objects object slot
unfolding blocks_of
listed_is g object slot exists lt =
    let block = slot / BLOCK in
    let here = in_own_block g.slots slot lt in
    ap area_found
    (found_in (is_block_of object slot) (λ i. flat_map (blocks_in g i) (range_with_len 0 (block_count g.slots))) 0 g.objects object (omega arith) (omega arith) (λ i low high other. none_of_other g i object slot other)
    ∙ found_in (is_block_of object slot) (blocks_in g object) 0 (block_count g.slots) block (omega arith) (omega arith)
    (λ j low high other. none_of_block g object j slot (omega arith) lt other))
    ∙ listed_found (box_given g) object (first_slot block) (slots_in g.slots block) slot (joined_in g (current_boxes g object) object block) here.from here.to
    ∙ sym (long_ago g g.objects object slot exists)
