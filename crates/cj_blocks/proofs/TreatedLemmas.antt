-- An object that is treated block by block, and objects one after another.
use Rattle.std.proofs.Common.{◌≡◌, ℕ, zero, suc, ◌+◌, ◌/◌, ◌<◌, ◌≤◌, Bool, true, false, cond, eqb, List, [], ◌∷◌, map, filter, get_or, length, Vec, Global, Option, refl, sym, ap, ◌∙◌, subst, inl, inr, arith}
use Rattle.std.specs.Prelude.{◌==◌, ◌&&◌, nat_lt, All}
use Rattle.std.specs.List.{flat_map, range_with_len}
use Rattle.std.specs.Option.{option_or}
use Rattle.std.proofs.lemmas.Bool.{cases_eq, cases_lt, eq-eqb}
use Rattle.std.proofs.lemmas.Bool.Decides.{nat_tests}
use Rattle.cj_interval.proofs.ListLemmas.{Each, Each-always, Each-map, Each-range, All-from_each, each_from_All, each_from_map, Each-filter, flat_map_alike}
use Rattle.cj_case.specs.declared.pair.Pair.{Pair}
use Rattle.cj_case.specs.Pairs.{objects_of}
use Rattle.cj_case.specs.declared.axis_box.AxisBox.{AxisBox}
use Rattle.cj_case.specs.Boxes.{PlainBox, plain_rows}
use Rattle.cj_blocks.specs.Blocks.{PlainBlock, Given, BLOCK, block_count, box_given, first_slot, slots_in, is_pair_of, partner_of, joined_box, joined_in, current_boxes, listed_in, blocks_in, blocks_of}
use Rattle.cj_blocks.specs.BoxRows.{box_at}
use Rattle.cj_blocks.specs.Listed.{Treated, IsFilled, IsTreated, block_of, given, joined_of, listed_of}
use Rattle.cj_blocks.specs.PairsByObject.{pairs_at}
use Rattle.cj_blocks.proofs.CurrentLemmas.{block_of_slot, just_now, not_now, not_yet, other_number, same_number}
use Rattle.cj_blocks.proofs.FillLemmas.{is_before, is_behind, is_inside, is_of_other}
use Rattle.cj_blocks.proofs.JoinLemmas.{joined_same}

-- ---- other current boxes

-- the same object with other current boxes
abbrev pub with_boxes : Treated → ℕ → List (List (Option AxisBox)) → Treated
with_boxes t slots current = record { pairs = t.pairs; slots = slots; boxes = t.boxes; current = current; sizes = t.sizes; threshold = t.threshold }

-- after the first blocks of an object it has its listed boxes in their slots, and all else is as before
abbrev pub IsTreatedTo : Treated → ℕ → ℕ → List (List (Option AxisBox)) → Type 0
IsTreatedTo t object blocks new = (other slot : ℕ) → slot < t.slots → box_at (plain_rows new) other slot
    ≡ cond (other == object && nat_lt slot (first_slot blocks)) (option_or (joined_of t object (first_slot (slot / BLOCK)) (slots_in t.slots (slot / BLOCK))) (box_at (plain_rows t.current) other slot))
    (box_at (plain_rows t.current) other slot)

-- the partner is another object
partner_differs : (object : ℕ) (pair : Pair) → partner_of object (objects_of pair) ≡ object → ⊥
partner_differs object pair = elim (cases_eq pair.a object) [
  | inl same ↦ λ e.
      let up = pair.ordered in
      let is : partner_of object (objects_of pair) ≡ pair.b = ap (λ (c : Bool). cond c pair.b pair.a) (eq-eqb pair.a object same) in
      absurd (omega (arith, is, e, same, up))
  | inr other ↦ λ e.
      let is : partner_of object (objects_of pair) ≡ pair.a = ap (λ (c : Bool). cond c pair.b pair.a) (other_number pair.a object other) in
      other (sym is ∙ e)
]

not_own : (other object n slot : ℕ) → (other ≡ object → ⊥) → (other == object && nat_lt slot n) ≡ false
not_own other object n slot apart = let none : eqb other object ≡ false = other_number other object apart in rw none refl

own_before : (object n slot : ℕ) → slot < n → (object == object && nat_lt slot n) ≡ true
own_before object n slot lt = let own : eqb object object ≡ true = same_number object in grind (arith, nat_tests)

own_behind : (object n slot : ℕ) → n ≤ slot → (object == object && nat_lt slot n) ≡ false
own_behind object n slot le = let own : eqb object object ≡ true = same_number object in grind (arith, nat_tests)

-- what is joined does not change while the object itself is treated
pub joined_still : (t : Treated) (object blocks q : ℕ) (now : List (List (Option AxisBox))) → IsTreatedTo t object blocks now → q < block_count t.slots
    → joined_of (with_boxes t t.slots now) object (first_slot q) (slots_in t.slots q) ≡ joined_of t object (first_slot q) (slots_in t.slots q)
joined_still t object blocks q now treated exists =
    joined_same t.threshold t.sizes (map objects_of t.pairs) (box_at (plain_rows t.boxes)) (box_at (plain_rows now)) (box_at (plain_rows t.current)) object (first_slot q) (slots_in t.slots q)
    (Each-map (λ pair. (slot : ℕ) → first_slot q ≤ slot → slot < first_slot q + slots_in t.slots q
    → box_at (plain_rows now) (partner_of object pair) slot ≡ box_at (plain_rows t.current) (partner_of object pair) slot) objects_of t.pairs
    (Each-always (λ pair. (slot : ℕ) → first_slot q ≤ slot → slot < first_slot q + slots_in t.slots q
    → box_at (plain_rows now) (partner_of object (objects_of pair)) slot ≡ box_at (plain_rows t.current) (partner_of object (objects_of pair)) slot)
    (λ pair slot low high.
    let other = partner_of object (objects_of pair) in
    treated other slot (omega arith)
    ∙ ap (λ (b : Bool). cond b (option_or (joined_of t object (first_slot (slot / BLOCK)) (slots_in t.slots (slot / BLOCK))) (box_at (plain_rows t.current) other slot)) (box_at (plain_rows t.current) other slot))
    (not_own other object (first_slot blocks) slot (partner_differs object pair))) t.pairs))

-- ---- one block more

block_filled : (t : Treated) (object q : ℕ) (now new : List (List (Option AxisBox))) → q < block_count t.slots → IsTreatedTo t object q now
    → IsFilled t.slots object (first_slot q) (slots_in t.slots q) (joined_of (with_boxes t t.slots now) object (first_slot q) (slots_in t.slots q)) now new → IsTreatedTo t object (q + 1) new
block_filled t object q now new exists treated filled other k lt = elim (cases_eq other object) [
  | inr apart ↦
      filled other k lt
      ∙ ap (λ (b : Bool). cond b (option_or joined (box_at (plain_rows now) other k)) (box_at (plain_rows now) other k)) (is_of_other other object (first_slot q) (first_slot q + slots_in t.slots q) k apart)
      ∙ treated other k lt
      ∙ ap (choose other) (not_own other object (first_slot q) k apart ∙ sym (not_own other object (first_slot (q + 1)) k apart))
  | inl same ↦ subst (λ (o : ℕ). box_at (plain_rows new) o k ≡ choose o (o == object && nat_lt k (first_slot (q + 1)))) (sym same)
      (elim (cases_lt k (first_slot q)) [
        | inl early ↦
            filled object k lt ∙ ap still (is_before object (first_slot q) (first_slot q + slots_in t.slots q) k early)
            ∙ treated object k lt
            ∙ ap (choose object) (own_before object (first_slot q) k early ∙ sym (own_before object (first_slot (q + 1)) k (omega arith)))
        | inr late ↦ elim (cases_lt k (first_slot q + slots_in t.slots q)) [
          | inl inside ↦
              let block : k / BLOCK ≡ q = block_of_slot t.slots q k (record { from = late; to = inside }) in
              let before : box_at (plain_rows now) object k ≡ box_at (plain_rows t.current) object k = treated object k lt ∙ ap (choose object) (own_behind object (first_slot q) k late) in
              let joined_here : joined ≡ joined_of t object (first_slot (k / BLOCK)) (slots_in t.slots (k / BLOCK)) =
              joined_still t object q q now treated exists ∙ ap (λ (p : ℕ). joined_of t object (first_slot p) (slots_in t.slots p)) (sym block) in
              filled object k lt ∙ ap still (is_inside object (first_slot q) (first_slot q + slots_in t.slots q) k late inside)
              ∙ (λ i. option_or (joined_here i) (before i))
              ∙ ap (choose object) (sym (own_before object (first_slot (q + 1)) k (omega arith)))
          | inr behind ↦
              filled object k lt ∙ ap still (is_behind object (first_slot q) (first_slot q + slots_in t.slots q) k behind)
              ∙ treated object k lt
              ∙ ap (choose object) (own_behind object (first_slot q) k late ∙ sym (own_behind object (first_slot (q + 1)) k (omega arith)))
        ]
      ])
]
  where
    joined : Option PlainBox
    joined = joined_of (with_boxes t t.slots now) object (first_slot q) (slots_in t.slots q)

    still : Bool → Option PlainBox
    still b = cond b (option_or joined (box_at (plain_rows now) object k)) (box_at (plain_rows now) object k)

    choose : ℕ → Bool → Option PlainBox
    choose o b = cond b (option_or (joined_of t object (first_slot (k / BLOCK)) (slots_in t.slots (k / BLOCK))) (box_at (plain_rows t.current) o k)) (box_at (plain_rows t.current) o k)

-- the slots of a block, as a program has them
pub record AreSlotsOf (slots q all first count : ℕ) : Type 0 where
  pub same : all ≡ slots
  pub from : first ≡ first_slot q
  pub many : count ≡ slots_in slots q

pub one_block_more : (t : Treated) (object q all first count : ℕ) (now new : List (List (Option AxisBox))) → AreSlotsOf t.slots q all first count → q < block_count t.slots → IsTreatedTo t object q now
    → IsFilled all object first count (joined_of (with_boxes t all now) object first count) now new → IsTreatedTo t object (q + 1) new
one_block_more t object q all first count now new are exists treated filled =
    block_filled t object q now new exists treated
    (subst (λ (n : ℕ). IsFilled t.slots object (first_slot q) n (joined_of (with_boxes t t.slots now) object (first_slot q) n) now new) are.many
    (subst (λ (f : ℕ). IsFilled t.slots object f count (joined_of (with_boxes t t.slots now) object f count) now new) are.from
    (subst (λ (a : ℕ). IsFilled a object first count (joined_of (with_boxes t a now) object first count) now new) are.same filled)))

-- what is listed in it
pub block_listed : (t : Treated) (object q all first count : ℕ) (now : List (List (Option AxisBox))) → AreSlotsOf t.slots q all first count → q < block_count t.slots → IsTreatedTo t object q now
    → listed_of (with_boxes t all now) object first count ≡ block_of t object q
block_listed t object q all first count now are exists treated =
    (λ i. listed_of (with_boxes t (are.same i) now) object (are.from i) (are.many i))
    ∙ ap (listed_in (box_at (plain_rows t.boxes)) object (first_slot q) (slots_in t.slots q)) (joined_still t object q q now treated exists)

-- after all blocks
pub all_treated : (t : Treated) (object blocks : ℕ) (new : List (List (Option AxisBox))) → block_count t.slots ≤ blocks → IsTreatedTo t object blocks new → IsTreated t object new
all_treated t object blocks new all treated other k lt = treated other k lt ∙ ap choose (whole (eqb other object))
  where
    choose : Bool → Option PlainBox
    choose b = cond b (option_or (joined_of t object (first_slot (k / BLOCK)) (slots_in t.slots (k / BLOCK))) (box_at (plain_rows t.current) other k)) (box_at (plain_rows t.current) other k)

    whole : (b : Bool) → (b && nat_lt k (first_slot blocks)) ≡ b
    whole true = let within : k < first_slot blocks = omega arith in grind (arith, nat_tests)
    whole false = refl

-- ---- one object more

-- the current boxes of a program are those of what is given
abbrev pub AreCurrent : Given → ℕ → List (List (Option AxisBox)) → Type 0
AreCurrent g n current = (other slot : ℕ) → slot < g.slots → box_at (plain_rows current) other slot ≡ current_boxes g n other slot

-- an object of what is given, with its pairs
abbrev pub treated : List Pair → List Pair → ℕ → ℕ → List (List (Option AxisBox)) → List (List (Option AxisBox)) → List ℕ → ℕ → Treated
treated kept pairs objects slots boxes current sizes thr = record { pairs = pairs; slots = slots; boxes = boxes; current = current; sizes = sizes; threshold = thr }

joined_as : (kept pairs : List Pair) (objects slots : ℕ) (boxes current : List (List (Option AxisBox))) (sizes : List ℕ) (thr n q : ℕ) → map objects_of pairs ≡ filter (is_pair_of n) (map objects_of kept)
    → AreCurrent (given kept objects slots boxes sizes thr) n current → q < block_count slots
    → joined_of (treated kept pairs objects slots boxes current sizes thr) n (first_slot q) (slots_in slots q)
    ≡ joined_in (given kept objects slots boxes sizes thr) (current_boxes (given kept objects slots boxes sizes thr) n) n q
joined_as kept pairs objects slots boxes current sizes thr n q same are exists =
    ap (λ (ps : List (ℕ × ℕ)). joined_box thr sizes ps (box_at (plain_rows boxes)) (box_at (plain_rows current)) n (range_with_len (first_slot q) (slots_in slots q))) same
    ∙ joined_same thr sizes (filter (is_pair_of n) (map objects_of kept)) (box_at (plain_rows boxes)) (box_at (plain_rows current))
    (current_boxes (given kept objects slots boxes sizes thr) n) n (first_slot q) (slots_in slots q)
    (Each-always (λ pair. (slot : ℕ) → first_slot q ≤ slot → slot < first_slot q + slots_in slots q
    → box_at (plain_rows current) (partner_of n pair) slot ≡ current_boxes (given kept objects slots boxes sizes thr) n (partner_of n pair) slot)
    (λ pair slot low high. are (partner_of n pair) slot (omega arith)) (filter (is_pair_of n) (map objects_of kept)))

pub one_object_more : (kept pairs : List Pair) (objects slots : ℕ) (boxes current new : List (List (Option AxisBox))) (sizes : List ℕ) (thr n : ℕ) → map objects_of pairs ≡ filter (is_pair_of n) (map objects_of kept)
    → AreCurrent (given kept objects slots boxes sizes thr) n current → IsTreated (treated kept pairs objects slots boxes current sizes thr) n new
    → AreCurrent (given kept objects slots boxes sizes thr) (suc n) new
one_object_more kept pairs objects slots boxes current new sizes thr n same are is other k lt = is other k lt ∙ elim (cases_eq other n) [
  | inr apart ↦ ap (choose other) (other_number other n apart) ∙ are other k lt ∙ sym (not_now g n other k apart)
  | inl own ↦ subst (λ (o : ℕ). choose o (o == n) ≡ current_boxes g (suc n) o k) (sym own)
      (let joined : joined_of t n (first_slot (k / BLOCK)) (slots_in slots (k / BLOCK)) ≡ joined_in g (current_boxes g n) n (k / BLOCK) =
      joined_as kept pairs objects slots boxes current sizes thr n (k / BLOCK) same are (omega arith) in
      let before : box_at (plain_rows current) n k ≡ box_given g n k = are n k lt ∙ not_yet g n n k (omega arith) in
      ap (choose n) (same_number n) ∙ (λ i. option_or (joined i) (before i)) ∙ sym (just_now g n k))
]
  where
    g : Given
    g = given kept objects slots boxes sizes thr

    t : Treated
    t = treated kept pairs objects slots boxes current sizes thr

    choose : ℕ → Bool → Option PlainBox
    choose o b = cond b (option_or (joined_of t n (first_slot (k / BLOCK)) (slots_in slots (k / BLOCK))) (box_at (plain_rows current) o k)) (box_at (plain_rows current) o k)

-- what is listed of the object
pub object_listed : (kept pairs : List Pair) (objects slots : ℕ) (boxes current : List (List (Option AxisBox))) (sizes : List ℕ) (thr n : ℕ) → map objects_of pairs ≡ filter (is_pair_of n) (map objects_of kept)
    → AreCurrent (given kept objects slots boxes sizes thr) n current
    → flat_map (block_of (treated kept pairs objects slots boxes current sizes thr) n) (range_with_len 0 (block_count slots))
    ≡ flat_map (blocks_in (given kept objects slots boxes sizes thr) n) (range_with_len 0 (block_count slots))
object_listed kept pairs objects slots boxes current sizes thr n same are =
    flat_map_alike (block_of (treated kept pairs objects slots boxes current sizes thr) n) (blocks_in (given kept objects slots boxes sizes thr) n) (range_with_len 0 (block_count slots))
    (Each-range (λ q. block_of (treated kept pairs objects slots boxes current sizes thr) n q ≡ blocks_in (given kept objects slots boxes sizes thr) n q) 0 (block_count slots)
    (λ q low high. ap (listed_in (box_at (plain_rows boxes)) n (first_slot q) (slots_in slots q)) (joined_as kept pairs objects slots boxes current sizes thr n q same are (omega arith))))

-- the list of an object among those of all
pub list_at : (lists : List (Vec Pair Global)) (object : ℕ) (list : Vec Pair Global) → object < length lists → list ≡ get_or lists object list → pairs_at (map (λ list. list.items) lists) object ≡ list.items
list_at [] object list exists is = absurd (omega arith)
list_at (l ∷ lists) zero list exists is = ap (λ (x : Vec Pair Global). x.items) (sym is)
list_at (l ∷ lists) (suc object) list exists is = list_at lists object list (omega arith) is

-- ---- the pairs of an object

-- the pairs that are kept, the lower number first
pub kept_ordered : (kept : List Pair) → Each (λ pair. pair.0 < pair.1) (map objects_of kept)
kept_ordered kept = Each-map (λ pair. pair.0 < pair.1) objects_of kept (Each-always (λ pair. pair.a < pair.b) (λ pair. pair.ordered) kept)

pub kept_exist : (m : ℕ) (kept : List Pair) → All (λ pair. pair.b < m) kept → Each (λ pair. pair.1 < m) (map objects_of kept)
kept_exist m kept exist = Each-map (λ pair. pair.1 < m) objects_of kept (each_from_All (λ pair. pair.b < m) kept exist)

pub pairs_exist : (n m : ℕ) (kept pairs : List Pair) → map objects_of pairs ≡ filter (is_pair_of n) (map objects_of kept) → All (λ pair. pair.b < m) kept → All (λ pair. pair.b < m) pairs
pairs_exist n m kept pairs same exist =
    All-from_each (λ pair. pair.b < m) pairs
    (each_from_map (λ pair. pair.1 < m) objects_of pairs
    (subst (λ (ps : List (ℕ × ℕ)). Each (λ pair. pair.1 < m) ps) (sym same)
    (Each-filter (λ pair. pair.1 < m) (is_pair_of n) (map objects_of kept) (kept_exist m kept exist))))

-- ---- all objects

pub all_listed : (g : Given) (n : ℕ) (blocks : List PlainBlock) → n ≡ g.objects → blocks ≡ flat_map (λ object. flat_map (blocks_in g object) (range_with_len 0 (block_count g.slots))) (range_with_len 0 n)
    → blocks ≡ blocks_of g
unfolding blocks_of
all_listed g n blocks all is = is ∙ ap (λ (k : ℕ). flat_map (λ object. flat_map (blocks_in g object) (range_with_len 0 (block_count g.slots))) (range_with_len 0 k)) all
