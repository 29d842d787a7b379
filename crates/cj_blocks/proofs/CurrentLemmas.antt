-- The current boxes of objects, object by object: what has been treated stays, and a kept pair touches where its given boxes do.
use Rattle.std.proofs.Common.{◌≡◌, ℕ, zero, suc, ◌+◌, ◌/◌, ◌<◌, ◌≤◌, Bool, true, false, cond, eqb, List, [], ◌∷◌, filter, Option, Some, None, refl, sym, ap, ◌∙◌, subst, inl, inr, arith}
use Rattle.std.specs.Prelude.{◌||◌}
use Rattle.std.specs.Option.{option_or}
use Rattle.std.proofs.lemmas.Bool.{cases_eq, eqb-true, eq-eqb}
use Rattle.cj_interval.proofs.ListLemmas.{Each, Each-weaker, Each-always, Each-both}
use Rattle.cj_case.specs.PlainProblems.{threshold_between}
use Rattle.cj_case.specs.Boxes.{PlainBox}
use Rattle.cj_bezier.specs.SlotBoxes.{both_touch}
use Rattle.cj_blocks.specs.Blocks.{Given, BLOCK, box_given, first_slot, slots_in, is_pair_of, partner_of, touches_only_as, joined_in, current_boxes, pair_touches}
use Rattle.cj_blocks.proofs.JoinLemmas.{joins, touch_alike}
use Rattle.cj_blocks.proofs.RoundLemmas.{touch_swap}

-- ---- numbers

pub same_number : (a : ℕ) → eqb a a ≡ true
same_number a = eq-eqb a a refl

pub other_number : (a b : ℕ) → (a ≡ b → ⊥) → eqb a b ≡ false
other_number a b apart = go (eqb a b) refl
  where
    go : (c : Bool) → eqb a b ≡ c → c ≡ false
    go true is = absurd (apart (eqb-true a b is))
    go false is = refl

-- a slot is one of those of its block
pub record IsOfBlock (slots block slot : ℕ) : Type 0 where
  pub from : first_slot block ≤ slot
  pub to : slot < first_slot block + slots_in slots block

pub in_own_block : (slots slot : ℕ) → slot < slots → IsOfBlock slots (slot / BLOCK) slot
in_own_block slots slot lt = record { from = omega arith; to = omega arith }

pub block_of_slot : (slots block slot : ℕ) → IsOfBlock slots block slot → slot / BLOCK ≡ block
block_of_slot slots block slot is = let low = is.from in let high = is.to in omega arith

-- ---- what is treated when

-- an object that comes later has its given boxes
pub not_yet : (g : Given) (n object slot : ℕ) → n ≤ object → current_boxes g n object slot ≡ box_given g object slot
unfolding current_boxes
not_yet g zero object slot le = refl
not_yet g (suc n) object slot le =
    ap (λ (b : Bool). cond b (option_or (joined_in g (current_boxes g n) n (slot / BLOCK)) (box_given g n slot)) (current_boxes g n object slot)) (other_number object n (λ e. absurd (omega arith)))
    ∙ not_yet g n object slot (omega arith)

-- an object that has just been treated
pub just_now : (g : Given) (n slot : ℕ) → current_boxes g (suc n) n slot ≡ option_or (joined_in g (current_boxes g n) n (slot / BLOCK)) (box_given g n slot)
unfolding current_boxes
just_now g n slot =
    ap (λ (b : Bool). cond b (option_or (joined_in g (current_boxes g n) n (slot / BLOCK)) (box_given g n slot)) (current_boxes g n n slot)) (same_number n)

-- any other object
pub not_now : (g : Given) (n object slot : ℕ) → (object ≡ n → ⊥) → current_boxes g (suc n) object slot ≡ current_boxes g n object slot
unfolding current_boxes
not_now g n object slot other =
    ap (λ (b : Bool). cond b (option_or (joined_in g (current_boxes g n) n (slot / BLOCK)) (box_given g n slot)) (current_boxes g n object slot)) (other_number object n other)

-- an object that has been treated
pub long_ago : (g : Given) (n object slot : ℕ) → object < n → current_boxes g n object slot ≡ option_or (joined_in g (current_boxes g object) object (slot / BLOCK)) (box_given g object slot)
long_ago g zero object slot lt = absurd (omega arith)
long_ago g (suc n) object slot lt = elim (cases_eq object n) [
  | inl same ↦ subst (λ (k : ℕ). current_boxes g (suc k) object slot ≡ option_or (joined_in g (current_boxes g object) object (slot / BLOCK)) (box_given g object slot)) same (just_now g object slot)
  | inr other ↦ not_now g n object slot other ∙ long_ago g n object slot (omega arith)
]

-- ---- what touches

-- one of the elements that a test takes
pub filtered_each : {X : Type 0} (P : X → Type 0) (test : X → Bool) (xs : List X) → Each P (filter test xs) → Each (λ x. test x ≡ true → P x) xs
filtered_each P test [] each = tt
filtered_each P test (x ∷ xs) each = go (filtered_each P test xs) (test x) refl each
  where
    go : (Each P (filter test xs) → Each (λ x. test x ≡ true → P x) xs) → (b : Bool) → test x ≡ b → Each P (cond b (x ∷ filter test xs) (filter test xs)) → (test x ≡ true → P x) × Each (λ x. test x ≡ true → P x) xs
    go rest true is e = (λ passes. e.0, rest e.1)
    go rest false is e = (λ passes. absurd cc, rest e)

-- the pairs that are kept, the lower number first
abbrev pub AreOrdered : Given → Type 0
AreOrdered g = Each (λ pair. pair.0 < pair.1) g.kept

-- the boxes of two objects touch as the given ones do
abbrev pub TouchesAsGiven : Given → (ℕ → ℕ → Option PlainBox) → ℕ → ℕ × ℕ → Type 0
TouchesAsGiven g boxes slot pair = pair_touches g boxes slot pair ≡ pair_touches g (box_given g) slot pair

-- a joined box of an object touches the current box of its partner as the given box does
abbrev IsAlike : Given → ℕ → ℕ → PlainBox → ℕ × ℕ → Type 0
IsAlike g n slot area pair =
    both_touch (threshold_between g.threshold g.sizes pair.0 pair.1) (Some area) (current_boxes g n (partner_of n pair) slot)
    ≡ both_touch (threshold_between g.threshold g.sizes pair.0 pair.1) (box_given g n slot) (current_boxes g n (partner_of n pair) slot)

alike : (g : Given) (n slot : ℕ) (area : PlainBox) → slot < g.slots → joined_in g (current_boxes g n) n (slot / BLOCK) ≡ Some area
    → Each (λ pair. is_pair_of n pair ≡ true → IsAlike g n slot area pair) g.kept
alike g n slot area lt is =
    let block = slot / BLOCK in
    let here = in_own_block g.slots slot lt in
    let j = joins g.threshold g.sizes (filter (is_pair_of n) g.kept) (box_given g) (current_boxes g n) n (first_slot block) (slots_in g.slots block) area is in
    filtered_each (IsAlike g n slot area) (is_pair_of n) g.kept
    (Each-weaker (λ pair. (k : ℕ) → first_slot block ≤ k → k < first_slot block + slots_in g.slots block
    → touches_only_as (threshold_between g.threshold g.sizes pair.0 pair.1) (Some area) (box_given g n k) (current_boxes g n (partner_of n pair) k) ≡ true) (IsAlike g n slot area)
    (λ pair only. touch_alike (threshold_between g.threshold g.sizes pair.0 pair.1) area (box_given g n slot) (current_boxes g n (partner_of n pair) slot) (j.holds slot here.from here.to) (only slot here.from here.to))
    (filter (is_pair_of n) g.kept) j.touches)

-- one pair when one more object, which is joined there, is treated
one_pair : (g : Given) (n slot : ℕ) (area : PlainBox) → joined_in g (current_boxes g n) n (slot / BLOCK) ≡ Some area → (a b : ℕ) → a < b
    → (is_pair_of n (a, b) ≡ true → IsAlike g n slot area (a, b)) → TouchesAsGiven g (current_boxes g n) slot (a, b) → TouchesAsGiven g (current_boxes g (suc n)) slot (a, b)
one_pair g n slot area is a b up alike before = elim (cases_eq a n) [
  | inl same ↦ first same
  | inr other ↦ elim (cases_eq b n) [
    | inl same ↦ second other same
    | inr apart ↦ (λ i. both_touch thr (not_now g n a slot other i) (not_now g n b slot apart i)) ∙ before
  ]
]
  where
    thr : ℕ
    thr = threshold_between g.threshold g.sizes a b

    now : current_boxes g (suc n) n slot ≡ Some area
    now = just_now g n slot ∙ ap (λ (o : Option PlainBox). option_or o (box_given g n slot)) is

    own : box_given g n slot ≡ current_boxes g n n slot
    own = sym (not_yet g n n slot (omega arith))

    first : a ≡ n → TouchesAsGiven g (current_boxes g (suc n)) slot (a, b)
    first same =
        let test : eqb a n ≡ true = ap (λ (k : ℕ). eqb k n) same ∙ same_number n in
        let partner : partner_of n (a, b) ≡ b = ap (λ (c : Bool). cond c b a) test in
        let told : is_pair_of n (a, b) ≡ true = ap (λ (c : Bool). c || eqb b n) test in
        let touch : both_touch thr (Some area) (current_boxes g n b slot) ≡ both_touch thr (box_given g n slot) (current_boxes g n b slot) =
        subst (λ (k : ℕ). both_touch thr (Some area) (current_boxes g n k slot) ≡ both_touch thr (box_given g n slot) (current_boxes g n k slot)) partner (alike told) in
        let one : current_boxes g (suc n) a slot ≡ Some area = ap (λ (k : ℕ). current_boxes g (suc n) k slot) same ∙ now in
        let two = not_now g n b slot (λ e. absurd (omega arith)) in
        let back : box_given g n slot ≡ current_boxes g n a slot = own ∙ ap (λ (k : ℕ). current_boxes g n k slot) (sym same) in
        (λ i. both_touch thr (one i) (two i)) ∙ touch ∙ ap (λ (o : Option PlainBox). both_touch thr o (current_boxes g n b slot)) back ∙ before

    second : (a ≡ n → ⊥) → b ≡ n → TouchesAsGiven g (current_boxes g (suc n)) slot (a, b)
    second other same =
        let none : eqb a n ≡ false = other_number a n other in
        let test : eqb b n ≡ true = ap (λ (k : ℕ). eqb k n) same ∙ same_number n in
        let partner : partner_of n (a, b) ≡ a = ap (λ (c : Bool). cond c b a) none in
        let told : is_pair_of n (a, b) ≡ true = (λ i. none i || test i) in
        let touch : both_touch thr (Some area) (current_boxes g n a slot) ≡ both_touch thr (box_given g n slot) (current_boxes g n a slot) =
        subst (λ (k : ℕ). both_touch thr (Some area) (current_boxes g n k slot) ≡ both_touch thr (box_given g n slot) (current_boxes g n k slot)) partner (alike told) in
        let one = not_now g n a slot other in
        let two : current_boxes g (suc n) b slot ≡ Some area = ap (λ (k : ℕ). current_boxes g (suc n) k slot) same ∙ now in
        let back : box_given g n slot ≡ current_boxes g n b slot = own ∙ ap (λ (k : ℕ). current_boxes g n k slot) (sym same) in
        (λ i. both_touch thr (one i) (two i)) ∙ touch_swap thr (current_boxes g n a slot) (Some area) ∙ touch ∙ ap (λ (o : Option PlainBox). both_touch thr o (current_boxes g n a slot)) back
        ∙ touch_swap thr (current_boxes g n b slot) (current_boxes g n a slot) ∙ before

-- where an object is not joined, all stays in this slot
all_stay : (g : Given) (n slot : ℕ) → joined_in g (current_boxes g n) n (slot / BLOCK) ≡ None → (object : ℕ) → current_boxes g (suc n) object slot ≡ current_boxes g n object slot
all_stay g n slot is object = elim (cases_eq object n) [
  | inl same ↦ subst (λ (k : ℕ). current_boxes g (suc n) k slot ≡ current_boxes g n k slot) (sym same)
      (just_now g n slot ∙ ap (λ (o : Option PlainBox). option_or o (box_given g n slot)) is ∙ sym (not_yet g n n slot (omega arith)))
  | inr other ↦ not_now g n object slot other
]

-- in a slot the current boxes of each kept pair touch as the given ones do
pub touch_as_given : (g : Given) (n slot : ℕ) → AreOrdered g → slot < g.slots → Each (TouchesAsGiven g (current_boxes g n) slot) g.kept
unfolding current_boxes
touch_as_given g zero slot ordered lt = Each-always (TouchesAsGiven g (box_given g) slot) (λ pair. refl) g.kept
touch_as_given g (suc n) slot ordered lt = go (joined_in g (current_boxes g n) n (slot / BLOCK)) refl (touch_as_given g n slot ordered lt)
  where
    go : (o : Option PlainBox) → joined_in g (current_boxes g n) n (slot / BLOCK) ≡ o → Each (TouchesAsGiven g (current_boxes g n) slot) g.kept → Each (TouchesAsGiven g (current_boxes g (suc n)) slot) g.kept
    go None is before =
        Each-weaker (TouchesAsGiven g (current_boxes g n) slot) (TouchesAsGiven g (current_boxes g (suc n)) slot)
        (λ pair h. (λ i. both_touch (threshold_between g.threshold g.sizes pair.0 pair.1) (all_stay g n slot is pair.0 i) (all_stay g n slot is pair.1 i)) ∙ h) g.kept before
    go (Some area) is before =
        Each-weaker (λ pair. ((pair.0 < pair.1) × (is_pair_of n pair ≡ true → IsAlike g n slot area pair)) × TouchesAsGiven g (current_boxes g n) slot pair)
        (TouchesAsGiven g (current_boxes g (suc n)) slot)
        (λ pair h. one_pair g n slot area is pair.0 pair.1 h.0.0 h.0.1 h.1) g.kept
        (Each-both (λ pair. (pair.0 < pair.1) × (is_pair_of n pair ≡ true → IsAlike g n slot area pair)) (TouchesAsGiven g (current_boxes g n) slot) g.kept
        (Each-both (λ pair. pair.0 < pair.1) (λ pair. is_pair_of n pair ≡ true → IsAlike g n slot area pair) g.kept ordered (alike g n slot area lt is)) before)
