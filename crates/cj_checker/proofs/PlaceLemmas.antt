-- The places of box lines, one after another.
use Rattle.std.proofs.Common.{◌≡◌, ℕ, zero, suc, ◌+◌, ◌-◌, ◌<◌, ◌≤◌, Bool, true, false, cond, ◌&&◌, List, [], ◌∷◌, ◌++◌, map, filter, drop, Option, Some, None, refl, sym, ap, ◌∙◌, subst, inl, inr, arith}
use Rattle.std.specs.Prelude.{◌==◌, is_some, slice_get}
use Rattle.std.specs.List.{enumerate_from, flat_map, list_all, range_with_len}
use Rattle.std.specs.Option.{option_map_or}
use Rattle.std.proofs.lemmas.Bool.{and_from, and_left, and_parts, cases_eq, cases_lt, eq-eqb, eqb-true, false_from_ne_true}
use Rattle.cj_interval.proofs.ListLemmas.{Each, Each-always, Each-append, Each-flat_map, Each-map, Each-weaker}
use Rattle.cj_interval.proofs.RangeLemmas.{none_in_range_passes}
use Rattle.cj_base.specs.declared.tick.Window.{Window}
use Rattle.cj_track.specs.PlainTracks.{PlainTrack}
use Rattle.cj_hermite.specs.Pieces.{piece_at}
use Rattle.cj_case.specs.PlainProblems.{PlainProblem}
use Rattle.cj_case.specs.Slots.{slot_first, slot_last, slot_count, slot_of}
use Rattle.cj_hermite.specs.Walks.{HasNone, IsNextRun}
use Rattle.cj_case.proofs.SlotLemmas.{slot_exists, slot_begins, slot_ends, slots_follow}
use Rattle.cj_bezier.specs.Parts.{hulls_of}
use Rattle.cj_case.specs.Boxes.{PlainBox}
use Rattle.cj_cert.specs.Accepted.{has_state_in}
use Rattle.cj_cert.specs.Certificates.{PlainBoxLine}
use Rattle.cj_checker.specs.Places.{slots_from, places_of, places_in, places_from}
use Rattle.cj_checker.specs.Tests.{is_hull_in, is_in_box, holds_in_slot, are_in_front}
use Rattle.cj_checker.proofs.TestLemmas.{state_some, state_none}
use Rattle.cj_checker.proofs.UnfitLemmas.{dropped, ended, numbered, unnumbered}

-- ---- numbers that pass a test

-- those in front that do not are left out
pub filter_skip : (p : ℕ → Bool) (a n s m : ℕ) → a ≤ s → s + m ≡ a + n → ((k : ℕ) → a ≤ k → k < s → p k ≡ false) → filter p (range_with_len a n) ≡ filter p (range_with_len s m)
filter_skip p a zero s m le end none =
    let at : a ≡ s = omega arith in
    let rest : zero ≡ m = omega arith in
    λ j. filter p (range_with_len (at j) (rest j))
filter_skip p a (suc n) s m le end none = elim (cases_eq a s) [
  | inl same ↦
      let rest : suc n ≡ m = omega arith in
      λ j. filter p (range_with_len (same j) (rest j))
  | inr other ↦
      let here : p a ≡ false = none a (omega arith) (omega arith) in
      rw here (filter_skip p (a + 1) n s m (omega arith) (omega arith) (λ k low high. none k (omega arith) high))
]

-- the first that does
pub filter_here : (p : ℕ → Bool) (a n m : ℕ) → n ≡ suc m → p a ≡ true → filter p (range_with_len a n) ≡ a ∷ filter p (range_with_len (a + 1) m)
filter_here p a n m is passes = rw (is, passes) refl

-- ---- places

all_places : (case : PlainProblem) (objects : List (ℕ × PlainTrack)) → flat_map (λ other. places_of case other 0) objects ≡ places_in case objects 0
all_places case [] = refl
all_places case (object ∷ objects) = refl

-- the places from an object on, of its own first
front : (case : PlainProblem) (object slot : ℕ) (e : PlainTrack) → slice_get case.tracks object ≡ Some e
    → places_from case object slot ≡ places_of case (object, e) slot ++ places_from case (object + 1) 0
front case object slot e is =
    let number : 0 + object ≡ object = omega arith in
    let at = dropped (enumerate_from 0 case.tracks) object (object, e) (numbered 0 case.tracks object e is ∙ ap (λ (k : ℕ). Some (k, e)) number) in
    ap (λ (objects : List (ℕ × PlainTrack)). places_in case objects slot) at
    ∙ ap (λ (places : List (ℕ × ℕ)). places_of case (object, e) slot ++ places) (all_places case (drop (object + 1) (enumerate_from 0 case.tracks)))

pub no_place : (case : PlainProblem) (object slot : ℕ) → slice_get case.tracks object ≡ None → places_from case object slot ≡ []
no_place case object slot is = ap (λ (objects : List (ℕ × PlainTrack)). places_in case objects slot) (ended (enumerate_from 0 case.tracks) object (unnumbered 0 case.tracks object is))

-- an object without a state from the slot on
pub next_object : (case : PlainProblem) (object slot : ℕ) (e : PlainTrack) → slice_get case.tracks object ≡ Some e → slots_from case e slot ≡ []
    → places_from case object slot ≡ places_from case (object + 1) 0
next_object case object slot e is empty =
    front case object slot e is ∙ ap (λ (slots : List ℕ). map (λ (s : ℕ). let place : ℕ × ℕ = (object, s) in place) slots ++ places_from case (object + 1) 0) empty

-- an object with a state, the first in this slot
pub first_place : (case : PlainProblem) (object slot s : ℕ) (e : PlainTrack) → slice_get case.tracks object ≡ Some e → slots_from case e slot ≡ s ∷ slots_from case e (s + 1)
    → places_from case object slot ≡ (object, s) ∷ places_from case object (s + 1)
first_place case object slot s e is are =
    front case object slot e is
    ∙ (ap (λ (slots : List ℕ). map (λ (s : ℕ). let place : ℕ × ℕ = (object, s) in place) slots ++ places_from case (object + 1) 0) are
    ∙ ap (λ (places : List (ℕ × ℕ)). (object, s) ∷ places) (sym (front case object (s + 1) e is)))

-- ---- slots with a state

-- a track with a state at a tick of a slot
pub state_in : (case : PlainProblem) (e : PlainTrack) (slot m : ℕ) → slot_first case.first slot ≤ m → m ≤ slot_last case.first case.last slot → is_some (piece_at e m) ≡ true
    → has_state_in case e slot ≡ true
state_in case e slot m low high some =
    state_some e (slot_first case.first slot) (slot_last case.first case.last slot) (λ none. let missing : is_some (piece_at e m) ≡ false = ap is_some (none m low high) in absurd cc)

-- a slot behind the window
pub slot_behind : (case : PlainProblem) (e : PlainTrack) (slot : ℕ) → slot_count case.first case.last ≤ slot → has_state_in case e slot ≡ false
slot_behind case e slot behind = state_none e (slot_first case.first slot) (slot_last case.first case.last slot) (λ m low high. absurd (omega arith))

pub slot_within : (case : PlainProblem) (e : PlainTrack) (slot : ℕ) → has_state_in case e slot ≡ true → slot < slot_count case.first case.last
slot_within case e slot some = elim (cases_lt slot (slot_count case.first case.last)) [
  | inl lt ↦ lt
  | inr behind ↦ let none = slot_behind case e slot behind in absurd cc
]

-- no state from the beginning of a slot on
pub no_slot : (case : PlainProblem) (e : PlainTrack) (slot : ℕ) → HasNone e (slot_first case.first slot) case.last → slots_from case e slot ≡ []
no_slot case e slot none =
    none_in_range_passes (has_state_in case e) slot (slot_count case.first case.last - slot)
    (λ k low high. state_none e (slot_first case.first k) (slot_last case.first case.last k) (λ m after before. none m (omega arith) (omega arith)))

-- the slot in which the first state from the beginning of a slot on lies
pub record IsFirstIn (case : PlainProblem) (e : PlainTrack) (slot at : ℕ) : Type 0 where
  pub later : slot_first case.first slot ≤ at
  pub within : at ≤ case.last
  pub none : (m : ℕ) → slot_first case.first slot ≤ m → m < at → piece_at e m ≡ None
  pub some : is_some (piece_at e at) ≡ true

pub run_is_first : (case : PlainProblem) (e : PlainTrack) (slot : ℕ) (run : Window) → IsNextRun e (slot_first case.first slot) case.last run → slot_first case.first slot ≤ run.first.micros
    → IsFirstIn case e slot run.first.micros
run_is_first case e slot run is after = elim (cases_lt run.last.micros run.first.micros) [
  | inl lt ↦
      let missing : is_some (piece_at e run.last.micros) ≡ false = ap is_some (is.none run.last.micros is.later lt) in
      let some = is.some in
      absurd cc
  | inr le ↦ record {
    later = after;
    within = omega (arith, is.within);
    none = is.none;
    some = ap is_some (is.same run.first.micros after (omega arith) le) ∙ is.some;
  }
]

pub first_has_state : (case : PlainProblem) (e : PlainTrack) (slot at : ℕ) → IsFirstIn case e slot at → has_state_in case e (slot_of case.first at) ≡ true
first_has_state case e slot at is =
    let from : case.first ≤ at = omega (arith, is.later) in
    state_in case e (slot_of case.first at) at (slot_begins case.first at from) (slot_ends case.first case.last at from is.within) is.some

pub first_is_later : (case : PlainProblem) (e : PlainTrack) (slot at : ℕ) → IsFirstIn case e slot at → slot ≤ slot_of case.first at
first_is_later case e slot at is = omega (arith, is.later)

-- the slots from this one on are those from there on
pub skipped : (case : PlainProblem) (e : PlainTrack) (slot at : ℕ) → IsFirstIn case e slot at → slots_from case e slot ≡ slots_from case e (slot_of case.first at)
skipped case e slot at is =
    let found = slot_of case.first at in
    let count = slot_count case.first case.last in
    let from : case.first ≤ at = omega (arith, is.later) in
    let le = first_is_later case e slot at is in
    let inside : found < count = slot_exists case.first case.last at from is.within in
    filter_skip (has_state_in case e) slot (count - slot) found (count - found) le (omega arith)
    (λ k low high. state_none e (slot_first case.first k) (slot_last case.first case.last k)
    (λ m after before. is.none m (omega arith) (omega (arith, slots_follow case.first case.last k found high, slot_begins case.first at from))))

-- a slot with a state stands in front of those behind it
pub slot_here : (case : PlainProblem) (e : PlainTrack) (slot : ℕ) → has_state_in case e slot ≡ true → slots_from case e slot ≡ slot ∷ slots_from case e (slot + 1)
slot_here case e slot some =
    let count = slot_count case.first case.last in
    let inside : slot < count = slot_within case e slot some in
    filter_here (has_state_in case e) slot (count - slot) (count - (slot + 1)) (omega arith) some

-- an object with a state in a slot
pub place_here : (case : PlainProblem) (object slot : ℕ) (e : PlainTrack) → slice_get case.tracks object ≡ Some e → has_state_in case e slot ≡ true
    → places_from case object slot ≡ (object, slot) ∷ places_from case object (slot + 1)
place_here case object slot e is some = first_place case object slot slot e is (slot_here case e slot some)

-- the same places, by the same slots
pub same_places : (case : PlainProblem) (object slot s : ℕ) (e : PlainTrack) → slice_get case.tracks object ≡ Some e → slots_from case e slot ≡ slots_from case e s
    → places_from case object slot ≡ places_from case object s
same_places case object slot s e is are =
    front case object slot e is
    ∙ (ap (λ (slots : List ℕ). map (λ (s : ℕ). let place : ℕ × ℕ = (object, s) in place) slots ++ places_from case (object + 1) 0) are
    ∙ sym (front case object s e is))

-- ---- a place that is not there

other_in_front : (object slot : ℕ) (slots places : List (ℕ × ℕ)) → Each (λ p. p ≡ (object, slot) → ⊥) places → are_in_front ((object, slot) ∷ slots) places ≡ false
other_in_front object slot slots [] each = refl
other_in_front object slot slots (p ∷ places) each =
    and_left ((object == p.0) && (slot == p.1)) (are_in_front slots places)
    (false_from_ne_true ((object == p.0) && (slot == p.1)) (λ is.
    let both = and_parts (object == p.0) (slot == p.1) is in
    let own = eqb-true object p.0 both.0 in
    let at = eqb-true slot p.1 both.1 in
    each.0 (λ j. (sym own j, sym at j))))

each_filtered : (P : ℕ → Type 0) (test : ℕ → Bool) (xs : List ℕ) → ((x : ℕ) → test x ≡ true → P x) → Each P (filter test xs)
each_filtered P test [] all = tt
each_filtered P test (x ∷ xs) all = go (each_filtered P test xs all) (test x) refl
  where
    go : Each P (filter test xs) → (b : Bool) → test x ≡ b → Each P (cond b (x ∷ filter test xs) (filter test xs))
    go rest true is = (all x is, rest)
    go rest false is = rest

later_objects : (n k : ℕ) (es : List PlainTrack) → Each (λ (x : ℕ × PlainTrack). n + k ≤ x.0) (drop k (enumerate_from n es))
later_objects n zero [] = tt
later_objects n (suc k) [] = tt
later_objects n zero (e ∷ es) =
    (omega arith, Each-weaker (λ (x : ℕ × PlainTrack). n + 1 + 0 ≤ x.0) (λ (x : ℕ × PlainTrack). n + 0 ≤ x.0) (λ x le. omega arith) (enumerate_from (n + 1) es) (later_objects (n + 1) zero es))
later_objects n (suc k) (e ∷ es) =
    Each-weaker (λ (x : ℕ × PlainTrack). n + 1 + k ≤ x.0) (λ (x : ℕ × PlainTrack). n + suc k ≤ x.0) (λ x le. omega arith) (drop k (enumerate_from (n + 1) es)) (later_objects (n + 1) k es)

-- not the slot of the object
abbrev IsOther : ℕ → ℕ → ℕ × ℕ → Type 0
IsOther object slot p = p ≡ (object, slot) → ⊥

behind_object : (case : PlainProblem) (object slot : ℕ) → Each (IsOther object slot) (places_from case (object + 1) 0)
behind_object case object slot =
    let objects = drop (object + 1) (enumerate_from 0 case.tracks) in
    subst (Each (IsOther object slot)) (all_places case objects)
    (Each-flat_map (IsOther object slot) (λ other. places_of case other 0) objects
    (Each-weaker (λ (x : ℕ × PlainTrack). 0 + (object + 1) ≤ x.0) (λ (x : ℕ × PlainTrack). Each (IsOther object slot) (places_of case x 0))
    (λ x le. Each-map (IsOther object slot) (λ (s : ℕ). let place : ℕ × ℕ = (x.0, s) in place) (slots_from case x.1 0)
    (Each-always (λ s. ◌≡◌ {A = ℕ × ℕ} (x.0, s) (object, slot) → ⊥) (λ s same. let own : x.0 ≡ object = ap (λ (p : ℕ × ℕ). p.0) same in omega arith) (slots_from case x.1 0)))
    objects (later_objects 0 (object + 1) case.tracks)))

-- a slot without a state
not_there : (case : PlainProblem) (object slot : ℕ) (e : PlainTrack) → slice_get case.tracks object ≡ Some e → has_state_in case e slot ≡ false → Each (IsOther object slot) (places_from case object slot)
not_there case object slot e is none =
    subst (Each (IsOther object slot)) (sym (front case object slot e is))
    (Each-append (IsOther object slot) (places_of case (object, e) slot) (places_from case (object + 1) 0)
    (Each-map (IsOther object slot) (λ (s : ℕ). let place : ℕ × ℕ = (object, s) in place) (slots_from case e slot)
    (each_filtered (λ s. ◌≡◌ {A = ℕ × ℕ} (object, s) (object, slot) → ⊥) (has_state_in case e) (range_with_len slot (slot_count case.first case.last - slot))
    (λ s some same.
    let at : slot ≡ s = sym (ap (λ (p : ℕ × ℕ). p.1) same) in
    let here : has_state_in case e slot ≡ true = subst (λ (k : ℕ). has_state_in case e k ≡ true) (sym at) some in
    absurd cc)))
    (behind_object case object slot))

-- ---- the slots of a line

-- a run of slots of an object
abbrev pub run_of_slots : ℕ → ℕ → ℕ → List (ℕ × ℕ)
run_of_slots object from n = map (λ slot. (object, slot)) (range_with_len from n)

one_more : (front own rest all : Bool) → (front && rest) ≡ all → (front && (own && rest)) ≡ (own && all)
one_more front true rest all is = is
one_more true false rest all is = refl
one_more false false rest all is = refl

-- Slots of an object stand in front of the places from the first of them on, and its hulls lie in the box of a line, exactly where it has
-- a state and its hulls lie there in each of them.
pub run_test : (case : PlainProblem) (line : PlainBoxLine) (e : PlainTrack) → slice_get case.tracks line.object ≡ Some e → (from n : ℕ)
    → (are_in_front (run_of_slots line.object from n) (places_from case line.object from) && list_all (holds_in_slot case line) (range_with_len from n))
    ≡ list_all (is_in_box case e line.area) (range_with_len from n)
run_test case line e is from zero = refl
run_test case line e is from (suc n) = go (run_test case line e is (from + 1) n) (has_state_in case e from) refl
  where
    object : ℕ
    object = line.object

    others : List (ℕ × ℕ)
    others = run_of_slots line.object (from + 1) n

    held : Bool
    held = list_all (is_hull_in line.area) (hulls_of e (slot_first case.first from) (slot_last case.first case.last from))

    own : holds_in_slot case line from ≡ held
    own =
        ap (λ (o : Option PlainTrack). option_map_or (λ f. list_all (is_hull_in line.area) (hulls_of f (slot_first case.first from) (slot_last case.first case.last from))) o false) is

    go : (are_in_front others (places_from case line.object (from + 1)) && list_all (holds_in_slot case line) (range_with_len (from + 1) n)) ≡ list_all (is_in_box case e line.area) (range_with_len (from + 1) n)
        → (b : Bool) → has_state_in case e from ≡ b
        → (are_in_front ((line.object, from) ∷ others) (places_from case line.object from) && (holds_in_slot case line from && list_all (holds_in_slot case line) (range_with_len (from + 1) n)))
        ≡ (is_in_box case e line.area from && list_all (is_in_box case e line.area) (range_with_len (from + 1) n))
    go rest true some =
        let here = place_here case line.object from e is some in
        let same : ((line.object == line.object) && (from == from)) ≡ true = and_from (line.object == line.object) (from == from) (eq-eqb line.object line.object refl) (eq-eqb from from refl) in
        (λ j. are_in_front ((line.object, from) ∷ others) (here j) && (own j && list_all (holds_in_slot case line) (range_with_len (from + 1) n)))
        ∙ ((λ j. (same j && are_in_front others (places_from case line.object (from + 1))) && (held && list_all (holds_in_slot case line) (range_with_len (from + 1) n)))
        ∙ (one_more (are_in_front others (places_from case line.object (from + 1))) held (list_all (holds_in_slot case line) (range_with_len (from + 1) n)) _ rest
        ∙ (λ j. (sym some j && held) && list_all (is_in_box case e line.area) (range_with_len (from + 1) n))))
    go rest false none =
        let missing = other_in_front line.object from others (places_from case line.object from) (not_there case line.object from e is none) in
        (λ j. missing j && (holds_in_slot case line from && list_all (holds_in_slot case line) (range_with_len (from + 1) n)))
        ∙ (λ j. (sym none j && held) && list_all (is_in_box case e line.area) (range_with_len (from + 1) n))

-- the places behind such slots
pub run_behind : (case : PlainProblem) (object : ℕ) (area : PlainBox) (e : PlainTrack) → slice_get case.tracks object ≡ Some e → (from n : ℕ)
    → list_all (is_in_box case e area) (range_with_len from n) ≡ true → drop n (places_from case object from) ≡ places_from case object (from + n)
run_behind case object area e is from zero all = let at : from ≡ from + 0 = omega arith in ap (λ (k : ℕ). places_from case object k) at
run_behind case object area e is from (suc n) all =
    let both = and_parts (is_in_box case e area from) (list_all (is_in_box case e area) (range_with_len (from + 1) n)) all in
    let own = and_parts (has_state_in case e from) _ both.0 in
    let at : from + 1 + n ≡ from + suc n = omega arith in
    ap (λ (places : List (ℕ × ℕ)). drop (suc n) places) (place_here case object from e is own.0)
    ∙ (run_behind case object area e is (from + 1) n both.1 ∙ ap (λ (k : ℕ). places_from case object k) at)
