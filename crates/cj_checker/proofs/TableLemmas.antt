-- The table of listed boxes, from the last line to the first.
use Rattle.std.proofs.Common.{◌≡◌, ℕ, suc, ◌+◌, ◌-◌, ◌<◌, ◌≤◌, Bool, true, false, cond, List, length, get_or, map, filter, drop, replicate, Option, Some, None, refl, sym, ap, ◌∙◌, subst, inl, inr, arith}
use Rattle.std.specs.Prelude.{if◌then◌else◌, option_map, option_and_then, slice_get}
use Rattle.std.specs.List.{enumerate_from, find, range_with_len}
use Rattle.std.proofs.lemmas.Bool.{cases_lt, false_from_ne_true}
use Rattle.std.proofs.lemmas.List.{drop_all, length-map}
use Rattle.std.proofs.lemmas.Option.{slice_get-map, slice_get_past, slice_get_within}
use Rattle.cj_interval.proofs.ListLemmas.{Each, Each-both, Each-flat_map, Each-map, Each-range, Each-weaker, each_from_All, each_from_map, Each-filter, each_at, each_from_flat_map, none_found}
use Rattle.cj_interval.proofs.RangeLemmas.{Each-enumerated, each_in_range}
use Rattle.cj_track.specs.PlainTracks.{PlainTrack}
use Rattle.cj_case.specs.PlainProblems.{PlainProblem}
use Rattle.cj_hermite.specs.Roots.{slots_of}
use Rattle.cj_case.specs.Slots.{slot_count}
use Rattle.cj_case.specs.Boxes.{plain_box}
use Rattle.cj_case.specs.Tables.{IsEven, Table, even_table, filled, row_of, value_at}
use Rattle.cj_case.proofs.TableLemmas.{even_everywhere, filled_where, length-replicated, row_is, value_everywhere, value_in_row}
use Rattle.cj_cert.specs.declared.cert_lines.BoxLine.{BoxLine}
use Rattle.cj_cert.specs.Accepted.{has_state_in, slots_with_states, AreBoxes}
use Rattle.cj_cert.specs.Certificates.{PlainBoxLine, plain_box_line}
use Rattle.cj_cert.proofs.ListedLemmas.{line_tells, told_by}
use Rattle.cj_cert.specs.Listed.{slots_of_line, is_line_of, box_listed}
use Rattle.cj_checker.specs.Tables.{line_numbered, box_in_table}
use Rattle.cj_checker.proofs.UnfitLemmas.{dropped, read_at}

-- ---- a line is entered

-- the number of a line, in the line's slots
pub entered : (numbers : Table ℕ) (line : PlainBoxLine) (number slot object : ℕ) → IsEven numbers → line.first ≤ line.last → line.last < numbers.slots → line.object < length numbers.rows
    → value_at (filled line.object line.first (line.last + 1 - line.first) number numbers).rows object slot
    ≡ (if is_line_of object slot line then Some number else value_at numbers.rows object slot)
entered numbers line number slot object even some within there =
    filled_where line.object line.first (line.last + 1 - line.first) number numbers object slot (is_line_of object slot line) even there (omega arith)
    (λ tells. let by = told_by object slot line tells in (sym by.own, by.low, omega (arith, by.high)))
    (λ silent own low high. let tells = line_tells object slot line (sym own) low (omega arith) in absurd cc)

-- ---- line by line, from the last

-- the line that the table has for an object in a slot
abbrev pub line_at : List BoxLine → List (List ℕ) → ℕ → ℕ → Option PlainBoxLine
line_at lines numbers slot object = option_map plain_box_line (option_and_then (line_numbered lines) (value_at numbers object slot))

-- The table has, for each object in each slot, the first of the lines from number k on, counted from 0, that tells of it.
pub record IsTableFrom (lines : List BoxLine) (slots objects k : ℕ) (numbers : Table ℕ) : Type 0 where
  pub even : IsEven numbers
  pub many : length numbers.rows ≡ objects
  pub wide : numbers.slots ≡ slots
  pub entries : (slot object : ℕ) → slot < slots → object < objects → line_at lines numbers.rows slot object ≡ find (is_line_of object slot) (drop k (map plain_box_line lines))

pub no_lines : (lines : List BoxLine) (slots objects : ℕ) (numbers : Table ℕ) → numbers ≡ even_table objects slots 0 → IsTableFrom lines slots objects (length lines) numbers
no_lines lines slots objects numbers is = record {
  even = subst (λ (t : Table ℕ). IsEven t) (sym is) (even_everywhere objects slots 0);
  many = ap (λ (t : Table ℕ). length t.rows) is ∙ length-replicated objects (replicate slots 0);
  wide = ap (λ (t : Table ℕ). t.slots) is;
  entries = λ slot object inside there.
      let at = ap (λ (t : Table ℕ). value_at t.rows object slot) is ∙ value_everywhere objects slots object slot 0 there inside in
      ap (λ (o : Option ℕ). option_map plain_box_line (option_and_then (line_numbered lines) o)) at
      ∙ ap (find (is_line_of object slot)) (sym (drop_all (length lines) (map plain_box_line lines) (omega (arith, length-map lines plain_box_line))));
}

one_line : (lines : List BoxLine) (slots objects k : ℕ) (line : BoxLine) (old new : Table ℕ) → slice_get lines k ≡ Some line → IsEven new → length new.rows ≡ length old.rows → new.slots ≡ old.slots
    → ((slot object : ℕ) → value_at new.rows object slot ≡ (if is_line_of object slot (plain_box_line line) then Some (k + 1) else value_at old.rows object slot))
    → IsTableFrom lines slots objects (k + 1) old → IsTableFrom lines slots objects k new
one_line lines slots objects k line old new is even many wide enter table = record {
  even = even;
  many = many ∙ table.many;
  wide = wide ∙ table.wide;
  entries = λ slot object inside there. go slot object (is_line_of object slot (plain_box_line line)) refl (enter slot object) (table.entries slot object inside there);
}
  where
    front : (slot object : ℕ) (b : Bool) → is_line_of object slot (plain_box_line line) ≡ b
        → find (is_line_of object slot) (drop k (map plain_box_line lines)) ≡ cond b (Some (plain_box_line line)) (find (is_line_of object slot) (drop (k + 1) (map plain_box_line lines)))
    front slot object b tells =
        let at : slice_get (map plain_box_line lines) k ≡ Some (plain_box_line line) = slice_get-map plain_box_line lines k ∙ ap (option_map plain_box_line) is in
        ap (find (is_line_of object slot)) (dropped (map plain_box_line lines) k (plain_box_line line) at)
        ∙ ap (λ (t : Bool). cond t (Some (plain_box_line line)) (find (is_line_of object slot) (drop (k + 1) (map plain_box_line lines)))) tells

    numbered : line_numbered lines (k + 1) ≡ Some line
    numbered = let next : k + 1 ≡ suc k = omega arith in ap (line_numbered lines) next ∙ is

    go : (slot object : ℕ) (b : Bool) → is_line_of object slot (plain_box_line line) ≡ b
        → value_at new.rows object slot ≡ (if b then Some (k + 1) else value_at old.rows object slot)
        → line_at lines old.rows slot object ≡ find (is_line_of object slot) (drop (k + 1) (map plain_box_line lines))
        → line_at lines new.rows slot object ≡ find (is_line_of object slot) (drop k (map plain_box_line lines))
    go slot object true tells entry before =
        ap (λ (o : Option ℕ). option_map plain_box_line (option_and_then (line_numbered lines) o)) entry
        ∙ (ap (option_map plain_box_line) numbered ∙ sym (front slot object true tells))
    go slot object false tells entry before =
        ap (λ (o : Option ℕ). option_map plain_box_line (option_and_then (line_numbered lines) o)) entry ∙ (before ∙ sym (front slot object false tells))

-- the same by the number of the line
pub line_entered : (lines : List BoxLine) (slots objects number : ℕ) (line : BoxLine) (old new : Table ℕ) → 0 < number → slice_get lines (number - 1) ≡ Some line
    → IsEven new → length new.rows ≡ length old.rows → new.slots ≡ old.slots
    → ((slot object : ℕ) → value_at new.rows object slot ≡ (if is_line_of object slot (plain_box_line line) then Some number else value_at old.rows object slot))
    → IsTableFrom lines slots objects number old → IsTableFrom lines slots objects (number - 1) new
line_entered lines slots objects number line old new some is even many wide enter table =
    let next : number ≡ number - 1 + 1 = omega arith in
    one_line lines slots objects (number - 1) line old new is even many wide
    (subst (λ (n : ℕ). (slot object : ℕ) → value_at new.rows object slot ≡ (if is_line_of object slot (plain_box_line line) then Some n else value_at old.rows object slot)) next enter)
    (subst (λ (n : ℕ). IsTableFrom lines slots objects n old) next table)

-- ---- lines that are accepted lie in the table

pub record IsLineIn (case : PlainProblem) (line : PlainBoxLine) : Type 0 where
  pub some : line.first ≤ line.last
  pub there : line.object < length case.tracks
  pub within : line.last < slot_count case.first case.last

numbered_below : (n : ℕ) (es : List PlainTrack) → Each (λ (x : ℕ × PlainTrack). x.0 < n + length es) (enumerate_from n es)
numbered_below n es = Each-enumerated (λ (x : ℕ × PlainTrack). x.0 < n + length es) n es (λ i e is. omega (arith, slice_get_within es i e is))

-- a slot of the window, of one of the objects
record IsPlaceIn (case : PlainProblem) (p : ℕ × ℕ) : Type 0 where
  object : p.0 < length case.tracks
  slot : p.1 < slot_count case.first case.last

all_in : (case : PlainProblem) → Each (IsPlaceIn case) (slots_with_states case)
all_in case =
    let places = λ (x : ℕ × PlainTrack). map (λ (slot : ℕ). let place : ℕ × ℕ = (x.0, slot) in place) (filter (has_state_in case x.1) (slots_of case)) in
    Each-flat_map (IsPlaceIn case) places (enumerate_from 0 case.tracks)
    (Each-weaker (λ (x : ℕ × PlainTrack). x.0 < 0 + length case.tracks) (λ (x : ℕ × PlainTrack). Each (IsPlaceIn case) (places x))
    (λ x lt. Each-map (IsPlaceIn case) (λ (slot : ℕ). let place : ℕ × ℕ = (x.0, slot) in place) (filter (has_state_in case x.1) (slots_of case))
    (Each-filter (λ slot. IsPlaceIn case (x.0, slot)) (has_state_in case x.1) (slots_of case)
    (Each-range (λ slot. IsPlaceIn case (x.0, slot)) 0 (slot_count case.first case.last) (λ slot low high. record { object = omega arith; slot = omega arith }))))
    (enumerate_from 0 case.tracks) (numbered_below 0 case.tracks))

line_in : (case : PlainProblem) (line : PlainBoxLine) → line.first ≤ line.last → Each (IsPlaceIn case) (slots_of_line line) → IsLineIn case line
line_in case line some each =
    let last = each_in_range (λ slot. IsPlaceIn case (line.object, slot)) line.first (line.last + 1 - line.first)
    (each_from_map (IsPlaceIn case) (λ (slot : ℕ). let place : ℕ × ℕ = (line.object, slot) in place) (range_with_len line.first (line.last + 1 - line.first)) each)
    line.last some (omega arith) in
    record { some = some; there = last.object; within = last.slot }

lines_in : (case : PlainProblem) (lines : List PlainBoxLine) → AreBoxes case lines → Each (IsLineIn case) lines
lines_in case lines are =
    let each = each_from_flat_map (IsPlaceIn case) slots_of_line lines (subst (Each (IsPlaceIn case)) (sym are.slots) (all_in case)) in
    Each-weaker (λ line. (line.first ≤ line.last) × Each (IsPlaceIn case) (slots_of_line line)) (IsLineIn case) (λ line both. line_in case line both.0 both.1) lines
    (Each-both (λ line. line.first ≤ line.last) (λ line. Each (IsPlaceIn case) (slots_of_line line)) lines
    (each_from_All (λ line. line.first ≤ line.last) lines are.some) each)

-- a line that is read
pub line_is_in : (case : PlainProblem) (lines all : List BoxLine) (k : ℕ) (line : BoxLine) → AreBoxes case (map plain_box_line lines) → all ≡ lines → k < length all → line ≡ get_or all k line
    → IsLineIn case (plain_box_line line)
line_is_in case lines all k line are same lt is =
    each_at (IsLineIn case) (map plain_box_line lines) k (plain_box_line line) (lines_in case (map plain_box_line lines) are) (read_at plain_box_line lines all k k line same lt is refl)

-- ---- the whole table

-- no line tells of an object or a slot that is not there
untold : (case : PlainProblem) (lines : List PlainBoxLine) (slot object : ℕ) → Each (IsLineIn case) lines → (object < length case.tracks → slot < slot_count case.first case.last → ⊥)
    → box_listed lines slot object ≡ None
untold case lines slot object each away =
    ap (option_map (λ line. line.area))
    (none_found (is_line_of object slot) lines
    (Each-weaker (IsLineIn case) (λ line. is_line_of object slot line ≡ false)
    (λ line is. false_from_ne_true (is_line_of object slot line) (λ tells.
    let by = told_by object slot line tells in
    away (omega (arith, is.there, by.own)) (omega (arith, is.within, by.high)))) lines each))

boxes_of_line : (o : Option BoxLine) → option_map (λ line. plain_box line.area) o ≡ option_map (λ line. line.area) (option_map plain_box_line o)
boxes_of_line None = refl
boxes_of_line (Some line) = refl

-- a place that is not there has no value
value_past : (numbers : Table ℕ) (slot object : ℕ) → IsEven numbers → (object < length numbers.rows → slot < numbers.slots → ⊥) → value_at numbers.rows object slot ≡ None
value_past numbers slot object even away = elim (cases_lt object (length numbers.rows)) [
  | inr gone ↦ ap (λ (o : Option (List ℕ)). option_and_then (λ row. slice_get row slot) o) (slice_get_past numbers.rows object gone)
  | inl there ↦
      let is = row_is numbers object even there in
      value_in_row numbers.rows object slot (row_of numbers.rows object) is.0
      ∙ slice_get_past (row_of numbers.rows object) slot (elim (cases_lt slot numbers.slots) [
        | inl inside ↦ absurd (away there inside)
        | inr beyond ↦ let len = is.1 in omega arith
      ])
]

same_box : (case : PlainProblem) (lines : List BoxLine) (numbers : Table ℕ) → AreBoxes case (map plain_box_line lines)
    → IsTableFrom lines (slot_count case.first case.last) (length case.tracks) 0 numbers → (slot object : ℕ) → box_in_table lines numbers.rows slot object ≡ box_listed (map plain_box_line lines) slot object
unfolding box_in_table
same_box case lines numbers are table slot object = elim (cases_lt slot (slot_count case.first case.last)) [
  | inr beyond ↦
      let none = untold case (map plain_box_line lines) slot object (lines_in case (map plain_box_line lines) are) (λ there inside. omega arith) in
      let past = value_past numbers slot object table.even (λ there inside. omega (arith, table.wide)) in
      ap (λ (o : Option ℕ). option_map (λ line. plain_box line.area) (option_and_then (line_numbered lines) o)) past ∙ sym none
  | inl inside ↦ elim (cases_lt object (length case.tracks)) [
    | inl there ↦ boxes_of_line (option_and_then (line_numbered lines) (value_at numbers.rows object slot)) ∙ ap (option_map (λ line. line.area)) (table.entries slot object inside there)
    | inr gone ↦
        let none = untold case (map plain_box_line lines) slot object (lines_in case (map plain_box_line lines) are) (λ there inside. omega arith) in
        let past = value_past numbers slot object table.even (λ there inside. omega (arith, table.many)) in
        ap (λ (o : Option ℕ). option_map (λ line. plain_box line.area) (option_and_then (line_numbered lines) o)) past ∙ sym none
  ]
]

pub table_is : (case : PlainProblem) (lines : List BoxLine) (numbers : Table ℕ) → AreBoxes case (map plain_box_line lines)
    → IsTableFrom lines (slot_count case.first case.last) (length case.tracks) 0 numbers → box_in_table lines numbers.rows ≡ box_listed (map plain_box_line lines)
table_is case lines numbers are table = λ j slot object. same_box case lines numbers are table slot object j

-- ---- one place of a table

pub box_beyond : (lines : List BoxLine) (numbers : Table ℕ) (slot object : ℕ) → IsEven numbers → (object < length numbers.rows → slot < numbers.slots → ⊥) → None ≡ box_in_table lines numbers.rows slot object
unfolding box_in_table
box_beyond lines numbers slot object even away =
    sym (ap (λ (o : Option ℕ). option_map (λ line. plain_box line.area) (option_and_then (line_numbered lines) o)) (value_past numbers slot object even away))

pub box_of_place : (lines : List BoxLine) (numbers : Table ℕ) (slot object : ℕ) (o : Option ℕ) → value_at numbers.rows object slot ≡ o
    → option_map (λ line. plain_box line.area) (option_and_then (line_numbered lines) o) ≡ box_in_table lines numbers.rows slot object
unfolding box_in_table
box_of_place lines numbers slot object o at = ap (λ (o : Option ℕ). option_map (λ line. plain_box line.area) (option_and_then (line_numbered lines) o)) (sym at)
