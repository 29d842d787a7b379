-- Boxes that are entered line by line, from the last.
use Rattle.std.proofs.Common.{◌≡◌, ℕ, zero, suc, ◌+◌, ◌-◌, ◌<◌, ◌≤◌, Bool, true, false, cond, min, List, [], ◌∷◌, length, get_or, drop, map, replicate, subst, Option, Some, None, refl, sym, ap, ◌∙◌, arith}
use Rattle.std.specs.Prelude.{All, option_map}
use Rattle.std.specs.List.{find, range_with_len}
use Rattle.std.proofs.lemmas.List.{drop_all, length-map}
use Rattle.cj_case.specs.declared.axis_box.AxisBox.{AxisBox}
use Rattle.cj_case.specs.Boxes.{plain_box, plain_boxes, plain_rows}
use Rattle.cj_case.specs.Tables.{IsEven, Table, even_table, filled, value_at}
use Rattle.cj_case.proofs.TableLemmas.{even_everywhere, filled_where, length-replicated, rows_made, value_everywhere}
use Rattle.cj_bezier.proofs.AllBoxLemmas.{seen_at}
use Rattle.cj_cert.specs.declared.cert_lines.BoxLine.{BoxLine}
use Rattle.cj_cert.specs.Certificates.{PlainBoxLine, plain_box_line}
use Rattle.cj_cert.specs.Listed.{box_listed, is_line_of}
use Rattle.cj_cert.proofs.ListedLemmas.{line_tells, told_by}
use Rattle.cj_blocks.specs.Entered.{IsEntered}

-- ---- a line

-- the slots of a line up to the end of the window
pub line_entered : (line : BoxLine) (end : ℕ) (table : Table (Option AxisBox)) → IsEven table → line.object < length table.rows → line.first < end → end ≤ table.slots
    → ((slot : ℕ) → slot < table.slots → slot < end → slot ≤ line.last) → ((slot : ℕ) → slot < table.slots → slot ≤ line.last → slot < end)
    → IsEntered line table (filled line.object line.first (end - line.first) (Some line.area) table)
line_entered line end table even there some within upto from object slot exists lt =
    filled_where line.object line.first (end - line.first) (Some line.area) table object slot (is_line_of object slot (plain_box_line line)) even there (omega arith)
    (λ tells.
    let by = told_by object slot (plain_box_line line) tells in
    let below = from slot lt by.high in
    (sym by.own, by.low, omega arith))
    (λ silent own low high.
    let below : slot < end = omega arith in
    let tells = line_tells object slot (plain_box_line line) (sym own) low (upto slot lt below) in
    absurd cc)

-- ---- all lines, from the last

-- of each object in each slot the table has the box of the first of the lines from number k on, counted from 0, that tells of it
pub record AreListedFrom (lines : List BoxLine) (objects slots k : ℕ) (table : Table (Option AxisBox)) : Type 0 where
  pub even : IsEven table
  pub objects_there : length table.rows ≡ objects
  pub slots_there : table.slots ≡ slots
  pub entries : (object slot : ℕ) → object < objects → slot < slots
      → option_map (option_map plain_box) (value_at table.rows object slot) ≡ Some (box_listed (drop k (map plain_box_line lines)) slot object)

pub none_listed : (lines : List BoxLine) (objects slots k : ℕ) (table : Table (Option AxisBox)) → k ≡ length lines → table ≡ even_table objects slots None → AreListedFrom lines objects slots k table
none_listed lines objects slots k table all is = record {
  even = subst (λ (t : Table (Option AxisBox)). IsEven t) (sym is) (even_everywhere objects slots None);
  objects_there = ap (λ (t : Table (Option AxisBox)). length t.rows) is ∙ length-replicated objects (replicate slots None);
  slots_there = ap (λ (t : Table (Option AxisBox)). t.slots) is;
  entries = λ object slot exists lt.
      ap (λ (t : Table (Option AxisBox)). option_map (option_map plain_box) (value_at t.rows object slot)) is
      ∙ ap (option_map (option_map plain_box)) (value_everywhere objects slots object slot None exists lt)
      ∙ ap (λ (ls : List PlainBoxLine). Some (box_listed ls slot object)) (sym (drop_all k (map plain_box_line lines) (omega (arith, all, length-map lines plain_box_line))));
}

dropped : (lines : List BoxLine) (k : ℕ) (line : BoxLine) → k < length lines → line ≡ get_or lines k line
    → drop k (map plain_box_line lines) ≡ plain_box_line line ∷ drop (suc k) (map plain_box_line lines)
dropped [] k line lt is = absurd (omega arith)
dropped (l ∷ lines) zero line lt is = ap (λ (x : BoxLine). plain_box_line x ∷ map plain_box_line lines) (sym is)
dropped (l ∷ lines) (suc k) line lt is = dropped lines k line (omega arith) is

pub one_line_more : (lines : List BoxLine) (objects slots k : ℕ) (line : BoxLine) (old new : Table (Option AxisBox)) → k < length lines → line ≡ get_or lines k line
    → IsEven new → length new.rows ≡ length old.rows → new.slots ≡ old.slots → IsEntered line old new → AreListedFrom lines objects slots (suc k) old → AreListedFrom lines objects slots k new
one_line_more lines objects slots k line old new lt is even many wide entered before = record {
  even = even;
  objects_there = many ∙ before.objects_there;
  slots_there = wide ∙ before.slots_there;
  entries = λ object slot exists within.
      ap (option_map (option_map plain_box)) (entered object slot (omega (arith, exists, before.objects_there)) (omega (arith, within, before.slots_there)))
      ∙ chosen object slot (is_line_of object slot (plain_box_line line)) (before.entries object slot exists within)
      ∙ ap (λ (ls : List PlainBoxLine). Some (box_listed ls slot object)) (sym (dropped lines k line lt is));
}
  where
    chosen : (object slot : ℕ) (b : Bool)
        → option_map (option_map plain_box) (value_at old.rows object slot) ≡ Some (box_listed (drop (suc k) (map plain_box_line lines)) slot object)
        → option_map (option_map plain_box) (cond b (Some (Some line.area)) (value_at old.rows object slot))
        ≡ Some (option_map (λ line. line.area) (cond b (Some (plain_box_line line)) (find (is_line_of object slot) (drop (suc k) (map plain_box_line lines)))))
    chosen object slot true before = refl
    chosen object slot false before = before

-- the whole table
pub table_listed : (lines : List BoxLine) (objects slots : ℕ) (table : Table (Option AxisBox)) → AreListedFrom lines objects slots 0 table
    → plain_rows table.rows ≡ map (λ object. map (λ slot. box_listed (map plain_box_line lines) slot object) (range_with_len 0 slots)) (range_with_len 0 objects)
table_listed lines objects slots table are =
    rows_made (λ (object slot : ℕ). box_listed (map plain_box_line lines) slot object) 0 slots (plain_rows table.rows) (rows_even table.rows are.even are.slots_there)
    (λ object slot exists lt.
    let own : object ≡ 0 + object = omega arith in
    seen_at table.rows object slot ∙ are.entries object slot (omega (arith, exists, length-map table.rows plain_boxes, are.objects_there)) lt
    ∙ ap (λ (o : ℕ). Some (box_listed (map plain_box_line lines) slot o)) own)
    ∙ ap (λ (n : ℕ). map (λ object. map (λ slot. box_listed (map plain_box_line lines) slot object) (range_with_len 0 slots)) (range_with_len 0 n))
    (length-map table.rows plain_boxes ∙ are.objects_there)
  where
    rows_even : (rows : List (List (Option AxisBox))) → All (λ row. length row ≡ table.slots) rows → table.slots ≡ slots → All (λ row. length row ≡ slots) (plain_rows rows)
    rows_even [] all wide k d lt = absurd (omega arith)
    rows_even (row ∷ rows) all wide zero d lt = length-map row (option_map plain_box) ∙ all 0 [] (omega arith) ∙ wide
    rows_even (row ∷ rows) all wide (suc k) d lt = rows_even rows (λ i e below. all (suc i) e (omega arith)) wide k d (omega arith)

-- where a line ends in a window of so many slots
pub ends_within : (last slots more end slot : ℕ) → end ≡ min slots more → more ≡ min (last + 1) 4294967295 → slot < end → slot ≤ last
ends_within last slots more end slot is next lt = omega arith

pub ends_not_before : (last slots more end slot : ℕ) → end ≡ min slots more → more ≡ min (last + 1) 4294967295 → slots ≤ 4294967295 → slot < slots → slot ≤ last → slot < end
ends_not_before last slots more end slot is next few lt le = omega arith
