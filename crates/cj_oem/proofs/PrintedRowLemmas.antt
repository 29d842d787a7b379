-- Printed rows: fields of numbers with a space between.
use Rattle.std.proofs.Common.{◌≡◌, ℕ, ◌-◌, ◌<◌, List, [], ◌∷◌, ◌++◌, Bool, true, false, length, get_or, drop, ap, ◌∙◌, refl, arith, append-nil, All, None, Ok}
use Rattle.std.specs.Prelude.{◌==◌, ◌&&◌, ◌||◌, nat_eq, nat_lt, nat_le, filter, flat_map, codes}
use Rattle.std.specs.List.{list_all, list_any, slice_split, starts_with}
use Rattle.std.proofs.lemmas.Bool.{and_parts}
use Rattle.std.proofs.lemmas.Bool.Decides.{nat_tests}
use Rattle.std.proofs.lemmas.List.Splits.{slice_split_at, slice_split_none}
use Rattle.cj_kvn.specs.Fields.{fields}
use Rattle.cj_kvn.specs.Lines.{Row, form_of, is_blank, is_comment, is_end_or_blank, is_equals, mark_of, pair_or_row}
use Rattle.cj_kvn.proofs.LineLemmas.{inner_is}
use Rattle.cj_kvn.proofs.ListLemmas.{behind_no, all_append}
use Rattle.cj_track.specs.Labels.{is_visible}
use Rattle.cj_oem.proofs.PrintedLineLemmas.{Says}
use Rattle.cj_oem.proofs.PrintedPairLemmas.{form_other}
use Rattle.cj_oem.proofs.PrintedTextLemmas.{Ends, Starts, all_at, all_printable, all_weaker, ends_append, starts_append, starts_length, trimmed_none}

-- a byte of a number or of an epoch: + , - . / and the digits and : or E or T
abbrev pub is_figure_byte : ℕ → Bool
is_figure_byte b = (nat_le 43 b && nat_le b 58) || (b == 69) || (b == 84)

-- a field of such bytes
abbrev pub is_field : List ℕ → Bool
is_field text = nat_lt 0 (length text) && list_all is_figure_byte text

-- fields with a space between
abbrev pub row_of : List ℕ → List (List ℕ) → List ℕ
row_of first others = first ++ flat_map (λ field. 32 ∷ field) others

figure_filled : (b : ℕ) → is_figure_byte b ≡ true → is_blank b ≡ false
figure_filled b h = grind (arith, nat_tests)

figure_visible : (b : ℕ) → is_figure_byte b ≡ true → is_visible b ≡ true
figure_visible b h = grind (arith, nat_tests)

abbrev is_row_byte : ℕ → Bool
is_row_byte b = is_figure_byte b || (b == 32)

figure_in_row : (b : ℕ) → is_figure_byte b ≡ true → is_row_byte b ≡ true
figure_in_row b h = grind (arith, nat_tests)

row_visible : (b : ℕ) → is_row_byte b ≡ true → is_visible b ≡ true
row_visible b h = grind (arith, nat_tests)

row_apart : (b : ℕ) → is_row_byte b ≡ true → is_equals b ≡ false
row_apart b h = grind (arith, nat_tests)

-- ---- the fields

none_blank : (text : List ℕ) → list_all is_figure_byte text ≡ true → All (λ b. is_blank b ≡ false) text
none_blank text all = λ i d below. figure_filled (get_or text i d) (all_at is_figure_byte text i d all below)

split_row : (first : List ℕ) (others : List (List ℕ)) → is_field first ≡ true → list_all is_field others ≡ true → slice_split is_blank (row_of first others) ≡ first ∷ others
split_row first [] one all =
    let bytes = (and_parts (nat_lt 0 (length first)) (list_all is_figure_byte first) one).1 in
    ap (slice_split is_blank) (append-nil first) ∙ slice_split_none is_blank first (none_blank first bytes)
split_row first (next ∷ others) one all =
    let bytes = (and_parts (nat_lt 0 (length first)) (list_all is_figure_byte first) one).1 in
    let parts = and_parts (is_field next) (list_all is_field others) all in
    slice_split_at is_blank first 32 (row_of next others) (none_blank first bytes) refl
    ∙ ap (λ fs. first ∷ fs) (split_row next others parts.0 parts.1)

filled : (row : List (List ℕ)) → list_all is_field row ≡ true → filter (λ part. nat_lt 0 (length part)) row ≡ row
filled [] all = refl
filled (field ∷ row) all =
    let parts = and_parts (is_field field) (list_all is_field row) all in
    rw (and_parts (nat_lt 0 (length field)) (list_all is_figure_byte field) parts.0).0 (ap (λ fs. field ∷ fs) (filled row parts.1))

pub fields_row : (first : List ℕ) (others : List (List ℕ)) → list_all is_field (first ∷ others) ≡ true → fields (row_of first others) ≡ first ∷ others
unfolding fields
fields_row first others all =
    let parts = and_parts (is_field first) (list_all is_field others) all in
    ap (filter (λ part. nat_lt 0 (length part))) (split_row first others parts.0 parts.1) ∙ filled (first ∷ others) all

-- ---- the line

row_bytes : (first : List ℕ) (others : List (List ℕ)) → list_all is_figure_byte first ≡ true → list_all is_field others ≡ true → list_all is_row_byte (row_of first others) ≡ true
row_bytes first [] bytes all = ap (list_all is_row_byte) (append-nil first) ∙ all_weaker is_figure_byte is_row_byte figure_in_row first bytes
row_bytes first (next ∷ others) bytes all =
    let parts = and_parts (is_field next) (list_all is_field others) all in
    let later = row_bytes next others (and_parts (nat_lt 0 (length next)) (list_all is_figure_byte next) parts.0).1 parts.1 in
    all_append is_row_byte first (32 ∷ row_of next others) (all_weaker is_figure_byte is_row_byte figure_in_row first bytes) later

pub field_starts : (field : List ℕ) → is_field field ≡ true → Starts field
field_starts field one =
    let parts = and_parts (nat_lt 0 (length field)) (list_all is_figure_byte field) one in
    figure_filled (get_or field 0 32) (all_at is_figure_byte field 0 32 parts.1 (grind (arith, nat_tests, parts.0)))

pub field_ends : (field : List ℕ) → is_field field ≡ true → Ends field
field_ends field one =
    let parts = and_parts (nat_lt 0 (length field)) (list_all is_figure_byte field) one in
    let some : 0 < length field = grind (arith, nat_tests, parts.0) in
    figure_filled (get_or field (length field - 1) 32) (all_at is_figure_byte field (length field - 1) 32 parts.1 (omega (arith, some)))

pub field_visible : (field : List ℕ) → is_field field ≡ true → list_all is_visible field ≡ true
field_visible field one = all_weaker is_figure_byte is_visible figure_visible field (and_parts (nat_lt 0 (length field)) (list_all is_figure_byte field) one).1

row_ends : (first : List ℕ) (others : List (List ℕ)) → is_field first ≡ true → list_all is_field others ≡ true → Ends (row_of first others)
row_ends first [] one all = ap (λ text. is_blank (get_or text (length text - 1) 32)) (append-nil first) ∙ field_ends first one
row_ends first (next ∷ others) one all =
    let parts = and_parts (is_field next) (list_all is_field others) all in
    ends_append first (32 ∷ row_of next others) (ends_append (32 ∷ []) (row_of next others) (row_ends next others parts.0 parts.1))

-- it begins with no word
no_comment : (text : List ℕ) (b : ℕ) → is_figure_byte b ≡ true → is_comment (b ∷ text) ≡ false
no_comment text b h =
    let no_c : (67 == b) ≡ false = grind (arith, nat_tests) in
    ap (λ t. starts_with nat_eq t (codes "COMMENT") && is_end_or_blank (drop 7 t)) (behind_no is_blank b text (figure_filled b h)) ∙ rw no_c refl

no_mark : (text : List ℕ) (b : ℕ) → is_figure_byte b ≡ true → mark_of (b ∷ text) ≡ None
no_mark text b h =
    let no_m : (b == 77) ≡ false = grind (arith, nat_tests) in
    let no_c : (b == 67) ≡ false = grind (arith, nat_tests) in
    rw (no_m, no_c) refl

begins : (first rest : List ℕ) → is_field first ≡ true → (is_comment (first ++ rest) ≡ false) × (mark_of (first ++ rest) ≡ None)
begins [] rest one = absurd cc
begins (b ∷ first) rest one =
    let bytes = (and_parts (nat_lt 0 (length (b ∷ first))) (list_all is_figure_byte (b ∷ first)) one).1 in
    let here = (and_parts (is_figure_byte b) (list_all is_figure_byte first) bytes).0 in
    (no_comment (first ++ rest) b here, no_mark (first ++ rest) b here)

none_equals : (text : List ℕ) → list_all is_row_byte text ≡ true → list_any is_equals text ≡ false
none_equals [] all = refl
none_equals (b ∷ text) all =
    let parts = and_parts (is_row_byte b) (list_all is_row_byte text) all in
    rw (row_apart b parts.0) (none_equals text parts.1)

row_said : (number : ℕ) (text : List ℕ) → list_any is_equals text ≡ false → pair_or_row number text ≡ Ok (Row text)
unfolding pair_or_row
row_said number text none = rw none refl

pub row_line : (first : List ℕ) (others : List (List ℕ)) → list_all is_field (first ∷ others) ≡ true → Says (row_of first others) (Row (row_of first others))
row_line first others all =
    let text = row_of first others in
    let parts = and_parts (is_field first) (list_all is_field others) all in
    let bytes = row_bytes first others (and_parts (nat_lt 0 (length first)) (list_all is_figure_byte first) parts.0).1 parts.1 in
    let visible = all_weaker is_row_byte is_visible row_visible text bytes in
    let begun = begins first (flat_map (λ field. 32 ∷ field) others) parts.0 in
    let starts = starts_append first (flat_map (λ field. 32 ∷ field) others) (field_starts first parts.0) in
    record {
      visible = visible;
      said = λ number.
          inner_is number text begun.0 (all_printable text visible)
          ∙ ap (form_of number) (trimmed_none text starts (row_ends first others parts.0 parts.1))
          ∙ form_other number text (starts_length text starts) begun.1
          ∙ row_said number text (none_equals text bytes);
    }
