-- Printed marks, and printed keys with their values.
use Rattle.std.proofs.Common.{◌≡◌, ℕ, ◌-◌, ◌<◌, List, ◌∷◌, ◌++◌, true, false, true≢false, length, get_or, ap, sym, ◌∙◌, refl, arith, append_assoc, None, Ok}
use Rattle.std.specs.Prelude.{◌==◌, nat_eq, nat_lt, codes}
use Rattle.std.specs.Cmp.Lexicographic.{bytes_decides, pointwise}
use Rattle.std.specs.List.{after_first, before_first, list_all, list_any}
use Rattle.std.proofs.lemmas.Bool.{and_parts, false_from_ne_true}
use Rattle.std.proofs.lemmas.Bool.Decides.{nat_tests}
use Rattle.cj_kvn.specs.Lines.{Mark, Pair, form_of, is_blank, is_comment, is_equals, is_key, is_key_byte, line_form, mark_of, pair_or_row, trimmed}
use Rattle.cj_kvn.specs.declared.lines.MarkKind.TheVariants.{MetaStart, MetaStop, CovarianceStart, CovarianceStop}
use Rattle.cj_kvn.proofs.LineLemmas.{inner_is}
use Rattle.cj_kvn.proofs.ListLemmas.{after_skip, any_skip, before_skip, all_append}
use Rattle.cj_track.specs.Labels.{is_visible}
use Rattle.cj_oem.proofs.PrintedLineLemmas.{Says}
use Rattle.cj_oem.proofs.PrintedTextLemmas.{Ends, Starts, all_at, all_printable, all_weaker, ends_append, starts_append, starts_length, trimmed_behind, trimmed_before, trimmed_none}

-- ---- marks

pub meta_start : Says (codes "META_START") (Mark MetaStart)
unfolding line_form form_of
meta_start = record { visible = refl; said = λ number. refl }

pub meta_stop : Says (codes "META_STOP") (Mark MetaStop)
unfolding line_form form_of
meta_stop = record { visible = refl; said = λ number. refl }

pub covariance_start : Says (codes "COVARIANCE_START") (Mark CovarianceStart)
unfolding line_form form_of
covariance_start = record { visible = refl; said = λ number. refl }

pub covariance_stop : Says (codes "COVARIANCE_STOP") (Mark CovarianceStop)
unfolding line_form form_of
covariance_stop = record { visible = refl; said = λ number. refl }

-- ---- pairs

key_visible : (b : ℕ) → is_key_byte b ≡ true → is_visible b ≡ true
key_visible b h = grind (arith, nat_tests)

key_apart : (b : ℕ) → is_key_byte b ≡ true → is_equals b ≡ false
key_apart b h = grind (arith, nat_tests)

key_filled : (b : ℕ) → is_key_byte b ≡ true → is_blank b ≡ false
key_filled b h = grind (arith, nat_tests)

-- a text with an equals sign is no mark
no_word : (text word : List ℕ) → list_any is_equals text ≡ true → list_any is_equals word ≡ false → pointwise nat_eq text word ≡ false
no_word text word equals none =
    false_from_ne_true (pointwise nat_eq text word) (λ same. true≢false (sym equals ∙ ap (list_any is_equals) ((bytes_decides text word).0 same) ∙ none))

no_mark : (text : List ℕ) → list_any is_equals text ≡ true → mark_of text ≡ None
no_mark text equals =
    rw (
      no_word text (codes "META_START") equals refl,
      no_word text (codes "META_STOP") equals refl,
      no_word text (codes "COVARIANCE_START") equals refl,
      no_word text (codes "COVARIANCE_STOP") equals refl,
    ) refl

-- a key with its value, as it is printed
abbrev pub pair_text : List ℕ → List ℕ → List ℕ
pair_text key value = key ++ codes " = " ++ value

record IsPairText (key value : List ℕ) : Type 0 where
  equals : list_any is_equals (pair_text key value) ≡ true
  front : trimmed (before_first is_equals (pair_text key value)) ≡ key
  back : trimmed (after_first is_equals (pair_text key value)) ≡ value
  starts : Starts (pair_text key value)
  ends : Ends (pair_text key value)

pair_cut : (key value : List ℕ) → is_key key ≡ true → Starts value → Ends value → IsPairText key value
pair_cut key value named starts ends =
    let bytes = (and_parts (nat_lt 0 (length key)) (list_all is_key_byte key) named).1 in
    let some : 0 < length key = grind (arith, nat_tests, and_parts (nat_lt 0 (length key)) (list_all is_key_byte key) named) in
    let key_starts : Starts key = key_filled (get_or key 0 32) (all_at is_key_byte key 0 32 bytes some) in
    let key_ends : Ends key = key_filled (get_or key (length key - 1) 32) (all_at is_key_byte key (length key - 1) 32 bytes (omega (arith, some))) in
    let behind = 32 ∷ 61 ∷ 32 ∷ value in
    let shape : pair_text key value ≡ key ++ behind = append_assoc key (codes " = ") value in
    record {
      equals = ap (list_any is_equals) shape ∙ any_skip is_equals is_key_byte key_apart key behind bytes;
      front = ap (λ t. trimmed (before_first is_equals t)) shape ∙ ap trimmed (before_skip is_equals is_key_byte key_apart key behind bytes) ∙ trimmed_behind key key_starts key_ends;
      back = ap (λ t. trimmed (after_first is_equals t)) shape ∙ ap trimmed (after_skip is_equals is_key_byte key_apart key behind bytes) ∙ trimmed_before value starts ends;
      starts = starts_append (key ++ codes " = ") value (starts_append key (codes " = ") key_starts);
      ends = ends_append (key ++ codes " = ") value ends;
    }

pair_said : (number : ℕ) (text key value : List ℕ) → list_any is_equals text ≡ true → trimmed (before_first is_equals text) ≡ key → trimmed (after_first is_equals text) ≡ value
    → is_key key ≡ true → pair_or_row number text ≡ Ok (Pair key value)
unfolding pair_or_row
pair_said number text key value equals front back named = rw (equals, front, back, named) refl

pub form_other : (number : ℕ) (text : List ℕ) → 0 < length text → mark_of text ≡ None → form_of number text ≡ pair_or_row number text
unfolding form_of
form_other number text some none =
    let long : (length text == 0) ≡ false = grind (arith, nat_tests) in
    rw (long, none) refl

pub pair_line : (key value : List ℕ) → is_key key ≡ true → is_comment (pair_text key value) ≡ false → list_all is_visible value ≡ true → Starts value → Ends value
    → Says (pair_text key value) (Pair key value)
pair_line key value named plain visible starts ends =
    let text = pair_text key value in
    let cut = pair_cut key value named starts ends in
    let key_bytes = all_weaker is_key_byte is_visible key_visible key (and_parts (nat_lt 0 (length key)) (list_all is_key_byte key) named).1 in
    let all : list_all is_visible text ≡ true = all_append is_visible (key ++ codes " = ") value (all_append is_visible key (codes " = ") key_bytes refl) visible in
    record {
      visible = all;
      said = λ number.
          inner_is number text plain (all_printable text all)
          ∙ ap (form_of number) (trimmed_none text cut.starts cut.ends)
          ∙ form_other number text (starts_length text cut.starts) (no_mark text cut.equals)
          ∙ pair_said number text key value cut.equals cut.front cut.back named;
    }
