-- What a reader of lines takes as the value of a pair is empty or a label.
use Rattle.std.proofs.Common.{◌≡◌, ℕ, ◌+◌, ◌-◌, ◌<◌, ◌≤◌, inl, inr, List, [], ◌∷◌, Bool, true, false, take, map, reverse, length, get_or, Option, Some, None, Result, Ok, Err, arith, ap, sym, ◌∙◌, refl, subst}
use Rattle.std.specs.Prelude.{◌&&◌, ◌==◌, not, nat_le, if◌then◌else◌}
use Rattle.std.specs.List.{list_all, list_any, before_first, after_first, prefix_len, suffix_len, position_or_len}
use Rattle.std.proofs.lemmas.Bool.Decides.{nat_tests, leb_tells}
use Rattle.std.proofs.lemmas.List.{length-map, length-take, length-reverse, get_or-map, get_or-reverse, get_or-take}
use Rattle.std.proofs.lemmas.List.Elements.{All-drop, All-map, All-take, All-weaker}
use Rattle.std.proofs.lemmas.List.Sums.{AllPass-from_list_all, list_all-from_AllPass, prefix_len_stops, suffix_len-le-length}
use Rattle.cj_base.specs.Bytes.{spaced}
use Rattle.cj_kvn.specs.Lines.{Form, Blank, Comment, Pair, Row, is_blank, is_comment, is_equals, is_key, is_printable, trimmed, without_leading_blanks, mark_of, mark_or, pair_of, pair_or_row, form_of, line_form}
use Rattle.cj_kvn.specs.Faults.{◌>>=◌}
use Rattle.cj_kvn.specs.declared.lines.KvnCause.{KvnCause}
use Rattle.cj_kvn.specs.declared.text_fault.LineFault.{LineFault}
use Rattle.cj_kvn.specs.declared.lines.MarkKind.{MarkKind}
use Rattle.cj_kvn.proofs.ListLemmas.{HeadFails, behind_fails}
use Rattle.cj_kvn.proofs.RawLemmas.{ArePrintable}
use Rattle.cj_track.specs.Labels.{is_label, is_visible}
use Rattle.cj_oem.specs.MetadataDrafts.{HasLabel, IsLabelled}

-- ---- texts without outer blanks

-- no blank stands at either end
record IsTrimmed (text : List ℕ) : Type 0 where
  front : 0 < length text → is_blank (get_or text 0 32) ≡ false
  back : 0 < length text → is_blank (get_or text (length text - 1) 32) ≡ false

head_at : (text : List ℕ) → HeadFails is_blank text → 0 < length text → is_blank (get_or text 0 32) ≡ false
head_at [] fails some = absurd (omega arith)
head_at (b ∷ text) fails some = fails

trimmed_is : (text : List ℕ) → IsTrimmed (trimmed text)
trimmed_is text =
    let inner = without_leading_blanks text in
    let n = suffix_len is_blank inner in
    let m = length inner - n in
    let short : n ≤ length inner = suffix_len-le-length is_blank inner in
    let long : length (take m inner) ≡ m = omega (arith, length-take m inner) in
    record {
      front = λ some. ap is_blank (get_or-take m inner 0 32 (omega arith)) ∙ head_at inner (behind_fails is_blank text) (omega arith);
      back = λ some.
          let first : get_or (take m inner) (length (take m inner) - 1) 32 ≡ get_or inner (m - 1) 32 =
          ap (λ (k : ℕ). get_or (take m inner) (k - 1) 32) long ∙ get_or-take m inner (m - 1) 32 (omega arith) in
          let at : length inner - 1 - n ≡ m - 1 = omega arith in
          let turned : get_or (reverse inner) n 32 ≡ get_or inner (m - 1) 32 =
          get_or-reverse inner n 32 (omega arith) ∙ ap (λ (k : ℕ). get_or inner k 32) at in
          let within : n < length (reverse inner) = omega (arith, length-reverse inner) in
          ap is_blank (first ∙ sym turned) ∙ prefix_len_stops is_blank (reverse inner) 32 within;
    }

-- ---- their bytes

trimmed_printable : (text : List ℕ) → ArePrintable text → ArePrintable (trimmed text)
trimmed_printable text all =
    let inner = without_leading_blanks text in
    All-take (λ b. is_printable b ≡ true) (length inner - suffix_len is_blank inner) inner
    (All-drop (λ b. is_printable b ≡ true) (prefix_len is_blank text) text all)

spaced_visible : (b : ℕ) → is_printable b ≡ true → is_visible (spaced b) ≡ true
spaced_visible b h = grind (arith, nat_tests)

spaced_other : (b : ℕ) → is_blank b ≡ false → not (spaced b == 32) ≡ true
spaced_other b h = grind (arith, nat_tests)

spaced_at : (text : List ℕ) (i : ℕ) → i < length text → is_blank (get_or text i 32) ≡ false → not (get_or (map spaced text) i 32 == 32) ≡ true
spaced_at text i within h = ap (λ (b : ℕ). not (b == 32)) (get_or-map spaced text i 32 32 within) ∙ spaced_other (get_or text i 32) h

four : (a b c d : Bool) → a ≡ true → b ≡ true → c ≡ true → d ≡ true → (a && b && c && d) ≡ true
four a b c d e f g h = rw (e, f, g, h) refl

label_is : (text : List ℕ) → ArePrintable text → IsTrimmed text → 0 < length text → is_label (map spaced text) ≡ true
unfolding is_label
label_is text all ends some =
    let long : length (map spaced text) ≡ length text = length-map text spaced in
    let last : length (map spaced text) - 1 ≡ length text - 1 = ap (λ (n : ℕ). n - 1) long in
    four (nat_le 1 (length (map spaced text))) (list_all is_visible (map spaced text))
    (not (get_or (map spaced text) 0 32 == 32)) (not (get_or (map spaced text) (length (map spaced text) - 1) 32 == 32))
    (grind (arith, nat_tests, long))
    (list_all-from_AllPass is_visible (map spaced text) (All-map (λ b. is_visible b ≡ true) spaced text (All-weaker _ _ spaced_visible text all)))
    (spaced_at text 0 some (ends.front some))
    (ap (λ (i : ℕ). not (get_or (map spaced text) i 32 == 32)) last ∙ spaced_at text (length text - 1) (omega arith) (ends.back some))

labelled : (text : List ℕ) → ArePrintable text → IsLabelled (trimmed text)
labelled text all =
    let value = trimmed text in
    elim (leb_tells 1 (length value)) [
      | inl h ↦ inr (label_is value (trimmed_printable text all) (trimmed_is text) h.1)
      | inr h ↦ inl (omega arith)
    ]

-- ---- lines

-- what is said, if anything, has the property
abbrev Where : {A : Type 0} → (A → Type 0) → Result A (LineFault KvnCause) → Type 0
Where P (Ok x) = P x
Where P (Err e) = Unit {0}

pair_labelled : (b : Bool) (key value : List ℕ) (e : LineFault KvnCause) → IsLabelled value → Where HasLabel (if b then Ok (Pair key value) else Err e)
pair_labelled true key value e h = h
pair_labelled false key value e h = tt

row_labelled : (b : Bool) (said : Result Form (LineFault KvnCause)) (text : List ℕ) → Where HasLabel said → Where HasLabel (if b then said else Ok (Row text))
row_labelled true said text h = h
row_labelled false said text h = tt

pair_or_row_labelled : (number : ℕ) (text : List ℕ) → ArePrintable text → Where HasLabel (pair_or_row number text)
unfolding pair_or_row
pair_or_row_labelled number text all =
    let key = trimmed (before_first is_equals text) in
    let value = after_first is_equals text in
    let behind : ArePrintable value = All-drop (λ b. is_printable b ≡ true) (position_or_len is_equals text + 1) text all in
    row_labelled (list_any is_equals text) (pair_of number key (trimmed value)) text
    (pair_labelled (is_key key) key (trimmed value) _ (labelled value behind))

mark_labelled : (mark : Option MarkKind) (said : Result Form (LineFault KvnCause)) → Where HasLabel said → Where HasLabel (mark_or mark said)
mark_labelled None said h = h
mark_labelled (Some mark) said h = tt

blank_labelled : (b : Bool) (said : Result Form (LineFault KvnCause)) → Where HasLabel said → Where HasLabel (if b then Ok Blank else said)
blank_labelled true said h = tt
blank_labelled false said h = h

form_labelled : (number : ℕ) (text : List ℕ) → ArePrintable text → Where HasLabel (form_of number text)
unfolding form_of
form_labelled number text all =
    blank_labelled (length text == 0) (mark_or (mark_of text) (pair_or_row number text))
    (mark_labelled (mark_of text) (pair_or_row number text) (pair_or_row_labelled number text all))

printable_labelled : (b : Bool) (said : Result Form (LineFault KvnCause)) (e : LineFault KvnCause) → (b ≡ true → Where HasLabel said) → Where HasLabel (if b then said else Err e)
printable_labelled true said e h = h refl
printable_labelled false said e h = tt

comment_labelled : (b : Bool) (said : Result Form (LineFault KvnCause)) → Where HasLabel said → Where HasLabel (if b then Ok Comment else said)
comment_labelled true said h = tt
comment_labelled false said h = h

line_labelled : (number : ℕ) (line : List ℕ) → Where HasLabel (line_form number line)
unfolding line_form
line_labelled number line =
    comment_labelled (is_comment line) _
    (printable_labelled (list_all is_printable line) (form_of number (trimmed line)) _
    (λ all. form_labelled number (trimmed line) (trimmed_printable line (AllPass-from_list_all is_printable line all))))

where_ok : {A : Type 0} (P : A → Type 0) (said : Result A (LineFault KvnCause)) (x : A) → said ≡ Ok x → Where P said → P x
where_ok P said x e h = subst (Where P) e h

-- a line that has a form
pub first_labelled : (number : ℕ) (line : List ℕ) (form : Form) → line_form number line ≡ Ok form → HasLabel form
first_labelled number line form e = where_ok HasLabel (line_form number line) form e (line_labelled number line)
