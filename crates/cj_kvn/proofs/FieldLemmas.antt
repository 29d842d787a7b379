-- The first field of a row.
use Rattle.std.proofs.Common.{◌≡◌, ℕ, ◌+◌, ◌<◌, ◌≤◌, List, [], ◌∷◌, Bool, true, false, take, drop, length, get_or, arith, ap, sym, ◌∙◌, refl, inl, inr}
use Rattle.std.specs.Prelude.{nat_lt, not, filter, slice_range}
use Rattle.std.specs.List.{position_or_len, before_first, after_first, slice_split}
use Rattle.std.proofs.lemmas.Bool.Decides.{leb_tells, nat_tests}
use Rattle.std.proofs.lemmas.List.{drop_all, drop_more, take_all, nil_from_length, length-take-le}
use Rattle.std.proofs.lemmas.List.Splits.{slice_split-cons_yes, slice_split_first, slice_split_none}
use Rattle.std.proofs.lemmas.List.Sums.{prefix_len-le-length, fails_before_first, passes_at_first}
use Rattle.cj_kvn.specs.Fields.{fields}
use Rattle.cj_kvn.specs.Lines.{is_blank, without_leading_blanks}
use Rattle.cj_kvn.proofs.RangeLemmas.{slice_drop, slice_take, slice_length}
use Rattle.cj_kvn.proofs.ListLemmas.{HeadFails, behind_yes, behind_no, behind_fails}

abbrev is_filled : List ℕ → Bool
is_filled part = nat_lt 0 (length part)

filter_filled : (part : List ℕ) (parts : List (List ℕ)) → 0 < length part → filter is_filled (part ∷ parts) ≡ part ∷ filter is_filled parts
filter_filled part parts some = grind (arith, nat_tests)

-- a blank at the front
fields_blank : (b : ℕ) (text : List ℕ) → is_blank b ≡ true → fields (b ∷ text) ≡ fields text
unfolding fields
fields_blank b text h = ap (filter is_filled) (slice_split-cons_yes is_blank b text h)

leading_step : (b : ℕ) (text : List ℕ) (t : Bool) → is_blank b ≡ t → fields (without_leading_blanks text) ≡ fields text
    → fields (without_leading_blanks (b ∷ text)) ≡ fields (b ∷ text)
leading_step b text true h e = ap fields (behind_yes is_blank b text h) ∙ e ∙ sym (fields_blank b text h)
leading_step b text false h e = ap fields (behind_no is_blank b text h)

pub fields_leading : (text : List ℕ) → fields (without_leading_blanks text) ≡ fields text
fields_leading [] = refl
fields_leading (b ∷ text) = leading_step b text (is_blank b) refl (fields_leading text)

fields_nil : fields [] ≡ []
unfolding fields
fields_nil = refl

pub fields_none : (text : List ℕ) → length (without_leading_blanks text) ≡ 0 → fields text ≡ []
fields_none text none = sym (fields_leading text) ∙ ap fields (nil_from_length (without_leading_blanks text) none) ∙ fields_nil

-- a text up to its first blank
first_ends : (text : List ℕ) → 0 < position_or_len is_blank text → position_or_len is_blank text < length text
    → fields text ≡ before_first is_blank text ∷ fields (drop (position_or_len is_blank text) text)
unfolding fields
first_ends text some ends =
    let n = position_or_len is_blank text in
    let long : length (before_first is_blank text) ≡ n = length-take-le n text (omega arith) in
    let next : fields (drop n text) ≡ fields (after_first is_blank text) =
    ap fields (drop_more text n 0 ends) ∙ fields_blank (get_or text n 0) (drop (n + 1) text) (passes_at_first is_blank text 0 ends) in
    ap (filter is_filled) (slice_split_first is_blank text 0 ends)
    ∙ filter_filled (before_first is_blank text) (slice_split is_blank (after_first is_blank text)) (omega arith)
    ∙ ap (λ (parts : List (List ℕ)). before_first is_blank text ∷ parts) (sym next)

first_alone : (text : List ℕ) → 0 < length text → position_or_len is_blank text ≡ length text
    → fields text ≡ before_first is_blank text ∷ fields (drop (position_or_len is_blank text) text)
unfolding fields
first_alone text some whole =
    let n = position_or_len is_blank text in
    let none : fields (drop n text) ≡ [] = ap fields (drop_all n text (omega arith)) in
    ap (filter is_filled) (slice_split_none is_blank text (λ k d below. fails_before_first is_blank text k d (omega arith)))
    ∙ filter_filled text [] some
    ∙ ap (λ (part : List ℕ). part ∷ []) (sym (take_all n text (omega arith)))
    ∙ ap (λ (parts : List (List ℕ)). before_first is_blank text ∷ parts) (sym none)

head_len : (text : List ℕ) → HeadFails is_blank text → 0 < length text → 0 < position_or_len is_blank text
head_len [] fails some = absurd (omega arith)
head_len (b ∷ text) fails some = grind (arith, fails)

pub fields_next : (text : List ℕ) →
    let inner = without_leading_blanks text in
    let n = position_or_len is_blank inner in
    0 < length inner → fields text ≡ take n inner ∷ fields (drop n inner)
fields_next text some =
    let inner = without_leading_blanks text in
    let head = head_len inner (behind_fails is_blank text) some in
    let whole = prefix_len-le-length (λ b. not (is_blank b)) inner in
    sym (fields_leading text) ∙ elim (leb_tells (length inner) (position_or_len is_blank inner)) [
      | inl h ↦ first_alone inner some (omega arith)
      | inr h ↦ first_ends inner head h.1
    ]

-- the first field of a part, and what stands behind it
pub field_cut : (bytes text : List ℕ) (first past n : ℕ) → first ≤ past → past ≤ length bytes → (first ≡ past → ⊥)
    → slice_range bytes first past ≡ without_leading_blanks text → n ≡ position_or_len is_blank (slice_range bytes first past)
    → fields text ≡ slice_range bytes first (first + n) ∷ fields (slice_range bytes (first + n) past)
field_cut bytes text first past n ordered inside some same at =
    let inner = slice_range bytes first past in
    let long = slice_length bytes first past ordered inside in
    let short = prefix_len-le-length (λ b. not (is_blank b)) inner in
    let there : 0 < length (without_leading_blanks text) = omega (arith, ap length same) in
    let cut : fields text ≡ take (position_or_len is_blank inner) inner ∷ fields (drop (position_or_len is_blank inner) inner) =
    fields_next text there ∙ ap (λ (t : List ℕ). take (position_or_len is_blank t) t ∷ fields (drop (position_or_len is_blank t) t)) (sym same) in
    cut
    ∙ ap (λ (k : ℕ). take k inner ∷ fields (drop k inner)) (sym at)
    ∙ ap (λ (t : List ℕ). t ∷ fields (drop n inner)) (sym (slice_take bytes first past n (omega arith)))
    ∙ ap (λ (t : List ℕ). slice_range bytes first (first + n) ∷ fields t) (sym (slice_drop bytes first past n))
