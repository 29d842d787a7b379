-- What a line says, and the first line of a text.
use Rattle.std.proofs.Common.{◌≡◌, ℕ, suc, ◌+◌, ◌-◌, ◌<◌, ◌≤◌, List, [], ◌∷◌, Bool, true, false, take, drop, length, eqb, arith, ap, sym, ◌∙◌, refl, subst, Some, None, Ok, Err, inl, inr}
use Rattle.std.specs.Prelude.{nat_lt, cond, slice_range, position}
use Rattle.std.specs.List.{position_or_len, list_all, list_any, slice_split}
use Rattle.std.specs.Str.Lines.{lines, lines_of_parts, strip_carriage_return}
use Rattle.std.proofs.lemmas.Bool.Decides.{nat_tests, leb_tells, eqb_tells}
use Rattle.std.proofs.lemmas.List.{drop-drop, drop_all, length-drop, length-take, take-take, take_all, take_rest}
use Rattle.std.proofs.lemmas.List.Splits.{slice_split_first, slice_split_none, length-slice_split}
use Rattle.std.proofs.lemmas.List.Sums.{fails_before_first}
use Rattle.cj_base.specs.Bytes.{is_feed}
use Rattle.cj_kvn.specs.Lines.{Row, Comment, is_comment, is_printable, is_equals, form_of, line_form, pair_of, pair_or_row, trimmed}
use Rattle.cj_kvn.specs.declared.lines.KvnCause.TheVariants.{NotPrintable}
use Rattle.cj_kvn.proofs.ListLemmas.{any_yes, any_no, at_yes, at_no}
use Rattle.cj_kvn.proofs.RangeLemmas.{slice_drop, slice_take}

-- an element passes where the first one that does is found
any_step : {X : Type 0} (p : X → Bool) (x : X) (xs : List X) (b : Bool) → p x ≡ b → list_any p xs ≡ nat_lt (position_or_len p xs) (length xs)
    → list_any p (x ∷ xs) ≡ nat_lt (position_or_len p (x ∷ xs)) (length (x ∷ xs))
any_step p x xs true h e =
    let here : nat_lt 0 (suc (length xs)) ≡ true = grind (arith, nat_tests) in
    any_yes p x xs h ∙ sym here ∙ ap (λ (n : ℕ). nat_lt n (suc (length xs))) (sym (at_yes p x xs h))
any_step p x xs false h e =
    let n = position_or_len p xs in
    let later : nat_lt (suc n) (suc (length xs)) ≡ nat_lt n (length xs) = grind (arith, nat_tests) in
    any_no p x xs h ∙ e ∙ sym later ∙ ap (λ (m : ℕ). nat_lt m (suc (length xs))) (sym (at_no p x xs h))

any_is : {X : Type 0} (p : X → Bool) (xs : List X) → list_any p xs ≡ nat_lt (position_or_len p xs) (length xs)
any_is p [] = refl
any_is p (x ∷ xs) = any_step p x xs (p x) refl (any_is p xs)

found_in : (b : Bool) (n i : ℕ) → cond b (Some n) None ≡ Some i → (b ≡ true) × (n ≡ i)
found_in true n i h = (refl, cc)
found_in false n i h = absurd cc

lost_in : (b : Bool) (n : ℕ) → cond b (Some n) None ≡ None → b ≡ false
lost_in true n h = absurd cc
lost_in false n h = refl

pub found : (p : ℕ → Bool) (xs : List ℕ) (i : ℕ) → position p xs ≡ Some i → (list_any p xs ≡ true) × (position_or_len p xs ≡ i) × (i < length xs)
found p xs i h =
    let n = position_or_len p xs in
    let here = found_in (nat_lt n (length xs)) n i h in
    let below : n < length xs = elim (leb_tells (suc n) (length xs)) [ inl t ↦ omega arith | inr t ↦ absurd cc ] in
    (any_is p xs ∙ here.0, here.1, omega arith)

pub not_found : (p : ℕ → Bool) (xs : List ℕ) → position p xs ≡ None → (list_any p xs ≡ false) × (length xs ≤ position_or_len p xs)
not_found p xs h =
    let n = position_or_len p xs in
    let past = lost_in (nat_lt n (length xs)) n h in
    let long : length xs ≤ n = elim (leb_tells (suc n) (length xs)) [ inl t ↦ absurd cc | inr t ↦ omega arith ] in
    (any_is p xs ∙ past, long)

-- a row, and a pair
pub row_is : (number : ℕ) (text : List ℕ) → position is_equals text ≡ None → pair_or_row number text ≡ Ok (Row text)
unfolding pair_or_row
row_is number text h = rw (not_found is_equals text h).0 refl

pub pair_is : (number : ℕ) (text : List ℕ) (at : ℕ) → position is_equals text ≡ Some at
    → pair_or_row number text ≡ pair_of number (trimmed (take at text)) (trimmed (drop (at + 1) text))
unfolding pair_or_row
pair_is number text at h =
    let here = found is_equals text at h in
    rw here.0 refl ∙ ap (λ (n : ℕ). pair_of number (trimmed (take n text)) (trimmed (drop (n + 1) text))) here.1

-- the same of a part of the bytes
pub pair_text : (number : ℕ) (bytes : List ℕ) (first past at : ℕ) (key value : List ℕ) → first + length (slice_range bytes first past) ≡ past
    → position is_equals (slice_range bytes first past) ≡ Some at
    → key ≡ trimmed (slice_range bytes first (first + at)) → value ≡ trimmed (slice_range bytes (first + at + 1) past)
    → pair_or_row number (slice_range bytes first past) ≡ pair_of number key value
pair_text number bytes first past at key value long h front back =
    let text = slice_range bytes first past in
    let here = found is_equals text at h in
    let next : first + at + 1 ≡ first + (at + 1) = omega arith in
    let before : trimmed (take at text) ≡ key = ap trimmed (sym (slice_take bytes first past at (omega arith))) ∙ sym front in
    let after : trimmed (drop (at + 1) text) ≡ value =
    ap trimmed (sym (slice_drop bytes first past (at + 1)) ∙ ap (λ (n : ℕ). slice_range bytes n past) (sym next)) ∙ sym back in
    pair_is number text at h
    ∙ ap (λ (k : List ℕ). pair_of number k (trimmed (drop (at + 1) text))) before
    ∙ ap (pair_of number key) after

-- the three ways of a line
pub comment_is : (number : ℕ) (line : List ℕ) → is_comment line ≡ true → line_form number line ≡ Ok Comment
unfolding line_form
comment_is number line h = rw h refl

pub inner_is : (number : ℕ) (line : List ℕ) → is_comment line ≡ false → list_all is_printable line ≡ true → line_form number line ≡ form_of number (trimmed line)
unfolding line_form
inner_is number line h printable = rw (h, printable) refl

pub fault_is : (number : ℕ) (line : List ℕ) → is_comment line ≡ false → list_all is_printable line ≡ false → line_form number line ≡ Err (record { line = number; cause = NotPrintable })
unfolding line_form
fault_is number line h printable = rw (h, printable) refl

-- a text is split at the first byte that passes
pub split_here : (p : ℕ → Bool) (xs : List ℕ) (i : ℕ) → position p xs ≡ Some i → slice_split p xs ≡ take i xs ∷ slice_split p (drop (i + 1) xs)
split_here p xs i h =
    let here = found p xs i h in
    slice_split_first p xs 0 (omega (arith, here.1, here.2)) ∙ ap (λ (k : ℕ). take k xs ∷ slice_split p (drop (k + 1) xs)) here.1

pub split_nowhere : (p : ℕ → Bool) (xs : List ℕ) → position p xs ≡ None → slice_split p xs ≡ xs ∷ []
split_nowhere p xs h =
    let past = (not_found p xs h).1 in
    slice_split_none p xs (λ k d below. fails_before_first p xs k d (omega arith))

pub first_part : (x : List ℕ) (parts : List (List ℕ)) → 0 < length parts → lines_of_parts (x ∷ parts) ≡ strip_carriage_return x ∷ lines_of_parts parts
first_part x [] some = absurd (omega arith)
first_part x (y ∷ parts) some = refl

pub alone : (x : List ℕ) → 0 < length x → lines_of_parts (x ∷ []) ≡ x ∷ []
alone x some =
    let long : eqb (length x) 0 ≡ false = elim (eqb_tells (length x) 0) [ inl h ↦ absurd (omega (arith, h.1)) | inr h ↦ h.0 ] in
    rw long refl

-- a line that ends with a line feed
line_at : (bytes : List ℕ) (i : ℕ) → position is_feed bytes ≡ Some i → lines bytes ≡ strip_carriage_return (take i bytes) ∷ lines (drop (i + 1) bytes)
line_at bytes i h =
    ap lines_of_parts (split_here is_feed bytes i h)
    ∙ first_part (take i bytes) (slice_split is_feed (drop (i + 1) bytes)) (omega (arith, length-slice_split is_feed (drop (i + 1) bytes)))

-- the last line, where no line feed follows
last_line : (bytes : List ℕ) → 0 < length bytes → position is_feed bytes ≡ None → lines bytes ≡ bytes ∷ []
last_line bytes some h = ap lines_of_parts (split_nowhere is_feed bytes h) ∙ alone bytes some

-- the same of the bytes from a place on
last_line_at : (bytes : List ℕ) (at : ℕ) → at < length bytes → position is_feed (drop at bytes) ≡ None
    → lines (drop at bytes) ≡ slice_range bytes at (length bytes) ∷ lines (drop (length bytes) bytes)
last_line_at bytes at inside h =
    let rest : slice_range bytes at (length bytes) ≡ drop at bytes = take_all (length bytes - at) (drop at bytes) (omega (arith, length-drop at bytes)) in
    let none : drop (length bytes) bytes ≡ [] = drop_all (length bytes) bytes (omega arith) in
    last_line (drop at bytes) (omega (arith, length-drop at bytes)) h
    ∙ ap (λ (x : List ℕ). x ∷ []) (sym rest)
    ∙ ap (λ (xs : List ℕ). slice_range bytes at (length bytes) ∷ lines xs) (sym none)

line_from : (bytes : List ℕ) (at len kept : ℕ) → position is_feed (drop at bytes) ≡ Some len
    → take kept (take len (drop at bytes)) ≡ strip_carriage_return (take len (drop at bytes)) → kept ≤ len
    → lines (drop at bytes) ≡ slice_range bytes at (at + kept) ∷ lines (drop (at + len + 1) bytes)
line_from bytes at len kept h strip short =
    let part : slice_range bytes at (at + kept) ≡ strip_carriage_return (take len (drop at bytes)) =
    ap (λ (k : ℕ). take k (drop at bytes)) (let e : at + kept - at ≡ kept = omega arith in e) ∙ sym (take-take kept len (drop at bytes) short) ∙ strip in
    let rest : drop (len + 1) (drop at bytes) ≡ drop (at + len + 1) bytes =
    drop-drop (len + 1) at bytes ∙ ap (λ (k : ℕ). drop k bytes) (let e : at + (len + 1) ≡ at + len + 1 = omega arith in e) in
    line_at (drop at bytes) len h
    ∙ ap (λ (x : List ℕ). x ∷ lines (drop (len + 1) (drop at bytes))) (sym part)
    ∙ ap (λ (xs : List ℕ). slice_range bytes at (at + kept) ∷ lines xs) rest

-- the same of a slice of the rest
abbrev pub rest_of : List ℕ → ℕ → List ℕ
rest_of bytes at = take (length bytes - at) (drop at bytes)

pub last_line_of_rest : (bytes : List ℕ) (at : ℕ) → at < length bytes → position is_feed (rest_of bytes at) ≡ None
    → lines (drop at bytes) ≡ slice_range bytes at (length bytes) ∷ lines (drop (length bytes) bytes)
last_line_of_rest bytes at inside h = last_line_at bytes at inside (ap (position is_feed) (sym (take_rest bytes at)) ∙ h)

pub line_of_rest : (bytes : List ℕ) (at len kept : ℕ) → position is_feed (rest_of bytes at) ≡ Some len
    → take kept (take len (rest_of bytes at)) ≡ strip_carriage_return (take len (rest_of bytes at)) → kept ≤ length (take len (rest_of bytes at))
    → lines (drop at bytes) ≡ slice_range bytes at (at + kept) ∷ lines (drop (at + len + 1) bytes)
line_of_rest bytes at len kept h strip short =
    line_from bytes at len kept (ap (position is_feed) (sym (take_rest bytes at)) ∙ h)
    (subst (λ (rest : List ℕ). take kept (take len rest) ≡ strip_carriage_return (take len rest)) (take_rest bytes at) strip)
    (omega (arith, length-take len (rest_of bytes at)))
