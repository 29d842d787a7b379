-- The first line of a text, found by its printable bytes, and its first equals sign.
use Rattle.std.proofs.Common.{◌≡◌, ℕ, suc, ◌+◌, ◌-◌, ◌<◌, ◌≤◌, List, [], ◌∷◌, ◌++◌, Bool, true, false, take, drop, length, get_or, All, arith, ap, sym, ◌∙◌, refl, subst, Option, Some, None, inl, inr}
use Rattle.std.specs.Prelude.{◌&&◌, ◌==◌, nat_lt, cond, not, position, if◌then◌else◌, reverse, slice_range}
use Rattle.std.specs.List.{prefix_len, suffix_len, position_or_len, list_all, slice_split}
use Rattle.std.specs.Option.{option_map}
use Rattle.std.specs.Str.Lines.{lines, lines_of_parts, strip_carriage_return}
use Rattle.std.proofs.lemmas.Bool.{and_parts, cases_eq, eqb-true}
use Rattle.std.proofs.lemmas.Bool.Decides.{nat_tests, leb_tells}
use Rattle.std.proofs.lemmas.List.{append-nil, append_assoc, drop-drop, get_or-drop, get_or-take, get_or-reverse, length-append, length-drop, length-take, take-append-drop, take-take, take_rest}
use Rattle.std.proofs.lemmas.List.Elements.{All-push}
use Rattle.std.proofs.lemmas.List.Folds.{list_all_at}
use Rattle.std.proofs.lemmas.List.Quantifiers.{position-Some}
use Rattle.std.proofs.lemmas.List.Splits.{slice_split_at, slice_split_none, length-slice_split}
use Rattle.std.proofs.lemmas.List.Sums.{fails_before_first, list_all-from_AllPass, position_or_len_is, prefix_len-le-length, prefix_len_is, prefix_len_passes, prefix_len_stops}
use Rattle.std.proofs.Math.Seq.{get_or-append_seam, take-append_seam}
use Rattle.cj_kvn.specs.declared.range.Range32.{Range32}
use Rattle.cj_base.specs.Bytes.{is_feed}
use Rattle.cj_kvn.specs.Lines.{is_blank, is_equals, is_printable, pair_of, pair_or_row, trimmed, without_leading_blanks}
use Rattle.cj_kvn.specs.RawLines.{begins_with_feed, end_len, equals_at, is_plain}
use Rattle.cj_kvn.specs.Ranges.{IsWithin, text_at}
use Rattle.cj_kvn.proofs.LineLemmas.{alone, first_part, not_found, pair_text, rest_of}
use Rattle.cj_kvn.proofs.RangeLemmas.{slice_length}

-- ---- the place of the first one that passes

position_at : (p : ℕ → Bool) (xs : List ℕ) (i : ℕ) → position_or_len p xs ≡ i → position p xs ≡ cond (nat_lt i (length xs)) (Some i) None
position_at p xs i e = ap (λ (n : ℕ). cond (nat_lt n (length xs)) (Some n) None) e

position_some : (p : ℕ → Bool) (xs : List ℕ) (i : ℕ) → i < length xs → ((k : ℕ) → k < i → p (get_or xs k 0) ≡ false) → p (get_or xs i 0) ≡ true → position p xs ≡ Some i
position_some p xs i inside fails passes =
    let there : nat_lt i (length xs) ≡ true = grind (arith, nat_tests) in
    position_at p xs i (position_or_len_is p xs i 0 (omega arith) fails (λ below. passes)) ∙ ap (λ (b : Bool). cond b (Some i) None) there

position_none : (p : ℕ → Bool) (xs : List ℕ) → ((k : ℕ) → k < length xs → p (get_or xs k 0) ≡ false) → position p xs ≡ None
position_none p xs fails =
    let n = length xs in
    let past : nat_lt n n ≡ false = grind (arith, nat_tests) in
    position_at p xs n (position_or_len_is p xs n 0 (omega arith) fails (λ below. absurd (omega arith))) ∙ ap (λ (b : Bool). cond b (Some n) None) past

-- ---- the printable bytes at the front

plain_means : (b : ℕ) → is_plain b ≡ true → (is_printable b ≡ true) × (is_equals b ≡ false)
plain_means b h = let parts = and_parts (is_printable b) (not (is_equals b)) h in (parts.0, grind (arith, nat_tests))

not_plain : (b : ℕ) → is_plain b ≡ false → (b ≡ 61 → ⊥) → is_printable b ≡ false
not_plain b h other = grind (arith, nat_tests)

plain_at : (text : List ℕ) (n k : ℕ) → n ≡ prefix_len is_plain text → k < n → (is_printable (get_or text k 0) ≡ true) × (is_equals (get_or text k 0) ≡ false)
plain_at text n k e below = plain_means (get_or text k 0) (prefix_len_passes is_plain text k 0 (omega arith))

-- no equals sign stands there
pub front_without : (text : List ℕ) (n : ℕ) → n ≡ prefix_len is_plain text → (n < length text → get_or text n 0 ≡ 61 → ⊥)
    → (n ≡ prefix_len is_printable text) × (None ≡ position is_equals (take n text))
front_without text n e other =
    let short = prefix_len-le-length is_plain text in
    let stops : n < length text → is_printable (get_or text n 0) ≡ false =
    λ below. not_plain (get_or text n 0) (ap (λ (m : ℕ). is_plain (get_or text m 0)) e ∙ prefix_len_stops is_plain text 0 (omega arith)) (other below) in (
      sym (prefix_len_is is_printable text n 0 (omega arith) (λ k below. (plain_at text n k e below).0) stops),
      sym (position_none is_equals (take n text) (λ k below.
          let inside : k < n = omega (arith, length-take n text) in
          ap is_equals (get_or-take n text k 0 inside) ∙ (plain_at text n k e inside).1)),
    )

-- the first equals sign stands there
pub front_with : (text : List ℕ) (n m : ℕ) → n ≡ prefix_len is_plain text → n < length text → get_or text n 0 ≡ 61 → m ≡ prefix_len is_printable (rest_of text (n + 1))
    → (n + 1 + m ≡ prefix_len is_printable text) × (Some n ≡ position is_equals (take (n + 1 + m) text))
front_with text n m e inside sign f =
    let rest = drop (n + 1) text in
    let g : m ≡ prefix_len is_printable rest = f ∙ ap (prefix_len is_printable) (take_rest text (n + 1)) in
    let short = prefix_len-le-length is_printable rest in
    let long = length-drop (n + 1) text in
    let later : (k : ℕ) → get_or rest k 0 ≡ get_or text (n + 1 + k) 0 = λ k. get_or-drop (n + 1) text k 0 in
    let passes : (k : ℕ) → k < n + 1 + m → is_printable (get_or text k 0) ≡ true = λ k below. elim (leb_tells (suc k) n) [
      | inl h ↦ (plain_at text n k e (omega (arith, h.1))).0
      | inr h ↦ elim (cases_eq k n) [
        | inl same ↦ ap (λ (j : ℕ). is_printable (get_or text j 0)) same ∙ ap is_printable sign
        | inr other ↦
            let index : n + 1 + (k - (n + 1)) ≡ k = omega (arith, h.1) in
            ap (λ (j : ℕ). is_printable (get_or text j 0)) (sym index) ∙ ap is_printable (sym (later (k - (n + 1)))) ∙ prefix_len_passes is_printable rest (k - (n + 1)) 0 (omega (arith, h.1))
      ]
    ] in
    let stops : n + 1 + m < length text → is_printable (get_or text (n + 1 + m) 0) ≡ false = λ below.
    ap is_printable (sym (later m)) ∙ ap (λ (j : ℕ). is_printable (get_or rest j 0)) g ∙ prefix_len_stops is_printable rest 0 (omega arith) in
    let front = take (n + 1 + m) text in (
      sym (prefix_len_is is_printable text (n + 1 + m) 0 (omega arith) passes stops),
      sym (position_some is_equals front n (omega (arith, length-take (n + 1 + m) text))
          (λ k below. ap is_equals (get_or-take (n + 1 + m) text k 0 (omega arith)) ∙ (plain_at text n k e below).1)
          (ap is_equals (get_or-take (n + 1 + m) text n 0 (omega arith)) ∙ ap is_equals sign)),
    )

-- ---- the end of a line

abbrev pub ArePrintable : List ℕ → Type 0
ArePrintable xs = All (λ b. is_printable b ≡ true) xs

no_feed : (b : ℕ) → is_printable b ≡ true → is_feed b ≡ false
no_feed b h = grind (arith, nat_tests)

no_return : (b : ℕ) → is_printable b ≡ true → (b == 13) ≡ false
no_return b h = grind (arith, nat_tests)

-- a line feed behind bytes of which none is one
feed_line : (xs more : List ℕ) → All (λ b. is_feed b ≡ false) xs → lines (xs ++ 10 ∷ more) ≡ strip_carriage_return xs ∷ lines more
feed_line xs more none = ap lines_of_parts (slice_split_at is_feed xs 10 more none refl) ∙ first_part xs (slice_split is_feed more) (omega (arith, length-slice_split is_feed more))

strip_printable : (xs : List ℕ) → ArePrintable xs → strip_carriage_return xs ≡ xs
strip_printable [] all = refl
strip_printable (b ∷ xs) all = let last = suc (length xs) - 1 in rw (no_return (get_or (b ∷ xs) last 0) (all last 0 (omega arith))) refl

strip_return : (xs : List ℕ) → strip_carriage_return (xs ++ 13 ∷ []) ≡ xs
strip_return xs =
    let long : length (xs ++ 13 ∷ []) - 1 ≡ length xs = omega (arith, length-append xs (13 ∷ [])) in
    rw (long, get_or-append_seam xs 13 [] 0) (take-append_seam xs (13 ∷ []))

no_feeds : (xs : List ℕ) → ArePrintable xs → All (λ b. is_feed b ≡ false) xs
no_feeds xs all k d below = no_feed (get_or xs k d) (all k d below)

by_feed : (front text : List ℕ) (b n : ℕ) → ArePrintable front → (b == 10) ≡ true → Some 1 ≡ Some n → lines (front ++ b ∷ text) ≡ front ∷ lines (drop n (b ∷ text))
by_feed front text b n all feed e =
    let ten : b ≡ 10 = grind (arith, nat_tests) in
    let one : 1 ≡ n = cc in
    ap (λ (a : ℕ). lines (front ++ a ∷ text)) ten
    ∙ feed_line front text (no_feeds front all)
    ∙ ap (λ (line : List ℕ). line ∷ lines text) (strip_printable front all)
    ∙ ap (λ (m : ℕ). front ∷ lines (drop m (b ∷ text))) one

by_return : (front text : List ℕ) (n : ℕ) → ArePrintable front → begins_with_feed text ≡ true → Some 2 ≡ Some n → lines (front ++ 13 ∷ text) ≡ front ∷ lines (drop n (13 ∷ text))
by_return front [] n all feed e = absurd cc
by_return front (a ∷ more) n all feed e =
    let ten : a ≡ 10 = grind (arith, nat_tests) in
    let two : 2 ≡ n = cc in
    let line = front ++ 13 ∷ [] in
    let none : All (λ b. is_feed b ≡ false) line = All-push (λ b. is_feed b ≡ false) front 13 (no_feeds front all) refl in
    ap (λ (b : ℕ). lines (front ++ 13 ∷ b ∷ more)) ten
    ∙ ap lines (sym (append_assoc front (13 ∷ []) (10 ∷ more)))
    ∙ feed_line line more none
    ∙ ap (λ (l : List ℕ). l ∷ lines more) (strip_return front)
    ∙ ap (λ (m : ℕ). front ∷ lines (drop m (13 ∷ a ∷ more))) two

by_other : (front text : List ℕ) (b n : ℕ) (t : Bool) → ArePrintable front → ((b == 13) && begins_with_feed text) ≡ t → (if t then Some 2 else None) ≡ Some n
    → lines (front ++ b ∷ text) ≡ front ∷ lines (drop n (b ∷ text))
by_other front text b n false all h e = absurd cc
by_other front text b n true all h e =
    let parts = and_parts (b == 13) (begins_with_feed text) h in
    let thirteen : 13 ≡ b = grind (arith, nat_tests) in
    subst (λ (a : ℕ). lines (front ++ a ∷ text) ≡ front ∷ lines (drop n (a ∷ text))) thirteen (by_return front text n all parts.1 e)

by_byte : (front text : List ℕ) (b n : ℕ) (t : Bool) → ArePrintable front → (b == 10) ≡ t → (if t then Some 1 else if (b == 13) && begins_with_feed text then Some 2 else None) ≡ Some n
    → lines (front ++ b ∷ text) ≡ front ∷ lines (drop n (b ∷ text))
by_byte front text b n true all h e = by_feed front text b n all h e
by_byte front text b n false all h e = by_other front text b n ((b == 13) && begins_with_feed text) all refl e

-- the line that ends there
line_said : (front tail : List ℕ) (n : ℕ) → ArePrintable front → end_len tail ≡ Some n → 0 < length (front ++ tail) → lines (front ++ tail) ≡ front ∷ lines (drop n tail)
line_said front [] n all e some =
    let zero : 0 ≡ n = cc in
    let whole = append-nil front in
    ap lines whole
    ∙ ap lines_of_parts (slice_split_none is_feed front (no_feeds front all))
    ∙ alone front (omega (arith, ap length whole))
    ∙ ap (λ (m : ℕ). front ∷ lines (drop m [])) zero
line_said front (b ∷ text) n all e some = by_byte front text b n (b == 10) all refl e

front_printable : (rest : List ℕ) (len : ℕ) → len ≡ prefix_len is_printable rest → ArePrintable (take len rest)
front_printable rest len e k d below =
    let inside : k < len = omega (arith, length-take len rest) in
    ap is_printable (get_or-take len rest k d inside) ∙ prefix_len_passes is_printable rest k d (omega arith)

-- the first line of the bytes from a place on
pub line_found : (bytes : List ℕ) (at len n : ℕ) → at < length bytes → len ≡ prefix_len is_printable (rest_of bytes at) → end_len (rest_of (rest_of bytes at) len) ≡ Some n
    → lines (drop at bytes) ≡ slice_range bytes at (at + len) ∷ lines (drop (at + len + n) bytes)
line_found bytes at len n inside front end =
    let rest = drop at bytes in
    let same : rest_of bytes at ≡ rest = take_rest bytes at in
    let e : len ≡ prefix_len is_printable rest = front ∙ ap (prefix_len is_printable) same in
    let f : end_len (drop len rest) ≡ Some n = ap end_len (ap (drop len) (sym same) ∙ sym (take_rest (rest_of bytes at) len)) ∙ end in
    let whole = take-append-drop len rest in
    let some : 0 < length (take len rest ++ drop len rest) = omega (arith, ap length whole, length-drop at bytes) in
    let part : slice_range bytes at (at + len) ≡ take len rest = ap (λ (m : ℕ). take m rest) (let k : at + len - at ≡ len = omega arith in k) in
    let next : drop n (drop len rest) ≡ drop (at + len + n) bytes =
    ap (drop n) (drop-drop len at bytes) ∙ drop-drop n (at + len) bytes in
    ap lines (sym whole)
    ∙ line_said (take len rest) (drop len rest) n (front_printable rest len e) f some
    ∙ ap (λ (line : List ℕ). line ∷ lines (drop n (drop len rest))) (sym part)
    ∙ ap (λ (text : List ℕ). slice_range bytes at (at + len) ∷ lines text) next

-- and what is kept of it
pub line_printable : (bytes : List ℕ) (at len : ℕ) → len ≡ prefix_len is_printable (rest_of bytes at) → true ≡ list_all is_printable (slice_range bytes at (at + len))
line_printable bytes at len front =
    let e : len ≡ prefix_len is_printable (drop at bytes) = front ∙ ap (prefix_len is_printable) (take_rest bytes at) in
    let part : at + len - at ≡ len = omega arith in
    sym (ap (λ (m : ℕ). list_all is_printable (take m (drop at bytes))) part ∙ list_all-from_AllPass is_printable (take len (drop at bytes)) (front_printable (drop at bytes) len e))

pub line_equals : (bytes : List ℕ) (at len : ℕ) (line : Range32) (equals : Option ℕ) → line.first ≡ at → line.past ≡ at + len → equals ≡ position is_equals (take len (rest_of bytes at))
    → option_map (λ i. at + i) equals ≡ equals_at bytes line
line_equals bytes at len line equals first past e =
    let part : line.past - line.first ≡ len = omega arith in
    let text : text_at bytes line ≡ take len (rest_of bytes at) =
    ap (λ (m : ℕ). take m (drop line.first bytes)) part ∙ ap (λ (m : ℕ). take len (drop m bytes)) first ∙ ap (take len) (sym (take_rest bytes at)) in
    ap (λ (a : ℕ). option_map (λ i. a + i) equals) (sym first)
    ∙ ap (option_map (λ i. line.first + i)) (e ∙ ap (position is_equals) (sym text))

-- ---- a line with a byte that is not printable

record NoEnd (tail : List ℕ) : Type 0 where
  some : 0 < length tail
  no_feed : get_or tail 0 0 ≡ 10 → ⊥
  no_return : get_or tail 0 0 ≡ 13 → get_or tail 1 0 ≡ 10 → ⊥

no_end : (tail : List ℕ) → end_len tail ≡ None → NoEnd tail
no_end [] h = absurd cc
no_end (b ∷ []) h = record { some = omega arith; no_feed = λ e. absurd (grind (arith, nat_tests)); no_return = λ e f. absurd (omega arith) }
no_end (b ∷ a ∷ text) h = record { some = omega arith; no_feed = λ e. absurd (grind (arith, nat_tests)); no_return = λ e f. absurd (grind (arith, nat_tests)) }

stopped : (rest : List ℕ) (len : ℕ) → len ≡ prefix_len is_printable rest → len < length rest → is_printable (get_or rest len 0) ≡ false
stopped rest len e inside = ap (λ (n : ℕ). is_printable (get_or rest n 0)) e ∙ prefix_len_stops is_printable rest 0 (omega arith)

cut_line : (xs : List ℕ) (len : ℕ) (t : Bool) → is_printable (get_or xs len 0) ≡ false → len < length xs → (get_or xs (length xs - 1) 0 == 13) ≡ t
    → (get_or xs (length xs - 1) 0 ≡ 13 → len + 1 < length xs) → list_all is_printable (if t then take (length xs - 1) xs else xs) ≡ false
cut_line xs len false h inside last behind = list_all_at is_printable xs len 0 inside h
cut_line xs len true h inside last behind =
    let thirteen : get_or xs (length xs - 1) 0 ≡ 13 = grind (arith, nat_tests) in
    let more : len < length xs - 1 = omega (arith, behind thirteen) in
    list_all_at is_printable (take (length xs - 1) xs) len 0 (omega (arith, length-take (length xs - 1) xs)) (ap is_printable (get_or-take (length xs - 1) xs len 0 more) ∙ h)

-- up to a line feed
unprintable_line : (rest : List ℕ) (len i : ℕ) → len ≡ prefix_len is_printable rest → end_len (drop len rest) ≡ None → position is_feed rest ≡ Some i
    → list_all is_printable (strip_carriage_return (take i rest)) ≡ false
unprintable_line rest len i e end found =
    let xs = take i rest in
    let here = position-Some is_feed rest i 0 found in
    let ten : get_or rest i 0 ≡ 10 = eqb-true (get_or rest i 0) 10 here.1 in
    let none = no_end (drop len rest) end in
    let inside : len < length rest = omega (arith, none.some, length-drop len rest) in
    let tail : (k : ℕ) → get_or (drop len rest) k 0 ≡ get_or rest (len + k) 0 = λ k. get_or-drop len rest k 0 in
    let before : len < i = elim (leb_tells (suc len) i) [
      | inl h ↦ omega (arith, h.1)
      | inr h ↦ elim (cases_eq len i) [
        | inl same ↦ absurd (none.no_feed (tail 0 ∙ ap (λ (k : ℕ). get_or rest k 0) (let s : len + 0 ≡ i = omega arith in s) ∙ ten))
        | inr other ↦
            let printable : is_printable (get_or rest i 0) ≡ true = prefix_len_passes is_printable rest i 0 (omega (arith, h.1)) in
            let feed : is_printable (get_or rest i 0) ≡ false = ap is_printable ten in
            absurd cc
      ]
    ] in
    let long : length xs ≡ i = omega (arith, length-take i rest, here.0) in
    let at : (k : ℕ) → k < i → get_or xs k 0 ≡ get_or rest k 0 = λ k below. get_or-take i rest k 0 below in
    let behind : get_or xs (length xs - 1) 0 ≡ 13 → len + 1 < length xs = λ last. elim (cases_eq (len + 1) i) [
      | inl same ↦
          let first : get_or (drop len rest) 0 0 ≡ 13 = tail 0 ∙ sym (at (len + 0) (omega arith)) ∙ ap (λ (k : ℕ). get_or xs k 0) (let s : len + 0 ≡ length xs - 1 = omega arith in s) ∙ last in
          let second : get_or (drop len rest) 1 0 ≡ 10 = tail 1 ∙ ap (λ (k : ℕ). get_or rest k 0) same ∙ ten in
          absurd (none.no_return first second)
      | inr other ↦ omega arith
    ] in
    cut_line xs len (get_or xs (length xs - 1) 0 == 13) (ap is_printable (at len before) ∙ stopped rest len e inside) (omega arith) refl behind

-- the line up to a line feed
pub other_to_feed : (bytes : List ℕ) (at len i kept : ℕ) → len ≡ prefix_len is_printable (drop at bytes) → end_len (drop len (drop at bytes)) ≡ None → position is_feed (rest_of bytes at) ≡ Some i
    → take kept (take i (rest_of bytes at)) ≡ strip_carriage_return (take i (rest_of bytes at)) → kept ≤ length (take i (rest_of bytes at))
    → false ≡ list_all is_printable (slice_range bytes at (at + kept))
other_to_feed bytes at len i kept e end found strip short =
    let rest = drop at bytes in
    let same = take_rest bytes at in
    let part : at + kept - at ≡ kept = omega arith in
    let cut : slice_range bytes at (at + kept) ≡ strip_carriage_return (take i rest) =
    ap (λ (m : ℕ). take m rest) part
    ∙ sym (take-take kept i rest (omega (arith, length-take i (rest_of bytes at))))
    ∙ subst (λ (text : List ℕ). take kept (take i text) ≡ strip_carriage_return (take i text)) same strip in
    sym (ap (list_all is_printable) cut ∙ unprintable_line rest len i e end (ap (position is_feed) (sym same) ∙ found))

-- up to the end of all
pub other_to_end : (bytes : List ℕ) (at len : ℕ) → len ≡ prefix_len is_printable (drop at bytes) → end_len (drop len (drop at bytes)) ≡ None
    → false ≡ list_all is_printable (slice_range bytes at (length bytes))
other_to_end bytes at len e end =
    let rest = drop at bytes in
    let none = no_end (drop len rest) end in
    let inside : len < length rest = omega (arith, none.some, length-drop len rest) in
    let part : slice_range bytes at (length bytes) ≡ rest = take_rest bytes at in
    sym (ap (list_all is_printable) part ∙ list_all_at is_printable rest len 0 inside (stopped rest len e inside))

-- ---- the first equals sign of a part without outer blanks

blank_no_equals : (b : ℕ) → is_blank b ≡ true → is_equals b ≡ false
blank_no_equals b h = grind (arith, nat_tests)

trailing_at : (xs : List ℕ) (k : ℕ) → length xs - suffix_len is_blank xs ≤ k → k < length xs → is_blank (get_or xs k 0) ≡ true
trailing_at xs k from below =
    let j = length xs - 1 - k in
    let index : length xs - 1 - j ≡ k = omega arith in
    ap (λ (i : ℕ). is_blank (get_or xs i 0)) (sym index)
    ∙ ap is_blank (sym (get_or-reverse xs j 0 (omega arith)))
    ∙ prefix_len_passes is_blank (reverse xs) j 0 (omega arith)

-- how the text without outer blanks lies in the text
inner_at : (text : List ℕ) (k : ℕ) → k < length (trimmed text) → get_or (trimmed text) k 0 ≡ get_or text (prefix_len is_blank text + k) 0
inner_at text k below =
    let rest = without_leading_blanks text in
    let n = length rest - suffix_len is_blank rest in
    get_or-take n rest k 0 (omega (arith, length-take n rest)) ∙ get_or-drop (prefix_len is_blank text) text k 0

outer_blank : (text : List ℕ) (k : ℕ) → prefix_len is_blank text + length (trimmed text) ≤ k → k < length text → is_equals (get_or text k 0) ≡ false
outer_blank text k from below =
    let lead = prefix_len is_blank text in
    let rest = without_leading_blanks text in
    let n = length rest - suffix_len is_blank rest in
    let long = length-drop lead text in
    let j = k - lead in
    let index : lead + j ≡ k = omega arith in
    let blank = trailing_at rest j (omega (arith, length-take n rest)) (omega arith) in
    ap (λ (i : ℕ). is_equals (get_or text i 0)) (sym index) ∙ ap is_equals (sym (get_or-drop lead text j 0)) ∙ blank_no_equals (get_or rest j 0) blank

leading_blank : (text : List ℕ) (k : ℕ) → k < prefix_len is_blank text → is_equals (get_or text k 0) ≡ false
leading_blank text k below = blank_no_equals (get_or text k 0) (prefix_len_passes is_blank text k 0 below)

inner_no : (text : List ℕ) (k : ℕ) → prefix_len is_blank text ≤ k → k < prefix_len is_blank text + length (trimmed text)
    → is_equals (get_or (trimmed text) (k - prefix_len is_blank text) 0) ≡ false → is_equals (get_or text k 0) ≡ false
inner_no text k from below h =
    let j = k - prefix_len is_blank text in
    let index : prefix_len is_blank text + j ≡ k = omega arith in
    ap (λ (i : ℕ). is_equals (get_or text i 0)) (sym index) ∙ ap is_equals (sym (inner_at text j (omega arith))) ∙ h

trimmed_short : (text : List ℕ) → prefix_len is_blank text + length (trimmed text) ≤ length text
trimmed_short text =
    let rest = without_leading_blanks text in
    omega (arith, length-take (length rest - suffix_len is_blank rest) rest, length-drop (prefix_len is_blank text) text, prefix_len-le-length is_blank text)

-- the place of the first equals sign, by its place in the text without outer blanks
shifted : (text : List ℕ) (o : Option ℕ) → position is_equals (trimmed text) ≡ o → position is_equals text ≡ option_map (λ i. prefix_len is_blank text + i) o
shifted text (Some i) e =
    let lead = prefix_len is_blank text in
    let here = position-Some is_equals (trimmed text) i 0 e in
    let short = trimmed_short text in
    position_some is_equals text (lead + i) (omega (arith, here.0))
    (λ k below. elim (leb_tells (suc k) lead) [
      | inl h ↦ leading_blank text k (omega (arith, h.1))
      | inr h ↦ inner_no text k (omega (arith, h.1)) (omega (arith, here.0)) (here.2 (k - lead) (omega (arith, h.1)))
    ])
    (ap is_equals (sym (inner_at text i here.0)) ∙ here.1)
shifted text None e =
    let lead = prefix_len is_blank text in
    let all = (not_found is_equals (trimmed text) e).1 in
    position_none is_equals text (λ k below. elim (leb_tells (suc k) lead) [
      | inl h ↦ leading_blank text k (omega (arith, h.1))
      | inr h ↦ elim (leb_tells (suc k) (lead + length (trimmed text))) [
        | inl g ↦ inner_no text k (omega (arith, h.1)) (omega (arith, g.1)) (fails_before_first is_equals (trimmed text) (k - lead) 0 (omega (arith, h.1, g.1)))
        | inr g ↦ outer_blank text k (omega (arith, g.1)) below
      ]
    ])

twice : (a b c : ℕ) (o : Option ℕ) → c ≡ a + b → option_map (λ i. a + i) (option_map (λ i. b + i) o) ≡ option_map (λ i. c + i) o
twice a b c None e = refl
twice a b c (Some i) e = let same : a + (b + i) ≡ c + i = omega arith in ap Some same

pub equals_trimmed : (bytes : List ℕ) (part inner : Range32) → text_at bytes inner ≡ trimmed (text_at bytes part) → inner.first ≡ part.first + prefix_len is_blank (text_at bytes part)
    → equals_at bytes part ≡ equals_at bytes inner
equals_trimmed bytes part inner text first =
    ap (option_map (λ i. part.first + i)) (shifted (text_at bytes part) (position is_equals (trimmed (text_at bytes part))) refl)
    ∙ twice part.first (prefix_len is_blank (text_at bytes part)) inner.first (position is_equals (trimmed (text_at bytes part))) first
    ∙ ap (λ (t : List ℕ). option_map (λ i. inner.first + i) (position is_equals t)) (sym text)

-- where it stands, and that there is none
pub record StandsAt (bytes : List ℕ) (part : Range32) (at : ℕ) : Type 0 where
  pub from : part.first ≤ at
  pub below : at < part.past
  pub place : position is_equals (text_at bytes part) ≡ Some (at - part.first)

stands : (bytes : List ℕ) (part : Range32) (at : ℕ) (o : Option ℕ) → IsWithin bytes part → position is_equals (text_at bytes part) ≡ o → Some at ≡ option_map (λ i. part.first + i) o → StandsAt bytes part at
stands bytes part at None within e h = absurd cc
stands bytes part at (Some i) within e h =
    let same : at ≡ part.first + i = cc in
    let here = position-Some is_equals (text_at bytes part) i 0 e in
    let long = slice_length bytes part.first part.past within.ordered within.inside in
    let index : i ≡ at - part.first = omega arith in
    record { from = omega arith; below = omega (arith, here.0); place = e ∙ ap Some index }

pub equals_stands : (bytes : List ℕ) (part : Range32) (at : ℕ) → IsWithin bytes part → Some at ≡ equals_at bytes part → StandsAt bytes part at
equals_stands bytes part at within h = stands bytes part at (position is_equals (text_at bytes part)) within refl h

stands_nowhere : (a : ℕ) (o : Option ℕ) → None ≡ option_map (λ i. a + i) o → o ≡ None
stands_nowhere a None h = refl
stands_nowhere a (Some i) h = absurd cc

pub equals_none : (bytes : List ℕ) (part : Range32) → None ≡ equals_at bytes part → position is_equals (text_at bytes part) ≡ None
equals_none bytes part h = stands_nowhere part.first (position is_equals (text_at bytes part)) h

-- a pair, by its equals sign
pub pair_at : (number : ℕ) (bytes : List ℕ) (part : Range32) (at : ℕ) (key value : List ℕ) → IsWithin bytes part → Some at ≡ equals_at bytes part
    → key ≡ trimmed (slice_range bytes part.first at) → value ≡ trimmed (slice_range bytes (at + 1) part.past) → pair_or_row number (text_at bytes part) ≡ pair_of number key value
pair_at number bytes part at key value within sign front back =
    let here = equals_stands bytes part at within sign in
    let same : at ≡ part.first + (at - part.first) = omega (arith, here.from) in
    pair_text number bytes part.first part.past (at - part.first) key value (slice_length bytes part.first part.past within.ordered within.inside) here.place
    (front ∙ ap (λ (n : ℕ). trimmed (slice_range bytes part.first n)) same) (back ∙ ap (λ (n : ℕ). trimmed (slice_range bytes (n + 1) part.past)) same)
