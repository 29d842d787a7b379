-- The words of a line, and the numbers among them.
use Rattle.std.proofs.Common.{◌≡◌, ℕ, ◌^◌, ◌<◌, ◌≤◌, List, [], ◌∷◌, ◌++◌, map, All, take, arith, ap, sym, ◌∙◌, refl, subst, true, false, Bool, ℤ, pos, negsuc, Some, None, length}
use Rattle.std.specs.Prelude.{◌==◌, if◌then◌else◌, unsigned_abs, suc}
use Rattle.std.specs.Fmt.{signed_decimal, decimal}
use Rattle.std.specs.Option.{option_map}
use Rattle.std.specs.List.{join_with_byte, slice_split}
use Rattle.std.specs.Str.Parse.{AllDigits, signed_digits_value}
use Rattle.std.specs.Char.{digit_value}
use Rattle.std.proofs.lemmas.Bool.Decides.{nat_tests}
use Rattle.std.proofs.lemmas.Fmt.{decimal_is_IsNumeral}
use Rattle.std.proofs.lemmas.List.{append_assoc, length-append, length-map, take-append-le, take_all}
use Rattle.std.proofs.lemmas.List.Elements.{All-nil, All-cons}
use Rattle.std.proofs.lemmas.List.Splits.{slice_split_none, slice_split_at}
use Rattle.cj_cert_text.specs.Numbers.{in_front, is_number, number_of, numbers_in, others_in}
use Rattle.cj_cert_text.specs.Readers.{HasNoNumber, LeadsTo, capped}
use Rattle.cj_cert_text.proofs.NumberLemmas.{said_again, written_again}

-- ---- numbers

pub number_first : (word : List ℕ) (words : List (List ℕ)) → is_number word ≡ true
    → (numbers_in (word ∷ words) ≡ signed_digits_value 10 word ∷ numbers_in words) × (others_in (word ∷ words) ≡ others_in words)
unfolding numbers_in others_in number_of
number_first word words is = (
  ap (λ (b : Bool). in_front (if b then Some (signed_digits_value 10 word) else None) (numbers_in words)) is,
  ap (λ (b : Bool). if b then others_in words else word ∷ words) is,
)

pub other_first : (word : List ℕ) (words : List (List ℕ)) → is_number word ≡ false → HasNoNumber (word ∷ words)
unfolding numbers_in others_in number_of
other_first word words is = record {
  numbers = ap (λ (b : Bool). in_front (if b then Some (signed_digits_value 10 word) else None) (numbers_in words)) is;
  others = ap (λ (b : Bool). if b then others_in words else word ∷ words) is;
}

pub nothing_first : HasNoNumber []
unfolding numbers_in others_in
nothing_first = record { numbers = refl; others = refl }

-- the number of a word that is one
pub number_known : (word : List ℕ) → is_number word ≡ true → number_of word ≡ Some (signed_digits_value 10 word)
unfolding number_of
number_known word is = ap (λ (b : Bool). if b then Some (signed_digits_value 10 word) else None) is

pub number_unknown : (word : List ℕ) → is_number word ≡ false → number_of word ≡ None
unfolding number_of
number_unknown word is = ap (λ (b : Bool). if b then Some (signed_digits_value 10 word) else None) is

known_by : (b : Bool) (x z : ℤ) → (if b then Some x else None) ≡ Some z → (b ≡ true) × (x ≡ z)
known_by true x z h = (refl, cc)
known_by false x z h = absurd cc

pub is_known : (word : List ℕ) (z : ℤ) → number_of word ≡ Some z → (is_number word ≡ true) × (signed_digits_value 10 word ≡ z)
unfolding number_of
is_known word z h = known_by (is_number word) (signed_digits_value 10 word) z h

-- what the reader of numbers finds of the first word
pub unread : (word : List ℕ) (words : List (List ℕ)) → None ≡ option_map capped (number_of word) → HasNoNumber (word ∷ words)
unread word words h = by (is_number word) refl
  where
    by : (b : Bool) → is_number word ≡ b → HasNoNumber (word ∷ words)
    by true is = absurd (let e : None ≡ option_map capped (Some (signed_digits_value 10 word)) = h ∙ ap (option_map capped) (number_known word is) in cc)
    by false is = other_first word words is

pub read_first : (word : List ℕ) (words : List (List ℕ)) (z : ℤ) → Some z ≡ option_map capped (number_of word) → LeadsTo (word ∷ words) z words
read_first word words z h = by (is_number word) refl
  where
    by : (b : Bool) → is_number word ≡ b → LeadsTo (word ∷ words) z words
    by true is =
        let first = number_first word words is in
        let e : Some z ≡ Some (capped (signed_digits_value 10 word)) = h ∙ ap (option_map capped) (number_known word is) in
        let same : z ≡ capped (signed_digits_value 10 word) = cc in
        record { numbers_told = ap (map capped) first.0 ∙ ap (λ (x : ℤ). x ∷ map capped (numbers_in words)) (sym same); others_told = first.1 }
    by false is = absurd (let e : Some z ≡ option_map capped None = h ∙ ap (option_map capped) (number_unknown word is) in cc)

-- numbers of at most 64 bits
abbrev pub AreSmall : List ℤ → Type 0
AreSmall [] = Unit {0}
AreSmall (z ∷ zs) = (unsigned_abs z < 2 ^ 64) × AreSmall zs

abbrev pub texts : List ℤ → List (List ℕ)
texts zs = map signed_decimal zs

written_by : (word : List ℕ) (words : List (List ℕ)) (b : Bool) → is_number word ≡ b → AreSmall (numbers_in (word ∷ words))
    → (AreSmall (numbers_in words) → words ≡ texts (numbers_in words) ++ others_in words) → word ∷ words ≡ texts (numbers_in (word ∷ words)) ++ others_in (word ∷ words)
written_by word words true is small behind =
    let first = number_first word words is in
    let parts : AreSmall (signed_digits_value 10 word ∷ numbers_in words) = subst AreSmall first.0 small in
    let here : word ≡ signed_decimal (signed_digits_value 10 word) = written_again word (signed_digits_value 10 word) (number_known word is) parts.0 in
    ap (λ (w : List ℕ). w ∷ words) here ∙ ap (λ (ws : List (List ℕ)). signed_decimal (signed_digits_value 10 word) ∷ ws) (behind parts.1)
    ∙ ap (λ (zs : List ℤ). texts zs ++ others_in words) (sym first.0) ∙ ap (λ (ws : List (List ℕ)). texts (numbers_in (word ∷ words)) ++ ws) (sym first.1)
written_by word words false is small behind =
    let none = other_first word words is in
    ap (λ (zs : List ℤ). texts zs ++ (word ∷ words)) (sym none.numbers) ∙ ap (λ (ws : List (List ℕ)). texts (numbers_in (word ∷ words)) ++ ws) (sym none.others)

-- words are the texts of the numbers in front of them, and the others
pub words_written : (words : List (List ℕ)) → AreSmall (numbers_in words) → words ≡ texts (numbers_in words) ++ others_in words
words_written [] small = rw (nothing_first.numbers, nothing_first.others) refl
words_written (word ∷ words) small = written_by word words (is_number word) refl small (words_written words)

-- and back
pub words_again : (zs : List ℤ) (others : List (List ℕ)) → AreSmall zs → HasNoNumber others
    → (numbers_in (texts zs ++ others) ≡ zs) × (others_in (texts zs ++ others) ≡ others)
words_again [] others small none = (none.numbers, none.others)
words_again (z ∷ zs) others small none =
    let known = is_known (signed_decimal z) z (said_again z small.0) in
    let first = number_first (signed_decimal z) (texts zs ++ others) known.0 in
    let rest = words_again zs others small.1 none in (
      first.0 ∙ ap (λ (x : ℤ). x ∷ numbers_in (texts zs ++ others)) known.1 ∙ ap (λ (xs : List ℤ). z ∷ xs) rest.0,
      first.1 ∙ rest.1,
    )

-- ---- bytes

-- each byte is greater
abbrev pub AreAbove : ℕ → List ℕ → Type 0
AreAbove n [] = Unit {0}
AreAbove n (b ∷ bs) = (n < b) × AreAbove n bs

pub above_append : (n : ℕ) (bs cs : List ℕ) → AreAbove n bs → AreAbove n cs → AreAbove n (bs ++ cs)
above_append n [] cs left right = right
above_append n (b ∷ bs) cs left right = (left.0, above_append n bs cs left.1 right)

above_less : (m n : ℕ) → m ≤ n → (bs : List ℕ) → AreAbove n bs → AreAbove m bs
above_less m n le [] all = tt
above_less m n le (b ∷ bs) all = (omega (arith, all.0), above_less m n le bs all.1)

-- such a byte is none of them
pub not_among : (n : ℕ) (bs : List ℕ) → AreAbove n bs → All (λ b. (b == n) ≡ false) bs
not_among n [] all = All-nil (λ b. (b == n) ≡ false)
not_among n (b ∷ bs) all =
    let more : n < b = all.0 in
    let first : (b == n) ≡ false = grind (arith, nat_tests) in
    All-cons (λ k. (k == n) ≡ false) b bs first (not_among n bs all.1)

digits_above : (ds : List ℕ) → AllDigits 10 ds → AreAbove 32 ds
digits_above [] all = tt
digits_above (d ∷ ds) all = (digit_above d all.0, digits_above ds all.1)
  where
    digit_above : (c : ℕ) → digit_value c < 10 → 32 < c
    digit_above c small = grind (arith, nat_tests)

pub number_above : (z : ℤ) → unsigned_abs z < 2 ^ 64 → AreAbove 32 (signed_decimal z)
number_above (pos n) small = digits_above (decimal n) (decimal_is_IsNumeral n small).0.1
number_above (negsuc n) small = (omega arith, digits_above (decimal (suc n)) (decimal_is_IsNumeral (suc n) small).0.1)

-- words without spaces or line ends
abbrev pub AreWords : List (List ℕ) → Type 0
AreWords [] = Unit {0}
AreWords (word ∷ words) = AreAbove 32 word × AreWords words

pub texts_words : (zs : List ℤ) (others : List (List ℕ)) → AreSmall zs → AreWords others → AreWords (texts zs ++ others)
texts_words [] others small rest = rest
texts_words (z ∷ zs) others small rest = (number_above z small.0, texts_words zs others small.1 rest)

-- words that are joined are split again
pub joined_again : (word : List ℕ) (words : List (List ℕ)) → AreWords (word ∷ words) → slice_split (λ b. b == 32) (join_with_byte 32 (word ∷ words)) ≡ word ∷ words
joined_again word [] all = slice_split_none (λ b. b == 32) word (not_among 32 word all.0)
joined_again word (next ∷ words) all =
    slice_split_at (λ b. b == 32) word 32 (join_with_byte 32 (next ∷ words)) (not_among 32 word all.0) refl
    ∙ ap (λ (ws : List (List ℕ)). word ∷ ws) (joined_again next words all.1)

pub joined_above : (word : List ℕ) (words : List (List ℕ)) → AreWords (word ∷ words) → AreAbove 10 (join_with_byte 32 (word ∷ words))
joined_above word [] all = above_less 10 32 (omega arith) word all.0
joined_above word (next ∷ words) all =
    above_append 10 word (32 ∷ join_with_byte 32 (next ∷ words)) (above_less 10 32 (omega arith) word all.0) (omega arith, joined_above next words all.1)

-- a line is the first part of a text that begins with it
pub line_first : (line rest : List ℕ) → AreAbove 10 line → slice_split (λ b. b == 10) ((line ++ 10 ∷ []) ++ rest) ≡ line ∷ slice_split (λ b. b == 10) rest
line_first line rest all =
    ap (slice_split (λ b. b == 10)) (append_assoc line (10 ∷ []) rest) ∙ slice_split_at (λ b. b == 10) line 10 rest (not_among 10 line all) refl

-- ---- numbers that are read one by one

-- ten of them are the first ten of all
pub ten_read : (kept others all : List ℤ) → all ≡ kept ++ others → length kept ≡ 10 → kept ≡ take 10 all
ten_read kept others all same long =
    sym (take_all 10 kept (omega arith)) ∙ sym (ap (take 10) same ∙ take-append-le 10 kept others (omega arith))

-- and then there are no fewer
pub not_few : (kept others : List ℤ) (all : List ℤ) → map capped all ≡ kept ++ others → length kept ≡ 10 → length all < 10 → ⊥
not_few kept others all same long few = omega (arith, length-map all capped, ap length same, length-append kept others)
