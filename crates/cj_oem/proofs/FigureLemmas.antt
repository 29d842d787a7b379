-- The digits of numbers.
use Rattle.std.proofs.Common.{◌≡◌, ℕ, zero, suc, ◌+◌, ◌-◌, ◌/◌, ◌%◌, ◌^◌, ◌<◌, ◌≤◌, List, [], ◌∷◌, ◌++◌, length, decimal, inl, inr, ap, sym, ◌∙◌, append_assoc, refl, arith}
use Rattle.std.specs.List.{repeat}
use Rattle.std.proofs.lemmas.Bool.Decides.{leb_tells}
use Rattle.std.proofs.lemmas.Fmt.{decimal_digit, decimal_step}
use Rattle.std.proofs.lemmas.List.{length-append}
use Rattle.cj_kvn.proofs.PrintLemmas.{digit_pushed}

-- a number in decimal with so many digits, zeros in front
abbrev pub padded : ℕ → ℕ → List ℕ
padded count n = repeat (count - length (decimal n)) (48 ∷ []) ++ decimal n

abbrev pub zeros : ℕ → List ℕ
zeros k = repeat k (48 ∷ [])

zeros_more : (k : ℕ) → zeros (suc k) ≡ zeros k ++ 48 ∷ []
zeros_more zero = refl
zeros_more (suc k) = ap (λ (t : List ℕ). 48 ∷ t) (zeros_more k)

-- one digit
pub padded_one : (n : ℕ) → n < 10 → padded 1 n ≡ (48 + n) ∷ []
padded_one n small = ap (λ (ds : List ℕ). repeat (1 - length ds) (48 ∷ []) ++ ds) (decimal_digit n small)

-- a zero more in front
small_more : (k n : ℕ) → n < 10 → padded (suc (suc k)) n ≡ padded (suc k) (n / 10) ++ (48 + n % 10) ∷ []
small_more k n small =
    let first : n / 10 ≡ 0 = omega arith in
    let last : n ≡ n % 10 = omega arith in
    let more : suc (suc k) - 1 ≡ suc k = omega arith in
    let less : suc k - 1 ≡ k = omega arith in
    let zero_padded : zeros k ++ 48 ∷ [] ≡ padded (suc k) 0 = ap (λ (j : ℕ). zeros j ++ 48 ∷ []) (sym less) ∙ sym (ap (λ (ds : List ℕ). zeros (suc k - length ds) ++ ds) (decimal_digit 0 (omega arith))) in
    ap (λ (ds : List ℕ). zeros (suc (suc k) - length ds) ++ ds) (decimal_digit n small)
    ∙ ap (λ (j : ℕ). zeros j ++ (48 + n) ∷ []) more
    ∙ ap (λ (t : List ℕ). t ++ (48 + n) ∷ []) (zeros_more k ∙ zero_padded)
    ∙ ap (λ (d : ℕ). padded (suc k) 0 ++ (48 + d) ∷ []) last
    ∙ ap (λ (m : ℕ). padded (suc k) m ++ (48 + n % 10) ∷ []) (sym first)

-- a digit more behind
large_more : (k n : ℕ) → 10 ≤ n → n < 2 ^ 64 → padded (suc k) n ≡ padded k (n / 10) ++ (48 + n % 10) ∷ []
large_more k n large fits =
    let front = decimal (n / 10) in
    let last = (48 + n % 10) ∷ [] in
    let step = decimal_step n large fits in
    let count : suc k - length (decimal n) ≡ k - length front = omega (arith, ap length step, length-append front last) in
    ap (λ (z : ℕ). repeat z (48 ∷ []) ++ decimal n) count
    ∙ ap (λ (ds : List ℕ). repeat (k - length front) (48 ∷ []) ++ ds) step
    ∙ sym (append_assoc (repeat (k - length front) (48 ∷ [])) front last)

pub padded_more : (k n : ℕ) → n < 2 ^ 64 → padded (suc (suc k)) n ≡ padded (suc k) (n / 10) ++ (48 + n % 10) ∷ []
padded_more k n fits = elim (leb_tells 10 n) [
  | inl h ↦ large_more (suc k) n h.1 fits
  | inr h ↦ small_more k n h.1
]

-- what was written is a number in decimal
pub number_one : (old was new : List ℕ) (n : ℕ) → n < 10 → was ≡ old → new ≡ was ++ (48 + n % 10) ∷ [] → new ≡ old ++ decimal n
number_one old was new n small kept e =
    let last : n % 10 ≡ n = omega arith in
    digit_pushed old new n small (e ∙ ap (λ (d : ℕ). was ++ (48 + d) ∷ []) last ∙ ap (λ (t : List ℕ). t ++ (48 + n) ∷ []) kept)

-- and one with so many digits
pub digits_one : (old was new : List ℕ) (count n : ℕ) → count ≤ 1 → 1 ≤ count → n < 10 ^ count → was ≡ old → new ≡ was ++ (48 + n % 10) ∷ [] → new ≡ old ++ padded count n
digits_one old was new count n few some short kept e =
    let one : count ≡ 1 = omega arith in
    let small : n < 10 = omega (arith, ap (λ (k : ℕ). 10 ^ k) one) in
    let last : n % 10 ≡ n = omega arith in
    e
    ∙ ap (λ (d : ℕ). was ++ (48 + d) ∷ []) last
    ∙ ap (λ (t : List ℕ). t ++ (48 + n) ∷ []) kept
    ∙ ap (λ (t : List ℕ). old ++ t) (sym (padded_one n small))
    ∙ ap (λ (k : ℕ). old ++ padded k n) (sym one)

pub digits_more : (old mid new : List ℕ) (count n : ℕ) → 1 < count → n < 2 ^ 64 → mid ≡ old ++ padded (count - 1) (n / 10) → new ≡ mid ++ (48 + n % 10) ∷ []
    → new ≡ old ++ padded count n
digits_more old mid new zero n many fits first last = absurd (omega arith)
digits_more old mid new (suc zero) n many fits first last = absurd (omega arith)
digits_more old mid new (suc (suc k)) n many fits first last =
    let one : suc (suc k) - 1 ≡ suc k = omega arith in
    last
    ∙ ap (λ (t : List ℕ). t ++ (48 + n % 10) ∷ []) (first ∙ ap (λ (c : ℕ). old ++ padded c (n / 10)) one)
    ∙ append_assoc old (padded (suc k) (n / 10)) ((48 + n % 10) ∷ [])
    ∙ ap (λ (t : List ℕ). old ++ t) (sym (padded_more k n fits))
