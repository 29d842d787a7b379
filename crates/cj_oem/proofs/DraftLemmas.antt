-- A matrix that is being read.
use Rattle.std.proofs.Common.{◌≡◌, ℕ, ◌+◌, ◌<◌, ◌≤◌, List, [], ◌∷◌, ◌++◌, length, map, get_or, take, drop, All, Result, Ok, Err, refl, sym, ap, ◌∙◌, append_assoc, arith}
use borrow.Rule.Slice.PartMut.{post_of, put_mid}
use Rattle.std.proofs.Math.Nat.{mul-le-mul_left}
use Rattle.std.proofs.lemmas.Slice.{take-put_mid}
use Rattle.std.proofs.lemmas.List.{append-nil, drop_all, drop_more, map-append}
use Rattle.std.proofs.lemmas.List.Elements.{All-append, All-drop, All-take}
use Rattle.cj_base.specs.Numbers.{Number}
use Rattle.cj_base.specs.Decimals.{IsReadable, number_of}
use Rattle.cj_kvn.specs.Decimals.{decimal_of}
use Rattle.cj_base.specs.declared.decimals.Decimal.{Decimal}
pub use Rattle.cj_kvn.proofs.DecimalLemmas.{written_more}
use Rattle.cj_formats.specs.declared.oem_cause.OemCause.{OemCause}
use Rattle.std.specs.Prelude.{◌==◌, ◌||◌, not, false, Some}
use Rattle.cj_oem.specs.CovarianceRows.{CovarianceDraft, number_or, numbers_said, with_fields}
use Rattle.cj_oem.specs.Drafts.{value_count}
use Rattle.cj_kvn.specs.Faults.{◌>>=◌}

-- a decimal that a matrix may have
abbrev pub IsKept : Decimal → Type 0
IsKept d = IsReadable (number_of d)

-- these numbers, and then those that are said
abbrev pub behind : List Number → Result (List Number) OemCause → Result (List Number) OemCause
behind done said = said >>= λ others. Ok (done ++ others)

-- the first fields of a row say these numbers, or it has a fault later
abbrev pub HasSaid : List (List ℕ) → ℕ → List Number → Type 0
HasSaid row i done = numbers_said row ≡ behind done (numbers_said (drop i row))

none_before : (said : Result (List Number) OemCause) → said ≡ behind [] said
none_before (Ok ns) = refl
none_before (Err e) = refl

one_before : (done : List Number) (n : Number) (said : Result (List Number) OemCause) → behind done (said >>= λ others. Ok (n ∷ others)) ≡ behind (done ++ n ∷ []) said
one_before done n (Ok ns) = ap Ok (sym (append_assoc done (n ∷ []) ns))
one_before done n (Err e) = refl

first_said : (row : List (List ℕ)) (i : ℕ) → i < length row
    → numbers_said (drop i row) ≡ (number_or (decimal_of (get_or row i [])) >>= λ n. numbers_said (drop (i + 1) row) >>= λ others. Ok (n ∷ others))
first_said row i inside = ap numbers_said (drop_more row i [] inside)

pub said_none : (row : List (List ℕ)) → HasSaid row 0 []
said_none row = none_before (numbers_said row)

pub said_more : (row : List (List ℕ)) (i : ℕ) (done : List Number) (n : Number) → i < length row → number_or (decimal_of (get_or row i [])) ≡ Ok n
    → HasSaid row i done → HasSaid row (i + 1) (done ++ n ∷ [])
said_more row i done n inside said before =
    before
    ∙ ap (behind done) (first_said row i inside
    ∙ ap (λ (r : Result Number OemCause). r >>= λ m. numbers_said (drop (i + 1) row) >>= λ others. Ok (m ∷ others)) said)
    ∙ one_before done n (numbers_said (drop (i + 1) row))

pub said_all : (row : List (List ℕ)) (i : ℕ) (done : List Number) → length row ≤ i → HasSaid row i done → numbers_said row ≡ Ok done
said_all row i done past before =
    before ∙ ap (λ rest. behind done (numbers_said rest)) (drop_all i row past) ∙ ap Ok (append-nil done)

pub said_fault : (row : List (List ℕ)) (i : ℕ) (done : List Number) (e : OemCause) → i < length row → number_or (decimal_of (get_or row i [])) ≡ Err e
    → HasSaid row i done → numbers_said row ≡ Err e
said_fault row i done e inside said before =
    before
    ∙ ap (behind done) (first_said row i inside
    ∙ ap (λ (r : Result Number OemCause). r >>= λ m. numbers_said (drop (i + 1) row) >>= λ others. Ok (m ∷ others)) said)

-- a row of a lower triangle has one value more than the row before
count_more : (rows : ℕ) → value_count (rows + 1) ≡ value_count rows + (rows + 1)
count_more rows = omega arith

-- the values of five rows are fifteen
pub count_most : (rows : ℕ) → rows ≤ 5 → value_count rows ≤ 15
count_most rows few = omega (arith, mul-le-mul_left rows few)

-- one more row is written
pub row_written : (rows : ℕ) (k : ℕ) (values row : List Decimal) → rows ≤ 5 → length values ≡ 21 → length row ≡ rows + 1
    → map number_of (take (value_count (rows + 1)) (put_mid (value_count rows) k values row)) ≡ map number_of (take (value_count rows) values) ++ map number_of row
row_written rows k values row few all one_more =
    let most = count_most rows few in
    let more = count_more rows in
    ap (map number_of) (take-put_mid (value_count rows) k values row (value_count (rows + 1)) (omega (arith, more, one_more)) (omega (arith, most, all)))
    ∙ map-append number_of (take (value_count rows) values) row

-- the values of a matrix with one more row are still such as it may have
pub row_kept : (first k : ℕ) (values row : List Decimal) → All IsKept values → All IsKept row → All IsKept (put_mid first k values row)
row_kept first k values row all some =
    All-append IsKept (take first values) (row ++ post_of first k values) (All-take IsKept first values all)
    (All-append IsKept row (post_of first k values) some (All-drop IsKept k (drop first values) (All-drop IsKept first values all)))

-- a row of the right number of fields is added
pub row_added : (d : CovarianceDraft) (row : List (List ℕ)) (numbers : List Number) → ((d.rows == 6) || not (length row == d.rows + 1)) ≡ false → numbers_said row ≡ Ok numbers
    → with_fields (Some d) row ≡ Ok (record d { rows = d.rows + 1; values = d.values ++ numbers })
row_added d row numbers form said = rw (form, said) refl
