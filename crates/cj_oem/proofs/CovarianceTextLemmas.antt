-- The texts of covariances.
use Rattle.std.proofs.Common.{◌≡◌, ℕ, ◌+◌, ◌-◌, ◌<◌, List, get_or, [], ◌∷◌, ◌++◌, length, map, take, drop, ap, sym, ◌∙◌, append-nil, append_assoc, refl, arith}
use Rattle.std.specs.Prelude.{flat_map, codes}
use Rattle.std.proofs.lemmas.List.{drop-map, take-map}
use Rattle.cj_base.specs.Decimals.{number_of}
use Rattle.cj_kvn.specs.Decimals.{decimal_text_of}
use Rattle.cj_base.specs.Numbers.{Number}
use Rattle.cj_base.specs.declared.decimals.Decimal.{Decimal}
use Rattle.cj_kvn.proofs.ListLemmas.{tail_of, tail_of-cons}
use Rattle.cj_track.specs.declared.matrix.Matrix.{Matrix}
use Rattle.cj_kvn.specs.Entries.{line}
use Rattle.cj_oem.specs.Canonical.{covariance_text, covariances_text, matrix_row, numbers_text}
use Rattle.cj_track.specs.Tracks.{plain_matrix}

-- the numbers behind the first one have a space before each
pub numbers_spaced : (n : Number) (ns : List Number) → numbers_text (n ∷ ns) ≡ decimal_text_of n ++ flat_map (λ m. 32 ∷ decimal_text_of m) ns
numbers_spaced n [] = sym (append-nil (decimal_text_of n))
numbers_spaced n (m ∷ ns) =
    ap (λ (t : List ℕ). (decimal_text_of n ++ 32 ∷ []) ++ t) (numbers_spaced m ns)
    ∙ append_assoc (decimal_text_of n) (32 ∷ []) (decimal_text_of m ++ flat_map (λ k. 32 ∷ decimal_text_of k) ns)

-- a row has a part of the numbers
pub row_more : (was now : List ℕ) (start count : ℕ) (ds : List Decimal) → now ≡ was ++ line
    (numbers_text (map number_of (take (start + count - start) (drop start ds))))
    → now ≡ was ++ matrix_row start count (map number_of ds)
row_more was now start count ds e =
    let long : start + count - start ≡ count = omega arith in
    let same = ap (λ (n : ℕ). map number_of (take n (drop start ds))) long ∙ sym (take-map number_of count (drop start ds)) ∙ ap (take count)
    (sym (drop-map number_of start ds)) in
    e ∙ ap (λ (ns : List Number). was ++ line (numbers_text ns)) same

-- covariances stand between their marks where there are any
pub covariances_some : (ms : List Matrix) → 0 < length ms
    → line (codes "COVARIANCE_START") ++ flat_map covariance_text (map plain_matrix ms) ++ line (codes "COVARIANCE_STOP") ≡ covariances_text (map plain_matrix ms)
covariances_some [] some = absurd (omega arith)
covariances_some (m ∷ ms) some = refl

-- a row by its first number and the others
pub numbers_cut : (ds : List Decimal) (d : Decimal) → 0 < length ds → d ≡ get_or ds 0 d
    → decimal_text_of (number_of d) ++ flat_map (λ m. 32 ∷ decimal_text_of m) (map number_of (take (length ds - 1) (drop 1 ds))) ≡ numbers_text (map number_of ds)
numbers_cut [] d some is = absurd (omega arith)
numbers_cut (x ∷ ds) d some is =
    ap (λ (y : Decimal). decimal_text_of (number_of y) ++ flat_map (λ m. 32 ∷ decimal_text_of m) (map number_of (tail_of (x ∷ ds)))) is
    ∙ ap (λ (ys : List Decimal). decimal_text_of (number_of x) ++ flat_map (λ m. 32 ∷ decimal_text_of m) (map number_of ys)) (tail_of-cons x ds)
    ∙ sym (numbers_spaced (number_of x) (map number_of ds))
