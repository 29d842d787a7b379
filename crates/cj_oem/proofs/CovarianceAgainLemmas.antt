-- Printed covariances are read again.
use Rattle.std.proofs.Common.{◌≡◌, ℕ, zero, suc, ◌+◌, ◌<◌, ◌≤◌, ◌^◌, List, [], ◌∷◌, ◌++◌, Bool, true, false, length, map, take, drop, ap, sym, subst, ◌∙◌, refl, arith, append_assoc, append-nil, Some, Ok, All}
use Rattle.std.specs.Prelude.{◌==◌, flat_map, codes, unsigned_abs}
use Rattle.std.specs.List.{list_all}
use Rattle.std.proofs.lemmas.Bool.Decides.{nat_tests}
use Rattle.std.proofs.lemmas.List.{length-drop, length-map, length-take, take_all}
use Rattle.std.proofs.lemmas.List.Elements.{All-drop, All-head, All-tail, All-take}
use Rattle.cj_kvn.specs.Decimals.{decimal_of, decimal_text_of, leading_power}
use Rattle.cj_kvn.specs.Fields.{fields}
use Rattle.cj_kvn.specs.Lines.{Form, Pair, Row}
use Rattle.cj_base.specs.Numbers.{Number}
use Rattle.cj_base.specs.Ticks.{IsTick}
use Rattle.cj_epoch.specs.Written.{epoch_of}
use Rattle.cj_oem.specs.Canonical.{covariance_text, matrix_row, numbers_text}
use Rattle.cj_oem.specs.CovarianceRows.{Covariances, CovarianceDraft, closed, numbers_said, with_fields, with_matrix_pair, with_matrix_row}
use Rattle.cj_track.specs.PlainTracks.{PlainMatrix}
use Rattle.cj_oem.specs.Words.{is_word}
use Rattle.cj_oem.specs.Stages.{Body, Cov, Stage, OpenSegment, follows}
use Rattle.cj_oem.proofs.CovarianceTextLemmas.{numbers_spaced}
use Rattle.cj_oem.proofs.PrintedLineLemmas.{Says, Tells, told_append, told_line}
use Rattle.cj_oem.proofs.PrintedNumberLemmas.{decimal_field}
use Rattle.cj_oem.proofs.PrintedPairLemmas.{pair_line, pair_text}
use Rattle.cj_oem.proofs.PrintedRowLemmas.{fields_row, is_field, row_line, row_of}
use Rattle.cj_oem.proofs.StateAgainLemmas.{epoch_again, epoch_line}
use Rattle.cj_oem.proofs.WalkLemmas.{walk, walk_append, walk_step}

-- a number that can be read again
pub record IsPrinted (n : Number) : Type 0 where
  pub short : n.digits < 10 ^ 18
  pub power : unsigned_abs (leading_power n) < 10 ^ 3
  pub again : decimal_of (decimal_text_of n) ≡ Ok n

-- a covariance of them
pub record IsCovariance (c : PlainMatrix) : Type 0 where
  pub tick : IsTick c.at
  pub count : length c.values ≡ 21
  pub printed : All IsPrinted c.values

-- ---- the rows of numbers

spaced_texts : (ns : List Number) → flat_map (λ m. 32 ∷ decimal_text_of m) ns ≡ flat_map (λ field. 32 ∷ field) (map decimal_text_of ns)
spaced_texts [] = refl
spaced_texts (n ∷ ns) = ap (λ t. 32 ∷ (decimal_text_of n ++ t)) (spaced_texts ns)

numbers_shape : (n : Number) (ns : List Number) → numbers_text (n ∷ ns) ≡ row_of (decimal_text_of n) (map decimal_text_of ns)
numbers_shape n ns = numbers_spaced n ns ∙ ap (λ t. decimal_text_of n ++ t) (spaced_texts ns)

are_fields : (ns : List Number) → All IsPrinted ns → list_all is_field (map decimal_text_of ns) ≡ true
are_fields [] all = refl
are_fields (n ∷ ns) all =
    let is = All-head IsPrinted n ns all in
    rw (decimal_field n (omega (arith, is.short)) (omega (arith, is.power))) (are_fields ns (All-tail IsPrinted n ns all))

numbers_again : (ns : List Number) → All IsPrinted ns → numbers_said (map decimal_text_of ns) ≡ Ok ns
numbers_again [] all = refl
numbers_again (n ∷ ns) all =
    let is = All-head IsPrinted n ns all in
    rw (is.again, numbers_again ns (All-tail IsPrinted n ns all)) refl

numbers_line : (ns : List Number) → 0 < length ns → All IsPrinted ns → Says (numbers_text ns) (Row (numbers_text ns))
numbers_line [] some all = absurd (omega arith)
numbers_line (n ∷ ns) some all =
    subst (λ text. Says text (Row text)) (sym (numbers_shape n ns)) (row_line (decimal_text_of n) (map decimal_text_of ns) (are_fields (n ∷ ns) all))

numbers_fields : (ns : List Number) → 0 < length ns → All IsPrinted ns → fields (numbers_text ns) ≡ map decimal_text_of ns
numbers_fields [] some all = absurd (omega arith)
numbers_fields (n ∷ ns) some all = ap fields (numbers_shape n ns) ∙ fields_row (decimal_text_of n) (map decimal_text_of ns) (are_fields (n ∷ ns) all)

-- ---- the next row of a matrix

abbrev drafted : List PlainMatrix → CovarianceDraft → Covariances
drafted whole d = record { whole = whole; draft = Some d }

abbrev draft : ℕ → Bool → ℕ → List Number → CovarianceDraft
draft at framed rows values = record { at = at; framed = framed; rtn = framed; rows = rows; values = values }

row_with : (d : CovarianceDraft) (row : List (List ℕ)) (ns : List Number) → (d.rows == 6) ≡ false → (length row == d.rows + 1) ≡ true → numbers_said row ≡ Ok ns
    → with_fields (Some d) row ≡ Ok (record d { rows = d.rows + 1; values = d.values ++ ns })
row_with d row ns short long said = rw (short, long, said) refl

row_follows : (b : Body) (s : OpenSegment) (whole : List PlainMatrix) (at k : ℕ) (values ns : List Number) → k < 6 → length ns ≡ k + 1 → All IsPrinted ns
    → follows false (Cov b s (drafted whole (draft at true k values))) (Row (numbers_text ns)) ≡ Ok (Cov b s (drafted whole (draft at true (k + 1) (values ++ ns))))
unfolding follows with_matrix_row
row_follows b s whole at k values ns few long all =
    let d = draft at true k values in
    let short : (k == 6) ≡ false = grind (arith, nat_tests) in
    let count : (length (map decimal_text_of ns) == k + 1) ≡ true = grind (arith, nat_tests, length-map ns decimal_text_of) in
    let read : fields (numbers_text ns) ≡ map decimal_text_of ns = numbers_fields ns (omega arith) all in
    rw (ap (with_fields (Some d)) read ∙ row_with d (map decimal_text_of ns) ns short count (numbers_again ns all)) refl

-- ---- a covariance

abbrev part : ℕ → ℕ → List Number → List Number
part start count values = take count (drop start values)

part_length : (start count : ℕ) (values : List Number) → length values ≡ 21 → start + count ≤ 21 → length (part start count values) ≡ count
part_length start count values long within = omega (arith, length-take count (drop start values), length-drop start values)

part_all : (start count : ℕ) (values : List Number) → All IsPrinted values → All IsPrinted (part start count values)
part_all start count values all = All-take IsPrinted count (drop start values) (All-drop IsPrinted start values all)

abbrev row_form : ℕ → ℕ → List Number → Form
row_form start count values = Row (numbers_text (part start count values))

abbrev row_forms : List Number → List Form
row_forms values = row_form 0 1 values ∷ row_form 1 2 values ∷ row_form 3 3 values ∷ row_form 6 4 values ∷ row_form 10 5 values ∷ row_form 15 6 values ∷ []

abbrev pub covariance_forms : PlainMatrix → List Form
covariance_forms c = Pair (codes "EPOCH") (epoch_of c.at) ∷ Pair (codes "COV_REF_FRAME") (codes "RTN") ∷ row_forms c.values

row_told : (start count : ℕ) (values : List Number) → length values ≡ 21 → start + count ≤ 21 → 0 < count → All IsPrinted values
    → Tells (matrix_row start count values) (row_form start count values ∷ [])
row_told start count values long within some all =
    let ns = part start count values in
    told_line (numbers_text ns) (Row (numbers_text ns)) (numbers_line ns (omega (arith, part_length start count values long within)) (part_all start count values all))

pub covariance_told : (c : PlainMatrix) → IsCovariance c → Tells (covariance_text c) (covariance_forms c)
unfolding covariance_text
covariance_told c is =
    let v = c.values in
    let epoch = pair_text (codes "EPOCH") (epoch_of c.at) in
    let frame = pair_text (codes "COV_REF_FRAME") (codes "RTN") in
    let t1 = told_line epoch (Pair (codes "EPOCH") (epoch_of c.at)) (epoch_line (codes "EPOCH") c.at refl refl) in
    let t2 = told_append _ _ _ _ t1 (told_line frame (Pair (codes "COV_REF_FRAME") (codes "RTN")) (pair_line (codes "COV_REF_FRAME") (codes "RTN") refl refl refl refl refl)) in
    let t3 = told_append _ _ _ _ t2 (row_told 0 1 v is.count (omega arith) (omega arith) is.printed) in
    let t4 = told_append _ _ _ _ t3 (row_told 1 2 v is.count (omega arith) (omega arith) is.printed) in
    let t5 = told_append _ _ _ _ t4 (row_told 3 3 v is.count (omega arith) (omega arith) is.printed) in
    let t6 = told_append _ _ _ _ t5 (row_told 6 4 v is.count (omega arith) (omega arith) is.printed) in
    let t7 = told_append _ _ _ _ t6 (row_told 10 5 v is.count (omega arith) (omega arith) is.printed) in
    told_append _ _ _ _ t7 (row_told 15 6 v is.count (omega arith) (omega arith) is.printed)

-- the parts together are the whole
abbrev no_numbers : List Number
no_numbers = []

take_none : (k : ℕ) → take k no_numbers ≡ []
take_none zero = refl
take_none (suc k) = refl

take_add : (a b : ℕ) (xs : List Number) → take a xs ++ take b (drop a xs) ≡ take (a + b) xs
take_add zero b xs = ap (λ n. take n xs) (let e : b ≡ 0 + b = omega arith in e)
take_add (suc a) b [] = take_none b ∙ sym (take_none (suc a + b))
take_add (suc a) b (x ∷ xs) = ap (λ t. x ∷ t) (take_add a b xs) ∙ ap (λ n. take n (x ∷ xs)) (let e : suc (a + b) ≡ suc a + b = omega arith in e)

abbrev parts_whole : List Number → List Number
parts_whole v = ((((([] ++ part 0 1 v) ++ part 1 2 v) ++ part 3 3 v) ++ part 6 4 v) ++ part 10 5 v) ++ part 15 6 v

parts_are : (v : List Number) → length v ≡ 21 → parts_whole v ≡ v
parts_are v long =
    ap (λ t. (((t ++ part 3 3 v) ++ part 6 4 v) ++ part 10 5 v) ++ part 15 6 v) (take_add 1 2 v)
    ∙ ap (λ t. ((t ++ part 6 4 v) ++ part 10 5 v) ++ part 15 6 v) (take_add 3 3 v)
    ∙ ap (λ t. (t ++ part 10 5 v) ++ part 15 6 v) (take_add 6 4 v)
    ∙ ap (λ t. t ++ part 15 6 v) (take_add 10 5 v)
    ∙ take_add 15 6 v
    ∙ take_all 21 v (omega arith)

epoch_follows : (b : Body) (s : OpenSegment) (m : Covariances) (done : List PlainMatrix) (t : ℕ) → closed m ≡ Ok done → IsTick t
    → follows false (Cov b s m) (Pair (codes "EPOCH") (epoch_of t)) ≡ Ok (Cov b s (drafted done (draft t false 0 [])))
unfolding follows with_matrix_pair
epoch_follows b s m done t ends tick = rw (ends, epoch_again t tick) refl

frame_follows : (b : Body) (s : OpenSegment) (done : List PlainMatrix) (t : ℕ)
    → follows false (Cov b s (drafted done (draft t false 0 []))) (Pair (codes "COV_REF_FRAME") (codes "RTN")) ≡ Ok (Cov b s (drafted done (draft t true 0 [])))
unfolding follows with_matrix_pair is_word
frame_follows b s done t = refl

rows_walk : (b : Body) (s : OpenSegment) (done : List PlainMatrix) (t : ℕ) (v : List Number) → length v ≡ 21 → All IsPrinted v
    → walk (Cov b s (drafted done (draft t true 0 []))) (row_forms v) ≡ Ok (Cov b s (drafted done (draft t true 6 v)))
rows_walk b s done t v long all =
    let at : ℕ → List Number → Stage = λ k values. Cov b s (drafted done (draft t true k values)) in
    let step : (k start : ℕ) (values : List Number) → k < 6 → start + (k + 1) ≤ 21 → follows false (at k values) (row_form start (k + 1) v) ≡ Ok (at (k + 1) (values ++ part start (k + 1) v)) =
    λ k start values few within. row_follows b s done t k values (part start (k + 1) v) few (part_length start (k + 1) v long within) (part_all start (k + 1) v all) in
    let v1 = [] ++ part 0 1 v in
    let v2 = v1 ++ part 1 2 v in
    let v3 = v2 ++ part 3 3 v in
    let v4 = v3 ++ part 6 4 v in
    let v5 = v4 ++ part 10 5 v in
    let f6 = row_form 15 6 v ∷ [] in
    let f5 = row_form 10 5 v ∷ f6 in
    let f4 = row_form 6 4 v ∷ f5 in
    let f3 = row_form 3 3 v ∷ f4 in
    let f2 = row_form 1 2 v ∷ f3 in
    walk_step (at 0 []) (at 1 v1) (row_form 0 1 v) f2 (step 0 0 [] (omega arith) (omega arith))
    ∙ walk_step (at 1 v1) (at 2 v2) (row_form 1 2 v) f3 (step 1 1 v1 (omega arith) (omega arith))
    ∙ walk_step (at 2 v2) (at 3 v3) (row_form 3 3 v) f4 (step 2 3 v2 (omega arith) (omega arith))
    ∙ walk_step (at 3 v3) (at 4 v4) (row_form 6 4 v) f5 (step 3 6 v3 (omega arith) (omega arith))
    ∙ walk_step (at 4 v4) (at 5 v5) (row_form 10 5 v) f6 (step 4 10 v4 (omega arith) (omega arith))
    ∙ walk_step (at 5 v5) (at 6 (v5 ++ part 15 6 v)) (row_form 15 6 v) [] (step 5 15 v5 (omega arith) (omega arith))
    ∙ ap (λ values. Ok (at 6 values)) (parts_are v long)

pub covariance_walk : (b : Body) (s : OpenSegment) (m : Covariances) (done : List PlainMatrix) (c : PlainMatrix) → closed m ≡ Ok done → IsCovariance c
    → walk (Cov b s m) (covariance_forms c) ≡ Ok (Cov b s (drafted done (draft c.at true 6 c.values)))
covariance_walk b s m done c ends is =
    walk_step (Cov b s m) (Cov b s (drafted done (draft c.at false 0 []))) (Pair (codes "EPOCH") (epoch_of c.at)) (Pair (codes "COV_REF_FRAME") (codes "RTN") ∷ row_forms c.values)
    (epoch_follows b s m done c.at ends is.tick)
    ∙ walk_step (Cov b s (drafted done (draft c.at false 0 []))) (Cov b s (drafted done (draft c.at true 0 []))) (Pair (codes "COV_REF_FRAME") (codes "RTN")) (row_forms c.values)
    (frame_follows b s done c.at)
    ∙ rows_walk b s done c.at c.values is.count is.printed

closed_whole : (done : List PlainMatrix) (c : PlainMatrix) → closed (drafted done (draft c.at true 6 c.values)) ≡ Ok (done ++ c ∷ [])
unfolding closed
closed_whole done c = refl

-- all of them
pub record AllRead (b : Body) (s : OpenSegment) (m : Covariances) (forms : List Form) (covariances : List PlainMatrix) : Type 0 where
  pub read : Covariances
  pub walked : walk (Cov b s m) forms ≡ Ok (Cov b s read)
  pub whole : closed read ≡ Ok covariances

pub covariances_walk : (b : Body) (s : OpenSegment) (m : Covariances) (done cs : List PlainMatrix) → closed m ≡ Ok done → All IsCovariance cs
    → AllRead b s m (flat_map covariance_forms cs) (done ++ cs)
covariances_walk b s m done [] ends all = record { read = m; walked = refl; whole = ends ∙ ap (λ xs. Ok xs) (sym (append-nil done)) }
covariances_walk b s m done (c ∷ cs) ends all =
    let next = drafted done (draft c.at true 6 c.values) in
    let later = covariances_walk b s next (done ++ c ∷ []) cs (closed_whole done c) (All-tail IsCovariance c cs all) in
    record {
      read = later.read;
      walked = walk_append (Cov b s m) (Cov b s next) (covariance_forms c) (flat_map covariance_forms cs) (covariance_walk b s m done c ends (All-head IsCovariance c cs all)) ∙ later.walked;
      whole = later.whole ∙ ap (λ xs. Ok xs) (append_assoc done (c ∷ []) cs);
    }
