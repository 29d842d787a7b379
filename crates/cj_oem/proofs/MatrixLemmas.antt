-- The lines of covariances: reading them one after another asks for just what the grammar says of them.
use Rattle.std.proofs.Common.{◌≡◌, ℕ, zero, suc, ◌+◌, ◌<◌, ◌≤◌, List, [], ◌∷◌, ◌++◌, map, length, drop, Bool, true, false, IfSome, Option, Some, None, ◌⊎◌, inl, inr, ⊎_elim, Result, Ok, Err, arith, ap, sym, ◌∙◌, refl, subst, true≢false}
use Rattle.std.specs.Prelude.{if◌then◌else◌, ◌||◌, ◌==◌, not, nat_lt, flat_map, is_some, codes}
use Rattle.std.proofs.lemmas.Bool.{or_parts, not-false, false_from_ne_true}
use Rattle.std.proofs.lemmas.Bool.Decides.{leb_tells, nat_tests}
use Rattle.std.proofs.lemmas.List.{append_assoc, append-nil, map-append}
use Rattle.cj_kvn.specs.Lines.{Form, Blank, Comment, Mark, Pair, Row}
use Rattle.cj_kvn.specs.Decimals.{decimal_of}
use Rattle.cj_kvn.specs.Fields.{fields}
use Rattle.cj_base.specs.Numbers.{Number}
use Rattle.cj_kvn.specs.declared.numbers.NumFault.{NumFault}
use Rattle.cj_epoch.specs.Reading.{reading_of}
use Rattle.cj_formats.specs.declared.oem_cause.OemCause.{OemCause}
use Rattle.cj_formats.specs.declared.oem_cause.OemCause.TheVariants as causes
use Rattle.cj_oem.specs.CovarianceRows.{Covariances, CovarianceDraft, NO_COVARIANCES, closed, closed_with, number_or, numbers_said, with_epoch, with_fields, with_frame, with_matrix_pair, with_matrix_row}
use Rattle.cj_oem.specs.Drafts.{begun}
use Rattle.cj_track.specs.PlainTracks.{PlainMatrix}
use Rattle.cj_oem.specs.Grammar.{AreMatrices, IsMatrix, IsRtn, frame_lines, kept, none, row_lines, unused}
use Rattle.cj_oem.specs.Words.{is_text, is_word}
use Rattle.cj_kvn.specs.Faults.{◌>>=◌}
use Rattle.cj_oem.specs.Metadata.{parse_epoch, unless}
use Rattle.cj_oem.proofs.MetadataLemmas.{epoch_is}
use Rattle.cj_kvn.proofs.FaultLemmas.{bind_ok}
use Rattle.cj_oem.proofs.StepLemmas.{chosen, ok_is, text_is, unless_ok, unwanted, wanted}

-- what a line between the marks of covariances says
abbrev pub with_line : Covariances → Form → Result Covariances OemCause
with_line m Blank = Err causes.Order
with_line m Comment = Err causes.Order
with_line m (Mark mark) = Err causes.Order
with_line m (Pair key value) = with_matrix_pair m key value
with_line m (Row text) = with_matrix_row m text

-- what such lines say, one after another
abbrev pub covariances_from : Covariances → List Form → Result Covariances OemCause
covariances_from m [] = Ok m
covariances_from m (line ∷ lines) = with_line m line >>= λ next. covariances_from next lines

-- ---- numbers

cons_same : {A : Type 0} {x y : A} {xs ys : List A} → x ≡ y → xs ≡ ys → x ∷ xs ≡ y ∷ ys
cons_same e f = rw (e, f) refl

numbers_are : (row : List (List ℕ)) (numbers : List Number) → numbers_said row ≡ Ok numbers → map decimal_of row ≡ map (λ n. Ok n) numbers
numbers_are [] numbers e = ap (λ (ns : List Number). map (λ n. Ok n) ns) (ok_is [] numbers e)
numbers_are (text ∷ row) numbers e =
    let first = bind_ok (number_or (decimal_of text)) _ numbers e in
    let others = bind_ok (numbers_said row) _ numbers first.2 in
    cons_same (number_is (decimal_of text) first.0 first.1) (numbers_are row others.0 others.1)
    ∙ ap (λ (ns : List Number). map (λ n. Ok n) ns) (ok_is (first.0 ∷ others.0) numbers others.2)
  where
    number_is : (r : Result Number NumFault) (n : Number) → number_or r ≡ Ok n → r ≡ Ok n
    number_is (Ok m) n e = ap (λ x. Ok x) (ok_is m n e)
    number_is (Err fault) n e = absurd cc

-- numbers of two lists of texts
record IsSplit (a b : List (List ℕ)) (numbers : List Number) : Type 0 where
  front : List Number
  back : List Number
  both : front ++ back ≡ numbers
  first : map decimal_of a ≡ map (λ n. Ok n) front
  second : map decimal_of b ≡ map (λ n. Ok n) back

same_head : {A : Type 0} (x y : A) (xs ys : List A) → x ∷ xs ≡ y ∷ ys → (x ≡ y) × (xs ≡ ys)
same_head x y xs ys e = (cc, cc)

split : (a b : List (List ℕ)) (numbers : List Number) → map decimal_of (a ++ b) ≡ map (λ n. Ok n) numbers → IsSplit a b numbers
split [] b numbers e = record { front = []; back = numbers; both = refl; first = refl; second = e }
split (text ∷ a) b [] e = absurd cc
split (text ∷ a) b (n ∷ numbers) e =
    let each = same_head (decimal_of text) (Ok n) (map decimal_of (a ++ b)) (map (λ m. Ok m) numbers) e in
    let rest = split a b numbers each.1 in
    record { front = n ∷ rest.front; back = rest.back; both = ap (λ (ns : List Number). n ∷ ns) rest.both; first = cons_same each.0 rest.first; second = rest.second }

numbers_again : (row : List (List ℕ)) (numbers : List Number) → map decimal_of row ≡ map (λ n. Ok n) numbers → numbers_said row ≡ Ok numbers
numbers_again [] [] e = refl
numbers_again [] (n ∷ numbers) e = absurd cc
numbers_again (text ∷ row) [] e = absurd cc
numbers_again (text ∷ row) (n ∷ numbers) e =
    let each = same_head (decimal_of text) (Ok n) (map decimal_of row) (map (λ m. Ok m) numbers) e in
    rw (each.0, numbers_again row numbers each.1) refl

-- ---- rows

abbrev width : List ℕ → ℕ
width row = length (fields row)

abbrev WIDTHS : List ℕ
WIDTHS = 1 ∷ 2 ∷ 3 ∷ 4 ∷ 5 ∷ 6 ∷ []

widths_next : (k : ℕ) → k < 6 → drop k WIDTHS ≡ (k + 1) ∷ drop (k + 1) WIDTHS
widths_next zero within = refl
widths_next (suc zero) within = refl
widths_next (suc (suc zero)) within = refl
widths_next (suc (suc (suc zero))) within = refl
widths_next (suc (suc (suc (suc zero)))) within = refl
widths_next (suc (suc (suc (suc (suc zero))))) within = refl
widths_next (suc (suc (suc (suc (suc (suc k)))))) within = absurd (omega arith)

below_or_six : (k : ℕ) → k ≤ 6 → (k < 6) ⊎ (k ≡ 6)
below_or_six k within = elim (leb_tells (suc k) 6) [ inl h ↦ inl (omega arith) | inr h ↦ inr (omega arith) ]

widths_end : (k : ℕ) → k ≤ 6 → [] ≡ drop k WIDTHS → k ≡ 6
widths_end k within e = ⊎_elim (λ less. let both : [] ≡ (k + 1) ∷ drop (k + 1) WIDTHS = e ∙ widths_next k less in absurd cc) (λ six. six) (below_or_six k within)

widths_row : (k w : ℕ) (ws : List ℕ) → k ≤ 6 → w ∷ ws ≡ drop k WIDTHS → (k < 6) × (w ≡ k + 1) × (ws ≡ drop (k + 1) WIDTHS)
widths_row k w ws within e = ⊎_elim
    (λ less. let each = same_head w (k + 1) ws (drop (k + 1) WIDTHS) (e ∙ widths_next k less) in (less, each.0, each.1))
    (λ six. let both : w ∷ ws ≡ [] = e ∙ ap (λ (n : ℕ). drop n WIDTHS) six in absurd cc)
    (below_or_six k within)

-- the row is the next one
fits_is : (k n : ℕ) → k ≤ 6 → ((k == 6) || not (n == k + 1)) ≡ false → (k < 6) × (n ≡ k + 1)
fits_is k n within e =
    let each = or_parts (k == 6) (not (n == k + 1)) e in
    let other : (k == 6) ≡ false = each.0 in
    let same : (n == k + 1) ≡ true = not-false (n == k + 1) each.1 in
    (grind (arith, nat_tests), grind (arith, nat_tests))

fits_again : (k n : ℕ) → k < 6 → n ≡ k + 1 → ((k == 6) || not (n == k + 1)) ≡ false
fits_again k n less e =
    let other : (k == 6) ≡ false = grind (arith, nat_tests) in
    let same : (n == k + 1) ≡ true = grind (arith, nat_tests) in
    rw (other, same) refl

-- ---- frames

-- whether a matrix is in RTN, once its frame is known
abbrev rtn_with : Bool → Option (List ℕ) → Bool
rtn_with rtn None = rtn
rtn_with rtn (Some frame) = is_word (codes "RTN") frame

rtn_is : (frame : Option (List ℕ)) → rtn_with false frame ≡ true → IsRtn frame
rtn_is None e = absurd cc
rtn_is (Some frame) e = e

rtn_again : (frame : Option (List ℕ)) → IsRtn frame → rtn_with false frame ≡ true
rtn_again None is = absurd is
rtn_again (Some frame) is = is

-- the covariances with another, if it is used
abbrev with_used : List PlainMatrix → Bool → PlainMatrix → List PlainMatrix
with_used whole used c = if used then whole ++ c ∷ [] else whole

-- ---- what is left to be read

-- the rest of a matrix that is being read, and matrices behind it
record IsRest (whole : List PlainMatrix) (d : CovarianceDraft) (lines : List Form) (all : List PlainMatrix) : Type 0 where
  frame : Option (List ℕ)
  rows : List (List ℕ)
  rest : List Form
  values : List Number
  others : List PlainMatrix
  shape : lines ≡ frame_lines frame ++ (row_lines rows ++ rest)
  early : IfSome frame (λ _. (d.framed ≡ false) × (d.rows ≡ 0))
  triangle : map width rows ≡ drop d.rows WIDTHS
  numbers : map decimal_of (flat_map fields rows) ≡ map (λ n. Ok n) values
  more : AreMatrices rest others
  total : all ≡ with_used whole (rtn_with d.rtn frame) (record { at = d.at; values = d.values ++ values }) ++ others

-- matrices, behind the one that is being read if there is one
abbrev IsLeft : List PlainMatrix → Option CovarianceDraft → List Form → List PlainMatrix → Type 0
IsLeft whole None lines all = (others : List PlainMatrix) × AreMatrices lines others × (all ≡ whole ++ others)
IsLeft whole (Some d) lines all = IsRest whole d lines all

-- a matrix that is being read has six rows at most
abbrev IsShort : Option CovarianceDraft → Type 0
IsShort o = IfSome o (λ d. d.rows ≤ 6)

-- where a matrix may begin or the lines end, the one before is whole
left_whole : (whole : List PlainMatrix) (o : Option CovarianceDraft) (lines : List Form) (before others all : List PlainMatrix) → closed_with whole o ≡ Ok before → AreMatrices lines others
    → all ≡ before ++ others → IsLeft whole o lines all
left_whole whole None lines before others all e more total = (others, more, total ∙ ap (λ (cs : List PlainMatrix). cs ++ others) (sym (ok_is whole before e)))
left_whole whole (Some d) lines before others all e more total =
    let said = wanted (d.rows == 6) (Ok (with_used whole d.rtn (record { at = d.at; values = d.values }))) causes.MatrixForm before e in
    let tested : (d.rows == 6) ≡ true = said.0 in
    let six : d.rows ≡ 6 = grind (arith, nat_tests) in
    record {
      frame = None;
      rows = [];
      rest = lines;
      values = [];
      others = others;
      shape = refl;
      early = tt;
      triangle = ap (λ (n : ℕ). drop n WIDTHS) (sym six);
      numbers = refl;
      more = more;
      total = total
          ∙ ap (λ (cs : List PlainMatrix). cs ++ others) (sym (ok_is _ before said.1))
          ∙ ap (λ (vs : List Number). with_used whole d.rtn (record { at = d.at; values = vs }) ++ others) (sym (append-nil d.values));
    }

-- a matrix from its first line on
matrix_is : (whole : List PlainMatrix) (value : List ℕ) (at : ℕ) (lines : List Form) (all : List PlainMatrix) → parse_epoch value ≡ Ok at → IsRest whole (begun at) lines all
    → (others : List PlainMatrix) × AreMatrices (Pair (codes "EPOCH") value ∷ lines) others × (all ≡ whole ++ others)
matrix_is whole value at lines all e r = by (rtn_with false r.frame) refl
  where
    c : PlainMatrix
    c = record { at = at; values = r.values }

    front : List Form
    front = Pair (codes "EPOCH") value ∷ frame_lines r.frame ++ row_lines r.rows

    matrix : IsMatrix front r.frame c
    matrix = record { epoch = value; rows = r.rows; shape = refl; at = epoch_is (reading_of value) at e; triangle = r.triangle; numbers = r.numbers }

    placed : (others : List PlainMatrix) → AreMatrices (front ++ r.rest) others → AreMatrices (Pair (codes "EPOCH") value ∷ lines) others
    placed others are =
        subst (λ (fs : List Form). AreMatrices fs others) (sym (ap (λ (fs : List Form). Pair (codes "EPOCH") value ∷ fs) (r.shape ∙ sym (append_assoc (frame_lines r.frame) (row_lines r.rows) r.rest)))) are

    by : (b : Bool) → rtn_with false r.frame ≡ b → (others : List PlainMatrix) × AreMatrices (Pair (codes "EPOCH") value ∷ lines) others × (all ≡ whole ++ others)
    by true is = (
      c ∷ r.others,
      placed (c ∷ r.others) (kept front r.rest r.frame c r.others matrix (rtn_is r.frame is) r.more),
      r.total ∙ ap (λ (b : Bool). with_used whole b c ++ r.others) is ∙ append_assoc whole (c ∷ []) r.others,
    )
    by false is = (
      r.others,
      placed r.others (unused front r.rest r.frame c r.others matrix (λ rtn. true≢false (sym (rtn_again r.frame rtn) ∙ is)) r.more),
      r.total ∙ ap (λ (b : Bool). with_used whole b c ++ r.others) is,
    )

absent : {A : Type 0} {P : Type 0} (o : Option A) → IfSome o (λ _. P) → (P → ⊥) → o ≡ None
absent None h f = refl
absent (Some x) h f = absurd (f h)

-- the frame of a matrix
left_frame : (whole : List PlainMatrix) (d : CovarianceDraft) (value : List ℕ) (lines : List Form) (all : List PlainMatrix) → (d.framed || nat_lt 0 d.rows) ≡ false
    → IsRest whole (record d { framed = true; rtn = is_word (codes "RTN") value }) lines all → IsRest whole d (Pair (codes "COV_REF_FRAME") value ∷ lines) all
left_frame whole d value lines all e r =
    let early = or_parts d.framed (nat_lt 0 d.rows) e in
    let lacks = early.1 in
    let gone = absent r.frame r.early (λ both. true≢false both.0) in
    record {
      frame = Some value;
      rows = r.rows;
      rest = r.rest;
      values = r.values;
      others = r.others;
      shape = ap (λ (fs : List Form). Pair (codes "COV_REF_FRAME") value ∷ fs) (r.shape ∙ ap (λ (o : Option (List ℕ)). frame_lines o ++ (row_lines r.rows ++ r.rest)) gone);
      early = (early.0, grind (arith, nat_tests));
      triangle = r.triangle;
      numbers = r.numbers;
      more = r.more;
      total = r.total
          ∙ ap (λ (o : Option (List ℕ)). with_used whole (rtn_with (is_word (codes "RTN") value) o) (record { at = d.at; values = d.values ++ r.values }) ++ r.others) gone;
    }

-- a further row of it
left_row : (whole : List PlainMatrix) (d : CovarianceDraft) (text : List ℕ) (numbers : List Number) (lines : List Form) (all : List PlainMatrix) → d.rows < 6 → width text ≡ d.rows + 1
    → numbers_said (fields text) ≡ Ok numbers → IsRest whole (record d { rows = d.rows + 1; values = d.values ++ numbers }) lines all → IsRest whole d (Row text ∷ lines) all
left_row whole d text numbers lines all less wide said r =
    let gone = absent r.frame r.early (λ both. one_more d.rows both.1) in
    record {
      frame = None;
      rows = text ∷ r.rows;
      rest = r.rest;
      values = numbers ++ r.values;
      others = r.others;
      shape = ap (λ (fs : List Form). Row text ∷ fs) (r.shape ∙ ap (λ (o : Option (List ℕ)). frame_lines o ++ (row_lines r.rows ++ r.rest)) gone);
      early = tt;
      triangle = rw (wide, r.triangle) (sym (widths_next d.rows less));
      numbers = rw (map-append decimal_of (fields text) (flat_map fields r.rows), numbers_are (fields text) numbers said, r.numbers) (sym (map-append (λ n. Ok n) numbers r.values));
      more = r.more;
      total = r.total
          ∙ ap (λ (o : Option (List ℕ)). with_used whole (rtn_with d.rtn o) (record { at = d.at; values = (d.values ++ numbers) ++ r.values }) ++ r.others) gone
          ∙ ap (λ (vs : List Number). with_used whole d.rtn (record { at = d.at; values = vs }) ++ r.others) (append_assoc d.values numbers r.values);
    }
  where
    one_more : (k : ℕ) → k + 1 ≡ 0 → ⊥
    one_more k e = omega arith

-- ---- one line

abbrev at_draft : List PlainMatrix → Option CovarianceDraft → Covariances
at_draft whole o = record { whole = whole; draft = o }

-- what stands before a line is left, where what stands behind it is
abbrev LeadsTo : List PlainMatrix → Option CovarianceDraft → Form → Covariances → Type 0
LeadsTo whole o line next =
    IsShort next.draft × ((lines : List Form) (all : List PlainMatrix) → IsLeft next.whole next.draft lines all → IsLeft whole o (line ∷ lines) all)

epoch_leads : (whole : List PlainMatrix) (o : Option CovarianceDraft) (value : List ℕ) (next : Covariances) → with_epoch (at_draft whole o) value ≡ Ok next → LeadsTo whole o (Pair (codes "EPOCH") value) next
unfolding closed
epoch_leads whole o value next e =
    let before = bind_ok (closed (at_draft whole o)) _ next e in
    let at = bind_ok (parse_epoch value) _ next before.2 in
    subst (LeadsTo whole o (Pair (codes "EPOCH") value)) (ok_is _ next at.2) (
      omega arith,
      λ lines all left.
          let more = matrix_is before.0 value at.0 lines all at.1 left in
          left_whole whole o (Pair (codes "EPOCH") value ∷ lines) before.0 more.0 all before.1 more.1 more.2,
    )

frame_leads : (whole : List PlainMatrix) (o : Option CovarianceDraft) (value : List ℕ) (next : Covariances) → IsShort o → (with_frame o value >>= λ d. Ok (at_draft whole (Some d))) ≡ Ok next
    → LeadsTo whole o (Pair (codes "COV_REF_FRAME") value) next
frame_leads whole None value next short e = absurd cc
frame_leads whole (Some d) value next short e =
    let framed = bind_ok (with_frame (Some d) value) (λ f. Ok (at_draft whole (Some f))) next e in
    let said = unwanted (d.framed || nat_lt 0 d.rows) (Ok (record d { framed = true; rtn = is_word (codes "RTN") value })) causes.MatrixForm framed.0 framed.1 in
    let same = ap (λ (f : CovarianceDraft). at_draft whole (Some f)) (ok_is _ framed.0 said.1) ∙ ok_is (at_draft whole (Some framed.0)) next framed.2 in
    subst (LeadsTo whole (Some d) (Pair (codes "COV_REF_FRAME") value)) same (short, λ lines all left. left_frame whole d value lines all said.0 left)

at_most : (k : ℕ) → k < 6 → k + 1 ≤ 6
at_most k less = omega arith

row_leads : (whole : List PlainMatrix) (o : Option CovarianceDraft) (text : List ℕ) (next : Covariances) → IsShort o → (with_fields o (fields text) >>= λ d. Ok (at_draft whole (Some d))) ≡ Ok next
    → LeadsTo whole o (Row text) next
row_leads whole None text next short e = absurd cc
row_leads whole (Some d) text next short e =
    let further = bind_ok (with_fields (Some d) (fields text)) (λ f. Ok (at_draft whole (Some f))) next e in
    let fits = bind_ok (unless ((d.rows == 6) || not (width text == d.rows + 1)) causes.MatrixForm) _ further.0 further.1 in
    let numbers = bind_ok (numbers_said (fields text)) _ further.0 fits.2 in
    let is = fits_is d.rows (width text) short (unless_ok _ causes.MatrixForm fits.0 fits.1) in
    let same = ap (λ (f : CovarianceDraft). at_draft whole (Some f)) (ok_is _ further.0 numbers.2) ∙ ok_is (at_draft whole (Some further.0)) next further.2 in
    subst (LeadsTo whole (Some d) (Row text)) same (at_most d.rows is.0, λ lines all left. left_row whole d text numbers.0 lines all is.0 is.1 numbers.1 left)

pair_leads : (whole : List PlainMatrix) (o : Option CovarianceDraft) (key value : List ℕ) (next : Covariances) → IsShort o → with_matrix_pair (at_draft whole o) key value ≡ Ok next
    → LeadsTo whole o (Pair key value) next
unfolding with_matrix_pair
pair_leads whole o key value next short e = ⊎_elim
    (λ is. subst (λ k. LeadsTo whole o (Pair k value) next) (sym (text_is (codes "EPOCH") key is.0)) (epoch_leads whole o value next is.1))
    (λ not.
    let is = wanted (is_text (codes "COV_REF_FRAME") key) _ causes.Unknown next not.1 in
    subst (λ k. LeadsTo whole o (Pair k value) next) (sym (text_is (codes "COV_REF_FRAME") key is.0)) (frame_leads whole o value next short is.1))
    (chosen (is_text (codes "EPOCH") key) _ _ (Ok next) e)

line_leads : (whole : List PlainMatrix) (o : Option CovarianceDraft) (line : Form) (next : Covariances) → IsShort o → with_line (at_draft whole o) line ≡ Ok next → LeadsTo whole o line next
unfolding with_matrix_row
line_leads whole o Blank next short e = absurd cc
line_leads whole o Comment next short e = absurd cc
line_leads whole o (Mark mark) next short e = absurd cc
line_leads whole o (Pair key value) next short e = pair_leads whole o key value next short e
line_leads whole o (Row text) next short e = row_leads whole o text next short e

left_is : (lines : List Form) (whole : List PlainMatrix) (o : Option CovarianceDraft) (end : Covariances) (all : List PlainMatrix) → IsShort o → covariances_from (at_draft whole o) lines ≡ Ok end
    → closed end ≡ Ok all → IsLeft whole o lines all
unfolding closed
left_is [] whole o end all short e whole_end =
    left_whole whole o [] all [] all (ap closed (ok_is (at_draft whole o) end e) ∙ whole_end) none (sym (append-nil all))
left_is (line ∷ lines) whole o end all short e whole_end =
    let step = bind_ok (with_line (at_draft whole o) line) (λ next. covariances_from next lines) end e in
    let leads = line_leads whole o line step.0 short step.1 in
    leads.1 lines all (left_is lines step.0.whole step.0.draft end all leads.0 step.2 whole_end)

-- lines that are read from the start, the last matrix whole, are those of matrices
pub matrices_are : (lines : List Form) (end : Covariances) (all : List PlainMatrix) → covariances_from NO_COVARIANCES lines ≡ Ok end → closed end ≡ Ok all → AreMatrices lines all
matrices_are lines end all e whole =
    let left = left_is lines [] None end all tt e whole in
    subst (AreMatrices lines) (sym left.2) left.1

-- ---- and back again

row_again : (whole : List PlainMatrix) (d : CovarianceDraft) (text : List ℕ) (numbers : List Number) → d.rows < 6 → width text ≡ d.rows + 1 → numbers_said (fields text) ≡ Ok numbers
    → with_line (at_draft whole (Some d)) (Row text) ≡ Ok (at_draft whole (Some (record d { rows = d.rows + 1; values = d.values ++ numbers })))
unfolding with_matrix_row
row_again whole d text numbers less wide said = rw (fits_again d.rows (width text) less wide, said) refl

-- the rows that a matrix lacks are read
rows_again : (rows : List (List ℕ)) (whole : List PlainMatrix) (d : CovarianceDraft) (values : List Number) (rest : List Form) → d.rows ≤ 6 → map width rows ≡ drop d.rows WIDTHS
    → map decimal_of (flat_map fields rows) ≡ map (λ n. Ok n) values
    → covariances_from (at_draft whole (Some d)) (row_lines rows ++ rest) ≡ covariances_from (at_draft whole (Some (record d { rows = 6; values = d.values ++ values }))) rest
rows_again [] whole d [] rest short widths said =
    ap (λ (n : ℕ). covariances_from (at_draft whole (Some (record d { rows = n }))) rest) (widths_end d.rows short widths)
    ∙ ap (λ (vs : List Number). covariances_from (at_draft whole (Some (record d { rows = 6; values = vs }))) rest) (sym (append-nil d.values))
rows_again [] whole d (n ∷ values) rest short widths said = absurd cc
rows_again (row ∷ rows) whole d values rest short widths said =
    let each = widths_row d.rows (width row) (map width rows) short widths in
    let parts = split (fields row) (flat_map fields rows) values said in
    ap (λ (r : Result Covariances OemCause). r >>= λ m. covariances_from m (row_lines rows ++ rest))
    (row_again whole d row parts.front each.0 each.1 (numbers_again (fields row) parts.front parts.first))
    ∙ rows_again rows whole (record d { rows = d.rows + 1; values = d.values ++ parts.front }) parts.back rest (at_most d.rows each.0) each.2 parts.second
    ∙ ap (λ (vs : List Number). covariances_from (at_draft whole (Some (record d { rows = 6; values = vs }))) rest)
    (append_assoc d.values parts.front parts.back ∙ ap (λ (ns : List Number). d.values ++ ns) parts.both)

epoch_again : (whole : List PlainMatrix) (o : Option CovarianceDraft) (value : List ℕ) (before : List PlainMatrix) (at : ℕ) → closed_with whole o ≡ Ok before → reading_of value ≡ Ok at
    → with_epoch (at_draft whole o) value ≡ Ok (at_draft before (Some (begun at)))
unfolding closed
epoch_again whole o value before at e f = rw (e, f) refl

-- the matrix where its frame is known
abbrev framed : ℕ → Option (List ℕ) → CovarianceDraft
framed at frame = record { at = at; framed = is_some frame; rtn = rtn_with false frame; rows = 0; values = [] }

frame_again : (whole : List PlainMatrix) (at : ℕ) (frame : Option (List ℕ)) (rest : List Form)
    → covariances_from (at_draft whole (Some (begun at))) (frame_lines frame ++ rest) ≡ covariances_from (at_draft whole (Some (framed at frame))) rest
unfolding with_matrix_pair
frame_again whole at None rest = refl
frame_again whole at (Some frame) rest = refl

matrix_again : (whole : List PlainMatrix) (o : Option CovarianceDraft) (before : List PlainMatrix) (lines rest : List Form) (frame : Option (List ℕ)) (c : PlainMatrix) → closed_with whole o ≡ Ok before
    → IsMatrix lines frame c
    → covariances_from (at_draft whole o) (lines ++ rest) ≡ covariances_from (at_draft before (Some (record (framed c.at frame) { rows = 6; values = c.values }))) rest
unfolding with_matrix_pair
matrix_again whole o before lines rest frame c e m =
    ap (λ (fs : List Form). covariances_from (at_draft whole o) (fs ++ rest)) m.shape
    ∙ ap (λ (r : Result Covariances OemCause). r >>= λ n. covariances_from n ((frame_lines frame ++ row_lines m.rows) ++ rest)) (epoch_again whole o m.epoch before c.at e m.at)
    ∙ ap (covariances_from (at_draft before (Some (begun c.at)))) (append_assoc (frame_lines frame) (row_lines m.rows) rest)
    ∙ frame_again before c.at frame (row_lines m.rows ++ rest)
    ∙ rows_again m.rows before (framed c.at frame) c.values rest (omega arith) m.triangle m.numbers

-- the matrices are read, the last one whole
record AreReadAgain (whole : List PlainMatrix) (o : Option CovarianceDraft) (lines : List Form) (all : List PlainMatrix) : Type 0 where
  end : Covariances
  read : covariances_from (at_draft whole o) lines ≡ Ok end
  closes : closed end ≡ Ok all

all_again : (lines : List Form) (covariances : List PlainMatrix) → AreMatrices lines covariances → (whole : List PlainMatrix) (o : Option CovarianceDraft) (before : List PlainMatrix)
    → closed_with whole o ≡ Ok before → AreReadAgain whole o lines (before ++ covariances)
unfolding closed
all_again lines covariances none whole o before e =
    record { end = at_draft whole o; read = refl; closes = e ∙ ap (λ (cs : List PlainMatrix). Ok cs) (sym (append-nil before)) }
all_again lines covariances (kept front rest frame c others matrix rtn more) whole o before e =
    let d = record (framed c.at frame) { rows = 6; values = c.values } in
    let next : closed_with before (Some d) ≡ Ok (before ++ c ∷ []) = ap (λ (b : Bool). Ok (with_used before b c)) (rtn_again frame rtn) in
    let later = all_again rest others more before (Some d) (before ++ c ∷ []) next in
    record {
      end = later.end;
      read = matrix_again whole o before front rest frame c e matrix ∙ later.read;
      closes = later.closes ∙ ap (λ (cs : List PlainMatrix). Ok cs) (append_assoc before (c ∷ []) others);
    }
all_again lines covariances (unused front rest frame c others matrix other more) whole o before e =
    let d = record (framed c.at frame) { rows = 6; values = c.values } in
    let next : closed_with before (Some d) ≡ Ok before = ap (λ (b : Bool). Ok (with_used before b c)) (false_from_ne_true (rtn_with false frame) (λ rtn. other (rtn_is frame rtn))) in
    let later = all_again rest others more before (Some d) before next in
    record { end = later.end; read = matrix_again whole o before front rest frame c e matrix ∙ later.read; closes = later.closes }

-- lines of matrices are read from the start, the last matrix whole
pub matrices_again : (lines : List Form) (all : List PlainMatrix) → AreMatrices lines all → (end : Covariances) × (covariances_from NO_COVARIANCES lines ≡ Ok end) × (closed end ≡ Ok all)
matrices_again lines all m = let again = all_again lines all m [] None [] refl in (again.end, again.read, again.closes)
