-- The lines of shells against the tracks, row by row.
use Rattle.std.proofs.Common.{◌≡◌, ℕ, zero, suc, ◌+◌, ◌<◌, ◌≤◌, Bool, true, false, ◌&&◌, List, [], ◌∷◌, ◌++◌, drop, get_or, length, map, Option, Some, None, refl, sym, ap, take, ◌∙◌, arith, append-nil, append_assoc}
use Rattle.std.specs.Prelude.{◌==◌, if◌then◌else◌, option_and_then, option_map, slice_get}
use Rattle.std.specs.List.{enumerate_from}
use Rattle.std.proofs.lemmas.List.FromFn.{length-enumerate_from}
use Rattle.std.proofs.lemmas.List.{length-map}
use Rattle.std.proofs.lemmas.Option.{slice_get-map, slice_get_past}
use Rattle.cj_track.specs.PlainTracks.{PlainTrack}
use Rattle.cj_case.specs.PlainProblems.{PlainProblem}
use Rattle.cj_case.specs.Slots.{slot_count}
use Rattle.cj_case.specs.Boxes.{PlainBox}
use Rattle.cj_formats.specs.declared.check_cause.CheckCause.{CheckCause}
use Rattle.cj_formats.specs.declared.check_cause.CheckCause.TheVariants.{ShellOf}
use Rattle.cj_bezier.specs.AllBoxes.{boxes_of, boxes_over}
use Rattle.cj_bezier.proofs.AllBoxLemmas.{row_length}
use Rattle.cj_cert.specs.declared.cert_lines.ShellLine.{ShellLine}
use Rattle.cj_checker.specs.declared.row.Row.{Row}
use Rattle.cj_checker.specs.First.{failed, first_unfit, fits_at, Failure}
use Rattle.cj_checker.specs.Rows.{plain_row, row_at, row_of}
use Rattle.cj_checker.specs.Tests.{is_shell_line, is_shell_over}
use Rattle.cj_checker.proofs.UnfitLemmas.{dropped, ended, fits_none, fits_some, unfit_done, unfit_from, unfit_more, unfit_now, unfit_short, unnumbered}
use Rattle.cj_brief_checker.specs.Shown.{AreShown, first_unfit_shell, rows_from}
use Rattle.cj_brief_checker.specs.declared.shown.Shown.{Shown}
use Rattle.cj_brief_checker.specs.declared.shown.Shown.TheVariants.{Boxes, Fails}

-- ---- rows that are made one by one

rows_are_from : (case : PlainProblem) (n object : ℕ) (lines : List ShellLine) (made : List (Option Row)) → length made ≡ length lines
    → ((k : ℕ) (d : Option Row) (l : ShellLine) → k < length lines → plain_row (get_or made k d) ≡ row_at case n (object + k) (get_or lines k l))
    → map plain_row made ≡ rows_from case n object lines
unfolding rows_from
rows_are_from case n object [] [] many each = refl
rows_are_from case n object [] (r ∷ made) many each = absurd (omega (arith, many))
rows_are_from case n object (line ∷ lines) [] many each = absurd (omega (arith, many))
rows_are_from case n object (line ∷ lines) (r ∷ made) many each =
    let first : object + 0 ≡ object = omega arith in
    let here : plain_row r ≡ row_at case n object line = each 0 r line (omega arith) ∙ ap (λ (k : ℕ). row_at case n k line) first in
    let rest = rows_are_from case n (object + 1) lines made (omega (arith, many)) (λ k d l lt.
    each (suc k) d l (omega (arith, lt)) ∙ ap (λ (m : ℕ). row_at case n m (get_or lines k l)) (moved k)) in
    λ i. here i ∷ rest i
  where
    moved : (k : ℕ) → object + suc k ≡ object + 1 + k
    moved k = omega arith

pub rows_are : (case : PlainProblem) (n : ℕ) (lines : List ShellLine) (made : List (Option Row)) → length made ≡ length lines
    → ((k : ℕ) (d : Option Row) (l : ShellLine) → k < length lines → plain_row (get_or made k d) ≡ row_at case n k (get_or lines k l))
    → map plain_row made ≡ rows_from case n 0 lines
rows_are case n lines made many each =
    rows_are_from case n 0 lines made many (λ k d l lt. each k d l lt ∙ ap (λ (m : ℕ). row_at case n m (get_or lines k l)) (same k))
  where
    same : (k : ℕ) → k ≡ 0 + k
    same k = omega arith

pub rows_count : (case : PlainProblem) (n object : ℕ) (lines : List ShellLine) (made : List (Option Row)) → map plain_row made ≡ rows_from case n object lines → length made ≡ length lines
unfolding rows_from
rows_count case n object [] [] same = refl
rows_count case n object [] (r ∷ made) same = absurd cc
rows_count case n object (line ∷ lines) [] same = absurd cc
rows_count case n object (line ∷ lines) (r ∷ made) same =
    let others : map plain_row made ≡ rows_from case n (object + 1) lines = cc in
    ap suc (rows_count case n (object + 1) lines made others)

-- ---- a line and its row

abbrev slots : PlainProblem → ℕ
slots case = slot_count case.first case.last

-- a row is there where the line has the shell of the object in its place, and is the boxes of that object
record IsRowThere (case : PlainProblem) (k : ℕ) (line : ShellLine) (row : List (Option PlainBox)) : Type 0 where
  fits : fits_at (is_shell_line case.first case.last) (enumerate_from 0 case.tracks) k line ≡ true
  boxes : slice_get (boxes_of case) k ≡ Some row

row_there : (case : PlainProblem) (k : ℕ) (line : ShellLine) (row : List (Option PlainBox)) → row_at case (slots case) k line ≡ Some row → IsRowThere case k line row
unfolding boxes_of
row_there case k line row is = go (slice_get case.tracks k) refl is
  where
    over : PlainTrack → List (Option PlainBox)
    over e = boxes_over e case.first case.last (slots case)

    go : (o : Option PlainTrack) → slice_get case.tracks k ≡ o
        → option_and_then (λ e. if line.object == k then row_of e case.first case.last (slots case) line.shell else None) o ≡ Some row → IsRowThere case k line row
    go None at is = absurd cc
    go (Some e) at is = test (line.object == k) refl (is_shell_over e case.first case.last line.shell) refl is
      where
        test : (own : Bool) → (line.object == k) ≡ own → (shown : Bool) → is_shell_over e case.first case.last line.shell ≡ shown
            → (if own then (if shown then Some (over e) else None) else None) ≡ Some row → IsRowThere case k line row
        test false named shown shows is = absurd cc
        test true named false shows is = absurd cc
        test true named true shows is =
            let same : over e ≡ row = cc in
            record {
              fits = sym (fits_some (is_shell_line case.first case.last) case.tracks k e line at) ∙ (λ i. named i && shows i);
              boxes = slice_get-map over case.tracks k ∙ ap (option_map over) at ∙ ap (λ (r : List (Option PlainBox)). Some r) same;
            }

row_missing : (case : PlainProblem) (k : ℕ) (line : ShellLine) → row_at case (slots case) k line ≡ None → fits_at (is_shell_line case.first case.last) (enumerate_from 0 case.tracks) k line ≡ false
row_missing case k line is = go (slice_get case.tracks k) refl is
  where
    go : (o : Option PlainTrack) → slice_get case.tracks k ≡ o
        → option_and_then (λ e. if line.object == k then row_of e case.first case.last (slots case) line.shell else None) o ≡ None
        → fits_at (is_shell_line case.first case.last) (enumerate_from 0 case.tracks) k line ≡ false
    go None at is = sym (fits_none (is_shell_line case.first case.last) case.tracks k line at)
    go (Some e) at is = test (line.object == k) refl (is_shell_over e case.first case.last line.shell) refl is
      where
        test : (own : Bool) → (line.object == k) ≡ own → (shown : Bool) → is_shell_over e case.first case.last line.shell ≡ shown
            → (if own then (if shown then Some (boxes_over e case.first case.last (slots case)) else None) else None) ≡ None
            → fits_at (is_shell_line case.first case.last) (enumerate_from 0 case.tracks) k line ≡ false
        test false named shown shows is = sym (fits_some (is_shell_line case.first case.last) case.tracks k e line at) ∙ (λ i. named i && shows i)
        test true named false shows is = sym (fits_some (is_shell_line case.first case.last) case.tracks k e line at) ∙ (λ i. named i && shows i)
        test true named true shows is = absurd cc

-- ---- row by row

-- the rows that are left behind the first k, which all are there
pub record AreLeft (case : PlainProblem) (first k : ℕ) (lines : List ShellLine) (left : List (Option Row)) : Type 0 where
  pub unfit : first_unfit_shell case first lines ≡ unfit_from (is_shell_line case.first case.last) ShellOf first (enumerate_from 0 case.tracks) lines k
  pub rows : map plain_row left ≡ rows_from case (slots case) k (drop k lines)

pub all_left : (case : PlainProblem) (first : ℕ) (lines : List ShellLine) (left : List (Option Row)) → map plain_row left ≡ rows_from case (slots case) 0 lines → AreLeft case first 0 lines left
all_left case first lines left same =
    let at : first ≡ first + 0 = omega arith in
    record { unfit = ap (λ (n : ℕ). first_unfit_shell case n lines) at; rows = same }

-- the line of the first row that is left
record IsFront (case : PlainProblem) (k : ℕ) (lines : List ShellLine) (row : Option Row) (rest : List (Option Row)) : Type 0 where
  line : ShellLine
  there : slice_get lines k ≡ Some line
  is : plain_row row ≡ row_at case (slots case) k line
  behind : map plain_row rest ≡ rows_from case (slots case) (k + 1) (drop (k + 1) lines)

front_row : (case : PlainProblem) (k : ℕ) (lines : List ShellLine) (row : Option Row) (rest : List (Option Row)) → map plain_row (row ∷ rest) ≡ rows_from case (slots case) k (drop k lines)
    → IsFront case k lines row rest
unfolding rows_from
front_row case k lines row rest same = go (slice_get lines k) refl
  where
    go : (o : Option ShellLine) → slice_get lines k ≡ o → IsFront case k lines row rest
    go None at = let none = same ∙ ap (rows_from case (slots case) k) (ended lines k at) in absurd cc
    go (Some line) at =
        let all : plain_row row ∷ map plain_row rest ≡ row_at case (slots case) k line ∷ rows_from case (slots case) (k + 1) (drop (k + 1) lines) =
        same ∙ ap (rows_from case (slots case) k) (dropped lines k line at) in
        record { line = line; there = at; is = cc; behind = cc }

no_row : (case : PlainProblem) (k : ℕ) (lines : List ShellLine) → [] ≡ rows_from case (slots case) k (drop k lines) → slice_get lines k ≡ None
unfolding rows_from
no_row case k lines same = go (slice_get lines k) refl
  where
    go : (o : Option ShellLine) → slice_get lines k ≡ o → slice_get lines k ≡ None
    go None at = at
    go (Some line) at = let some = same ∙ ap (rows_from case (slots case) k) (dropped lines k line at) in absurd cc

-- one row that is there
pub record IsOneMore (case : PlainProblem) (first k : ℕ) (lines : List ShellLine) (row : List (Option PlainBox)) (rest : List (Option Row)) : Type 0 where
  pub left : AreLeft case first (k + 1) lines rest
  pub boxes : slice_get (boxes_of case) k ≡ Some row

pub one_more : (case : PlainProblem) (first k : ℕ) (lines : List ShellLine) (row : Option Row) (rest : List (Option Row)) (boxes : List (Option PlainBox)) → AreLeft case first k lines (row ∷ rest)
    → plain_row row ≡ Some boxes → IsOneMore case first k lines boxes rest
one_more case first k lines row rest boxes left some =
    let front = front_row case k lines row rest left.rows in
    let there = row_there case k front.line boxes (sym front.is ∙ some) in
    record {
      left = record {
        unfit = left.unfit ∙ unfit_more (is_shell_line case.first case.last) ShellOf first (enumerate_from 0 case.tracks) lines k front.line front.there there.fits;
        rows = front.behind;
      };
      boxes = there.boxes;
    }

pub one_fails : (case : PlainProblem) (first k : ℕ) (lines : List ShellLine) (row : Option Row) (rest : List (Option Row)) → AreLeft case first k lines (row ∷ rest) → plain_row row ≡ None
    → first_unfit_shell case first lines ≡ failed (first + k) ShellOf
one_fails case first k lines row rest left none =
    let front = front_row case k lines row rest left.rows in
    left.unfit ∙ unfit_now (is_shell_line case.first case.last) ShellOf first (enumerate_from 0 case.tracks) lines k front.line front.there (row_missing case k front.line (sym front.is ∙ none))

pub too_few : (case : PlainProblem) (first k : ℕ) (lines : List ShellLine) → AreLeft case first k lines [] → k < length case.tracks → first_unfit_shell case first lines ≡ failed (first + k) ShellOf
too_few case first k lines left lt =
    left.unfit ∙ unfit_short (is_shell_line case.first case.last) ShellOf first (enumerate_from 0 case.tracks) lines k (no_row case k lines left.rows) (omega (arith, lt, length-enumerate_from 0 case.tracks))

pub all_fit : (case : PlainProblem) (first k : ℕ) (lines : List ShellLine) → AreLeft case first k lines [] → length case.tracks ≤ k → first_unfit_shell case first lines ≡ None
all_fit case first k lines left le =
    left.unfit ∙ unfit_done (is_shell_line case.first case.last) ShellOf first (enumerate_from 0 case.tracks) lines k (no_row case k lines left.rows) (unnumbered 0 case.tracks k (slice_get_past case.tracks k le))

-- ---- the boxes so far

pub boxes_grow : (all front : List (List (Option PlainBox))) (k : ℕ) (row : List (Option PlainBox)) → front ++ drop k all ≡ all → slice_get all k ≡ Some row → (front ++ row ∷ []) ++ drop (k + 1) all ≡ all
boxes_grow all front k row so_far at =
    append_assoc front (row ∷ []) (drop (k + 1) all) ∙ (ap (λ (rs : List (List (Option PlainBox))). front ++ rs) (sym (dropped all k row at)) ∙ so_far)

pub boxes_whole : (case : PlainProblem) (front : List (List (Option PlainBox))) (k : ℕ) → front ++ drop k (boxes_of case) ≡ boxes_of case → length case.tracks ≤ k → front ≡ boxes_of case
unfolding boxes_of
boxes_whole case front k so_far le =
    let n = length-map case.tracks (λ e. boxes_over e case.first case.last (slots case)) in
    let past = ended (boxes_of case) k (slice_get_past (boxes_of case) k (omega (arith, n, le))) in
    sym (append-nil front) ∙ (ap (λ (rs : List (List (Option PlainBox))). front ++ rs) (sym past) ∙ so_far)

-- a row of the boxes has a place for each slot
pub row_long : (case : PlainProblem) (k : ℕ) (row : List (Option PlainBox)) → slice_get (boxes_of case) k ≡ Some row → length row ≡ slot_count case.first case.last
unfolding boxes_of
row_long case k row at = go (slice_get case.tracks k) (sym (slice_get-map over case.tracks k) ∙ at)
  where
    over : PlainTrack → List (Option PlainBox)
    over e = boxes_over e case.first case.last (slots case)

    go : (o : Option PlainTrack) → option_map over o ≡ Some row → length row ≡ slot_count case.first case.last
    go None is = absurd cc
    go (Some e) is =
        let same : over e ≡ row = cc in
        sym (ap length same) ∙ row_length e case.first case.last (slots case)

-- ---- lines behind the last object

unfit_take : {A B : Type 0} (fits : A → B → Bool) (cause : CheckCause) (line n : ℕ) (xs : List A) (ys : List B) → length xs < n
    → first_unfit fits cause line xs (take n ys) ≡ first_unfit fits cause line xs ys
unfolding first_unfit
unfit_take fits cause line zero xs ys lt = absurd (omega (arith, lt))
unfit_take fits cause line (suc n) [] [] lt = refl
unfit_take fits cause line (suc n) [] (y ∷ ys) lt = refl
unfit_take fits cause line (suc n) (x ∷ xs) [] lt = refl
unfit_take fits cause line (suc n) (x ∷ xs) (y ∷ ys) lt =
    ap (λ (t : Option Failure). if fits x y then t else failed line cause) (unfit_take fits cause (line + 1) n xs ys (omega (arith, lt)))

-- the first line behind the last object fails, whatever is behind it
pub shown_of_some : (case : PlainProblem) (first n : ℕ) (lines : List ShellLine) → n ≡ length case.tracks + 1
    → first_unfit_shell case first (take n lines) ≡ first_unfit_shell case first lines
shown_of_some case first n lines is =
    unfit_take (is_shell_line case.first case.last) ShellOf first n (enumerate_from 0 case.tracks) lines (omega (arith, is, length-enumerate_from 0 case.tracks))

-- what some lines show is what all show
pub shown_by_some : (case : PlainProblem) (first : ℕ) (some all : List ShellLine) (shown : Shown) → first_unfit_shell case first some ≡ first_unfit_shell case first all
    → AreShown case first some shown → AreShown case first all shown
shown_by_some case first some all (Boxes boxes) same are = (sym same ∙ are.0, are.1)
shown_by_some case first some all (Fails failure) same are = sym same ∙ are
