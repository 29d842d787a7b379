-- The boxes of a slot, the candidates by them, and the roots slot by slot.
use Rattle.std.proofs.Common.{◌≡◌, ℕ, suc, ◌+◌, ◌-◌, ◌<◌, ◌≤◌, List, [], ◌∷◌, ◌++◌, drop, get_or, map, length, Option, Some, refl, sym, ap, ◌∙◌, arith}
use Rattle.std.specs.Prelude.{false, option_map, slice_get, Result}
use Rattle.std.specs.List.{flat_map, range_with_len}
use Rattle.std.proofs.lemmas.List.{length-map}
use Rattle.std.proofs.lemmas.Option.{slice_get-map}
use Rattle.std.proofs.lemmas.List.{drop_more}
use Rattle.cj_track.specs.PlainTracks.{PlainTrack}
use Rattle.cj_case.specs.PlainProblems.{PlainProblem}
use Rattle.cj_case.specs.Cells.{PlainCell}
use Rattle.cj_case.specs.declared.pair.Pair.{Pair}
use Rattle.cj_case.specs.declared.problem.Problem.{Problem}
use Rattle.cj_case.specs.Problems.{plain_problem}
use Rattle.cj_case.specs.Pairs.{objects_of}
use Rattle.cj_case.specs.Slots.{slot_first, slot_last, slot_count}
use Rattle.cj_case.specs.declared.axis_box.AxisBox.{AxisBox}
use Rattle.cj_case.specs.Boxes.{PlainBox, plain_boxes, plain_box, plain_rows}
use Rattle.cj_case.proofs.TableLemmas.{made_in_slot}
use Rattle.cj_hermite.specs.Roots.{roots_by_slot, roots_in, roots_in_slot}
use Rattle.cj_bezier.specs.AllBoxes.{boxes_of, boxes_over}
use Rattle.cj_bezier.specs.Candidates.{boxes_in}
use Rattle.cj_bezier.specs.SlotBoxes.{box_of}
use Rattle.cj_cert.specs.declared.cert_lines.ShellLine.{ShellLine}
use Rattle.cj_brief.specs.Accepted.{is_candidate_in_brief}
use Rattle.cj_brief.specs.declared.brief_certificate.BriefCertificate.{BriefCertificate}
use Rattle.cj_brief.specs.Certificates.{PlainBrief, plain_brief}
use Rattle.cj_cert.specs.Certificates.{plain_cell_line}
use Rattle.cj_checker.specs.declared.cell_fault.CellFault.{CellFault}
use Rattle.cj_checker.specs.First.{Failure}
use Rattle.cj_checker.specs.Keys.{candidate_with}
use Rattle.cj_brief_checker.specs.First.{first_cell_line, told_from}
use Rattle.cj_brief_checker.specs.SlotCells.{IsFound}
use Rattle.cj_brief_checker.specs.SlotPairs.{candidates_in}
use Rattle.cj_brief_checker.specs.Steps.{told_behind}

-- ---- the boxes of a slot

-- what is found in a slot, row by row
slot_in : (es : List PlainTrack) (first last n slot : ℕ) (rows : List (List (Option AxisBox))) (here : List (Option AxisBox)) → slot < n
    → plain_rows rows ≡ map (λ e. boxes_over e first last n) es → map Some here ≡ map (λ row. slice_get row slot) rows
    → plain_boxes here ≡ map (λ e. box_of e (slot_first first slot) (slot_last first last slot)) es
slot_in [] first last n slot [] [] lt same found = refl
slot_in [] first last n slot [] (b ∷ here) lt same found = absurd cc
slot_in [] first last n slot (row ∷ rows) here lt same found = absurd cc
slot_in (e ∷ es) first last n slot [] here lt same found = absurd cc
slot_in (e ∷ es) first last n slot (row ∷ rows) [] lt same found = absurd cc
slot_in (e ∷ es) first last n slot (row ∷ rows) (b ∷ here) lt same found =
    let box = λ (k : ℕ). box_of e (slot_first first k) (slot_last first last k) in
    let own : plain_boxes row ≡ boxes_over e first last n = cc in
    let others : plain_rows rows ≡ map (λ e. boxes_over e first last n) es = cc in
    let got : Some b ≡ slice_get row slot = cc in
    let more : map Some here ≡ map (λ row. slice_get row slot) rows = cc in
    let seen : Some (option_map plain_box b) ≡ Some (box slot) =
    ap (option_map (option_map plain_box)) got
    ∙ (sym (slice_get-map (option_map plain_box) row slot) ∙ ap (λ bs. slice_get bs slot) own ∙ made_in_slot box n slot lt) in
    let first_box : option_map plain_box b ≡ box slot = cc in
    let rest = slot_in es first last n slot rows here lt others more in
    λ i. first_box i ∷ rest i

pub boxes_there : (case : PlainProblem) (slot : ℕ) (rows : List (List (Option AxisBox))) (here : List (Option AxisBox)) → slot < slot_count case.first case.last
    → plain_rows rows ≡ boxes_of case → map Some here ≡ map (λ row. slice_get row slot) rows → plain_boxes here ≡ boxes_in case slot
unfolding boxes_of boxes_in
boxes_there case slot rows here lt same found = slot_in case.tracks case.first case.last (slot_count case.first case.last) slot rows here lt same found

pub boxes_count : (case : PlainProblem) (slot : ℕ) (here : List (Option AxisBox)) → plain_boxes here ≡ boxes_in case slot → length here ≡ length case.tracks
unfolding boxes_in
boxes_count case slot here same =
    sym (length-map here (option_map plain_box)) ∙ ap (λ (bs : List (Option PlainBox)). length bs) same
    ∙ length-map case.tracks (λ e. box_of e (slot_first case.first slot) (slot_last case.first case.last slot))

-- ---- the candidates by them

pub candidates_are : (case : PlainProblem) (c : PlainBrief) (shells : List ShellLine) (areas : List (Option PlainBox)) (slot : ℕ) → shells ≡ c.shells → areas ≡ boxes_in case slot
    → (a b : ℕ) → candidate_with case (map (λ line. line.shell) shells) areas (a, b) ≡ is_candidate_in_brief case c a b slot
unfolding is_candidate_in_brief
candidates_are case c shells areas slot same are a b = λ i. candidate_with case (map (λ line. line.shell) (same i)) (are i) (a, b)

-- ---- the roots from a slot on

abbrev pub roots_from : PlainProblem → PlainBrief → ℕ → List PlainCell
roots_from case c slot = flat_map (λ k. roots_in_slot case k (candidates_in case c k)) (range_with_len slot (slot_count case.first case.last - slot))

pub all_roots : (case : PlainProblem) (c : PlainBrief) → roots_by_slot (is_candidate_in_brief case c) case ≡ roots_from case c 0
unfolding roots_by_slot
all_roots case c =
    let n = slot_count case.first case.last in
    let all : n ≡ n - 0 = omega arith in
    ap (λ (k : ℕ). flat_map (λ slot. roots_in_slot case slot (candidates_in case c slot)) (range_with_len 0 k)) all

pub slot_roots : (case : PlainProblem) (c : PlainBrief) (slot : ℕ) → slot < slot_count case.first case.last
    → roots_from case c slot ≡ roots_in_slot case slot (candidates_in case c slot) ++ roots_from case c (slot + 1)
slot_roots case c slot lt =
    let n = slot_count case.first case.last in
    let len : n - slot ≡ suc (n - (slot + 1)) = omega arith in
    ap (λ (k : ℕ). flat_map (λ slot. roots_in_slot case slot (candidates_in case c slot)) (range_with_len slot k)) len

pub no_roots_left : (case : PlainProblem) (c : PlainBrief) (slot : ℕ) → slot_count case.first case.last ≤ slot → roots_from case c slot ≡ []
no_roots_left case c slot le =
    let n = slot_count case.first case.last in
    let len : n - slot ≡ 0 = omega arith in
    ap (λ (k : ℕ). flat_map (λ slot. roots_in_slot case slot (candidates_in case c slot)) (range_with_len slot k)) len

-- with the cells of a slot told, the whole fails as those that are left do
pub slot_told : {whole : Option Failure} (problem : Problem) (cert : BriefCertificate) (slot at : ℕ) (found : Result ℕ CellFault) → slot < slot_count problem.window.first.micros problem.window.last.micros
    → IsFound problem cert slot at found
    → whole ≡ told_from (plain_problem problem) (drop at (map plain_cell_line cert.cells.items)) (first_cell_line (plain_brief cert) + at) false (roots_from (plain_problem problem) (plain_brief cert) slot)
    → whole ≡ told_behind (plain_problem problem) (first_cell_line (plain_brief cert)) (roots_from (plain_problem problem) (plain_brief cert) (slot + 1)) (map plain_cell_line cert.cells.items) found
slot_told problem cert slot at found lt is so_far =
    let case = plain_problem problem in
    let c = plain_brief cert in
    so_far
    ∙ (ap (told_from case (drop at (map plain_cell_line cert.cells.items)) (first_cell_line c + at) false) (slot_roots case c slot lt)
    ∙ is.tells (first_cell_line c) (roots_from case c (slot + 1)))

-- those of a slot from one of its pairs on
pub next_pair : (case : PlainProblem) (slot i : ℕ) (pairs : List Pair) (p : Pair) → i < length pairs → p ≡ get_or pairs i p
    → roots_in_slot case slot (map objects_of (drop i pairs)) ≡ roots_in case slot p.a p.b ++ roots_in_slot case slot (map objects_of (drop (i + 1) pairs))
next_pair case slot i pairs p lt is =
    ap (λ (ps : List Pair). roots_in_slot case slot (map objects_of ps)) (drop_more pairs i p lt)
    ∙ ap (λ (q : Pair). roots_in case slot q.a q.b ++ roots_in_slot case slot (map objects_of (drop (i + 1) pairs))) (sym is)
