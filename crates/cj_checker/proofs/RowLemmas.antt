-- The box of a track part by part, those of an object slot by slot, and its rows by the line of a shell.
use Rattle.std.proofs.Common.{◌≡◌, ℕ, zero, suc, ◌+◌, ◌-◌, ◌≤◌, arith, sym, refl, ap, ◌∙◌, Bool, true, false, List, [], ◌∷◌, ◌++◌, Option, Some, None, map, replicate, take, append_assoc}
use Rattle.std.proofs.lemmas.List.{map-append, take_all}
use Rattle.std.specs.Prelude.{◌==◌, if◌then◌else◌, option_and_then, slice_get}
use Rattle.std.specs.List.{range_with_len}
use Rattle.cj_interval.proofs.RangeLemmas.{range_more}
use Rattle.cj_track.specs.PlainTracks.{PlainTrack}
use Rattle.cj_hermite.specs.declared.box3.Box3.{Box3}
use Rattle.cj_hermite.specs.Boxes.{IsBoxWithin}
use Rattle.cj_hermite.specs.Walks.{HasNone}
use Rattle.cj_case.specs.Slots.{slot_first, slot_last}
use Rattle.cj_case.specs.PlainProblems.{PlainProblem}
use Rattle.cj_case.specs.declared.axis_box.AxisBox.{AxisBox}
use Rattle.cj_case.specs.declared.shells.Shell.{Shell}
use Rattle.cj_case.specs.Boxes.{PlainBox, plain_boxes}
use Rattle.cj_bezier.specs.AllBoxes.{boxes_over}
use Rattle.cj_bezier.specs.Hulls.{PlainHull}
use Rattle.cj_bezier.specs.JoinedBoxes.{reaches_of_spans, reaches_of_hull, reaches_with}
use Rattle.cj_bezier.specs.Parts.{hulls_of}
use Rattle.cj_bezier.specs.Sizes.{HULL_REACH}
use Rattle.cj_bezier.specs.SlotBoxes.{box_of, round_two}
use Rattle.cj_bezier.proofs.BoxRoundLemmas.{box_none}
use Rattle.cj_bezier.proofs.HullListLemmas.{no_hulls}
use Rattle.cj_bezier.proofs.JoinedBoxLemmas.{first_hull, next_hull}
use Rattle.cj_cert.specs.declared.cert_lines.ShellLine.{ShellLine}
use Rattle.cj_checker.specs.Rows.{row_at, row_of}
use Rattle.cj_checker.specs.Tests.{is_shell_over}

-- ---- the box of a track, part by part

-- the box of the parts up to tick `at`, of which the rest makes the whole
pub record IsBoxUpTo (e : PlainTrack) (from at to : ℕ) (b : Box3) : Type 0 where
  pub within : at ≤ to
  pub area : box_of e from to ≡ Some (reaches_with (reaches_of_spans b) (hulls_of e (at + 1) to))
  pub size : IsBoxWithin HULL_REACH b

pub first_part : (e : PlainTrack) (from at to : ℕ) (h : PlainHull) (b : Box3) → at ≤ to → hulls_of e from to ≡ h ∷ hulls_of e (at + 1) to → reaches_of_spans b ≡ reaches_of_hull h → IsBoxWithin HULL_REACH b
    → IsBoxUpTo e from at to b
first_part e from at to h b within front same size = record {
  within = within;
  area = first_hull (hulls_of e from to) (hulls_of e (at + 1) to) h front ∙ ap (λ (r : PlainBox). Some (reaches_with r (hulls_of e (at + 1) to))) (sym same);
  size = size;
}

pub one_part_more : (e : PlainTrack) (from before at to : ℕ) (h : PlainHull) (old own b : Box3) → IsBoxUpTo e from before to old → at ≤ to → hulls_of e (before + 1) to ≡ h ∷ hulls_of e (at + 1) to
    → reaches_of_spans own ≡ reaches_of_hull h → IsBoxWithin HULL_REACH own → reaches_of_spans b ≡ round_two (reaches_of_spans old) (reaches_of_spans own)
    → (IsBoxWithin HULL_REACH old → IsBoxWithin HULL_REACH own → IsBoxWithin HULL_REACH b) → IsBoxUpTo e from at to b
one_part_more e from before at to h old own b so_far within front same small both size =
    let grown : reaches_of_spans b ≡ round_two (reaches_of_spans old) (reaches_of_hull h) = both ∙ ap (round_two (reaches_of_spans old)) same in
    record {
      within = within;
      area = so_far.area ∙ ap (λ (r : PlainBox). Some r) (next_hull (reaches_of_spans old) (hulls_of e (before + 1) to) (hulls_of e (at + 1) to) h front
          ∙ ap (λ (r : PlainBox). reaches_with r (hulls_of e (at + 1) to)) (sym grown));
      size = size so_far.size small;
    }

-- where no part is left
pub no_part_more : (e : PlainTrack) (from at to : ℕ) (b : Box3) → IsBoxUpTo e from at to b → HasNone e (at + 1) to → Some (reaches_of_spans b) ≡ box_of e from to
no_part_more e from at to b so_far none = sym (so_far.area ∙ ap (λ (hs : List PlainHull). Some (reaches_with (reaches_of_spans b) hs)) (no_hulls e (at + 1) to none))

pub last_part : (e : PlainTrack) (from at to : ℕ) (b : Box3) → IsBoxUpTo e from at to b → to ≤ at → Some (reaches_of_spans b) ≡ box_of e from to
last_part e from at to b so_far all = no_part_more e from at to b so_far (λ m low high. absurd (omega arith))

-- ---- the boxes of an object, slot by slot

pub boxes_more : (e : PlainTrack) (first last n : ℕ) (done : List (Option PlainBox)) → (done ++ boxes_over e first last n) ++ box_of e (slot_first first n) (slot_last first last n) ∷ [] ≡ done ++ boxes_over e first last (n + 1)
boxes_more e first last n done =
    let f = λ (slot : ℕ). box_of e (slot_first first slot) (slot_last first last slot) in
    let at : 0 + n ≡ n = omega arith in
    append_assoc done (boxes_over e first last n) (f n ∷ [])
    ∙ ap (λ (k : ℕ). done ++ (boxes_over e first last n ++ f k ∷ [])) (sym at)
    ∙ ap (λ bs. done ++ bs) (sym (ap (map f) (range_more 0 n) ∙ map-append f (range_with_len 0 n) ((0 + n) ∷ [])))

-- without a state in the window there is none in any slot
all_none : (f : ℕ → Option PlainBox) → ((slot : ℕ) → f slot ≡ None) → (from n : ℕ) → map f (range_with_len from n) ≡ replicate n None
all_none f none from zero = refl
all_none f none from (suc n) = let here = none from in let rest = all_none f none (from + 1) n in λ i. here i ∷ rest i

no_boxes : (e : PlainTrack) (first last n : ℕ) → HasNone e first last → boxes_over e first last n ≡ replicate n None
no_boxes e first last n none =
    all_none (λ slot. box_of e (slot_first first slot) (slot_last first last slot))
    (λ slot. box_none e _ _ (λ m low high. none m (omega arith) (omega arith))) 0 n

plain_nones : (n : ℕ) → plain_boxes (replicate n None) ≡ replicate n None
plain_nones zero = refl
plain_nones (suc n) = ap (λ (bs : List (Option PlainBox)). None ∷ bs) (plain_nones n)

pub nones_over : (e : PlainTrack) (first last n : ℕ) → HasNone e first last → plain_boxes (replicate n None) ≡ boxes_over e first last n
nones_over e first last n none = plain_nones n ∙ sym (no_boxes e first last n none)

-- so many boxes that are none, in an empty list
pub nones_from : (e : PlainTrack) (first last n count : ℕ) (old new : List (Option AxisBox)) → HasNone e first last → old ≡ [] → count ≡ 0
    → new ≡ take n old ++ replicate (n - count) None → plain_boxes new ≡ boxes_over e first last n
nones_from e first last n count old new none empty counted are =
    let more : n - 0 ≡ n = omega arith in
    ap plain_boxes (are ∙ ((λ i. take n (empty i) ++ replicate (n - counted i) None) ∙ (ap (λ (bs : List (Option AxisBox)). bs ++ replicate (n - 0) None) (take_all n [] (omega arith))
    ∙ ap (λ (k : ℕ). replicate k None) more)))
    ∙ nones_over e first last n none

-- ---- by the line of a shell

pub row_past : (case : PlainProblem) (n object : ℕ) (line : ShellLine) → slice_get case.tracks object ≡ None → None ≡ row_at case n object line
row_past case n object line past =
    ap (λ (o : Option PlainTrack). option_and_then (λ e. if line.object == object then row_of e case.first case.last n line.shell else None) o) (sym past)

pub row_shown_by : (e : PlainTrack) (first last n : ℕ) (shell : Option Shell) (row : List (Option PlainBox)) → is_shell_over e first last shell ≡ true → row ≡ boxes_over e first last n
    → Some row ≡ row_of e first last n shell
row_shown_by e first last n shell row is same = ap (λ (r : List (Option PlainBox)). Some r) same ∙ ap (λ (b : Bool). if b then Some (boxes_over e first last n) else None) (sym is)

pub row_not_shown : (e : PlainTrack) (first last n : ℕ) (shell : Option Shell) → is_shell_over e first last shell ≡ false → None ≡ row_of e first last n shell
row_not_shown e first last n shell is = ap (λ (b : Bool). if b then Some (boxes_over e first last n) else None) (sym is)
