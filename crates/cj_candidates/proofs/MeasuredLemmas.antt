-- What is measured of objects, one by one: of all of a list, and of a case.
use Rattle.std.proofs.Common.{◌≡◌, ℕ, zero, suc, ◌+◌, ◌<◌, ◌++◌, List, [], ◌∷◌, length, get_or, map, All, Ok, refl, sym, ap, subst, ◌∙◌, inl, inr, arith, append_assoc, length-append}
use Rattle.std.specs.Prelude.{Option, Some, None, Result, Err, IfOk, IfSome, option_map, slice_get}
use Rattle.std.specs.declared.alloc.AllocError.{AllocError}
use Rattle.std.proofs.lemmas.Bool.{cases_eq}
use Rattle.std.proofs.lemmas.List.{get_or_append_left, get_or_default, get_or_push, length-map}
use Rattle.std.proofs.lemmas.List.Elements.{All-nil}
use Rattle.std.proofs.lemmas.Option.{get_or_from_slice_get, slice_get-get_or, slice_get-map, slice_get_within}
use Rattle.cj_track.specs.declared.track.Track.{Track}
use Rattle.cj_track.specs.PlainTracks.{PlainTrack}
use Rattle.cj_track.specs.Tracks.{plain_track}
use Rattle.cj_case.specs.PlainProblems.{PlainProblem}
use Rattle.cj_case.specs.Slots.{slot_count}
use Rattle.cj_case.specs.Tables.{Table}
use Rattle.cj_case.specs.declared.axis_box.AxisBox.{AxisBox}
use Rattle.cj_case.specs.declared.shells.Shell.{Shell}
use Rattle.cj_case.specs.declared.measured.Measured.{Measured}
use Rattle.cj_case.specs.declared.problem.Problem.{Problem}
use Rattle.cj_cells.specs.declared.refine_error.RefineError.{RefineError}
use Rattle.cj_candidates.specs.declared.candidates.Candidates.{Candidates}
use Rattle.cj_bezier.specs.Shells.{shell_of}
use Rattle.cj_case.specs.Boxes.{PlainBox, plain_box, plain_boxes, plain_rows}
use Rattle.cj_bezier.specs.Enclosed.{AreInBoxes, AreInShells}
use Rattle.cj_bezier.specs.Candidates.{boxes_in, shells_of}
use Rattle.cj_bezier.specs.AllBoxes.{boxes_of, boxes_over}
use Rattle.cj_bezier.specs.MeasuredObjects.{AreMeasured}
use Rattle.cj_case.specs.Problems.{plain_problem}
use Rattle.cj_bezier.proofs.AllBoxLemmas.{row_length}
use Rattle.cj_candidates.specs.declared.measured_object.MeasuredObject.{MeasuredObject}
use Rattle.cj_candidates.specs.MeasuredObjects.{AreOfProblem, ArePlaces, AreTheirs, IsMeasured, IsMeasuredAt, IsInOwnShell, IsInOwnBoxes}
use Rattle.cj_candidates.proofs.ObjectLemmas.{in_shells, in_boxes}

-- ---- object by object

all_with : {X : Type 0} (P : X → Type 0) (x : X) (xs : List X) → P x → All P xs → All P (x ∷ xs)
all_with P x xs here rest zero d lt = here
all_with P x xs here rest (suc k) d lt = rest k d (omega arith)

pub each_measured : (tracks : List Track) (found : List MeasuredObject) (first last n : ℕ) → length found ≡ length tracks
    → ((i : ℕ) (d : MeasuredObject) (t : Track) → i < length tracks → IsMeasured (plain_track (get_or tracks i t)) first last n (get_or found i d))
    → AreTheirs tracks first last n (map (λ one. one.shell) found) (record { rows = map (λ one. one.boxes.items) found; slots = n })
each_measured [] [] first last n many each = record {
  shells = refl;
  boxes = refl;
  slots = refl;
  in_shells = All-nil (IsInOwnShell first last);
  in_boxes = All-nil (IsInOwnBoxes first last n);
}
each_measured [] (one ∷ found) first last n many each = absurd (omega (arith, many))
each_measured (t ∷ tracks) [] first last n many each = absurd (omega (arith, many))
each_measured (t ∷ tracks) (one ∷ found) first last n many each =
    let here = each 0 one t (omega arith) in
    let rest = each_measured tracks found first last n (omega (arith, many)) (λ i d s lt. each (suc i) d s (omega (arith, lt))) in
    record {
      shells = λ i. here.shell i ∷ rest.shells i;
      boxes = λ i. here.boxes i ∷ rest.boxes i;
      slots = refl;
      in_shells = all_with (IsInOwnShell first last) (plain_track t) (map plain_track tracks) here.in_shell rest.in_shells;
      in_boxes = all_with (IsInOwnBoxes first last n) (plain_track t) (map plain_track tracks) here.in_boxes rest.in_boxes;
    }

-- one object more
pub record AreSoFar (tracks : List Track) (found : List MeasuredObject) (first last n k : ℕ) : Type 0 where
  pub many : length found ≡ k
  pub each : (i : ℕ) (d : MeasuredObject) (t : Track) → i < k → IsMeasured (plain_track (get_or tracks i t)) first last n (get_or found i d)

pub measured_more : (tracks : List Track) (found new : List MeasuredObject) (one : MeasuredObject) (first last n k : ℕ) (track : Track) → k < length tracks → track ≡ get_or tracks k track → length found ≡ k
    → ((i : ℕ) (d : MeasuredObject) (t : Track) → i < k → IsMeasured (plain_track (get_or tracks i t)) first last n (get_or found i d))
    → new ≡ found ++ one ∷ [] → IsMeasured (plain_track track) first last n one → AreSoFar tracks new first last n (k + 1)
measured_more tracks found new one first last n k track lt is many each pushed here = record {
  many = ap (λ (xs : List MeasuredObject). length xs) pushed ∙ omega (arith, many, length-append found (one ∷ []));
  each = λ i d t below. elim (cases_eq i k) [
    | inl same ↦
        let at : get_or new i d ≡ one = ap (λ (xs : List MeasuredObject). get_or xs i d) pushed ∙ get_or_push found one d i (omega (arith, same, many)) in
        let of : get_or tracks i t ≡ track = ap (λ (j : ℕ). get_or tracks j t) same ∙ get_or_default tracks k t track lt ∙ sym is in
        subst (λ (x : MeasuredObject). IsMeasured (plain_track (get_or tracks i t)) first last n x) (sym at)
        (subst (λ (x : Track). IsMeasured (plain_track x) first last n one) (sym of) here)
    | inr other ↦
        let at : get_or new i d ≡ get_or found i d = ap (λ (xs : List MeasuredObject). get_or xs i d) pushed ∙ get_or_append_left found (one ∷ []) d i (omega (arith, below, other, many)) in
        subst (λ (x : MeasuredObject). IsMeasured (plain_track (get_or tracks i t)) first last n x) (sym at) (each i d t (omega (arith, below, other)))
  ];
}

-- each row has all slots
row_whole : (e : PlainTrack) (first last n : ℕ) (found : MeasuredObject) → IsMeasured e first last n found → length found.boxes.items ≡ n
row_whole e first last n found is =
    sym (length-map found.boxes.items (option_map plain_box)) ∙ ap (λ (bs : List (Option PlainBox)). length bs) is.boxes ∙ row_length e first last n

pub rows_whole : (tracks : List Track) (found : List MeasuredObject) (first last n : ℕ) → length found ≡ length tracks
    → ((i : ℕ) (d : MeasuredObject) (t : Track) → i < length tracks → IsMeasured (plain_track (get_or tracks i t)) first last n (get_or found i d))
    → All (λ one. length one.boxes.items ≡ n) found
rows_whole [] [] first last n many each k d lt = absurd (omega arith)
rows_whole [] (one ∷ found) first last n many each k d lt = absurd (omega (arith, many))
rows_whole (t ∷ tracks) found first last n many each k d lt = row_whole (plain_track (get_or (t ∷ tracks) k t)) first last n (get_or found k d) (each k d t (omega (arith, many, lt)))

-- what is put together of them
pub in_one_are : (r : Result Measured AllocError) (tracks : List Track) (first last n : ℕ) (found : List MeasuredObject)
    → AreTheirs tracks first last n (map (λ one. one.shell) found) (record { rows = map (λ one. one.boxes.items) found; slots = n })
    → IfOk r (λ all. all.shells.items ≡ map (λ one. one.shell) found) → IfOk r (λ all. all.boxes ≡ record { rows = map (λ one. one.boxes.items) found; slots = n })
    → IfOk r (λ all. AreTheirs tracks first last n all.shells.items all.boxes)
in_one_are (Err e) tracks first last n found theirs shells boxes = tt
in_one_are (Ok all) tracks first last n found theirs shells boxes =
    subst (λ (t : Table (Option AxisBox)). AreTheirs tracks first last n all.shells.items t) (sym boxes)
    (subst (λ (ss : List (Option Shell)). AreTheirs tracks first last n ss (record { rows = map (λ one. one.boxes.items) found; slots = n })) (sym shells) theirs)

-- ---- all objects of a case

pub case_shells : (case : PlainProblem) (tracks : List Track) (n : ℕ) (shells : List (Option Shell)) (boxes : Table (Option AxisBox)) → map plain_track tracks ≡ case.tracks
    → AreTheirs tracks case.first case.last n shells boxes → shells ≡ shells_of case
unfolding shells_of
case_shells case tracks n shells boxes all found = found.shells ∙ ap (map (λ e. shell_of e case.first case.last)) all

pub case_boxes : (case : PlainProblem) (tracks : List Track) (n : ℕ) (shells : List (Option Shell)) (boxes : Table (Option AxisBox)) → map plain_track tracks ≡ case.tracks
    → n ≡ slot_count case.first case.last → AreTheirs tracks case.first case.last n shells boxes → plain_rows boxes.rows ≡ boxes_of case
unfolding boxes_of
case_boxes case tracks n shells boxes all count found =
    found.boxes ∙ ap (λ (k : ℕ). map (λ e. boxes_over e case.first case.last k) (map plain_track tracks)) count
    ∙ ap (map (λ e. boxes_over e case.first case.last (slot_count case.first case.last))) all

pub case_in_shells : (case : PlainProblem) (tracks : List Track) (n : ℕ) (shells : List (Option Shell)) (boxes : Table (Option AxisBox)) → map plain_track tracks ≡ case.tracks
    → AreTheirs tracks case.first case.last n shells boxes → AreInShells case (shells_of case)
case_in_shells case tracks n shells boxes all found =
    in_shells case (subst (λ (es : List PlainTrack). All (IsInOwnShell case.first case.last) es) all found.in_shells)

pub case_in_boxes : (case : PlainProblem) (tracks : List Track) (n : ℕ) (shells : List (Option Shell)) (boxes : Table (Option AxisBox)) → map plain_track tracks ≡ case.tracks
    → n ≡ slot_count case.first case.last → AreTheirs tracks case.first case.last n shells boxes → AreInBoxes case (boxes_in case)
case_in_boxes case tracks n shells boxes all count found =
    in_boxes case (subst (λ (k : ℕ). All (IsInOwnBoxes case.first case.last k) case.tracks) count
    (subst (λ (es : List PlainTrack). All (IsInOwnBoxes case.first case.last n) es) all found.in_boxes))

-- ---- objects that are put together one after another

pub taken_over : {A B : Type 0} (f : A → B) (done new : List B) (one : A) (left rest : List A) (whole : List B) → new ≡ done ++ f one ∷ [] → left ≡ one ∷ rest → done ++ map f left ≡ whole
    → new ++ map f rest ≡ whole
taken_over f done new one left rest whole more first so_far =
    ap (λ xs. xs ++ map f rest) more ∙ append_assoc done (f one ∷ []) (map f rest) ∙ ap (λ xs. done ++ map f xs) (sym first) ∙ so_far

pub first_of : {A : Type 0} (P : A → Type 0) (one : A) (left rest : List A) → left ≡ one ∷ rest → All P left → P one
first_of P one left rest is all = subst (λ xs. All P xs) is all 0 one (omega arith)

pub others_of : {A : Type 0} (P : A → Type 0) (one : A) (left rest : List A) → left ≡ one ∷ rest → All P left → All P rest
others_of P one left rest is all k d lt = subst (λ xs. All P xs) is all (suc k) d (omega arith)

-- ---- a problem

pub of_problem : (problem : Problem) (tracks : List Track) (n : ℕ) (r : Result Measured AllocError) → tracks ≡ problem.tracks → n ≡ slot_count problem.window.first.micros problem.window.last.micros
    → IfOk r (λ all. AreTheirs tracks problem.window.first.micros problem.window.last.micros n all.shells.items all.boxes) → IfOk r (AreOfProblem problem)
of_problem problem tracks n (Err e) all count theirs = tt
of_problem problem tracks n (Ok found) all count theirs =
    subst (λ (k : ℕ). AreTheirs problem.tracks problem.window.first.micros problem.window.last.micros k found.shells.items found.boxes) count
    (subst (λ (ts : List Track). AreTheirs ts problem.window.first.micros problem.window.last.micros n found.shells.items found.boxes) all theirs)

pub theirs_in : (problem : Problem) (measured : Measured) (r : Result Candidates RefineError) → IfOk r (λ found. found.measured ≡ measured) → AreOfProblem problem measured
    → IfOk r (λ found. AreOfProblem problem found.measured)
theirs_in problem measured (Err e) same theirs = tt
theirs_in problem measured (Ok found) same theirs = subst (λ (m : Measured). AreOfProblem problem m) (sym same) theirs

-- ---- objects that were measured before

at_place : (tracks : List Track) (first last n p : ℕ) (from : Measured) (e : PlainTrack) → AreTheirs tracks first last n from.shells.items from.boxes → slice_get (map plain_track tracks) p ≡ Some e
    → IsMeasuredAt e first last n from p
at_place tracks first last n p from e theirs there =
    let es = map plain_track tracks in
    let within = slice_get_within es p e there in
    let is = get_or_from_slice_get es p e e there in
    record {
      shell = ap (λ (ss : List (Option Shell)). slice_get ss p) theirs.shells ∙ slice_get-map (λ d. shell_of d first last) es p ∙ ap (option_map (λ d. shell_of d first last)) there;
      boxes = sym (slice_get-map plain_boxes from.boxes.rows p) ∙ ap (λ (rows : List (List (Option PlainBox))). slice_get rows p) theirs.boxes
          ∙ slice_get-map (λ d. boxes_over d first last n) es p ∙ ap (option_map (λ d. boxes_over d first last n)) there;
      in_shell = subst (IsInOwnShell first last) is (theirs.in_shells p e within);
      in_boxes = subst (IsInOwnBoxes first last n) is (theirs.in_boxes p e within);
    }

pub measured_places : (old new : Problem) (tracks : List Track) (n : ℕ) (places : List (Option ℕ)) (from : Measured) → tracks ≡ new.tracks → n ≡ slot_count new.window.first.micros new.window.last.micros
    → new.window.first.micros ≡ old.window.first.micros → new.window.last.micros ≡ old.window.last.micros
    → ArePlaces (map plain_track old.tracks) (map plain_track new.tracks) places → AreOfProblem old from
    → (i : ℕ) (d : Track) → i < length tracks
    → IfSome (get_or places i None) (λ p. IsMeasuredAt (plain_track (get_or tracks i d)) new.window.first.micros new.window.last.micros n from p)
measured_places old new tracks n places from all count first last are theirs i d lt = go (get_or places i None) refl
  where
    many : length tracks ≡ length places
    many = ap (λ (ts : List Track). length ts) all ∙ sym (length-map new.tracks plain_track) ∙ sym are.long

    here : slice_get (map plain_track new.tracks) i ≡ Some (plain_track (get_or tracks i d))
    here =
        slice_get-map plain_track new.tracks i ∙ ap (λ (ts : List Track). option_map plain_track (slice_get ts i)) (sym all)
        ∙ ap (option_map plain_track) (slice_get-get_or tracks i d lt)

    window : (p : ℕ) → slice_get (map plain_track old.tracks) p ≡ Some (plain_track (get_or tracks i d))
        → IsMeasuredAt (plain_track (get_or tracks i d)) new.window.first.micros new.window.last.micros n from p
    window p there =
        let e = plain_track (get_or tracks i d) in
        let f = new.window.first.micros in
        let l = new.window.last.micros in
        subst (λ (k : ℕ). IsMeasuredAt e f l k from p) (sym count)
        (subst (λ (x : ℕ). IsMeasuredAt e x l (slot_count x l) from p) (sym first)
        (subst (λ (y : ℕ). IsMeasuredAt e old.window.first.micros y (slot_count old.window.first.micros y) from p) (sym last)
        (at_place old.tracks old.window.first.micros old.window.last.micros (slot_count old.window.first.micros old.window.last.micros) p from e theirs there)))

    go : (place : Option ℕ) → get_or places i None ≡ place
        → IfSome place (λ p. IsMeasuredAt (plain_track (get_or tracks i d)) new.window.first.micros new.window.last.micros n from p)
    go None is = tt
    go (Some p) is = window p (are.same i p (plain_track (get_or tracks i d)) (slice_get-get_or places i None (omega (arith, many, lt)) ∙ ap (λ (o : Option ℕ). Some o) is) here)

-- ---- what is copied

some_same : {A : Type 0} {x y : A} → Some x ≡ Some y → x ≡ y
some_same is = cc

pub row_within : {A B : Type 0} (f : A → B) (rows : List A) (p : ℕ) (y : B) → option_map f (slice_get rows p) ≡ Some y → p < length rows
row_within {A = A} f rows p y is = go (slice_get rows p) refl
  where
    go : (o : Option A) → slice_get rows p ≡ o → p < length rows
    go None none = let wrong = sym (ap (option_map f) none) ∙ is in absurd cc
    go (Some row) there = slice_get_within rows p row there

pub copied_is : (e : PlainTrack) (first last n p : ℕ) (from : Measured) (one : MeasuredObject) → IsMeasuredAt e first last n from p → slice_get from.shells.items p ≡ Some one.shell
    → slice_get from.boxes.rows p ≡ Some one.boxes.items → IsMeasured e first last n one
copied_is e first last n p from one at shell boxes = record {
  shell = some_same (sym shell ∙ at.shell);
  boxes = some_same (sym (ap (option_map plain_boxes) boxes) ∙ at.boxes);
  in_shell = at.in_shell;
  in_boxes = at.in_boxes;
}

pub copies_are : (e : PlainTrack) (first last n p : ℕ) (from : Measured) (r : Result MeasuredObject AllocError) → IsMeasuredAt e first last n from p
    → IfOk r (λ one. slice_get from.shells.items p ≡ Some one.shell) → IfOk r (λ one. slice_get from.boxes.rows p ≡ Some one.boxes.items) → IfOk r (IsMeasured e first last n)
copies_are e first last n p from (Err s) at shell boxes = tt
copies_are e first last n p from (Ok one) at shell boxes = copied_is e first last n p from one at shell boxes

-- what is measured of the objects of a problem is so of its case
pub are_measured : (problem : Problem) (found : Measured) → AreOfProblem problem found → AreMeasured (plain_problem problem) found
are_measured problem found theirs =
    let case = plain_problem problem in
    let n = slot_count case.first case.last in
    record {
      shells = case_shells case problem.tracks n found.shells.items found.boxes refl theirs;
      boxes = case_boxes case problem.tracks n found.shells.items found.boxes refl refl theirs;
      slots = theirs.slots;
    }

pub all_measured : (problem : Problem) (result : Result Measured AllocError) → IfOk result (AreOfProblem problem) → IfOk result (AreMeasured (plain_problem problem))
all_measured problem (Err e) none = tt
all_measured problem (Ok found) theirs = are_measured problem found theirs
