-- Runs of slots: one slot more, and runs with those behind them.
use Rattle.std.proofs.Common.{◌≡◌, ℕ, ◌+◌, ◌-◌, ◌*◌, ◌<◌, ◌≤◌, ◌++◌, List, [], ◌∷◌, Vec, Global, length, map, take, drop, Bool, true, false, get_or, vec_len, ◌&&◌, refl, sym, ap, subst, ◌∙◌, arith, append-nil, append_assoc, length-append}
use Rattle.std.specs.Prelude.{All, Result, Ok, Err, IfOk, OnOk}
use Rattle.std.specs.List.{AllPairs, flat_map, list_all, range_with_len, sum_by}
use Rattle.std.specs.List.Sorted.{IsPermutation}
use Rattle.std.proofs.lemmas.List.{length-take, map-append, take-append-drop, take_more}
use Rattle.std.proofs.lemmas.List.Concat.{flat_map-append}
use Rattle.std.proofs.lemmas.List.Folds.{length-flat_map-take}
use Rattle.std.proofs.lemmas.List.FromFn.{get_or-range_with_len, length-range_with_len}
use Rattle.std.proofs.lemmas.List.Sorted.{IsPermutation-append, IsPermutation-map, IsPermutation-refl, IsPermutation-trans, length_permutation}
use Rattle.std.proofs.lemmas.List.Sums.{sum_by-append, sum_by-cons, sum_by-le, sum_by_more}
use Rattle.cj_interval.proofs.RangeLemmas.{range_cut}
use Rattle.cj_threads.proofs.RunLemmas.{pushed}
use Rattle.cj_case.specs.PlainProblems.{PlainProblem}
use Rattle.cj_case.specs.declared.pair.Pair.{Pair}
use Rattle.cj_case.specs.Pairs.{objects_of, pairs_of}
use Rattle.cj_case.specs.Cells.{PlainCell, IsRootUpTo}
use Rattle.cj_hermite.specs.Roots.{roots_in, roots_in_slot}
use Rattle.cj_case.specs.declared.cell.Cell.{Cell}
use Rattle.cj_case.specs.Cells.{plain_cell, plain_cells}
use Rattle.cj_cells.specs.Cells.{added_roots}
use Rattle.cj_cells.proofs.WalkLemmas.{added_count, added_twice}
use Rattle.cj_candidates.specs.declared.slot_run.SlotRun.{SlotRun}
use Rattle.cj_candidates.specs.declared.slot_run.ThreadRun.{ThreadRun}
use Rattle.cj_candidates.specs.SlotRuns.{roots_at, roots_over, roots_listed, candidates_at, candidates_over, candidates_counted, AreFoundIn, AreWhole, IsFound, IsFoundIn}
use Rattle.cj_candidates.specs.SoughtPairs.{candidates_of}
use Rattle.cj_candidates.proofs.CountLemmas.{candidates_few}

pub roots_both : (case : PlainProblem) (sought : List (ℕ × ℕ)) (from a b : ℕ) → roots_over case sought from (a + b) ≡ roots_over case sought from a ++ roots_over case sought (from + a) b
roots_both case sought from a b =
    let f = λ (slot : ℕ). roots_in_slot case slot (candidates_of case sought slot) in
    ap (flat_map f) (range_cut from a b) ∙ flat_map-append f (range_with_len from a) (range_with_len (from + a) b)

pub candidates_both : (case : PlainProblem) (sought : List (ℕ × ℕ)) (from a b : ℕ) → candidates_over case sought from (a + b) ≡ candidates_over case sought from a + candidates_over case sought (from + a) b
candidates_both case sought from a b =
    let f = λ (slot : ℕ). length (candidates_of case sought slot) in
    ap (sum_by f) (range_cut from a b) ∙ sum_by-append f (range_with_len from a) (range_with_len (from + a) b)

-- ---- one slot more

pub roots_of_one : (case : PlainProblem) (sought : List (ℕ × ℕ)) (slot : ℕ) → roots_over case sought slot 1 ≡ roots_in_slot case slot (candidates_of case sought slot)
roots_of_one case sought slot = append-nil (roots_in_slot case slot (candidates_of case sought slot))

pub candidates_of_one : (case : PlainProblem) (sought : List (ℕ × ℕ)) (slot : ℕ) → candidates_over case sought slot 1 ≡ length (candidates_of case sought slot)
candidates_of_one case sought slot =
    let f = λ (k : ℕ). length (candidates_of case sought k) in
    sum_by-cons f slot [] ∙ (omega arith)

pub slots_more : (case : PlainProblem) (sought : List (ℕ × ℕ)) (from slot : ℕ) → from ≤ slot → roots_over case sought from (slot + 1 - from) ≡ roots_over case sought from (slot - from) ++ roots_in_slot case slot (candidates_of case sought slot)
slots_more case sought from slot le =
    let count : slot + 1 - from ≡ (slot - from) + 1 = omega arith in
    let at : from + (slot - from) ≡ slot = omega arith in
    ap (λ (n : ℕ). roots_over case sought from n) count ∙ roots_both case sought from (slot - from) 1
    ∙ ap (λ rs. roots_over case sought from (slot - from) ++ rs) (ap (λ (k : ℕ). roots_over case sought k 1) at ∙ roots_of_one case sought slot)

pub counts_more : (case : PlainProblem) (sought : List (ℕ × ℕ)) (from slot : ℕ) → from ≤ slot → candidates_over case sought from (slot + 1 - from) ≡ candidates_over case sought from (slot - from) + length (candidates_of case sought slot)
counts_more case sought from slot le =
    let count : slot + 1 - from ≡ (slot - from) + 1 = omega arith in
    let at : from + (slot - from) ≡ slot = omega arith in
    ap (λ (n : ℕ). candidates_over case sought from n) count ∙ candidates_both case sought from (slot - from) 1
    ∙ ap (λ n. candidates_over case sought from (slot - from) + n) (ap (λ (k : ℕ). candidates_over case sought k 1) at ∙ candidates_of_one case sought slot)

-- up to a slot and in it there are no more roots than in all
pub roots_upto : (case : PlainProblem) (sought : List (ℕ × ℕ)) (from slot count : ℕ) → from ≤ slot → slot < from + count
    → length (roots_over case sought from (slot - from)) + length (roots_in_slot case slot (candidates_of case sought slot)) ≤ length (roots_over case sought from count)
roots_upto case sought from slot count le lt =
    let all : count ≡ (slot + 1 - from) + (from + count - (slot + 1)) = omega arith in
    let whole = ap length (ap (λ (n : ℕ). roots_over case sought from n) all ∙ roots_both case sought from (slot + 1 - from) (from + count - (slot + 1))) in
    let more = ap length (slots_more case sought from slot le) in
    omega (
      arith,
      whole,
      more,
      length-append (roots_over case sought from (slot + 1 - from)) (roots_over case sought (from + (slot + 1 - from)) (from + count - (slot + 1))),
      length-append (roots_over case sought from (slot - from)) (roots_in_slot case slot (candidates_of case sought slot)),
    )

-- so many slots from one on are below the end
pub below : (from count slots : ℕ) → from + count ≤ slots → All (λ slot. slot < slots) (range_with_len from count)
below from count slots le = λ k d lt.
    let size = length-range_with_len from count in
    omega (arith, le, lt, size, get_or-range_with_len from count k d (omega (arith, lt, size)))

-- ---- the first of some slots, and the next

pub roots_more : (case : PlainProblem) (sought : List (ℕ × ℕ)) (slots : List ℕ) (i d : ℕ) → i < length slots
    → roots_at case sought (take (i + 1) slots) ≡ roots_at case sought (take i slots) ++ roots_in_slot case (get_or slots i d) (candidates_of case sought (get_or slots i d))
roots_more case sought slots i d lt =
    ap (roots_at case sought) (take_more slots i d lt) ∙ pushed (λ (k : ℕ). roots_in_slot case k (candidates_of case sought k)) (take i slots) (get_or slots i d)

pub candidates_more : (case : PlainProblem) (sought : List (ℕ × ℕ)) (slots : List ℕ) (i d : ℕ) → i < length slots
    → candidates_at case sought (take (i + 1) slots) ≡ candidates_at case sought (take i slots) + length (candidates_of case sought (get_or slots i d))
candidates_more case sought slots i d lt = sum_by_more (λ (k : ℕ). length (candidates_of case sought k)) slots i d lt

-- there they have no more roots than all
pub roots_within : (case : PlainProblem) (sought : List (ℕ × ℕ)) (slots : List ℕ) (i d : ℕ) → i < length slots
    → length (roots_at case sought (take i slots)) + length (roots_in_slot case (get_or slots i d) (candidates_of case sought (get_or slots i d)))
    ≤ length (roots_at case sought slots)
roots_within case sought slots i d lt = length-flat_map-take (λ (k : ℕ). roots_in_slot case k (candidates_of case sought k)) slots i d lt

-- ---- what threads have found in some slots

-- in none
pub none_found : (case : PlainProblem) (sought : List (ℕ × ℕ)) → AreFoundIn case sought [] []
none_found case sought = record { few = omega arith; roots = λ _. IsPermutation-refl []; touching = λ _. refl }

both_are : (a b : Bool) → (a && b) ≡ true → (a ≡ true) × (b ≡ true)
both_are true b is = (refl, is)
both_are false b is = let e : false ≡ true = is in absurd cc

-- one of them in some slots, and others in those behind them
pub both_found : (case : PlainProblem) (sought : List (ℕ × ℕ)) (some others : List ℕ) (run : ThreadRun) (runs : List ThreadRun) → IsFoundIn case sought some run → AreFoundIn case sought others runs
    → AreFoundIn case sought (some ++ others) (run ∷ runs)
both_found case sought some others run runs one rest =
    let f = λ (slot : ℕ). roots_in_slot case slot (candidates_of case sought slot) in
    let g = λ (slot : ℕ). length (candidates_of case sought slot) in
    let first = run.roots.items in
    let behind = roots_listed runs in
    let both : roots_at case sought (some ++ others) ≡ roots_at case sought some ++ roots_at case sought others = flat_map-append f some others in
    record {
      few = omega (
        arith,
        one.few,
        rest.few,
        ap length both,
        length-append (roots_at case sought some) (roots_at case sought others),
        length-append first behind,
      );
      roots = λ whole.
          let each = both_are run.whole (list_all (λ (r : ThreadRun). r.whole) runs) whole in
          subst (λ (rs : List PlainCell). IsPermutation rs (plain_cells (first ++ behind))) (sym both)
          (subst (λ (rs : List PlainCell). IsPermutation (roots_at case sought some ++ roots_at case sought others) rs) (sym (map-append plain_cell first behind))
          (IsPermutation-append (roots_at case sought some) (plain_cells first) (roots_at case sought others) (plain_cells behind) (one.roots each.0) (rest.roots each.1)));
      touching = λ whole.
          let each = both_are run.whole (list_all (λ (r : ThreadRun). r.whole) runs) whole in
          let here = one.touching each.0 in
          let there = rest.touching each.1 in
          omega (arith, here, there, sum_by-cons (λ (r : ThreadRun). r.touching) run runs, sum_by-append g some others);
    }

-- the lists so far and the roots of the runs that are left, when one list more is made
pub list_more : (lists new : List (Vec Cell Global)) (run : ThreadRun) (left rest : List ThreadRun) (all : List Cell)
    → new ≡ lists ++ run.roots ∷ [] → left ≡ run ∷ rest
    → flat_map (λ list. list.items) lists ++ roots_listed left ≡ all → flat_map (λ list. list.items) new ++ roots_listed rest ≡ all
list_more lists new run left rest all grown first so_far =
    let items = λ (list : Vec Cell Global). list.items in
    ap (λ (ls : List (Vec Cell Global)). flat_map items ls ++ roots_listed rest) grown
    ∙ ap (λ (cs : List Cell). cs ++ roots_listed rest) (pushed items lists run.roots)
    ∙ append_assoc (flat_map items lists) run.roots.items (roots_listed rest)
    ∙ ap (λ (rs : List ThreadRun). flat_map items lists ++ roots_listed rs) (sym first) ∙ so_far

-- ---- some pairs of a slot, and those behind them

abbrev pub roots_with : PlainProblem → ℕ → List Pair → List PlainCell
roots_with case slot pairs = roots_in_slot case slot (map objects_of pairs)

pub pairs_apart : (case : PlainProblem) (slot n : ℕ) (pairs : List Pair) → roots_with case slot pairs ≡ roots_with case slot (take n pairs) ++ roots_with case slot (drop n pairs)
pairs_apart case slot n pairs =
    ap (roots_with case slot) (sym (take-append-drop n pairs))
    ∙ ap (roots_in_slot case slot) (map-append objects_of (take n pairs) (drop n pairs))
    ∙ flat_map-append (λ (pair : ℕ × ℕ). roots_in case slot pair.0 pair.1) (map objects_of (take n pairs)) (map objects_of (drop n pairs))

-- a list of cells to which some of these roots were added
pub grown : (old new : List Cell) (roots : List PlainCell) → take (length old) new ≡ old → added_roots old new ≡ take (length (added_roots old new)) roots
    → length new ≤ length old + length roots
grown old new roots kept some = omega (arith, added_count old new kept, ap length some, length-take (length (added_roots old new)) roots)

pub grown_by : (old new : List Cell) (roots : List PlainCell) → take (length old) new ≡ old → added_roots old new ≡ roots → length new ≡ length old + length roots
grown_by old new roots kept all = sym (added_count old new kept) ∙ ap (λ (rs : List PlainCell). length old + length rs) all

-- what holds anyway holds where a call succeeded
pub on_ok : {A E : Type 0} (r : Result A E) (P : Type 0) → P → OnOk r P
on_ok (Ok x) P p = p
on_ok (Err e) P p = tt

-- what was stopped is not whole
pub not_whole : {E : Type 0} (r : Result Bool E) (P : Type 0) → IfOk r (λ whole. whole ≡ false) → IfOk r (λ whole. whole ≡ true → P)
not_whole (Ok whole) P is = λ yes. let e : true ≡ false = sym yes ∙ is in absurd cc
not_whole (Err e) P is = tt

-- they were added before and are added now
pub added_before : (old mid new : List Cell) (now rest whole : List PlainCell) → take (length old) mid ≡ old → take (length mid) new ≡ mid
    → added_roots mid new ≡ now → added_roots old mid ++ (now ++ rest) ≡ whole → added_roots old new ++ rest ≡ whole
added_before old mid new now rest whole kept kept' added before =
    ap (λ (rs : List PlainCell). rs ++ rest) (added_twice old mid new kept kept' ∙ ap (λ (rs : List PlainCell). added_roots old mid ++ rs) added)
    ∙ append_assoc (added_roots old mid) now rest ∙ before

-- so far there are no more than in all
pub few_so_far : (old mid new : List Cell) (now rest whole : List PlainCell) → take (length old) mid ≡ old → added_roots old mid ++ (now ++ rest) ≡ whole
    → length new ≤ length mid + length now → length new ≤ length old + length whole
few_so_far old mid new now rest whole kept before few =
    omega (
      arith,
      few,
      added_count old mid kept,
      ap length before,
      length-append (added_roots old mid) (now ++ rest),
      length-append now rest,
    )

-- ---- runs of all slots

-- the candidates are few
candidates_over_few : (case : PlainProblem) (sought : List (ℕ × ℕ)) (from count : ℕ) → length sought ≤ length (pairs_of (length case.tracks)) → length case.tracks ≤ 65_535 → candidates_over case sought from count ≤ count * 4_294_836_225
candidates_over_few case sought from count fewer few =
    subst (λ (n : ℕ). candidates_over case sought from count ≤ n * 4_294_836_225) (length-range_with_len from count)
    (sum_by-le (λ slot. length (candidates_of case sought slot)) 4_294_836_225 (range_with_len from count) (λ k d lt. candidates_few case sought (get_or (range_with_len from count) k d) fewer few))

-- what is found in runs of all slots, merged
pub all_found : (case : PlainProblem) (sought : List (ℕ × ℕ)) (from count limit : ℕ) (runs : List ThreadRun) (run : SlotRun)
    → length sought ≤ length (pairs_of (length case.tracks)) → length case.tracks ≤ 65_535 → count < 4_294_967_296
    → AreFoundIn case sought (range_with_len from count) runs → AreWhole runs → length (roots_listed runs) ≤ limit
    → IsPermutation (roots_listed runs) run.roots.items → vec_len run.roots ≡ length run.roots.items → run.touching ≡ candidates_counted runs
    → AllPairs IsRootUpTo (plain_cells run.roots.items) → IsFound case sought from count limit run
all_found case sought from count limit runs run fewer objects slots found whole few merged len touching ordered =
    let all = found.touching whole in
    record {
      roots = IsPermutation-trans (roots_over case sought from count) (plain_cells (roots_listed runs)) (plain_cells run.roots.items) (found.roots whole)
          (IsPermutation-map plain_cell (roots_listed runs) run.roots.items merged);
      ordered = ordered;
      few = omega (arith, few, len, length_permutation _ _ merged);
      touching = omega (arith, touching, all, candidates_over_few case sought from count fewer objects, slots);
    }
