-- The roots of a slot, pair by pair.
use Rattle.std.proofs.Common.{◌≡◌, ℕ, ◌+◌, ◌-◌, ◌<◌, List, [], ◌∷◌, ◌++◌, map, length, take, drop, get_or, refl, sym, ap, subst, ◌∙◌, arith, append-nil}
use Rattle.std.specs.List.{range_with_len}
use Rattle.std.proofs.lemmas.List.{take_more, map_push, map-append, take-append-drop, drop_more}
use Rattle.std.proofs.lemmas.List.Concat.{flat_map-append}
use Rattle.cj_track.specs.declared.track.Track.{Track}
use Rattle.cj_track.specs.Tracks.{plain_track}
use Rattle.cj_case.specs.declared.problem.Problem.{Problem}
use Rattle.cj_case.specs.declared.pair.Pair.{Pair}
use Rattle.cj_case.specs.PlainProblems.{PlainProblem}
use Rattle.cj_case.specs.Problems.{plain_problem}
use Rattle.cj_case.specs.Slots.{slot_first, slot_last}
use Rattle.cj_hermite.specs.CommonRuns.{runs_over, runs_between, both, both_numbers}
use Rattle.cj_case.specs.Pairs.{objects_of}
use Rattle.cj_case.specs.Cells.{PlainCell}
use Rattle.cj_hermite.specs.Roots.{KeepPieces, numbers_at, root_of_run, roots_between, roots_in, roots_in_slot}
use Rattle.cj_interval.proofs.ListLemmas.{Each, Each-weaker, Each-always, Each-flat_map}
use Rattle.cj_hermite.proofs.RootLemmas.{IsRoot, Each-between}
use Rattle.cj_hermite.proofs.TrackLemmas.{number_of_track}

-- the roots of two tracks, as they are read
roots_of_tracks : (p : Problem) (ts : List Track) (a b first last : ℕ) (d d' : Track) → ts ≡ p.tracks → a < length p.tracks → b < length p.tracks →
    map (root_of_run a b) (runs_between (both_numbers (plain_track (get_or ts a d)) (plain_track (get_or ts b d'))) first last) ≡ roots_between (plain_problem p) a b first last
unfolding roots_between
roots_of_tracks p ts a b first last d d' same in_a in_b =
    ap (λ (xs : List Track). map (root_of_run a b) (runs_between (both_numbers (plain_track (get_or xs a d)) (plain_track (get_or xs b d'))) first last)) same
    ∙ sym (ap (λ label. map (root_of_run a b) (runs_between label first last)) (λ i m. both (number_of_track p a m d in_a i) (number_of_track p b m d' in_b i)))

pub walked : (p : Problem) (slot : ℕ) (ts : List Track) (a b first last : ℕ) (x y : Track) → ts ≡ p.tracks → x ≡ get_or ts a x → y ≡ get_or ts b y → a < b → b < length p.tracks →
    first ≡ slot_first p.window.first.micros slot → last ≡ slot_last p.window.first.micros p.window.last.micros slot →
    map (root_of_run a b) (runs_between (both_numbers (plain_track x) (plain_track y)) first last) ≡ roots_in (plain_problem p) slot a b
walked p slot ts a b first last x y same is_x is_y ordered in_b is_first is_last =
    (λ i. map (root_of_run a b) (runs_between (both_numbers (plain_track (is_x i)) (plain_track (is_y i))) first last))
    ∙ roots_of_tracks p ts a b first last x y same (omega arith) in_b
    ∙ (λ i. roots_between (plain_problem p) a b (is_first i) (is_last i))

-- a slot without ticks has no roots
pub no_roots : (case : PlainProblem) (a b first last : ℕ) → last < first → roots_between case a b first last ≡ []
unfolding roots_between runs_between
no_roots case a b first last empty =
    let n : last + 1 - first ≡ 0 = omega arith in
    ap (λ (k : ℕ). map (root_of_run a b) (runs_over (numbers_at case a b) (range_with_len first k))) n

pub empty_slot : (case : PlainProblem) (slot : ℕ) (pairs : List (ℕ × ℕ)) → slot_last case.first case.last slot < slot_first case.first slot → roots_in_slot case slot pairs ≡ []
empty_slot case slot [] empty = refl
empty_slot case slot (pair ∷ pairs) empty =
    ap (λ rs. rs ++ roots_in_slot case slot pairs) (no_roots case pair.0 pair.1 (slot_first case.first slot) (slot_last case.first case.last slot) empty) ∙ empty_slot case slot pairs empty

-- ---- one pair more

abbrev pub roots_of_pairs : PlainProblem → ℕ → List Pair → List PlainCell
roots_of_pairs case slot pairs = roots_in_slot case slot (map objects_of pairs)

pub pair_more : (case : PlainProblem) (slot i : ℕ) (pairs : List Pair) (p : Pair) → i < length pairs → p ≡ get_or pairs i p →
    roots_of_pairs case slot (take (i + 1) pairs) ≡ roots_of_pairs case slot (take i pairs) ++ roots_in case slot p.a p.b
pair_more case slot i pairs p lt is =
    ap (roots_of_pairs case slot) (take_more pairs i p lt)
    ∙ ap (roots_in_slot case slot) (map_push objects_of (take i pairs) (get_or pairs i p))
    ∙ flat_map-append (λ (pair : ℕ × ℕ). roots_in case slot pair.0 pair.1) (map objects_of (take i pairs)) (objects_of (get_or pairs i p) ∷ [])
    ∙ ap (λ rs. roots_of_pairs case slot (take i pairs) ++ rs) (append-nil (roots_in case slot (get_or pairs i p).a (get_or pairs i p).b))
    ∙ ap (λ (q : Pair). roots_of_pairs case slot (take i pairs) ++ roots_in case slot q.a q.b) (sym is)

pub pairs_apart : (case : PlainProblem) (slot i : ℕ) (pairs : List Pair) (p : Pair) → i < length pairs → p ≡ get_or pairs i p →
    roots_of_pairs case slot pairs ≡ roots_of_pairs case slot (take i pairs) ++ (roots_in case slot p.a p.b ++ roots_of_pairs case slot (drop (i + 1) pairs))
pairs_apart case slot i pairs p lt is =
    ap (roots_of_pairs case slot) (sym (take-append-drop i pairs) ∙ ap (λ ps. take i pairs ++ ps) (drop_more pairs i p lt))
    ∙ ap (roots_in_slot case slot) (map-append objects_of (take i pairs) (get_or pairs i p ∷ drop (i + 1) pairs))
    ∙ flat_map-append (λ (pair : ℕ × ℕ). roots_in case slot pair.0 pair.1) (map objects_of (take i pairs)) (map objects_of (get_or pairs i p ∷ drop (i + 1) pairs))
    ∙ ap (λ (q : Pair). roots_of_pairs case slot (take i pairs) ++ (roots_in case slot q.a q.b ++ roots_of_pairs case slot (drop (i + 1) pairs))) (sym is)

-- ---- each keeps its pieces

abbrev pub Keeps : PlainProblem → PlainCell → Type 0
Keeps case r = KeepPieces case r.a r.b r.first r.last

pub each_keeps : (case : PlainProblem) (slot : ℕ) (pairs : List (ℕ × ℕ)) → Each (Keeps case) (roots_in_slot case slot pairs)
each_keeps case slot pairs =
    Each-flat_map (Keeps case) (λ (pair : ℕ × ℕ). roots_in case slot pair.0 pair.1) pairs
    (Each-always (λ (pair : ℕ × ℕ). Each (Keeps case) (roots_in case slot pair.0 pair.1))
    (λ pair. Each-weaker (IsRoot case pair.0 pair.1 (slot_first case.first slot) (slot_last case.first case.last slot)) (Keeps case) (λ r is. kept r pair is) (roots_in case slot pair.0 pair.1)
    (Each-between case pair.0 pair.1 (slot_first case.first slot) (slot_last case.first case.last slot))) pairs)
  where
    kept : (r : PlainCell) (pair : ℕ × ℕ) → IsRoot case pair.0 pair.1 (slot_first case.first slot) (slot_last case.first case.last slot) r → Keeps case r
    kept r pair is =
        subst (λ (a : ℕ). KeepPieces case a r.b r.first r.last) (sym is.first_object)
        (subst (λ (b : ℕ). KeepPieces case pair.0 b r.first r.last) (sym is.second_object) (record { same = is.same; nodes = is.labelled }))
