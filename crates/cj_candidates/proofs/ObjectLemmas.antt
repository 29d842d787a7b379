-- Shells and boxes, object by object, and what they say.
use Rattle.std.proofs.Common.{◌≡◌, ℕ, zero, suc, ◌+◌, ◌<◌, ◌≤◌, ◌++◌, ◌&&◌, Bool, true, false, cond, List, [], ◌∷◌, length, get_or, map, take, filter, Option, Some, None, refl, sym, ap, subst, ◌∙◌, arith}
use Rattle.std.specs.Prelude.{All, IfSome, IfNone, option_map, option_and_then, slice_get}
use Rattle.std.proofs.lemmas.List.{take_more, map-append, length-map}
use Rattle.std.proofs.lemmas.List.Elements.{All-push, All-same, filter_agree}
use Rattle.cj_interval.proofs.ListLemmas.{Each, Each-weaker, All-from_each, each_from_All, each_from_map}
use Rattle.cj_base.specs.declared.tick.Window.{Window}
use Rattle.cj_track.specs.declared.track.Track.{Track}
use Rattle.cj_track.specs.PlainTracks.{PlainTrack}
use Rattle.cj_track.specs.Tracks.{plain_track}
use Rattle.cj_case.specs.declared.pair.Pair.{Pair}
use Rattle.cj_case.specs.PlainProblems.{PlainProblem}
use Rattle.cj_case.specs.Pairs.{objects_of, pairs_of}
use Rattle.cj_hermite.specs.Pieces.{piece_holding, curve_of_piece}
use Rattle.cj_case.specs.Slots.{slot_count, slot_first, slot_last}
use Rattle.cj_hermite.specs.Walks.{HasNone}
use Rattle.cj_case.proofs.PairLemmas.{IsPair, Each-pairs}
use Rattle.cj_case.specs.declared.axis_box.AxisBox.{AxisBox}
use Rattle.cj_case.specs.declared.shells.Shell.{Shell}
use Rattle.cj_bezier.specs.Shells.{IsRadiusWithin, keeps_between, shell_of}
use Rattle.cj_case.specs.Boxes.{PlainBox, plain_boxes, plain_box}
use Rattle.cj_bezier.specs.SlotBoxes.{IsPlaceIn, box_of, touch_between}
use Rattle.cj_bezier.specs.Candidates.{boxes_in, is_kept, is_touching, is_candidate, pairs_kept, shells_of}
use Rattle.cj_bezier.specs.Enclosed.{AreInBoxes, AreInShells, IsInBox, IsInShell}
use Rattle.cj_candidates.specs.SoughtPairs.{candidates_of}
use Rattle.cj_candidates.specs.MeasuredObjects.{IsInOwnShell, IsInOwnBox, IsInOwnBoxes}

-- the first so many objects
abbrev pub objects_to : ℕ → List Track → List PlainTrack
objects_to i tracks = map plain_track (take i tracks)

pub one_more : (i : ℕ) (tracks : List Track) (t : Track) → i < length tracks → t ≡ get_or tracks i t → objects_to (i + 1) tracks ≡ objects_to i tracks ++ plain_track t ∷ []
one_more i tracks t lt is =
    ap (λ (ts : List Track). map plain_track ts) (take_more tracks i t lt) ∙ map-append plain_track (take i tracks) (get_or tracks i t ∷ [])
    ∙ ap (λ (x : Track). objects_to i tracks ++ plain_track x ∷ []) (sym is)

-- what is made of each object
pub made_more : {A : Type 0} (f : PlainTrack → A) (i : ℕ) (tracks : List Track) (t : Track) (old new : List A) (x : A) → i < length tracks → t ≡ get_or tracks i t
    → old ≡ map f (objects_to i tracks) → new ≡ old ++ x ∷ [] → x ≡ f (plain_track t) → new ≡ map f (objects_to (i + 1) tracks)
made_more f i tracks t old new x lt is before added made =
    added ∙ ap (λ xs. xs ++ x ∷ []) before ∙ ap (λ y. map f (objects_to i tracks) ++ y ∷ []) made
    ∙ sym (ap (map f) (one_more i tracks t lt is) ∙ map-append f (objects_to i tracks) (plain_track t ∷ []))

-- what holds of each object
pub held_more : (P : PlainTrack → Type 0) (i : ℕ) (tracks : List Track) (t : Track) → i < length tracks → t ≡ get_or tracks i t → All P (objects_to i tracks) → P (plain_track t)
    → All P (objects_to (i + 1) tracks)
held_more P i tracks t lt is all here =
    All-same P (objects_to (i + 1) tracks) (objects_to i tracks ++ plain_track t ∷ []) (one_more i tracks t lt is) (All-push P (objects_to i tracks) (plain_track t) all here)

held_at : (P : PlainTrack → Type 0) (es : List PlainTrack) (i : ℕ) (e : PlainTrack) → All P es → slice_get es i ≡ Some e → P e
held_at P [] i e all is = absurd cc
held_at P (x ∷ es) zero e all is = let same : x ≡ e = cc in subst P same (all 0 x (omega arith))
held_at P (x ∷ es) (suc i) e all is = held_at P es i e (λ k d lt. all (suc k) d (omega arith)) is

made_at : {A : Type 0} (f : PlainTrack → Option A) (es : List PlainTrack) (i : ℕ) (e : PlainTrack) → slice_get es i ≡ Some e → f e ≡ option_and_then (λ x. x) (slice_get (map f es) i)
made_at f [] i e is = absurd cc
made_at f (x ∷ es) zero e is = let same : e ≡ x = cc in ap f same
made_at f (x ∷ es) (suc i) e is = made_at f es i e is

-- ---- shells

in_shell : (e : PlainTrack) (from to : ℕ) (found : Option Shell) → IfNone found (HasNone e from to)
    → IfSome found (λ s. (m : ℕ) → from ≤ m → m ≤ to → IfSome (piece_holding e m) (λ x. IsRadiusWithin (curve_of_piece x) m s.lo s.hi)) → IsInShell from to e found
in_shell e from to None none holds = record { none = λ is. none; holds = λ s is. absurd cc }
in_shell e from to (Some t) none holds = record {
  none = λ is. absurd cc;
  holds = λ s is.
      let same : t ≡ s = cc in
      subst (λ (u : Shell). (m : ℕ) → from ≤ m → m ≤ to → IfSome (piece_holding e m) (λ x. IsRadiusWithin (curve_of_piece x) m u.lo u.hi)) same holds;
}

-- a shell that was found
pub in_own_shell : (e : PlainTrack) (from to : ℕ) (found : Option Shell) → found ≡ shell_of e from to → IfNone found (HasNone e from to)
    → IfSome found (λ s. (m : ℕ) → from ≤ m → m ≤ to → IfSome (piece_holding e m) (λ x. IsRadiusWithin (curve_of_piece x) m s.lo s.hi)) → IsInOwnShell from to e
in_own_shell e from to found exact none holds = subst (λ (s : Option Shell). IsInShell from to e s) exact (in_shell e from to found none holds)

-- what holds of a track in a window holds of the same track in the same window
pub same_for : (P : Track → Window → Type 0) (t u : Track) (v w : Window) → t ≡ u → v ≡ w → P t v → P u w
same_for P t u v w track window holds = subst (P u) window (subst (λ (x : Track). P x v) track holds)

pub in_shells : (case : PlainProblem) → All (IsInOwnShell case.first case.last) case.tracks → AreInShells case (shells_of case)
unfolding shells_of
in_shells case all i e is =
    subst (λ (s : Option Shell). IsInShell case.first case.last e s) (made_at (λ z. shell_of z case.first case.last) case.tracks i e is)
    (held_at (IsInOwnShell case.first case.last) case.tracks i e all is)

-- ---- boxes

in_box : (e : PlainTrack) (from to : ℕ) (found : Option PlainBox) → IfNone found (HasNone e from to)
    → IfSome found (λ r. (m : ℕ) → from ≤ m → m ≤ to → IfSome (piece_holding e m) (λ x. IsPlaceIn (curve_of_piece x) m r)) → IsInBox from to e found
in_box e from to None none holds = record { none = λ is. none; holds = λ r is. absurd cc }
in_box e from to (Some t) none holds = record {
  none = λ is. absurd cc;
  holds = λ r is.
      let same : t ≡ r = cc in
      subst (λ (u : PlainBox). (m : ℕ) → from ≤ m → m ≤ to → IfSome (piece_holding e m) (λ x. IsPlaceIn (curve_of_piece x) m u)) same holds;
}

-- a box that was found
pub in_own_box : (e : PlainTrack) (from to : ℕ) (found : Option AxisBox) → option_map plain_box found ≡ box_of e from to → IfNone found (HasNone e from to)
    → IfSome found (λ area. (m : ℕ) → from ≤ m → m ≤ to → IfSome (piece_holding e m) (λ x. IsPlaceIn (curve_of_piece x) m (plain_box area))) → IsInOwnBox from to e
in_own_box e from to None exact none holds = subst (λ (r : Option PlainBox). IsInBox from to e r) exact (in_box e from to None none tt)
in_own_box e from to (Some area) exact none holds = subst (λ (r : Option PlainBox). IsInBox from to e r) exact (in_box e from to (Some (plain_box area)) tt holds)

pub in_boxes : (case : PlainProblem) → All (IsInOwnBoxes case.first case.last (slot_count case.first case.last)) case.tracks → AreInBoxes case (boxes_in case)
unfolding boxes_in
in_boxes case all slot i e lt is =
    subst (λ (r : Option PlainBox). IsInBox (slot_first case.first slot) (slot_last case.first case.last slot) e r)
    (made_at (λ z. box_of z (slot_first case.first slot) (slot_last case.first case.last slot)) case.tracks i e is)
    (held_at (IsInOwnBoxes case.first case.last (slot_count case.first case.last)) case.tracks i e all is slot lt)

-- ---- pairs that pass two tests

pub filter_both : (p q : ℕ × ℕ → Bool) (ps : List (ℕ × ℕ)) → filter q (filter p ps) ≡ filter (λ pair. p pair && q pair) ps
filter_both p q [] = refl
filter_both p q (pair ∷ ps) = go (filter_both p q ps) (p pair)
  where
    go : filter q (filter p ps) ≡ filter (λ pair. p pair && q pair) ps → (b : Bool)
        → filter q (cond b (pair ∷ filter p ps) (filter p ps)) ≡ cond (b && q pair) (pair ∷ filter (λ pair. p pair && q pair) ps) (filter (λ pair. p pair && q pair) ps)
    go rest true = ap (λ (xs : List (ℕ × ℕ)). cond (q pair) (pair ∷ xs) xs) rest
    go rest false = rest

both_orders : (a b : Bool) → (a && b) ≡ (b && a)
both_orders true true = refl
both_orders true false = refl
both_orders false true = refl
both_orders false false = refl

-- the candidates of a slot: of those that touch the ones that are kept
pub candidates_are : (case : PlainProblem) (sought : List (ℕ × ℕ)) (slot : ℕ) (found touching : List (ℕ × ℕ)) (shells : List (Option Shell)) (sizes : List ℕ)
    → shells ≡ shells_of case → sizes ≡ case.sizes
    → touching ≡ filter (is_touching case slot) sought → found ≡ filter (keeps_between case.primaries case.threshold sizes shells) touching → found ≡ candidates_of case sought slot
unfolding is_candidate
candidates_are case sought slot found touching shells sizes in_shells sized near kept =
    kept ∙ ap (filter (keeps_between case.primaries case.threshold sizes shells)) near
    ∙ (λ i. filter (keeps_between case.primaries case.threshold (sized i) (in_shells i)) (filter (is_touching case slot) sought))
    ∙ filter_both (is_touching case slot) (is_kept case) sought
    ∙ filter_agree (λ pair. is_touching case slot pair && is_kept case pair) (λ pair. is_kept case pair && is_touching case slot pair) (λ pair. both_orders (is_touching case slot pair) (is_kept case pair)) sought

-- those that touch, by whatever stands for sizes and boxes
pub touching_are : (case : PlainProblem) (slot : ℕ) (found sought some : List (ℕ × ℕ)) (boxes : List (Option PlainBox)) (sizes : List ℕ)
    → some ≡ sought → boxes ≡ boxes_in case slot → sizes ≡ case.sizes
    → found ≡ filter (touch_between case.threshold sizes boxes) some → found ≡ filter (is_touching case slot) sought
touching_are case slot found sought some boxes sizes same in_boxes sized near =
    near ∙ (λ i. filter (touch_between case.threshold (sized i) (in_boxes i)) (same i))

pub each_filtered : (P : ℕ × ℕ → Type 0) (p : ℕ × ℕ → Bool) (ps : List (ℕ × ℕ)) → Each P ps → Each P (filter p ps)
each_filtered P p [] e = tt
each_filtered P p (pair ∷ ps) e = go (each_filtered P p ps e.1) (p pair)
  where
    go : Each P (filter p ps) → (b : Bool) → Each P (cond b (pair ∷ filter p ps) (filter p ps))
    go rest true = (e.0, rest)
    go rest false = rest

-- of pairs of existing objects those that pass a test
pub passing_exist : (p : ℕ × ℕ → Bool) (n : ℕ) (some : List (ℕ × ℕ)) (pairs : List Pair) → All (λ pair. pair.1 < n) some → map objects_of pairs ≡ filter p some → All (λ pair. pair.b < n) pairs
passing_exist p n some pairs exist same =
    All-from_each (λ pair. pair.b < n) pairs
    (each_from_map (λ (q : ℕ × ℕ). q.1 < n) objects_of pairs
    (subst (Each (λ (q : ℕ × ℕ). q.1 < n)) (sym same)
    (each_filtered (λ (q : ℕ × ℕ). q.1 < n) p some (each_from_All (λ (q : ℕ × ℕ). q.1 < n) some exist))))

-- the pairs of a list are of existing objects
pub unlisted_exist : (n : ℕ) (pairs : List Pair) → All (λ pair. pair.1 < n) (map objects_of pairs) → All (λ pair. pair.b < n) pairs
unlisted_exist n pairs exist = All-from_each (λ pair. pair.b < n) pairs (each_from_map (λ (q : ℕ × ℕ). q.1 < n) objects_of pairs (each_from_All (λ (q : ℕ × ℕ). q.1 < n) (map objects_of pairs) exist))

-- the pairs that pass a test are of existing objects
pub pairs_within : (p : ℕ × ℕ → Bool) (n : ℕ) (pairs : List Pair) → map objects_of pairs ≡ filter p (pairs_of n) → All (λ pair. pair.b < n) pairs
pairs_within p n pairs same =
    All-from_each (λ pair. pair.b < n) pairs
    (each_from_map (λ (q : ℕ × ℕ). q.1 < n) objects_of pairs
    (subst (Each (λ (q : ℕ × ℕ). q.1 < n)) (sym same)
    (each_filtered (λ (q : ℕ × ℕ). q.1 < n) p (pairs_of n)
    (Each-weaker (IsPair n) (λ (q : ℕ × ℕ). q.1 < n) (λ q is. is.exists) (pairs_of n) (Each-pairs n)))))

-- there is a shell and a box for each object
pub as_many_shells : (case : PlainProblem) (shells : List (Option Shell)) → shells ≡ shells_of case → length shells ≡ length case.tracks
unfolding shells_of
as_many_shells case shells same = ap (λ (xs : List (Option Shell)). length xs) same ∙ length-map case.tracks (λ e. shell_of e case.first case.last)

pub as_many_boxes : (case : PlainProblem) (slot : ℕ) (boxes : List (Option AxisBox)) → plain_boxes boxes ≡ boxes_in case slot → length boxes ≡ length case.tracks
unfolding boxes_in
as_many_boxes case slot boxes same =
    sym (length-map boxes (option_map plain_box)) ∙ ap (λ (xs : List (Option PlainBox)). length xs) same
    ∙ length-map case.tracks (λ e. box_of e (slot_first case.first slot) (slot_last case.first case.last slot))

-- the pairs that are kept
pub kept_is : (case : PlainProblem) (shells : List (Option Shell)) (sizes : List ℕ) → shells ≡ shells_of case → sizes ≡ case.sizes
    → filter (keeps_between case.primaries case.threshold sizes shells) (pairs_of (length shells)) ≡ pairs_kept case
kept_is case shells sizes same sized =
    ap (λ (n : ℕ). filter (keeps_between case.primaries case.threshold sizes shells) (pairs_of n)) (as_many_shells case shells same)
    ∙ ap (λ (ss : List (Option Shell)). filter (keeps_between case.primaries case.threshold sizes ss) (pairs_of (length case.tracks))) same
    ∙ ap (λ (ss : List ℕ). filter (keeps_between case.primaries case.threshold ss (shells_of case)) (pairs_of (length case.tracks))) sized
