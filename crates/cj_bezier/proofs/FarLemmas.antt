-- Pairs that are no candidates in a slot, by shells and boxes that hold their objects, are far at each of its common ticks.
use Rattle.std.proofs.Common.{◌≡◌, ℕ, ◌<◌, ◌≤◌, Bool, true, false, ◌&&◌, not, List, Option, Some, None, refl, sym, ap, ◌∙◌, subst}
use Rattle.std.specs.Prelude.{IfSome, IsSomeAnd, slice_get}
use Rattle.cj_track.specs.PlainTracks.{PlainTrack}
use Rattle.cj_case.specs.PlainProblems.{PlainProblem, threshold_of}
use Rattle.cj_hermite.specs.Distance.{IsFar}
use Rattle.cj_hermite.specs.Pieces.{PlainPiece, piece_holding, curve_of_piece, OfBothAt}
use Rattle.cj_case.specs.Slots.{slot_first, slot_last, slot_of}
use Rattle.cj_hermite.specs.Walks.{HasNone}
use Rattle.cj_hermite.proofs.StateLemmas.{has, lacks, state}
use Rattle.cj_case.proofs.SlotLemmas.{slot_exists, slot_begins, slot_ends}
use Rattle.cj_case.specs.declared.shells.Shell.{Shell}
use Rattle.cj_bezier.specs.Candidates.{candidate_by}
use Rattle.cj_bezier.specs.Shells.{IsRadiusWithin, are_parted, are_kept, shell_in}
use Rattle.cj_case.specs.Boxes.{PlainBox}
use Rattle.cj_bezier.specs.SlotBoxes.{IsPlaceIn, both_touch, reaches_in}
use Rattle.cj_bezier.proofs.PartedLemmas.{law_of}
use Rattle.cj_bezier.proofs.TouchLemmas.{far_apart}
use Rattle.cj_bezier.specs.Enclosed.{IsInShell, IsInBox, AreInShells, AreInBoxes, OthersAreFar}

-- what is known of an object at a tick: its piece, its shell and its box
record IsKnown (case : PlainProblem) (slot m : ℕ) (e : PlainTrack) (x : PlainPiece) (s : Option Shell) (r : Option PlainBox) : Type 0 where
  at : piece_holding e m ≡ Some x
  shell : IsInShell case.first case.last e s
  area : IsInBox (slot_first case.first slot) (slot_last case.first case.last slot) e r
  low : case.first ≤ m
  high : m ≤ case.last
  begins : slot_first case.first slot ≤ m
  ends : m ≤ slot_last case.first case.last slot

no_none : (e : PlainTrack) (m from to : ℕ) (x : PlainPiece) → piece_holding e m ≡ Some x → from ≤ m → m ≤ to → ¬ HasNone e from to
no_none e m from to x at low high none_here = elim (state e m) [
  | has number y is ↦ let numbered = is.numbered in let empty = none_here m low high in absurd cc
  | lacks unnumbered empty ↦ absurd cc
]

-- the radius of an object at the tick lies in its shell
radius_in : (case : PlainProblem) (slot m : ℕ) (e : PlainTrack) (x : PlainPiece) (s : Shell) (r : Option PlainBox) → IsKnown case slot m e x (Some s) r → IsRadiusWithin (curve_of_piece x) m s.lo s.hi
radius_in case slot m e x s r p = subst (λ (o : Option PlainPiece). IfSome o (λ x. IsRadiusWithin (curve_of_piece x) m s.lo s.hi)) p.at (p.shell.holds s refl m p.low p.high)

-- the place of an object at the tick lies in its box
place_in : (case : PlainProblem) (slot m : ℕ) (e : PlainTrack) (x : PlainPiece) (s : Option Shell) (r : PlainBox) → IsKnown case slot m e x s (Some r) → IsPlaceIn (curve_of_piece x) m r
place_in case slot m e x s r p = subst (λ (o : Option PlainPiece). IfSome o (λ x. IsPlaceIn (curve_of_piece x) m r)) p.at (p.area.holds r refl m p.begins p.ends)

-- an object at a tick has a shell, so that its interpolant has ticks
wide_at : (case : PlainProblem) (slot m : ℕ) (e : PlainTrack) (x : PlainPiece) (s : Option Shell) (r : Option PlainBox) → IsKnown case slot m e x s r → 0 < (curve_of_piece x).span
wide_at case slot m e x None r p = absurd (no_none e m case.first case.last x p.at p.low p.high (p.shell.none refl))
wide_at case slot m e x (Some s) r p = (radius_in case slot m e x s r p).some

-- two objects whose shells are parted
far_shells : (case : PlainProblem) (slot m thr : ℕ) (e f : PlainTrack) (x y : PlainPiece) (s t : Option Shell) (r q : Option PlainBox) → IsKnown case slot m e x s r → IsKnown case slot m f y t q
    → are_kept thr s t ≡ false → IsFar (curve_of_piece x) (curve_of_piece y) thr m
far_shells case slot m thr e f x y None t r q p p' parted = absurd (no_none e m case.first case.last x p.at p.low p.high (p.shell.none refl))
far_shells case slot m thr e f x y (Some s) None r q p p' parted = absurd (no_none f m case.first case.last y p'.at p'.low p'.high (p'.shell.none refl))
far_shells case slot m thr e f x y (Some s) (Some t) r q p p' parted =
    let here = radius_in case slot m e x s r p in
    let there = radius_in case slot m f y t q p' in
    law_of s t thr (are_parted s t thr) refl (curve_of_piece x) (curve_of_piece y) m here.some there.some here there (go (are_parted s t thr) parted)
  where
    go : (b : Bool) → not b ≡ false → b ≡ true
    go true h = refl
    go false h = absurd cc

-- two objects whose boxes do not touch
far_boxes : (case : PlainProblem) (slot m thr : ℕ) (e f : PlainTrack) (x y : PlainPiece) (s t : Option Shell) (r q : Option PlainBox) → IsKnown case slot m e x s r → IsKnown case slot m f y t q
    → both_touch thr r q ≡ false → IsFar (curve_of_piece x) (curve_of_piece y) thr m
far_boxes case slot m thr e f x y s t None q p p' apart = absurd (no_none e m (slot_first case.first slot) (slot_last case.first case.last slot) x p.at p.begins p.ends (p.area.none refl))
far_boxes case slot m thr e f x y s t (Some r) None p p' apart = absurd (no_none f m (slot_first case.first slot) (slot_last case.first case.last slot) y p'.at p'.begins p'.ends (p'.area.none refl))
far_boxes case slot m thr e f x y s t (Some r) (Some q) p p' apart =
    far_apart r q thr apart (curve_of_piece x) (curve_of_piece y) m (wide_at case slot m e x s (Some r) p) (wide_at case slot m f y t (Some q) p')
    (place_in case slot m e x s r p) (place_in case slot m f y t q p')

-- the pair is far where it is no candidate
far_known : (case : PlainProblem) (slot m thr : ℕ) (e f : PlainTrack) (x y : PlainPiece) (s t : Option Shell) (r q : Option PlainBox) → IsKnown case slot m e x s r → IsKnown case slot m f y t q
    → (are_kept thr s t && both_touch thr r q) ≡ false → IsFar (curve_of_piece x) (curve_of_piece y) thr m
far_known case slot m thr e f x y s t r q p p' others = go (are_kept thr s t) refl others
  where
    go : (k : Bool) → are_kept thr s t ≡ k → (k && both_touch thr r q) ≡ false → IsFar (curve_of_piece x) (curve_of_piece y) thr m
    go false is h = far_shells case slot m thr e f x y s t r q p p' is
    go true is h = far_boxes case slot m thr e f x y s t r q p p' h

pub others_far : (case : PlainProblem) (shells : List (Option Shell)) (boxes : ℕ → List (Option PlainBox)) → AreInShells case shells → AreInBoxes case boxes → OthersAreFar case (candidate_by case shells boxes)
others_far case shells boxes in_shells in_boxes a b m common others = go (slice_get case.tracks a) refl common.nodes
  where
    slot : ℕ
    slot = slot_of case.first m

    thr : ℕ
    thr = threshold_of case a b

    -- the pair is looked at
    apart : (are_kept thr (shell_in shells a) (shell_in shells b) && both_touch thr (reaches_in (boxes slot) a) (reaches_in (boxes slot) b)) ≡ false
    apart =
        ap (λ (looked : Bool). (looked && are_kept thr (shell_in shells a) (shell_in shells b)) && both_touch thr (reaches_in (boxes slot) a) (reaches_in (boxes slot) b))
        (sym common.concerned) ∙ others

    known : (i : ℕ) (e : PlainTrack) (x : PlainPiece) → slice_get case.tracks i ≡ Some e → piece_holding e m ≡ Some x → IsKnown case slot m e x (shell_in shells i) (reaches_in (boxes slot) i)
    known i e x is at = record {
      at = at;
      shell = in_shells i e is;
      area = in_boxes slot i e (slot_exists case.first case.last m common.after common.before) is;
      low = common.after;
      high = common.before;
      begins = slot_begins case.first m common.after;
      ends = slot_ends case.first case.last m common.after common.before;
    }

    at_y : (e f : PlainTrack) (x : PlainPiece) → slice_get case.tracks a ≡ Some e → slice_get case.tracks b ≡ Some f → piece_holding e m ≡ Some x → (o : Option PlainPiece) → piece_holding f m ≡ o
        → IsSomeAnd o (λ y. Unit {0}) → IsSomeAnd o (λ y. IsFar (curve_of_piece x) (curve_of_piece y) thr m)
    at_y e f x is is' at None none_here h = absurd h
    at_y e f x is is' at (Some y) at' h =
        far_known case slot m thr e f x y (shell_in shells a) (shell_in shells b) (reaches_in (boxes slot) a) (reaches_in (boxes slot) b) (known a e x is at) (known b f y is' at') apart

    at_x : (e f : PlainTrack) → slice_get case.tracks a ≡ Some e → slice_get case.tracks b ≡ Some f → (o : Option PlainPiece) → piece_holding e m ≡ o
        → IsSomeAnd o (λ x. IsSomeAnd (piece_holding f m) (λ y. Unit {0})) → IsSomeAnd o (λ x. IsSomeAnd (piece_holding f m) (λ y. IsFar (curve_of_piece x) (curve_of_piece y) thr m))
    at_x e f is is' None none_here h = absurd h
    at_x e f is is' (Some x) at h = at_y e f x is is' at (piece_holding f m) refl h

    second : (e : PlainTrack) → slice_get case.tracks a ≡ Some e → (o : Option PlainTrack) → slice_get case.tracks b ≡ o
        → IsSomeAnd o (λ f. OfBothAt e f m (λ c d. Unit {0})) → IsSomeAnd o (λ f. OfBothAt e f m (λ c d. IsFar c d thr m))
    second e is None none_here h = absurd h
    second e is (Some f) is' h = at_x e f is is' (piece_holding e m) refl h

    go : (o : Option PlainTrack) → slice_get case.tracks a ≡ o → IsSomeAnd o (λ e. IsSomeAnd (slice_get case.tracks b) (λ f. OfBothAt e f m (λ c d. Unit {0})))
        → IsSomeAnd o (λ e. IsSomeAnd (slice_get case.tracks b) (λ f. OfBothAt e f m (λ c d. IsFar c d thr m)))
    go None none_here h = absurd h
    go (Some e) is h = second e is (slice_get case.tracks b) refl h
