-- What the messages of a case tell of the relative state is exact: where an encounter begins, its objects are within a threshold and one
-- millimetre, so at its closest approach they are nearer than the law on relative states asks.
use Rattle.std.proofs.Common.{◌≡◌, ℕ, ◌+◌, ◌*◌, ◌^◌, ◌≤◌, Bool, true, false, cond, List, [], ◌∷◌, length, Option, Some, None, option_map, refl, inl, ⊎_elim, arith}
use Rattle.std.proofs.lemmas.Bool.{cases_lt}
use Rattle.std.proofs.lemmas.Int.{ints}
use Rattle.std.proofs.lemmas.List.{get_or_past}
use Rattle.std.proofs.lemmas.Nat.{mul-le}
use Rattle.std.specs.Prelude.{ℤ, pos, ◌≤ℤ◌, All, IfSome, IsSomeAnd, option_and_then, slice_get, slice_index}
use Rattle.cj_interval.proofs.ListLemmas.{Each, All-from_each, each_from_All, Any-from_exists}
use Rattle.cj_case.specs.CaseLimits.{MAX_SIZE}
use Rattle.cj_case.specs.PlainProblems.{PlainProblem, threshold_of}
use Rattle.cj_case.specs.declared.kind.Kind.{Kind}
use Rattle.cj_case.specs.declared.kind.Kind.TheVariants.{Far, Near, Undecided}
use Rattle.cj_case.specs.Leaves.{PlainLeaf, IsTickOf}
use Rattle.cj_track.specs.PlainTracks.{PlainTrack}
use Rattle.cj_hermite.specs.Distance.{BAND, IsWithinAt, square_distance}
use Rattle.cj_hermite.specs.Interpolant.{Curve, place_denominator}
use Rattle.cj_hermite.specs.ObjectsAtTicks.{OfObjectsAt, curve_at}
use Rattle.cj_hermite.specs.Pieces.{OfBothAt, PlainPiece, curve_of_piece, piece_holding}
use Rattle.cj_hermite.proofs.ObjectLemmas.{of_objects-wider}
use Rattle.cj_bezier.specs.Verdicts.{Holds}
use Rattle.cj_cells.specs.Lists.{IsSound}
use Rattle.cj_meet.specs.Closest.{HasNearest}
use Rattle.cj_meet.specs.Encounters.{encounters_of, follows, is_far, with_front}
use Rattle.cj_rtn.specs.Exact.{AreExact, IsNearlyAt, MOST_DISTANCE}
use Rattle.cj_rtn.specs.Relative.{object_relative}
use Rattle.cj_screen.specs.Headline.{HasExactRelative}

-- ---- distances

-- who is within a distance is within a greater one
within_wider : (c d : Curve) (e f m : ℕ) → e ≤ f → IsWithinAt c d e m → IsWithinAt c d f m
within_wider c d e f m le within =
    let q = place_denominator c.span * place_denominator d.span in
    wider (square_distance c d m) (e * e * (q * q)) (f * f * (q * q)) (mul-le (e * e) (q * q) (f * f) (q * q) (mul-le e e f f le le) (omega arith)) within
  where
    wider : (x : ℤ) (a b : ℕ) → a ≤ b → x ≤ℤ pos a → x ≤ℤ pos b
    wider x a b le within = omega (arith, ints)

-- the greatest threshold of two objects
abbrev MOST_THRESHOLD : ℕ
MOST_THRESHOLD = 1002 * 10 ^ 12

size_within : (sizes : List ℕ) (i : ℕ) → All (λ size. size ≤ MAX_SIZE) sizes → slice_index sizes i ≤ MAX_SIZE
size_within sizes i small = ⊎_elim (λ lt. small i 0 lt) (λ past. let none = get_or_past sizes i 0 past in omega (arith, none)) (cases_lt i (length sizes))

-- no two objects have a greater one
threshold_within : (case : PlainProblem) (a b : ℕ) → case.threshold ≤ 10 ^ 15 → All (λ size. size ≤ MAX_SIZE) case.sizes → threshold_of case a b ≤ MOST_THRESHOLD
threshold_within case a b most small = omega (arith, size_within case.sizes a small, size_within case.sizes b small, most)

-- ---- objects at a tick

-- what holds of the interpolants of two objects gives what follows from it and from whose they are
of_objects-curves : (case : PlainProblem) (a b m : ℕ) (P Q : Curve → Curve → Type 0)
    → ((c d : Curve) → curve_at case a m ≡ Some c → curve_at case b m ≡ Some d → P c d → Q c d) → OfObjectsAt case a b m P → OfObjectsAt case a b m Q
unfolding curve_at
of_objects-curves case a b m P Q gives = both (slice_get case.tracks a) (slice_get case.tracks b) gives
  where
    pieces : (o p : Option PlainPiece) → ((c d : Curve) → option_map curve_of_piece o ≡ Some c → option_map curve_of_piece p ≡ Some d → P c d → Q c d)
        → IsSomeAnd o (λ x. IsSomeAnd p (λ y. P (curve_of_piece x) (curve_of_piece y))) → IsSomeAnd o (λ x. IsSomeAnd p (λ y. Q (curve_of_piece x) (curve_of_piece y)))
    pieces None p gives h = h
    pieces (Some x) None gives h = h
    pieces (Some x) (Some y) gives h = gives (curve_of_piece x) (curve_of_piece y) refl refl h

    both : (o p : Option PlainTrack) → ((c d : Curve) → option_map curve_of_piece (option_and_then (λ e. piece_holding e m) o) ≡ Some c
        → option_map curve_of_piece (option_and_then (λ e. piece_holding e m) p) ≡ Some d → P c d → Q c d)
        → IsSomeAnd o (λ e. IsSomeAnd p (λ f. OfBothAt e f m P)) → IsSomeAnd o (λ e. IsSomeAnd p (λ f. OfBothAt e f m Q))
    both None p gives h = h
    both (Some e) None gives h = h
    both (Some e) (Some f) gives h = pieces (piece_holding e m) (piece_holding f m) gives h

-- ---- encounters

-- a leaf at whose first tick its objects are met
record IsMet (case : PlainProblem) (s : PlainLeaf) : Type 0 where
  some : s.first ≤ s.last
  within : OfObjectsAt case s.a s.b s.first (λ c d. IsWithinAt c d (MOST_THRESHOLD + BAND) s.first)

met : (case : PlainProblem) (s : PlainLeaf) → threshold_of case s.a s.b ≤ MOST_THRESHOLD → IsSound case s → is_far s ≡ false → IsMet case s
met case s most sound close = record { some = sound.some; within = by_kind s.kind close (sound.holds s.first (omega arith) sound.some) }
  where
    by_kind : (k : Kind) → is_far (record s { kind = k }) ≡ false → OfObjectsAt case s.a s.b s.first (λ c d. Holds k c d (threshold_of case s.a s.b) s.first)
        → OfObjectsAt case s.a s.b s.first (λ c d. IsWithinAt c d (MOST_THRESHOLD + BAND) s.first)
    by_kind Far close h = absurd cc
    by_kind Near close h =
        of_objects-wider case s.a s.b s.first (λ c d. Holds Near c d (threshold_of case s.a s.b) s.first) (λ c d. IsWithinAt c d (MOST_THRESHOLD + BAND) s.first)
        (λ c d near. within_wider c d (threshold_of case s.a s.b) (MOST_THRESHOLD + BAND) s.first (omega (arith, most)) near) h
    by_kind Undecided close h =
        of_objects-wider case s.a s.b s.first (λ c d. Holds Undecided c d (threshold_of case s.a s.b) s.first) (λ c d. IsWithinAt c d (MOST_THRESHOLD + BAND) s.first)
        (λ c d band. within_wider c d (threshold_of case s.a s.b + BAND) (MOST_THRESHOLD + BAND) s.first (omega (arith, most)) band.within) h

-- these leaves begin with one of this kind
abbrev BeginsWith : (PlainLeaf → Type 0) → List PlainLeaf → Type 0
BeginsWith P [] = ⊥
BeginsWith P (s ∷ ss) = P s

begins_in_front : (P : PlainLeaf → Type 0) (s : PlainLeaf) (groups : List (List PlainLeaf)) → P s → Each (BeginsWith P) groups → Each (BeginsWith P) (with_front s groups)
begins_in_front P s [] p begin = (p, tt)
begins_in_front P s ([] ∷ others) p begin = absurd begin.0
begins_in_front P s ((t ∷ ts) ∷ others) p begin = joined (follows s t)
  where
    joined : (b : Bool) → Each (BeginsWith P) (cond b ((s ∷ t ∷ ts) ∷ others) ((s ∷ []) ∷ (t ∷ ts) ∷ others))
    joined true = (p, begin.1)
    joined false = (p, begin)

-- each encounter begins with a leaf that is not far
encounters_begin : (P : PlainLeaf → Type 0) (ss : List PlainLeaf) → Each (λ s. is_far s ≡ false → P s) ss → Each (BeginsWith P) (encounters_of ss)
encounters_begin P [] all = tt
encounters_begin P (s ∷ ss) all = one_more (is_far s) all.0 (encounters_begin P ss all.1)
  where
    one_more : (b : Bool) → (b ≡ false → P s) → Each (BeginsWith P) (encounters_of ss)
        → Each (BeginsWith P) (cond b (encounters_of ss) (with_front s (encounters_of ss)))
    one_more true p begin = begin
    one_more false p begin = begins_in_front P s (encounters_of ss) (p refl) begin

-- ---- what is told of an encounter

exact_there : (case : PlainProblem) (g : List PlainLeaf) → AreExact case → BeginsWith (IsMet case) g → HasNearest case g → HasExactRelative case g
exact_there case [] exact begins nearest = absurd begins
exact_there case (s ∷ ss) exact begins nearest =
    let m = nearest.at.tick in
    let first = Any-from_exists (IsTickOf s.a s.b s.first) (s ∷ ss) (inl (record { first_object = refl; second_object = refl; from = omega arith; to = begins.some })) in
    record {
      at = nearest.at;
      is = nearest.is;
      law = of_objects-curves case s.a s.b m (λ c d. IsWithinAt c d (MOST_THRESHOLD + BAND + BAND) m)
          (λ c d. IfSome (object_relative case s.a s.b m) (IsNearlyAt c d m))
          (λ c d first second within. exact s.a s.b m c d first second (within_wider c d (MOST_THRESHOLD + BAND + BAND) MOST_DISTANCE m (omega arith) within))
          (nearest.law.nearly s.first (MOST_THRESHOLD + BAND) first begins.within);
    }

all_there : (case : PlainProblem) (groups : List (List PlainLeaf)) → AreExact case → Each (BeginsWith (IsMet case)) groups → Each (HasNearest case) groups
    → Each (HasExactRelative case) groups
all_there case [] exact begin nearest = tt
all_there case (g ∷ groups) exact begin nearest = (exact_there case g exact begin.0 nearest.0, all_there case groups exact begin.1 nearest.1)

-- of all encounters of sound leaves that have their closest approach
pub all_exact : (case : PlainProblem) (ss : List PlainLeaf) → AreExact case → case.threshold ≤ 10 ^ 15 → All (λ size. size ≤ MAX_SIZE) case.sizes → All (IsSound case) ss
    → All (HasNearest case) (encounters_of ss) → All (HasExactRelative case) (encounters_of ss)
all_exact case ss exact most small sound nearest =
    let groups = encounters_of ss in
    All-from_each (HasExactRelative case) groups
    (all_there case groups exact
    (encounters_begin (IsMet case) ss (begin ss (each_from_All (IsSound case) ss sound)))
    (each_from_All (HasNearest case) groups nearest))
  where
    begin : (ss : List PlainLeaf) → Each (IsSound case) ss → Each (λ s. is_far s ≡ false → IsMet case s) ss
    begin [] all = tt
    begin (s ∷ ss) all = (met case s (threshold_within case s.a s.b most small) all.0, begin ss all.1)
