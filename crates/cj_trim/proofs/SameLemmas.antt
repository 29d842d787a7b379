-- At each tick of a window a track without the states that no tick of it needs is between the same two states as the whole one.
use Rattle.std.proofs.Common.{◌≡◌, ℕ, ◌+◌, ◌-◌, ◌<◌, ◌≤◌, true, min, max, List, [], ◌∷◌, ◌++◌, map, length, Option, Some, refl, ap, sym, ◌∙◌, inl, inr, arith}
use Rattle.std.specs.Prelude.{nat_le, option_map, if◌then◌else◌}
use Rattle.std.specs.List.{AllZip, flat_map}
use Rattle.std.proofs.lemmas.Bool.{cases_lt, cases_Bool}
use Rattle.std.proofs.lemmas.Bool.Decides.{nat_tests}
use Rattle.cj_interval.proofs.ListLemmas.{Each}
use Rattle.cj_track.specs.PlainTracks.{PlainNode, PlainSegment, PlainTrack}
use Rattle.cj_hermite.specs.Interpolant.{Curve}
use Rattle.cj_hermite.specs.Pieces.{PlainPiece, pieces_between, pieces_of_segment, pieces_of, last_covering, piece_holding, curve_of_piece}
use Rattle.cj_hermite.proofs.CoverLemmas.{Misses, misses-append, last_before, last_behind, last_first, last_none, covers_if, before_from}
use Rattle.cj_hermite.proofs.PieceLemmas.{later_span, earlier_span}
use Rattle.cj_trim.specs.Same.{HasRun, IsSameWithin}
use Rattle.cj_trim.specs.Trimmed.{has_part, first_left, last_left, from_last, upto_first, needed, trimmed_segment, trimmed}

-- ---- states in order of time

-- each state is later than the one before
abbrev pub Rise : List PlainNode → Type 0
Rise [] = Unit {0}
Rise (a ∷ []) = Unit {0}
Rise (a ∷ b ∷ nodes) = (a.at < b.at) × Rise (b ∷ nodes)

-- the last of the states behind one, which is that one where there are none
abbrev pub last_of : PlainNode → List PlainNode → PlainNode
last_of a [] = a
last_of a (b ∷ path) = last_of b path

-- a tick lies from the first of these states to the last
abbrev pub FromTo : ℕ → List PlainNode → Type 0
FromTo m [] = ⊥
FromTo m (a ∷ path) = (a.at ≤ m) × (m ≤ (last_of a path).at)

upto_rise : (m : ℕ) (nodes : List PlainNode) → Rise nodes → Rise (upto_first m nodes)
unfolding upto_first
upto_rise m [] rise = tt
upto_rise m (a ∷ []) rise = elim (cases_Bool (nat_le a.at m)) [ inl here ↦ rw here tt | inr past ↦ rw past tt ]
upto_rise m (a ∷ b ∷ nodes) rise = elim (cases_Bool (nat_le a.at m)) [ inl here ↦ rw here (rise.0, upto_rise m (b ∷ nodes) rise.1) | inr past ↦ rw past tt ]

-- ---- the last pieces of two lists that cover a tick

-- they are between the same two states
pub record AreCovered (m n k : ℕ) (xs ys : List PlainPiece) : Type 0 where
  pub one : ℕ × PlainPiece
  pub other : ℕ × PlainPiece
  pub first : last_covering m n xs ≡ Some one
  pub second : last_covering m k ys ≡ Some other
  pub from : other.1.from ≡ one.1.from
  pub to : other.1.to ≡ one.1.to

covered_before : (m n k : ℕ) (xs ys us bs : List PlainPiece) → Misses m us → Misses m bs → AreCovered m n k xs ys → AreCovered m n k (xs ++ us) (ys ++ bs)
covered_before m n k xs ys us bs h j c = record {
  one = c.one;
  other = c.other;
  first = last_before m n xs us h ∙ c.first;
  second = last_before m k ys bs j ∙ c.second;
  from = c.from;
  to = c.to;
}

covered_behind : (m n k : ℕ) (xs ys us bs : List PlainPiece) → AreCovered m (n + length us) (k + length bs) xs ys → AreCovered m n k (us ++ xs) (bs ++ ys)
covered_behind m n k xs ys us bs c = record {
  one = c.one;
  other = c.other;
  first = last_behind m n (n + length us) c.one us xs refl c.first;
  second = last_behind m k (k + length bs) c.other bs ys refl c.second;
  from = c.from;
  to = c.to;
}

-- of states behind a tick no piece covers it
later_states : (m f l : ℕ) (a : PlainNode) (path : List PlainNode) → Rise (a ∷ path) → m < a.at → Misses m (pieces_between f l (a ∷ path))
later_states m f l a [] rise lt = tt
later_states m f l a (b ∷ path) rise lt =
    (before_from m (record { from = a; to = b; first = f; last = l }) lt, later_states m f l b path rise.1 (omega (arith, rise.0, lt)))

-- the first piece of both covers the tick, and no other does
first_covers : (m n k f l g h : ℕ) (a b : PlainNode) (xs ys : List PlainNode) → f ≤ m → m ≤ l → g ≤ m → m ≤ h → a.at ≤ m → m ≤ b.at →
    Misses m (pieces_between f l (b ∷ xs)) → Misses m (pieces_between g h (b ∷ ys)) → AreCovered m n k (pieces_between f l (a ∷ b ∷ xs)) (pieces_between g h (a ∷ b ∷ ys))
first_covers m n k f l g h a b xs ys after before since until low high us bs =
    let x : PlainPiece = record { from = a; to = b; first = f; last = l } in
    let y : PlainPiece = record { from = a; to = b; first = g; last = h } in
    record {
      one = (n, x);
      other = (k, y);
      first = last_first m n x (pieces_between f l (b ∷ xs)) (covers_if m x low high after before) us;
      second = last_first m k y (pieces_between g h (b ∷ ys)) (covers_if m y low high since until) bs;
      from = refl;
      to = refl;
    }

-- up to the first state after a tick
upto_alike : (m last f l g h : ℕ) (a b : PlainNode) (path : List PlainNode) → Rise (a ∷ b ∷ path) → m ≤ last → f ≤ m → m ≤ l → g ≤ m → m ≤ h → a.at ≤ m → m ≤ (last_of b path).at →
    (n k : ℕ) → AreCovered m n k (pieces_between f l (a ∷ b ∷ path)) (pieces_between g h (upto_first last (a ∷ b ∷ path)))
unfolding upto_first
upto_alike m last f l g h a b [] rise within after before since until low high n k =
    let test : nat_le a.at last ≡ true = grind (arith, nat_tests) in
    elim (cases_Bool (nat_le b.at last)) [
      | inl here ↦ rw (test, here) (first_covers m n k f l g h a b [] [] after before since until low high tt tt)
      | inr past ↦ rw (test, past) (first_covers m n k f l g h a b [] [] after before since until low high tt tt)
    ]
upto_alike m last f l g h a b (c ∷ path) rise within after before since until low high n k =
    let test : nat_le a.at last ≡ true = grind (arith, nat_tests) in
    elim (cases_lt m b.at) [
      | inl lt ↦
          let left = upto_rise last (b ∷ c ∷ path) rise.1 in
          let upto : m ≤ b.at = omega (arith, lt) in
          rw test (first_covers m n k f l g h a b (c ∷ path) (if nat_le b.at last then upto_first last (c ∷ path) else []) after before since until low upto
          (later_states m f l b (c ∷ path) rise.1 lt) (later_states m g h b (if nat_le b.at last then upto_first last (c ∷ path) else []) left lt))
      | inr le ↦
          rw test (covered_behind m n k (pieces_between f l (b ∷ c ∷ path)) (pieces_between g h (upto_first last (b ∷ c ∷ path)))
          (record { from = a; to = b; first = f; last = l } ∷ []) (record { from = a; to = b; first = g; last = h } ∷ [])
          (upto_alike m last f l g h b c path rise.1 within after before since until le high (n + 1) (k + 1)))
    ]

-- and from the last one that is not after another tick
needed_alike : (m first last f l g h : ℕ) (a b : PlainNode) (path : List PlainNode) → Rise (a ∷ b ∷ path) → first ≤ m → m ≤ last → f ≤ m → m ≤ l → g ≤ m → m ≤ h → a.at ≤ m → m ≤ (last_of b path).at →
    (n k : ℕ) → AreCovered m n k (pieces_between f l (a ∷ b ∷ path)) (pieces_between g h (needed first last (a ∷ b ∷ path)))
unfolding from_last
needed_alike m first last f l g h a b [] rise from within after before since until low high n k =
    upto_alike m last f l g h a b [] rise within after before since until low high n k
needed_alike m first last f l g h a b (c ∷ path) rise from within after before since until low high n k = elim (cases_Bool (nat_le b.at first)) [
  | inl here ↦
      let le : b.at ≤ first = grind (arith, nat_tests) in
      rw here (covered_behind m n k (pieces_between f l (b ∷ c ∷ path)) (pieces_between g h (needed first last (b ∷ c ∷ path)))
      (record { from = a; to = b; first = f; last = l } ∷ []) []
      (needed_alike m first last f l g h b c path rise.1 from within after before since until (omega (arith, le, from)) high (n + 1) (k + 0)))
  | inr past ↦ rw past (upto_alike m last f l g h a b (c ∷ path) rise within after before since until low high n k)
]

-- ---- segments and tracks

-- a segment whose states rise, are two or more, and lie round its useable span
pub record IsSound (s : PlainSegment) : Type 0 where
  pub enough : 2 ≤ length s.nodes
  pub some : s.first ≤ s.last
  pub rise : Rise s.nodes
  pub round : (m : ℕ) → s.first ≤ m → m ≤ s.last → FromTo m s.nodes

-- at a tick no piece of either list covers it, or the last ones that do are between the same two states
data Alike (m : ℕ) (xs ys : List PlainPiece) : Type 0 where
  neither : Misses m xs → Misses m ys → Alike m xs ys
  both : ((n k : ℕ) → AreCovered m n k xs ys) → Alike m xs ys

nodes_alike : (m first last f l g h : ℕ) (nodes : List PlainNode) → 2 ≤ length nodes → Rise nodes → FromTo m nodes → first ≤ m → m ≤ last → f ≤ m → m ≤ l → g ≤ m → m ≤ h →
    (n k : ℕ) → AreCovered m n k (pieces_between f l nodes) (pieces_between g h (needed first last nodes))
nodes_alike m first last f l g h [] enough rise round from within after before since until n k = absurd (omega (arith, enough))
nodes_alike m first last f l g h (a ∷ []) enough rise round from within after before since until n k = absurd (omega (arith, enough))
nodes_alike m first last f l g h (a ∷ b ∷ path) enough rise round from within after before since until n k =
    needed_alike m first last f l g h a b path rise from within after before since until round.0 round.1 n k

-- what is left of a useable span is within it
pub left_from : (first last : ℕ) (s : PlainSegment) → s.first ≤ first_left first last s
left_from first last s = elim (cases_Bool (has_part first last s)) [ inl here ↦ rw here (omega arith) | inr past ↦ rw past (omega arith) ]

pub left_to : (first last : ℕ) (s : PlainSegment) → s.first ≤ s.last → last_left first last s ≤ s.last
left_to first last s some = elim (cases_Bool (has_part first last s)) [ inl here ↦ rw here (omega arith) | inr past ↦ rw past some ]

-- a tick of both is in what is left
record IsLeft (m first last : ℕ) (s : PlainSegment) : Type 0 where
  since : first_left first last s ≤ m
  until : m ≤ last_left first last s

is_left : (m first last : ℕ) (s : PlainSegment) → first ≤ m → m ≤ last → s.first ≤ m → m ≤ s.last → IsLeft m first last s
unfolding has_part
is_left m first last s from within after before =
    let part : max s.first first ≤ min s.last last = omega (arith, from, within, after, before) in
    let test : nat_le (max s.first first) (min s.last last) ≡ true = grind (arith, nat_tests) in
    record { since = rw test (omega (arith, from, after)); until = rw test (omega (arith, within, before)) }

segment_alike : (m first last : ℕ) (s : PlainSegment) → first ≤ m → m ≤ last → IsSound s → Alike m (pieces_of_segment s) (pieces_of_segment (trimmed_segment first last s))
segment_alike m first last s from within is =
    let f = first_left first last s in
    let l = last_left first last s in
    elim (cases_lt m s.first) [
      | inl early ↦ neither (later_span m s.first s.last s.nodes early) (later_span m f l (needed f l s.nodes) (omega (arith, early, left_from first last s)))
      | inr after ↦ elim (cases_lt s.last m) [
        | inl late ↦ neither (earlier_span m s.first s.last s.nodes late) (earlier_span m f l (needed f l s.nodes) (omega (arith, late, left_to first last s is.some)))
        | inr before ↦
            let left = is_left m first last s from within after before in
            both (nodes_alike m f l s.first s.last f l s.nodes is.enough is.rise (is.round m after before) left.since left.until after before left.since left.until)
      ]
    ]

more_alike : (m : ℕ) (xs ys us bs : List PlainPiece) → Alike m xs ys → Alike m us bs → Alike m (xs ++ us) (ys ++ bs)
more_alike m xs ys us bs here (both behind) = both (λ n k. covered_behind m n k us bs xs ys (behind (n + length xs) (k + length ys)))
more_alike m xs ys us bs (both here) (neither h j) = both (λ n k. covered_before m n k xs ys us bs h j (here n k))
more_alike m xs ys us bs (neither p q) (neither h j) = neither (misses-append m xs us p h) (misses-append m ys bs q j)

alike : (m first last : ℕ) (segments : List PlainSegment) → first ≤ m → m ≤ last → Each IsSound segments →
    Alike m (flat_map pieces_of_segment segments) (flat_map pieces_of_segment (map (trimmed_segment first last) segments))
alike m first last [] from within are = neither tt tt
alike m first last (s ∷ segments) from within are =
    more_alike m (pieces_of_segment s) (pieces_of_segment (trimmed_segment first last s)) (flat_map pieces_of_segment segments) (flat_map pieces_of_segment (map (trimmed_segment first last) segments))
    (segment_alike m first last s from within are.0) (alike m first last segments from within are.1)

-- what the pieces at a tick give, where it depends on their states alone
same_of_pieces : {A : Type 0} (f : PlainPiece → A) → ((x y : PlainPiece) → y.from ≡ x.from → y.to ≡ x.to → f y ≡ f x) → (m : ℕ) (t u : PlainTrack) → Alike m (pieces_of t) (pieces_of u) →
    option_map f (piece_holding u m) ≡ option_map f (piece_holding t m)
unfolding piece_holding
same_of_pieces f same m t u (neither h j) =
    ap (λ (o : Option (ℕ × PlainPiece)). option_map f (option_map (λ x. x.1) o)) (last_none m 0 (pieces_of u) j)
    ∙ sym (ap (λ (o : Option (ℕ × PlainPiece)). option_map f (option_map (λ x. x.1) o)) (last_none m 0 (pieces_of t) h))
same_of_pieces {A} f same m t u (both c) =
    let here = c 0 0 in
    ap (λ (o : Option (ℕ × PlainPiece)). option_map f (option_map (λ x. x.1) o)) here.second
    ∙ ap (λ (z : A). Some z) (same here.one.1 here.other.1 here.from here.to)
    ∙ sym (ap (λ (o : Option (ℕ × PlainPiece)). option_map f (option_map (λ x. x.1) o)) here.first)

same_states : (x y : PlainPiece) → y.from ≡ x.from → y.to ≡ x.to → ◌≡◌ {A = PlainNode × PlainNode} (y.from, y.to) (x.from, x.to)
same_states x y p q = λ i. (p i, q i)

same_curve : (x y : PlainPiece) → y.from ≡ x.from → y.to ≡ x.to → curve_of_piece y ≡ curve_of_piece x
same_curve x y p q =
    ap (λ (from : PlainNode). curve_of_piece (record { from = from; to = y.to; first = x.first; last = x.last })) p
    ∙ ap (λ (to : PlainNode). curve_of_piece (record { from = x.from; to = to; first = x.first; last = x.last })) q

-- ---- which states stay

upto_run : (m : ℕ) (nodes : List PlainNode) → (behind : List PlainNode) × (nodes ≡ upto_first m nodes ++ behind)
unfolding upto_first
upto_run m [] = ([], refl)
upto_run m (a ∷ nodes) = elim (cases_Bool (nat_le a.at m)) [
  | inl here ↦ let rest = upto_run m nodes in (rest.0, rw here (ap (λ (ns : List PlainNode). a ∷ ns) rest.1))
  | inr past ↦ (nodes, rw past refl)
]

from_run : (m : ℕ) (nodes : List PlainNode) → (before : List PlainNode) × (nodes ≡ before ++ from_last m nodes)
unfolding from_last
from_run m [] = ([], refl)
from_run m (a ∷ []) = ([], refl)
from_run m (a ∷ b ∷ []) = ([], refl)
from_run m (a ∷ b ∷ c ∷ nodes) = elim (cases_Bool (nat_le b.at m)) [
  | inl here ↦ let rest = from_run m (b ∷ c ∷ nodes) in (a ∷ rest.0, rw here (ap (λ (ns : List PlainNode). a ∷ ns) rest.1))
  | inr past ↦ ([], rw past refl)
]

pub needed_run : (first last : ℕ) (nodes : List PlainNode) → HasRun nodes (needed first last nodes)
needed_run first last nodes =
    let front = from_run first nodes in
    let end = upto_run last (from_last first nodes) in
    record { before = front.0; behind = end.0; whole = front.1 ∙ ap (λ (ns : List PlainNode). front.0 ++ ns) end.1 }

all_runs : (first last : ℕ) (segments : List PlainSegment) → AllZip HasRun (map (λ s. s.nodes) segments) (map (λ s. s.nodes) (map (trimmed_segment first last) segments))
all_runs first last [] = tt
all_runs first last (s ∷ segments) = (needed_run (first_left first last s) (last_left first last s) s.nodes, all_runs first last segments)

same_covariances : (first last : ℕ) (segments : List PlainSegment) → map (λ s. s.covariances) (map (trimmed_segment first last) segments) ≡ map (λ s. s.covariances) segments
same_covariances first last [] = refl
same_covariances first last (s ∷ segments) = λ i. s.covariances ∷ same_covariances first last segments i

-- what is left of a track is the same within the window
pub same_within : (first last : ℕ) (t : PlainTrack) → Each IsSound t.segments → IsSameWithin first last t (trimmed first last t)
same_within first last t are = record {
  file = refl;
  name = refl;
  id = refl;
  frame = refl;
  covariances = same_covariances first last t.segments;
  nodes = all_runs first last t.segments;
  states = λ m from within. same_of_pieces {A = PlainNode × PlainNode} (λ (x : PlainPiece). (x.from, x.to)) same_states m t (trimmed first last t) (alike m first last t.segments from within are);
  curves = λ m from within. same_of_pieces {A = Curve} curve_of_piece same_curve m t (trimmed first last t) (alike m first last t.segments from within are);
}
