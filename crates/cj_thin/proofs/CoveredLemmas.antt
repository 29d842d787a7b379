-- At each tick both or neither of two tracks have a state, and where they have their places are near.
use Rattle.std.proofs.Common.{◌≡◌, ℕ, ◌+◌, ◌^◌, ◌<◌, ◌≤◌, true, List, [], ◌∷◌, ◌++◌, length, Some, refl, ap, sym, ◌∙◌, subst, inl, inr, arith}
use Rattle.std.proofs.lemmas.Bool.{cases_lt}
use Rattle.cj_interval.proofs.ListLemmas.{Each, each_from_list_all}
use Rattle.cj_track.specs.PlainTracks.{PlainNode}
use Rattle.cj_hermite.specs.Interpolant.{Curve, IsOver}
use Rattle.cj_hermite.specs.Distance.{IsWithinAt}
use Rattle.cj_hermite.specs.Pieces.{PlainPiece, pieces_between, last_covering, curve_of_piece}
use Rattle.cj_hermite.proofs.CoverLemmas.{Misses, last_before, last_behind, last_first, covers_if, before_from}
use Rattle.cj_thin.specs.Thinned.{all_near, stays_near, curve_between, last_of}
use Rattle.cj_thin.proofs.NearLemmas.{near_at, within_itself}
use Rattle.cj_thin.proofs.StepLemmas.{ArePlainSteps, steps_behind, steps_until, last_behind_out, upto_last}
use Rattle.cj_thin.proofs.KeptLemmas.{MayStep, next, over, Thins, last, step, kept_steps}

-- the last piece that covers a tick, of which this holds
pub record IsCovered (P : PlainPiece → Type 0) (m n : ℕ) (xs : List PlainPiece) : Type 0 where
  pub number : ℕ
  pub piece : PlainPiece
  pub is : last_covering m n xs ≡ Some (number, piece)
  pub so : P piece

-- the last pieces of two lists that cover a tick, which are near there
pub record AreCovered (e m n k : ℕ) (xs ys : List PlainPiece) : Type 0 where
  pub one : ℕ × PlainPiece
  pub other : ℕ × PlainPiece
  pub first : last_covering m n xs ≡ Some one
  pub second : last_covering m k ys ≡ Some other
  pub near : IsWithinAt (curve_of_piece one.1) (curve_of_piece other.1) e m

-- of states behind a tick no piece covers it
later_states : (m f l : ℕ) (a : PlainNode) (path : List PlainNode) → ArePlainSteps (a ∷ path) → m < a.at → Misses m (pieces_between f l (a ∷ path))
later_states m f l a [] steps lt = tt
later_states m f l a (b ∷ path) steps lt =
    let s = steps.0 in
    (before_from m (record { from = a; to = b; first = f; last = l }) lt, later_states m f l b path steps.1 (omega (arith, s.rises, lt)))

-- a tick from the first state to the last, in the useable span, is covered
covered : (P : PlainPiece → Type 0) (m n f l : ℕ) (a b : PlainNode) (path : List PlainNode) → ArePlainSteps (a ∷ b ∷ path) → f ≤ m → m ≤ l → a.at ≤ m → m ≤ (last_of b path).at →
    Each P (pieces_between f l (a ∷ b ∷ path)) → IsCovered (λ x. P x × ((x.from.at ≤ m) × (m ≤ x.to.at))) m n (pieces_between f l (a ∷ b ∷ path))
covered P m n f l a b [] steps after before low high each =
    let x : PlainPiece = record { from = a; to = b; first = f; last = l } in
    record { number = n; piece = x; is = last_first m n x [] (covers_if m x low high after before) tt; so = (each.0, (low, high)) }
covered P m n f l a b (c ∷ path) steps after before low high each = elim (cases_lt m b.at) [
  | inl lt ↦
      let x : PlainPiece = record { from = a; to = b; first = f; last = l } in
      let upto : m ≤ b.at = omega (arith, lt) in
      record {
        number = n;
        piece = x;
        is = last_first m n x (pieces_between f l (b ∷ c ∷ path)) (covers_if m x low upto after before) (later_states m f l b (c ∷ path) steps.1 lt);
        so = (each.0, (low, upto));
      }
  | inr le ↦
      let x : PlainPiece = record { from = a; to = b; first = f; last = l } in
      let rest = covered P m (n + 1) f l b c path steps.1 after before le high each.1 in
      record {
        number = rest.number;
        piece = rest.piece;
        is = last_behind m n (n + 1) (rest.number, rest.piece) (x ∷ []) (pieces_between f l (b ∷ c ∷ path)) (omega arith) rest.is;
        so = rest.so;
      }
]

-- the interpolant of a piece, and a longer one, give a place from its first state to its second
record IsInside (d : Curve) (x : PlainPiece) : Type 0 where
  pub own : IsOver (curve_of_piece x) x.from.at x.to.at
  pub longer : IsOver d x.from.at x.to.at

-- a piece between two states that a step goes over, and that stays near it
abbrev StaysInside : ℕ → Curve → PlainPiece → Type 0
StaysInside e d x = IsInside d x × (stays_near e d x ≡ true)

-- each piece of a path lies within a step over it
stay_inside : (e f l s t : ℕ) (d : Curve) (a : PlainNode) (path : List PlainNode) → ArePlainSteps (a ∷ path) → 0 < d.span → d.start ≤ a.at → (last_of a path).at ≤ d.start + d.span →
    Each (λ x. stays_near e d x ≡ true) (pieces_between s t (a ∷ path)) → Each (StaysInside e d) (pieces_between f l (a ∷ path))
stay_inside e f l s t d a [] steps some from to each = tt
stay_inside e f l s t d a (b ∷ path) steps some from to each =
    let h = steps.0 in
    let up = h.rises in
    let rest = upto_last b path steps.1 in (
      (
        record {
          own = record { some = omega (arith, up); from = omega arith; to = omega (arith, up) };
          longer = record { some = some; from = from; to = omega (arith, rest, to) };
        },
        each.0,
      ),
      stay_inside e f l s t d b path steps.1 some (omega (arith, up, from)) to each.1,
    )

-- the pieces of states are those up to one and those from it on
pub pieces_split : (f l : ℕ) (a b : PlainNode) (out xs : List PlainNode) → pieces_between f l (a ∷ (out ++ b ∷ xs)) ≡ pieces_between f l (a ∷ (out ++ b ∷ [])) ++ pieces_between f l (b ∷ xs)
pieces_split f l a b [] xs = refl
pieces_split f l a b (c ∷ out) xs = ap (λ ys. record { from = a; to = c; first = f; last = l } ∷ ys) (pieces_split f l c b out xs)

-- between two states a step is near to what it leaves out
over_step : (e m n k f l : ℕ) (a b c : PlainNode) (path : List PlainNode) → 10 ^ 9 ≤ e → ArePlainSteps (a ∷ c ∷ path) → last_of c path ≡ b → f ≤ m → m ≤ l → a.at ≤ m → m ≤ b.at →
    all_near e (curve_between a b) (a ∷ c ∷ path) ≡ true →
    AreCovered e m n k (pieces_between f l (a ∷ c ∷ path)) (pieces_between f l (a ∷ b ∷ []))
unfolding all_near
over_step e m n k f l a b c path big steps ends after before low high near =
    let h = steps.0 in
    let far = upto_last c path steps.1 in
    let end : (last_of c path).at ≡ b.at = ap (λ (x : PlainNode). x.at) ends in
    let d = curve_between a b in
    let each = stay_inside e f l 0 0 d a (c ∷ path) steps (omega (arith, h.rises, far, end)) (omega arith) (omega (arith, h.rises, far, end))
    (each_from_list_all (stays_near e d) (pieces_between 0 0 (a ∷ c ∷ path)) near) in
    let old = covered (StaysInside e d) m n f l a c path steps after before low (omega (arith, high, end)) each in
    let y : PlainPiece = record { from = a; to = b; first = f; last = l } in
    let x = old.piece in
    let inside = old.so.0.0 in
    record {
      one = (old.number, old.piece);
      other = (k, y);
      first = old.is;
      second = last_first m k y [] (covers_if m y low high after before) tt;
      near = near_at e (curve_of_piece x) d x.from.at x.to.at m big inside.own inside.longer old.so.1.0 old.so.1.1 old.so.0.1;
    }

-- and where it leaves out nothing it is the same
pub in_step : (e m n k f l : ℕ) (a b : PlainNode) (out : List PlainNode) → 10 ^ 9 ≤ e → MayStep e a b out → ArePlainSteps (a ∷ (out ++ b ∷ [])) → f ≤ m → m ≤ l → a.at ≤ m → m ≤ b.at →
    AreCovered e m n k (pieces_between f l (a ∷ (out ++ b ∷ []))) (pieces_between f l (a ∷ b ∷ []))
in_step e m n k f l a b [] big (next none) steps after before low high =
    let y : PlainPiece = record { from = a; to = b; first = f; last = l } in
    record {
      one = (n, y);
      other = (k, y);
      first = last_first m n y [] (covers_if m y low high after before) tt;
      second = last_first m k y [] (covers_if m y low high after before) tt;
      near = within_itself (curve_of_piece y) e m;
    }
in_step e m n k f l a b (c ∷ out) big (next none) steps after before low high = absurd cc
in_step e m n k f l a b [] big (over short near) steps after before low high = over_step e m n k f l a b b [] big steps refl after before low high near
in_step e m n k f l a b (c ∷ out) big (over short near) steps after before low high = over_step e m n k f l a b c (out ++ b ∷ []) big steps (last_behind_out c b out []) after before low high near

-- what two lists give at a tick, more may stand in front of them, and more that misses it behind
pub covered_before : (e m n k : ℕ) (xs ys us bs : List PlainPiece) → Misses m us → Misses m bs → AreCovered e m n k xs ys → AreCovered e m n k (xs ++ us) (ys ++ bs)
covered_before e m n k xs ys us bs h j c = record {
  one = c.one;
  other = c.other;
  first = last_before m n xs us h ∙ c.first;
  second = last_before m k ys bs j ∙ c.second;
  near = c.near;
}

pub covered_behind : (e m n k : ℕ) (xs ys us bs : List PlainPiece) → AreCovered e m (n + length us) (k + length bs) xs ys → AreCovered e m n k (us ++ xs) (bs ++ ys)
covered_behind e m n k xs ys us bs c = record {
  one = c.one;
  other = c.other;
  first = last_behind m n (n + length us) c.one us xs refl c.first;
  second = last_behind m k (k + length bs) c.other bs ys refl c.second;
  near = c.near;
}

-- a tick lies from the first of these states to the last
abbrev pub FromTo : ℕ → List PlainNode → Type 0
FromTo m [] = ⊥
FromTo m (a ∷ path) = (a.at ≤ m) × (m ≤ (last_of a path).at)

-- at each tick of the useable span, from the first state to the last, the same of the states that are kept
pub covered_alike : (e m f l : ℕ) (xs ys : List PlainNode) → 10 ^ 9 ≤ e → Thins e xs ys → ArePlainSteps xs → f ≤ m → m ≤ l → FromTo m xs → (n k : ℕ) → AreCovered e m n k (pieces_between f l xs) (pieces_between f l ys)
covered_alike e m f l _ _ big (last a b out may) steps after before ends n k =
    let to : last_of a (out ++ b ∷ []) ≡ b = last_behind_out a b out [] in
    in_step e m n k f l a b out big may steps after before ends.0 (subst (λ (x : PlainNode). m ≤ x.at) to ends.1)
covered_alike e m f l _ _ big (step a b out xs ys may rest) steps after before ends n k = elim (cases_lt m b.at) [
  | inl lt ↦
      let behind : ArePlainSteps (b ∷ xs) = steps_behind a b out xs steps in
      subst (λ (ps : List PlainPiece). AreCovered e m n k ps (pieces_between f l (a ∷ b ∷ ys))) (sym (pieces_split f l a b out xs))
      (covered_before e m n k (pieces_between f l (a ∷ (out ++ b ∷ []))) (pieces_between f l (a ∷ b ∷ [])) (pieces_between f l (b ∷ xs)) (pieces_between f l (b ∷ ys))
      (later_states m f l b xs behind lt) (later_states m f l b ys (kept_steps e (b ∷ xs) (b ∷ ys) rest behind) lt)
      (in_step e m n k f l a b out big may (steps_until a b out xs steps) after before ends.0 (omega (arith, lt))))
  | inr le ↦
      let to : last_of a (out ++ b ∷ xs) ≡ last_of b xs = last_behind_out a b out xs in
      subst (λ (ps : List PlainPiece). AreCovered e m n k ps (pieces_between f l (a ∷ b ∷ ys))) (sym (pieces_split f l a b out xs))
      (covered_behind e m n k (pieces_between f l (b ∷ xs)) (pieces_between f l (b ∷ ys)) (pieces_between f l (a ∷ (out ++ b ∷ []))) (pieces_between f l (a ∷ b ∷ []))
      (covered_alike e m f l (b ∷ xs) (b ∷ ys) big rest (steps_behind a b out xs steps) after before (le, subst (λ (x : PlainNode). m ≤ x.at) to ends.1)
      (n + length (pieces_between f l (a ∷ (out ++ b ∷ [])))) (k + length (pieces_between f l (a ∷ b ∷ [])))))
]
