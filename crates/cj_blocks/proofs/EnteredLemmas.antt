-- The pairs that are entered for each object.
use Rattle.std.proofs.Common.{◌≡◌, ℕ, zero, suc, ◌<◌, Bool, true, false, cond, eqb, List, [], ◌∷◌, ◌++◌, length, map, filter, slice_index_or, slice_set, Vec, Global, refl, sym, ap, ◌∙◌, inl, inr, arith}
use Rattle.std.specs.Prelude.{◌==◌, ◌||◌, ◌⊎◌}
use Rattle.std.proofs.lemmas.Bool.{cases_eq, eq-eqb}
use Rattle.std.proofs.lemmas.List.{map-append}
use Rattle.std.proofs.lemmas.List.Elements.{filter-append}
use Rattle.cj_case.specs.declared.pair.Pair.{Pair}
use Rattle.cj_case.specs.Pairs.{objects_of}
use Rattle.cj_blocks.specs.Blocks.{is_pair_of}
use Rattle.cj_blocks.specs.PairsByObject.{pairs_at}
use Rattle.cj_blocks.proofs.CurrentLemmas.{other_number}

abbrev items_of : List (Vec Pair Global) → List (List Pair)
items_of lists = map (λ list. list.items) lists

pub entered : (lists : List (Vec Pair Global)) (object k : ℕ) (list d : Vec Pair Global) (pair : Pair) → object < length lists → list.items ≡ (slice_index_or lists object d).items ++ pair ∷ []
    → pairs_at (map (λ list. list.items) (slice_set lists object list)) k ≡ cond (k == object) (pairs_at (map (λ list. list.items) lists) k ++ pair ∷ []) (pairs_at (map (λ list. list.items) lists) k)
entered [] object k list d pair exists new = absurd (omega arith)
entered (l ∷ lists) zero zero list d pair exists new = new
entered (l ∷ lists) zero (suc k) list d pair exists new = ap (λ (c : Bool). cond c (pairs_at (map (λ list. list.items) lists) k ++ pair ∷ []) (pairs_at (map (λ list. list.items) lists) k)) (sym (other_number (suc k) 0 (λ e. absurd (omega arith))))
entered (l ∷ lists) (suc object) zero list d pair exists new = ap (λ (c : Bool). cond c (l.items ++ pair ∷ []) l.items) (sym (other_number 0 (suc object) (λ e. absurd (omega arith))))
entered (l ∷ lists) (suc object) (suc k) list d pair exists new =
    entered lists object k list d pair (omega arith) new
    ∙ ap (λ (c : Bool). cond c (pairs_at (map (λ list. list.items) lists) k ++ pair ∷ []) (pairs_at (map (λ list. list.items) lists) k)) (next (cases_eq k object))
  where
    next : (k ≡ object) ⊎ (k ≡ object → ⊥) → eqb k object ≡ eqb (suc k) (suc object)
    next (inl same) = eq-eqb k object same ∙ sym (eq-eqb (suc k) (suc object) (ap suc same))
    next (inr apart) = other_number k object apart ∙ sym (other_number (suc k) (suc object) (λ e. apart (omega arith)))

pub one_empty_more : (lists : List (Vec Pair Global)) (list : Vec Pair Global) → list.items ≡ [] → ((object : ℕ) → pairs_at (map (λ list. list.items) lists) object ≡ [])
    → (object : ℕ) → pairs_at (map (λ list. list.items) (lists ++ list ∷ [])) object ≡ []
one_empty_more [] list empty before zero = empty
one_empty_more [] list empty before (suc object) = refl
one_empty_more (l ∷ lists) list empty before zero = before 0
one_empty_more (l ∷ lists) list empty before (suc object) = one_empty_more lists list empty (λ k. before (suc k)) object

-- the pairs of an object k, when a pair is entered for both its objects
pub both_entered : (k : ℕ) (pair : Pair) (old one two : List Pair) (done : List Pair) → one ≡ cond (k == pair.a) (old ++ pair ∷ []) old → two ≡ cond (k == pair.b) (one ++ pair ∷ []) one
    → map objects_of old ≡ filter (is_pair_of k) (map objects_of done) → map objects_of two ≡ filter (is_pair_of k) (map objects_of (done ++ pair ∷ []))
both_entered k pair old one two done first second before =
    elim (cases_eq k pair.a) [
      | inl same ↦
          let up = pair.ordered in
          let at : eqb k pair.a ≡ true = eq-eqb k pair.a same in
          let none : eqb k pair.b ≡ false = other_number k pair.b (λ e. absurd (omega arith)) in
          let is : two ≡ old ++ pair ∷ [] = second ∙ ap (λ (c : Bool). cond c (one ++ pair ∷ []) one) none ∙ first ∙ ap (λ (c : Bool). cond c (old ++ pair ∷ []) old) at in
          let told : is_pair_of k (objects_of pair) ≡ true = ap (λ (c : Bool). c || eqb pair.b k) (eq-eqb pair.a k (sym same)) in
          taken told is
      | inr other ↦ elim (cases_eq k pair.b) [
        | inl same ↦
            let none : eqb k pair.a ≡ false = other_number k pair.a other in
            let at : eqb k pair.b ≡ true = eq-eqb k pair.b same in
            let kept : one ≡ old = first ∙ ap (λ (c : Bool). cond c (old ++ pair ∷ []) old) none in
            let is : two ≡ old ++ pair ∷ [] = second ∙ ap (λ (c : Bool). cond c (one ++ pair ∷ []) one) at ∙ ap (λ (ps : List Pair). ps ++ pair ∷ []) kept in
            let none_first : eqb pair.a k ≡ false = other_number pair.a k (λ e. other (sym e)) in
            let at_second : eqb pair.b k ≡ true = eq-eqb pair.b k (sym same) in
            let told : is_pair_of k (objects_of pair) ≡ true = (λ i. none_first i || at_second i) in
            taken told is
        | inr apart ↦
            let none : eqb k pair.a ≡ false = other_number k pair.a other in
            let none' : eqb k pair.b ≡ false = other_number k pair.b apart in
            let is : two ≡ old = second ∙ ap (λ (c : Bool). cond c (one ++ pair ∷ []) one) none' ∙ first ∙ ap (λ (c : Bool). cond c (old ++ pair ∷ []) old) none in
            let none_first : eqb pair.a k ≡ false = other_number pair.a k (λ e. other (sym e)) in
            let none_second : eqb pair.b k ≡ false = other_number pair.b k (λ e. apart (sym e)) in
            let told : is_pair_of k (objects_of pair) ≡ false = (λ i. none_first i || none_second i) in
            left_out told is
      ]
    ]
  where
    whole : filter (is_pair_of k) (map objects_of (done ++ pair ∷ [])) ≡ filter (is_pair_of k) (map objects_of done) ++ cond (is_pair_of k (objects_of pair)) (objects_of pair ∷ []) []
    whole = ap (filter (is_pair_of k)) (map-append objects_of done (pair ∷ [])) ∙ filter-append (is_pair_of k) (map objects_of done) (objects_of pair ∷ [])

    none_more : (ps : List (ℕ × ℕ)) → ps ++ [] ≡ ps
    none_more [] = refl
    none_more (p ∷ ps) = ap (λ (qs : List (ℕ × ℕ)). p ∷ qs) (none_more ps)

    taken : is_pair_of k (objects_of pair) ≡ true → two ≡ old ++ pair ∷ [] → map objects_of two ≡ filter (is_pair_of k) (map objects_of (done ++ pair ∷ []))
    taken told is =
        ap (map objects_of) is ∙ map-append objects_of old (pair ∷ []) ∙ ap (λ (ps : List (ℕ × ℕ)). ps ++ objects_of pair ∷ []) before
        ∙ ap (λ (c : Bool). filter (is_pair_of k) (map objects_of done) ++ cond c (objects_of pair ∷ []) []) (sym told) ∙ sym whole

    left_out : is_pair_of k (objects_of pair) ≡ false → two ≡ old → map objects_of two ≡ filter (is_pair_of k) (map objects_of (done ++ pair ∷ []))
    left_out told is =
        ap (map objects_of) is ∙ before ∙ sym (none_more (filter (is_pair_of k) (map objects_of done)))
        ∙ ap (λ (c : Bool). filter (is_pair_of k) (map objects_of done) ++ cond c (objects_of pair ∷ []) []) (sym told) ∙ sym whole
