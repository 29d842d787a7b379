-- What stands at places, and what comes of the parts of a list.
use Rattle.std.proofs.Common.{◌≡◌, ℕ, zero, suc, ◌+◌, ◌*◌, ◌<◌, ◌≤◌, List, [], ◌∷◌, ◌++◌, length, take, drop, get_or, set, replicate, map, refl, sym, ap, subst, ◌∙◌, arith, append_assoc, ⊎_elim, suc-mul, zero-mul}
use Rattle.std.specs.Prelude.{Option, Some, None, Result, Ok, Err, IfOk, All}
use Rattle.std.specs.Borrow.{Bor}
use Rattle.std.specs.declared.alloc.AllocError.{AllocError}
use Rattle.std.specs.Fn.{Shared, FnReturns}
use Rattle.std.proofs.lemmas.Bool.{cases_eq, cases_lt}
use Rattle.std.proofs.lemmas.List.{drop-drop, length-drop, length-map, take-append-drop, nil_from_length, get_or-map, get_or-set_same, get_or-set_other, get_or_append_left, get_or_push, get_or-append-add, length-append, map_push}
use Rattle.cj_threads.specs.Dealing.{HoldWhatIsDone, IsPartOf, GivesPart, ComeInTurn, ComeOfParts}

module _ {F X : Type 0} (g : Shared F (ℕ × Unit {0}) X) (f : F) where
  none_at : (count i : ℕ) → ◌≡◌ {A = Option X} (get_or (replicate count None) i None) None
  none_at zero i = refl
  none_at (suc count) zero = refl
  none_at (suc count) (suc i) = none_at count i

  -- where nothing stands, nothing is claimed
  pub nothing_held : (count : ℕ) → HoldWhatIsDone g f (replicate count None)
  nothing_held count i x is = let e : None ≡ Some x = sym (none_at count i) ∙ is in absurd cc

  abbrev value_or : X → Option X → X
  value_or y (Some x) = x
  value_or y None = y

  -- what came of a number is put at its place
  pub one_more_held : (places : List (Option X)) (number : ℕ) (y : X) → number < length places → FnReturns g f (number, tt) y → HoldWhatIsDone g f places
      → HoldWhatIsDone g f (set places number (Some y))
  one_more_held places number y within came held i x is = ⊎_elim here there (cases_eq i number)
    where
      here : i ≡ number → FnReturns g f (i, tt) x
      here same =
          let at : get_or (set places number (Some y)) i None ≡ Some y =
          ap (λ (k : ℕ). get_or (set places number (Some y)) k None) same ∙ get_or-set_same places number (Some y) None within in
          let value : y ≡ x = ap (value_or y) (sym at ∙ is) in
          subst (λ (k : ℕ). FnReturns g f (k, tt) x) (sym same) (subst (FnReturns g f (number, tt)) value came)

      there : (i ≡ number → ⊥) → FnReturns g f (i, tt) x
      there other = held i x (sym (get_or-set_other places number i (Some y) None other) ∙ is)

  -- what came of the next number is put behind those before
  pub each_more : (n : ℕ) (xs : List X) (y : X) → length xs ≡ n → FnReturns g f (n, tt) y → ((k : ℕ) (d : X) → k < n → FnReturns g f (k, tt) (get_or xs k d))
      → (k : ℕ) (d : X) → k < n + 1 → FnReturns g f (k, tt) (get_or (xs ++ y ∷ []) k d)
  each_more n xs y len came each k d lt = ⊎_elim before last (cases_lt k n)
    where
      before : k < n → FnReturns g f (k, tt) (get_or (xs ++ y ∷ []) k d)
      before below = subst (FnReturns g f (k, tt)) (sym (get_or_append_left xs (y ∷ []) d k (omega (arith, below, len)))) (each k d below)

      last : n ≤ k → FnReturns g f (k, tt) (get_or (xs ++ y ∷ []) k d)
      last above =
          let same : n ≡ k = omega (arith, lt, above) in
          subst (λ (j : ℕ). FnReturns g f (j, tt) (get_or (xs ++ y ∷ []) j d)) same (subst (FnReturns g f (n, tt)) (sym (get_or_push xs y d n len)) came)

-- what was made, and the outputs that are left, when one more is made
pub made_more : {X E : Type 0} (made : List X) (x : X) (output : Result X E) (left rest all : List (Result X E)) → left ≡ output ∷ rest → output ≡ Ok x
    → map Ok made ++ left ≡ all → map Ok (made ++ x ∷ []) ++ rest ≡ all
made_more {X} {E} made x output left rest all first is whole =
    let so_far : List (Result X E) = map Ok made in
    ap (λ (rs : List (Result X E)). rs ++ rest) (map_push Ok made x) ∙ append_assoc so_far (Ok x ∷ []) rest
    ∙ ap (λ (rs : List (Result X E)). so_far ++ rs) (ap (λ (r : Result X E). r ∷ rest) (sym is) ∙ sym first) ∙ whole

-- as many were made as there are outputs
pub as_many : {X E : Type 0} (made : List X) (outputs : List (Result X E)) → map Ok made ≡ outputs → length made ≡ length outputs
as_many {X} {E} made outputs same = sym (length-map {B = Result X E} made Ok) ∙ ap length same

-- some elements after others are a part
pub is_part : {T : Type 0} (list part : List T) (start size : ℕ) → part ≡ take size (drop start list) → IsPartOf list part
is_part list part start size is =
    let others = drop start list in
    record {
      front = take start list;
      back = drop size others;
      whole = sym (take-append-drop start list) ∙ ap (λ es. take start list ++ es) (sym (take-append-drop size others) ∙ ap (λ es. es ++ drop size others) (sym is));
    }

-- what holds of all elements holds of those of a part
pub all_of_part : {T : Type 0} (P : T → Type 0) (list part : List T) → All P list → IsPartOf list part → All P part
all_of_part P list part all is k d lt =
    let at : get_or list (length is.front + k) d ≡ get_or part k d =
    ap (λ es. get_or es (length is.front + k) d) is.whole ∙ get_or-append-add is.front (part ++ is.back) k d ∙ get_or_append_left part is.back d k lt in
    subst P at (all (length is.front + k) d (omega (arith, lt, ap length is.whole, length-append is.front (part ++ is.back), length-append part is.back)))

module _ {F T X : Type 0} (g : Shared F (Bor (List T) × Unit {0}) (Result X AllocError)) (f : F) (size : ℕ) where
  -- the next part of a list is the part before it of what is behind the first
  part_behind : (list : List T) (number : ℕ) (result : Result X AllocError) → GivesPart g f size list (suc number) result → GivesPart g f size (drop size list) number result
  part_behind list number result given =
      record {
        part = given.part;
        is = given.is ∙ ap (take size) (ap (λ (n : ℕ). drop n list) {x = suc number * size} (omega (arith, suc-mul number size)) ∙ sym (drop-drop (number * size) size list));
        call = given.call;
      }

  by_parts : (list : List T) (made : List X) → ((i : ℕ) (d : X) → i < length made → GivesPart g f size list i (Ok (get_or made i d))) → length list ≤ length made * size
      → ComeInTurn g f list made
  by_parts list [] each covers = nil_from_length list (omega (arith, zero-mul size))
  by_parts list (x ∷ xs) each covers =
      let first = each 0 x (omega arith) in
      let at : drop (0 * size) list ≡ list = ap (λ (n : ℕ). drop n list) (zero-mul size) in (
        drop size list,
        record {
          part = first.part;
          whole = sym (take-append-drop size list) ∙ ap (λ es. es ++ drop size list) (ap (take size) (sym at) ∙ sym first.is);
          call = first.call;
        },
        by_parts (drop size list) xs (λ i d lt. part_behind list i (Ok (get_or xs i d)) (each (suc i) d (omega (arith, lt))))
            (omega (arith, covers, suc-mul (length xs) size, length-drop size list)),
      )

  -- what was made of each part came of the parts, one behind another, if they are enough
  pub by_parts_made : (list : List T) (made : List X) (outputs : List (Result X AllocError)) → map Ok made ≡ outputs
      → ((i : ℕ) (d : Result X AllocError) → i < length outputs → GivesPart g f size list i (get_or outputs i d)) → length list ≤ length outputs * size
      → ComeOfParts g f list made
  by_parts_made list made outputs same each covers =
      let many = as_many made outputs same in
      record {
        in_turn = by_parts list made
            (λ i d lt. subst (GivesPart g f size list i) (ap (λ (rs : List (Result X AllocError)). get_or rs i (Ok d)) (sym same) ∙ get_or-map Ok made i d (Ok d) lt) (each i (Ok d) (omega (arith, many, lt))))
            (subst (λ (n : ℕ). length list ≤ n * size) (sym many) covers);
      }

module _ {F T X : Type 0} (g : Shared F (Bor (List T) × Unit {0}) (Result X AllocError)) (f : F) (C : List T → List X → Type 0) where
  -- what holds of nothing, and of one part before others where it holds of those, holds of what came of the parts of a list
  pub parts_together : C [] [] → ((part : Bor (List T)) (rest : List T) (x : X) (xs : List X) → FnReturns g f (part, tt) (Ok x) → C rest xs → C (part.now ++ rest) (x ∷ xs))
      → (list : List T) (outputs : List X) → ComeOfParts g f list outputs → C list outputs
  parts_together none more list outputs come = go list outputs come.in_turn
    where
      go : (es : List T) (xs : List X) → ComeInTurn g f es xs → C es xs
      go es [] nothing = subst (λ (ts : List T). C ts []) (sym nothing) none
      go es (x ∷ xs) parts =
          let first = parts.1 in
          subst (λ (ts : List T). C ts (x ∷ xs)) (sym first.whole) (more first.part parts.0 x xs first.call (go parts.0 xs parts.2))

-- of two facts of what was made comes a third
pub both_ok : {T E : Type 0} (r : Result T E) (P Q R : T → Type 0) → ((x : T) → P x → Q x → R x) → IfOk r P → IfOk r Q → IfOk r R
both_ok (Ok x) P Q R from one other = from x one other
both_ok (Err e) P Q R from one other = tt
