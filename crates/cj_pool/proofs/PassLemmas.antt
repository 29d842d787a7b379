-- Rows of passes in which one changes.
use Rattle.std.proofs.Common.{◌≡◌, ℕ, zero, suc, ◌+◌, ◌-◌, ◌<◌, List, [], ◌∷◌, ◌++◌, length, set, get_or, map, take, drop, refl, sym, ap, ◌∙◌, arith, length-append}
use Rattle.std.proofs.lemmas.List.{length-map, map-set, set-get_or, get_or_append_left, set-append_left, take_at, take_rest}
use Rattle.cj_case.specs.declared.cell.Cell.{Cell}
use Rattle.cj_pool.specs.Passes.{TookOne, around}

module _ {X Y : Type 0} where
  -- the element at a place of a list of images
  pub map_get : (f : X → Y) (xs : List X) (i : ℕ) (x : X) (d : Y) → i < length xs → x ≡ get_or xs i x → get_or (map f xs) i d ≡ f x
  map_get f [] i x d lt is = absurd (omega arith)
  map_get f (z ∷ zs) zero x d lt is = ap f (sym is)
  map_get f (z ∷ zs) (suc i) x d lt is = map_get f zs i x d (omega arith) is

  -- an element that changed, where its image did not
  pub map_set_same : (f : X → Y) (xs : List X) (i : ℕ) (x y : X) → i < length xs → x ≡ get_or xs i x → f y ≡ f x → map f (set xs i y) ≡ map f xs
  map_set_same f xs i x y lt is same =
      map-set f xs i y ∙ ap (set (map f xs) i) (same ∙ sym (map_get f xs i x (f x) lt is)) ∙ set-get_or (map f xs) i (f x)

  -- an element whose image became another
  pub map_set_other : (f : X → Y) (xs : List X) (i : ℕ) (y : X) (v : Y) → f y ≡ v → map f (set xs i y) ≡ set (map f xs) i v
  map_set_other f xs i y v is = map-set f xs i y ∙ ap (set (map f xs) i) is

  pub map_drop : (f : X → Y) (n : ℕ) (xs : List X) → map f (drop n xs) ≡ drop n (map f xs)
  map_drop f zero xs = refl
  map_drop f (suc n) [] = refl
  map_drop f (suc n) (x ∷ xs) = map_drop f n xs

  pub map_take : (f : X → Y) (n : ℕ) (xs : List X) → map f (take n xs) ≡ take n (map f xs)
  map_take f zero xs = refl
  map_take f (suc n) [] = refl
  map_take f (suc n) (x ∷ xs) = ap (λ ys. f x ∷ ys) (map_take f n xs)

  -- a slice from a place on
  pub map_from : (f : X → Y) (n : ℕ) (xs : List X) → map f (take (length xs - n) (drop n xs)) ≡ drop n (map f xs)
  map_from f n xs = ap (map f) (take_rest xs n) ∙ map_drop f n xs

-- two lists of equal images have equal images at a place
pub same_at : {X Y Z : Type 0} (f : X → Z) (g : Y → Z) (xs : List X) (ys : List Y) (i : ℕ) (x : X) (y : Y) → map f xs ≡ map g ys → i < length xs → i < length ys → x ≡ get_or xs i x → y ≡ get_or ys i y → f x ≡ g y
same_at f g xs ys i x y e a b is_x is_y = sym (map_get f xs i x (f x) a is_x) ∙ ap (λ zs. get_or zs i (f x)) e ∙ map_get g ys i y (f x) b is_y

pub lengths : {X Y Z : Type 0} (f : X → Z) (g : Y → Z) (xs : List X) (ys : List Y) → map f xs ≡ map g ys → length xs ≡ length ys
lengths f g xs ys e = sym (length-map xs f) ∙ ap length e ∙ length-map ys g

-- what is below and above, of what stands around
pub below_of : {X : Type 0} (below : List X) (own : X) (above all : List X) (n : ℕ) → length below ≡ n → around below own above ≡ all → below ≡ take n all
below_of below own above all n len is = sym (take_at below (own ∷ above) n len) ∙ ap (take n) is

pub above_of : {X : Type 0} (below : List X) (own : X) (above all : List X) (n : ℕ) → length below ≡ n → around below own above ≡ all → above ≡ drop (n + 1) all
above_of [] own above all n len is = let e : n ≡ 0 = sym len in rw e (ap (drop 1) is)
above_of (x ∷ xs) own above [] n len is = absurd (cc)
above_of (x ∷ xs) own above (y ∷ ys) n len is =
    let e : n + 1 ≡ suc (length xs + 1) = omega (arith, len) in
    rw e (above_of xs own above ys (length xs) refl (ap (drop 1) is))

-- a cell that was taken below, by the own pass, or above, was taken by one of all passes
pub took_below : (below below' : List (List Cell)) (own : List Cell) (above : List (List Cell)) (c : Cell) → TookOne below below' c → TookOne (around below own above) (around below' own above) c
took_below below below' own above c t =
    let d = t.0 in
    let last = own ∷ above in
    let same : get_or (below ++ last) d [] ≡ get_or below d [] = get_or_append_left below last [] d t.1 in
    let len = length-append below last in (
      d,
      omega (arith, t.1, len),
      ap (λ xs. xs ++ last) t.2 ∙ sym (set-append_left below last d (get_or below d [] ++ c ∷ []) t.1) ∙ ap (λ (v : List Cell). set (below ++ last) d (v ++ c ∷ [])) (sym same),
    )

pub took_own : (below : List (List Cell)) (own : List Cell) (above : List (List Cell)) (c : Cell) → TookOne (around below own above) (around below (own ++ c ∷ []) above) c
took_own [] own above c = (0, omega arith, refl)
took_own (x ∷ xs) own above c = let t = took_own xs own above c in (suc t.0, omega (arith, t.1), ap (λ ys. x ∷ ys) t.2)

took_later : (x : List Cell) (xs ys : List (List Cell)) (c : Cell) → TookOne xs ys c → TookOne (x ∷ xs) (x ∷ ys) c
took_later x xs ys c t = (suc t.0, omega (arith, t.1), ap (λ zs. x ∷ zs) t.2)

pub took_above : (below : List (List Cell)) (own : List Cell) (above above' : List (List Cell)) (c : Cell) → TookOne above above' c → TookOne (around below own above) (around below own above') c
took_above [] own above above' c t = took_later own above above' c t
took_above (x ∷ xs) own above above' c t = took_later x (around xs own above) (around xs own above') c (took_above xs own above above' c t)
