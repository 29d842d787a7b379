-- Of a list the elements that pass a test, one after another.
use Rattle.std.proofs.Common.{◌≡◌, ℕ, ◌+◌, ◌<◌, ◌++◌, Bool, true, false, cond, List, [], ◌∷◌, length, get_or, map, take, filter, sym, ap, ◌∙◌, arith, append-nil, length-append}
use Rattle.std.proofs.lemmas.List.{take_more, map_push}
use Rattle.std.proofs.lemmas.List.Elements.{filter-append}

module _ {X Y : Type 0} (f : X → Y) (test : Y → Bool) (xs : List X) (k : ℕ) (x : X) (lt : k < length xs) (is : x ≡ get_or xs k x) where
  next : filter test (map f (take (k + 1) xs)) ≡ filter test (map f (take k xs)) ++ cond (test (f x)) (f x ∷ []) []
  next =
      ap (λ (ys : List X). filter test (map f ys)) (take_more xs k x lt ∙ ap (λ (y : X). take k xs ++ y ∷ []) (sym is))
      ∙ ap (filter test) (map_push f (take k xs) x)
      ∙ filter-append test (map f (take k xs)) (f x ∷ [])

  -- one that passes is one more
  pub selected : test (f x) ≡ true → filter test (map f (take (k + 1) xs)) ≡ filter test (map f (take k xs)) ++ f x ∷ []
  selected passes = next ∙ ap (λ (c : Bool). filter test (map f (take k xs)) ++ cond c (f x ∷ []) []) passes

  -- one that fails is none
  pub left_out : test (f x) ≡ false → filter test (map f (take (k + 1) xs)) ≡ filter test (map f (take k xs))
  left_out fails = next ∙ ap (λ (c : Bool). filter test (map f (take k xs)) ++ cond c (f x ∷ []) []) fails ∙ append-nil (filter test (map f (take k xs)))

  pub selected_count : (n : ℕ) → n ≡ length (filter test (map f (take k xs))) → test (f x) ≡ true → n + 1 ≡ length (filter test (map f (take (k + 1) xs)))
  selected_count n so_far passes = let more = ap length (selected passes) in omega (arith, so_far, more, length-append (filter test (map f (take k xs))) (f x ∷ []))

  pub left_count : (n : ℕ) → n ≡ length (filter test (map f (take k xs))) → test (f x) ≡ false → n ≡ length (filter test (map f (take (k + 1) xs)))
  left_count n so_far fails = so_far ∙ sym (ap length (left_out fails))
