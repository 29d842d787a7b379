-- What things give that are numbered in their order.
use Rattle.std.proofs.Common.{◌≡◌, ℕ, ◌+◌, ◌<◌, List, [], ◌∷◌, ◌++◌, length, map, take, drop, get_or, ap, sym, ◌∙◌, append-nil, append_assoc, length-take, arith}
use Rattle.std.proofs.lemmas.List.{length-map, map-append, map_more, drop_more, take-append-drop}
use Rattle.cj_report.specs.Report.{numbered}

numbered-push : {A B : Type 0} (text : ℕ → A → List B) (n : ℕ) (xs : List A) (x : A) → numbered text n (xs ++ x ∷ []) ≡ numbered text n xs ++ text (n + length xs) x
numbered-push text n [] x =
    let e : n + 0 ≡ n = omega arith in
    append-nil (text n x) ∙ ap (λ m. text m x) (sym e)
numbered-push text n (y ∷ xs) x =
    let e : n + 1 + length xs ≡ n + length (y ∷ xs) = omega arith in
    ap (λ t. text n y ++ t) (numbered-push text (n + 1) xs x ∙ ap (λ m. numbered text (n + 1) xs ++ text m x) e)
    ∙ sym (append_assoc (text n y) (numbered text (n + 1) xs) (text (n + length (y ∷ xs)) x))

-- the text after the things before place i, and then after that one
pub numbered_step : {A B C : Type 0} (text : ℕ → A → List C) (f : B → A) (xs : List B) (i : ℕ) (x : B) (old was now : List C) → i < length xs → x ≡ get_or xs i x →
    was ≡ old ++ numbered text 1 (map f (take i xs)) → now ≡ was ++ text (i + 1) (f x) → now ≡ old ++ numbered text 1 (map f (take (i + 1) xs))
numbered_step text f xs i x old was now short is before step =
    let count : 1 + length (map f (take i xs)) ≡ i + 1 = omega (arith, length-map (take i xs) f, length-take i xs, short) in
    let more = map_more f xs i x short ∙ ap (λ y. map f (take i xs) ++ f y ∷ []) (sym is) in
    let all = ap (numbered text 1) more ∙ (numbered-push text 1 (map f (take i xs)) (f x) ∙ ap (λ m. numbered text 1 (map f (take i xs)) ++ text m (f x)) count) in
    step ∙ (ap (λ t. t ++ text (i + 1) (f x)) before ∙ (append_assoc old (numbered text 1 (map f (take i xs))) (text (i + 1) (f x)) ∙ ap (λ t. old ++ t) (sym all)))

numbered-append : {A B : Type 0} (text : ℕ → A → List B) (n : ℕ) (xs ys : List A) → numbered text n (xs ++ ys) ≡ numbered text n xs ++ numbered text (n + length xs) ys
numbered-append text n [] ys = let e : n ≡ n + 0 = omega arith in ap (λ m. numbered text m ys) e
numbered-append text n (x ∷ xs) ys =
    let e : n + 1 + length xs ≡ n + length (x ∷ xs) = omega arith in
    ap (λ t. text n x ++ t) (numbered-append text (n + 1) xs ys ∙ ap (λ m. numbered text (n + 1) xs ++ numbered text m ys) e)
    ∙ sym (append_assoc (text n x) (numbered text (n + 1) xs) (numbered text (n + length (x ∷ xs)) ys))

-- all that things give: what those before place i do, that one, and those behind it
pub numbered_parts : {A B C : Type 0} (text : ℕ → A → List C) (f : B → A) (xs : List B) (i : ℕ) (x : B) → i < length xs → x ≡ get_or xs i x →
    numbered text 1 (map f xs) ≡ numbered text 1 (map f (take i xs)) ++ (text (i + 1) (f x) ++ numbered text (i + 2) (map f (drop (i + 1) xs)))
numbered_parts text f xs i x short is =
    let count : 1 + length (map f (take i xs)) ≡ i + 1 = omega (arith, length-map (take i xs) f, length-take i xs, short) in
    let behind : drop i xs ≡ x ∷ drop (i + 1) xs = drop_more xs i x short ∙ ap (λ y. y ∷ drop (i + 1) xs) (sym is) in
    let parted : xs ≡ take i xs ++ x ∷ drop (i + 1) xs = sym (take-append-drop i xs) ∙ ap (λ ys. take i xs ++ ys) behind in
    let next : i + 1 + 1 ≡ i + 2 = omega arith in
    ap (λ ys. numbered text 1 (map f ys)) parted
    ∙ ap (numbered text 1) (map-append f (take i xs) (x ∷ drop (i + 1) xs))
    ∙ numbered-append text 1 (map f (take i xs)) (f x ∷ map f (drop (i + 1) xs))
    ∙ ap (λ m. numbered text 1 (map f (take i xs)) ++ numbered text m (f x ∷ map f (drop (i + 1) xs))) count
    ∙ ap (λ m. numbered text 1 (map f (take i xs)) ++ (text (i + 1) (f x) ++ numbered text m (map f (drop (i + 1) xs)))) next
