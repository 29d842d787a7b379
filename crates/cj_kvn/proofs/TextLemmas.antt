-- Texts that are written part by part, and lines of words.
use Rattle.std.proofs.Common.{◌≡◌, ℕ, ◌+◌, ◌<◌, List, [], ◌∷◌, ◌++◌, length, map, take, get_or, ap, sym, ◌∙◌, append-nil, append_assoc, Result, OnOk}
use Rattle.std.specs.Prelude.{flat_map}
use Rattle.std.specs.List.{join_with_byte}
use Rattle.std.proofs.lemmas.List.{flat_map_more, map_more, take_more}
use Rattle.std.proofs.lemmas.Result.{on_ok_weaker}
use Rattle.cj_kvn.specs.Entries.{line_of_words}

-- one part behind another
pub joined : (old was now a b : List ℕ) → was ≡ old ++ a → now ≡ was ++ b → now ≡ old ++ (a ++ b)
joined old was now a b first second = second ∙ ap (λ (t : List ℕ). t ++ b) first ∙ append_assoc old a b

-- the same where the second may want memory
pub joined_ok : {T E : Type 0} (r : Result T E) (old was now a b : List ℕ) → was ≡ old ++ a → OnOk r (now ≡ was ++ b) → OnOk r (now ≡ old ++ (a ++ b))
joined_ok r old was now a b first second = on_ok_weaker r (joined old was now a b first) second

-- the texts of some things, and then of one more
pub text_more : {A : Type 0} (text : A → List ℕ) (some : List A) (x : A) (all : List A) (old was now : List ℕ) → all ≡ some ++ x ∷ []
    → was ≡ old ++ flat_map text some → now ≡ was ++ text x → now ≡ old ++ flat_map text all
text_more text some x all old was now is before step =
    step ∙ ap (λ t. t ++ text x) before ∙ flat_map_more text old some x ∙ ap (λ xs. old ++ flat_map text xs) (sym is)

-- of the things before place i, and then of that one
pub part_more : {A : Type 0} (text : A → List ℕ) (xs : List A) (i : ℕ) (x : A) (old was now : List ℕ) → i < length xs → x ≡ get_or xs i x
    → was ≡ old ++ flat_map text (take i xs) → now ≡ was ++ text x → now ≡ old ++ flat_map text (take (i + 1) xs)
part_more text xs i x old was now short is =
    text_more text (take i xs) x (take (i + 1) xs) old was now (take_more xs i x short ∙ ap (λ y. take i xs ++ y ∷ []) (sym is))

-- of what these stand for
pub part_more_of : {A B : Type 0} (text : A → List ℕ) (f : B → A) (xs : List B) (i : ℕ) (x : B) (old was now : List ℕ) → i < length xs → x ≡ get_or xs i x
    → was ≡ old ++ flat_map text (map f (take i xs)) → now ≡ was ++ text (f x) → now ≡ old ++ flat_map text (map f (take (i + 1) xs))
part_more_of text f xs i x old was now short is =
    text_more text (map f (take i xs)) (f x) (map f (take (i + 1) xs)) old was now (map_more f xs i x short ∙ ap (λ y. map f (take i xs) ++ f y ∷ []) (sym is))

-- words with a space between them: the first, and the others with a space before each
pub join-spaced : {A : Type 0} (word : A → List ℕ) (first : List ℕ) (more : List A) → join_with_byte 32 (first ∷ map word more) ≡ first ++ flat_map (λ x. 32 ∷ word x) more
join-spaced word first [] = sym (append-nil first)
join-spaced word first (x ∷ more) = ap (λ t. first ++ (32 ∷ t)) (join-spaced word (word x) more)

-- a text with a line is the text, the first word, the others with a space before each, and LF
pub line-spaced : {A : Type 0} (word : A → List ℕ) (text first : List ℕ) (more : List A)
    → ((text ++ first) ++ flat_map (λ x. 32 ∷ word x) more) ++ 10 ∷ [] ≡ text ++ line_of_words (first ∷ map word more)
line-spaced word text first more =
    ap (λ t. t ++ 10 ∷ []) (append_assoc text first (flat_map (λ x. 32 ∷ word x) more) ∙ ap (λ t. text ++ t) (sym (join-spaced word first more)))
    ∙ append_assoc text (join_with_byte 32 (first ∷ map word more)) (10 ∷ [])
