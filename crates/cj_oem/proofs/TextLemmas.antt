-- Texts that are written part by part.
use Rattle.std.proofs.Common.{◌≡◌, ℕ, ◌+◌, ◌<◌, List, [], ◌∷◌, ◌++◌, length, take, get_or, ap, sym, ◌∙◌, subst, All}
use Rattle.std.proofs.lemmas.List.{take_more}
use Rattle.std.proofs.lemmas.List.Elements.{All-push}
pub use Rattle.cj_kvn.proofs.TextLemmas.{joined, joined_ok, part_more_of}

-- a rule of the things before place i, and of that one too
pub all_more : {A : Type 0} (P : A → Type 0) (xs : List A) (i : ℕ) (x : A) → i < length xs → x ≡ get_or xs i x → All P (take i xs) → P x → All P (take (i + 1) xs)
all_more P xs i x short is before here = subst (All P) (sym (take_more xs i x short ∙ ap (λ y. take i xs ++ y ∷ []) (sym is))) (All-push P (take i xs) x before here)
