-- Printed texts: their bytes, and that nothing is trimmed from them.
use Rattle.std.proofs.Common.{◌≡◌, ℕ, ◌+◌, ◌-◌, ◌<◌, List, [], ◌∷◌, ◌++◌, Bool, true, false, get_or, length, reverse, take, map, ap, sym, ◌∙◌, refl, arith}
use Rattle.std.specs.List.{list_all, prefix_len, suffix_len}
use Rattle.std.proofs.lemmas.Bool.{and_parts}
use Rattle.std.proofs.lemmas.Bool.Decides.{nat_tests}
use Rattle.std.proofs.lemmas.List.Sums.{AllPass-from_list_all}
use Rattle.std.proofs.lemmas.List.{get_or-append_right, length-append, reverse-append, take_all, take_at, take_more}
use Rattle.cj_base.specs.Bytes.{spaced}
use Rattle.cj_kvn.specs.Lines.{is_blank, is_printable, trimmed, without_leading_blanks, without_trailing_blanks}
use Rattle.cj_kvn.proofs.ListLemmas.{behind_no, behind_yes}
use Rattle.cj_track.specs.Labels.{is_visible}

-- what passes a test passes a weaker one
pub all_weaker : {X : Type 0} (p q : X → Bool) → ((x : X) → p x ≡ true → q x ≡ true) → (xs : List X) → list_all p xs ≡ true → list_all q xs ≡ true
all_weaker p q weaker [] all = refl
all_weaker p q weaker (x ∷ xs) all =
    let parts = and_parts (p x) (list_all p xs) all in
    rw (weaker x parts.0) (all_weaker p q weaker xs parts.1)

pub all_at : {X : Type 0} (p : X → Bool) (xs : List X) (i : ℕ) (d : X) → list_all p xs ≡ true → i < length xs → p (get_or xs i d) ≡ true
all_at p xs i d all below = AllPass-from_list_all p xs all i d below

-- visible bytes are printable, and none is a tab
visible_printable : (b : ℕ) → is_visible b ≡ true → is_printable b ≡ true
visible_printable b h = grind (arith, nat_tests)

visible_kept : (b : ℕ) → is_visible b ≡ true → spaced b ≡ b
visible_kept b h = grind (arith, nat_tests)

pub all_printable : (text : List ℕ) → list_all is_visible text ≡ true → list_all is_printable text ≡ true
all_printable = all_weaker is_visible is_printable visible_printable

pub all_kept : (text : List ℕ) → list_all is_visible text ≡ true → map spaced text ≡ text
all_kept [] all = refl
all_kept (b ∷ text) all =
    let parts = and_parts (is_visible b) (list_all is_visible text) all in
    ap (λ c. c ∷ map spaced text) (visible_kept b parts.0) ∙ ap (λ t. b ∷ t) (all_kept text parts.1)

-- the first byte is there and no blank, and the last one
abbrev pub Starts : List ℕ → Type 0
Starts text = is_blank (get_or text 0 32) ≡ false

abbrev pub Ends : List ℕ → Type 0
Ends text = is_blank (get_or text (length text - 1) 32) ≡ false

pub starts_length : (text : List ℕ) → Starts text → 0 < length text
starts_length [] starts = absurd cc
starts_length (b ∷ text) starts = omega arith

pub ends_length : (text : List ℕ) → Ends text → 0 < length text
ends_length [] ends = absurd cc
ends_length (b ∷ text) ends = omega arith

pub starts_append : (front text : List ℕ) → Starts front → Starts (front ++ text)
starts_append [] text starts = absurd cc
starts_append (b ∷ front) text starts = starts

pub ends_append : (front text : List ℕ) → Ends text → Ends (front ++ text)
ends_append front text ends =
    let some = ends_length text ends in
    let long = length-append front text in
    let place : length (front ++ text) - 1 - length front ≡ length text - 1 = omega (arith, long, some) in
    ap is_blank (get_or-append_right front text (length front) (length (front ++ text) - 1) 32 refl (omega (arith, long, some)) ∙ ap (λ i. get_or text i 32) place) ∙ ends

-- no blank is trimmed
leading_none : (text : List ℕ) → Starts text → without_leading_blanks text ≡ text
leading_none [] starts = absurd cc
leading_none (b ∷ text) starts = behind_no is_blank b text starts

suffix_none : (text : List ℕ) → Ends text → suffix_len is_blank text ≡ 0
suffix_none text ends =
    let last = length text - 1 in
    let some = ends_length text ends in
    let whole : text ≡ take last text ++ get_or text last 32 ∷ [] =
    sym (take_all (last + 1) text (omega (arith, some))) ∙ take_more text last 32 (omega (arith, some)) in
    let turned = ap reverse whole ∙ reverse-append (take last text) (get_or text last 32 ∷ []) in
    ap (prefix_len is_blank) turned ∙ rw ends refl

trailing_none : (text : List ℕ) → Ends text → without_trailing_blanks text ≡ text
trailing_none text ends =
    let none : length text - suffix_len is_blank text ≡ length text = omega (arith, suffix_none text ends) in
    ap (λ n. take n text) none ∙ take_all (length text) text (omega arith)

pub trimmed_none : (text : List ℕ) → Starts text → Ends text → trimmed text ≡ text
trimmed_none text starts ends = ap without_trailing_blanks (leading_none text starts) ∙ trailing_none text ends

-- a space in front is trimmed
pub trimmed_before : (text : List ℕ) → Starts text → Ends text → trimmed (32 ∷ text) ≡ text
trimmed_before text starts ends = ap without_trailing_blanks (behind_yes is_blank 32 text refl ∙ leading_none text starts) ∙ trailing_none text ends

-- and one behind
suffix_one : (text : List ℕ) → Ends text → suffix_len is_blank (text ++ 32 ∷ []) ≡ 1
suffix_one text ends = ap (prefix_len is_blank) (reverse-append text (32 ∷ [])) ∙ ap (λ n. 1 + n) (suffix_none text ends)

pub trimmed_behind : (text : List ℕ) → Starts text → Ends text → trimmed (text ++ 32 ∷ []) ≡ text
trimmed_behind text starts ends =
    let long = length-append text (32 ∷ []) in
    let count : length (text ++ 32 ∷ []) - suffix_len is_blank (text ++ 32 ∷ []) ≡ length text = omega (arith, long, suffix_one text ends) in
    ap without_trailing_blanks (leading_none (text ++ 32 ∷ []) (starts_append text (32 ∷ []) starts))
    ∙ ap (λ n. take n (text ++ 32 ∷ [])) count
    ∙ take_at text (32 ∷ []) (length text) refl
