-- Lines of a word and numbers, as they are written.
use Rattle.std.proofs.Common.{◌≡◌, ℕ, List, [], ◌∷◌, ◌++◌, map, ap, append_assoc, sym, ◌∙◌, refl}
use Rattle.std.specs.Prelude.{ℤ}
use Rattle.std.specs.Fmt.{signed_decimal}
use Rattle.std.specs.List.{join_with_byte}
use Rattle.cj_kvn.proofs.TextLemmas.{line-spaced}
use Rattle.cj_cert_text.specs.Texts.{row, row_ended, spaced_numbers}

pub join-ended : (word : List ℕ) (numbers : List ℤ) (last : List ℕ) →
    join_with_byte 32 (word ∷ (map signed_decimal numbers ++ last ∷ [])) ≡ word ++ (spaced_numbers numbers ++ 32 ∷ last)
join-ended word [] last = refl
join-ended word (z ∷ zs) last =
    ap (λ t. word ++ (32 ∷ t)) (join-ended (signed_decimal z) zs last ∙ sym (append_assoc (signed_decimal z) (spaced_numbers zs) (32 ∷ last)))

-- a text with a word, numbers and LF behind it is the text with a line
pub row_written : (old was now word : List ℕ) (numbers : List ℤ) → was ≡ (old ++ word) ++ spaced_numbers numbers → now ≡ was ++ 10 ∷ [] → now ≡ old ++ row word numbers
unfolding row
row_written old was now word numbers before step =
    step ∙ ap (λ t. t ++ 10 ∷ []) before ∙ line-spaced signed_decimal old word numbers

-- the same with a last word
pub row_ended_written : (old was now word last : List ℕ) (numbers : List ℤ) → was ≡ (old ++ word) ++ spaced_numbers numbers →
    now ≡ ((was ++ 32 ∷ []) ++ last) ++ 10 ∷ [] → now ≡ old ++ row_ended word numbers last
unfolding row_ended
row_ended_written old was now word last numbers before step =
    let spaced : (was ++ 32 ∷ []) ++ last ≡ old ++ (word ++ (spaced_numbers numbers ++ 32 ∷ last)) =
    append_assoc was (32 ∷ []) last ∙ (ap (λ t. t ++ 32 ∷ last) before ∙ (simp append_assoc)) in
    step ∙ (ap (λ t. t ++ 10 ∷ []) (spaced ∙ ap (λ t. old ++ t) (sym (join-ended word numbers last)))
    ∙ append_assoc old (join_with_byte 32 (word ∷ (map signed_decimal numbers ++ last ∷ []))) (10 ∷ []))
