-- The fields of a row, found one by one.
use Rattle.std.proofs.Common.{◌≡◌, ℕ, suc, ◌+◌, ◌<◌, ◌≤◌, List, [], ◌∷◌, ◌++◌, map, take, length, set, get_or, arith, ap, sym, ◌∙◌, add-one}
use Rattle.std.proofs.lemmas.List.{append-nil, append_assoc, length-take, length-append, take_all, get_or-map, get_or-take, map_push}
use Rattle.std.proofs.Math.Seq.{take-suc-set, take-append_seam}
use Rattle.cj_kvn.specs.declared.range.Range32.{Range32}
use Rattle.cj_kvn.specs.Ranges.{text_at}

abbrev Parts : Type 0
Parts = List (List ℕ)

-- one more field
pub field_found : (bytes : List ℕ) (found : List Range32) (i : ℕ) (field : Range32) (rest behind parts : Parts) → i < length found
    → rest ≡ text_at bytes field ∷ behind → map (text_at bytes) (take i found) ++ rest ≡ parts
    → map (text_at bytes) (take (i + 1) (set found i field)) ++ behind ≡ parts
field_found bytes found i field rest behind parts inside next said =
    let front = take i found in
    ap (λ (n : ℕ). map (text_at bytes) (take n (set found i field)) ++ behind) (add-one i)
    ∙ ap (λ (fs : List Range32). map (text_at bytes) fs ++ behind) (take-suc-set found i field inside)
    ∙ ap (λ (ts : Parts). ts ++ behind) (map_push (text_at bytes) front field)
    ∙ append_assoc (map (text_at bytes) front) (text_at bytes field ∷ []) behind
    ∙ ap (λ (ts : Parts). map (text_at bytes) front ++ ts) (sym next)
    ∙ said

-- all of them, of which there are at most ten
pub all_found : (front rest parts : Parts) → rest ≡ [] → front ++ rest ≡ parts → length front ≤ 10
    → (length front ≡ length (take 11 parts)) × (front ≡ take 10 parts)
all_found front rest parts none said few =
    let whole : front ≡ parts = sym (append-nil front) ∙ ap (λ (ts : Parts). front ++ ts) (sym none) ∙ said in
    let long = ap length whole in
    (long ∙ ap length (sym (take_all 11 parts (omega arith))), whole ∙ sym (take_all 10 parts (omega arith)))

-- ten of more than ten
pub ten_found : (front rest parts : Parts) (next : List ℕ) (others : Parts) → rest ≡ next ∷ others → front ++ rest ≡ parts → length front ≡ 10
    → (11 ≡ length (take 11 parts)) × (front ≡ take 10 parts)
ten_found front rest parts next others more said ten =
    let long : length front + length rest ≡ length parts = sym (length-append front rest) ∙ ap length said in
    let some : length rest ≡ suc (length others) = ap length more in (
      omega (arith, length-take 11 parts),
      sym (take-append_seam front rest) ∙ ap (λ (n : ℕ). take n (front ++ rest)) ten ∙ ap (take 10) said,
    )

-- one of them
pub text_is : (bytes : List ℕ) (found : List Range32) (count i : ℕ) (d : Range32) → i < count → i < length found
    → get_or (map (text_at bytes) (take count found)) i [] ≡ text_at bytes (get_or found i d)
text_is bytes found count i d counted inside =
    get_or-map (text_at bytes) (take count found) i d [] (omega (arith, length-take count found)) ∙ ap (text_at bytes) (get_or-take count found i d counted)
