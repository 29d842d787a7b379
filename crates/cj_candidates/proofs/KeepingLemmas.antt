-- Pairs that are kept, one after another.
use Rattle.std.proofs.Common.{◌≡◌, ℕ, ◌+◌, ◌<◌, ◌++◌, Bool, true, false, cond, List, [], ◌∷◌, length, get_or, map, take, filter, sym, ap, ◌∙◌, append-nil}
use Rattle.std.proofs.lemmas.List.{take_more, map_push}
use Rattle.std.proofs.lemmas.List.Elements.{filter-append}
use Rattle.cj_case.specs.declared.pair.Pair.{Pair}
use Rattle.cj_case.specs.Pairs.{objects_of}

one_pair_more : (p : ℕ × ℕ → Bool) (pairs : List Pair) (k : ℕ) (pair : Pair) → k < length pairs → pair ≡ get_or pairs k pair
    → filter p (map objects_of (take k pairs)) ++ filter p (objects_of pair ∷ []) ≡ filter p (map objects_of (take (k + 1) pairs))
one_pair_more p pairs k pair lt is =
    let more : map objects_of (take (k + 1) pairs) ≡ map objects_of (take k pairs) ++ objects_of pair ∷ [] =
    ap (map objects_of) (take_more pairs k pair lt ∙ ap (λ (x : Pair). take k pairs ++ x ∷ []) (sym is)) ∙ map_push objects_of (take k pairs) pair in
    sym (ap (filter p) more ∙ filter-append p (map objects_of (take k pairs)) (objects_of pair ∷ []))

-- one more of them passes
pub pair_found : (p : ℕ × ℕ → Bool) (pairs found new : List Pair) (k : ℕ) (pair : Pair) → k < length pairs → pair ≡ get_or pairs k pair → p (objects_of pair) ≡ true
    → new ≡ found ++ pair ∷ [] → map objects_of found ≡ filter p (map objects_of (take k pairs)) → map objects_of new ≡ filter p (map objects_of (take (k + 1) pairs))
pair_found p pairs found new k pair lt is passes more so_far =
    ap (map objects_of) more ∙ map_push objects_of found pair ∙ ap (λ (qs : List (ℕ × ℕ)). qs ++ objects_of pair ∷ []) so_far
    ∙ ap (λ (c : Bool). filter p (map objects_of (take k pairs)) ++ cond c (objects_of pair ∷ []) []) (sym passes) ∙ one_pair_more p pairs k pair lt is

-- or does not
pub pair_passed : (p : ℕ × ℕ → Bool) (pairs found : List Pair) (k : ℕ) (pair : Pair) → k < length pairs → pair ≡ get_or pairs k pair → p (objects_of pair) ≡ false
    → map objects_of found ≡ filter p (map objects_of (take k pairs)) → map objects_of found ≡ filter p (map objects_of (take (k + 1) pairs))
pair_passed p pairs found k pair lt is fails so_far =
    so_far ∙ sym (append-nil (filter p (map objects_of (take k pairs)))) ∙ ap (λ (c : Bool). filter p (map objects_of (take k pairs)) ++ cond c (objects_of pair ∷ []) []) (sym fails)
    ∙ one_pair_more p pairs k pair lt is
