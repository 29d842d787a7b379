-- The numbers that pass a test, one number after another; and the numbers of those that are named.
use Rattle.std.proofs.Common.{◌≡◌, ℕ, ◌+◌, ◌<◌, ◌≤◌, Bool, true, false, not, cond, List, [], ◌∷◌, ◌++◌, append-nil, filter, length, Option, Some, None, refl, ap, ◌∙◌, arith}
use Rattle.std.specs.Prelude.{slice_index_or}
use Rattle.std.specs.List.{range_with_len}
use Rattle.std.proofs.lemmas.List.Elements.{filter-append}
use Rattle.std.proofs.lemmas.List.Filters.{length-filter_both}
use Rattle.std.proofs.lemmas.List.FromFn.{length-range_with_len}
use Rattle.cj_interval.proofs.ListLemmas.{Each, Each-filter, Each-range}
use Rattle.cj_interval.proofs.RangeLemmas.{range_more}
use Rattle.cj_case.specs.Primaries.{marks_of, named}

next : (test : ℕ → Bool) (m : ℕ) (passes : Bool) → test m ≡ passes → filter test (range_with_len 0 (m + 1)) ≡ filter test (range_with_len 0 m) ++ cond passes (m ∷ []) []
next test m passes is =
    ap (filter test) (range_more 0 m) ∙ filter-append test (range_with_len 0 m) ((0 + m) ∷ [])
    ∙ (let at : 0 + m ≡ m = omega arith in ap (λ (k : ℕ). filter test (range_with_len 0 m) ++ cond (test k) (k ∷ []) []) at)
    ∙ ap (λ (b : Bool). filter test (range_with_len 0 m) ++ cond b (m ∷ []) []) is

pub one_more : (test : ℕ → Bool) (m : ℕ) → test m ≡ true → filter test (range_with_len 0 (m + 1)) ≡ filter test (range_with_len 0 m) ++ m ∷ []
one_more test m is = next test m true is

pub no_more : (test : ℕ → Bool) (m : ℕ) → test m ≡ false → filter test (range_with_len 0 (m + 1)) ≡ filter test (range_with_len 0 m)
no_more test m is = next test m false is ∙ append-nil (filter test (range_with_len 0 m))

-- those that are named are objects
pub named_below : (most : ℕ) (primaries : Option (List Bool)) (n : ℕ) → marks_of primaries n ≡ n → n ≤ most → Each (λ object. object < most) (named primaries)
named_below most None n marked few = tt
named_below most (Some marks) n marked few =
    Each-filter (λ object. object < most) (λ object. slice_index_or marks object false) (range_with_len 0 (length marks))
    (Each-range (λ object. object < most) 0 (length marks) (λ k low high. omega arith))

-- and no more are named than there are
pub few_named : (primaries : Option (List Bool)) (n : ℕ) → marks_of primaries n ≡ n → length (named primaries) ≤ n
few_named None n marked = omega arith
few_named (Some marks) n marked =
    let is = λ (object : ℕ). slice_index_or marks object false in
    omega (arith, length-filter_both is (λ object. not (is object)) (λ object. refl) (range_with_len 0 (length marks)), length-range_with_len 0 (length marks))
