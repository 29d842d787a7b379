-- The elements of a covariance, written one behind another.
use Rattle.std.proofs.Common.{◌≡◌, ℕ, ◌+◌, ◌<◌, ◌≤◌, List, ◌++◌, length, take, get_or, ap, sym, ◌∙◌, arith, take_all}
use Rattle.std.specs.Prelude.{flat_map}
use Rattle.std.specs.List.{zip}
use Rattle.std.proofs.lemmas.Slice.Zip.{get_or-zip, length-zip}
use Rattle.cj_base.specs.Numbers.{Number}
use Rattle.cj_cdm.specs.Texts.{element_text, elements, elements_text}
use Rattle.cj_cdm.proofs.TextLemmas.{part_more}

-- the first so many elements of these values
abbrev pub written : ℕ → List Number → List ℕ
written i values = flat_map (λ e. element_text e.0 e.1) (take i (zip elements values))

-- and the next
pub written_more : (values : List Number) (i : ℕ) (element : List ℕ × List ℕ) (value : Number) (old was now : List ℕ)
    → length values ≡ 21 → i < 21 → element ≡ get_or elements i element → value ≡ get_or values i value
    → was ≡ old ++ written i values → now ≡ was ++ element_text element value → now ≡ old ++ written (i + 1) values
written_more values i element value old was now whole short e n before step =
    let count = length-zip elements values in
    let pair : (element, value) ≡ get_or (zip elements values) i (element, value) =
    ap (λ (x : List ℕ × List ℕ). (x, value)) e ∙ ap (λ (x : Number). (get_or elements i element, x)) n ∙ sym (get_or-zip elements values i (element, value) short (omega arith)) in
    part_more (λ e. element_text e.0 e.1) (zip elements values) i (element, value) old was now (omega (arith, count, whole)) pair before step

-- all of them
pub written_all : (values : List Number) (i : ℕ) → length values ≡ 21 → 21 ≤ i → written i values ≡ elements_text elements values
written_all values i whole all = ap (λ es. flat_map (λ e. element_text e.0 e.1) es) (take_all i (zip elements values) (omega (arith, length-zip elements values, whole)))
