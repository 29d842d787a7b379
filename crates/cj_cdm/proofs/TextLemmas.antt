-- Texts that are written part by part.
use Rattle.std.proofs.Common.{◌≡◌, ℕ, List, ◌++◌, ap, ◌∙◌, append_assoc, Result, OnOk}
use Rattle.std.specs.Prelude.{codes}
use Rattle.std.proofs.lemmas.Result.{on_ok_weaker}
use Rattle.cj_cdm.specs.Texts.{quantity}
pub use Rattle.cj_kvn.proofs.TextLemmas.{joined, joined_ok, part_more}

-- what stands before a value, the value and its unit are a quantity
quantity_joined : (key value unit : List ℕ) → (key ++ codes " = ") ++ (value ++ (codes " [" ++ unit ++ codes "]\n")) ≡ quantity key value unit
quantity_joined key value unit = simp append_assoc

pub quantity_ok : {T E : Type 0} (r : Result T E) (old front text now key value unit : List ℕ)
    → front ≡ old ++ (key ++ codes " = ") → text ≡ front ++ value → OnOk r (now ≡ text ++ (codes " [" ++ unit ++ codes "]\n")) → OnOk r (now ≡ old ++ quantity key value unit)
quantity_ok r old front text now key value unit begun told ended =
    on_ok_weaker r (λ end. joined old _ _ _ _ begun (joined front _ _ _ _ told end) ∙ ap (λ t. old ++ t) (quantity_joined key value unit)) ended
