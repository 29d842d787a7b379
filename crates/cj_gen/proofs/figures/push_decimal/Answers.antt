use Rattle.std.proofs.Common.{◌≡◌, ℕ, List, ◌++◌, ◌∙◌, ap}
use Rattle.std.specs.Prelude.{Result, Ok, Err, OnOk, if◌then◌else◌, is_ok}
use Rattle.cj_gen.proofs.TextLemmas.{joined, joined_ok}
use Rattle.cj_gen.proofs.figures.push_decimal.Goals as goal

-- what is added where there is memory
added : {T E : Type 0} (r : Result T E) (now longer old : List ℕ) → now ≡ (if is_ok r then longer else old) → OnOk r (now ≡ longer)
added (Ok done) now longer old e = e
added (Err want) now longer old e = tt

pub returns : goal.returns
returns c =
    let spaced = c.push.new.self.items in
    let whole = c.in_ok-extend_from_slice-2.ensures.items ∙ ap (λ (t : List ℕ). c.extend_from_slice.new.self.items ++ t) (c.as_bytes.ensures.value ∙ c.format.ensures.text) in
    let point = joined spaced _ _ _ _ (joined spaced _ _ _ _ c.in_ok-extend_from_slice.ensures.items whole) c.in_ok-push-2.ensures.items in
    rw (← c.in_ok-push.ensures.items)
    (joined_ok c.extend_from_slice-3.result spaced _ _ _ _ point (added c.extend_from_slice-3.result _ _ _ c.extend_from_slice-3.ensures.items))
