-- Shares that are popped from a list.
use Rattle.std.proofs.Common.{◌≡◌, ℕ, ◌+◌, List, [], ◌∷◌, ◌++◌, length, sym, ap, ◌∙◌, arith, All, length-append}
use Rattle.std.specs.Prelude.{Option, Some, option_to_list}
use Rattle.std.specs.List.{sum_by}
use Rattle.std.proofs.lemmas.List.Elements.{All-pop}
use Rattle.std.proofs.lemmas.List.Sums.{sum_by_push}
use Rattle.cj_ledger.specs.Shares.{LedgerSeen, ShareSeen, IsOf}

-- what a pop tells of the shares that are left, and of the one that came
pub popped : (l : LedgerSeen) (xs ys : List ShareSeen) (r : Option ShareSeen) (s t : ShareSeen) → xs ≡ ys ++ option_to_list r → r ≡ Some s → t ≡ s → All (IsOf l) xs
    → All (IsOf l) ys × IsOf l t × ((f : ShareSeen → ℕ) → sum_by f ys + f t ≡ sum_by f xs) × (length ys + 1 ≡ length xs)
popped l xs ys r s t pushed is same all =
    let back : xs ≡ ys ++ t ∷ [] = pushed ∙ ap (λ o. ys ++ option_to_list o) (is ∙ ap Some (sym same)) in
    let parts = All-pop (IsOf l) xs ys (Some t) back all in
    (parts.0, parts.1, (λ f. sym (ap (sum_by f) back ∙ sum_by_push f ys t)), (let n = ap length back in omega (arith, length-append ys (t ∷ []))))
