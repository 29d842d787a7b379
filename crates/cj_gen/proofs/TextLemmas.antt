-- Texts that are written part by part.
use Rattle.std.proofs.Common.{◌≡◌, ℕ, ◌+◌, List, [], ◌∷◌, ◌++◌, ap, ◌∙◌, arith}
use Rattle.std.specs.Prelude.{flat_map}
use Rattle.std.specs.List.{range_with_len}
use Rattle.cj_interval.proofs.RangeLemmas.{range_more}
use Rattle.cj_kvn.proofs.TextLemmas.{text_more}
pub use Rattle.cj_kvn.proofs.TextLemmas.{joined, joined_ok}

-- the text of the numbers below n, and then that of n
pub counted_more : (text : ℕ → List ℕ) (n : ℕ) (old was now : List ℕ) → was ≡ old ++ flat_map text (range_with_len 0 n) → now ≡ was ++ text n
    → now ≡ old ++ flat_map text (range_with_len 0 (n + 1))
counted_more text n old was now =
    let more = range_more 0 n ∙ ap (λ (k : ℕ). range_with_len 0 n ++ k ∷ []) (let e : 0 + n ≡ n = omega arith in e) in
    text_more text (range_with_len 0 n) n (range_with_len 0 (n + 1)) old was now more
