-- Where a text is split.
use Rattle.std.proofs.Common.{◌≡◌, ℕ, ◌<◌, List, get_or, length, Bool, true, false, Option, Some, None, cond, ltb, arith, refl}
use Rattle.std.specs.Prelude.{◌==◌, not, is_some}
use Rattle.std.specs.Borrow.{Bor}
use Rattle.std.specs.List.{position, position_or_len}
use Rattle.std.proofs.lemmas.Bool.{false_from_ne_true, le-ltb, lt-ltb}
use Rattle.std.proofs.lemmas.Bool.Decides.{nat_tests}
use Rattle.std.proofs.lemmas.List.Splits.{length-slice_split}
use Rattle.std.proofs.lemmas.List.Sums.{position_or_len_is}
use Rattle.memchr.specs.Find.{IsFirstByte, is_byte}
use Rattle.cj_cert_text.specs.Readers.{words_in}

-- ---- where a byte stands first

nowhere : (n len : ℕ) → n ≡ len → None ≡ cond (ltb n len) (Some n) None
nowhere n len e = rw (le-ltb n len (omega (arith, e))) refl

somewhere : (n len k : ℕ) → n ≡ k → k < len → Some k ≡ cond (ltb n len) (Some n) None
somewhere n len k e less = rw (e, lt-ltb k len less) refl

pub first_place : (byte : ℕ) (text : List ℕ) (r : Option ℕ) → IsFirstByte (is_byte byte) text r → r ≡ position (λ b. b == byte) text
first_place byte text None none =
    let p : ℕ → Bool = λ b. b == byte in
    nowhere (position_or_len p text) (length text)
    (position_or_len_is p text (length text) 0 (omega arith) (λ k less. false_from_ne_true (p (get_or text k 0)) (none k (omega arith) less)) (λ less. absurd (omega arith)))
first_place byte text (Some k) found =
    let p : ℕ → Bool = λ b. b == byte in
    let high = found.0.high in
    somewhere (position_or_len p text) (length text) k
    (position_or_len_is p text k 0 (omega (arith, high)) (λ i less. false_from_ne_true (p (get_or text i 0)) (found.0.before i (omega arith) less)) (λ less. found.1)) high

-- ---- the words that are left

some_not : (n : ℕ) → 0 < n → false ≡ (n == 0)
some_not n some = grind (arith, nat_tests)

-- none are left where no text is
pub left_empty : (o : Option (Bor (List ℕ))) (none : Bool) → is_some o ≡ not none → none ≡ (length (words_in o) == 0)
left_empty None true h = refl
left_empty None false h = absurd cc
left_empty (Some text) true h = absurd cc
left_empty (Some text) false h = some_not (length (words_in (Some text))) (omega (arith, length-slice_split (λ b. b == 32) text.now))
