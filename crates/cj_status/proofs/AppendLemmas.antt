-- Bytes behind others, where there is memory for them.
use Rattle.std.proofs.Common.{◌≡◌, ◌∙◌, ◌≤◌, ap, append_assoc, arith, inl, inr, max, min, sym, List, ℕ, ◌++◌, Result, Ok, Err}
use Rattle.std.specs.Prelude.{OnOk, if◌then◌else◌, is_ok}
use Rattle.std.proofs.lemmas.Bool.{cases_lt}
use Rattle.cj_kvn.proofs.TextLemmas.{joined}
use Rattle.cj_base.specs.Ticks.{FIRST_TICK, IsTick, LAST_TICK}

-- where there is memory for them, the bytes stand behind the others
pub appended : {T E : Type 0} (r : Result T E) (old bytes said now : List ℕ)
    → now ≡ (if is_ok r then old ++ bytes else old) → bytes ≡ said → OnOk r (now ≡ old ++ said)
appended (Ok x) old bytes said now grown same = grown ∙ ap (λ (b : List ℕ). old ++ b) same
appended (Err e) old bytes said now grown same = tt

-- a name, and behind it a place and a cause
pub told_place : (old named placed name line number colon cause : List ℕ) → named ≡ old ++ name → placed ≡ named ++ (line ++ number ++ colon ++ cause)
    → placed ≡ old ++ (name ++ line ++ number ++ colon ++ cause)
told_place old named placed name line number colon cause first second =
    joined old named placed name (line ++ number ++ colon ++ cause) first second
    ∙ ap (λ (t : List ℕ). old ++ t)
    (sym (ap (λ (t : List ℕ). t ++ colon ++ cause) (append_assoc name line number)
    ∙ ap (λ (t : List ℕ). t ++ cause) (append_assoc name (line ++ number) colon)
    ∙ append_assoc name (line ++ number ++ colon) cause))

-- the nearest tick
pub nearest_tick : (micros tick : ℕ) → (IsTick micros → tick ≡ micros) → (micros ≤ FIRST_TICK → tick ≡ FIRST_TICK) → (LAST_TICK ≤ micros → tick ≡ LAST_TICK)
    → tick ≡ max FIRST_TICK (min LAST_TICK micros)
nearest_tick micros tick same early late = elim (cases_lt micros FIRST_TICK) [
  | inl before ↦ let at : tick ≡ FIRST_TICK = early (omega arith) in omega arith
  | inr from ↦ elim (cases_lt LAST_TICK micros) [
    | inl behind ↦ let at : tick ≡ LAST_TICK = late (omega arith) in omega arith
    | inr upto ↦ let at : tick ≡ micros = same (from, upto) in omega arith
  ]
]
