-- The calls of a folder or a shelf in memory: which of them fail, how many were made, and how many failed.
use Rattle.std.specs.Prelude.{ℕ, List, Bool, ◌+◌, ◌-◌, ◌^◌, nat_eq, nat_lt, if◌then◌else◌}
use Rattle.std.specs.List.{list_any}

-- the numbers of the calls that fail, how many calls were made, and how many of them failed
pub record Calls : Type 0 where
  pub failing : List ℕ
  pub made : ℕ
  pub faults : ℕ

-- one more, up to the greatest value of a u64
abbrev pub one_more : ℕ → ℕ
one_more n = (if nat_lt n (2 ^ 64 - 1) then n + 1 else n)

-- whether the next call fails: its number, counted from 1, is listed
abbrev pub fails_next : Calls → Bool
fails_next calls = list_any (λ n. nat_eq n (one_more calls.made)) calls.failing

-- the same with one more call
abbrev pub after_call : Calls → Calls
after_call calls =
    record calls { made = one_more calls.made; faults = (if fails_next calls then one_more calls.faults else calls.faults) }
