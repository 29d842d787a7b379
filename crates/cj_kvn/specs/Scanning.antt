-- What is kept of a number while its text is read from left to right.
use Rattle.std.specs.Prelude.{◌≡◌, ℕ, ◌/◌, ◌^◌, ◌<◌, ◌≤◌, if◌then◌else◌, List, [], ◌∷◌, drop, Option, Some, None, ℤ, pos, ◌+ℤ◌}
use Rattle.std.specs.Char.{is_ascii_digit}
use Rattle.std.specs.List.{prefix_len, take_while}
use Rattle.std.specs.Str.Parse.{signed_digits_value}
use Rattle.cj_base.specs.Numbers.{Number}
use Rattle.cj_kvn.specs.Numbers.{is_exponent, is_exponent_mark, is_point}
use Rattle.cj_kvn.specs.declared.leading.Leading.{Leading}
use Rattle.cj_kvn.specs.declared.leading.Scanned.{Scanned}

-- the digits are the first ones of n: all of n, or 38 of them
pub record Leads (l : Leading) (n : ℕ) : Type 0 where
  pub value : l.value ≡ n / 10 ^ l.past
  pub full : 0 < l.past → 10 ^ 37 ≤ l.value

-- the same of a number and its power of ten
pub record Begins (s : Scanned) (n : Number) : Type 0 where
  pub past : ℕ
  pub negative : s.negative ≡ n.negative
  pub leading : s.leading ≡ n.digits / 10 ^ past
  pub full : 0 < past → 10 ^ 37 ≤ s.leading
  pub power : s.power ≡ n.power +ℤ pos past

-- the digits at the front of a text, and what stands behind them
abbrev pub run : List ℕ → List ℕ
run text = take_while is_ascii_digit text

abbrev pub after_run : List ℕ → List ℕ
after_run text = drop (prefix_len is_ascii_digit text) text

-- the digits behind a point at the front, and what stands behind them
abbrev pub fraction_run : List ℕ → List ℕ
fraction_run [] = []
fraction_run (b ∷ text) = if is_point b then run text else []

abbrev pub after_fraction : List ℕ → List ℕ
after_fraction [] = []
after_fraction (b ∷ text) = if is_point b then after_run text else b ∷ text

-- what an exponent says that takes the whole of a text, and 0 where the text is empty
abbrev pub exponent_said : List ℕ → Option ℤ
exponent_said [] = Some (pos 0)
exponent_said (b ∷ text) = if is_exponent_mark b then (if is_exponent (Some text) then Some (signed_digits_value 10 text) else None) else None
