-- Numbers of up to twenty digits.
use Rattle.std.proofs.Common.{ℕ, ◌≤◌, List, length, arith}
use Rattle.std.specs.Prelude.{IsTrue}
use Rattle.std.specs.Char.{is_ascii_digit}
use Rattle.std.specs.List.{list_all}
use Rattle.std.proofs.lemmas.Bool.Decides.{nat_tests}
use Rattle.cj_words.specs.Settings.{is_number}

-- the parts of the test
pub record IsNumber (text : List ℕ) : Type 0 where
  pub short : length text ≤ 20
  pub all : IsTrue (list_all is_ascii_digit text)

pub is_number_is : (text : List ℕ) → IsTrue (is_number text) → IsNumber text
is_number_is text h = record { short = grind (arith, nat_tests); all = grind (arith, nat_tests) }
