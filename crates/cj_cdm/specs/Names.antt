-- The name under which a message is put.
use Rattle.std.specs.Prelude.{ℕ, List, ◌++◌, codes}
use Rattle.cj_cdm.specs.Texts.{number_text}

-- the number of the message, with six digits or more, and `.cdm`
abbrev pub name_of : ℕ → List ℕ
name_of n = number_text n ++ codes ".cdm"
