-- What a command line asks to be told beside how the run ends.
use Rattle.std.specs.Prelude.{ℕ, Bool, false, ◌&&◌, List, Option, Some, None, is_ok}
use Rattle.cj_words.specs.declared.option.Opt.{Opt}
use Rattle.cj_words.specs.declared.option.Opt.TheVariants.{Warnings, AllFaults}
use Rattle.cj_words.specs.Commands.{command_of}
use Rattle.cj_words.specs.Lines.{Line, line_of}
use Rattle.cj_words.specs.Options.{given_of, is_given, listed}
use Rattle.cj_words.specs.declared.telling.Telling.{Telling}

-- an option of a line stands
abbrev pub is_given_in : Opt → Option Line → Bool
is_given_in option None = false
is_given_in option (Some line) = is_given option (listed (given_of line.options))

-- the same, where what the words ask for is accepted
abbrev pub asks : Opt → List (List ℕ) → Bool
asks option words = is_ok (command_of words) && is_given_in option (line_of words)

-- what words ask to be told
unfoldable pub telling_of : List (List ℕ) → Telling
telling_of words = record { warnings = asks Warnings words; all_faults = asks AllFaults words }
