-- The directories that a command line names.
use Rattle.std.specs.Prelude.{ℕ, if◌then◌else◌, List, Option, Some, None, is_ok, codes}
use Rattle.std.specs.Option.{option_copied}
use Rattle.cj_words.specs.declared.option.Opt.{Opt}
use Rattle.cj_words.specs.declared.option.Opt.TheVariants.{Out, CertDir}
use Rattle.cj_words.specs.declared.places.Places as kept
use Rattle.cj_words.specs.Commands.{command_of}
use Rattle.cj_words.specs.Lines.{Line, line_of}
use Rattle.cj_words.specs.Options.{given_of, listed, value_of}

-- the directory of a command line, and where options name them, the one in which the certificate lies and the one that is made for results
pub record Located : Type 0 where
  pub directory : List ℕ
  pub certificates : Option (List ℕ)
  pub results : Option (List ℕ)

abbrev pub plain_places : kept.Places → Located
plain_places p = record { directory = p.directory.now; certificates = option_copied p.certificates; results = option_copied p.results }

-- the directory of a line, and the current one where words are none
abbrev pub directory_in : Option Line → List ℕ
directory_in None = codes "."
directory_in (Some line) = line.directory

-- the value of an option of a line
abbrev pub value_in_line : Opt → Option Line → Option (List ℕ)
value_in_line option None = None
value_in_line option (Some line) = value_of option (listed (given_of line.options))

-- the same, where what the words ask for is accepted
abbrev pub accepted_value : Opt → List (List ℕ) → Option (List ℕ)
accepted_value option words = if is_ok (command_of words) then value_in_line option (line_of words) else None

-- the directories that words name
unfoldable pub places_of : List (List ℕ) → Located
places_of words = record {
  directory = directory_in (line_of words);
  certificates = accepted_value CertDir words;
  results = accepted_value Out words;
}
