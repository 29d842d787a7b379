-- The directories of a line.
use Rattle.std.proofs.Common.{◌≡◌, ℕ, List, true, false, Some, None, refl}
use Rattle.std.specs.Prelude.{is_ok, codes}
use Rattle.cj_words.specs.declared.option.Opt.TheVariants.{Out, CertDir}
use Rattle.cj_words.specs.Commands.{asked_in, command_of}
use Rattle.cj_words.specs.Lines.{Line, line_of}
use Rattle.cj_words.specs.Options.{given_of, listed, value_of}
use Rattle.cj_words.specs.Places.{places_of}

-- words that are none name the current directory alone
pub no_line : (words : List (List ℕ)) → line_of words ≡ None → places_of words ≡ record { directory = codes "."; certificates = None; results = None }
unfolding places_of command_of
no_line words none = rw none refl

-- one that is not accepted names its own
pub refused_line : (words : List (List ℕ)) (line : Line) → line_of words ≡ Some line → is_ok (asked_in (Some line)) ≡ false
    → places_of words ≡ record { directory = line.directory; certificates = None; results = None }
unfolding places_of command_of
refused_line words line is refused = rw (is, refused) refl

-- and one that is accepted those of its options too
pub accepted_line : (words : List (List ℕ)) (line : Line) → line_of words ≡ Some line → is_ok (asked_in (Some line)) ≡ true
    → places_of words ≡ record {
      directory = line.directory;
      certificates = value_of CertDir (listed (given_of line.options));
      results = value_of Out (listed (given_of line.options));
    }
unfolding places_of command_of
accepted_line words line is accepted = rw (is, accepted) refl
