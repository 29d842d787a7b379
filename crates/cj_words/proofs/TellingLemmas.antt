-- What a line asks to be told.
use Rattle.std.proofs.Common.{◌≡◌, ℕ, List, true, false, Some, None, refl}
use Rattle.std.specs.Prelude.{is_ok}
use Rattle.cj_words.specs.declared.option.Opt.TheVariants.{Warnings, AllFaults}
use Rattle.cj_words.specs.Commands.{asked_in, command_of}
use Rattle.cj_words.specs.Lines.{Line, line_of}
use Rattle.cj_words.specs.Options.{given_of, is_given, listed}
use Rattle.cj_words.specs.Telling.{telling_of}

-- words that are none ask for nothing
pub none_told : (words : List (List ℕ)) → line_of words ≡ None → telling_of words ≡ record { warnings = false; all_faults = false }
unfolding telling_of command_of
none_told words none = rw none refl

-- and so does a line that is not accepted
pub refused_told : (words : List (List ℕ)) (line : Line) → line_of words ≡ Some line → is_ok (asked_in (Some line)) ≡ false
    → telling_of words ≡ record { warnings = false; all_faults = false }
unfolding telling_of command_of
refused_told words line is refused = rw (is, refused) refl

-- one that is accepted asks for what its options say
pub accepted_told : (words : List (List ℕ)) (line : Line) → line_of words ≡ Some line → is_ok (asked_in (Some line)) ≡ true
    → telling_of words ≡ record {
      warnings = is_given Warnings (listed (given_of line.options));
      all_faults = is_given AllFaults (listed (given_of line.options));
    }
unfolding telling_of command_of
accepted_told words line is accepted = rw (is, accepted) refl
