-- The options of a command.
use Rattle.std.specs.Prelude.{Bool, true, ◌≡◌}
use Rattle.cj_advice.specs.declared.slips.Slip.{Slip}
use Rattle.cj_advice.specs.declared.slips.Slip.TheVariants.{Nothing, NoCommand, NotAlone, NoDirectory, NoOption, Stray, NoValue, ValueOfFlag, Twice, NoEnd, NoReport, NotBeside}
use Rattle.cj_words.specs.declared.command.Verb.{Verb}
use Rattle.cj_words.specs.declared.option.Opt.{Opt}
use Rattle.cj_words.specs.Options.{is_name, name_of}

-- the command takes the option
abbrev pub takes : Verb → Opt → Bool
takes verb option = is_name verb (name_of option)

-- what is told to be nearest is an option of the command
abbrev pub IsOwn : Slip → Type 0
IsOwn Nothing = Unit {0}
IsOwn (NoCommand word) = Unit {0}
IsOwn (NotAlone word) = Unit {0}
IsOwn (NoDirectory verb) = Unit {0}
IsOwn (NoOption word verb nearest) = takes verb nearest ≡ true
IsOwn (Stray word verb) = Unit {0}
IsOwn (NoValue option) = Unit {0}
IsOwn (ValueOfFlag option) = Unit {0}
IsOwn (Twice option) = Unit {0}
IsOwn (NoEnd option) = Unit {0}
IsOwn (NoReport option) = Unit {0}
IsOwn (NotBeside option other) = Unit {0}
