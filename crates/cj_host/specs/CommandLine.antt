-- What the words of a command line ask of the program, the program's name left out.
use Rattle.std.specs.Prelude.{ℕ, Bool, ◌||◌, List, [], ◌∷◌, Option, Some, None, codes, bytes_eq, if◌then◌else◌}
use Rattle.cj_advice.specs.declared.cause.Cause.{Cause}
use Rattle.cj_advice.specs.Causes.{cause_named}
use Rattle.cj_words.specs.declared.command.Verb.{Verb}
use Rattle.cj_words.specs.Lines.{verb_of}
use Rattle.cj_host.specs.declared.notice.Notice.{Notice}
use Rattle.cj_host.specs.declared.notice.Notice.TheVariants.{Help, CommandHelp, Version, Causes, Explanation, NoCause}

abbrev pub asks_help : List ℕ → Bool
asks_help word = bytes_eq word (codes "--help") || bytes_eq word (codes "-h")

-- the notice that a word asks for which stands alone
abbrev pub notice_alone : List ℕ → Option Notice
notice_alone word =
    if asks_help word then Some Help
    else if bytes_eq word (codes "--version") then Some Version
    else if bytes_eq word (codes "--explain") then Some Causes
    else None

-- and one that stands behind a command alone
abbrev pub notice_behind : Verb → List ℕ → Option Notice
notice_behind verb word =
    if asks_help word then Some (CommandHelp verb)
    else if bytes_eq word (codes "--version") then Some Version
    else None

abbrev pub notice_behind_verb : Option Verb → List ℕ → Option Notice
notice_behind_verb None word = None
notice_behind_verb (Some verb) word = notice_behind verb word

-- the cause of a fault line at length, by the words that it prints
abbrev pub notice_of_cause : Option Cause → Notice
notice_of_cause None = NoCause
notice_of_cause (Some cause) = Explanation cause

abbrev pub notice_of_two : List ℕ → List ℕ → Option Notice
notice_of_two word next =
    if bytes_eq word (codes "--explain") then Some (notice_of_cause (cause_named next)) else notice_behind_verb (verb_of word) next

-- two words ask for one where no others stand beside them
abbrev pub notice_beside : List ℕ → List ℕ → List (List ℕ) → Option Notice
notice_beside word next [] = notice_of_two word next
notice_beside word next (other ∷ others) = None

-- the notice that a word asks for before these
abbrev pub notice_before : List ℕ → List (List ℕ) → Option Notice
notice_before word [] = notice_alone word
notice_before word (next ∷ others) = notice_beside word next others

-- the notice that the words ask for in place of a run
abbrev pub notice_of : List (List ℕ) → Option Notice
notice_of [] = None
notice_of (word ∷ rest) = notice_before word rest
