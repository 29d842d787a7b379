-- The options of the command line, and how they stand on it.
use Rattle.std.specs.Prelude.{ℕ, Bool, true, false, not, ◌&&◌, ◌||◌, ◌==◌, nat_le, nat_lt, length, if◌then◌else◌, List, [], ◌∷◌, Option, Some, None, codes, count_by, find}
use Rattle.std.specs.List.{list_all, before_first, after_first}
use Rattle.std.specs.Str.{bytes_eq}
use Rattle.cj_kvn.specs.Lines.{is_equals}
use Rattle.cj_words.specs.declared.option.Opt.{Opt}
use Rattle.cj_words.specs.declared.option.Opt.TheVariants.{Threshold, Workers, From, To, Suffix, Cert, Originator, Cells, Seed, Objects, Minutes, AsHermite3, Sizes, Primaries, CertVersion, Update, Changed, Report, Out, CertDir, Rtn, Coverage, MustCover, Brief, Within, Warnings, AllFaults, Large}
use Rattle.cj_words.specs.declared.command.Verb.{Verb}
use Rattle.cj_words.specs.declared.command.Verb.TheVariants.{Screen, Check, Generate, Selfrun, Rewrite, Thin, Rescreen}

abbrev pub name_of : Opt → List ℕ
name_of Threshold = codes "--threshold"
name_of Workers = codes "--workers"
name_of From = codes "--from"
name_of To = codes "--to"
name_of Suffix = codes "--suffix"
name_of Cert = codes "--cert"
name_of Originator = codes "--originator"
name_of Cells = codes "--cells"
name_of Seed = codes "--seed"
name_of Objects = codes "--objects"
name_of Minutes = codes "--minutes"
name_of AsHermite3 = codes "--as-hermite3"
name_of Sizes = codes "--sizes"
name_of Primaries = codes "--primaries"
name_of CertVersion = codes "--cert-version"
name_of Update = codes "--update"
name_of Changed = codes "--changed"
name_of Report = codes "--report"
name_of Out = codes "--out"
name_of CertDir = codes "--cert-dir"
name_of Rtn = codes "--rtn"
name_of Coverage = codes "--coverage"
name_of MustCover = codes "--must-cover"
name_of Brief = codes "--brief"
name_of Within = codes "--within"
name_of Warnings = codes "--warnings"
name_of AllFaults = codes "--all-faults"
name_of Large = codes "--large"

-- an option on the command line: its name and its value, empty for a flag
pub record Given : Type 0 where
  pub name : List ℕ
  pub value : List ℕ

abbrev pub is_named : Opt → Given → Bool
is_named option given = bytes_eq given.name (name_of option)

-- the name of an option that says what else is told beside how the run ends; it is a flag
abbrev pub is_telling_name : List ℕ → Bool
is_telling_name name = bytes_eq name (name_of Warnings) || bytes_eq name (name_of AllFaults)

-- the name of an option of each command that reads the files of a directory
abbrev pub is_directory_name : List ℕ → Bool
is_directory_name name =
    bytes_eq name (name_of Threshold)
    || (bytes_eq name (name_of From)
    || (bytes_eq name (name_of To) || (bytes_eq name (name_of Suffix) || (bytes_eq name (name_of AsHermite3)
    || (bytes_eq name (name_of Sizes) || is_telling_name name)))))

-- one of each command that makes up a catalogue
abbrev pub is_catalogue_name : List ℕ → Bool
is_catalogue_name name = bytes_eq name (name_of Seed) || (bytes_eq name (name_of Objects) || bytes_eq name (name_of Minutes))

-- the name of an option of each command that screens the files of a directory
abbrev pub is_screening_name : List ℕ → Bool
is_screening_name name =
    is_directory_name name
    || (bytes_eq name (name_of Workers)
    || (bytes_eq name (name_of Originator)
    || (bytes_eq name (name_of Cells)
    || (bytes_eq name (name_of CertVersion)
    || (bytes_eq name (name_of Out)
    || (bytes_eq name (name_of Rtn)
    || (bytes_eq name (name_of Coverage) || (bytes_eq name (name_of MustCover) || (bytes_eq name (name_of Brief) || bytes_eq name (name_of Primaries))))))))))

-- the name of an option of each command that checks the certificate of a directory
abbrev pub is_checking_name : List ℕ → Bool
is_checking_name name =
    is_directory_name name
    || (bytes_eq name (name_of Cert)
    || (bytes_eq name (name_of CertDir) || (bytes_eq name (name_of Update) || (bytes_eq name (name_of Brief) || bytes_eq name (name_of Primaries)))))

-- the name of an option of the command
abbrev pub is_name : Verb → List ℕ → Bool
is_name Screen name = is_screening_name name || bytes_eq name (name_of Large)
is_name Check name =
    is_checking_name name
    || (bytes_eq name (name_of Report) || (bytes_eq name (name_of Coverage) || bytes_eq name (name_of Large)))
is_name Generate name = is_catalogue_name name || bytes_eq name (name_of Out)
is_name Selfrun name = bytes_eq name (name_of Threshold) || (bytes_eq name (name_of Workers) || (bytes_eq name (name_of Cells) || is_catalogue_name name))
is_name Rewrite name = is_checking_name name || bytes_eq name (name_of Out)
is_name Thin name =
    bytes_eq name (name_of Suffix)
    || (bytes_eq name (name_of AsHermite3) || (bytes_eq name (name_of Out) || bytes_eq name (name_of Within)))
is_name Rescreen name = is_screening_name name || (bytes_eq name (name_of Update) || bytes_eq name (name_of Changed))

-- the name of a flag: an option that has no value
abbrev pub is_flag : List ℕ → Bool
is_flag name =
    bytes_eq name (name_of AsHermite3)
    || (bytes_eq name (name_of Changed)
    || (bytes_eq name (name_of Rtn)
    || (bytes_eq name (name_of Coverage)
    || (bytes_eq name (name_of MustCover)
    || (bytes_eq name (name_of Brief) || (bytes_eq name (name_of Large) || is_telling_name name))))))

-- a word that may stand on its own as a directory or as a value: not empty, and no option
abbrev pub is_value : List ℕ → Bool
is_value [] = false
is_value (b ∷ word) = not (b == 45)

-- there is a = in the word
abbrev pub has_equals : List ℕ → Bool
has_equals word = nat_lt (length (before_first is_equals word)) (length word)

-- a flag, which is one word
abbrev pub flag : List ℕ → Given
flag word = record { name = word; value = [] }

-- the option in one word, as --threshold=5
abbrev pub in_one_word : List ℕ → Given
in_one_word word = record { name = before_first is_equals word; value = after_first is_equals word }

-- the option in two words, as --threshold 5
abbrev pub in_two_words : List ℕ → List ℕ → Given
in_two_words word value = record { name = word; value = value }

-- what stands in front of a list, if both are there
abbrev pub in_front : Bool → Given → Option (List Given) → Option (List Given)
in_front true given (Some others) = Some (given ∷ others)
in_front true given None = None
in_front false given others = None

abbrev pub is_empty : List ℕ → Bool
is_empty [] = true
is_empty (b ∷ bytes) = false

-- a name may have this value behind a =: no flag has one, and it is not empty
abbrev pub may_have : List ℕ → List ℕ → Bool
may_have name value = not (is_flag name) && not (is_empty value)

-- the word is an option with its value
abbrev pub is_one_word : List ℕ → Bool
is_one_word word = may_have (before_first is_equals word) (after_first is_equals word)

-- the words as options with their values, if they are nothing else: a flag stands alone, so does a word with =, and another takes the
-- next word as its value
abbrev pub given_of : List (List ℕ) → Option (List Given)
given_of [] = Some []
given_of (word ∷ []) =
    if is_flag word then in_front true (flag word) (Some [])
    else if has_equals word then in_front (is_one_word word) (in_one_word word) (Some [])
    else None
given_of (word ∷ next ∷ words) =
    if is_flag word then in_front true (flag word) (given_of (next ∷ words))
    else if has_equals word then in_front (is_one_word word) (in_one_word word) (given_of (next ∷ words))
    else in_front (is_value next) (in_two_words word next) (given_of words)

-- no words are no options, and any that do not begin with one are refused
abbrev pub if_empty : List (List ℕ) → Option (List Given)
if_empty [] = Some []
if_empty (word ∷ words) = None

-- no word follows that may stand as a value
abbrev pub none_next : List (List ℕ) → Bool
none_next [] = true
none_next (word ∷ words) = not (is_value word)

-- it is an option of the command
abbrev pub is_known : Verb → Given → Bool
is_known verb given = is_name verb given.name

-- how often an option stands
abbrev pub count_of : Opt → List Given → ℕ
count_of option givens = count_by (is_named option) givens

-- an option stands at most once
abbrev pub is_single : Opt → List Given → Bool
is_single option givens = nat_le (count_of option givens) 1

-- so does each option of the commands that read the files of a directory
abbrev pub are_directory_single : List Given → Bool
are_directory_single givens =
    is_single Threshold givens
    && (is_single From givens
    && (is_single To givens
    && (is_single Suffix givens
    && (is_single AsHermite3 givens
    && (is_single Sizes givens
    && (is_single Warnings givens
    && is_single AllFaults givens))))))

-- so does each option of the commands that make up a catalogue
abbrev pub are_catalogue_single : List Given → Bool
are_catalogue_single givens = is_single Seed givens && (is_single Objects givens && is_single Minutes givens)

-- so does each option that says what is written and where
abbrev pub are_results_single : List Given → Bool
are_results_single givens =
    is_single Originator givens
    && (is_single CertVersion givens
    && (is_single Report givens
    && (is_single Out givens
    && (is_single CertDir givens && (is_single Rtn givens && (is_single Coverage givens && is_single Brief givens))))))

-- so does each other option
abbrev pub are_others_single : List Given → Bool
are_others_single givens =
    is_single Workers givens
    && (is_single Cert givens
    && (is_single Cells givens
    && (is_single Update givens
    && (is_single Changed givens && (is_single MustCover givens && (is_single Within givens && (is_single Large givens && is_single Primaries givens)))))))

-- so does each
unfoldable pub are_single : List Given → Bool
are_single givens =
    are_directory_single givens && (are_catalogue_single givens && (are_results_single givens && are_others_single givens))

-- each is known and stands at most once
abbrev pub are_options : Verb → List Given → Bool
are_options verb givens = list_all (is_known verb) givens && are_single givens

abbrev pub value_in : Option Given → Option (List ℕ)
value_in None = None
value_in (Some given) = Some given.value

-- the value of an option, where it stands
abbrev pub value_of : Opt → List Given → Option (List ℕ)
value_of option givens = value_in (find (is_named option) givens)

-- the option stands
abbrev pub is_given : Opt → List Given → Bool
is_given option givens = nat_le 1 (count_of option givens)

-- both ends of the window stand
abbrev pub has_ends : List Given → Bool
has_ends givens = is_given From givens && is_given To givens

-- a run may take a whole sky, or primaries are named: then the certificate is in brief
abbrev pub implies_brief : List Given → Bool
implies_brief givens = is_given Large givens || is_given Primaries givens

-- the certificate may be in brief
abbrev pub asks_brief : List Given → Bool
asks_brief givens = is_given Brief givens || implies_brief givens

-- something is asked of messages or of the certificate
abbrev pub shapes_outputs : List Given → Bool
shapes_outputs givens = is_given Originator givens || (is_given CertVersion givens || (is_given Rtn givens || is_given Brief givens))

-- a report is named where it is to tell which ticks each object covers
abbrev pub has_report : List Given → Bool
has_report givens = not (is_given Coverage givens) || is_given Report givens

-- The options of a command go together. Screening again asks for both ends of the window; pairs that changed have neither messages nor a
-- certificate where they are told alone. What a check asks of a report asks for one.
abbrev pub go_together : Verb → List Given → Bool
go_together Rescreen givens = has_ends givens && not (is_given Changed givens && shapes_outputs givens)
go_together Screen givens = true
go_together Check givens = has_report givens
go_together Generate givens = true
go_together Selfrun givens = true
go_together Rewrite givens = true
go_together Thin givens = true

-- the words are options with their values
abbrev pub are_listed : Option (List Given) → Bool
are_listed None = false
are_listed (Some givens) = true

-- and each is one of the command
abbrev pub are_known : Verb → Option (List Given) → Bool
are_known verb None = false
are_known verb (Some givens) = list_all (is_known verb) givens

-- the options, none where the words are not of that form
abbrev pub listed : Option (List Given) → List Given
listed None = []
listed (Some givens) = givens

-- the words are options, each one of the command and given at most once, and these go together
abbrev pub are_accepted : Verb → Option (List Given) → Bool
are_accepted verb None = false
are_accepted verb (Some givens) = are_options verb givens && go_together verb givens
