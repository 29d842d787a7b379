-- The commands of the program, and what the words of a command line ask for.
use Rattle.std.specs.Prelude.{ℕ, ◌-◌, ◌^◌, if◌then◌else◌, Bool, List, Option, Some, None, Result, Ok, Err, codes}
use Rattle.std.specs.Option.{option_copied}
use Rattle.cj_base.specs.Bounds.{MOST_MADE_OBJECTS}
use Rattle.cj_base.specs.Limits.{USUAL}
use Rattle.cj_formats.specs.declared.cert_format.CertFormat.{CertFormat}
use Rattle.cj_words.specs.declared.command.Checking as kept_checking
use Rattle.cj_words.specs.declared.command.Command.{Command}
use Rattle.cj_words.specs.declared.command.Command.TheVariants as commands
use Rattle.cj_words.specs.declared.command.Recipe as kept_recipe
use Rattle.cj_words.specs.declared.command.Rescreening as kept_rescreening
use Rattle.cj_words.specs.declared.command.Screening as kept_screening
use Rattle.cj_words.specs.declared.command.Selfrun as kept_selfrun
use Rattle.cj_words.specs.declared.command.Thinning as kept_thinning
use Rattle.cj_words.specs.declared.command.Verb.{Verb}
use Rattle.cj_words.specs.declared.command.Verb.TheVariants.{Screen, Check, Generate, Selfrun, Rewrite, Thin, Rescreen}
use Rattle.cj_words.specs.declared.option.Opt.{Opt}
use Rattle.cj_words.specs.declared.option.Opt.TheVariants.{Workers, Cert, Originator, Cells, Seed, Objects, Minutes, AsHermite3, CertVersion, Update, Changed, Report, Out, CertDir, Rtn, Within}
use Rattle.cj_words.specs.declared.option.UsageFault.{UsageFault}
use Rattle.cj_words.specs.declared.option.UsageFault.TheVariants.{Words, Value}
use Rattle.cj_words.specs.Lines.{Line, line_of}
use Rattle.cj_words.specs.Options.{Given, given_of, are_accepted, asks_brief, is_given, listed, value_of}
use Rattle.cj_words.specs.Settings.{◌>>=◌, PlainSettings, plain_settings, file_text_or, format_or, in_range, is_path_or_none, name_or, number_or, originator_or, sized_of, suffix_of, threshold_of, unsized_of, update_or, update_or_none}

-- how files are screened: how many workers share the work, who makes the messages, the greatest number of leaves, how the
-- certificate is written, whether messages tell the relative state along the axes of the first object
pub record PlainScreening : Type 0 where
  pub settings : PlainSettings
  pub workers : ℕ
  pub originator : List ℕ
  pub cells : ℕ
  pub format : CertFormat
  pub rtn : Bool

-- what is checked against files, or rewritten: the certificate in the file with this name, and beside it the report in the file with that
-- name, where one is named; what the names of update files end with, where files may be updates; whether the certificate may be in brief
pub record PlainChecking : Type 0 where
  pub settings : PlainSettings
  pub certificate : List ℕ
  pub report : Option (List ℕ)
  pub update : Option (List ℕ)
  pub brief : Bool

-- how files are screened again, some of them in place of others: what the names of update files end with, whether the pairs that changed are
-- told alone
pub record PlainRescreening : Type 0 where
  pub screening : PlainScreening
  pub update : List ℕ
  pub changed : Bool

-- how a catalogue is made up: what it is drawn from, how many objects it has, how many minutes it covers
pub record PlainRecipe : Type 0 where
  pub seed : ℕ
  pub objects : ℕ
  pub minutes : ℕ

-- how such a catalogue is screened: the threshold in metres, how many workers share the work, the greatest number of leaves
pub record PlainSelfrun : Type 0 where
  pub threshold : ℕ
  pub workers : ℕ
  pub cells : ℕ
  pub recipe : PlainRecipe

-- how files are written with fewer nodes: what the names of those that are taken end with, whether each is taken as if it declared the
-- cubic, how many metres an object may be from where it was
pub record PlainThinning : Type 0 where
  pub suffix : List ℕ
  pub as_hermite3 : Bool
  pub within : ℕ

-- what a command line asks for: files are screened, a certificate is checked, a catalogue is written, or one is screened, a certificate is
-- rewritten, files are written with fewer nodes, or are screened again
pub data PlainCommand : Type 0 where
  Screens : PlainScreening → PlainCommand
  Checks : PlainChecking → PlainCommand
  Generates : PlainRecipe → PlainCommand
  Selfruns : PlainSelfrun → PlainCommand
  Rewrites : PlainChecking → PlainCommand
  Thins : PlainThinning → PlainCommand
  Rescreens : PlainRescreening → PlainCommand

-- ---- what a command says

abbrev pub plain_screening : kept_screening.Screening → PlainScreening
plain_screening s = record { settings = plain_settings s.settings; workers = s.workers; originator = s.originator.now; cells = s.cells; format = s.format; rtn = s.rtn }

abbrev pub plain_checking : kept_checking.Checking → PlainChecking
plain_checking c = record {
  settings = plain_settings c.settings;
  certificate = c.certificate.now;
  report = option_copied c.report;
  update = option_copied c.update;
  brief = c.brief;
}

abbrev pub plain_rescreening : kept_rescreening.Rescreening → PlainRescreening
plain_rescreening r = record { screening = plain_screening r.screening; update = r.update.now; changed = r.changed }

abbrev pub plain_recipe : kept_recipe.Recipe → PlainRecipe
plain_recipe r = record { seed = r.seed; objects = r.objects; minutes = r.minutes }

abbrev pub plain_selfrun : kept_selfrun.Selfrun → PlainSelfrun
plain_selfrun t = record { threshold = t.threshold; workers = t.workers; cells = t.cells; recipe = plain_recipe t.recipe }

abbrev pub plain_thinning : kept_thinning.Thinning → PlainThinning
plain_thinning t = record { suffix = t.suffix.now; as_hermite3 = t.as_hermite3; within = t.within }

abbrev pub plain_command : Command → PlainCommand
plain_command (commands.Screen screening) = Screens (plain_screening screening)
plain_command (commands.Check checking) = Checks (plain_checking checking)
plain_command (commands.Generate recipe) = Generates (plain_recipe recipe)
plain_command (commands.Selfrun selfrun) = Selfruns (plain_selfrun selfrun)
plain_command (commands.Rewrite checking) = Rewrites (plain_checking checking)
plain_command (commands.Thin thinning) = Thins (plain_thinning thinning)
plain_command (commands.Rescreen rescreening) = Rescreens (plain_rescreening rescreening)

-- ---- what words ask for

-- how many workers share the work
abbrev pub workers_of : List Given → Result ℕ UsageFault
workers_of givens = in_range Workers (number_or 1 16 1 (value_of Workers givens))

-- the values of the options of a screening, or the first option whose value is out of its range
unfoldable pub screening_of : List Given → Result PlainScreening UsageFault
screening_of givens = do
  threshold ← threshold_of givens
  workers ← workers_of givens
  unsized ← unsized_of threshold givens
  originator ← in_range Originator (originator_or (codes "CONJ") (value_of Originator givens))
  cells ← in_range Cells (number_or 1 unsized.limits.leaves unsized.limits.leaves (value_of Cells givens))
  settings ← sized_of unsized givens
  format ← in_range CertVersion (format_or (asks_brief givens) (value_of CertVersion givens))
  Ok (record { settings = settings; workers = workers; originator = originator; cells = cells; format = format; rtn = is_given Rtn givens })

-- the same of a check, and of a certificate that is rewritten, which has no option for a report
unfoldable pub checking_of : List Given → Result PlainChecking UsageFault
checking_of givens = do
  threshold ← threshold_of givens
  unsized ← unsized_of threshold givens
  certificate ← in_range Cert (file_text_or 200 (codes "screen.cert") (value_of Cert givens))
  settings ← sized_of unsized givens
  update ← in_range Update (update_or_none settings.suffix (value_of Update givens))
  report ← in_range Report (name_or (value_of Report givens))
  Ok (record { settings = settings; certificate = certificate; report = report; update = update; brief = asks_brief givens })

-- the same of a screening again
unfoldable pub rescreening_of : List Given → Result PlainRescreening UsageFault
rescreening_of givens = do
  screening ← screening_of givens
  update ← in_range Update (update_or screening.settings.suffix (value_of Update givens))
  Ok (record { screening = screening; update = update; changed = is_given Changed givens })

-- the same of a catalogue
unfoldable pub recipe_of : List Given → Result PlainRecipe UsageFault
recipe_of givens = do
  seed ← in_range Seed (number_or 0 (2 ^ 64 - 1) 1 (value_of Seed givens))
  objects ← in_range Objects (number_or 1 MOST_MADE_OBJECTS 50 (value_of Objects givens))
  minutes ← in_range Minutes (number_or 1 1440 120 (value_of Minutes givens))
  Ok (record { seed = seed; objects = objects; minutes = minutes })

-- the same of a catalogue's screening
unfoldable pub selfrun_of : List Given → Result PlainSelfrun UsageFault
selfrun_of givens = do
  threshold ← threshold_of givens
  workers ← workers_of givens
  cells ← in_range Cells (number_or 1 USUAL.leaves USUAL.leaves (value_of Cells givens))
  recipe ← recipe_of givens
  Ok (record { threshold = threshold; workers = workers; cells = cells; recipe = recipe })

-- the same of files that are written with fewer nodes
unfoldable pub thinning_of : List Given → Result PlainThinning UsageFault
thinning_of givens = do
  suffix ← suffix_of givens
  within ← in_range Within (number_or 1 1000 1 (value_of Within givens))
  Ok (record { suffix = suffix; as_hermite3 = is_given AsHermite3 givens; within = within })

-- what the options of a command ask for
abbrev pub command_with : Verb → List Given → Result PlainCommand UsageFault
command_with Screen givens = screening_of givens >>= λ screening. Ok (Screens screening)
command_with Check givens = checking_of givens >>= λ checking. Ok (Checks checking)
command_with Generate givens = recipe_of givens >>= λ recipe. Ok (Generates recipe)
command_with Selfrun givens = selfrun_of givens >>= λ selfrun. Ok (Selfruns selfrun)
command_with Rewrite givens = checking_of givens >>= λ checking. Ok (Rewrites checking)
command_with Thin givens = thinning_of givens >>= λ thinning. Ok (Thins thinning)
command_with Rescreen givens = rescreening_of givens >>= λ rescreening. Ok (Rescreens rescreening)

-- an option that names a directory has a path as its value, where it stands. What is asked of files does not depend on it
abbrev pub place_judged : Opt → List Given → Result (Unit {0}) UsageFault
place_judged option givens = if is_path_or_none (value_of option givens) then Ok tt else Err (Value option)

-- what the options of a command ask for, the directories that they name judged behind all other values
abbrev pub placed_command_with : Verb → List Given → Result PlainCommand UsageFault
placed_command_with verb givens = do
  command ← command_with verb givens
  _ ← place_judged Out givens
  _ ← place_judged CertDir givens
  Ok command

-- what a line asks for
abbrev pub asked_in : Option Line → Result PlainCommand UsageFault
asked_in None = Err Words
asked_in (Some line) =
    if are_accepted line.verb (given_of line.options) then placed_command_with line.verb (listed (given_of line.options)) else Err Words

-- what a command line asks for: a command, a directory where the command has one, and options; or the fault that is found first
unfoldable pub command_of : List (List ℕ) → Result PlainCommand UsageFault
command_of words = asked_in (line_of words)
