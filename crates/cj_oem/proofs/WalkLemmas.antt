-- Where the lines of a file lead, line after line.
use Rattle.std.proofs.Common.{◌≡◌, ℕ, ◌+◌, List, [], ◌∷◌, ◌++◌, false, ap, ◌∙◌, refl, Result, Ok, Err}
use Rattle.cj_kvn.specs.Lines.{Form}
use Rattle.cj_formats.specs.declared.oem_cause.OemCause.{OemCause}
use Rattle.cj_kvn.specs.Faults.{◌>>=◌, at_line}
use Rattle.cj_oem.specs.Reading.{read_on}
use Rattle.cj_oem.specs.Stages.{Body, Stage, finished, follows}
use Rattle.cj_oem.proofs.PrintedLineLemmas.{numbered_from}

-- where these forms lead from a stage
abbrev pub walk : Stage → List Form → Result Stage OemCause
walk stage [] = Ok stage
walk stage (form ∷ forms) = follows false stage form >>= λ next. walk next forms

pub walk_step : (stage next : Stage) (form : Form) (forms : List Form) → follows false stage form ≡ Ok next → walk stage (form ∷ forms) ≡ walk next forms
walk_step stage next form forms leads = rw leads refl

-- one run of lines behind another
append_from : (stage : Stage) (form : Form) (forms others : List Form) (mid : Stage) (r : Result Stage OemCause) → follows false stage form ≡ r
    → ((next : Stage) → walk next forms ≡ Ok mid → walk next (forms ++ others) ≡ walk mid others)
    → (r >>= λ next. walk next forms) ≡ Ok mid → walk stage (form ∷ (forms ++ others)) ≡ walk mid others
append_from stage form forms others mid (Ok next) leads later goes = walk_step stage next form (forms ++ others) leads ∙ later next goes
append_from stage form forms others mid (Err cause) leads later goes = absurd cc

pub walk_append : (stage mid : Stage) (forms others : List Form) → walk stage forms ≡ Ok mid → walk stage (forms ++ others) ≡ walk mid others
walk_append stage mid [] others goes = ap (λ (r : Result Stage OemCause). r >>= λ next. walk next others) goes
walk_append stage mid (form ∷ forms) others goes =
    append_from stage form forms others mid (follows false stage form) refl (λ next. walk_append next mid forms others) goes

-- the lines of the whole file
read_from : (stage : Stage) (form : Form) (forms : List Form) (number : ℕ) (final : Stage) (body : Body) (r : Result Stage OemCause) → follows false stage form ≡ r
    → ((next : Stage) → walk next forms ≡ Ok final → read_on false next (number + 1) (numbered_from (number + 1) forms) ≡ Ok body)
    → (r >>= λ next. walk next forms) ≡ Ok final → read_on false stage number (numbered_from number (form ∷ forms)) ≡ Ok body
read_from stage form forms number final body (Ok next) leads later goes = rw leads (later next goes)
read_from stage form forms number final body (Err cause) leads later goes = absurd cc

pub read_walk : (stage final : Stage) (forms : List Form) (number : ℕ) (body : Body) → walk stage forms ≡ Ok final → finished final ≡ Ok body
    → read_on false stage number (numbered_from number forms) ≡ Ok body
read_walk stage final [] number body goes ends =
    let same : stage ≡ final = cc in
    ap (λ s. at_line number (finished s)) same ∙ rw ends refl
read_walk stage final (form ∷ forms) number body goes ends =
    read_from stage form forms number final body (follows false stage form) refl (λ next goes_on. read_walk next final forms (number + 1) body goes_on ends) goes
