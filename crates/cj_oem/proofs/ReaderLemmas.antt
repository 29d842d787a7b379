-- The lines of a file, one after another.
use Rattle.std.proofs.Common.{◌≡◌, ℕ, ◌+◌, List, [], ◌∷◌, Bool, Result, Ok, Err, IsOk, ap, sym, subst, ◌∙◌, refl}
use Rattle.cj_kvn.specs.Cursors.{IsFirst, LinesLeft, said_by}
use Rattle.cj_kvn.specs.Lines.{Numbered, form_at, line_at}
use Rattle.cj_kvn.specs.Lines as kvn
use Rattle.cj_kvn.specs.declared.lines.KvnCause.{KvnCause}
use Rattle.cj_kvn.specs.declared.text_fault.LineFault.{LineFault}
use Rattle.cj_kvn.specs.declared.lines.Line.{Line}
use Rattle.cj_kvn.proofs.CursorLemmas.{first_said}
use Rattle.cj_kvn.proofs.FaultLemmas.{told_gives}
use Rattle.cj_kvn.specs.Faults.{Follows, Gives, IsToldAs, refused_at, at_line, lines_or, ◌>>=◌}
use Rattle.cj_oem.specs.Readers.{body_of, stage_of}
use Rattle.cj_oem.specs.Reading.{Fault, read_on}
use Rattle.cj_oem.specs.Stages.{Body, Stage, follows}
use Rattle.cj_formats.specs.declared.oem_cause.OemCause.{OemCause}
use Rattle.cj_formats.specs.declared.oem_cause.OemCause.TheVariants.{Kvn}
use Rattle.cj_oem.specs.declared.body.Body as program
use Rattle.cj_kvn.specs.declared.text_fault.TextFault.{TextFault}
use Rattle.cj_kvn.specs.declared.text_fault.Refused.{Refused}
use Rattle.cj_kvn.specs.declared.text_fault.Refused.TheVariants as refused

abbrev pub Said : Type 0
Said = Result (List Numbered) (LineFault KvnCause)

-- where lines lead to from a stage, if each has a form
abbrev pub led_from : Bool → Stage → ℕ → Said → Result Body Fault
led_from as_hermite3 stage number said = lines_or Kvn said >>= read_on as_hermite3 stage number

abbrev behind_line : Numbered → Said → Said
behind_line line said = said >>= λ others. Ok (line ∷ others)

stage_led : (as_hermite3 : Bool) (stage next : Stage) (number : ℕ) (line : Numbered) (others : Said) → follows as_hermite3 stage line.form ≡ Ok next
    → led_from as_hermite3 stage number (behind_line line others) ≡ led_from as_hermite3 next (line.number + 1) others
stage_led as_hermite3 stage next number line (Ok ls) h = ap (λ (r : Result Stage OemCause). at_line line.number r >>= λ s. read_on as_hermite3 s (line.number + 1) ls) h
stage_led as_hermite3 stage next number line (Err e) h = refl

-- the next line leads from a stage to the next
pub line_followed : (as_hermite3 : Bool) (stage next : Stage) (number : ℕ) (left behind : LinesLeft) (line : Line) (bytes : List ℕ) → IsFirst left line behind → left.bytes ≡ bytes
    → follows as_hermite3 stage (form_at bytes line.kind) ≡ Ok next
    → led_from as_hermite3 stage number (said_by left) ≡ led_from as_hermite3 next (line.number + 1) (said_by behind)
line_followed as_hermite3 stage next number left behind line bytes is same h =
    let here = ap (λ (b : List ℕ). follows as_hermite3 stage (form_at b line.kind)) same ∙ h in
    ap (led_from as_hermite3 stage number) (first_said left behind line is)
    ∙ stage_led as_hermite3 stage next number (line_at left.bytes line) (said_by behind) here

stage_ends : (as_hermite3 : Bool) (stage : Stage) (number : ℕ) (line : Numbered) (others : Said) (cause : OemCause) → IsOk others → follows as_hermite3 stage line.form ≡ Err cause
    → led_from as_hermite3 stage number (behind_line line others) ≡ Err (record { line = line.number; cause = cause })
stage_ends as_hermite3 stage number line (Ok ls) cause is h = ap (λ (r : Result Stage OemCause). at_line line.number r >>= λ s. read_on as_hermite3 s (line.number + 1) ls) h
stage_ends as_hermite3 stage number line (Err e) cause is h = absurd cc

-- it is the first with a fault, where each line behind it has a form
pub line_refused : (as_hermite3 : Bool) (stage : Stage) (number : ℕ) (left behind : LinesLeft) (line : Line) (bytes : List ℕ) (why : Refused OemCause) (fault : TextFault OemCause) (said : Result Body Fault)
    → IsFirst left line behind → left.bytes ≡ bytes → IsOk (said_by behind)
    → Follows stage_of (Err why) (follows as_hermite3 stage (form_at bytes line.kind)) → fault ≡ refused_at line.number why
    → led_from as_hermite3 stage number (said_by left) ≡ said → Gives body_of (Err fault) said
line_refused as_hermite3 stage number left behind line bytes refused.Memory fault said is same forms h e whole = subst (λ (f : TextFault OemCause). Gives body_of (Err f) said) (sym e) tt
line_refused as_hermite3 stage number left behind line bytes (refused.Because cause) fault said is same forms h e whole =
    let here = ap (λ (b : List ℕ). follows as_hermite3 stage (form_at b line.kind)) same ∙ h in
    subst (λ (f : TextFault OemCause). Gives body_of (Err f) said) (sym e)
    (sym whole ∙ ap (led_from as_hermite3 stage number) (first_said left behind line is)
    ∙ stage_ends as_hermite3 stage number (line_at left.bytes line) (said_by behind) cause forms here)

-- a line without a form
pub form_refused : (as_hermite3 : Bool) (stage : Stage) (number : ℕ) (others : Said) (e : LineFault KvnCause) (fault : TextFault OemCause) (said : Result Body Fault)
    → others ≡ Err e → IsToldAs (λ cause c. c ≡ Kvn cause) e fault → led_from as_hermite3 stage number others ≡ said → Gives body_of (Err fault) said
form_refused as_hermite3 stage number others e fault said h told whole = told_gives body_of Kvn said e fault told (sym whole ∙ ap (led_from as_hermite3 stage number) h)

-- one behind the next line
pub fault_behind : (left behind : LinesLeft) (line : Line) (e : LineFault KvnCause) → IsFirst left line behind → said_by behind ≡ Err e → said_by left ≡ Err e
fault_behind left behind line e is h = first_said left behind line is ∙ ap (behind_line (line_at left.bytes line)) h

-- no line is left
pub lines_end : (as_hermite3 : Bool) (stage : Stage) (number : ℕ) (left : LinesLeft) (said : Result Body Fault) → left.rest ≡ []
    → led_from as_hermite3 stage number (said_by left) ≡ said → read_on as_hermite3 stage number [] ≡ said
lines_end as_hermite3 stage number left said none whole =
    sym (ap (λ (rest : List (List ℕ)). led_from as_hermite3 stage number (kvn.lines_said (left.number + 1) rest)) none) ∙ whole
