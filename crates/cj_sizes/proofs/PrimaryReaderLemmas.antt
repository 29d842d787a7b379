-- The lines of a file of primaries, one after another.
use Rattle.std.proofs.Common.{◌≡◌, ℕ, ◌+◌, List, [], ◌∷◌, Result, Ok, Err, IsOk, ap, sym, subst, ◌∙◌, refl}
use Rattle.cj_kvn.specs.Cursors.{IsFirst, LinesLeft, said_by}
use Rattle.cj_kvn.specs.Lines.{Numbered, form_at, line_at}
use Rattle.cj_kvn.specs.Lines as kvn
use Rattle.cj_kvn.specs.declared.lines.KvnCause.{KvnCause}
use Rattle.cj_kvn.specs.declared.text_fault.LineFault.{LineFault}
use Rattle.cj_kvn.specs.declared.lines.Line.{Line}
use Rattle.cj_kvn.proofs.CursorLemmas.{first_said}
use Rattle.cj_kvn.proofs.FaultLemmas.{told_gives}
use Rattle.cj_kvn.specs.Faults.{at_line, ◌>>=◌, Follows, Gives, IsToldAs, refused_at}
use Rattle.cj_sizes.specs.Primaries.{Fault, ids_said, reading, with_line, with_lines}
use Rattle.cj_formats.specs.declared.primaries_cause.PrimariesCause.{PrimariesCause}
use Rattle.cj_formats.specs.declared.primaries_cause.PrimariesCause.TheVariants.{Kvn}
use Rattle.cj_kvn.specs.declared.text_fault.TextFault.{TextFault}
use Rattle.cj_kvn.specs.declared.text_fault.Refused.{Refused}
use Rattle.cj_kvn.specs.declared.text_fault.Refused.TheVariants.{Memory, Because}

abbrev Ids : Type 0
Ids = List (List ℕ)

abbrev Said : Type 0
Said = Result (List Numbered) (LineFault KvnCause)

abbrev behind_line : Numbered → Said → Said
behind_line line said = said >>= λ others. Ok (line ∷ others)

-- a file is read by its lines
pub ids_by_said : (known : Ids) (bytes : List ℕ) → reading known bytes ≡ ids_said known [] (kvn.reading bytes)
unfolding reading
ids_by_said known bytes = refl

ids_followed : (known before next : Ids) (line : Numbered) (others : Said) → with_line known before line.form ≡ Ok next
    → ids_said known before (behind_line line others) ≡ ids_said known next others
ids_followed known before next line (Ok ls) h = ap (λ (r : Result Ids PrimariesCause). at_line line.number r >>= (λ s. with_lines known s ls)) h
ids_followed known before next line (Err e) h = refl

-- the next line leads from the designators so far to the next
pub id_line_followed : (known before next : Ids) (left behind : LinesLeft) (line : Line) (bytes : List ℕ) → IsFirst left line behind → left.bytes ≡ bytes
    → with_line known before (form_at bytes line.kind) ≡ Ok next → ids_said known before (said_by left) ≡ ids_said known next (said_by behind)
id_line_followed known before next left behind line bytes is same h =
    let here = ap (λ (b : List ℕ). with_line known before (form_at b line.kind)) same ∙ h in
    ap (ids_said known before) (first_said left behind line is) ∙ ids_followed known before next (line_at left.bytes line) (said_by behind) here

ids_end : (known before : Ids) (line : Numbered) (others : Said) (cause : PrimariesCause) → IsOk others → with_line known before line.form ≡ Err cause
    → ids_said known before (behind_line line others) ≡ Err (record { line = line.number; cause = cause })
ids_end known before line (Ok ls) cause is h = ap (λ (r : Result Ids PrimariesCause). at_line line.number r >>= (λ s. with_lines known s ls)) h
ids_end known before line (Err e) cause is h = absurd cc

-- it is the first with a fault, where each line behind it has a form
pub id_line_refused : {X : Type 0} (view : X → Ids) (known before : Ids) (left behind : LinesLeft) (line : Line) (bytes : List ℕ) (refused : Refused PrimariesCause) (fault : TextFault PrimariesCause) (said : Result Ids Fault)
    → IsFirst left line behind → left.bytes ≡ bytes → IsOk (said_by behind)
    → Follows (λ (ids : Ids). ids) (Err refused) (with_line known before (form_at bytes line.kind)) → fault ≡ refused_at line.number refused
    → ids_said known before (said_by left) ≡ said → Gives view (Err fault) said
id_line_refused view known before left behind line bytes Memory fault said is same forms h e whole = subst (λ (f : TextFault PrimariesCause). Gives view (Err f) said) (sym e) tt
id_line_refused view known before left behind line bytes (Because cause) fault said is same forms h e whole =
    let here = ap (λ (b : List ℕ). with_line known before (form_at b line.kind)) same ∙ h in
    subst (λ (f : TextFault PrimariesCause). Gives view (Err f) said) (sym e)
    (sym whole ∙ ap (ids_said known before) (first_said left behind line is) ∙ ids_end known before (line_at left.bytes line) (said_by behind) cause forms here)

-- a line without a form
pub id_form_refused : {X : Type 0} (view : X → Ids) (known before : Ids) (others : Said) (e : LineFault KvnCause) (fault : TextFault PrimariesCause) (said : Result Ids Fault)
    → others ≡ Err e → IsToldAs (λ cause c. c ≡ Kvn cause) e fault → ids_said known before others ≡ said → Gives view (Err fault) said
id_form_refused view known before others e fault said h told whole = told_gives view Kvn said e fault told (sym whole ∙ ap (ids_said known before) h)

-- no line is left
pub id_lines_end : (known before : Ids) (left : LinesLeft) (said : Result Ids Fault) → left.rest ≡ [] → ids_said known before (said_by left) ≡ said → said ≡ Ok before
id_lines_end known before left said none whole = sym whole ∙ ap (λ (rest : List (List ℕ)). ids_said known before (kvn.lines_said (left.number + 1) rest)) none
