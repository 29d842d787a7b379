-- The lines of a file, one after another.
use Rattle.std.proofs.Common.{◌≡◌, ℕ, ◌+◌, List, [], ◌∷◌, Result, Ok, Err, IsOk, ap, sym, subst, ◌∙◌, refl}
use Rattle.cj_kvn.specs.Cursors.{IsFirst, LinesLeft, said_by}
use Rattle.cj_kvn.specs.Lines.{Numbered, form_at, line_at}
use Rattle.cj_kvn.specs.Lines as kvn
use Rattle.cj_kvn.specs.declared.lines.KvnCause.{KvnCause}
use Rattle.cj_kvn.specs.declared.text_fault.LineFault.{LineFault}
use Rattle.cj_kvn.specs.declared.lines.Line.{Line}
use Rattle.cj_kvn.proofs.CursorLemmas.{first_said}
use Rattle.cj_kvn.proofs.FaultLemmas.{told_gives}
use Rattle.cj_kvn.specs.Faults.{at_line, ◌>>=◌, Follows, Gives, IsToldAs, refused_at}
use Rattle.cj_sizes.specs.Reading.{Fault, sizes_said, with_line, with_lines}
use Rattle.cj_sizes.specs.Sizes.{Size}
use Rattle.cj_formats.specs.declared.sizes_cause.SizesCause.{SizesCause}
use Rattle.cj_formats.specs.declared.sizes_cause.SizesCause.TheVariants.{Kvn}
use Rattle.cj_kvn.specs.declared.text_fault.TextFault.{TextFault}
use Rattle.cj_kvn.specs.declared.text_fault.Refused.{Refused}
use Rattle.cj_kvn.specs.declared.text_fault.Refused.TheVariants.{Memory, Because}

abbrev pub Said : Type 0
Said = Result (List Numbered) (LineFault KvnCause)

abbrev behind_line : Numbered → Said → Said
behind_line line said = said >>= λ others. Ok (line ∷ others)

sizes_followed : (before next : List Size) (line : Numbered) (others : Said) → with_line before line.form ≡ Ok next → sizes_said before (behind_line line others) ≡ sizes_said next others
sizes_followed before next line (Ok ls) h = ap (λ (r : Result (List Size) SizesCause). at_line line.number r >>= (λ s. with_lines s ls)) h
sizes_followed before next line (Err e) h = refl

-- the next line leads from the sizes so far to the next
pub line_followed : (before next : List Size) (left behind : LinesLeft) (line : Line) (bytes : List ℕ) → IsFirst left line behind → left.bytes ≡ bytes
    → with_line before (form_at bytes line.kind) ≡ Ok next → sizes_said before (said_by left) ≡ sizes_said next (said_by behind)
line_followed before next left behind line bytes is same h =
    let here = ap (λ (b : List ℕ). with_line before (form_at b line.kind)) same ∙ h in
    ap (sizes_said before) (first_said left behind line is) ∙ sizes_followed before next (line_at left.bytes line) (said_by behind) here

sizes_end : (before : List Size) (line : Numbered) (others : Said) (cause : SizesCause) → IsOk others → with_line before line.form ≡ Err cause
    → sizes_said before (behind_line line others) ≡ Err (record { line = line.number; cause = cause })
sizes_end before line (Ok ls) cause is h = ap (λ (r : Result (List Size) SizesCause). at_line line.number r >>= (λ s. with_lines s ls)) h
sizes_end before line (Err e) cause is h = absurd cc

-- it is the first with a fault, where each line behind it has a form
pub line_refused : {X : Type 0} (view : X → List Size) (before : List Size) (left behind : LinesLeft) (line : Line) (bytes : List ℕ) (refused : Refused SizesCause) (fault : TextFault SizesCause) (said : Result (List Size) Fault)
    → IsFirst left line behind → left.bytes ≡ bytes → IsOk (said_by behind)
    → Follows (λ (sizes : List Size). sizes) (Err refused) (with_line before (form_at bytes line.kind)) → fault ≡ refused_at line.number refused
    → sizes_said before (said_by left) ≡ said → Gives view (Err fault) said
line_refused view before left behind line bytes Memory fault said is same forms h e whole = subst (λ (f : TextFault SizesCause). Gives view (Err f) said) (sym e) tt
line_refused view before left behind line bytes (Because cause) fault said is same forms h e whole =
    let here = ap (λ (b : List ℕ). with_line before (form_at b line.kind)) same ∙ h in
    subst (λ (f : TextFault SizesCause). Gives view (Err f) said) (sym e)
    (sym whole ∙ ap (sizes_said before) (first_said left behind line is) ∙ sizes_end before (line_at left.bytes line) (said_by behind) cause forms here)

-- a line without a form
pub form_refused : {X : Type 0} (view : X → List Size) (before : List Size) (others : Said) (e : LineFault KvnCause) (fault : TextFault SizesCause) (said : Result (List Size) Fault)
    → others ≡ Err e → IsToldAs (λ cause c. c ≡ Kvn cause) e fault → sizes_said before others ≡ said → Gives view (Err fault) said
form_refused view before others e fault said h told whole = told_gives view Kvn said e fault told (sym whole ∙ ap (sizes_said before) h)

-- one behind the next line
pub fault_behind : (left behind : LinesLeft) (line : Line) (e : LineFault KvnCause) → IsFirst left line behind → said_by behind ≡ Err e → said_by left ≡ Err e
fault_behind left behind line e is h = first_said left behind line is ∙ ap (behind_line (line_at left.bytes line)) h

-- no line is left
pub lines_end : (before : List Size) (left : LinesLeft) (said : Result (List Size) Fault) → left.rest ≡ [] → sizes_said before (said_by left) ≡ said → said ≡ Ok before
lines_end before left said none whole = sym whole ∙ ap (λ (rest : List (List ℕ)). sizes_said before (kvn.lines_said (left.number + 1) rest)) none
