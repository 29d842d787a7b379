-- What the lines that are left say, by the first of them.
use Rattle.std.proofs.Common.{◌≡◌, ℕ, ◌+◌, List, [], ◌∷◌, Result, Ok, Err, IsOk, ap, sym, ◌∙◌, refl, subst}
use Rattle.cj_kvn.specs.Lines.{Form, Numbered, form_at, line_at, line_form, lines_said}
use Rattle.cj_kvn.specs.Faults.{◌>>=◌}
use Rattle.cj_kvn.specs.Cursors.{IsFirst, LinesLeft, said_by}
use Rattle.cj_kvn.specs.declared.lines.KvnCause.{KvnCause}
use Rattle.cj_kvn.specs.declared.lines.Line.{Line}
use Rattle.cj_kvn.specs.declared.text_fault.LineFault.{LineFault}

-- the first line, and what those behind it say
pub first_said : (left behind : LinesLeft) (line : Line) → IsFirst left line behind
    → said_by left ≡ said_by behind >>= λ others. Ok (line_at left.bytes line ∷ others)
first_said left behind line is =
    let there : said_by behind ≡ lines_said (left.number + 1 + 1) behind.rest = ap (λ (n : ℕ). lines_said (n + 1) behind.rest) (is.counted ∙ is.number) in
    ap (lines_said (left.number + 1)) is.first
    ∙ ap (λ (said : Result Form (LineFault KvnCause)). said >>= λ form. lines_said (left.number + 1 + 1) behind.rest >>= λ others. Ok (record { number = left.number + 1; form = form } ∷ others))
    (ap (λ (n : ℕ). line_form n is.text) (sym is.number) ∙ is.form)
    ∙ ap (λ (said : Result (List Numbered) (LineFault KvnCause)). said >>= λ others. Ok (record { number = left.number + 1; form = form_at left.bytes line.kind } ∷ others)) (sym there)
    ∙ ap (λ (n : ℕ). said_by behind >>= λ others. Ok (record { number = n; form = form_at left.bytes line.kind } ∷ others)) (sym is.number)

-- a fault of the lines that are left is one of all of them, and where they have none all have none
pub record Leads (all left : Result (List Numbered) (LineFault KvnCause)) : Type 0 where
  pub fault : (e : LineFault KvnCause) → left ≡ Err e → all ≡ Err e
  pub none : IsOk left → IsOk all

pub leads_itself : (all : Result (List Numbered) (LineFault KvnCause)) → Leads all all
leads_itself all = record { fault = λ e h. h; none = λ h. h }

leads_behind : (all behind : Result (List Numbered) (LineFault KvnCause)) (line : Numbered) → Leads all (behind >>= λ others. Ok (line ∷ others)) → Leads all behind
leads_behind all (Ok others) line h = record { fault = λ e same. absurd cc; none = λ is. h.none is }
leads_behind all (Err e) line h = record { fault = λ f same. h.fault f same; none = λ is. h.none is }

pub leads_on : (all : Result (List Numbered) (LineFault KvnCause)) (left behind : LinesLeft) (line : Line) → IsFirst left line behind → Leads all (said_by left) → Leads all (said_by behind)
leads_on all left behind line is h = leads_behind all (said_by behind) (line_at left.bytes line) (subst (Leads all) (first_said left behind line is) h)

-- nothing is left
pub all_have_forms : (all : Result (List Numbered) (LineFault KvnCause)) (left : LinesLeft) → left.rest ≡ [] → Leads all (said_by left) → IsOk all
all_have_forms all left none h = h.none (subst (λ (rest : List (List ℕ)). IsOk (lines_said (left.number + 1) rest)) (sym none) refl)
