use Rattle.std.proofs.Common.{◌≡◌, ℕ, ◌≤◌, List, [], ◌∷◌, length, get_or, arith, ap, subst, sym, ◌∙◌}
use Rattle.std.specs.Prelude.{if◌then◌else◌}
use Rattle.std.specs.Str.Parse.{digits_value_after}
use Rattle.cj_kvn.specs.Numbers.{is_point}
use Rattle.cj_kvn.specs.Scanning.{Leads, run, after_run, fraction_run, after_fraction}
use Rattle.cj_kvn.proofs.ListLemmas.{tail_of, tail_of-cons}
use Rattle.cj_kvn.proofs.ScanLemmas.{split_length}
use Rattle.cj_kvn.proofs.scanning.read_fraction.Goals as goal

-- what stands behind a point
behind_point : (text : List ℕ) → 1 ≤ length text → get_or text 0 0 ≡ 46
    → (fraction_run text ≡ run (tail_of text)) × (after_fraction text ≡ after_run (tail_of text))
behind_point [] some point = absurd (omega arith)
behind_point (b ∷ text) some point = (
  ap (λ (p : ℕ). if is_point p then run text else []) point ∙ ap run (sym (tail_of-cons b text)),
  ap (λ (p : ℕ). if is_point p then after_run text else p ∷ text) point ∙ ap after_run (sym (tail_of-cons b text)),
)

pub returns-in-46-clause-leads : goal.returns-in-46-clause-leads
returns-in-46-clause-leads c = λ n leads.
    let behind = behind_point c.args.text.now c.in-46.len_at_least (omega arith) in
    subst (λ (digits : List ℕ). Leads c.read_run.result.0 (digits_value_after 10 n digits)) (sym behind.0) (c.read_run.ensures.leads n leads)

pub returns-in-46-clause-count : goal.returns-in-46-clause-count
returns-in-46-clause-count c =
    let behind = behind_point c.args.text.now c.in-46.len_at_least (omega arith) in
    omega (arith, split_length (tail_of c.args.text.now) c.read_run.result.1.now c.read_run.ensures.rest, ap length behind.0)

pub returns-in-46-clause-rest : goal.returns-in-46-clause-rest
returns-in-46-clause-rest c = c.read_run.ensures.rest ∙ sym (behind_point c.args.text.now c.in-46.len_at_least (omega arith)).1
