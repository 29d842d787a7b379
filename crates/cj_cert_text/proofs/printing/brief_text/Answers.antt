use Rattle.std.proofs.Common.{◌≡◌, IfOk, List, ap, subst, ◌∙◌, ℕ}
use Rattle.cj_io.specs.Parts.{joined}
use Rattle.cj_cert_text.proofs.printing.brief_text.Goals as goal

pub returns : goal.returns
returns g c =
    subst (λ (all : List ℕ). IfOk c.join_parts.result (λ text. text.items ≡ all)) (ap joined c.deref.ensures.value ∙ c.in_ok-made.ensures) c.join_parts.ensures
