use Rattle.std.proofs.Common.{ℕ, List, [], Option, unwrap_or, ap, ◌∙◌}
use Rattle.std.proofs.lemmas.Option.{unwrap_or-slice_get}
use Rattle.cj_oem.proofs.row_fields.field_text.Goals as goal

pub returns-in-None-clause-exact : goal.returns-in-None-clause-exact
returns-in-None-clause-exact c = ap (λ (o : Option (List ℕ)). unwrap_or o []) c.in-None.ensures.exact ∙ unwrap_or-slice_get _ c.args.index []
