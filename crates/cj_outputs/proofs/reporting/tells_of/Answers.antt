use Rattle.std.proofs.Common.{◌≡◌, ℕ, List, Option, Some, None, Bor, refl, ◌∙◌}
use Rattle.std.specs.Prelude.{is_some}
use Rattle.std.specs.Option.{option_copied}
use Rattle.cj_outputs.proofs.reporting.tells_of.Goals as goal

copied : (o : Option (Bor (List ℕ))) → is_some o ≡ is_some (option_copied o)
copied (Some text) = refl
copied None = refl

pub returns : goal.returns
returns c =
    let sizes = c.is_some.ensures ∙ copied c.args.settings.now.sizes in
    λ i. record { sizes = sizes i; coverage = c.args.settings.now.coverage }
