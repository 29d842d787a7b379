-- What one put leaves on a shelf.
use Rattle.std.proofs.Common.{◌≡◌, ℕ, List, [], ◌∷◌, Option, Some, None, Ok, refl, ap, ◌∙◌}
use Rattle.cj_io.specs.declared.file.FileBytes.{FileBytes}
use Rattle.cj_io.specs.Files.{Puts, Told, with_output}
use Rattle.cj_status.specs.declared.status.Status.TheVariants as status
use Rattle.cj_outputs.specs.Outcome.{Leaves, output}

-- a put that did not fail leaves its output behind the old ones
pub put_leaves : (name bytes : List ℕ) (old : List FileBytes) (before after : Option (List FileBytes))
    → Told (Puts name bytes (Ok tt)) before after → before ≡ Some old → Leaves status.Ok (Ok (output name bytes ∷ [])) old after
put_leaves name bytes old None after told stood = absurd cc
put_leaves name bytes old (Some was) None told stood = absurd told
put_leaves name bytes old (Some was) (Some now) told stood =
    let same : was ≡ old = cc in
    (output name bytes ∷ [], refl, ap (λ (ps : List FileBytes). Some ps) (told ∙ ap (λ (ps : List FileBytes). with_output ps name bytes) same))
