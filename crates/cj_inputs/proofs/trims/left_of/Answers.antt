use Rattle.std.proofs.Common.{◌≡◌, ◌∙◌, ℕ, Option, ap, sym, subst, refl}
use Rattle.std.specs.Prelude.{IfOk, option_map}
use Rattle.cj_track.specs.Tracks.{plain_track}
use Rattle.cj_inputs.specs.Trims as spec
use Rattle.cj_inputs.specs.Trims.{ends}
use Rattle.cj_inputs.proofs.trims.left_of.Goals as goal

pub returns-in-None : goal.returns-in-None
returns-in-None c =
    let whole = plain_track c.args.track in
    subst (λ (o : Option (ℕ × ℕ)). whole ≡ spec.left_of o whole) (sym (ap (option_map ends) c.in-None.is) ∙ c.window_to_trim.ensures) refl

pub returns-in-Some : goal.returns-in-Some
returns-in-Some c =
    let whole = plain_track c.args.track in
    subst (λ (o : Option (ℕ × ℕ)). IfOk c.trim.result (λ left. plain_track left ≡ spec.left_of o whole)) (sym (ap (option_map ends) c.in-Some.is) ∙ c.window_to_trim.ensures) c.trim.ensures.value
