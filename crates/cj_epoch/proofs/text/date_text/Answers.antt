use Rattle.std.proofs.Common.{arith, ◌≡◌, ◌/◌, ◌∙◌, ap, refl, ℕ, w16, to_z, of_z}
use Rattle.std.specs.Prelude.{unsigned_abs}
use Rattle.std.proofs.lemmas.Int.{ints}
use Rattle.cj_base.specs.Calendar.{civil_of}
use Rattle.cj_epoch.specs.Written.{two}
use Rattle.cj_epoch.proofs.text.date_text.Goals as goal

pub returns : goal.returns
returns c =
    let said = c.date_after-date.ensures in
    let year : unsigned_abs (to_z w16 (of_z w16 c.date_after-date.result.year)) ≡ (civil_of c.args.days).year = omega (arith, ints, said.year) in
    let century = c.two.ensures ∙ ap (λ (y : ℕ). two (y / 100)) year in
    rw (century, c.two-2.ensures ∙ ap two year, c.two-3.ensures ∙ ap two said.month, c.two-4.ensures ∙ ap two said.day) refl
