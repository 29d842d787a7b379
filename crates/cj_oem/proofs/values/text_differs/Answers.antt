use Rattle.std.proofs.Common.{◌∙◌, ap, sym}
use Rattle.std.specs.Prelude.{not}
use Rattle.std.specs.Cmp.{nat_eq_equiv}
use Rattle.std.specs.Cmp.Lexicographic.{lists_equiv}
use Rattle.std.specs.Option.{option_copied}
use Rattle.cj_oem.specs.Metadata.{text_differs}
use Rattle.cj_oem.proofs.values.text_differs.Goals as goal

pub returns-in-Some : goal.returns-in-Some
returns-in-Some c =
    c.ne.ensures
    ∙ (ap not ((lists_equiv nat_eq_equiv).symm c.in-Some.first.now c.args.text.now)
    ∙ sym (ap (λ first. text_differs (option_copied first) c.args.text.now) c.in-Some.is))
