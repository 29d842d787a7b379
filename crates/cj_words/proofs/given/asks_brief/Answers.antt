use Rattle.std.proofs.Common.{Bool, ◌||◌, ap, ◌∙◌}
use Rattle.cj_words.specs.Options.{given_of, implies_brief, listed}
use Rattle.cj_words.proofs.given.asks_brief.Goals as goal

pub returns-then-is_given : goal.returns-then-is_given
returns-then-is_given c =
    c.if-is_given.true ∙ ap (λ (brief : Bool). brief || implies_brief (listed (given_of c.args.words.now))) c.if-is_given.ensures

pub returns-else-is_given : goal.returns-else-is_given
returns-else-is_given c =
    c.implies_brief.ensures ∙ ap (λ (brief : Bool). brief || implies_brief (listed (given_of c.args.words.now))) c.if-is_given.ensures
