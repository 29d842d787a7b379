use Rattle.std.proofs.Common.{Bool, ◌||◌, ap, ◌∙◌}
use Rattle.cj_words.specs.Options.{given_of, is_given, listed}
use Rattle.cj_words.specs.declared.option.Opt.TheVariants.{Primaries}
use Rattle.cj_words.proofs.given.implies_brief.Goals as goal

pub returns-then-is_given : goal.returns-then-is_given
returns-then-is_given c =
    c.if-is_given.true ∙ ap (λ (large : Bool). large || is_given Primaries (listed (given_of c.args.words.now))) c.if-is_given.ensures

pub returns-else-is_given : goal.returns-else-is_given
returns-else-is_given c =
    c.is_given-else-is_given.ensures ∙ ap (λ (large : Bool). large || is_given Primaries (listed (given_of c.args.words.now))) c.if-is_given.ensures
