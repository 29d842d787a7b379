use Rattle.std.proofs.Common.{◌-◌, ◌^◌, refl, sym, ap, ◌∙◌, Err}
use Rattle.cj_base.specs.Bounds.{MOST_MADE_OBJECTS}
use Rattle.cj_words.specs.Commands.{recipe_of}
use Rattle.cj_words.specs.Settings.{number_or}
use Rattle.cj_words.proofs.commands.recipe_of.Goals as goal

pub returns : goal.returns
unfolding recipe_of
returns c =
    let seed = c.in-Some.ensures.value ∙ ap (number_or 0 (2 ^ 64 - 1) 1) c.value_of.ensures in
    let objects = c.in-Some-number_or.ensures.value ∙ ap (number_or 1 MOST_MADE_OBJECTS 50) c.value_of-2.ensures in
    let minutes = c.in-Some-number_or-2.ensures.value ∙ ap (number_or 1 1440 120) c.value_of-3.ensures in
    rw (sym seed, sym objects, sym minutes) refl

pub returns-in_default : goal.returns-in_default
unfolding recipe_of
returns-in_default c =
    let seed = c.in_default.ensures.value ∙ ap (number_or 0 (2 ^ 64 - 1) 1) c.value_of.ensures in
    rw (sym seed) (ap Err c.out_of_range.ensures)

pub returns-in_default-number_or : goal.returns-in_default-number_or
unfolding recipe_of
returns-in_default-number_or c =
    let seed = c.in-Some.ensures.value ∙ ap (number_or 0 (2 ^ 64 - 1) 1) c.value_of.ensures in
    let objects = c.in_default-number_or.ensures.value ∙ ap (number_or 1 MOST_MADE_OBJECTS 50) c.value_of-2.ensures in
    rw (sym seed, sym objects) (ap Err c.out_of_range-in_default-number_or.ensures)

pub returns-in_default-number_or-2 : goal.returns-in_default-number_or-2
unfolding recipe_of
returns-in_default-number_or-2 c =
    let seed = c.in-Some.ensures.value ∙ ap (number_or 0 (2 ^ 64 - 1) 1) c.value_of.ensures in
    let objects = c.in-Some-number_or.ensures.value ∙ ap (number_or 1 MOST_MADE_OBJECTS 50) c.value_of-2.ensures in
    let minutes = c.in_default-number_or-2.ensures.value ∙ ap (number_or 1 1440 120) c.value_of-3.ensures in
    rw (sym seed, sym objects, sym minutes) (ap Err c.out_of_range-in_default-number_or-2.ensures)
