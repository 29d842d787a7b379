use Rattle.std.proofs.Common.{arith, length, drop, ◌-◌, length-drop}
use Rattle.std.proofs.lemmas.List.{take_all}
use Rattle.cj_epoch.proofs.PictureLemmas.{ordinal_numbers}
use Rattle.cj_epoch.proofs.ReadingLemmas.{ordinal_gives}
use Rattle.cj_epoch.proofs.reading.read_ordinal.Goals as goal

pub number_from_digits-requires-clause-all : goal.number_from_digits-requires-clause-all
number_from_digits-requires-clause-all c = (ordinal_numbers c.args.text.now c.requires.like).year.digits

pub number_from_digits-requires-2-clause-all : goal.number_from_digits-requires-2-clause-all
number_from_digits-requires-2-clause-all c = (ordinal_numbers c.args.text.now c.requires.like).day.digits

pub number_from_digits-requires-3-clause-all : goal.number_from_digits-requires-3-clause-all
number_from_digits-requires-3-clause-all c = (ordinal_numbers c.args.text.now c.requires.like).hour.digits

pub number_from_digits-requires-4-clause-all : goal.number_from_digits-requires-4-clause-all
number_from_digits-requires-4-clause-all c = (ordinal_numbers c.args.text.now c.requires.like).minute.digits

pub number_from_digits-requires-5-clause-all : goal.number_from_digits-requires-5-clause-all
number_from_digits-requires-5-clause-all c = (ordinal_numbers c.args.text.now c.requires.like).second.digits

pub returns : goal.returns
returns c =
    let text = c.args.text.now in
    ordinal_gives c.moment.result text c.day_at_ordinal-day.result c.second_of_day-second.result _ c.number_from_digits.result c.number_from_digits-2.result c.number_from_digits-3.result c.number_from_digits-4.result c.number_from_digits-5.result (ordinal_numbers text c.requires.like)
    c.number_from_digits.ensures.value c.number_from_digits-2.ensures.value c.day_at_ordinal-day.ensures.value
    c.number_from_digits-3.ensures.value c.number_from_digits-4.ensures.value c.number_from_digits-5.ensures.value c.second_of_day-second.ensures.value
    (take_all (length text - 17) (drop 17 text) (omega (arith, length-drop 17 text))) c.moment.ensures
