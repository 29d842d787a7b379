use Rattle.std.proofs.Common.{◌∙◌, sym, rules, arith}
use Rattle.cj_kvn.proofs.LineLemmas.{last_line_of_rest, line_of_rest}
use Rattle.cj_kvn.proofs.RawLemmas.{other_to_end, other_to_feed}
use Rattle.cj_kvn.proofs.raw_line.other_line.Goals as goal

pub returns-in-None-clause-lines : goal.returns-in-None-clause-lines
returns-in-None-clause-lines c = rw c.not_printable.ensures.text (last_line_of_rest c.args.bytes.now c.args.at c.requires.inside (sym c.in-None.ensures))

pub returns-in-None-clause-raw : goal.returns-in-None-clause-raw
returns-in-None-clause-raw c =
    let other = other_to_end c.args.bytes.now c.args.at c.args.len c.requires.front c.requires.no_end in
    rw c.not_printable.ensures.text record { within = record { ordered = omega arith; inside = omega arith }; printable = c.not_printable.ensures.printable ∙ other; equals = λ h. absurd cc }

pub returns-in-Some-clause-lines : goal.returns-in-Some-clause-lines
returns-in-Some-clause-lines c =
    rw c.not_printable-line.ensures.text
    (line_of_rest c.args.bytes.now c.args.at c.in-Some.len c.without_return.result (sym c.in-Some.ensures) c.without_return.ensures.text c.without_return.ensures.short)

pub returns-in-Some-clause-raw : goal.returns-in-Some-clause-raw
returns-in-Some-clause-raw c =
    let other = other_to_feed c.args.bytes.now c.args.at c.args.len c.in-Some.len c.without_return.result c.requires.front c.requires.no_end (sym c.in-Some.ensures)
    c.without_return.ensures.text c.without_return.ensures.short in
    rw c.not_printable-line.ensures.text record { within = search rules; printable = c.not_printable-line.ensures.printable ∙ other; equals = λ h. absurd cc }
