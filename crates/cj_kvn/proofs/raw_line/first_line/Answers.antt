use Rattle.std.proofs.Common.{◌+◌, ◌∙◌, sym, refl, rules}
use Rattle.cj_kvn.specs.declared.range.Range32.{Range32}
use Rattle.cj_kvn.proofs.RawLemmas.{line_equals, line_found, line_printable}
use Rattle.cj_kvn.proofs.raw_line.first_line.Goals as goal

pub returns-clause-lines : goal.returns-clause-lines
returns-clause-lines c =
    line_found c.args.bytes.now c.args.at c.printable_front-len.result.0 c.in-Some.end c.requires.inside c.printable_front-len.ensures.len (sym c.in-Some.ensures)

pub returns-clause-raw : goal.returns-clause-raw
returns-clause-raw c =
    let line : Range32 = record { first = c.args.at; past = c.args.at + c.printable_front-len.result.0 } in
    record {
      within = search rules;
      printable = line_printable c.args.bytes.now c.args.at c.printable_front-len.result.0 c.printable_front-len.ensures.len;
      equals = λ h. c.placed.ensures
          ∙ line_equals c.args.bytes.now c.args.at c.printable_front-len.result.0 line c.printable_front-len.result.1 refl refl c.printable_front-len.ensures.equals;
    }

pub returns-in_default-clause-lines : goal.returns-in_default-clause-lines
returns-in_default-clause-lines c = c.other_line.ensures.lines

pub returns-in_default-clause-raw : goal.returns-in_default-clause-raw
returns-in_default-clause-raw c = c.other_line.ensures.raw

pub returns-in_default-clause-later : goal.returns-in_default-clause-later
returns-in_default-clause-later c = c.other_line.ensures.later

pub returns-in_default-clause-inside : goal.returns-in_default-clause-inside
returns-in_default-clause-inside c = c.other_line.ensures.inside
