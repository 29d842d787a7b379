use Rattle.std.proofs.lemmas.Result.{err_from_is_err_and}
use Rattle.cj_screen.proofs.AgainLemmas.{all_fail, all_found, changes_fail, changes_found}
use Rattle.cj_screen.proofs.finding.find_again.Goals as goal

pub returns-then-rescreening : goal.returns-then-rescreening
returns-then-rescreening g c =
    let found = c.in_ok-changes.ensures in
    let wanted = c.of-wanted.ensures in
    changes_found c.args.rescreening.now c.args.updating c.args.now.micros c.of-wanted.result c.if-rescreening.true wanted.tells wanted.leaves c.in_ok-changes.changes
    found.told found.found found.split found.nearest found.still_so

pub returns-in_err-changes : goal.returns-in_err-changes
returns-in_err-changes g c =
    let wanted = c.of-wanted.ensures in
    let p = err_from_is_err_and c.from_residual.result c.from_residual.ensures.1 in
    rw (p.1, p.2) (changes_fail c.args.rescreening.now c.args.updating c.args.now.micros c.of-wanted.result c.if-rescreening.true wanted.tells wanted.leaves
    c.in_err-changes.field-0.0 c.in_err-changes.ensures.told)

pub returns : goal.returns
returns g c =
    let found = c.in_ok-found.ensures in
    let wanted = c.of-wanted.ensures in
    all_found c.args.rescreening.now c.args.updating c.of-wanted.result c.if-rescreening.false wanted.tells wanted.format wanted.leaves c.args.now c.in_ok-found.found c.of.result
    c.of.ensures found.told found.found found.reports found.summary

pub returns-in_err-found : goal.returns-in_err-found
returns-in_err-found g c =
    let wanted = c.of-wanted.ensures in
    let p = err_from_is_err_and c.from_residual-in_err-found.result c.from_residual-in_err-found.ensures.1 in
    rw (p.1, p.2) (all_fail c.args.rescreening.now c.args.updating c.of-wanted.result c.if-rescreening.false wanted.tells wanted.format wanted.leaves c.args.now.micros
    c.in_err-found.field-0.0 c.in_err-found.ensures.told)
