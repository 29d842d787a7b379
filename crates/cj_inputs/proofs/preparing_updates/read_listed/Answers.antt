use Rattle.std.proofs.Common.{arith, ◌∙◌, ◌<◌, refl, subst, ap, List, length, get_or}
use Rattle.std.proofs.lemmas.Result.{err_from_is_err_and}
use Rattle.cj_io.specs.Faults.{Rose}
use Rattle.cj_words.specs.Settings.{plain_settings}
use Rattle.cj_status.specs.Steps.{Gives}
use Rattle.cj_inputs.specs.declared.input_files.Entry.{Entry}
use Rattle.cj_inputs.specs.Cases.{within_objects}
use Rattle.cj_inputs.specs.InputFiles.{PlainApart, apart_of}
use Rattle.cj_inputs.specs.Updates.{base_of, plain_updated, read_as, updates_of}
use Rattle.cj_inputs.proofs.StepLemmas.{stops_unread}
use Rattle.cj_inputs.proofs.UpdateCaseLemmas.{base_unlisted, both_listed}
use Rattle.cj_inputs.proofs.preparing_updates.read_listed.Goals as goal

pub returns-in_err-entries : goal.returns-in_err-entries
returns-in_err-entries g c =
    let asked = plain_settings c.args.settings.now in
    let update = c.args.update.now in
    let names = c.args.names.now in
    let s = c.in_err-entries.field-0.0 in
    let due = within_objects asked.limits.objects (base_of asked.suffix update (apart_of asked) names) in
    let p = err_from_is_err_and c.from_residual.result c.from_residual.ensures.1 in
    rw (p.1, p.2)
    (record {
      between = c.in_err-entries.ensures.between;
      read = λ is. absurd (stops_unread s due c.in_err-entries.ensures.told is);
      told = λ files told known. base_unlisted _ files asked update names s known c.in_err-entries.ensures.told;
      count = refl;
      files = refl;
      later = omega arith;
    })

pub read_updated-requires-clause-numbers : goal.read_updated-requires-clause-numbers
read_updated-requires-clause-numbers g c = λ lifetimes outlive k d below.
    let entries = c.in_ok-entries.entries.items in
    let listed : k < length entries = subst (λ (es : List Entry). k < length es) c.deref-2.ensures.value below in
    let here = c.in_ok-entries.ensures.numbers k d listed in
    let same = ap (λ (es : List Entry). (get_or es k d).number) c.deref-2.ensures.value in
    omega (arith, here, same, c.requires.count)

pub read_updated-requires-clause-update_numbers : goal.read_updated-requires-clause-update_numbers
read_updated-requires-clause-update_numbers g c = λ lifetimes outlive k d below.
    let updates = c.in_ok-updates.updates.items in
    let listed : k < length updates = subst (λ (es : List Entry). k < length es) c.deref-3.ensures.value below in
    let here = c.in_ok-updates.ensures.numbers k d listed in
    let same = ap (λ (es : List Entry). (get_or es k d).number) c.deref-3.ensures.value in
    omega (arith, here, same, c.requires.count)

pub read_updated-requires-clause-few : goal.read_updated-requires-clause-few
read_updated-requires-clause-few g c = omega (arith, ap (λ (es : List Entry). length es) c.deref-2.ensures.value, c.in_ok-entries.ensures.few)

pub returns : goal.returns
returns g c =
    let asked = plain_settings c.args.settings.now in
    let update = c.args.update.now in
    let entries = c.in_ok-entries.entries.items in
    let updates = c.in_ok-updates.updates.items in
    let read = c.read_updated.ensures in
    let rose = Rose (g.F.Folder.faults c.args.folder.now) (g.F.Folder.faults c.read_updated.new.folder) in
    record {
      between = read.between;
      read = read.read;
      told = λ files told known.
          let last = c.in_ok-updates.ensures.value ∙ ap (λ (apart : PlainApart). updates_of asked.suffix update apart c.args.names.now) c.of-2.ensures in
          let due = both_listed files asked update c.args.names.now entries updates known c.in_ok-entries.ensures.told last in
          let gives = subst (λ (es : List Entry). Gives rose plain_updated c.read_updated.result (read_as files asked update es c.deref-3.result.now)) c.deref-2.ensures.value (read.told files told) in
          rw due (subst (λ (es : List Entry). Gives rose plain_updated c.read_updated.result (read_as files asked update entries es)) c.deref-3.ensures.value gives);
      count = read.count;
      files = read.files;
      later = read.later;
    }
