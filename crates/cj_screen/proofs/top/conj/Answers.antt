use Rattle.std.proofs.Common.{◌≡◌, ◌⊎◌, inl, inr, Err, List, Result, refl, ap, sym, subst, ◌∙◌}
use Rattle.cj_io.specs.Faults.{Rose}
use Rattle.cj_io.specs.declared.file.FileBytes.{FileBytes}
use Rattle.cj_words.specs.Commands.{Checks, Generates, Rescreens, Rewrites, Screens, Selfruns, Thins, command_of}
use Rattle.cj_status.specs.declared.status.Status.{Status}
use Rattle.cj_status.specs.declared.status.Status.TheVariants as status
use Rattle.cj_status.specs.Steps.{ComesBefore}
use Rattle.cj_outputs.specs.Outcome as spec
use Rattle.cj_outputs.specs.Outcome.{Answers, EndsMaking, EndsRescreening, EndsSelfrun, Leaves, PutsNothing}
use Rattle.cj_outputs.specs.Findings.{ended}
use Rattle.cj_outputs.proofs.EndLemmas.{answers_stop, answers_wider, leaves_extends, leaves_stop, nothing_more, refused_as, stopped_for}
use Rattle.cj_screen.specs.Tasks.{EndsTask, outputs_of_task}
use Rattle.cj_screen.proofs.RescreenLemmas.{stopped_rescreening}
use Rattle.cj_screen.proofs.ResultLemmas.{count_stays, ended_failed, same_status}
use Rattle.cj_screen.proofs.TaskLemmas.{calm_read, ends_making, ends_rescreening, ends_selfrun}
use Rattle.cj_screen.proofs.top.conj.Goals as goal

pub returns-in-Ok-clause-usage : goal.returns-in-Ok-clause-usage
returns-in-Ok-clause-usage g c = λ fault. (
  λ e. absurd (subst (λ (s : Status). EndsTask c.in-Ok.task s) (sym c.end.ensures ∙ e) c.run.ensures.ends),
  λ e. absurd cc ((c.in-Ok.ensures.usage fault).1 e),
)

pub returns-in-Ok-clause-read : goal.returns-in-Ok-clause-read
returns-in-Ok-clause-read g c = λ is. absurd (subst (λ (s : Status). EndsTask c.in-Ok.task s) (sym c.end.ensures ∙ is) c.run.ensures.ends)

pub returns-in-Ok-clause-write : goal.returns-in-Ok-clause-write
returns-in-Ok-clause-write g c = λ is. c.run.ensures.write (ended_failed c.run.result (sym c.end.ensures ∙ is))

pub returns-in-Ok-clause-told : goal.returns-in-Ok-clause-told
returns-in-Ok-clause-told g c = λ files are.
    let read = Rose (g.F.Folder.faults c.args.folder.now) (g.F.Folder.faults c.read_task.new.folder) in
    let refused = Rose (g.S.Shelf.refusals c.args.shelf.now) (g.S.Shelf.refusals c.run.new.shelf) in
    let due = spec.outputs_of c.args.words.now files c.args.now.micros in
    let asked = outputs_of_task c.args.now.micros c.in-Ok.task in
    subst (λ (s : Status). Answers read refused s due) (sym c.end.ensures)
    (subst (λ (d : Result (List FileBytes) Status). Answers read refused (ended c.run.result) d) (sym (c.in-Ok.ensures.told files c.args.now.micros are))
    (answers_wider read refused (ended c.run.result) asked c.run.ensures.answers))

pub returns-in-Ok-clause-complete : goal.returns-in-Ok-clause-complete
returns-in-Ok-clause-complete g c = λ files due are is calm free.
    subst (λ (s : Status). (s ≡ status.Ok) ⊎ (s ≡ status.OutOfMemory)) (sym c.end.ensures)
    (c.run.ensures.complete due (sym (c.in-Ok.ensures.told files c.args.now.micros are) ∙ is) free)

pub returns-in-Ok-clause-headline : goal.returns-in-Ok-clause-headline
returns-in-Ok-clause-headline g c = λ files outputs screening told stood asked ok.
    c.run.ensures.done files outputs (Screens screening) (c.in-Ok.ensures.readies files (Screens screening) told asked) stood (sym c.end.ensures ∙ ok)

pub returns-in-Ok-clause-checked : goal.returns-in-Ok-clause-checked
returns-in-Ok-clause-checked g c = λ files outputs checking told stood asked ok.
    c.run.ensures.done files outputs (Checks checking) (c.in-Ok.ensures.readies files (Checks checking) told asked) stood (sym c.end.ensures ∙ ok)

pub returns-in-Ok-clause-rewritten : goal.returns-in-Ok-clause-rewritten
returns-in-Ok-clause-rewritten g c = λ files outputs checking told stood asked ok.
    c.run.ensures.done files outputs (Rewrites checking) (c.in-Ok.ensures.readies files (Rewrites checking) told asked) stood (sym c.end.ensures ∙ ok)

pub returns-in-Ok-clause-thinned : goal.returns-in-Ok-clause-thinned
returns-in-Ok-clause-thinned g c = λ files outputs thinning told stood asked ok.
    c.run.ensures.done files outputs (Thins thinning) (c.in-Ok.ensures.readies files (Thins thinning) told asked) stood (sym c.end.ensures ∙ ok)

pub returns-in-Ok-clause-rescreened : goal.returns-in-Ok-clause-rescreened
returns-in-Ok-clause-rescreened g c = λ files outputs asked told stood words whole ok.
    let done = c.run.ensures.done files outputs (Rescreens asked) (c.in-Ok.ensures.readies files (Rescreens asked) told words) stood (sym c.end.ensures ∙ ok) in
    done.whole whole

pub returns-in-Ok-clause-changed : goal.returns-in-Ok-clause-changed
returns-in-Ok-clause-changed g c = λ files outputs asked told stood words changed ok.
    let done = c.run.ensures.done files outputs (Rescreens asked) (c.in-Ok.ensures.readies files (Rescreens asked) told words) stood (sym c.end.ensures ∙ ok) in
    done.changed changed

pub returns-in-Ok-clause-never : goal.returns-in-Ok-clause-never
returns-in-Ok-clause-never g c = λ files rescreening told words. subst EndsRescreening (sym c.end.ensures) (ends_rescreening c.in-Ok.task (ended c.run.result) c.run.ensures.ends)

pub returns-in-Ok-clause-refused : goal.returns-in-Ok-clause-refused
returns-in-Ok-clause-refused g c = λ files cause are is calm free.
    let refused = Rose (g.S.Shelf.refusals c.args.shelf.now) (g.S.Shelf.refusals c.run.new.shelf) in
    let asked = outputs_of_task c.args.now.micros c.in-Ok.task in
    subst (λ (s : Status). (s ≡ cause) ⊎ (s ≡ status.OutOfMemory)) (sym c.end.ensures)
    (refused_as ⊥ refused (ended c.run.result) cause asked (sym (c.in-Ok.ensures.told files c.args.now.micros are) ∙ is) (λ e none. none) free c.run.ensures.answers)

pub returns-in-Ok-clause-made : goal.returns-in-Ok-clause-made
returns-in-Ok-clause-made g c = λ recipe asked.
    subst EndsMaking (sym c.end.ensures) (ends_making c.in-Ok.task (ended c.run.result) (c.in-Ok.ensures.unread (Generates recipe) asked) c.run.ensures.ends)

pub returns-in-Ok-clause-selfrun : goal.returns-in-Ok-clause-selfrun
returns-in-Ok-clause-selfrun g c = λ selfrun asked.
    subst EndsSelfrun (sym c.end.ensures) (ends_selfrun c.in-Ok.task (ended c.run.result) c.run.ensures.ends)

pub returns-in-Ok-clause-untouched : goal.returns-in-Ok-clause-untouched
returns-in-Ok-clause-untouched g c = λ none. c.run.ensures.untouched (subst (λ (s : Status). PutsNothing s) c.end.ensures none)

pub returns-in-Ok-clause-kept : goal.returns-in-Ok-clause-kept
returns-in-Ok-clause-kept g c = λ outputs stood.
    leaves_extends (ended c.run.result) (outputs_of_task c.args.now.micros c.in-Ok.task) outputs (g.S.Shelf.outputs c.run.new.shelf) (c.run.ensures.leaves outputs stood)

pub returns-in-Ok-clause-put : goal.returns-in-Ok-clause-put
returns-in-Ok-clause-put g c = λ files outputs are stood.
    let now = g.S.Shelf.outputs c.run.new.shelf in
    subst (λ (s : Status). Leaves s (spec.outputs_of c.args.words.now files c.args.now.micros) outputs now) (sym c.end.ensures)
    (subst (λ (due : Result (List FileBytes) Status). Leaves (ended c.run.result) due outputs now) (sym (c.in-Ok.ensures.told files c.args.now.micros are))
    (c.run.ensures.leaves outputs stood))

pub returns-in-Ok-clause-files : goal.returns-in-Ok-clause-files
returns-in-Ok-clause-files g c = c.in-Ok.ensures.files

pub returns-in-Ok-clause-folder_later : goal.returns-in-Ok-clause-folder_later
returns-in-Ok-clause-folder_later g c = c.in-Ok.ensures.later

pub returns-in-Ok-clause-shelf_later : goal.returns-in-Ok-clause-shelf_later
returns-in-Ok-clause-shelf_later g c = c.run.ensures.later

-- it stopped at the words or at what is read

pub returns-in-Err-clause-usage : goal.returns-in-Err-clause-usage
returns-in-Err-clause-usage g c = λ fault. (λ e. (c.in-Err.ensures.usage fault).0 (cc e), λ e. cc ((c.in-Err.ensures.usage fault).1 e))

pub returns-in-Err-clause-told : goal.returns-in-Err-clause-told
returns-in-Err-clause-told g c = λ files are.
    answers_stop (Rose (g.F.Folder.faults c.args.folder.now) (g.F.Folder.faults c.read_task.new.folder))
    (Rose (g.S.Shelf.refusals c.args.shelf.now) (g.S.Shelf.refusals c.args.shelf.now)) c.in-Err.status
    (spec.outputs_of c.args.words.now files c.args.now.micros) (c.in-Err.ensures.told files c.args.now.micros are)

pub returns-in-Err-clause-complete : goal.returns-in-Err-clause-complete
returns-in-Err-clause-complete g c = λ files due are is calm free.
    let rose = Rose (g.F.Folder.faults c.args.folder.now) (g.F.Folder.faults c.read_task.new.folder) in
    let calmed = calm_read (command_of c.args.words.now) c.in-Err.status rose calm c.in-Err.ensures.unread
    (λ fault wrong. same_status ((c.in-Err.ensures.usage fault).1 wrong)) in
    inr (stopped_for rose c.in-Err.status (spec.outputs_of c.args.words.now files c.args.now.micros) due is calmed
    (c.in-Err.ensures.told files c.args.now.micros are))

pub returns-in-Err-clause-refused : goal.returns-in-Err-clause-refused
returns-in-Err-clause-refused g c = λ files cause are is calm free.
    let rose = Rose (g.F.Folder.faults c.args.folder.now) (g.F.Folder.faults c.read_task.new.folder) in
    let refused = Rose (g.S.Shelf.refusals c.args.shelf.now) (g.S.Shelf.refusals c.args.shelf.now) in
    let due = spec.outputs_of c.args.words.now files c.args.now.micros in
    let calmed = calm_read (command_of c.args.words.now) c.in-Err.status rose calm c.in-Err.ensures.unread
    (λ fault wrong. same_status ((c.in-Err.ensures.usage fault).1 wrong)) in
    refused_as rose refused c.in-Err.status cause due is calmed free (answers_stop rose refused c.in-Err.status due (c.in-Err.ensures.told files c.args.now.micros are))

pub returns-in-Err-clause-made : goal.returns-in-Err-clause-made
returns-in-Err-clause-made g c = λ recipe asked. absurd (c.in-Err.ensures.unread (Generates recipe) asked)

pub returns-in-Err-clause-selfrun : goal.returns-in-Err-clause-selfrun
returns-in-Err-clause-selfrun g c = λ selfrun asked. absurd (c.in-Err.ensures.unread (Selfruns selfrun) asked)

pub returns-in-Err-clause-kept : goal.returns-in-Err-clause-kept
returns-in-Err-clause-kept g c = λ outputs stood. nothing_more outputs (g.S.Shelf.outputs c.args.shelf.now) stood

pub returns-in-Err-clause-put : goal.returns-in-Err-clause-put
returns-in-Err-clause-put g c = λ files outputs are stood.
    leaves_stop (Rose (g.F.Folder.faults c.args.folder.now) (g.F.Folder.faults c.read_task.new.folder)) c.in-Err.status
    (spec.outputs_of c.args.words.now files c.args.now.micros) outputs (g.S.Shelf.outputs c.args.shelf.now) stood (c.in-Err.ensures.told files c.args.now.micros are)

pub returns-in-Err-clause-read : goal.returns-in-Err-clause-read
returns-in-Err-clause-read g c = λ is. c.in-Err.ensures.read (ap (λ (s : Status). Err s) is)

pub returns-in-Err-clause-write : goal.returns-in-Err-clause-write
returns-in-Err-clause-write g c = λ is. absurd (subst ComesBefore is c.in-Err.ensures.before)

pub returns-in-Err-clause-headline : goal.returns-in-Err-clause-headline
returns-in-Err-clause-headline g c = λ files outputs screening told stood asked ok. absurd (subst ComesBefore ok c.in-Err.ensures.before)

pub returns-in-Err-clause-checked : goal.returns-in-Err-clause-checked
returns-in-Err-clause-checked g c = λ files outputs checking told stood asked ok. absurd (subst ComesBefore ok c.in-Err.ensures.before)

pub returns-in-Err-clause-rewritten : goal.returns-in-Err-clause-rewritten
returns-in-Err-clause-rewritten g c = λ files outputs checking told stood asked ok. absurd (subst ComesBefore ok c.in-Err.ensures.before)

pub returns-in-Err-clause-thinned : goal.returns-in-Err-clause-thinned
returns-in-Err-clause-thinned g c = λ files outputs thinning told stood asked ok. absurd (subst ComesBefore ok c.in-Err.ensures.before)

pub returns-in-Err-clause-rescreened : goal.returns-in-Err-clause-rescreened
returns-in-Err-clause-rescreened g c = λ files outputs asked told stood words whole ok. absurd (subst ComesBefore ok c.in-Err.ensures.before)

pub returns-in-Err-clause-changed : goal.returns-in-Err-clause-changed
returns-in-Err-clause-changed g c = λ files outputs asked told stood words changed ok. absurd (subst ComesBefore ok c.in-Err.ensures.before)

pub returns-in-Err-clause-never : goal.returns-in-Err-clause-never
returns-in-Err-clause-never g c = λ files rescreening told words.
    stopped_rescreening (Rose (g.F.Folder.faults c.args.folder.now) (g.F.Folder.faults c.read_task.new.folder)) c.args.words.now files c.args.now.micros rescreening c.in-Err.status words
    (c.in-Err.ensures.told files c.args.now.micros (inl told)) c.in-Err.ensures.before (λ fault is. let wrong = sym ((c.in-Err.ensures.usage fault).0 (ap (λ (s : Status). Err s) is)) ∙ words in absurd cc)

pub returns-in-Err-clause-untouched : goal.returns-in-Err-clause-untouched
returns-in-Err-clause-untouched g c = λ none. refl

pub returns-in-Err-clause-files : goal.returns-in-Err-clause-files
returns-in-Err-clause-files g c = c.in-Err.ensures.files

pub returns-in-Err-clause-folder_later : goal.returns-in-Err-clause-folder_later
returns-in-Err-clause-folder_later g c = c.in-Err.ensures.later

pub returns-in-Err-clause-shelf_later : goal.returns-in-Err-clause-shelf_later
returns-in-Err-clause-shelf_later g c = count_stays _
