use Rattle.std.proofs.Common.{List, Result, Ok, Err, inr, sym, subst, ◌∙◌}
use Rattle.std.proofs.lemmas.Result.{err_from_is_err_and}
use Rattle.cj_io.specs.Faults.{Rose}
use Rattle.cj_io.specs.declared.file.FileBytes.{FileBytes}
use Rattle.cj_status.specs.declared.status.Status.{Status}
use Rattle.cj_outputs.specs.Findings.{ended}
use Rattle.cj_outputs.specs.Outcome.{ComesOfPuts, Leaves}
use Rattle.cj_outputs.proofs.AcceptingLemmas.{same_error}
use Rattle.cj_outputs.proofs.EndLemmas.{answers_put, answers_refused, answers_stop, first_stand, leaves_refused, leaves_stop, put_or_memory, puts_some, rose_later, stopped_for}
use Rattle.cj_screen.specs.Results.{outputs_due}
use Rattle.cj_screen.specs.Tasks.{ComesOfSearch, outputs_of_task}
use Rattle.cj_screen.proofs.TaskLemmas.{done_by, due_or_many, ends_of_puts, ends_of_search}
use Rattle.cj_screen.proofs.ResultLemmas.{count_later, same_status}
use Rattle.cj_screen.proofs.top.run.Goals as goal

-- the shelf refused the run
pub returns-in_err-begin_puts : goal.returns-in_err-begin_puts
returns-in_err-begin_puts g c =
    let s = c.in_err-begin_puts.field-0.0 in
    let task = c.args.task in
    let due = outputs_of_task c.args.now.micros task in
    let refused = Rose (g.S.Shelf.refusals c.args.shelf.now) (g.S.Shelf.refusals c.begin_puts.new.shelf) in
    let begun = c.in_err-begin_puts.ensures in
    let p = err_from_is_err_and c.from_residual.result c.from_residual.ensures.1 in
    rw (p.1, p.2) (record {
      ends = ends_of_puts task (Err s) begun.comes;
      write = λ is. begun.write (same_error is);
      answers = answers_refused ⊥ refused s due begun.comes begun.refused (due_or_many c.args.now.micros task begun.files);
      complete = λ outputs is calm.
          put_or_memory (Rose (g.S.Shelf.faults c.args.shelf.now) (g.S.Shelf.faults c.begin_puts.new.shelf)) (Err s) calm begun.comes (λ e. begun.write (same_error e));
      done = λ files outputs command readies stood ok. absurd (subst ComesOfPuts ok begun.comes);
      untouched = λ none. begun.outputs;
      leaves = λ outputs stood. leaves_refused s due outputs (g.S.Shelf.outputs c.begin_puts.new.shelf) begun.comes (begun.outputs ∙ stood);
      later = begun.later;
    })

-- the search ended it
pub returns-in_err-results : goal.returns-in_err-results
returns-in_err-results g c =
    let s = c.in_err-results.field-0.0 in
    let task = c.args.task in
    let due = outputs_of_task c.args.now.micros task in
    let refused = Rose (g.S.Shelf.refusals c.args.shelf.now) (g.S.Shelf.refusals c.begin_puts.new.shelf) in
    let begun = c.in_ok-begin_puts.ensures in
    let found = c.in_err-results.ensures in
    let p = err_from_is_err_and c.from_residual-in_err-results.result c.from_residual-in_err-results.ensures.1 in
    rw (p.1, p.2) (record {
      ends = ends_of_search task s found.ends;
      write = λ is. absurd (subst (λ (t : Status). ComesOfSearch task t) (same_status is) found.ends);
      answers = answers_stop ⊥ refused s due found.told;
      complete = λ outputs is calm. inr (stopped_for ⊥ s due outputs is (λ e none. none) found.told);
      done = λ files outputs command readies stood ok. absurd (subst (λ (t : Status). ComesOfSearch task t) ok found.ends);
      untouched = λ none. begun.outputs;
      leaves = λ outputs stood. leaves_stop ⊥ s due outputs (g.S.Shelf.outputs c.begin_puts.new.shelf) (begun.outputs ∙ stood) found.told;
      later = begun.later;
    })

-- it came to its puts
pub returns-clause-ends : goal.returns-clause-ends
returns-clause-ends g c = ends_of_puts c.args.task c.put_results.result c.put_results.ensures.comes

pub returns-clause-write : goal.returns-clause-write
returns-clause-write g c = λ is.
    rose_later (g.S.Shelf.faults c.args.shelf.now) (g.S.Shelf.faults c.begin_puts.new.shelf) (g.S.Shelf.faults c.put_results.new.shelf)
    c.in_ok-begin_puts.ensures.later (c.put_results.ensures.write is)

pub returns-clause-answers : goal.returns-clause-answers
returns-clause-answers g c =
    answers_put ⊥ (Rose (g.S.Shelf.refusals c.args.shelf.now) (g.S.Shelf.refusals c.put_results.new.shelf)) c.put_results.result
    (outputs_of_task c.args.now.micros c.args.task) (outputs_due c.in_ok-results.results) c.in_ok-results.ensures.told c.put_results.ensures.comes

pub returns-clause-complete : goal.returns-clause-complete
returns-clause-complete g c = λ due is calm.
    let first = g.S.Shelf.faults c.args.shelf.now in
    let second = g.S.Shelf.faults c.begin_puts.new.shelf in
    let last = g.S.Shelf.faults c.put_results.new.shelf in
    put_or_memory (Rose second last) c.put_results.result (λ rose. calm (rose_later first second last c.in_ok-begin_puts.ensures.later rose))
    c.put_results.ensures.comes c.put_results.ensures.write

pub returns-clause-done : goal.returns-clause-done
returns-clause-done g c = λ files outputs command readies stood ok.
    let results = c.in_ok-results.results in
    let now = g.S.Shelf.outputs c.put_results.new.shelf in
    let due : Result (List FileBytes) Status = Ok (outputs_due results) in
    let leaves = subst (λ (s : Status). Leaves s due outputs now) ok (c.put_results.ensures.leaves outputs (c.in_ok-begin_puts.ensures.outputs ∙ stood)) in
    done_by command files outputs now results (c.in_ok-results.ensures.shows files command readies) (first_stand (outputs_due results) outputs now leaves)

pub returns-clause-untouched : goal.returns-clause-untouched
returns-clause-untouched g c = λ none. absurd (puts_some c.put_results.result c.put_results.ensures.comes none)

pub returns-clause-leaves : goal.returns-clause-leaves
returns-clause-leaves g c = λ outputs stood.
    let now = g.S.Shelf.outputs c.put_results.new.shelf in
    subst (λ (due : Result (List FileBytes) Status). Leaves (ended c.put_results.result) due outputs now) (sym c.in_ok-results.ensures.told)
    (c.put_results.ensures.leaves outputs (c.in_ok-begin_puts.ensures.outputs ∙ stood))

pub returns-clause-later : goal.returns-clause-later
returns-clause-later g c =
    count_later (g.S.Shelf.faults c.args.shelf.now) (g.S.Shelf.faults c.begin_puts.new.shelf) (g.S.Shelf.faults c.put_results.new.shelf)
    c.in_ok-begin_puts.ensures.later c.put_results.ensures.later
