use Rattle.std.proofs.Common.{arith, ◌∙◌, subst, sym, ap, ap₂, List, map, Result, Err}
use Rattle.std.proofs.lemmas.Result.{err_from_is_err_and}
use Rattle.cj_io.specs.Faults.{Rose}
use Rattle.cj_io.proofs.FileLemmas.{rose_since}
use Rattle.cj_case.specs.Problems.{plain_problem}
use Rattle.cj_track.specs.Tracks.{plain_track}
use Rattle.cj_track.specs.declared.track.Track.{Track}
use Rattle.cj_words.specs.Settings.{plain_settings}
use Rattle.cj_status.specs.declared.status.Status.{Status}
use Rattle.cj_status.specs.Steps.{Gives}
use Rattle.cj_inputs.specs.Cases.{case_of_run, within_limits}
use Rattle.cj_inputs.specs.ObjectAttributes.{PlainAttributes, attributes_asked, plain_attributes}
use Rattle.cj_inputs.specs.Readings.{Reads}
use Rattle.cj_inputs.specs.Updates.{plain_updated, updated_asked}
use Rattle.cj_inputs.proofs.EndLemmas.{same_cause}
use Rattle.cj_inputs.proofs.StepLemmas.{comes_between, folder_failed, gives_unread, gives_wider}
use Rattle.cj_inputs.proofs.UpdateCaseLemmas.{updated_of_attributes, updated_unread, updated_unsaid}
use Rattle.cj_inputs.proofs.preparing_updates.read_updated_problem.Goals as goal

pub read_attributes-requires-clause-many : goal.read_attributes-requires-clause-many
read_attributes-requires-clause-many g c = c.requires.many

pub read_attributes-requires-clause-count : goal.read_attributes-requires-clause-count
read_attributes-requires-clause-count g c = c.read_listed.ensures.count ∙ c.requires.count

pub returns-in_err-tracks : goal.returns-in_err-tracks
returns-in_err-tracks g c =
    let s = c.in_err-tracks.field-0.0 in
    let rose = Rose (g.F.Folder.faults c.args.folder.now) (g.F.Folder.faults c.read_listed.new.folder) in
    let p = err_from_is_err_and c.from_residual.result c.from_residual.ensures.1 in
    rw (p.1, p.2)
    (record {
      between = c.in_err-tracks.ensures.between;
      read = λ is. c.in_err-tracks.ensures.read (ap Err (same_cause is));
      told = λ files told known. updated_unread rose files (plain_settings c.args.settings.now) c.args.update.now s (c.in_err-tracks.ensures.told files told known);
      count = c.read_listed.ensures.count;
      files = c.read_listed.ensures.files;
      later = c.read_listed.ensures.later;
    })

pub returns-in_err-said : goal.returns-in_err-said
returns-in_err-said g c =
    let first = g.F.Folder.faults c.args.folder.now in
    let before = g.F.Folder.faults c.read_listed.new.folder in
    let now = g.F.Folder.faults c.read_attributes.new.folder in
    let since = rose_since first before now c.read_listed.ensures.later in
    let why = c.in_err-said.field-0.0 in
    let p = err_from_is_err_and c.from_residual-in_err-said.result c.from_residual-in_err-said.ensures.1 in
    rw (p.1, p.2)
    (record {
      between = comes_between why;
      read = λ is. since (folder_failed why c.in_err-said.ensures.fault is);
      told = λ files told known.
          updated_unsaid (Rose before now) (Rose first now) plain_attributes files (plain_settings c.args.settings.now) c.args.update.now (plain_updated c.in_ok-tracks.tracks) why since
          (c.in_ok-tracks.ensures.told files told known) (subst (λ (due : Result PlainAttributes Status). Reads (Rose before now) plain_attributes (Err why) due)
          (ap₂ (λ (some others : List Track). attributes_asked (map plain_track some) (map plain_track others) files (plain_settings c.args.settings.now)) c.deref.ensures.value c.deref-2.ensures.value)
          (c.in_err-said.ensures.told files (c.read_listed.ensures.files ∙ told) known));
      count = c.read_attributes.ensures.count ∙ c.read_listed.ensures.count;
      files = c.read_attributes.ensures.files ∙ c.read_listed.ensures.files;
      later = omega (arith, c.read_attributes.ensures.later, c.read_listed.ensures.later);
    })

pub returns : goal.returns
returns g c =
    let asked = plain_settings c.args.settings.now in
    let tracks = plain_updated c.in_ok-tracks.tracks in
    let said = plain_attributes c.in_ok-said.said in
    let made = c.problem_of.result in
    let due = within_limits asked.limits.object_slots (case_of_run asked tracks.new said) in
    let gives : Gives ⊥ plain_problem made due = c.problem_of.ensures.told in
    record {
      between = c.problem_of.ensures.between;
      read = λ is. absurd (gives_unread plain_problem made due gives is);
      told = λ files told known.
          let is = updated_of_attributes files asked c.args.update.now tracks said (c.in_ok-tracks.ensures.told files told known)
          (sym (ap₂ (λ (some others : List Track). attributes_asked (map plain_track some) (map plain_track others) files (plain_settings c.args.settings.now)) c.deref.ensures.value c.deref-2.ensures.value)
          ∙ c.in_ok-said.ensures.told files (c.read_listed.ensures.files ∙ told) known) in
          gives_wider ⊥ _ plain_problem made (updated_asked files asked c.args.update.now) (λ none. absurd none) (rw is gives);
      count = c.read_attributes.ensures.count ∙ c.read_listed.ensures.count;
      files = c.read_attributes.ensures.files ∙ c.read_listed.ensures.files;
      later = omega (arith, c.read_attributes.ensures.later, c.read_listed.ensures.later);
    }
