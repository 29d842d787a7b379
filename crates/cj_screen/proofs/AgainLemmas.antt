-- What is found after updates: it is what is due, and says what is asked.
use Rattle.std.proofs.Common.{◌≡◌, ℕ, Bool, true, false, cond, List, Result, Ok, Err, sym, ap, subst, ◌∙◌, length, ◌++◌}
use Rattle.std.specs.Prelude.{All, IfErr, nat_le}
use Rattle.cj_base.specs.declared.tick.Tick.{Tick}
use Rattle.cj_io.specs.declared.file.FileBytes.{FileBytes}
use Rattle.cj_formats.specs.declared.cert_format.CertFormat.{CertFormat}
use Rattle.cj_case.specs.PlainProblems.{PlainProblem}
use Rattle.cj_case.specs.Problems.{plain_problem}
use Rattle.cj_case.specs.Leaves.{PlainLeaf}
use Rattle.cj_cells.specs.Lists.{list_candidates}
use Rattle.cj_meet.specs.Closest.{HasNearest}
use Rattle.cj_meet.specs.Encounters.{encounters_of}
use Rattle.cj_report.specs.Summary.{kept_line}
use Rattle.cj_words.specs.declared.command.Rescreening.{Rescreening}
use Rattle.cj_words.specs.Commands.{Rescreens, plain_rescreening, plain_screening}
use Rattle.cj_words.specs.Settings.{PlainSettings, plain_settings}
use Rattle.cj_inputs.specs.declared.updating.Updating.{Updating}
use Rattle.cj_inputs.specs.Coverings.{cases_covered}
use Rattle.cj_inputs.specs.Updates.{plain_updating}
use Rattle.cj_status.specs.declared.status.Status.{Status}
use Rattle.cj_status.specs.declared.status.Status.TheVariants as status
use Rattle.cj_status.specs.declared.status.LimitFault.TheVariants as limit
use Rattle.cj_status.specs.Steps.{◌>>=◌, IsLimit, Stops}
use Rattle.cj_outputs.specs.declared.changes.Changes.{Changes}
use Rattle.cj_outputs.specs.declared.findings.Findings.{Findings}
use Rattle.cj_outputs.specs.declared.origin.Origin.{Origin}
use Rattle.cj_outputs.specs.declared.wanted.Wanted.{Wanted}
use Rattle.cj_outputs.specs.Changes.{AreChanges, changed_outputs_in}
use Rattle.cj_outputs.specs.Findings.{AreFound, cert_in, outputs_in, report_in, summary_in}
use Rattle.cj_outputs.specs.Messages.{PlainOrigin}
use Rattle.cj_outputs.specs.Origins.{plain_origin}
use Rattle.cj_outputs.specs.Outcome.{ComesOfSelfrun, kept_unchanged, list_anew, origin_of, outputs_again, outputs_changed, outputs_of_changes, outputs_updated, outputs_within, summary_with, tells_of, uncovered_told}
use Rattle.cj_outputs.specs.SpanSplits.{SplitsChangedTicks, StillSo}
use Rattle.cj_screen.specs.declared.results.Results.TheVariants.{Changed, Screened}
use Rattle.cj_screen.specs.Headline.{ReportsOf}
use Rattle.cj_screen.specs.Results.{ShowsDue}
use Rattle.cj_screen.proofs.CoverLemmas.{covers_exactly, whole_windows}
use Rattle.cj_screen.proofs.SelfrunLemmas.{comes_of_selfrun, within_limits_of}
use Rattle.cj_report.specs.declared.tells.Tells.{Tells}

-- ---- those of the pairs that are not unchanged

-- where they are due, they are these
changed_outputs : (most : ℕ) (tells : Tells) (old new : PlainProblem) (outputs : List FileBytes) → outputs_changed most tells old new ≡ Ok outputs
    → outputs ≡ outputs_of_changes tells new (kept_unchanged old new) (list_anew old new)
unfolding outputs_changed
changed_outputs most tells old new outputs = by_count (nat_le (length (list_anew old new)) most)
  where
    due : List PlainLeaf → List FileBytes
    due leaves = outputs_of_changes tells new (kept_unchanged old new) leaves

    by_count : (b : Bool) → (cond b (Ok (list_anew old new)) (Err (status.Limit (limit.Cells most))) >>= λ leaves. Ok (due leaves)) ≡ Ok outputs
        → outputs ≡ due (list_anew old new)
    by_count true is = sym cc
    by_count false is = absurd cc

-- only a limit ends what is due of them
changed_limits : (most : ℕ) (tells : Tells) (old new : PlainProblem) → IfErr (outputs_changed most tells old new) IsLimit
unfolding outputs_changed
changed_limits most tells old new = by_count (nat_le (length (list_anew old new)) most)
  where
    due : List PlainLeaf → List FileBytes
    due leaves = outputs_of_changes tells new (kept_unchanged old new) leaves

    by_count : (b : Bool) → IfErr (cond b (Ok (list_anew old new)) (Err (status.Limit (limit.Cells most))) >>= λ leaves. Ok (due leaves)) IsLimit
    by_count true = tt
    by_count false = tt

changed_ends : (most : ℕ) (tells : Tells) (old new : PlainProblem) (s : Status) → Stops ⊥ s (outputs_changed most tells old new) → ComesOfSelfrun s
changed_ends most tells old new s stops =
    comes_of_selfrun {X = List FileBytes} ⊥ (λ outputs. outputs) (Err s) (outputs_changed most tells old new) (λ none. none) stops (changed_limits most tells old new)

module _ (rescreening : Rescreening) (updating : Updating) (now : ℕ) (wanted : Wanted) (is : rescreening.changed ≡ true)
    (tells : wanted.tells ≡ tells_of (plain_settings rescreening.screening.settings)) (leaves : wanted.leaves ≡ rescreening.screening.cells) where
  -- what is due is theirs
  theirs : outputs_updated now (plain_rescreening rescreening) (plain_updating updating)
      ≡ outputs_changed wanted.leaves wanted.tells (plain_problem updating.base) (plain_problem updating.new)
  theirs =
      let old = plain_problem updating.base in
      let new = plain_problem updating.new in
      rw is (ap (λ (n : ℕ). outputs_changed n (tells_of (plain_settings rescreening.screening.settings)) old new) (sym leaves)
      ∙ ap (λ (t : Tells). outputs_changed wanted.leaves t old new) (sym tells))

  pub changes_found : (changes : Changes) → outputs_changed wanted.leaves wanted.tells (plain_problem updating.base) (plain_problem updating.new) ≡ Ok (changed_outputs_in changes)
      → AreChanges changes
      → SplitsChangedTicks (plain_problem updating.base) (plain_problem updating.new) (encounters_of (list_anew (plain_problem updating.base) (plain_problem updating.new)))
      → All (HasNearest (plain_problem updating.new)) (encounters_of (list_anew (plain_problem updating.base) (plain_problem updating.new)))
      → StillSo (plain_problem updating.base) (plain_problem updating.new) → record {
        ends : Unit {0};
        told : outputs_updated now (plain_rescreening rescreening) (plain_updating updating) ≡ Ok (changed_outputs_in changes);
        due : AreChanges changes;
        shows : (files : List FileBytes) → cases_covered files (plain_rescreening rescreening) ≡ Ok (plain_updating updating)
            → ShowsDue (Rescreens (plain_rescreening rescreening)) files (Changed changes);
      }
  changes_found changes told found split nearest still =
      let old = plain_problem updating.base in
      let new = plain_problem updating.new in
      record {
        ends = tt;
        told = theirs ∙ told;
        due = found;
        shows = λ files read. record {
          whole = λ other. let wrong = sym is ∙ other in absurd cc;
          changed = λ same. record {
            cases = plain_updating updating;
            read = read;
            whole = whole_windows files (plain_rescreening rescreening) (plain_updating updating) read;
            split = split;
            nearest = nearest;
            covered = covers_exactly new;
            still_so = still;
            outputs = changed_outputs wanted.leaves wanted.tells old new (changed_outputs_in changes) told
                ∙ ap (λ (t : Tells). outputs_of_changes t new (kept_unchanged old new) (list_anew old new)) tells;
          };
        };
      }

  pub changes_fail : (s : Status) → Stops ⊥ s (outputs_changed wanted.leaves wanted.tells (plain_problem updating.base) (plain_problem updating.new)) → record {
    ends : ComesOfSelfrun s;
    told : Stops ⊥ s (outputs_updated now (plain_rescreening rescreening) (plain_updating updating));
    due : Unit {0};
    shows : (files : List FileBytes) → cases_covered files (plain_rescreening rescreening) ≡ Ok (plain_updating updating) → Unit {0};
  }
  changes_fail s told = record {
    ends = changed_ends wanted.leaves wanted.tells (plain_problem updating.base) (plain_problem updating.new) s told;
    told = subst (λ (r : Result (List FileBytes) Status). Stops ⊥ s r) (sym theirs) told;
    due = tt;
    shows = λ files read. tt;
  }

-- ---- all outputs

-- only a limit ends what is due
again_limits : (most : ℕ) (tells : Tells) (format : CertFormat) (origin : PlainOrigin) (old new : PlainProblem) → IfErr (outputs_again most tells format origin old new) IsLimit
unfolding outputs_again
again_limits most tells format origin old new = by_base (nat_le (length (list_candidates old)) most)
  where
    due : Result (List FileBytes) Status
    due = outputs_within most tells format origin (kept_line (kept_unchanged old new)) new

    by_base : (b : Bool) → IfErr (cond b (Ok (list_candidates old)) (Err (status.Limit (limit.Cells most))) >>= λ base. due) IsLimit
    by_base true = within_limits_of most tells format origin (kept_line (kept_unchanged old new)) new
    by_base false = tt

again_ends : (most : ℕ) (tells : Tells) (format : CertFormat) (origin : PlainOrigin) (old new : PlainProblem) (s : Status)
    → Stops ⊥ s (outputs_again most tells format origin old new) → ComesOfSelfrun s
again_ends most tells format origin old new s stops = comes_of_selfrun {X = List FileBytes} ⊥ (λ outputs. outputs) (Err s) (outputs_again most tells format origin old new) (λ none. none) stops (again_limits most tells format origin old new)

module _ (rescreening : Rescreening) (updating : Updating) (wanted : Wanted) (is : rescreening.changed ≡ false)
    (tells : wanted.tells ≡ tells_of (plain_settings rescreening.screening.settings)) (of_format : wanted.format ≡ rescreening.screening.format)
    (leaves : wanted.leaves ≡ rescreening.screening.cells) where
  all_theirs : (now : ℕ) → outputs_updated now (plain_rescreening rescreening) (plain_updating updating)
      ≡ outputs_again wanted.leaves wanted.tells wanted.format (origin_of now (plain_screening rescreening.screening)) (plain_problem updating.base) (plain_problem updating.new)
  all_theirs now =
      let old = plain_problem updating.base in
      let new = plain_problem updating.new in
      let origin = origin_of now (plain_screening rescreening.screening) in
      let asked = tells_of (plain_settings rescreening.screening.settings) in
      rw is (ap (λ (n : ℕ). outputs_again n asked rescreening.screening.format origin old new) (sym leaves)
      ∙ ap (λ (t : Tells). outputs_again wanted.leaves t rescreening.screening.format origin old new) (sym tells)
      ∙ ap (λ (v : CertFormat). outputs_again wanted.leaves wanted.tells v origin old new) (sym of_format))

  pub all_found : (now : Tick) (found : Findings) (origin : Origin) → plain_origin origin ≡ origin_of now.micros (plain_screening rescreening.screening)
      → ((o : PlainOrigin) → outputs_again wanted.leaves wanted.tells wanted.format o (plain_problem updating.base) (plain_problem updating.new) ≡ Ok (outputs_in o found))
      → AreFound found
      → ((settings : PlainSettings) → wanted.tells ≡ tells_of settings → ReportsOf settings (plain_problem updating.new) (report_in found).bytes (cert_in found).bytes)
      → summary_in found ≡ summary_with (kept_line (kept_unchanged (plain_problem updating.base) (plain_problem updating.new)) ++ uncovered_told wanted.tells (plain_problem updating.new))
      (plain_problem updating.new) (list_candidates (plain_problem updating.new))
      → record {
        ends : Unit {0};
        told : outputs_updated now.micros (plain_rescreening rescreening) (plain_updating updating) ≡ Ok (outputs_in (plain_origin origin) found);
        due : AreFound found;
        shows : (files : List FileBytes) → cases_covered files (plain_rescreening rescreening) ≡ Ok (plain_updating updating)
            → ShowsDue (Rescreens (plain_rescreening rescreening)) files (Screened found origin);
      }
  all_found now found origin made told are reports summary =
      record {
        ends = tt;
        told = all_theirs now.micros ∙ told (origin_of now.micros (plain_screening rescreening.screening)) ∙ ap (λ (o : PlainOrigin). Ok (outputs_in o found)) (sym made);
        due = are;
        shows = λ files read. record {
          whole = λ same. record {
            cases = plain_updating updating;
            read = read;
            whole = whole_windows files (plain_rescreening rescreening) (plain_updating updating) read;
            report = reports (plain_settings rescreening.screening.settings) tells;
            summary = summary ∙ ap (λ (t : Tells). summary_with (kept_line (kept_unchanged (plain_problem updating.base) (plain_problem updating.new)) ++ uncovered_told t (plain_problem updating.new))
                (plain_problem updating.new) (list_candidates (plain_problem updating.new))) tells;
          };
          changed = λ other. let wrong = sym is ∙ other in absurd cc;
        };
      }

  pub all_fail : (now : ℕ) (s : Status)
      → ((o : PlainOrigin) → Stops ⊥ s (outputs_again wanted.leaves wanted.tells wanted.format o (plain_problem updating.base) (plain_problem updating.new))) → record {
        ends : ComesOfSelfrun s;
        told : Stops ⊥ s (outputs_updated now (plain_rescreening rescreening) (plain_updating updating));
        due : Unit {0};
        shows : (files : List FileBytes) → cases_covered files (plain_rescreening rescreening) ≡ Ok (plain_updating updating) → Unit {0};
      }
  all_fail now s told =
      let origin = origin_of now (plain_screening rescreening.screening) in
      record {
        ends = again_ends wanted.leaves wanted.tells wanted.format origin (plain_problem updating.base) (plain_problem updating.new) s (told origin);
        told = subst (λ (r : Result (List FileBytes) Status). Stops ⊥ s r) (sym (all_theirs now)) (told origin);
        due = tt;
        shows = λ files read. tt;
      }
