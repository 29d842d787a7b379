-- How a run ends, of how its parts do.
use Rattle.std.proofs.Common.{◌≡◌, ℕ, ◌≤◌, List, [], ◌∷◌, ◌++◌, Option, Some, Result, Ok, Err, refl, sym, ap, ◌∙◌, inl, inr, ◌⊎◌}
use Rattle.std.proofs.Common.{append-nil, append_assoc, arith}
use Rattle.std.specs.Prelude.{IfErr, IsErrAnd}
use Rattle.std.proofs.lemmas.Result.{err_from_is_err_and}
use Rattle.cj_io.specs.Faults.{Rose}
use Rattle.cj_io.specs.declared.file.FileBytes.{FileBytes}
use Rattle.cj_status.specs.declared.status.Status.{Status}
use Rattle.cj_status.specs.declared.status.Status.TheVariants as status
use Rattle.cj_status.specs.Steps.{Stops}
use Rattle.cj_outputs.specs.Outcome.{Answers, AreOutputs, AreTooManyCells, IsFront, PartlyPut, Leaves, Extends, ComesOfPuts, PutsNothing}
use Rattle.cj_outputs.specs.Findings.{ended}

-- nothing was put
pub nothing_put : (due : Result (List FileBytes) Status) (old : List FileBytes) (now : Option (List FileBytes)) → now ≡ Some old → PartlyPut due old now
nothing_put (Ok outputs) old now same = ([], tt, same ∙ ap (λ (ps : List FileBytes). Some ps) (sym (append-nil old)))
nothing_put (Err s) old now same = ([], refl, same ∙ ap (λ (ps : List FileBytes). Some ps) (sym (append-nil old)))

-- a part of a run that put nothing, since memory ran out
pub nothing_made : (outputs : List FileBytes) (shelf : Option (List FileBytes)) (faults : ℕ) (r : Result (Unit {0}) Status)
    → IsErrAnd r (λ s. s ≡ status.OutOfMemory) → record {
      comes : IfErr r ComesOfPuts;
      write : r ≡ Err status.WriteFault → Rose faults faults;
      leaves : (old : List FileBytes) → shelf ≡ Some old → Leaves (ended r) (Ok outputs) old shelf;
      later : faults ≤ faults;
    }
nothing_made outputs shelf faults r failed =
    let p = err_from_is_err_and r failed in
    rw (p.1, p.2) (record {
      comes = tt;
      write = λ is. absurd cc;
      leaves = λ old stood. nothing_put (Ok outputs) old shelf stood;
      later = omega arith;
    })

-- a count that had not fallen, and then rose
pub rose_later : (first second last : ℕ) → first ≤ second → Rose second last → Rose first last
rose_later first second last before rose = omega arith

-- a part of a run whose put failed so, behind others that did not
pub put_failed : (outputs : List FileBytes) (shelf now : Option (List FileBytes)) (first second last : ℕ) (s : Status) (r : Result (Unit {0}) Status)
    → IsErrAnd r (λ t. t ≡ s) → first ≤ second → ComesOfPuts s → (◌≡◌ {A = Result (Unit {0}) Status} (Err s) (Err status.WriteFault) → Rose second last)
    → second ≤ last
    → ((old : List FileBytes) → shelf ≡ Some old → Leaves s (Ok outputs) old now) → record {
      comes : IfErr r ComesOfPuts;
      write : r ≡ Err status.WriteFault → Rose first last;
      leaves : (old : List FileBytes) → shelf ≡ Some old → Leaves (ended r) (Ok outputs) old now;
      later : first ≤ last;
    }
put_failed outputs shelf now first second last s r failed before comes write later leaves =
    let p = err_from_is_err_and r failed in
    rw (p.1, p.2) (record {
      comes = comes;
      write = λ is. rose_later first second last before (write is);
      leaves = leaves;
      later = omega arith;
    })

pub nothing_more : (old : List FileBytes) (now : Option (List FileBytes)) → now ≡ Some old → Extends old now
nothing_more old now same = ([], same ∙ ap (λ (ps : List FileBytes). Some ps) (sym (append-nil old)))

-- ---- a run that stopped before its puts

pub answers_stop : (read refused : Type 0) (s : Status) (due : Result (List FileBytes) Status) → Stops read s due → Answers read refused s due
answers_stop read refused status.Ok due stops = absurd stops
answers_stop read refused (status.NotAccepted line cause) due stops = stops
answers_stop read refused (status.Usage fault) due stops = stops
answers_stop read refused (status.BadFile file line cause) due stops = stops
answers_stop read refused status.ReadFault due stops = stops
answers_stop read refused status.WriteFault due stops = absurd stops
answers_stop read refused (status.Limit fault) due stops = stops
answers_stop read refused status.OutOfMemory due stops = tt

pub leaves_stop : (read : Type 0) (s : Status) (due : Result (List FileBytes) Status) (old : List FileBytes) (now : Option (List FileBytes))
    → now ≡ Some old → Stops read s due → Leaves s due old now
leaves_stop read status.Ok due old now same stops = absurd stops
leaves_stop read (status.NotAccepted line cause) due old now same stops = same
leaves_stop read (status.Usage fault) due old now same stops = same
leaves_stop read (status.BadFile file line cause) due old now same stops = same
leaves_stop read status.ReadFault due old now same stops = same
leaves_stop read status.WriteFault due old now same stops = absurd stops
leaves_stop read (status.Limit fault) due old now same stops = same
leaves_stop read status.OutOfMemory due old now same stops = nothing_put due old now same

-- what answers where nothing is read answers where something is
pub answers_wider : (read refused : Type 0) (s : Status) (due : Result (List FileBytes) Status) → Answers ⊥ refused s due → Answers read refused s due
answers_wider read refused status.Ok due answers = answers
answers_wider read refused (status.NotAccepted line cause) due answers = answers
answers_wider read refused (status.Usage fault) due answers = answers
answers_wider read refused (status.BadFile file line cause) due answers = answers
answers_wider read refused status.ReadFault due answers = absurd answers
answers_wider read refused status.WriteFault due answers = answers
answers_wider read refused (status.Limit fault) due answers = answers
answers_wider read refused status.OutOfMemory due answers = tt

-- ---- a run that came to its puts

pub answers_put : (read refused : Type 0) (r : Result (Unit {0}) Status) (due : Result (List FileBytes) Status) (outputs : List FileBytes) → due ≡ Ok outputs
    → IfErr r ComesOfPuts → Answers read refused (ended r) due
answers_put read refused (Ok done) due outputs is comes = (outputs, is)
answers_put read refused (Err status.Ok) due outputs is comes = absurd comes
answers_put read refused (Err (status.NotAccepted line cause)) due outputs is comes = absurd comes
answers_put read refused (Err (status.Usage fault)) due outputs is comes = absurd comes
answers_put read refused (Err (status.BadFile file line cause)) due outputs is comes = absurd comes
answers_put read refused (Err status.ReadFault) due outputs is comes = absurd comes
answers_put read refused (Err status.WriteFault) due outputs is comes = inl (outputs, is)
answers_put read refused (Err (status.Limit fault)) due outputs is comes = absurd comes
answers_put read refused (Err status.OutOfMemory) due outputs is comes = tt

-- puts that did not fail were made, or memory ran out
pub put_or_memory : (write : Type 0) (r : Result (Unit {0}) Status) → ¬ write → IfErr r ComesOfPuts → (r ≡ Err status.WriteFault → write) → (ended r ≡ status.Ok) ⊎ (ended r ≡ status.OutOfMemory)
put_or_memory write (Ok done) calm comes rose = inl refl
put_or_memory write (Err status.Ok) calm comes rose = absurd comes
put_or_memory write (Err (status.NotAccepted line cause)) calm comes rose = absurd comes
put_or_memory write (Err (status.Usage fault)) calm comes rose = absurd comes
put_or_memory write (Err (status.BadFile file line cause)) calm comes rose = absurd comes
put_or_memory write (Err status.ReadFault) calm comes rose = absurd comes
put_or_memory write (Err status.WriteFault) calm comes rose = absurd (calm (rose refl))
put_or_memory write (Err (status.Limit fault)) calm comes rose = absurd comes
put_or_memory write (Err status.OutOfMemory) calm comes rose = inr refl

-- puts do not end as a run that leaves its shelf alone
pub puts_some : (r : Result (Unit {0}) Status) → IfErr r ComesOfPuts → ¬ PutsNothing (ended r)
puts_some (Ok done) comes = λ none. none
puts_some (Err status.Ok) comes = absurd comes
puts_some (Err (status.NotAccepted line cause)) comes = absurd comes
puts_some (Err (status.Usage fault)) comes = absurd comes
puts_some (Err (status.BadFile file line cause)) comes = absurd comes
puts_some (Err status.ReadFault) comes = absurd comes
puts_some (Err status.WriteFault) comes = λ none. none
puts_some (Err (status.Limit fault)) comes = absurd comes
puts_some (Err status.OutOfMemory) comes = λ none. none

-- ---- puts, one after another

-- a front of some outputs is a front of them and more
front_of_more : (ps more front : List FileBytes) → IsFront front ps → IsFront front (ps ++ more)
front_of_more ps more [] is = tt
front_of_more [] more (f ∷ front) is = absurd is
front_of_more (p ∷ ps) more (f ∷ []) is = is
front_of_more (p ∷ ps) more (f ∷ g ∷ front) is = (is.0, front_of_more ps more (g ∷ front) is.1)

-- a front behind a first output
front_behind_one : (p : FileBytes) (more front : List FileBytes) → IsFront front more → IsFront (p ∷ front) (p ∷ more)
front_behind_one p more [] is = (refl, ([], sym (append-nil p.bytes)))
front_behind_one p more (f ∷ front) is = (refl, is)

-- a front behind some outputs
front_behind : (ps more front : List FileBytes) → IsFront front more → IsFront (ps ++ front) (ps ++ more)
front_behind [] more front is = is
front_behind (p ∷ ps) more front is = front_behind_one p (ps ++ more) (ps ++ front) (front_behind ps more front is)

-- a front of the first outputs alone was put
first_partly : (ps more old : List FileBytes) (now : Option (List FileBytes)) → PartlyPut (Ok ps) old now → PartlyPut (Ok (ps ++ more)) old now
first_partly ps more old now partly = (partly.0, front_of_more ps more partly.0 partly.1, partly.2)

-- the first puts ended the run
pub first_leaves : (s : Status) (ps more old : List FileBytes) (now : Option (List FileBytes)) → ComesOfPuts s → Leaves s (Ok ps) old now → Leaves s (Ok (ps ++ more)) old now
first_leaves status.Ok ps more old now comes leaves = absurd comes
first_leaves (status.NotAccepted line cause) ps more old now comes leaves = leaves
first_leaves (status.Usage fault) ps more old now comes leaves = leaves
first_leaves (status.BadFile file line cause) ps more old now comes leaves = leaves
first_leaves status.ReadFault ps more old now comes leaves = leaves
first_leaves status.WriteFault ps more old now comes leaves = first_partly ps more old now leaves
first_leaves (status.Limit fault) ps more old now comes leaves = leaves
first_leaves status.OutOfMemory ps more old now comes leaves = first_partly ps more old now leaves

-- the first outputs stand
pub first_stand : (ps old : List FileBytes) (now : Option (List FileBytes)) → Leaves status.Ok (Ok ps) old now → now ≡ Some (old ++ ps)
first_stand ps old now leaves = let is : leaves.0 ≡ ps = cc (leaves.1) in leaves.2 ∙ ap (λ (qs : List FileBytes). Some (old ++ qs)) is

-- a front behind the first outputs was put
behind_partly : (ps more old : List FileBytes) (now : Option (List FileBytes)) → PartlyPut (Ok more) (old ++ ps) now → PartlyPut (Ok (ps ++ more)) old now
behind_partly ps more old now partly =
    (ps ++ partly.0, front_behind ps more partly.0 partly.1, partly.2 ∙ ap (λ (qs : List FileBytes). Some qs) (append_assoc old ps partly.0))

-- the puts behind the first ended it
pub second_leaves : (r : Result (Unit {0}) Status) (ps more old : List FileBytes) (now : Option (List FileBytes)) → IfErr r ComesOfPuts
    → Leaves (ended r) (Ok more) (old ++ ps) now → Leaves (ended r) (Ok (ps ++ more)) old now
second_leaves (Ok done) ps more old now comes leaves =
    let is : more ≡ leaves.0 = cc (leaves.1) in
    (ps ++ leaves.0, ap (λ (qs : List FileBytes). Ok (ps ++ qs)) is, leaves.2 ∙ ap (λ (qs : List FileBytes). Some qs) (append_assoc old ps leaves.0))
second_leaves (Err status.Ok) ps more old now comes leaves = absurd comes
second_leaves (Err (status.NotAccepted line cause)) ps more old now comes leaves = absurd comes
second_leaves (Err (status.Usage fault)) ps more old now comes leaves = absurd comes
second_leaves (Err (status.BadFile file line cause)) ps more old now comes leaves = absurd comes
second_leaves (Err status.ReadFault) ps more old now comes leaves = absurd comes
second_leaves (Err status.WriteFault) ps more old now comes leaves = behind_partly ps more old now leaves
second_leaves (Err (status.Limit fault)) ps more old now comes leaves = absurd comes
second_leaves (Err status.OutOfMemory) ps more old now comes leaves = behind_partly ps more old now leaves

-- whatever ended the puts, the old outputs stand
pub leaves_extends : (s : Status) (due : Result (List FileBytes) Status) (old : List FileBytes) (now : Option (List FileBytes)) → Leaves s due old now → Extends old now
leaves_extends status.Ok due old now leaves = (leaves.0, leaves.2)
leaves_extends (status.NotAccepted line cause) due old now leaves = nothing_more old now leaves
leaves_extends (status.Usage fault) due old now leaves = nothing_more old now leaves
leaves_extends (status.BadFile file line cause) due old now leaves = nothing_more old now leaves
leaves_extends status.ReadFault due old now leaves = nothing_more old now leaves
leaves_extends status.WriteFault due old now leaves = (leaves.0, leaves.2)
leaves_extends (status.Limit fault) due old now leaves = nothing_more old now leaves
leaves_extends status.OutOfMemory due old now leaves = (leaves.0, leaves.2)

-- ---- completeness

-- a run that stopped although outputs are due, and not for a read, met want of memory
pub stopped_for : (read : Type 0) (s : Status) (due : Result (List FileBytes) Status) (outputs : List FileBytes) → due ≡ Ok outputs
    → (s ≡ status.ReadFault → ¬ read) → Stops read s due → s ≡ status.OutOfMemory
stopped_for read status.Ok due outputs is calm stops = absurd stops
stopped_for read (status.NotAccepted line cause) due outputs is calm stops = absurd cc
stopped_for read (status.Usage fault) due outputs is calm stops = absurd cc
stopped_for read (status.BadFile file line cause) due outputs is calm stops = absurd cc
stopped_for read status.ReadFault due outputs is calm stops = absurd (calm refl stops)
stopped_for read status.WriteFault due outputs is calm stops = absurd stops
stopped_for read (status.Limit fault) due outputs is calm stops = absurd cc
stopped_for read status.OutOfMemory due outputs is calm stops = refl

-- where a cause is due and neither a read failed nor the shelf refused the run, it comes, or memory ran out
pub refused_as : (read refused : Type 0) (s cause : Status) (due : Result (List FileBytes) Status) → due ≡ Err cause
    → (s ≡ status.ReadFault → ¬ read) → ¬ refused
    → Answers read refused s due → (s ≡ cause) ⊎ (s ≡ status.OutOfMemory)
refused_as read refused status.Ok cause due is calm free answers = absurd cc
refused_as read refused (status.NotAccepted line why) cause due is calm free answers = inl cc
refused_as read refused (status.Usage fault) cause due is calm free answers = inl cc
refused_as read refused (status.BadFile file line why) cause due is calm free answers = inl cc
refused_as read refused status.ReadFault cause due is calm free answers = absurd (calm refl answers)
refused_as read refused status.WriteFault cause due is calm free (inl outputs) = let there = outputs.1 in absurd cc
refused_as read refused status.WriteFault cause due is calm free (inr taken) = absurd (free taken.0)
refused_as read refused (status.Limit fault) cause due is calm free answers = inl cc
refused_as read refused status.OutOfMemory cause due is calm free answers = inr refl

-- ---- a shelf that refused the run

-- nothing of what is due was put
pub leaves_refused : (s : Status) (due : Result (List FileBytes) Status) (old : List FileBytes) (now : Option (List FileBytes)) → ComesOfPuts s
    → now ≡ Some old → Leaves s due old now
leaves_refused status.Ok due old now comes same = absurd comes
leaves_refused (status.NotAccepted line cause) due old now comes same = absurd comes
leaves_refused (status.Usage fault) due old now comes same = absurd comes
leaves_refused (status.BadFile file line cause) due old now comes same = absurd comes
leaves_refused status.ReadFault due old now comes same = absurd comes
leaves_refused status.WriteFault due old now comes same = nothing_put due old now same
leaves_refused (status.Limit fault) due old now comes same = absurd comes
leaves_refused status.OutOfMemory due old now comes same = nothing_put due old now same

-- outputs were due, or too many leaves
pub answers_refused : (read refused : Type 0) (s : Status) (due : Result (List FileBytes) Status) → ComesOfPuts s
    → (◌≡◌ {A = Result (Unit {0}) Status} (Err s) (Err status.WriteFault) → refused) → AreOutputs due ⊎ AreTooManyCells due → Answers read refused s due
answers_refused read refused status.Ok due comes rose either = absurd comes
answers_refused read refused (status.NotAccepted line cause) due comes rose either = absurd comes
answers_refused read refused (status.Usage fault) due comes rose either = absurd comes
answers_refused read refused (status.BadFile file line cause) due comes rose either = absurd comes
answers_refused read refused status.ReadFault due comes rose either = absurd comes
answers_refused read refused status.WriteFault due comes rose (inl outputs) = inl outputs
answers_refused read refused status.WriteFault due comes rose (inr many) = inr (rose refl, many)
answers_refused read refused (status.Limit fault) due comes rose either = absurd comes
answers_refused read refused status.OutOfMemory due comes rose either = tt
