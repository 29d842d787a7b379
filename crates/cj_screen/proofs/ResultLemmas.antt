-- What the words of a run come to.
use Rattle.std.proofs.Common.{◌≡◌, ℕ, ◌≤◌, List, Result, Ok, Err, ap, sym, subst, arith}
use Rattle.std.specs.Prelude.{◌↔◌, IfErr}
use Rattle.cj_io.specs.declared.file.FileBytes.{FileBytes}
use Rattle.cj_words.specs.declared.option.UsageFault.{UsageFault}
use Rattle.cj_words.specs.Commands.{PlainCommand, command_of}
use Rattle.cj_status.specs.declared.status.Status.{Status}
use Rattle.cj_status.specs.declared.status.Status.TheVariants as status
use Rattle.cj_status.specs.Steps.{◌>>=◌, ComesBefore, ComesBetween}
use Rattle.cj_outputs.specs.Findings.{ended}
use Rattle.cj_outputs.specs.Outcome.{asked, outputs_asked, outputs_of}

-- what comes behind the words is no fault of theirs
pub never_of_words : {A : Type 0} (r : Result A Status) (fault : UsageFault) → IfErr r ComesBetween → ¬ (r ≡ Err (status.Usage fault))
never_of_words (Ok x) fault comes = λ e. absurd cc
never_of_words (Err s) fault comes = λ e. let is : s ≡ status.Usage fault = cc in subst ComesBetween is comes

-- what the words ask for is due, and their fault where they ask for nothing
pub outputs_of_command : (words : List (List ℕ)) (files : List FileBytes) (now : ℕ) (command : PlainCommand) → Ok command ≡ command_of words
    → outputs_of words files now ≡ outputs_asked files now command
unfolding outputs_of
outputs_of_command words files now command is = ap (λ (r : Result PlainCommand UsageFault). asked r >>= outputs_asked files now) (sym is)

pub outputs_of_fault : (words : List (List ℕ)) (files : List FileBytes) (now : ℕ) (fault : UsageFault) → Err fault ≡ command_of words
    → outputs_of words files now ≡ Err (status.Usage fault)
unfolding outputs_of
outputs_of_fault words files now fault is = ap (λ (r : Result PlainCommand UsageFault). asked r >>= outputs_asked files now) (sym is)

pub usage_fault : {A : Type 0} (words : List (List ℕ)) (fault : UsageFault) → Err fault ≡ command_of words
    → (other : UsageFault) → ◌≡◌ {A = Result A Status} (Err (status.Usage fault)) (Err (status.Usage other)) ↔ (command_of words ≡ Err other)
usage_fault words fault is other = (
  λ e. let same : fault ≡ other = cc in cc,
  λ e. let same : fault ≡ other = cc in ap (λ (f : UsageFault). Err (status.Usage f)) same,
)

-- what comes between the words and the writes comes before the writes
pub comes_before : {A : Type 0} (r : Result A Status) → IfErr r ComesBetween → IfErr r ComesBefore
comes_before (Ok x) comes = tt
comes_before (Err status.Ok) comes = comes
comes_before (Err (status.NotAccepted line cause)) comes = tt
comes_before (Err (status.Usage fault)) comes = tt
comes_before (Err (status.BadFile file line cause)) comes = tt
comes_before (Err status.ReadFault) comes = tt
comes_before (Err status.WriteFault) comes = comes
comes_before (Err (status.Limit fault)) comes = tt
comes_before (Err status.OutOfMemory) comes = tt

-- what is answered is no error
pub no_error : {A P : Type 0} {x : A} {s : Status} → ◌≡◌ {A = Result A Status} (Ok x) (Err s) → P
no_error is = absurd cc

-- a count that stays has not fallen
pub count_stays : (n : ℕ) → n ≤ n
count_stays n = omega arith

-- a run that ends by a failed write failed in it
pub ended_failed : (r : Result (Unit {0}) Status) → ended r ≡ status.WriteFault → r ≡ Err status.WriteFault
ended_failed (Ok done) is = absurd cc
ended_failed (Err s) is = ap (λ (t : Status). Err t) is

-- a count that has not fallen twice
pub count_later : (first second last : ℕ) → first ≤ second → second ≤ last → first ≤ last
count_later first second last before after = omega arith

-- the status of an error
pub same_status : {A : Type 0} {s t : Status} → ◌≡◌ {A = Result A Status} (Err s) (Err t) → s ≡ t
same_status is = cc
