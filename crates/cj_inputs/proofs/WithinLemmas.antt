-- A case that is asked of files is within the limits.
use Rattle.std.proofs.Common.{◌≡◌, ℕ, ◌+◌, ◌-◌, ◌*◌, ◌≤◌, Bool, true, false, cond, List, [], ◌∷◌, ◌++◌, length, Result, Ok, Err, refl, sym, ap, ◌∙◌, subst, arith}
use Rattle.std.specs.Prelude.{nat_le}
use Rattle.std.proofs.lemmas.Bool.Decides.{nat_tests}
use Rattle.std.proofs.lemmas.List.{length-append}
use Rattle.cj_base.specs.Limits.{PlainLimits, USUAL}
use Rattle.cj_io.specs.declared.file.FileBytes.{FileBytes}
use Rattle.cj_io.specs.Files.{names_of}
use Rattle.cj_track.specs.PlainTracks.{PlainTrack}
use Rattle.cj_words.specs.Settings.{PlainSettings}
use Rattle.cj_case.specs.PlainProblems.{PlainProblem}
use Rattle.cj_case.specs.Slots.{slot_count}
use Rattle.cj_status.specs.declared.status.Status.{Status}
use Rattle.cj_status.specs.declared.status.Status.TheVariants as status
use Rattle.cj_status.specs.declared.status.LimitFault.TheVariants.{Objects, Window, Slots}
use Rattle.cj_status.specs.Steps.{◌>>=◌}
use Rattle.cj_inputs.specs.declared.input_files.Entry.{Entry}
use Rattle.cj_inputs.specs.Cases.{case_asked, case_of_run, object_slots, within_limits, within_objects, within_slots, within_window}
use Rattle.cj_inputs.specs.InputFiles.{apart_of, inputs_of}
use Rattle.cj_inputs.specs.ObjectAttributes.{PlainAttributes, attributes_asked}
use Rattle.cj_inputs.specs.Readings.{reading_after, readings_after, readings_of}

-- where two steps come to a value, the first comes to one
pub step_there : {A B : Type 0} (r : Result A Status) (f : A → Result B Status) (y : B) → (r >>= f) ≡ Ok y → (x : A) × (r ≡ Ok x) × (f x ≡ Ok y)
step_there (Ok x) f y is = (x, refl, is)
step_there (Err s) f y is = absurd cc

-- what is let through is within the bound
pub let_through : {A : Type 0} (n most : ℕ) (x y : A) (s : Status) → ◌≡◌ {A = Result A Status} (cond (nat_le n most) (Ok x) (Err s)) (Ok y) → (n ≤ most) × (x ≡ y)
let_through {A} n most x y s is = go (nat_le n most) refl is
  where
    go : (b : Bool) → nat_le n most ≡ b → ◌≡◌ {A = Result A Status} (cond b (Ok x) (Err s)) (Ok y) → (n ≤ most) × (x ≡ y)
    go true fits same = (grind (arith, nat_tests), cc)
    go false fits same = absurd cc

-- as many ephemerides are read as files are taken
readings_many : (settings : PlainSettings) (files : List FileBytes) (before : List PlainTrack) (entries : List Entry) (es : List PlainTrack) → readings_after settings files before entries ≡ Ok es
    → length es ≡ length before + length entries
readings_many settings files before [] es is = let same : before ≡ es = cc in omega (arith, ap (λ (ts : List PlainTrack). length ts) same)
readings_many settings files before (entry ∷ entries) es is =
    let one = step_there (reading_after settings files before entry) (λ e. readings_after settings files (before ++ e ∷ []) entries) es is in
    omega (arith, readings_many settings files (before ++ one.0 ∷ []) entries es one.2, length-append before (one.0 ∷ []))

-- a case within limits
pub record IsWithin (limits : PlainLimits) (case : PlainProblem) : Type 0 where
  pub objects : length case.tracks ≤ limits.objects
  pub slots : object_slots case ≤ limits.object_slots

pub within_there : (most : ℕ) (made case : PlainProblem) → within_limits most made ≡ Ok case → (object_slots made ≤ most) × (made ≡ case)
within_there most made case is =
    let short = step_there (within_window made) (within_slots most) case is in
    let same : made ≡ short.0 = (let_through (made.last - made.first) 1_209_600_000_000 made short.0 (status.Limit (Window (made.last - made.first))) short.1).1 in
    let few = let_through (object_slots short.0) most short.0 case (status.Limit (Slots (object_slots short.0))) short.2 in
    (subst (λ (c : PlainProblem). object_slots c ≤ most) (sym same) few.0, same ∙ few.1)

pub asked_within : (files : List FileBytes) (settings : PlainSettings) (case : PlainProblem) → case_asked files settings ≡ Ok case → IsWithin settings.limits case
unfolding case_asked
asked_within files settings case is =
    let limits = settings.limits in
    let entries = inputs_of settings.suffix (apart_of settings) (names_of files) in
    let made : List PlainTrack → PlainAttributes → PlainProblem = case_of_run settings in
    let beside : List PlainTrack → Result PlainProblem Status = λ es. attributes_asked es [] files settings >>= λ said. within_limits limits.object_slots (made es said) in
    let listed = step_there (within_objects limits.objects entries) (λ some. readings_of settings files some >>= beside) case is in
    let few = let_through (length entries) limits.objects entries listed.0 (status.Limit (Objects (length entries))) listed.1 in
    let read = step_there (readings_of settings files listed.0) beside case listed.2 in
    let told = step_there (attributes_asked read.0 [] files settings) (λ said. within_limits limits.object_slots (made read.0 said)) case read.2 in
    let there = within_there limits.object_slots (made read.0 told.0) case told.2 in
    let whole : IsWithin limits (made read.0 told.0) = record {
      objects = omega (arith, few.0, ap (λ (some : List Entry). length some) few.1, readings_many settings files [] listed.0 read.0 read.1);
      slots = there.0;
    } in
    subst (IsWithin limits) there.1 whole

-- the same of the usual limits
usual_within : (files : List FileBytes) (settings : PlainSettings) (case : PlainProblem) → case_asked files settings ≡ Ok case → settings.limits ≡ USUAL → IsWithin USUAL case
usual_within files settings case is usual = subst (λ (l : PlainLimits). IsWithin l case) usual (asked_within files settings case is)

pub usual_objects : (files : List FileBytes) (settings : PlainSettings) (case : PlainProblem) → case_asked files settings ≡ Ok case → settings.limits ≡ USUAL → length case.tracks ≤ 2000
usual_objects files settings case is usual = (usual_within files settings case is usual).objects

pub usual_slots : (files : List FileBytes) (settings : PlainSettings) (case : PlainProblem) → case_asked files settings ≡ Ok case → settings.limits ≡ USUAL
    → length case.tracks * slot_count case.first case.last ≤ 4_000_000
usual_slots files settings case is usual = (usual_within files settings case is usual).slots
