-- A run that asks for an accepted certificate: how it ends, of how its parts do.
use Rattle.std.proofs.Common.{◌≡◌, ℕ, Bool, List, Some, None, Result, Ok, Err, refl, ap, sym, subst, ◌∙◌}
use Rattle.cj_io.specs.declared.file.FileBytes.{FileBytes}
use Rattle.cj_case.specs.PlainProblems.{PlainProblem}
use Rattle.cj_checker.specs.First.{Failure}
use Rattle.cj_inputs.specs.CheckInputs.{PlainInputs}
use Rattle.cj_inputs.proofs.StepLemmas.{stops_wider}
use Rattle.cj_status.specs.declared.status.Status.{Status}
use Rattle.cj_status.specs.declared.status.Status.TheVariants as status
use Rattle.cj_status.specs.declared.status.CertificateCause.TheVariants.{Refused}
use Rattle.cj_status.specs.Steps.{◌>>=◌, Stops}
use Rattle.cj_outputs.specs.Either.{PlainAnyCertificate, any_failure, any_reading}
use Rattle.cj_outputs.specs.Outcome.{accepting, none_of, said_or}

-- the same error of another answer
pub same_error : {A B : Type 0} {s t : Status} → ◌≡◌ {A = Result A Status} (Err s) (Err t) → ◌≡◌ {A = Result B Status} (Err s) (Err t)
same_error {s = s} {t = t} is = let same : s ≡ t = cc in ap (λ (x : Status). Err x) same

-- what ends a step ends those behind it
pub stops_then : {A B : Type 0} (read : Type 0) (s : Status) (r : Result A Status) (f : A → Result B Status) → Stops read s r → Stops read s (r >>= f)
stops_then read status.Ok r f stops = stops
stops_then {A = A} read (status.NotAccepted line cause) r f stops = ap (λ (x : Result A Status). x >>= f) stops
stops_then {A = A} read (status.Usage fault) r f stops = ap (λ (x : Result A Status). x >>= f) stops
stops_then {A = A} read (status.BadFile file line cause) r f stops = ap (λ (x : Result A Status). x >>= f) stops
stops_then read status.ReadFault r f stops = stops
stops_then read status.WriteFault r f stops = stops
stops_then {A = A} read (status.Limit fault) r f stops = ap (λ (x : Result A Status). x >>= f) stops
stops_then read status.OutOfMemory r f stops = stops

-- ---- a text that is read and checked

pub unreadable : (brief : Bool) (case : PlainProblem) (bytes : List ℕ) (s : Status) → Stops ⊥ s (said_or (any_reading brief bytes)) → Stops ⊥ s (accepting brief case bytes)
unfolding accepting
unreadable brief case bytes s stops =
    stops_then ⊥ s (said_or (any_reading brief bytes)) (λ certificate. none_of (any_failure case certificate) >>= λ done. Ok certificate) stops

pub accepted_so : (brief : Bool) (case : PlainProblem) (bytes : List ℕ) (certificate : PlainAnyCertificate) → said_or (any_reading brief bytes) ≡ Ok certificate
    → any_failure case certificate ≡ None → accepting brief case bytes ≡ Ok certificate
unfolding accepting
accepted_so brief case bytes certificate said none = rw (said, none) refl

pub refused_so : (brief : Bool) (case : PlainProblem) (bytes : List ℕ) (certificate : PlainAnyCertificate) (failure : Failure) → said_or (any_reading brief bytes) ≡ Ok certificate
    → any_failure case certificate ≡ Some failure → accepting brief case bytes ≡ Err (status.NotAccepted failure.line (Refused failure.cause))
unfolding accepting
refused_so brief case bytes certificate failure said some = rw (said, some) refl

-- ---- what comes of a certificate that is accepted for its inputs

abbrev outputs_from : Bool → (PlainInputs → PlainAnyCertificate → Result (List FileBytes) Status) → Result PlainInputs Status → Result (List FileBytes) Status
outputs_from brief outputs inputs = inputs >>= λ i. accepting brief i.case i.bytes >>= λ certificate. outputs i certificate

-- the inputs are not there
pub unprepared : (brief : Bool) (outputs : PlainInputs → PlainAnyCertificate → Result (List FileBytes) Status) (read : Type 0) (s : Status) (inputs : Result PlainInputs Status)
    → Stops read s inputs → Stops read s (outputs_from brief outputs inputs)
unprepared brief outputs read s inputs stops = stops_then read s inputs (λ i. accepting brief i.case i.bytes >>= λ certificate. outputs i certificate) stops

-- the certificate is not accepted
pub unaccepted : (brief : Bool) (outputs : PlainInputs → PlainAnyCertificate → Result (List FileBytes) Status) (read : Type 0) (s : Status) (inputs : Result PlainInputs Status)
    (i : PlainInputs) → inputs ≡ Ok i → Stops ⊥ s (accepting brief i.case i.bytes) → Stops read s (outputs_from brief outputs inputs)
unaccepted brief outputs read s inputs i there stops =
    subst (λ (r : Result PlainInputs Status). Stops read s (outputs_from brief outputs r)) (sym there)
    (stops_then read s (accepting brief i.case i.bytes) (λ certificate. outputs i certificate)
    (stops_wider ⊥ read s (accepting brief i.case i.bytes) (λ none. absurd none) stops))

-- it is
pub outputs_made_from : (brief : Bool) (outputs : PlainInputs → PlainAnyCertificate → Result (List FileBytes) Status) (inputs : Result PlainInputs Status) (i : PlainInputs)
    (certificate : PlainAnyCertificate) → inputs ≡ Ok i → accepting brief i.case i.bytes ≡ Ok certificate → outputs_from brief outputs inputs ≡ outputs i certificate
outputs_made_from brief outputs inputs i certificate there accepted =
    ap (outputs_from brief outputs) there ∙ ap (λ (r : Result PlainAnyCertificate Status). r >>= λ c. outputs i c) accepted
