-- Ends that are equal, and ends that never are.
use Rattle.std.proofs.Common.{◌≡◌, None, Some, Result, Ok, Err}
use Rattle.cj_inputs.specs.declared.reading.InputError.{InputError}
use Rattle.cj_inputs.specs.declared.reading.InputError.TheVariants as input

-- equal errors are of one cause
pub same_cause : {X E : Type 0} {a b : E} → ◌≡◌ {A = Result X E} (Err a) (Err b) → a ≡ b
same_cause is = cc

pub same_value : {A : Type 0} {a b : A} → Some a ≡ Some b → a ≡ b
same_value is = cc

-- a value is no error, and none is no value
pub ok_not_err : {X E P : Type 0} {x : X} {e : E} → ◌≡◌ {A = Result X E} (Ok x) (Err e) → P
ok_not_err is = absurd cc

pub none_not_some : {A P : Type 0} {a : A} → None ≡ Some a → P
none_not_some is = absurd cc

pub some_not_none : {A P : Type 0} {a : A} → Some a ≡ None → P
some_not_none is = absurd cc

-- why files were not read, but for a fault of the folder
abbrev IsOther : InputError → Type 0
IsOther input.Memory = Unit {0}
IsOther input.Failed = ⊥
IsOther (input.Refused file line cause) = Unit {0}
IsOther (input.Limit fault) = Unit {0}

pub not_failed : {X P : Type 0} (why : InputError) → IsOther why → ◌≡◌ {A = Result X InputError} (Err why) (Err input.Failed) → P
not_failed input.Memory other is = absurd cc
not_failed input.Failed other is = absurd other
not_failed (input.Refused file line cause) other is = absurd cc
not_failed (input.Limit fault) other is = absurd cc
