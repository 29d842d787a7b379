-- Why a text is not read: faults at their lines, generic in their cause.
use Rattle.std.specs.Prelude.{◌≡◌, ℕ, Result, Ok, Err}
use Rattle.cj_kvn.specs.declared.text_fault.LineFault.{LineFault}
use Rattle.cj_kvn.specs.declared.text_fault.Refused.{Refused}
use Rattle.cj_kvn.specs.declared.text_fault.Refused.TheVariants as refused
use Rattle.cj_kvn.specs.declared.text_fault.TextFault.{TextFault}
use Rattle.cj_kvn.specs.declared.text_fault.TextFault.TheVariants.{Memory, At}

-- on with what is said, or with its fault
infixl 10 ◌>>=◌
abbrev pub ◌>>=◌ : {A B E : Type 0} → Result A E → (A → Result B E) → Result B E
(Ok x) >>= f = f x
(Err e) >>= f = Err e

-- what a line says, or its fault
abbrev pub at_line : {A C : Type 0} → ℕ → Result A C → Result A (LineFault C)
at_line line (Ok x) = Ok x
at_line line (Err cause) = Err (record { line = line; cause = cause })

-- what lines say, or their fault in the words of another format
abbrev pub lines_or : {A C D : Type 0} → (D → C) → Result A (LineFault D) → Result A (LineFault C)
lines_or wrap (Ok lines) = Ok lines
lines_or wrap (Err fault) = Err (record { line = fault.line; cause = wrap fault.cause })

-- why a line is not followed, as a fault of the text
abbrev pub refused_at : {C : Type 0} → ℕ → Refused C → TextFault C
refused_at line refused.Memory = Memory
refused_at line (refused.Because cause) = At line cause

-- a fault of lines is told as this one of a text, its cause as `gives` says
abbrev pub IsToldAs : {C D : Type 0} → (D → C → Type 0) → LineFault D → TextFault C → Type 0
IsToldAs gives fault (At line cause) = (line ≡ fault.line) × gives fault.cause cause
IsToldAs gives fault Memory = ⊥

-- what is found, seen by `view`, is what is said
abbrev pub Tells : {X Y E : Type 0} → (X → Y) → Result X E → Result Y E → Type 0
Tells view (Ok x) said = said ≡ Ok (view x)
Tells view (Err e) said = said ≡ Err e

-- the same of a line, or memory ran out
abbrev pub Follows : {X Y C : Type 0} → (X → Y) → Result X (Refused C) → Result Y C → Type 0
Follows view (Ok x) said = said ≡ Ok (view x)
Follows view (Err (refused.Because cause)) said = said ≡ Err cause
Follows view (Err refused.Memory) said = Unit {0}

-- the same of a text, whose faults have a line, or memory ran out
abbrev pub Gives : {X Y C : Type 0} → (X → Y) → Result X (TextFault C) → Result Y (LineFault C) → Type 0
Gives view (Ok x) said = said ≡ Ok (view x)
Gives view (Err (At line cause)) said = said ≡ Err (record { line = line; cause = cause })
Gives view (Err Memory) said = Unit {0}
