-- How a part of a run that puts nothing ends.
use Rattle.std.specs.Prelude.{◌≡◌, Result, Ok, Err}
use Rattle.cj_status.specs.declared.status.Status.{Status}
use Rattle.cj_status.specs.declared.status.Status.TheVariants as status

-- one step of a run after another, up to the first that ends it
infixl 10 ◌>>=◌
abbrev pub ◌>>=◌ : {A B : Type 0} → Result A Status → (A → Result B Status) → Result B Status
(Ok x) >>= f = f x
(Err e) >>= f = Err e

-- why it gave up: for want of memory, for a fault of the folder, or for the cause that is due
abbrev pub Stops : {A : Type 0} → Type 0 → Status → Result A Status → Type 0
Stops read status.Ok due = ⊥
Stops read (status.NotAccepted line cause) due = due ≡ Err (status.NotAccepted line cause)
Stops read (status.Usage fault) due = due ≡ Err (status.Usage fault)
Stops read (status.BadFile file line cause) due = due ≡ Err (status.BadFile file line cause)
Stops read status.ReadFault due = read
Stops read status.WriteFault due = ⊥
Stops read (status.Limit fault) due = due ≡ Err (status.Limit fault)
Stops read status.OutOfMemory due = Unit {0}

-- what it gives, seen by `view`, is what is due
abbrev pub Gives : {X A : Type 0} → Type 0 → (X → A) → Result X Status → Result A Status → Type 0
Gives read view (Ok x) due = due ≡ Ok (view x)
Gives read view (Err s) due = Stops read s due

-- what may end a run between its words and its writes
abbrev pub ComesBetween : Status → Type 0
ComesBetween status.Ok = ⊥
ComesBetween (status.NotAccepted line cause) = Unit {0}
ComesBetween (status.Usage fault) = ⊥
ComesBetween (status.BadFile file line cause) = Unit {0}
ComesBetween status.ReadFault = Unit {0}
ComesBetween status.WriteFault = ⊥
ComesBetween (status.Limit fault) = Unit {0}
ComesBetween status.OutOfMemory = Unit {0}

-- what may end a run before its writes
abbrev pub ComesBefore : Status → Type 0
ComesBefore status.Ok = ⊥
ComesBefore (status.NotAccepted line cause) = Unit {0}
ComesBefore (status.Usage fault) = Unit {0}
ComesBefore (status.BadFile file line cause) = Unit {0}
ComesBefore status.ReadFault = Unit {0}
ComesBefore status.WriteFault = ⊥
ComesBefore (status.Limit fault) = Unit {0}
ComesBefore status.OutOfMemory = Unit {0}

-- a limit is exceeded
abbrev pub IsLimit : Status → Type 0
IsLimit status.Ok = ⊥
IsLimit (status.NotAccepted line cause) = ⊥
IsLimit (status.Usage fault) = ⊥
IsLimit (status.BadFile file line cause) = ⊥
IsLimit status.ReadFault = ⊥
IsLimit status.WriteFault = ⊥
IsLimit (status.Limit fault) = Unit {0}
IsLimit status.OutOfMemory = ⊥
