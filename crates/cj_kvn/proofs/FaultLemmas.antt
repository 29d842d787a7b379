-- Faults of texts, each at its line.
use Rattle.std.proofs.Common.{◌≡◌, Result, Ok, Err, ap, refl}
use Rattle.cj_kvn.specs.Faults.{Gives, IsToldAs, lines_or, ◌>>=◌}
use Rattle.cj_kvn.specs.declared.text_fault.LineFault.{LineFault}
use Rattle.cj_kvn.specs.declared.text_fault.TextFault.{TextFault}
use Rattle.cj_kvn.specs.declared.text_fault.TextFault.TheVariants.{Memory, At}

-- what goes on to something is something first
pub bind_ok : {A B E : Type 0} (r : Result A E) (f : A → Result B E) (y : B) → r >>= f ≡ Ok y → (x : A) × (r ≡ Ok x) × (f x ≡ Ok y)
bind_ok (Ok x) f y e = (x, refl, e)
bind_ok (Err fault) f y e = absurd cc

-- lines without a fault say the same in the words of another format
pub lines_ok : {A C D : Type 0} (wrap : D → C) (r : Result A (LineFault D)) (lines : A) → lines_or wrap r ≡ Ok lines → r ≡ Ok lines
lines_ok wrap (Ok ls) lines e = let same : ls ≡ lines = cc in ap (λ (all : _). Ok all) same
lines_ok wrap (Err fault) lines e = absurd cc

-- a fault of lines, in the words of another format
pub told_gives : {X Y C D : Type 0} (view : X → Y) (wrap : D → C) (said : Result Y (LineFault C)) (fault : LineFault D) (e : TextFault C)
    → IsToldAs (λ x y. y ≡ wrap x) fault e → said ≡ Err (record { line = fault.line; cause = wrap fault.cause }) → Gives view (Err e) said
told_gives view wrap said fault Memory told h = absurd told
told_gives view wrap said fault (At line cause) told h = rw (told.0, told.1) h
