-- The lines read so far, and those that are left.
use Rattle.std.proofs.Common.{◌≡◌, ℕ, List, [], ◌∷◌, ◌++◌, ap, refl, Result, Ok, Err}
use Rattle.std.proofs.lemmas.List.{append_assoc, append-nil}
use Rattle.cj_kvn.specs.Faults.{Gives, IsToldAs, ◌>>=◌}
use Rattle.cj_kvn.specs.Lines.{Form, Numbered, line_form, lines_said}
use Rattle.cj_kvn.specs.declared.lines.KvnCause.{KvnCause}
use Rattle.cj_kvn.specs.declared.text_fault.LineFault.{LineFault}
use Rattle.cj_kvn.specs.declared.text_fault.TextFault.{TextFault}
use Rattle.cj_kvn.proofs.FaultLemmas.{told_gives}

abbrev Said : Type 0
Said = Result (List Numbered) (LineFault KvnCause)

-- these lines, and then those that are read
abbrev pub with_front : List Numbered → Said → Said
with_front front said = said >>= λ others. Ok (front ++ others)

abbrev pub numbered : ℕ → Form → Numbered
numbered n form = record { number = n; form = form }

-- one more line
pub front_step : (front : List Numbered) (line : Numbered) (said : Said) → with_front (front ++ line ∷ []) said ≡ with_front front (said >>= λ others. Ok (line ∷ others))
front_step front line (Ok others) = ap (λ (xs : List Numbered). Ok xs) (append_assoc front (line ∷ []) others)
front_step front line (Err e) = refl

-- a line with a fault
pub line_fails : (front : List Numbered) (n : ℕ) (line : List ℕ) (rest : List (List ℕ)) (e : LineFault KvnCause) → line_form n line ≡ Err e
    → with_front front (lines_said n (line ∷ rest)) ≡ Err e
line_fails front n line rest e h = rw h refl

-- no line is left
pub all_read : (front : List Numbered) → with_front front (Ok []) ≡ Ok front
all_read front = ap (λ (xs : List Numbered). Ok xs) (append-nil front)

-- a fault of lines, in the words of the same format
pub gives_fault : {X Y C : Type 0} (view : X → Y) (said : Result Y (LineFault C)) (fault : LineFault C) (e : TextFault C) → said ≡ Err fault
    → IsToldAs (λ x y. y ≡ x) fault e → Gives view (Err e) said
gives_fault view said fault e h told = told_gives view (λ x. x) said fault e told h
