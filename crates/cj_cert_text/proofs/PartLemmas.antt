-- Texts that are made part by part, and lists that are printed batch by batch.
use Rattle.std.proofs.Common.{◌≡◌, ℕ, ◌+◌, ◌-◌, ◌<◌, ◌≤◌, List, [], ◌∷◌, ◌++◌, take, drop, length, sym, ap, ◌∙◌, arith, append_assoc, append-nil}
use Rattle.std.specs.Prelude.{flat_map, Result, Ok, Err, IfOk}
use Rattle.std.specs.Global.{Vec}
use Rattle.std.proofs.lemmas.List.{take-append-drop, drop-drop, length-drop, nil_from_length}
use Rattle.std.proofs.lemmas.Grind.{flat_map-append}
use Rattle.cj_io.specs.Parts.{joined}

-- ---- one part more is added

pub joined_more : (parts new : List (Vec ℕ)) (made : Vec ℕ) → new ≡ parts ++ made ∷ [] → joined new ≡ joined parts ++ made.items
joined_more parts new made is =
    ap joined is ∙ flat_map-append (λ part. part.items) parts (made ∷ []) ∙ ap (λ (t : List ℕ). joined parts ++ t) (append-nil made.items)

-- the text of some lines, and those of the lines behind them
pub part_printed : {L : Type 0} (text : L → List ℕ) (some others : List L) (made : Vec ℕ) (behind : List (Vec ℕ)) → made.items ≡ flat_map text some
    → joined behind ≡ flat_map text others → joined (made ∷ behind) ≡ flat_map text (some ++ others)
part_printed text some others made behind here rest =
    ap (λ (t : List ℕ). t ++ joined behind) here ∙ ap (λ (t : List ℕ). flat_map text some ++ t) rest ∙ sym (flat_map-append text some others)

-- ---- a list is printed batch by batch

-- what a batch adds to nothing, and the lines behind it, are the lines from its first on
pub batch_printed : {L : Type 0} (f : L → List ℕ) (lines : List L) (first end : ℕ) (none made : List ℕ) → first ≤ end → none ≡ []
    → made ≡ none ++ flat_map f (take (end - first) (drop first lines)) → flat_map f (drop first lines) ≡ made ++ flat_map f (drop end lines)
batch_printed f lines first end none made le is_none is =
    let rest = drop first lines in
    let n = end - first in
    let at : first + n ≡ end = omega (arith, le) in
    sym
    (ap (λ (t : List ℕ). t ++ flat_map f (drop end lines)) (is ∙ ap (λ (t : List ℕ). t ++ flat_map f (take n rest)) is_none)
    ∙ ap (λ (ls : List _). flat_map f (take n rest) ++ flat_map f ls) (ap (λ (k : ℕ). drop k lines) (sym at) ∙ sym (drop-drop n first lines))
    ∙ sym (flat_map-append f (take n rest) (drop n rest))
    ∙ ap (flat_map f) (take-append-drop n rest))

-- what is printed of a text is printed of it with the rest behind it
pub with_behind : {E : Type 0} (r : Result (Vec (Vec ℕ)) E) (old new rest : List ℕ)
    → IfOk r (λ parts. old ≡ joined parts.items ++ new) → IfOk r (λ parts. old ++ rest ≡ joined parts.items ++ (new ++ rest))
with_behind (Err e) old new rest taken = tt
with_behind (Ok parts) old new rest taken = ap (λ (t : List ℕ). t ++ rest) taken ∙ append_assoc (joined parts.items) new rest

-- and of it behind one of which nothing is left
pub behind_none : {E : Type 0} (r : Result (Vec (Vec ℕ)) E) (none old new : List ℕ) → none ≡ []
    → IfOk r (λ parts. old ≡ joined parts.items ++ new) → IfOk r (λ parts. none ++ old ≡ joined parts.items ++ (none ++ new))
behind_none (Err e) none old new is taken = tt
behind_none (Ok parts) none old new is taken =
    ap (λ (t : List ℕ). t ++ old) is ∙ taken ∙ ap (λ (t : List ℕ). joined parts.items ++ (t ++ new)) (sym is)

-- nothing is left of a text that is printed whole
pub printed_whole : {E : Type 0} (r : Result (Vec (Vec ℕ)) E) (old new : List ℕ)
    → IfOk r (λ parts. joined parts.items ≡ old) → new ≡ [] → IfOk r (λ parts. old ≡ joined parts.items ++ new)
printed_whole (Err e) old new made none = tt
printed_whole (Ok parts) old new made none = sym made ∙ sym (append-nil (joined parts.items)) ∙ ap (λ (t : List ℕ). joined parts.items ++ t) (sym none)

-- nothing is printed of lines that are made
pub all_made : {L : Type 0} (f : L → List ℕ) (lines : List L) (made : ℕ) → length lines ≤ made → flat_map f (drop made lines) ≡ []
all_made f lines made all = ap (flat_map f) (nil_from_length (drop made lines) (omega (arith, length-drop made lines)))

-- where some part is printed, it is not so that none is
pub never_none : {E : Type 0} (r : Result (Vec (Vec ℕ)) E) (P : Type 0) → IfOk r (λ parts. 0 < length parts.items) → IfOk r (λ parts. parts.items ≡ [] → P)
never_none (Err e) P some = tt
never_none (Ok parts) P some = λ none. absurd (omega (arith, some, ap length none))
