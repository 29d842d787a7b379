-- How the readers of lines answer, in the words of the definitions.
use Rattle.std.proofs.Common.{◌≡◌, ℕ, ◌+◌, ◌<◌, ◌≤◌, Bool, true, false, List, [], ◌∷◌, ◌++◌, drop, get_or, length, ap, sym, ◌∙◌, refl, arith, append_assoc, append-nil, Option, Some, None, option_map, Result, Ok, Err}
use Rattle.std.proofs.lemmas.Bool.{eqb-true}
use Rattle.std.proofs.lemmas.List.{drop_more, length-drop, nil_from_length}
use Rattle.std.specs.Prelude.{◌==◌, if◌then◌else◌}
use Rattle.cj_base.specs.Numbers.{Number}
pub use Rattle.cj_kvn.proofs.DecimalLemmas.{written_more as values_more}
use Rattle.cj_cdm.specs.Fits.{Fits}
use Rattle.cj_cdm.specs.Messages.{PlainMessage}
use Rattle.cj_cdm.specs.declared.fault.CdmCause.TheVariants as causes
use Rattle.cj_cdm.specs.declared.reading.rest.Rest.{Rest as Left}
use Rattle.cj_cdm.specs.Read.{told}
use Rattle.cj_kvn.specs.Faults.{◌>>=◌ as and_then}
use Rattle.cj_cdm.specs.Reading.{Fault, Reading, Rest, behind_line, elements_said, ended, entry_said, fault_at, give, is_none_left, line_said, reading, taken, value_in, ◌>>=◌}
use Rattle.cj_cdm.specs.Texts.{elements, text_of}
use Rattle.cj_cdm.specs.Values.{element_said}
use Rattle.cj_cdm.proofs.GrammarLemmas.{reading_again}

abbrev mapped : {X A : Type 0} → (X → A) → Result (X × Rest) Fault → Result (A × Rest) Fault
mapped view (Ok x) = Ok (view x.0, x.1)
mapped view (Err e) = Err e

taken_mapped : {X A : Type 0} (view : X → A) (rest : Rest) (o : Option X) → taken rest (option_map view o) ≡ mapped view (taken rest o)
unfolding taken
taken_mapped view rest None = refl
taken_mapped {X} {A} view rest (Some x) = by_end (behind_line rest)
  where
    by_end : (q : Result Rest Fault) → and_then q (λ r. Ok (view x, r)) ≡ mapped view (and_then q (λ r. Ok (x, r)))
    by_end (Ok r) = refl
    by_end (Err e) = refl

told_mapped : {X A : Type 0} (view : X → A) (r : Result X Fault) (left : Left) → told view r left ≡ mapped view (told (λ x. x) r left)
told_mapped view (Ok x) left = refl
told_mapped view (Err e) left = refl

-- a line whose value is found, or not
pub line_told : {X A : Type 0} (view : X → A) (front : List ℕ) (said : List ℕ → Option A) (rest : Rest) (value : List ℕ) (o : Option X) (r : Result X Fault) (left : Left)
    → Ok value ≡ value_in front rest → option_map view o ≡ said value → told (λ x. x) r left ≡ taken rest o → told view r left ≡ line_said front said rest
unfolding line_said
line_told view front said rest value o r left there found end =
    told_mapped view r left ∙ ap (mapped view) end ∙ sym (taken_mapped view rest o) ∙ ap (taken rest) found ∙ ap (λ q. and_then q (λ v. taken rest (said v))) there

option_mapped : {X : Type 0} (o : Option X) → option_map (λ x. x) o ≡ o
option_mapped None = refl
option_mapped (Some x) = refl

-- the same where it is told as it is found
pub line_same : {X : Type 0} (front : List ℕ) (said : List ℕ → Option X) (rest : Rest) (value : List ℕ) (o : Option X) (r : Result X Fault) (left : Left)
    → Ok value ≡ value_in front rest → o ≡ said value → told (λ x. x) r left ≡ taken rest o → told (λ x. x) r left ≡ line_said front said rest
line_same front said rest value o r left there found end = line_told (λ x. x) front said rest value o r left there (option_mapped o ∙ found) end

-- a line with another front, or none
pub line_failed : {A : Type 0} (front : List ℕ) (said : List ℕ → Option A) (rest : Rest) (e : Fault) → Err e ≡ value_in front rest → Err e ≡ line_said front said rest
unfolding line_said
line_failed front said rest e failed = ap (λ q. and_then q (λ v. taken rest (said v))) failed

-- ---- elements, one behind another
abbrev pub prepended : List Number → Result (List Number × Rest) Fault → Result (List Number × Rest) Fault
prepended front (Ok x) = Ok (front ++ x.0, x.1)
prepended front (Err e) = Err e

-- no elements are before the first
pub prepended_none : (q : Result (List Number × Rest) Fault) → prepended [] q ≡ q
prepended_none (Ok x) = refl
prepended_none (Err e) = refl

prepended_more : (front : List Number) (v : Number) (q : Result (List Number × Rest) Fault) → prepended front (and_then q (λ y. give (v ∷ y.0) y.1)) ≡ prepended (front ++ v ∷ []) q
prepended_more front v (Ok x) = ap (λ (t : List Number). Ok (t, x.1)) (sym (append_assoc front (v ∷ []) x.0))
prepended_more front v (Err e) = refl

abbrev read_first : List ℕ × List ℕ → List (List ℕ × List ℕ) → Reading (List Number)
read_first e es = entry_said e.0 (element_said e.1) >>= λ value. elements_said es >>= λ values. give (value ∷ values)

first_said : (e : List ℕ × List ℕ) (es : List (List ℕ × List ℕ)) (r : Rest) → elements_said (e ∷ es) r ≡ read_first e es r
unfolding elements_said
first_said e es r = refl

here : (i : ℕ) (e : List ℕ × List ℕ) (r : Rest) → i < 21 → e ≡ get_or elements i e → elements_said (drop i elements) r ≡ read_first e (drop (i + 1) elements) r
here i e r short is =
    ap (λ (es : List (List ℕ × List ℕ)). elements_said es r) (drop_more elements i e short ∙ ap (λ x. x ∷ drop (i + 1) elements) (sym is))
    ∙ first_said e (drop (i + 1) elements) r

-- one more is read
pub element_read : (i : ℕ) (front : List Number) (e : List ℕ × List ℕ) (v : Number) (r s : Rest) (whole : Result (List Number × Rest) Fault) → i < 21 → e ≡ get_or elements i e
    → Ok (v, s) ≡ entry_said e.0 (element_said e.1) r → whole ≡ prepended front (elements_said (drop i elements) r)
    → whole ≡ prepended (front ++ v ∷ []) (elements_said (drop (i + 1) elements) s)
element_read i front e v r s whole short is read before =
    before ∙ ap (prepended front) (here i e r short is)
    ∙ ap (λ q. prepended front (and_then q (λ y. (elements_said (drop (i + 1) elements) >>= λ values. give (y.0 ∷ values)) y.1))) (sym read)
    ∙ prepended_more front v (elements_said (drop (i + 1) elements) s)

-- or none
pub element_failed : (i : ℕ) (front : List Number) (e : List ℕ × List ℕ) (r : Rest) (fault : Fault) (whole : Result (List Number × Rest) Fault) → i < 21 → e ≡ get_or elements i e
    → Err fault ≡ entry_said e.0 (element_said e.1) r → whole ≡ prepended front (elements_said (drop i elements) r) → Err fault ≡ whole
element_failed i front e r fault whole short is failed before =
    sym (before ∙ ap (prepended front) (here i e r short is)
    ∙ ap (λ q. prepended front (and_then q (λ y. (elements_said (drop (i + 1) elements) >>= λ values. give (y.0 ∷ values)) y.1))) (sym failed))

-- all are read
pub elements_read : (front : List Number) (i : ℕ) (s : Rest) (whole : Result (List Number × Rest) Fault) → 21 ≤ i → whole ≡ prepended front (elements_said (drop i elements) s) → Ok (front, s) ≡ whole
unfolding elements_said
elements_read front i s whole all before =
    let none : drop i elements ≡ [] = nil_from_length (drop i elements) (omega (arith, length-drop i elements)) in
    sym (before ∙ ap (λ (es : List (List ℕ × List ℕ)). prepended front (elements_said es s)) none ∙ ap (λ (t : List Number). Ok (t, s)) (append-nil front))

-- ---- the end of a message
pub some_left : (text : List ℕ) → (length text == 0) ≡ false → is_none_left text ≡ false
some_left [] some = absurd cc
some_left (c ∷ text) some = refl

pub none_left : (text : List ℕ) → (length text == 0) ≡ true → is_none_left text ≡ true
none_left [] none = refl
none_left (c ∷ text) none = let zero_long : length (c ∷ text) ≡ 0 = eqb-true (length (c ∷ text)) 0 none in absurd (omega (arith, zero_long))

abbrev nothing : Unit {0}
nothing = tt

-- whatever was read before it
pub well_ended : {A : Type 0} (x : A) (r : Rest) → Ok nothing ≡ ended (nothing, r) → Ok x ≡ ended (x, r)
well_ended {A} x r h = by_left (is_none_left r.text) h
  where
    by_left : (b : Bool) → Ok nothing ≡ (if b then Ok nothing else fault_at r.line causes.End) → Ok x ≡ (if b then Ok x else fault_at r.line causes.End)
    by_left true h = refl
    by_left false h = absurd cc

pub ill_ended : {A : Type 0} (x : A) (r : Rest) (e : Fault) → Err e ≡ ended (nothing, r) → Err e ≡ ended (x, r)
ill_ended {A} x r e h = by_left (is_none_left r.text) h
  where
    by_left : (b : Bool) → Err e ≡ (if b then Ok nothing else fault_at r.line causes.End) → Err e ≡ (if b then Ok x else fault_at r.line causes.End)
    by_left true h = absurd cc
    by_left false h = let same : e ≡ record { line = r.line; cause = causes.End } = cc in ap (λ (f : Fault). Err f) same

-- a text that is read, as it was told
pub told_again : (text : List ℕ) (q : Result PlainMessage Fault) → q ≡ reading text → (m : PlainMessage) → Fits m → text ≡ text_of m → q ≡ Ok m
told_again text q is m fit same = is ∙ ap reading same ∙ reading_again m fit
