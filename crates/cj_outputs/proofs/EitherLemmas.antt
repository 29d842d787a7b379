-- A certificate of either kind that is read, and whose text is read again.
use Rattle.std.proofs.Common.{◌≡◌, ◌∙◌, ℕ, ◌&&◌, Bool, true, false, cond, List, [], ◌∷◌, ◌++◌, Result, Ok, Err, refl, ap, arith}
use Rattle.std.specs.Prelude.{pos, codes}
use Rattle.std.specs.Fmt.{decimal}
use Rattle.std.specs.List.{flat_map}
use Rattle.std.proofs.lemmas.Fmt.{decimal_digit}
use Rattle.cj_formats.specs.declared.cert_version.CertVersion.{CertVersion}
use Rattle.cj_formats.specs.declared.cert_version.CertVersion.TheVariants.{One, Two}
use Rattle.cj_formats.specs.Versions.{number_of_version}
use Rattle.cj_cert.specs.Certificates.{PlainCertificate}
use Rattle.cj_brief.specs.Certificates.{PlainBrief}
use Rattle.cj_kvn.specs.declared.text_fault.TextFault.{TextFault}
use Rattle.cj_kvn.specs.declared.text_fault.TextFault.TheVariants.{Memory, At}
use Rattle.cj_formats.specs.declared.cert_cause.CertCause.{CertCause}
use Rattle.cj_cert_text.specs.Readers.{Gives}
use Rattle.cj_cert_text.specs.Reading.{Fault, and_then, reading, reading_in_brief}
use Rattle.cj_cert_text.specs.Texts.{box_text, brief_text, cell_text, primary_text, row, shell_text, size_text, text_of}
use Rattle.cj_cert_text.proofs.ChainLemmas.{brief_again, reading_again}
use Rattle.cj_outputs.specs.Either.{PlainAnyCertificate, InFull, InBrief, FitsIn, MayRead, any_reading, begins_in_brief, text_in}

-- ---- how a text is read

not_both : {X : Type 0} (one other : Bool) (x y : X) → other ≡ false → cond (one && other) x y ≡ y
not_both true other x y is = ap (λ (b : Bool). cond b x y) is
not_both false other x y is = refl

both_so : {X : Type 0} (one other : Bool) (x y : X) → one ≡ true → other ≡ true → cond (one && other) x y ≡ x
both_so one other x y is also = λ i. cond (is i && also i) x y

-- in brief where that is asked and it begins so
pub read_in_brief : (brief : Bool) (bytes : List ℕ) → brief ≡ true → begins_in_brief bytes ≡ true → any_reading brief bytes ≡ and_then (reading_in_brief bytes) (λ d. Ok (InBrief d))
unfolding any_reading
read_in_brief brief bytes asked begins =
    both_so brief (begins_in_brief bytes) (and_then (reading_in_brief bytes) (λ d. Ok (InBrief d))) (and_then (reading bytes) (λ d. Ok (InFull d))) asked begins

-- else in full
pub read_in_full : (brief : Bool) (bytes : List ℕ) → begins_in_brief bytes ≡ false → any_reading brief bytes ≡ and_then (reading bytes) (λ d. Ok (InFull d))
unfolding any_reading
read_in_full brief bytes otherwise =
    not_both brief (begins_in_brief bytes) (and_then (reading_in_brief bytes) (λ d. Ok (InBrief d))) (and_then (reading bytes) (λ d. Ok (InFull d))) otherwise

pub read_unasked : (brief : Bool) (bytes : List ℕ) → brief ≡ false → any_reading brief bytes ≡ and_then (reading bytes) (λ d. Ok (InFull d))
unfolding any_reading
read_unasked brief bytes unasked =
    ap (λ (b : Bool). cond (b && begins_in_brief bytes) (and_then (reading_in_brief bytes) (λ d. Ok (InBrief d))) (and_then (reading bytes) (λ d. Ok (InFull d)))) unasked

-- a fault is that of either kind
pub same_fault : {X Y A B : Type 0} (view : X → Y) (wide : A → B) (f : Y → B) (fault : TextFault CertCause) (said : Result Y Fault) → Gives view (Err fault) said
    → Gives wide (Err fault) (and_then said (λ y. Ok (f y)))
same_fault view wide f Memory said gives = tt
same_fault {Y = Y} {B = B} view wide f (At line cause) said gives = ap (λ (r : Result Y Fault). and_then r (λ y. Ok (f y))) gives

-- ---- its text is read again

begins_so : (c : PlainBrief) → begins_in_brief (brief_text c) ≡ true
unfolding brief_text row
begins_so c = ap begins (decimal_digit 3 (omega arith))
  where
    begins : List ℕ → Bool
    begins digits = begins_in_brief (
        ((codes "CONJ-CERT" ++ 32 ∷ digits) ++ 10 ∷ []) ++ row (codes "WINDOW") (pos c.first ∷ pos c.last ∷ []) ++ row (codes "THRESHOLD") (pos c.threshold ∷ []) ++ row
        (codes "OBJECTS") (pos c.objects ∷ [])
        ++ flat_map size_text c.sizes ++ flat_map primary_text c.primaries ++ flat_map shell_text c.shells ++ flat_map cell_text c.cells ++ row (codes "END") []
        )

begins_otherwise : (c : PlainCertificate) → begins_in_brief (text_of c) ≡ false
unfolding text_of row
begins_otherwise c = by c.version
  where
    begins : List ℕ → Bool
    begins digits = begins_in_brief (
        ((codes "CONJ-CERT" ++ 32 ∷ digits) ++ 10 ∷ []) ++ row (codes "WINDOW") (pos c.first ∷ pos c.last ∷ []) ++ row (codes "THRESHOLD") (pos c.threshold ∷ []) ++ row
        (codes "OBJECTS") (pos c.objects ∷ [])
        ++ flat_map size_text c.sizes ++ flat_map shell_text c.shells ++ flat_map (box_text c.version) c.boxes ++ flat_map cell_text c.cells ++ row (codes "END") []
        )

    by : (v : CertVersion) → begins (decimal (number_of_version v)) ≡ false
    by One = ap begins (decimal_digit 1 (omega arith))
    by Two = ap begins (decimal_digit 2 (omega arith))

pub any_again : (brief : Bool) (c : PlainAnyCertificate) → MayRead brief c → FitsIn c → any_reading brief (text_in c) ≡ Ok c
any_again brief (InFull c) may fits =
    read_in_full brief (text_of c) (begins_otherwise c)
    ∙ ap (λ (r : Result PlainCertificate Fault). and_then r (λ d. Ok (InFull d))) (reading_again c fits)
any_again brief (InBrief c) may fits =
    read_in_brief brief (brief_text c) may (begins_so c)
    ∙ ap (λ (r : Result PlainBrief Fault). and_then r (λ d. Ok (InBrief d))) (brief_again c fits)
