-- Readers that are exact, one behind another: what they take off the front is the text of what they read.
use Rattle.std.proofs.Common.{◌≡◌, ℕ, List, [], ◌++◌, ap, sym, ◌∙◌, refl, subst, append_assoc, Result, Ok, Err}
use Rattle.cj_kvn.specs.Faults.{◌>>=◌ as and_then}
use Rattle.cj_cdm.specs.Reading.{Fault, Reading, Rest, give, ◌>>=◌}

abbrev pub Anything : {A : Type 0} → A → Type 0
Anything x = Unit {0}

-- what is read, among what is the same as something, is written so, and each that fits is read again
pub record IsExact {A : Type 0} (p : Reading A) (write : A → List ℕ) (IsSame Fit : A → Type 0) : Type 0 where
  pub only : (r s : Rest) (x : A) → p r ≡ Ok (x, s) → (r.text ≡ write x ++ s.text) × IsSame x × Fit x
  pub again : (x : A) (behind : List ℕ) (line : ℕ) → IsSame x → Fit x
      → (k : ℕ) × (p (record { text = write x ++ behind; line = line }) ≡ Ok (x, record { text = behind; line = k }))

abbrev ok_value : {A : Type 0} (d : A) → Result A Fault → A
ok_value d (Ok x) = x
ok_value d (Err e) = d

pub ok_is : {A : Type 0} (x y : A) (q : Result A Fault) → q ≡ Ok x → q ≡ Ok y → x ≡ y
ok_is x y q g h = sym (ap (ok_value x) g) ∙ ap (ok_value x) h

-- both steps were taken
pub stepped : {A B : Type 0} (q : Result A Fault) (f : A → Result B Fault) (y : B) → and_then q f ≡ Ok y → (x : A) × (q ≡ Ok x) × (f x ≡ Ok y)
stepped (Ok x) f y h = (x, refl, h)
stepped (Err e) f y h = absurd cc

pub in_order : {A Z : Type 0} (p : Reading A) (f : A → Reading Z) (write : A → List ℕ) (tail : Z → List ℕ) (part : Z → A) (Fit : A → Type 0) (IsSame TailFit : Z → Type 0)
    → IsExact p write Anything Fit → ((x : A) → Fit x → IsExact (f x) tail (λ z. (part z ≡ x) × IsSame z) TailFit)
    → IsExact (p >>= f) (λ z. write (part z) ++ tail z) IsSame (λ z. Fit (part z) × TailFit z)
in_order {A} {Z} p f write tail part Fit IsSame TailFit first rest = record {
  only = λ r s z h.
      let found = stepped (p r) (λ x. f x.0 x.1) (z, s) h in
      let x = found.0.0 in
      let mid = found.0.1 in
      let one = first.only r mid x found.1 in
      let two = (rest x one.2).only mid s z found.2 in
      let same : part z ≡ x = two.1.0 in (
        one.0 ∙ ap (λ (t : List ℕ). write x ++ t) two.0 ∙ ap (λ (y : A). write y ++ (tail z ++ s.text)) (sym same) ∙ sym (append_assoc (write (part z)) (tail z) s.text),
        two.1.1,
        (subst Fit (sym same) one.2, two.2),
      );
  again = λ z behind line same fit.
      let x = part z in
      let one = first.again x (tail z ++ behind) line tt fit.0 in
      let two = (rest x fit.0).again z behind one.0 (refl, same) fit.1 in (
        two.0,
        ap (λ (t : List ℕ). (p >>= f) (record { text = t; line = line })) (append_assoc (write x) (tail z) behind)
            ∙ ap (λ (q : Result (A × Rest) Fault). and_then q (λ y. f y.0 y.1)) one.1
            ∙ two.1,
      );
}

-- the same where the first tells nothing
pub behind : {Z : Type 0} (p : Reading (Unit {0})) (f : Unit {0} → Reading Z) (text : List ℕ) (tail : Z → List ℕ) (IsSame TailFit : Z → Type 0)
    → IsExact p (λ _. text) Anything Anything → ((x : Unit {0}) → IsExact (f x) tail IsSame TailFit)
    → IsExact (p >>= f) (λ z. text ++ tail z) IsSame TailFit
behind {Z} p f text tail IsSame TailFit first rest = record {
  only = λ r s z h.
      let found = stepped (p r) (λ x. f x.0 x.1) (z, s) h in
      let one = first.only r found.0.1 found.0.0 found.1 in
      let two = (rest found.0.0).only found.0.1 s z found.2 in (
        one.0 ∙ ap (λ (t : List ℕ). text ++ t) two.0 ∙ sym (append_assoc text (tail z) s.text),
        two.1,
        two.2,
      );
  again = λ z more line same fit.
      let one = first.again tt (tail z ++ more) line tt tt in
      let two = (rest tt).again z more one.0 same fit in (
        two.0,
        ap (λ (t : List ℕ). (p >>= f) (record { text = t; line = line })) (append_assoc text (tail z) more)
            ∙ ap (λ (q : Result (Unit {0} × Rest) Fault). and_then q (λ y. f y.0 y.1)) one.1
            ∙ two.1,
      );
}

-- nothing more is read
pub given : {A : Type 0} (x : A) (IsSame : A → Type 0) → IsSame x → ((y : A) → IsSame y → x ≡ y) → IsExact (give x) (λ _. []) IsSame Anything
given {A} x IsSame here lone = record {
  only = λ r s y h.
      let both : (x, r) ≡ (y, s) = ok_is (x, r) (y, s) (give x r) refl h in
      let same : x ≡ y = ap (λ (p : A × Rest). p.0) both in (
        ap (λ (p : A × Rest). p.1.text) both,
        subst IsSame same here,
        tt,
      );
  again = λ y behind line same fit. (line, ap (λ (z : A). Ok (z, record { text = behind; line = line })) (lone y same));
}

-- the same by another text
pub retold : {A : Type 0} (p : Reading A) (write other : A → List ℕ) (IsSame Fit : A → Type 0) → ((x : A) → IsSame x → write x ≡ other x) → IsExact p write IsSame Fit → IsExact p other IsSame Fit
retold {A} p write other IsSame Fit e exact = record {
  only = λ r s x h. let was = exact.only r s x h in (was.0 ∙ ap (λ (t : List ℕ). t ++ s.text) (e x was.1), was.1, was.2);
  again = λ x behind line same fit.
      let was = exact.again x behind line same fit in
      (was.0, ap (λ (t : List ℕ). p (record { text = t ++ behind; line = line })) (sym (e x same)) ∙ was.1);
}

-- the same where it is told otherwise what fits
pub refitted : {A : Type 0} (p : Reading A) (write : A → List ℕ) (IsSame Fit Other : A → Type 0) → ((x : A) → Fit x → Other x) → ((x : A) → Other x → Fit x)
    → IsExact p write IsSame Fit → IsExact p write IsSame Other
refitted p write IsSame Fit Other to from exact = record {
  only = λ r s x h. let was = exact.only r s x h in (was.0, was.1, to x was.2);
  again = λ x behind line same fit. exact.again x behind line same (from x fit);
}
