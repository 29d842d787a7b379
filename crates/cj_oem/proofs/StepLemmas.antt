-- Steps one after another, and what is known where they succeed.
use Rattle.std.proofs.Common.{◌≡◌, ℕ, List, Bool, true, false, IfOk, ◌⊎◌, inl, inr, Result, Ok, Err, refl}
use Rattle.std.specs.Prelude.{if◌then◌else◌, not}
use Rattle.std.proofs.lemmas.Bool.{not-false}
use Rattle.std.specs.Cmp.Lexicographic.{bytes_decides}
use Rattle.cj_formats.specs.declared.oem_cause.OemCause.{OemCause}
use Rattle.cj_oem.specs.Words.{is_text}
use Rattle.cj_kvn.specs.Faults.{◌>>=◌}
use Rattle.cj_oem.specs.Metadata.{unless}

-- ---- what holds of what is found

pub if_ok_then : {A B : Type 0} (P : B → Type 0) (r : Result A OemCause) (f : A → Result B OemCause) → ((x : A) → IfOk (f x) P) → IfOk (r >>= f) P
if_ok_then P (Ok x) f h = h x
if_ok_then P (Err e) f h = tt

pub if_ok_cond : {A E : Type 0} (P : A → Type 0) (b : Bool) (r s : Result A E) → IfOk r P → IfOk s P → IfOk (if b then r else s) P
if_ok_cond P true r s h g = h
if_ok_cond P false r s h g = g

-- ---- the way that was gone

-- a step with what is made of its value, and then another
pub bind_into : {A B C : Type 0} (r : Result A OemCause) (c : A → B) (f : B → Result C OemCause) (y : C) → ((r >>= λ x. Ok (c x)) >>= f) ≡ Ok y
    → (x : A) × (r ≡ Ok x) × (f (c x) ≡ Ok y)
bind_into (Ok x) c f y e = (x, refl, e)
bind_into (Err cause) c f y e = absurd cc

pub ok_is : {A : Type 0} (x y : A) → ◌≡◌ {A = Result A OemCause} (Ok x) (Ok y) → x ≡ y
ok_is x y e = cc

pub chosen : {A : Type 0} (b : Bool) (x y z : A) → (if b then x else y) ≡ z → ((b ≡ true) × (x ≡ z)) ⊎ ((b ≡ false) × (y ≡ z))
chosen true x y z e = inl (refl, e)
chosen false x y z e = inr (refl, e)

-- the test held, else there is a cause
pub wanted : {A E : Type 0} (b : Bool) (r : Result A E) (c : E) (y : A) → (if b then r else Err c) ≡ Ok y → (b ≡ true) × (r ≡ Ok y)
wanted true r c y e = (refl, e)
wanted false r c y e = absurd cc

-- the test failed, else there is a cause
pub unwanted : {A E : Type 0} (b : Bool) (r : Result A E) (c : E) (y : A) → (if b then Err c else r) ≡ Ok y → (b ≡ false) × (r ≡ Ok y)
unwanted true r c y e = absurd cc
unwanted false r c y e = (refl, e)

pub unless_ok : (b : Bool) (c : OemCause) (u : Unit {0}) → unless b c ≡ Ok u → b ≡ false
unless_ok true c u e = absurd cc
unless_ok false c u e = refl

-- the test held, where the other is a cause
pub unless_not : (b : Bool) (c : OemCause) (u : Unit {0}) → unless (not b) c ≡ Ok u → b ≡ true
unless_not b c u e = not-false b (unless_ok (not b) c u e)

-- ---- texts

pub text_is : (word text : List ℕ) → is_text word text ≡ true → text ≡ word
text_is word text e = (bytes_decides text word).0 e

pub text_self : (word : List ℕ) → is_text word word ≡ true
text_self word = (bytes_decides word word).1 refl
