-- Values of lines are read from what is written of them, and from nothing else.
use Rattle.std.proofs.Common.{◌≡◌, ℕ, ◌+◌, ◌-◌, ◌/◌, ◌%◌, Bool, true, false, List, [], ◌∷◌, ◌++◌, length, take, drop, slice_index, ap, sym, ◌∙◌, refl, subst, arith, append_assoc, Option, Some, None, Result, Ok, Err}
use Rattle.std.specs.Prelude.{◌||◌, ◌==◌, nat_le, if◌then◌else◌, option_and_then, codes}
use Rattle.std.specs.Char.{is_ascii_digit, is_ascii_uppercase}
use Rattle.std.specs.Cmp.Lexicographic.{same_text}
use Rattle.std.specs.List.{list_all, list_any}
use Rattle.std.specs.Result.{result_ok}
use Rattle.std.proofs.Math.Seq.{take-append_seam, drop-append_seam}
use Rattle.std.proofs.lemmas.Bool.{and_parts}
use Rattle.std.proofs.lemmas.Bool.Decides.{nat_tests}
use Rattle.std.proofs.lemmas.List.{length-append, take-append-drop}
use Rattle.std.proofs.lemmas.List.Folds.{list_any-append}
use Rattle.cj_epoch.specs.Reading.{reading_of}
use Rattle.cj_base.specs.Ticks.{FIRST_TICK, IsTick, LAST_TICK, DAY, HOUR, MINUTE, SECOND}
use Rattle.cj_base.specs.Calendar.{Civil, civil_of}
use Rattle.cj_epoch.specs.Written.{clock_text, date_text, epoch_of, four, six, two}
use Rattle.cj_epoch.proofs.WrittenLemmas.{epoch_of-read}
use Rattle.cj_kvn.specs.Originators.{is_originator, is_originator_byte}
use Rattle.cj_track.specs.Labels.{is_label, is_visible}
use Rattle.cj_track.proofs.LabelLemmas.{visible_apart}
use Rattle.cj_track.specs.declared.frame.Frame.{Frame}
use Rattle.cj_track.specs.declared.frame.Frame.TheVariants as frames
use Rattle.cj_cdm.specs.Designators.{is_designator}
use Rattle.cj_base.specs.Bytes.{is_feed}
use Rattle.cj_track.specs.Frames.{frame_text}
use Rattle.cj_cdm.specs.Values.{as_written, before_ending, before_unit, constant_said, designator_said, epoch_said, frame_said, is_international, is_tick, kept, label_said, only_if, originator_said, same}
use Rattle.cj_cdm.proofs.ExactLemmas.{Anything}
use Rattle.cj_cdm.proofs.LineLemmas.{IsSaid, and_then_is, only_if_is, option_same, same_itself}

-- ---- no byte of a kind is within a text
pub none_among : (p q : ℕ → Bool) → ((b : ℕ) → q b ≡ true → p b ≡ false) → (text : List ℕ) → list_all q text ≡ true → list_any p text ≡ false
none_among p q apart [] all = refl
none_among p q apart (c ∷ text) all =
    let parts = and_parts (q c) (list_all q text) all in
    rw (apart c parts.0, none_among p q apart text parts.1) refl

pub none_joined : (p : ℕ → Bool) (a b : List ℕ) → list_any p a ≡ false → list_any p b ≡ false → list_any p (a ++ b) ≡ false
none_joined p a b first second = list_any-append p a b ∙ rw (first, second) refl

-- no line ends within it
pub feed_free : (q : ℕ → Bool) → ((b : ℕ) → q b ≡ true → is_feed b ≡ false) → (text : List ℕ) → list_all q text ≡ true → list_any is_feed text ≡ false
feed_free q apart text all = none_among is_feed q apart text all

pub free_joined : (a b : List ℕ) → list_any is_feed a ≡ false → list_any is_feed b ≡ false → list_any is_feed (a ++ b) ≡ false
free_joined a b first second = none_joined is_feed a b first second

pub digit_apart : (b : ℕ) → is_ascii_digit b ≡ true → is_feed b ≡ false
digit_apart b digit = grind (arith, nat_tests)

upper_apart : (b : ℕ) → is_ascii_uppercase b ≡ true → is_feed b ≡ false
upper_apart b upper = grind (arith, nat_tests)

originator_apart : (b : ℕ) → is_originator_byte b ≡ true → is_feed b ≡ false
originator_apart b is = grind (arith, nat_tests)

-- ---- what is there
pub kept_is : {A : Type 0} (test : A → Bool) (o : Option A) (x : A) → kept test o ≡ Some x → (o ≡ Some x) × (test x ≡ true)
kept_is test None x h = absurd cc
kept_is test (Some y) x h =
    let parts = only_if_is (test y) y x h in
    (ap (λ z. Some z) parts.1, subst (λ z. test z ≡ true) parts.1 parts.0)

pub kept_found : {A : Type 0} (test : A → Bool) (o : Option A) (x : A) → o ≡ Some x → test x ≡ true → kept test o ≡ Some x
kept_found test o x e h = rw (e, h) refl

pub result_is : {A E : Type 0} (r : Result A E) (x : A) → result_ok r ≡ Some x → r ≡ Ok x
result_is (Ok y) x h = cc
result_is (Err e) x h = absurd cc

pub written_only : {A : Type 0} (write : A → List ℕ) (text : List ℕ) (o : Option A) (x : A) → as_written write text o ≡ Some x → (text ≡ write x) × (o ≡ Some x)
written_only write text o x h =
    let parts = kept_is (λ y. same text (write y)) o x h in
    (same_text text (write x) (sym parts.1), parts.0)

pub written_again : {A : Type 0} (write : A → List ℕ) (o : Option A) (x : A) → o ≡ Some x → as_written write (write x) o ≡ Some x
written_again write o x e = kept_found (λ y. same (write x) (write y)) o x e (same_itself (write x))

-- and where one does not hold
pub kept_left : {A : Type 0} (test : A → Bool) (o : Option A) (x : A) → o ≡ Some x → test x ≡ false → kept test o ≡ None
kept_left test o x e h = rw (e, h) refl

pub as_written_found : {A : Type 0} (write : A → List ℕ) (text : List ℕ) (o : Option A) (x : A) → o ≡ Some x → same text (write x) ≡ true → as_written write text o ≡ Some x
as_written_found write text o x e h = kept_found (λ y. same text (write y)) o x e h

pub as_written_left : {A : Type 0} (write : A → List ℕ) (text : List ℕ) (o : Option A) (x : A) → o ≡ Some x → same text (write x) ≡ false → as_written write text o ≡ None
as_written_left write text o x e h = kept_left (λ y. same text (write y)) o x e h

-- ---- each kind of value
pub constant_law : (text : List ℕ) → list_any is_feed text ≡ false → IsSaid (constant_said text) (λ _. text) Anything
constant_law text free = record {
  only = λ t x h. (same_text t text (sym (only_if_is (same t text) tt x h).0), tt);
  again = λ x fit. rw (same_itself text) refl;
  lone = λ x fit. free;
}

-- a text that is taken as it is, where it passes a test
kept_law : (said : List ℕ → Option (List ℕ)) (test : List ℕ → Bool) → ((t : List ℕ) → said t ≡ only_if (test t) t) → ((t : List ℕ) → test t ≡ true → list_any is_feed t ≡ false)
    → IsSaid said (λ t. t) (λ t. test t ≡ true)
kept_law said test is free = record {
  only = λ t x h.
      let parts = only_if_is (test t) t x (sym (is t) ∙ h) in
      (parts.1, subst (λ z. test z ≡ true) parts.1 parts.0);
  again = λ x fit. is x ∙ rw fit refl;
  lone = λ x fit. free x fit;
}

label_free : (t : List ℕ) → is_label t ≡ true → list_any is_feed t ≡ false
unfolding is_label
label_free t is =
    let some = (and_parts _ _ (and_parts _ _ (and_parts _ _ is).0).0).1 in
    feed_free is_visible visible_apart t some

pub label_law : IsSaid label_said (λ t. t) (λ t. is_label t ≡ true)
label_law = kept_law label_said is_label (λ t. refl) label_free

originator_free : (t : List ℕ) → is_originator t ≡ true → list_any is_feed t ≡ false
unfolding is_originator
originator_free t is = feed_free is_originator_byte originator_apart t (and_parts _ _ is).1

pub originator_law : IsSaid originator_said (λ t. t) (λ t. is_originator t ≡ true)
originator_law = kept_law originator_said is_originator (λ t. refl) originator_free

-- an international designator by its bytes
abbrev HasForm : List ℕ → Type 0
HasForm t = nat_le 9 (length t) ≡ true → list_all is_ascii_digit (take 4 t) ≡ true → (slice_index t 4 == 45) ≡ true → list_all is_ascii_digit (take 3 (drop 5 t)) ≡ true
    → list_all is_ascii_uppercase (drop 8 t) ≡ true → list_any is_feed t ≡ false

dash_apart : (b : ℕ) → (b == 45) ≡ true → is_feed b ≡ false
dash_apart b is = grind (arith, nat_tests)

pub digits_free : (ds : List ℕ) → list_all is_ascii_digit ds ≡ true → list_any is_feed ds ≡ false
digits_free ds all = feed_free is_ascii_digit digit_apart ds all

designator_bytes : (t : List ℕ) → HasForm t
designator_bytes (a ∷ b ∷ c ∷ d ∷ e ∷ f ∷ g ∷ h ∷ i ∷ rest) long year dash number letters =
    free_joined (a ∷ b ∷ c ∷ d ∷ []) (e ∷ f ∷ g ∷ h ∷ i ∷ rest) (digits_free (a ∷ b ∷ c ∷ d ∷ []) year)
    (free_joined (e ∷ []) (f ∷ g ∷ h ∷ i ∷ rest) (rw (dash_apart e dash) refl)
    (free_joined (f ∷ g ∷ h ∷ []) (i ∷ rest) (digits_free (f ∷ g ∷ h ∷ []) number) (feed_free is_ascii_uppercase upper_apart (i ∷ rest) letters)))
designator_bytes (a ∷ b ∷ c ∷ d ∷ e ∷ f ∷ g ∷ h ∷ []) long year dash number letters = absurd cc
designator_bytes (a ∷ b ∷ c ∷ d ∷ e ∷ f ∷ g ∷ []) long year dash number letters = absurd cc
designator_bytes (a ∷ b ∷ c ∷ d ∷ e ∷ f ∷ []) long year dash number letters = absurd cc
designator_bytes (a ∷ b ∷ c ∷ d ∷ e ∷ []) long year dash number letters = absurd cc
designator_bytes (a ∷ b ∷ c ∷ d ∷ []) long year dash number letters = absurd cc
designator_bytes (a ∷ b ∷ c ∷ []) long year dash number letters = absurd cc
designator_bytes (a ∷ b ∷ []) long year dash number letters = absurd cc
designator_bytes (a ∷ []) long year dash number letters = absurd cc
designator_bytes [] long year dash number letters = absurd cc

designator_free : (t : List ℕ) → is_designator t ≡ true → list_any is_feed t ≡ false
unfolding is_designator
designator_free t is =
    let piece = and_parts _ _ is in
    let launch = and_parts _ _ piece.0 in
    let dash = and_parts _ _ launch.0 in
    let year = and_parts _ _ dash.0 in
    let letters = (and_parts _ _ piece.1).1 in
    designator_bytes t year.0 year.1 dash.1 launch.1 letters

international_by : (t : List ℕ) (b : Bool) → same t (codes "UNKNOWN") ≡ b → (b || is_designator t) ≡ true → list_any is_feed t ≡ false
international_by t true unknown is = subst (λ u. list_any is_feed u ≡ false) (sym (same_text t (codes "UNKNOWN") (sym unknown))) refl
international_by t false other is = designator_free t is

international_free : (t : List ℕ) → is_international t ≡ true → list_any is_feed t ≡ false
international_free t is = international_by t (same t (codes "UNKNOWN")) refl is

pub designator_law : IsSaid designator_said (λ t. t) (λ t. is_international t ≡ true)
designator_law = kept_law designator_said is_international (λ t. refl) international_free

frame_by : (t : List ℕ) (a b : Bool) (x : Frame) → same t (codes "EME2000") ≡ a → same t (codes "GCRF") ≡ b → (if a then Some frames.Eme2000 else if b then Some frames.Gcrf else None) ≡ Some x → t ≡ frame_text x
frame_by t true b frames.Eme2000 first second h = same_text t (codes "EME2000") (sym first)
frame_by t true b frames.Gcrf first second h = absurd cc
frame_by t false true frames.Eme2000 first second h = absurd cc
frame_by t false true frames.Gcrf first second h = same_text t (codes "GCRF") (sym second)
frame_by t false false x first second h = absurd cc

frame_again : (x : Frame) → frame_said (frame_text x) ≡ Some x
frame_again frames.Eme2000 = refl
frame_again frames.Gcrf = refl

frame_free : (x : Frame) → list_any is_feed (frame_text x) ≡ false
frame_free frames.Eme2000 = refl
frame_free frames.Gcrf = refl

pub frame_law : IsSaid frame_said frame_text Anything
frame_law = record {
  only = λ t x h. (frame_by t (same t (codes "EME2000")) (same t (codes "GCRF")) x refl refl h, tt);
  again = λ x fit. frame_again x;
  lone = λ x fit. frame_free x;
}

-- ---- epochs
figure_apart : (n : ℕ) → is_feed (48 + n) ≡ false
figure_apart n = grind (arith, nat_tests)

two_free : (n : ℕ) → list_any is_feed (two n) ≡ false
two_free n = rw (figure_apart (n / 10 % 10), figure_apart (n % 10)) refl

date_free : (c : Civil) → list_any is_feed (date_text c) ≡ false
date_free c =
    free_joined (((four c.year ++ codes "-") ++ two c.month) ++ codes "-") (two c.day)
    (free_joined ((four c.year ++ codes "-") ++ two c.month) (codes "-")
    (free_joined (four c.year ++ codes "-") (two c.month)
    (free_joined (four c.year) (codes "-") (free_joined (two (c.year / 100)) (two c.year) (two_free (c.year / 100)) (two_free c.year)) refl)
    (two_free c.month)) refl) (two_free c.day)

clock_free : (m : ℕ) → list_any is_feed (clock_text m) ≡ false
clock_free m =
    let hour = two (m / HOUR % 24) in
    let minute = two (m / MINUTE % 60) in
    let second = two (m / SECOND % 60) in
    free_joined (((hour ++ codes ":") ++ minute) ++ codes ":") second
    (free_joined ((hour ++ codes ":") ++ minute) (codes ":")
    (free_joined (hour ++ codes ":") minute (free_joined hour (codes ":") (two_free (m / HOUR % 24)) refl) (two_free (m / MINUTE % 60))) refl)
    (two_free (m / SECOND % 60))

six_free : (n : ℕ) → list_any is_feed (six n) ≡ false
six_free n =
    free_joined (two (n / 10_000) ++ two (n / 100)) (two n)
    (free_joined (two (n / 10_000)) (two (n / 100)) (two_free (n / 10_000)) (two_free (n / 100))) (two_free n)

epoch_free : (m : ℕ) → list_any is_feed (epoch_of m) ≡ false
unfolding epoch_of
epoch_free m =
    let date = date_text (civil_of (m / DAY)) in
    free_joined (((date ++ codes "T") ++ clock_text m) ++ codes ".") (six (m % SECOND))
    (free_joined ((date ++ codes "T") ++ clock_text m) (codes ".")
    (free_joined (date ++ codes "T") (clock_text m) (free_joined date (codes "T") (date_free (civil_of (m / DAY))) refl) (clock_free m)) refl)
    (six_free (m % SECOND))

tick_from : (m : ℕ) → is_tick m ≡ true → IsTick m
tick_from m is = let parts = and_parts (nat_le FIRST_TICK m) (nat_le m LAST_TICK) is in (grind (arith, nat_tests), grind (arith, nat_tests))

pub epoch_law : IsSaid epoch_said epoch_of (λ m. is_tick m ≡ true)
unfolding epoch_said
epoch_law = record {
  only = λ t m h.
      let written = written_only epoch_of t (kept is_tick (result_ok (reading_of t))) m h in
      (written.0, (kept_is is_tick (result_ok (reading_of t)) m written.1).1);
  again = λ m fit. written_again epoch_of (kept is_tick (result_ok (reading_of (epoch_of m)))) m
      (kept_found is_tick (result_ok (reading_of (epoch_of m))) m (ap result_ok (epoch_of-read m (tick_from m fit))) fit);
  lone = λ m fit. epoch_free m;
}

-- ---- units
ending_is : (ending text front : List ℕ) → before_ending ending text ≡ Some front → text ≡ front ++ ending
ending_is ending text front h =
    let n = length text - length ending in
    let parts = only_if_is (same (drop n text) ending) (take n text) front h in
    sym (take-append-drop n text)
    ∙ ap (λ (t : List ℕ). take n text ++ t) (same_text (drop n text) ending (sym parts.0))
    ∙ ap (λ (t : List ℕ). t ++ ending) parts.1

ending_found : (ending front : List ℕ) → before_ending ending (front ++ ending) ≡ Some front
ending_found ending front =
    let long : length (front ++ ending) - length ending ≡ length front = omega (arith, length-append front ending) in
    rw (long, take-append_seam front ending, drop-append_seam front ending, same_itself ending) refl

unit_joined : (text unit : List ℕ) → text ++ (codes " [" ++ unit ++ codes "]") ≡ text ++ codes " [" ++ unit ++ codes "]"
unit_joined text unit = sym (append_assoc text (codes " [" ++ unit) (codes "]")) ∙ ap (λ (t : List ℕ). t ++ codes "]") (sym (append_assoc text (codes " [") unit))

-- a value with its unit
pub unit_law : {A : Type 0} (said : List ℕ → Option A) (write : A → List ℕ) (Fit : A → Type 0) (unit : List ℕ) → list_any is_feed unit ≡ false → IsSaid said write Fit
    → IsSaid (λ t. option_and_then said (before_unit unit t)) (λ x. write x ++ codes " [" ++ unit ++ codes "]") Fit
unit_law {A} said write Fit unit free law = record {
  only = λ t x h.
      let found = and_then_is said (before_unit unit t) x h in
      let number = law.only found.0 x found.2 in (
        ending_is (codes " [" ++ unit ++ codes "]") t found.0 found.1 ∙ unit_joined found.0 unit
            ∙ ap (λ (v : List ℕ). v ++ codes " [" ++ unit ++ codes "]") number.0,
        number.1,
      );
  again = λ x fit.
      ap (λ (t : List ℕ). option_and_then said (before_unit unit t)) (sym (unit_joined (write x) unit))
      ∙ ap (λ (o : Option (List ℕ)). option_and_then said o) (ending_found (codes " [" ++ unit ++ codes "]") (write x))
      ∙ law.again x fit;
  lone = λ x fit.
      free_joined ((write x ++ codes " [") ++ unit) (codes "]")
      (free_joined (write x ++ codes " [") unit (free_joined (write x) (codes " [") (law.lone x fit) refl) free) refl;
}

-- one ending before another
pub ending_more : (a b text : List ℕ) → before_ending (a ++ b) text ≡ option_and_then (before_ending a) (before_ending b text)
ending_more a b text = option_same (before_ending (a ++ b) text) (option_and_then (before_ending a) (before_ending b text)) to from
  where
    to : (x : List ℕ) → before_ending (a ++ b) text ≡ Some x → option_and_then (before_ending a) (before_ending b text) ≡ Some x
    to x h =
        let whole : text ≡ (x ++ a) ++ b = ending_is (a ++ b) text x h ∙ sym (append_assoc x a b) in
        ap (λ t. option_and_then (before_ending a) (before_ending b t)) whole ∙ ap (option_and_then (before_ending a)) (ending_found b (x ++ a)) ∙ ending_found a x

    from : (x : List ℕ) → option_and_then (before_ending a) (before_ending b text) ≡ Some x → before_ending (a ++ b) text ≡ Some x
    from x h =
        let mid = and_then_is (before_ending a) (before_ending b text) x h in
        let whole : text ≡ x ++ (a ++ b) = ending_is b text mid.0 mid.1 ∙ ap (λ t. t ++ b) (ending_is a mid.0 x mid.2) ∙ append_assoc x a b in
        ap (before_ending (a ++ b)) whole ∙ ending_found (a ++ b) x

-- a unit is taken off from its end
pub unit_told : (unit value : List ℕ) → before_unit unit value ≡ option_and_then (before_ending (codes " [")) (option_and_then (before_ending unit) (before_ending (codes "]") value))
unit_told unit value = ending_more (codes " [" ++ unit) (codes "]") value ∙ by_text (before_ending (codes "]") value)
  where
    by_text : (o : Option (List ℕ)) → option_and_then (before_ending (codes " [" ++ unit)) o ≡ option_and_then (before_ending (codes " [")) (option_and_then (before_ending unit) o)
    by_text None = refl
    by_text (Some t) = ending_more (codes " [") unit t
