-- A line of a message is exact where its value is.
use Rattle.std.proofs.Common.{◌≡◌, ℕ, ◌+◌, Bool, true, false, List, [], ◌∷◌, ◌++◌, length, take, drop, ap, sym, ◌∙◌, refl, arith, append_assoc, Option, Some, None, option_map, Ok}
use Rattle.std.specs.Prelude.{nat_eq, if◌then◌else◌, option_and_then}
use Rattle.std.specs.Cmp.Lexicographic.{same_text}
use Rattle.std.specs.List.{after_first, before_first, list_any, position, position_or_len}
use Rattle.std.proofs.Math.Seq.{take-append_seam, drop-append_seam}
use Rattle.std.proofs.lemmas.Bool.{eqb-true, or_parts}
use Rattle.std.proofs.lemmas.Bool.Decides.{nat_tests}
use Rattle.std.proofs.lemmas.List.{length-drop, nil_from_length, take-append-drop, take_all}
use Rattle.std.proofs.lemmas.List.Folds.{list_any-append}
use Rattle.cj_kvn.proofs.LineLemmas.{found, not_found}
use Rattle.cj_kvn.proofs.ListLemmas.{after_no, after_yes, any_no, any_yes, before_no, before_yes}
use Rattle.cj_base.proofs.LogicLemmas.{some_is}
use Rattle.cj_cdm.specs.declared.fault.CdmCause.{CdmCause}
use Rattle.cj_cdm.specs.declared.fault.CdmCause.TheVariants as causes
use Rattle.cj_base.specs.Bytes.{is_feed}
use Rattle.cj_kvn.specs.Faults.{◌>>=◌ as and_then}
use Rattle.cj_cdm.specs.Reading.{Rest, behind_feed, behind_line, fault_at, is_none_left, line_said, or_fault, taken, value_in}
use Rattle.cj_kvn.specs.Entries.{line}
use Rattle.cj_cdm.specs.Values.{behind_front, only_if, same}
use Rattle.cj_cdm.proofs.ExactLemmas.{Anything, IsExact, stepped}

-- the value is read from what is written of it, and from nothing else
pub record IsSaid {A : Type 0} (said : List ℕ → Option A) (write : A → List ℕ) (Fit : A → Type 0) : Type 0 where
  pub only : (text : List ℕ) (x : A) → said text ≡ Some x → (text ≡ write x) × Fit x
  pub again : (x : A) → Fit x → said (write x) ≡ Some x
  pub lone : (x : A) → Fit x → list_any is_feed (write x) ≡ false

pub only_if_is : {A : Type 0} (b : Bool) (x y : A) → only_if b x ≡ Some y → (b ≡ true) × (x ≡ y)
only_if_is true x y h = (refl, cc)
only_if_is false x y h = absurd cc

pub same_itself : (text : List ℕ) → same text text ≡ true
same_itself [] = refl
same_itself (c ∷ text) = rw (same_byte c) (same_itself text)
  where
    same_byte : (c : ℕ) → nat_eq c c ≡ true
    same_byte c = grind (arith, nat_tests)

-- ---- fronts
pub front_is : (front text value : List ℕ) → behind_front front text ≡ Some value → text ≡ front ++ value
front_is front text value h =
    let parts = only_if_is (same (take (length front) text) front) (drop (length front) text) value h in
    sym (take-append-drop (length front) text)
    ∙ ap (λ (t : List ℕ). t ++ drop (length front) text) (same_text (take (length front) text) front (sym parts.0))
    ∙ ap (λ (t : List ℕ). front ++ t) parts.1

pub front_found : (front value : List ℕ) → behind_front front (front ++ value) ≡ Some value
front_found front value = rw (take-append_seam front value, drop-append_seam front value, same_itself front) refl

-- ---- the ends of lines
split_by : (c : ℕ) (text : List ℕ) (b : Bool) → is_feed c ≡ b → (list_any is_feed text ≡ true → text ≡ before_first is_feed text ++ 10 ∷ after_first is_feed text)
    → list_any is_feed (c ∷ text) ≡ true → c ∷ text ≡ before_first is_feed (c ∷ text) ++ 10 ∷ after_first is_feed (c ∷ text)
split_by c text true feed more some =
    rw (before_yes is_feed c text feed, after_yes is_feed c text feed) (ap (λ (k : ℕ). k ∷ text) (eqb-true c 10 feed))
split_by c text false feed more some =
    let others : list_any is_feed text ≡ true = sym (any_no is_feed c text feed) ∙ some in
    rw (before_no is_feed c text feed, after_no is_feed c text feed) (ap (λ (t : List ℕ). c ∷ t) (more others))

pub line_split : (text : List ℕ) → list_any is_feed text ≡ true → text ≡ before_first is_feed text ++ 10 ∷ after_first is_feed text
line_split [] some = absurd cc
line_split (c ∷ text) some = split_by c text (is_feed c) refl (line_split text) some

-- where a text is cut at its first byte of a kind
pub record IsCut (p : ℕ → Bool) (c : ℕ) (front behind : List ℕ) : Type 0 where
  pub before : before_first p (front ++ c ∷ behind) ≡ front
  pub after : after_first p (front ++ c ∷ behind) ≡ behind
  pub some : list_any p (front ++ c ∷ behind) ≡ true

pub cut_at : (p : ℕ → Bool) (c : ℕ) (front behind : List ℕ) → p c ≡ true → list_any p front ≡ false → IsCut p c front behind
cut_at p c [] behind here none = record {
  before = before_yes p c behind here;
  after = after_yes p c behind here;
  some = any_yes p c behind here;
}
cut_at p c (b ∷ front) behind here none =
    let parts = or_parts (p b) (list_any p front) none in
    let more = cut_at p c front behind here parts.1 in
    record {
      before = before_no p b (front ++ c ∷ behind) parts.0 ∙ ap (λ (t : List ℕ). b ∷ t) more.before;
      after = after_no p b (front ++ c ∷ behind) parts.0 ∙ more.after;
      some = any_no p b (front ++ c ∷ behind) parts.0 ∙ more.some;
    }

-- ---- what was read of a line
or_fault_is : {A : Type 0} (line : ℕ) (cause : CdmCause) (o : Option A) (x : A) → or_fault line cause o ≡ Ok x → o ≡ Some x
or_fault_is line cause (Some y) x h = cc
or_fault_is line cause None x h = absurd cc

behind_by : (r s : Rest) (b : Bool) → list_any is_feed r.text ≡ b
    → or_fault (r.line + 1) causes.End (option_map (λ (text : List ℕ). record { text = text; line = r.line + 1 }) (only_if b (after_first is_feed r.text))) ≡ Ok s
    → (list_any is_feed r.text ≡ true) × (s.text ≡ after_first is_feed r.text)
behind_by r s true e h =
    let found : Rest = record { text = after_first is_feed r.text; line = r.line + 1 } in
    let same : found ≡ s = some_is found s (or_fault_is (r.line + 1) causes.End (Some found) s h) in
    (e, sym (ap (λ (t : Rest). t.text) same))
behind_by r s false e h = absurd cc

behind_is : (r s : Rest) → behind_line r ≡ Ok s → (list_any is_feed r.text ≡ true) × (s.text ≡ after_first is_feed r.text)
unfolding behind_line
behind_is r s h = behind_by r s (list_any is_feed r.text) refl h

value_is : (front value : List ℕ) (r : Rest) → value_in front r ≡ Ok value → before_first is_feed r.text ≡ front ++ value
unfolding value_in
value_is front value r h = by_rest (is_none_left r.text) h
  where
    by_rest : (b : Bool) → (if b then fault_at r.line causes.End else or_fault r.line causes.Key (behind_front front (before_first is_feed r.text))) ≡ Ok value
        → before_first is_feed r.text ≡ front ++ value
    by_rest true h = absurd cc
    by_rest false h = front_is front (before_first is_feed r.text) value (or_fault_is r.line causes.Key (behind_front front (before_first is_feed r.text)) value h)

taken_is : {A : Type 0} (r s : Rest) (o : Option A) (x : A) → taken r o ≡ Ok (x, s) → (o ≡ Some x) × (behind_line r ≡ Ok s)
unfolding taken
taken_is {A} r s o x h =
    let one = stepped (or_fault r.line causes.Value o) (λ y. and_then (behind_line r) (λ behind. Ok (y, behind))) (x, s) h in
    let two = stepped (behind_line r) (λ behind. Ok (one.0, behind)) (x, s) one.2 in
    let both : (one.0, two.0) ≡ (x, s) = (let g = two.2 in cc) in (
      or_fault_is r.line causes.Value o one.0 one.1 ∙ ap (λ (p : A × Rest). Some p.0) both,
      two.1 ∙ ap (λ (p : A × Rest). Ok p.1) both,
    )

some_left : (front behind : List ℕ) → is_none_left (front ++ 10 ∷ behind) ≡ false
some_left [] behind = refl
some_left (c ∷ front) behind = refl

-- the line is read again
read_again : {A : Type 0} (front : List ℕ) (said : List ℕ → Option A) (text behind : List ℕ) (number : ℕ) (x : A) (value : List ℕ)
    → line text ++ behind ≡ text ++ 10 ∷ behind → IsCut is_feed 10 text behind → behind_front front text ≡ Some value → said value ≡ Some x
    → line_said front said (record { text = line text ++ behind; line = number }) ≡ Ok (x, record { text = behind; line = number + 1 })
unfolding line_said value_in taken behind_line
read_again front said text behind number x value whole cut found read =
    rw (whole, some_left text behind, cut.before, cut.after, cut.some, found, read) refl

pub line_exact : {A : Type 0} (front : List ℕ) (said : List ℕ → Option A) (write : A → List ℕ) (Fit : A → Type 0) → list_any is_feed front ≡ false → IsSaid said write Fit
    → IsExact (line_said front said) (λ x. line (front ++ write x)) Anything Fit
unfolding line_said
line_exact {A} front said write Fit none law = record {
  only = λ r s x h.
      let value = stepped (value_in front r) (λ value. taken r (said value)) (x, s) h in
      let both = taken_is r s (said value.0) x value.2 in
      let rest = behind_is r s both.1 in
      let found = law.only value.0 x both.0 in (
        line_split r.text rest.0
            ∙ ap (λ (t : List ℕ). t ++ 10 ∷ after_first is_feed r.text) (value_is front value.0 r value.1 ∙ ap (λ (v : List ℕ). front ++ v) found.0)
            ∙ ap (λ (t : List ℕ). (front ++ write x) ++ 10 ∷ t) (sym rest.1)
            ∙ sym (append_assoc (front ++ write x) (10 ∷ []) s.text),
        tt,
        found.1,
      );
  again = λ x behind number same fit.
      let text = front ++ write x in
      let whole : line text ++ behind ≡ text ++ 10 ∷ behind = append_assoc text (10 ∷ []) behind in
      let alone : list_any is_feed text ≡ false = list_any-append is_feed front (write x) ∙ rw (none, law.lone x fit) refl in
      let cut = cut_at is_feed 10 text behind refl alone in (
        number + 1,
        read_again front said text behind number x (write x) whole cut (front_found front (write x)) (law.again x fit),
      );
}

-- ---- the place of a byte
-- what stands behind the first line, where its end is at a place
pub feed_found : (text : List ℕ) (n : ℕ) → position is_feed text ≡ Some n → behind_feed text ≡ Some (drop (n + 1) text)
feed_found text n h =
    let here = found is_feed text n h in
    rw here.0 (ap (λ k. Some (drop (k + 1) text)) here.1)

pub feed_nowhere : (text : List ℕ) → position is_feed text ≡ None → behind_feed text ≡ None
feed_nowhere text h = rw (not_found is_feed text h).0 refl

pub before_place : (p : ℕ → Bool) (text : List ℕ) (n : ℕ) → position p text ≡ Some n → take n text ≡ before_first p text
before_place p text n h = ap (λ k. take k text) (sym (found p text n h).1)

pub behind_place : (p : ℕ → Bool) (text : List ℕ) (n : ℕ) → position p text ≡ Some n → drop (n + 1) text ≡ after_first p text
behind_place p text n h = ap (λ k. drop (k + 1) text) (sym (found p text n h).1)

pub before_none : (p : ℕ → Bool) (text : List ℕ) → position p text ≡ None → text ≡ before_first p text
before_none p text h = sym (take_all (position_or_len p text) text (not_found p text h).1)

pub behind_none : (p : ℕ → Bool) (text : List ℕ) → position p text ≡ None → [] ≡ after_first p text
behind_none p text h = sym (nil_from_length (drop (position_or_len p text + 1) text) (omega (arith, length-drop (position_or_len p text + 1) text, (not_found p text h).1)))

-- ---- one front behind another
pub option_same : {A : Type 0} (o q : Option A) → ((x : A) → o ≡ Some x → q ≡ Some x) → ((x : A) → q ≡ Some x → o ≡ Some x) → o ≡ q
option_same None None to from = refl
option_same None (Some x) to from = from x refl
option_same (Some x) q to from = sym (to x refl)

pub and_then_is : {A B : Type 0} (f : A → Option B) (o : Option A) (y : B) → option_and_then f o ≡ Some y → (x : A) × (o ≡ Some x) × (f x ≡ Some y)
and_then_is f None y h = absurd cc
and_then_is f (Some x) y h = (x, refl, h)

pub front_more : (a b text : List ℕ) → behind_front (a ++ b) text ≡ option_and_then (behind_front b) (behind_front a text)
front_more a b text = option_same (behind_front (a ++ b) text) (option_and_then (behind_front b) (behind_front a text)) to from
  where
    to : (x : List ℕ) → behind_front (a ++ b) text ≡ Some x → option_and_then (behind_front b) (behind_front a text) ≡ Some x
    to x h =
        let whole : text ≡ a ++ (b ++ x) = front_is (a ++ b) text x h ∙ append_assoc a b x in
        ap (λ t. option_and_then (behind_front b) (behind_front a t)) whole ∙ ap (option_and_then (behind_front b)) (front_found a (b ++ x)) ∙ front_found b x

    from : (x : List ℕ) → option_and_then (behind_front b) (behind_front a text) ≡ Some x → behind_front (a ++ b) text ≡ Some x
    from x h =
        let mid = and_then_is (behind_front b) (behind_front a text) x h in
        let whole : text ≡ (a ++ b) ++ x = front_is a text mid.0 mid.1 ∙ ap (λ t. a ++ t) (front_is b mid.0 x mid.2) ∙ sym (append_assoc a b x) in
        ap (behind_front (a ++ b)) whole ∙ front_found (a ++ b) x

-- a key and what stands behind it
pub value_more : (a b : List ℕ) (r : Rest) → value_in (a ++ b) r ≡ and_then (value_in a r) (λ v. or_fault r.line causes.Key (behind_front b v))
unfolding value_in
value_more a b r = by_rest (is_none_left r.text)
  where
    by_front : (o : Option (List ℕ)) → or_fault r.line causes.Key (option_and_then (behind_front b) o) ≡ and_then (or_fault r.line causes.Key o) (λ v. or_fault r.line causes.Key (behind_front b v))
    by_front None = refl
    by_front (Some v) = refl

    by_rest : (none : Bool) → (if none then fault_at r.line causes.End else or_fault r.line causes.Key (behind_front (a ++ b) (before_first is_feed r.text)))
        ≡ and_then (if none then fault_at r.line causes.End else or_fault r.line causes.Key (behind_front a (before_first is_feed r.text))) (λ v. or_fault r.line causes.Key (behind_front b v))
    by_rest true = refl
    by_rest false = ap (or_fault r.line causes.Key) (front_more a b (before_first is_feed r.text)) ∙ by_front (behind_front a (before_first is_feed r.text))
