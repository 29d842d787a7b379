-- The header: reading its keys one after another asks for just what the grammar says of them.
use Rattle.std.proofs.Common.{◌≡◌, ◌≢◌, ℕ, List, [], ◌∷◌, Bool, true, false, All, AllPairs, Any, ◌⊎◌, inl, inr, ⊎_elim, Result, Ok, Err, arith, ap, sym, ◌∙◌, refl, true≢false}
use Rattle.std.specs.Prelude.{if◌then◌else◌, ◌&&◌, codes}
use Rattle.std.proofs.lemmas.Bool.{and_parts}
use Rattle.std.proofs.lemmas.List.Elements.{All-cons, All-head, All-nil, All-tail, All-weaker}
use Rattle.std.proofs.lemmas.List.Kept.{AllPairs-cons}
use Rattle.cj_formats.specs.declared.oem_cause.OemCause.{OemCause}
use Rattle.cj_formats.specs.declared.oem_cause.OemCause.TheVariants as causes
use Rattle.cj_oem.specs.Grammar.{Entry, IsHeader, IsHeaderKey}
use Rattle.cj_oem.specs.Words.{is_text}
use Rattle.cj_kvn.specs.Faults.{◌>>=◌}
use Rattle.cj_oem.specs.Stages.{Head, NO_HEAD, once, with_head_key}
use Rattle.cj_oem.proofs.ElementLemmas.{any_cases, any_here, any_later, any_none, pairs_head, pairs_tail}
use Rattle.cj_kvn.proofs.FaultLemmas.{bind_ok}
use Rattle.cj_oem.proofs.StepLemmas.{text_is}

-- the keys of a header, and whether they were given
data HeaderKey : Type 0 where
  Date : HeaderKey
  Originator : HeaderKey
  Classification : HeaderKey
  MessageId : HeaderKey

abbrev key_text : HeaderKey → List ℕ
key_text Date = codes "CREATION_DATE"
key_text Originator = codes "ORIGINATOR"
key_text Classification = codes "CLASSIFICATION"
key_text MessageId = codes "MESSAGE_ID"

abbrev has : Head → HeaderKey → Bool
has h Date = h.date
has h Originator = h.originator
has h Classification = h.classification
has h MessageId = h.message

abbrev with_key : Head → HeaderKey → Head
with_key h Date = record h { date = true }
with_key h Originator = record h { originator = true }
with_key h Classification = record h { classification = true }
with_key h MessageId = record h { message = true }

has_itself : (h : Head) (k : HeaderKey) → has (with_key h k) k ≡ true
has_itself h Date = refl
has_itself h Originator = refl
has_itself h Classification = refl
has_itself h MessageId = refl

has_more : (h : Head) (j k : HeaderKey) → has h j ≡ true → has (with_key h k) j ≡ true
has_more h Date Date e = refl
has_more h Originator Originator e = refl
has_more h Classification Classification e = refl
has_more h MessageId MessageId e = refl
has_more h j k e = e

had : (h : Head) (j k : HeaderKey) → has (with_key h k) j ≡ true → (key_text k ≡ key_text j) ⊎ (has h j ≡ true)
had h Date Date e = inl refl
had h Originator Originator e = inl refl
had h Classification Classification e = inl refl
had h MessageId MessageId e = inl refl
had h j k e = inr e

-- one key is not given and lacking
apart : (h : Head) (j k : HeaderKey) → has h j ≡ true → has h k ≡ false → key_text j ≡ key_text k → ⊥
apart h Date Date e f same = true≢false (sym e ∙ f)
apart h Originator Originator e f same = true≢false (sym e ∙ f)
apart h Classification Classification e f same = true≢false (sym e ∙ f)
apart h MessageId MessageId e f same = true≢false (sym e ∙ f)
apart h j k e f same = true≢false (sym (ap (is_text (key_text k)) same))

-- ---- one key

-- the key is one of the header that was not given
record IsTaken (h : Head) (key : List ℕ) (next : Head) : Type 0 where
  which : HeaderKey
  text : key ≡ key_text which
  fresh : has h which ≡ false
  after : next ≡ with_key h which

set_once : (given : Bool) (set next : Head) → once given set ≡ Ok next → (given ≡ false) × (set ≡ next)
set_once true set next e = absurd cc
set_once false set next e = (refl, cc)

taken_if : (h : Head) (key : List ℕ) (k : HeaderKey) (b : Bool) (others : Result Head OemCause) (next : Head) → is_text (key_text k) key ≡ b
    → (others ≡ Ok next → IsTaken h key next) → (if b then once (has h k) (with_key h k) else others) ≡ Ok next → IsTaken h key next
taken_if h key k true others next test rest e =
    let given = set_once (has h k) (with_key h k) next e in
    record { which = k; text = text_is (key_text k) key test; fresh = given.0; after = sym given.1 }
taken_if h key k false others next test rest e = rest e

taken_none : (h : Head) (key : List ℕ) (b : Bool) (c d : OemCause) (next : Head) → (if b then Err c else Err d) ≡ Ok next → IsTaken h key next
taken_none h key true c d next e = absurd cc
taken_none h key false c d next e = absurd cc

taken : (h : Head) (key : List ℕ) (next : Head) → with_head_key h key ≡ Ok next → IsTaken h key next
taken h key next =
    taken_if h key Date (is_text (codes "CREATION_DATE") key) _ next refl (
    taken_if h key Originator (is_text (codes "ORIGINATOR") key) _ next refl (
    taken_if h key Classification (is_text (codes "CLASSIFICATION") key) _ next refl (
    taken_if h key MessageId (is_text (codes "MESSAGE_ID") key) _ next refl (
    taken_none h key (is_text (codes "CCSDS_OEM_VERS") key) causes.Twice causes.Unknown next))))

taken_again : (h : Head) (k : HeaderKey) → has h k ≡ false → with_head_key h (key_text k) ≡ Ok (with_key h k)
taken_again h Date e = rw e refl
taken_again h Originator e = rw e refl
taken_again h Classification e = rw e refl
taken_again h MessageId e = rw e refl

known_is : (key : List ℕ) (k : HeaderKey) → key ≡ key_text k → IsHeaderKey key
known_is key Date e = inl e
known_is key Originator e = inr (inl e)
known_is key Classification e = inr (inr (inl e))
known_is key MessageId e = inr (inr (inr e))

known_as : (key : List ℕ) → IsHeaderKey key → (k : HeaderKey) × (key ≡ key_text k)
known_as key (inl e) = (Date, e)
known_as key (inr (inl e)) = (Originator, e)
known_as key (inr (inr (inl e))) = (Classification, e)
known_as key (inr (inr (inr e))) = (MessageId, e)

-- ---- all keys

-- what the keys of a header give, one after another
abbrev pub head_from : Head → List Entry → Result Head OemCause
head_from h [] = Ok h
head_from h (entry ∷ entries) = with_head_key h entry.key >>= λ next. head_from next entries

abbrev HasKey : HeaderKey → List Entry → Type 0
HasKey k entries = Any (λ entry. entry.key ≡ key_text k) entries

-- no key that was given comes again
abbrev AreFresh : Head → List Entry → Type 0
AreFresh h entries = (k : HeaderKey) → has h k ≡ true → All (λ entry. key_text k ≢ entry.key) entries

-- the keys are read in full
record IsHeaded (h : Head) (entries : List Entry) (end : Head) : Type 0 where
  known : All (λ entry. IsHeaderKey entry.key) entries
  once : AllPairs (λ a b. a.key ≢ b.key) entries
  fresh : AreFresh h entries
  given : (k : HeaderKey) → has end k ≡ true → (has h k ≡ true) ⊎ HasKey k entries

headed_step : (h : Head) (entry : Entry) (entries : List Entry) (next end : Head) → IsTaken h entry.key next → IsHeaded next entries end → IsHeaded h (entry ∷ entries) end
headed_step h entry entries next end t rest =
    let k = t.which in
    let itself : has next k ≡ true = ap (λ (g : Head). has g k) t.after ∙ has_itself h k in
    record {
      known = All-cons (λ e. IsHeaderKey e.key) entry entries (known_is entry.key k t.text) rest.known;
      once = AllPairs-cons (λ a b. a.key ≢ b.key) entry entries (
          All-weaker (λ e. key_text k ≢ e.key) (λ e. entry.key ≢ e.key) (λ e other same. other (sym t.text ∙ same)) entries (rest.fresh k itself)
          ) rest.once;
      fresh = λ j s.
          All-cons (λ e. key_text j ≢ e.key) entry entries (λ same. apart h j k s t.fresh (same ∙ t.text))
          (rest.fresh j (ap (λ (g : Head). has g j) t.after ∙ has_more h j k s));
      given = λ j s. ⊎_elim
          (λ there. ⊎_elim
          (λ same. inr (any_here (λ e. e.key ≡ key_text j) entry entries (t.text ∙ same)))
          (λ before. inl before)
          (had h j k (ap (λ (g : Head). has g j) (sym t.after) ∙ there)))
          (λ later. inr (any_later (λ e. e.key ≡ key_text j) entry entries later))
          (rest.given j s);
    }

headed : (entries : List Entry) (h end : Head) → head_from h entries ≡ Ok end → IsHeaded h entries end
headed [] h end e =
    let same : h ≡ end = cc in
    record {
      known = All-nil (λ entry. IsHeaderKey entry.key);
      once = λ i j d below within. absurd (omega arith);
      fresh = λ k s. All-nil (λ entry. key_text k ≢ entry.key);
      given = λ k s. inl (ap (λ (g : Head). has g k) same ∙ s);
    }
headed (entry ∷ entries) h end e =
    let step = bind_ok (with_head_key h entry.key) (λ next. head_from next entries) end e in
    headed_step h entry entries step.0 end (taken h entry.key step.0 step.1) (headed entries step.0 end step.2)

-- reading the keys ends with each of those that were given
record IsHeadedAgain (h : Head) (entries : List Entry) : Type 0 where
  end : Head
  read : head_from h entries ≡ Ok end
  given : (k : HeaderKey) → (has h k ≡ true) ⊎ HasKey k entries → has end k ≡ true

lacking : (h : Head) (k : HeaderKey) (key : List ℕ) → key ≡ key_text k → (has h k ≡ true → key_text k ≢ key) → has h k ≡ false
lacking h k key e other = by (has h k) other
  where
    by : (b : Bool) → (b ≡ true → key_text k ≢ key) → b ≡ false
    by true f = absurd (f refl (sym e))
    by false f = refl

same_key : (h : Head) (k j : HeaderKey) → key_text k ≡ key_text j → has (with_key h k) j ≡ true
same_key h Date Date same = refl
same_key h Originator Originator same = refl
same_key h Classification Classification same = refl
same_key h MessageId MessageId same = refl
same_key h k j same = absurd (true≢false (sym (ap (is_text (key_text j)) same)))

fresh_later : (h : Head) (k : HeaderKey) (entry : Entry) (entries : List Entry) → entry.key ≡ key_text k → All (λ e. entry.key ≢ e.key) entries
    → AreFresh h (entry ∷ entries) → AreFresh (with_key h k) entries
fresh_later h k entry entries e others fresh j s = ⊎_elim
    (λ same. All-weaker (λ b. entry.key ≢ b.key) (λ b. key_text j ≢ b.key) (λ b other at. other (e ∙ same ∙ at)) entries others)
    (λ before. All-tail (λ b. key_text j ≢ b.key) entry entries (fresh j before))
    (had h j k s)

again_step : (h : Head) (k : HeaderKey) (entry : Entry) (entries : List Entry) → entry.key ≡ key_text k → has h k ≡ false → IsHeadedAgain (with_key h k) entries
    → IsHeadedAgain h (entry ∷ entries)
again_step h k entry entries e lacks rest = record {
  end = rest.end;
  read = ap (λ (r : Result Head OemCause). r >>= λ next. head_from next entries) (ap (with_head_key h) e ∙ taken_again h k lacks) ∙ rest.read;
  given = λ j s. ⊎_elim
      (λ before. rest.given j (inl (has_more h j k before)))
      (λ any. ⊎_elim
      (λ here. rest.given j (inl (same_key h k j (sym e ∙ here))))
      (λ later. rest.given j (inr later))
      (any_cases (λ b. b.key ≡ key_text j) entry entries any))
      s;
}

headed_again : (entries : List Entry) (h : Head) → All (λ entry. IsHeaderKey entry.key) entries → AllPairs (λ a b. a.key ≢ b.key) entries → AreFresh h entries → IsHeadedAgain h entries
headed_again [] h known once fresh = record {
  end = h;
  read = refl;
  given = λ k s. ⊎_elim (λ before. before) (λ any. absurd (any_none (λ b. b.key ≡ key_text k) any)) s;
}
headed_again (entry ∷ entries) h known once fresh =
    let k = known_as entry.key (All-head (λ e. IsHeaderKey e.key) entry entries known) in
    let lacks : has h k.0 ≡ false = lacking h k.0 entry.key k.1 (λ s. All-head (λ e. key_text k.0 ≢ e.key) entry entries (fresh k.0 s)) in
    again_step h k.0 entry entries k.1 lacks (
    headed_again entries (with_key h k.0)
    (All-tail (λ e. IsHeaderKey e.key) entry entries known)
    (pairs_tail (λ a b. a.key ≢ b.key) entry entries once)
    (fresh_later h k.0 entry entries k.1 (pairs_head (λ a b. a.key ≢ b.key) entry entries once) fresh))

none_given : (k : HeaderKey) → has NO_HEAD k ≡ true → ⊥
none_given Date e = true≢false (sym e)
none_given Originator e = true≢false (sym e)
none_given Classification e = true≢false (sym e)
none_given MessageId e = true≢false (sym e)

-- keys that are read from the start, with a date and an originator, are a header
pub header_is : (entries : List Entry) (end : Head) → head_from NO_HEAD entries ≡ Ok end → (end.date && end.originator) ≡ true → IsHeader entries
header_is entries end e both =
    let h = headed entries NO_HEAD end e in
    let each = and_parts end.date end.originator both in
    let there = λ (k : HeaderKey) (s : has end k ≡ true). ⊎_elim (λ before. absurd (none_given k before)) (λ any. any) (h.given k s) in
    record { known = h.known; once = h.once; date = there Date each.0; originator = there Originator each.1 }

-- a header is read from the start, with a date and an originator
pub header_again : (entries : List Entry) → IsHeader entries → (end : Head) × (head_from NO_HEAD entries ≡ Ok end) × ((end.date && end.originator) ≡ true)
header_again entries h =
    let again = headed_again entries NO_HEAD h.known h.once (λ k s. absurd (none_given k s)) in
    (again.end, again.read, rw (again.given Date (inr h.date), again.given Originator (inr h.originator)) refl)
