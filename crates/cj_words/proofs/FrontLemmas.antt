-- One option in front of others.
use Rattle.std.proofs.Common.{◌≡◌, ℕ, ◌+◌, ◌-◌, ◌<◌, ◌≤◌, List, [], ◌∷◌, length, get_or, take, drop, Bool, true, false, not, Option, Some, None, cond, refl, ap, sym, subst, ◌∙◌, arith}
use Rattle.std.specs.Prelude.{IsTrue, IfNone, IfSome}
use Rattle.std.specs.List.{before_first, after_first}
use Rattle.std.proofs.lemmas.Bool.{and_parts}
use Rattle.std.proofs.lemmas.List.{take_all}
use Rattle.std.proofs.lemmas.List.Sums.{sum_by-cons}
use Rattle.cj_words.specs.declared.command.Verb.{Verb}
use Rattle.cj_words.specs.declared.front.Front.{Front}
use Rattle.cj_words.specs.declared.option.Opt.{Opt}
use Rattle.cj_kvn.specs.Lines.{is_equals}
use Rattle.cj_words.specs.Options.{Given, flag, given_of, has_equals, if_empty, in_one_word, in_two_words, is_flag, is_one_word, is_value, may_have, none_next, in_front, is_name, is_named, are_accepted, are_known, are_listed, are_options, go_together, listed, count_of, value_of}

-- ---- what stands at the front

-- a flag alone
pub flag_in_front : (word : List ℕ) (rest : List (List ℕ)) → is_flag word ≡ true → given_of (word ∷ rest) ≡ in_front true (flag word) (given_of rest)
flag_in_front word [] is = rw is refl
flag_in_front word (next ∷ rest) is = rw is refl

-- a word with =
one_word : (word : List ℕ) (rest : List (List ℕ)) → is_flag word ≡ false → has_equals word ≡ true → given_of (word ∷ rest) ≡ in_front (is_one_word word) (in_one_word word) (given_of rest)
one_word word [] no_flag has = rw (no_flag, has) refl
one_word word (next ∷ rest) no_flag has = rw (no_flag, has) refl

pub one_in_front : (word name value : List ℕ) (rest : List (List ℕ)) (f : Option Front) → is_flag word ≡ false → has_equals word ≡ true → name ≡ before_first is_equals word → value ≡ after_first is_equals word
    → IfSome f (λ o. (o.name.now ≡ name) × (o.value.now ≡ value) × (o.rest.now ≡ rest) × (may_have name value ≡ true))
    → IfSome f (λ o. given_of (word ∷ rest) ≡ in_front true (record { name = o.name.now; value = o.value.now }) (given_of o.rest.now))
one_in_front word name value rest None no_flag has is_name is_value h = tt
one_in_front word name value rest (Some o) no_flag has is_name is_value h =
    let may : is_one_word word ≡ true = subst (λ (n : List ℕ). may_have n (after_first is_equals word) ≡ true) is_name (subst (λ (v : List ℕ). may_have name v ≡ true) is_value h.3) in
    one_word word rest no_flag has
    ∙ ap (λ (b : Bool). in_front b (in_one_word word) (given_of rest)) may
    ∙ sym (ap (λ (n : List ℕ). in_front true (record { name = n; value = o.value.now }) (given_of o.rest.now)) (h.0 ∙ is_name)
    ∙ ap (λ (v : List ℕ). in_front true (record { name = before_first is_equals word; value = v }) (given_of o.rest.now)) (h.1 ∙ is_value)
    ∙ ap (λ (r : List (List ℕ)). in_front true (in_one_word word) (given_of r)) h.2)

pub one_not_in_front : (word name value : List ℕ) (rest : List (List ℕ)) (f : Option Front) → is_flag word ≡ false → has_equals word ≡ true → name ≡ before_first is_equals word → value ≡ after_first is_equals word
    → IfNone f (may_have name value ≡ false) → IfNone f (given_of (word ∷ rest) ≡ None)
one_not_in_front word name value rest None no_flag has is_name is_value h =
    let may : is_one_word word ≡ false = subst (λ (n : List ℕ). may_have n (after_first is_equals word) ≡ false) is_name (subst (λ (v : List ℕ). may_have name v ≡ false) is_value h) in
    one_word word rest no_flag has ∙ ap (λ (b : Bool). in_front b (in_one_word word) (given_of rest)) may
one_not_in_front word name value rest (Some o) no_flag has is_name is_value h = tt

pub one_shorter : (word name value : List ℕ) (rest : List (List ℕ)) (f : Option Front)
    → IfSome f (λ o. (o.name.now ≡ name) × (o.value.now ≡ value) × (o.rest.now ≡ rest) × (may_have name value ≡ true)) → IfSome f (λ o. length o.rest.now < length (word ∷ rest))
one_shorter word name value rest None h = tt
one_shorter word name value rest (Some o) h = omega (arith, ap length h.2)

-- a word and the next
pub two_in_front : (word : List ℕ) (rest : List (List ℕ)) (f : Option Front) → is_flag word ≡ false → has_equals word ≡ false
    → IfSome f (λ o. (o.name.now ≡ word) × (is_value o.value.now ≡ true) × (rest ≡ o.value.now ∷ o.rest.now))
    → IfSome f (λ o. given_of (word ∷ rest) ≡ in_front true (record { name = o.name.now; value = o.value.now }) (given_of o.rest.now))
two_in_front word rest None no_flag has h = tt
two_in_front word rest (Some o) no_flag has h =
    ap (λ (r : List (List ℕ)). given_of (word ∷ r)) h.2
    ∙ rw (no_flag, has, h.1, h.0) refl

pub two_not_in_front : (word : List ℕ) (rest : List (List ℕ)) (f : Option Front) → is_flag word ≡ false → has_equals word ≡ false → IfNone f (none_next rest ≡ true)
    → IfNone f (given_of (word ∷ rest) ≡ None)
two_not_in_front word [] None no_flag has h = rw (no_flag, has) refl
two_not_in_front word (next ∷ rest) None no_flag has h = rw (no_flag, has) (refused (is_value next) h)
  where
    refused : (b : Bool) → not b ≡ true → in_front b (in_two_words word next) (given_of rest) ≡ None
    refused true h = absurd cc
    refused false h = refl
two_not_in_front word rest (Some o) no_flag has h = tt

pub two_shorter : (word : List ℕ) (rest : List (List ℕ)) (f : Option Front)
    → IfSome f (λ o. (o.name.now ≡ word) × (is_value o.value.now ≡ true) × (rest ≡ o.value.now ∷ o.rest.now)) → IfSome f (λ o. length o.rest.now < length (word ∷ rest))
two_shorter word rest None h = tt
two_shorter word rest (Some o) h = omega (arith, ap length h.2)

-- no words, and words that are opened at the first
pub no_words : (words : List (List ℕ)) → length words < 1 → given_of words ≡ if_empty words
no_words [] h = refl
no_words (word ∷ words) h = absurd (omega arith)

pub opened : (words : List (List ℕ)) (word item : List ℕ) → 1 ≤ length words → word ≡ item → item ≡ get_or words 0 item → words ≡ word ∷ take (length words - 1) (drop 1 words)
opened [] word item some same is = absurd (omega arith)
opened (w ∷ words) word item some same is = ap (λ (x : List ℕ). x ∷ words) (sym (same ∙ is)) ∙ ap (λ (ws : List (List ℕ)). word ∷ ws) (sym (take_all (length (w ∷ words) - 1) words (omega arith)))

-- ---- what is listed

pub others_listed : (g : Given) (o : Option (List Given)) → IsTrue (are_listed (in_front true g o)) → IsTrue (are_listed o)
others_listed g None h = absurd cc
others_listed g (Some gs) h = refl

-- where each is known, they are options
pub known_listed : (verb : Verb) (o : Option (List Given)) → are_known verb o ≡ true → are_listed o ≡ true
known_listed verb None h = absurd cc
known_listed verb (Some gs) h = refl

pub accepted_listed : (verb : Verb) (o : Option (List Given)) → are_accepted verb o ≡ true → are_listed o ≡ true
accepted_listed verb None h = absurd cc
accepted_listed verb (Some gs) h = refl

-- where they are accepted, they go together
pub accepted_together : (verb : Verb) (o : Option (List Given)) → are_accepted verb o ≡ true → go_together verb (listed o) ≡ true
accepted_together verb None h = absurd cc
accepted_together verb (Some gs) h = (and_parts (are_options verb gs) (go_together verb gs) h).1

pub count_step : (option : Opt) (g : Given) (o : Option (List Given)) → IsTrue (are_listed (in_front true g o))
    → count_of option (listed (in_front true g o)) ≡ cond (is_named option g) 1 0 + count_of option (listed o)
count_step option g None h = absurd cc
count_step option g (Some gs) h = sum_by-cons (λ x. cond (is_named option x) 1 0) g gs

pub value_here : (option : Opt) (g : Given) (o : Option (List Given)) → IsTrue (are_listed (in_front true g o)) → is_named option g ≡ true
    → value_of option (listed (in_front true g o)) ≡ Some g.value
value_here option g None h named = absurd cc
value_here option g (Some gs) h named = rw named refl

pub value_step : (option : Opt) (g : Given) (o : Option (List Given)) → IsTrue (are_listed (in_front true g o)) → is_named option g ≡ false
    → value_of option (listed (in_front true g o)) ≡ value_of option (listed o)
value_step option g None h named = absurd cc
value_step option g (Some gs) h named = rw named refl

-- where the option in front is none of the command, not all are
pub unknown_first : (verb : Verb) (g : Given) (o : Option (List Given)) → is_name verb g.name ≡ false → are_known verb (in_front true g o) ≡ false
unknown_first verb g None unknown = refl
unknown_first verb g (Some others) unknown = rw unknown refl
