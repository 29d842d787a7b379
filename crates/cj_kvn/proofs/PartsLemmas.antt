-- The parts of a number's text, by the digits at its front.
use Rattle.std.proofs.Common.{◌≡◌, ℕ, List, [], ◌∷◌, ◌++◌, Bool, true, false, length, arith, ap, sym, ◌∙◌, refl, subst, Option, Some, None, ℤ}
use Rattle.std.specs.Prelude.{◌&&◌, MatchOption, nat_le, if◌then◌else◌}
use Rattle.std.specs.Char.{is_ascii_digit}
use Rattle.std.specs.List.{before_first, after_first, list_any}
use Rattle.std.specs.Str.Parse.{signed_digits_value, starts_with_minus, without_leading_sign}
use Rattle.std.proofs.lemmas.Bool.Decides.{nat_tests}
use Rattle.std.proofs.lemmas.List.{append-nil, append_assoc}
use Rattle.cj_kvn.specs.Numbers.{Parts, parts_of, is_number, is_exponent, is_exponent_mark, is_point, digits, exponent_value, are_digits}
use Rattle.cj_kvn.specs.Scanning.{run, after_run, fraction_run, after_fraction, exponent_said}
use Rattle.cj_kvn.proofs.ListLemmas.{HeadFails, and_false, all_but, all_take_while, behind_fails, front_behind, before_skip, after_skip, any_skip, before_no, after_no, any_no, before_yes, after_yes, any_yes}

mark_apart : (b : ℕ) → is_ascii_digit b ≡ true → is_exponent_mark b ≡ false
mark_apart b h = grind (arith, nat_tests)

point_apart : (b : ℕ) → is_ascii_digit b ≡ true → is_point b ≡ false
point_apart b h = grind (arith, nat_tests)

point_is_no_mark : (b : ℕ) → is_point b ≡ true → is_exponent_mark b ≡ false
point_is_no_mark b h = grind (arith, nat_tests)

abbrev pub parts : Bool → List ℕ → List ℕ → Option (List ℕ) → Parts
parts negative whole fraction exponent = record { negative = negative; whole = whole; fraction = fraction; exponent = exponent }

-- the parts have these digits, and an exponent of this value
pub record Reads (p : Parts) (negative : Bool) (whole fraction : List ℕ) (power : ℤ) : Type 0 where
  pub exponent : Option (List ℕ)
  pub same : p ≡ parts negative whole fraction exponent
  pub form : is_exponent exponent ≡ true
  pub value : exponent_value exponent ≡ power

-- what stands behind the digits is an exponent or nothing, or the parts are no number's
abbrev pub Told : Parts → Bool → List ℕ → List ℕ → List ℕ → Type 0
Told p negative whole fraction rest = MatchOption (exponent_said rest) (is_number p ≡ false) (Reads p negative whole fraction)

no_digits : (p : Parts) → are_digits (digits p) ≡ false → is_number p ≡ false
unfolding is_number
no_digits p h =
    ap (λ (b : Bool). nat_le 1 (length (digits p)) && b && is_exponent p.exponent) h
    ∙ ap (λ (b : Bool). b && is_exponent p.exponent) (and_false (nat_le 1 (length (digits p))))

no_exponent : (p : Parts) → is_exponent p.exponent ≡ false → is_number p ≡ false
unfolding is_number
no_exponent p h =
    ap (λ (b : Bool). nat_le 1 (length (digits p)) && are_digits (digits p) && b) h
    ∙ and_false (nat_le 1 (length (digits p)) && are_digits (digits p))

-- nothing stands behind the digits
told_none : (p : Parts) (n : Bool) (w f : List ℕ) → p ≡ parts n w f None → Told p n w f []
told_none p n w f e = record { exponent = None; same = e; form = refl; value = refl }

-- a mark does
told_form : (p : Parts) (n : Bool) (w f text : List ℕ) (b : Bool) → is_exponent (Some text) ≡ b → p ≡ parts n w f (Some text)
    → MatchOption (if b then Some (signed_digits_value 10 text) else None) (is_number p ≡ false) (Reads p n w f)
told_form p n w f text true h e = record { exponent = Some text; same = e; form = h; value = refl }
told_form p n w f text false h e = no_exponent p (ap (λ (q : Parts). is_exponent q.exponent) e ∙ h)

told_mark : (p : Parts) (n : Bool) (w f text : List ℕ) (b : ℕ) → is_exponent_mark b ≡ true → p ≡ parts n w f (Some text) → Told p n w f (b ∷ text)
told_mark p n w f text b mark e =
    subst (λ (t : Bool). MatchOption (if t then (if is_exponent (Some text) then Some (signed_digits_value 10 text) else None) else None) (is_number p ≡ false) (Reads p n w f))
    (sym mark) (told_form p n w f text (is_exponent (Some text)) refl e)

-- something else does
told_other : (p : Parts) (n : Bool) (w f text : List ℕ) (b : ℕ) → is_exponent_mark b ≡ false → is_number p ≡ false → Told p n w f (b ∷ text)
told_other p n w f text b mark refused =
    subst (λ (t : Bool). MatchOption (if t then (if is_exponent (Some text) then Some (signed_digits_value 10 text) else None) else None) (is_number p ≡ false) (Reads p n w f))
    (sym mark) refused

-- the exponent behind the first mark
abbrev mark_exponent : List ℕ → Option (List ℕ)
mark_exponent text = if list_any is_exponent_mark text then Some (after_first is_exponent_mark text) else None

-- the parts by the text without its sign
abbrev cut : Bool → List ℕ → Parts
cut n text =
    parts n (before_first is_point (before_first is_exponent_mark text)) (after_first is_point (before_first is_exponent_mark text))
    (mark_exponent text)

-- the same where digits stand in front
abbrev cut_behind : Bool → List ℕ → List ℕ → Option (List ℕ) → Parts
cut_behind n w significand exponent = parts n (w ++ before_first is_point significand) (after_first is_point significand) exponent

cut_digits : (n : Bool) (w b : List ℕ) → are_digits w ≡ true
    → cut n (w ++ b) ≡ cut_behind n w (before_first is_exponent_mark b) (mark_exponent b)
cut_digits n w b all =
    rw (
      before_skip is_exponent_mark is_ascii_digit mark_apart w b all,
      after_skip is_exponent_mark is_ascii_digit mark_apart w b all,
      any_skip is_exponent_mark is_ascii_digit mark_apart w b all,
      before_skip is_point is_ascii_digit point_apart w (before_first is_exponent_mark b) all,
      after_skip is_point is_ascii_digit point_apart w (before_first is_exponent_mark b) all,
    ) refl

-- behind a point
fraction_at : (p : Parts) (n : Bool) (w f text : List ℕ) (c : ℕ) (b : Bool) → is_exponent_mark c ≡ b → is_ascii_digit c ≡ false
    → p ≡ parts n w (f ++ before_first is_exponent_mark (c ∷ text)) (mark_exponent (c ∷ text))
    → Told p n w f (c ∷ text)
fraction_at p n w f text c true mark fails e =
    told_mark p n w f text c mark (e
    ∙ rw (before_yes is_exponent_mark c text mark, any_yes is_exponent_mark c text mark, after_yes is_exponent_mark c text mark) refl
    ∙ ap (λ (g : List ℕ). parts n w g (Some text)) (append-nil f))
fraction_at p n w f text c false mark fails e =
    let rest = before_first is_exponent_mark text in
    let line : digits p ≡ (w ++ f) ++ c ∷ rest =
    ap digits e ∙ ap (λ (s : List ℕ). w ++ (f ++ s)) (before_no is_exponent_mark c text mark) ∙ sym (append_assoc w f (c ∷ rest)) in
    told_other p n w f text c mark (no_digits p (ap are_digits line ∙ all_but is_ascii_digit (w ++ f) c rest fails))

told_fraction : (p : Parts) (n : Bool) (w f rest : List ℕ) → HeadFails is_ascii_digit rest
    → p ≡ parts n w (f ++ before_first is_exponent_mark rest) (mark_exponent rest)
    → Told p n w f rest
told_fraction p n w f [] fails e = told_none p n w f (e ∙ ap (λ (g : List ℕ). parts n w g None) (append-nil f))
told_fraction p n w f (c ∷ text) fails e = fraction_at p n w f text c (is_exponent_mark c) refl fails e

-- with no point
whole_at : (p : Parts) (n : Bool) (w text : List ℕ) (c : ℕ) (b : Bool) → is_exponent_mark c ≡ b → is_ascii_digit c ≡ false → is_point c ≡ false
    → p ≡ cut_behind n w (before_first is_exponent_mark (c ∷ text)) (mark_exponent (c ∷ text))
    → Told p n w [] (c ∷ text)
whole_at p n w text c true mark fails point e =
    told_mark p n w [] text c mark (e
    ∙ rw (before_yes is_exponent_mark c text mark, any_yes is_exponent_mark c text mark, after_yes is_exponent_mark c text mark) refl
    ∙ ap (λ (v : List ℕ). parts n v [] (Some text)) (append-nil w))
whole_at p n w text c false mark fails point e =
    let rest = before_first is_exponent_mark text in
    let front = before_first is_point rest in
    let behind_point = after_first is_point (c ∷ rest) in
    let line : digits p ≡ w ++ c ∷ (front ++ behind_point) =
    ap digits e
    ∙ ap (λ (s : List ℕ). (w ++ before_first is_point s) ++ after_first is_point s) (before_no is_exponent_mark c text mark)
    ∙ ap (λ (s : List ℕ). (w ++ s) ++ behind_point) (before_no is_point c rest point)
    ∙ append_assoc w (c ∷ front) behind_point in
    told_other p n w [] text c mark (no_digits p (ap are_digits line ∙ all_but is_ascii_digit w c (front ++ behind_point) fails))

-- the digits in front, and what stands behind them
point_at : (n : Bool) (w text : List ℕ) (c : ℕ) (b : Bool) → is_point c ≡ b → are_digits w ≡ true → is_ascii_digit c ≡ false
    → Told (cut n (w ++ c ∷ text)) n w (if b then run text else []) (if b then after_run text else c ∷ text)
point_at n w text c true point all fails =
    let mark : is_exponent_mark c ≡ false = point_is_no_mark c point in
    let rest = after_run text in
    let split : text ≡ run text ++ rest = front_behind is_ascii_digit text in
    let digits_first = all_take_while is_ascii_digit text in
    let first : cut n (w ++ c ∷ text) ≡ cut_behind n w (c ∷ before_first is_exponent_mark text) (mark_exponent text) =
    cut_digits n w (c ∷ text) all ∙ rw (before_no is_exponent_mark c text mark, any_no is_exponent_mark c text mark, after_no is_exponent_mark c text mark) refl in
    let second : cut_behind n w (c ∷ before_first is_exponent_mark text) (mark_exponent text) ≡ parts n (w ++ []) (before_first is_exponent_mark text) (mark_exponent text) =
    rw (before_yes is_point c (before_first is_exponent_mark text) point, after_yes is_point c (before_first is_exponent_mark text) point) refl in
    let third : parts n w (before_first is_exponent_mark (run text ++ rest)) (mark_exponent (run text ++ rest)) ≡ parts n w (run text ++ before_first is_exponent_mark rest) (mark_exponent rest) =
    rw (
      before_skip is_exponent_mark is_ascii_digit mark_apart (run text) rest digits_first,
      after_skip is_exponent_mark is_ascii_digit mark_apart (run text) rest digits_first,
      any_skip is_exponent_mark is_ascii_digit mark_apart (run text) rest digits_first,
    ) refl in
    told_fraction (cut n (w ++ c ∷ text)) n w (run text) rest (behind_fails is_ascii_digit text) (
    first
    ∙ second
    ∙ ap (λ (v : List ℕ). parts n v (before_first is_exponent_mark text) (mark_exponent text)) (append-nil w)
    ∙ ap (λ (t : List ℕ). parts n w (before_first is_exponent_mark t) (mark_exponent t)) split
    ∙ third
    )
point_at n w text c false point all fails =
    whole_at (cut n (w ++ c ∷ text)) n w text c (is_exponent_mark c) refl fails point (cut_digits n w (c ∷ text) all)

told_text : (n : Bool) (w b : List ℕ) → are_digits w ≡ true → HeadFails is_ascii_digit b → Told (cut n (w ++ b)) n w (fraction_run b) (after_fraction b)
told_text n w [] all fails = told_none (cut n (w ++ [])) n w [] (cut_digits n w [] all ∙ ap (λ (v : List ℕ). parts n v [] None) (append-nil w))
told_text n w (c ∷ text) all fails = point_at n w text c (is_point c) refl all fails

pub told : (text : List ℕ) →
    let unsigned = without_leading_sign text in
    let behind_digits = after_run unsigned in
    Told (parts_of text) (starts_with_minus text) (run unsigned) (fraction_run behind_digits) (after_fraction behind_digits)
unfolding parts_of
told text =
    let unsigned = without_leading_sign text in
    let n = starts_with_minus text in
    let w = run unsigned in
    let b = after_run unsigned in
    subst (λ (t : List ℕ). Told (cut n t) n w (fraction_run b) (after_fraction b)) (sym (front_behind is_ascii_digit unsigned))
    (told_text n w b (all_take_while is_ascii_digit unsigned) (behind_fails is_ascii_digit unsigned))
