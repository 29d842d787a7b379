-- A text that is printed line by line, and what its lines say.
use Rattle.std.proofs.Common.{◌≡◌, ℕ, zero, suc, ◌+◌, ◌-◌, List, [], ◌∷◌, ◌++◌, true, false, length, get_or, ap, sym, ◌∙◌, refl, arith, append_assoc, append-nil, Ok, All, subst}
use Rattle.std.specs.Prelude.{◌==◌, flat_map}
use Rattle.std.specs.List.{list_all, slice_split}
use Rattle.std.specs.Str.Lines.{lines, lines_of_parts, strip_carriage_return}
use Rattle.std.proofs.lemmas.Bool.{and_parts}
use Rattle.std.proofs.lemmas.Bool.Decides.{nat_tests}
use Rattle.std.proofs.lemmas.List.Elements.{All-head, All-tail}
use Rattle.std.proofs.lemmas.List.Splits.{length-slice_split, slice_split_at}
use Rattle.cj_base.specs.Bytes.{is_feed}
use Rattle.cj_kvn.specs.Lines.{Form, Numbered, line_form, lines_said}
use Rattle.cj_kvn.specs.Lines as kvn
use Rattle.cj_kvn.proofs.LineLemmas.{first_part}
use Rattle.cj_kvn.specs.Entries.{line}
use Rattle.cj_track.specs.Labels.{is_visible}
use Rattle.cj_track.proofs.LabelLemmas.{visible_apart}
use Rattle.cj_oem.proofs.PrintedTextLemmas.{all_at}

no_feeds : (text : List ℕ) → list_all is_visible text ≡ true → All (λ b. is_feed b ≡ false) text
no_feeds text all = λ i d below. visible_apart (get_or text i d) (all_at is_visible text i d all below)

-- no carriage return stands at its end
no_return : (text : List ℕ) (i : ℕ) → list_all is_visible text ≡ true → (get_or text i 0 == 13) ≡ false
no_return [] i all = refl
no_return (b ∷ text) zero all =
    let here = (and_parts (is_visible b) (list_all is_visible text) all).0 in
    grind (arith, nat_tests, here)
no_return (b ∷ text) (suc i) all = no_return text i (and_parts (is_visible b) (list_all is_visible text) all).1

stripped_none : (text : List ℕ) → list_all is_visible text ≡ true → strip_carriage_return text ≡ text
stripped_none text all = rw (no_return text (length text - 1) all) refl

-- the first line of a text
pub line_first : (text rest : List ℕ) → list_all is_visible text ≡ true → lines (line text ++ rest) ≡ text ∷ lines rest
line_first text rest all =
    let split = slice_split_at is_feed text 10 rest (no_feeds text all) refl in
    ap lines (append_assoc text (10 ∷ []) rest)
    ∙ ap lines_of_parts split
    ∙ first_part text (slice_split is_feed rest) (omega (arith, length-slice_split is_feed rest))
    ∙ ap (λ t. t ∷ lines rest) (stripped_none text all)

-- a line of visible bytes, and what it says whatever its number
pub record Says (text : List ℕ) (form : Form) : Type 0 where
  pub visible : list_all is_visible text ≡ true
  pub said : (number : ℕ) → line_form number text ≡ Ok form

-- a text of lines that say these forms
pub data Tells : List ℕ → List Form → Type 0 where
  none : Tells [] []
  more : (text rest : List ℕ) (form : Form) (forms : List Form) → Says text form → Tells rest forms → Tells (line text ++ rest) (form ∷ forms)

-- forms with their numbers
abbrev pub numbered_from : ℕ → List Form → List Numbered
numbered_from number [] = []
numbered_from number (form ∷ forms) = record { number = number; form = form } ∷ numbered_from (number + 1) forms

said_more : (number : ℕ) (text : List ℕ) (rest : List (List ℕ)) (form : Form) (others : List Numbered) → line_form number text ≡ Ok form → lines_said (number + 1) rest ≡ Ok others
    → lines_said number (text ∷ rest) ≡ Ok (record { number = number; form = form } ∷ others)
said_more number text rest form others here later = rw (here, later) refl

said_from : (text : List ℕ) (forms : List Form) (number : ℕ) → Tells text forms → lines_said number (lines text) ≡ Ok (numbered_from number forms)
said_from _ _ number none = refl
said_from _ _ number (more text rest form forms says tells) =
    ap (lines_said number) (line_first text rest says.visible)
    ∙ said_more number text (lines rest) form (numbered_from (number + 1) forms) (says.said number) (said_from rest forms (number + 1) tells)

-- what the whole text says
pub reading_told : (text : List ℕ) (forms : List Form) → Tells text forms → kvn.reading text ≡ Ok (numbered_from 1 forms)
reading_told text forms tells = said_from text forms 1 tells

-- one line, one text behind another, the texts of several things
pub told_line : (text : List ℕ) (form : Form) → Says text form → Tells (line text) (form ∷ [])
told_line text form says = subst (λ t. Tells t (form ∷ [])) (append-nil (line text)) (more text [] form [] says none)

pub told_append : (text rest : List ℕ) (forms others : List Form) → Tells text forms → Tells rest others → Tells (text ++ rest) (forms ++ others)
told_append _ rest _ others none tells = tells
told_append _ rest _ others (more text behind form forms says later) tells =
    subst (λ t. Tells t (form ∷ (forms ++ others))) (sym (append_assoc (line text) behind rest))
    (more text (behind ++ rest) form (forms ++ others) says (told_append behind rest forms others later tells))

pub told_each : {X : Type 0} (P : X → Type 0) (text : X → List ℕ) (forms : X → List Form) → ((x : X) → P x → Tells (text x) (forms x)) → (xs : List X) → All P xs
    → Tells (flat_map text xs) (flat_map forms xs)
told_each P text forms each [] all = none
told_each P text forms each (x ∷ xs) all =
    told_append (text x) (flat_map text xs) (forms x) (flat_map forms xs) (each x (All-head P x xs all)) (told_each P text forms each xs (All-tail P x xs all))
