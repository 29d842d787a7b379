-- The key of a text, by a list of words.
use Rattle.std.proofs.Common.{◌≡◌, ℕ, ◌+◌, ◌<◌, List, [], ◌∷◌, length, drop, get_or, true, false, Option, Some, None, ap, ◌∙◌, refl}
use Rattle.std.specs.Prelude.{if◌then◌else◌}
use Rattle.std.specs.Borrow.{Bor}
use Rattle.std.proofs.lemmas.List.{drop_more}
use Rattle.cj_oem.specs.declared.key.Key.{Key}
use Rattle.cj_oem.specs.Words.{is_text}

-- a word as it is lent, and its key
abbrev pub Entry : Type 0
Entry = Bor (List ℕ) × Key

-- the key of the first of these words that a text is
abbrev pub key_in : List Entry → List ℕ → Option Key
key_in [] text = None
key_in (entry ∷ entries) text = if is_text entry.0.now text then Some entry.1 else key_in entries text

pub key_here : (entries : List Entry) (i : ℕ) (d : Entry) (text : List ℕ) → i < length entries → is_text (get_or entries i d).0.now text ≡ true
    → key_in (drop i entries) text ≡ Some (get_or entries i d).1
key_here entries i d text inside test = ap (λ es. key_in es text) (drop_more entries i d inside) ∙ (rw test refl)

pub key_later : (entries : List Entry) (i : ℕ) (d : Entry) (text : List ℕ) → i < length entries → is_text (get_or entries i d).0.now text ≡ false
    → key_in (drop i entries) text ≡ key_in (drop (i + 1) entries) text
key_later entries i d text inside test = ap (λ es. key_in es text) (drop_more entries i d inside) ∙ (rw test refl)
