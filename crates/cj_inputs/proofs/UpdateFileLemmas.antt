-- The updates among files in order of names.
use Rattle.std.proofs.Common.{◌≡◌, ◌∙◌, ℕ, ◌-◌, ◌≤◌, Bool, true, false, List, [], ◌∷◌, ◌++◌, length, take, drop, cond, get_or, refl, sym, ap, append_assoc, arith}
use Rattle.std.specs.Prelude.{All, filter}
use Rattle.std.proofs.lemmas.List.{take_all}
use Rattle.std.proofs.lemmas.List.Elements.{All-cons, All-head, All-tail}
use Rattle.cj_inputs.specs.declared.input_files.Entry.{Entry}
use Rattle.cj_inputs.specs.Updates.{is_last_update, last_updates}

-- no more files are updates than there are
pub few_updates : (suffix update : List ℕ) (entries : List Entry) → length (last_updates suffix update entries) ≤ length entries
few_updates suffix update [] = omega arith
few_updates suffix update (entry ∷ entries) = decided (is_last_update suffix update entry entries) (few_updates suffix update entries)
  where
    decided : (b : Bool) → length (last_updates suffix update entries) ≤ length entries
        → length (cond b (entry ∷ last_updates suffix update entries) (last_updates suffix update entries)) ≤ length (entry ∷ entries)
    decided true few = omega (arith, few)
    decided false few = omega (arith, few)

-- what is so of each file is so of each update
pub all_updates : (P : Entry → Type 0) (suffix update : List ℕ) (entries : List Entry) → All P entries → All P (last_updates suffix update entries)
all_updates P suffix update [] all = all
all_updates P suffix update (entry ∷ entries) all =
    decided (is_last_update suffix update entry entries) (all_updates P suffix update entries (All-tail P entry entries all))
  where
    decided : (b : Bool) → All P (last_updates suffix update entries) → All P (cond b (entry ∷ last_updates suffix update entries) (last_updates suffix update entries))
    decided true later = All-cons P entry (last_updates suffix update entries) (All-head P entry entries all) later
    decided false later = later

-- ---- file by file

-- the first of these files and those behind it
pub opened : (entries : List Entry) (entry : Entry) → 1 ≤ length entries → entry ≡ get_or entries 0 entry → entries ≡ entry ∷ take (length entries - 1) (drop 1 entries)
opened [] entry some is = absurd (omega (arith, some))
opened (first ∷ entries) entry some is =
    ap (λ (e : Entry). e ∷ entries) (sym is) ∙ ap (λ (es : List Entry). entry ∷ es) (sym (take_all (length (first ∷ entries) - 1) entries (omega arith)))

-- one that counts
pub update_counts : (suffix update : List ℕ) (entry : Entry) (behind before : List Entry) → is_last_update suffix update entry behind ≡ true
    → (before ++ entry ∷ []) ++ last_updates suffix update behind ≡ before ++ last_updates suffix update (entry ∷ behind)
update_counts suffix update entry behind before is = append_assoc before (entry ∷ []) (last_updates suffix update behind) ∙ rw is refl

-- one that does not
pub update_passed : (suffix update : List ℕ) (entry : Entry) (behind before : List Entry) → is_last_update suffix update entry behind ≡ false
    → before ++ last_updates suffix update behind ≡ before ++ last_updates suffix update (entry ∷ behind)
update_passed suffix update entry behind before is = rw is refl

-- no more are left than there were
pub fewer_left : (p : Entry → Bool) (entries : List Entry) → length (filter p entries) ≤ length entries
fewer_left p [] = omega arith
fewer_left p (entry ∷ entries) = decided (p entry) (fewer_left p entries)
  where
    decided : (b : Bool) → length (filter p entries) ≤ length entries → length (cond b (entry ∷ filter p entries) (filter p entries)) ≤ length (entry ∷ entries)
    decided true few = omega (arith, few)
    decided false few = omega (arith, few)
