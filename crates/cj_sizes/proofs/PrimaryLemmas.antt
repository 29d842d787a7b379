-- The designators that a file of primaries names.
use Rattle.std.proofs.Common.{◌≡◌, ℕ, ◌+◌, ◌<◌, length, get_or, take, map, Bool, true, false, cond, ◌||◌, not, Ok, Err, Some, None, List, [], ◌∷◌, ◌++◌, bytes_eq, ap, sym, ◌∙◌, refl, nat_cmp, Bor, slice_get}
use Rattle.std.specs.BTreeSet as sorted
use Rattle.std.specs.BTreeSet.{BTreeSet}
use Rattle.std.specs.Cmp.Lexicographic.{slice_cmp, nat_list_eq_equiv}
use Rattle.std.proofs.lemmas.Bool.{not-true}
use Rattle.std.proofs.lemmas.List.{take_more, map-append}
use Rattle.std.proofs.lemmas.List.Folds.{list_any-append}
use Rattle.std.proofs.lemmas.Map.Text.{is_eq-slice_cmp}
use Rattle.cj_formats.specs.declared.primaries_cause.PrimariesCause.TheVariants as causes
use Rattle.cj_sizes.specs.Primaries.{Holds, has_id, id_of_fields, with_id}

-- ---- sets of designators

abbrev pub text_of : Bor (List ℕ) → List ℕ
text_of id = id.now

-- a set with a further designator
abbrev pub IsWith : BTreeSet (Bor (List ℕ)) → BTreeSet (Bor (List ℕ)) → List ℕ → Type 0
IsWith old new text = sorted.Updates (λ x y. slice_cmp nat_cmp x.now y.now) old new (record { ref_ptr = (0, 0); now = text }) true

-- a designator is among some and a further one where it is this one or among those before
pub has_more : (ids : List (List ℕ)) (more id : List ℕ) → has_id (ids ++ more ∷ []) id ≡ cond (bytes_eq more id) true (has_id ids id)
has_more ids more id =
    list_any-append (bytes_eq id) ids (more ∷ [])
    ∙ ap (λ b. has_id ids id || (b || false)) (nat_list_eq_equiv.symm id more)
    ∙ at (has_id ids id) (bytes_eq more id)
  where
    at : (before here : Bool) → (before || (here || false)) ≡ cond here true before
    at true true = refl
    at true false = refl
    at false true = refl
    at false false = refl

pub holds_more : (old new : BTreeSet (Bor (List ℕ))) (text : List ℕ) (ids more : List (List ℕ)) → Holds old ids → IsWith old new text → more ≡ ids ++ text ∷ [] → Holds new more
holds_more old new text ids more holds updates grown = λ id.
    updates.0 (record { ref_ptr = (0, 0); now = id })
    ∙ ap (λ b. cond b true (sorted.contains_by (λ k. slice_cmp nat_cmp id k.now) old)) (is_eq-slice_cmp text id)
    ∙ ap (λ b. cond (bytes_eq text id) true b) (holds id)
    ∙ sym (has_more ids text id)
    ∙ ap (λ (ss : List (List ℕ)). has_id ss id) (sym grown)

-- the first designators, and one more
pub texts_more : (ids : List (Bor (List ℕ))) (i : ℕ) (d : Bor (List ℕ)) → i < length ids → map text_of (take (i + 1) ids) ≡ map text_of (take i ids) ++ (get_or ids i d).now ∷ []
texts_more ids i d lt = ap (map text_of) (take_more ids i d lt) ∙ map-append text_of (take i ids) (get_or ids i d ∷ [])

-- whether the first designators are named, and one more
pub marks_more : (named : List (List ℕ)) (ids : List (Bor (List ℕ))) (i : ℕ) (d : Bor (List ℕ)) (old new : List Bool) (mark : Bool) → i < length ids
    → new ≡ old ++ mark ∷ [] → mark ≡ has_id named (get_or ids i d).now → old ≡ map (λ (id : Bor (List ℕ)). has_id named id.now) (take i ids)
    → new ≡ map (λ (id : Bor (List ℕ)). has_id named id.now) (take (i + 1) ids)
marks_more named ids i d old new mark lt grown here so_far =
    let mark_of : Bor (List ℕ) → Bool = λ id. has_id named id.now in
    grown ∙ ap (λ (ms : List Bool). ms ++ mark ∷ []) so_far ∙ ap (λ (m : Bool). map mark_of (take i ids) ++ m ∷ []) here
    ∙ sym (map-append mark_of (take i ids) (get_or ids i d ∷ [])) ∙ ap (map mark_of) (sym (take_more ids i d lt))

-- ---- the one field of a row

pub no_field : (parts : List (List ℕ)) → None ≡ slice_get parts 0 → id_of_fields parts ≡ Err causes.Form
no_field [] none = refl
no_field (x ∷ rest) none = cc

pub one_field : (parts : List (List ℕ)) (id : List ℕ) → Some id ≡ slice_get parts 0 → None ≡ slice_get parts 1 → id_of_fields parts ≡ Ok id
one_field [] id first second = cc
one_field (x ∷ []) id first second = cc
one_field (x ∷ y ∷ rest) id first second = cc

pub two_fields : (parts : List (List ℕ)) (other : List ℕ) → Some other ≡ slice_get parts 1 → id_of_fields parts ≡ Err causes.Form
two_fields [] other second = cc
two_fields (x ∷ []) other second = cc
two_fields (x ∷ y ∷ rest) other second = refl

-- ---- a further designator

-- the set did not take it, which has it
pub named_twice : (set : BTreeSet (Bor (List ℕ))) (known before : List (List ℕ)) (id : List ℕ) (added : Bool) → Holds set before
    → added ≡ not (sorted.contains_by (λ k. slice_cmp nat_cmp id k.now) set) → added ≡ false → with_id known before id ≡ Err causes.Twice
named_twice set known before id added holds is_added old = rw (sym (holds id) ∙ contained (sorted.contains_by (λ k. slice_cmp nat_cmp id k.now) set) (sym is_added ∙ old)) refl
  where
    contained : (b : Bool) → not b ≡ false → b ≡ true
    contained true e = refl
    contained false e = absurd cc

-- no object has it
pub named_unknown : (set : BTreeSet (Bor (List ℕ))) (known before : List (List ℕ)) (id : List ℕ) (added : Bool) → Holds set before
    → added ≡ not (sorted.contains_by (λ k. slice_cmp nat_cmp id k.now) set) → added ≡ true → has_id known id ≡ false → with_id known before id ≡ Err causes.Unknown
named_unknown set known before id added holds is_added new unknown =
    let fresh : has_id before id ≡ false = sym (holds id) ∙ not-true (sorted.contains_by (λ k. slice_cmp nat_cmp id k.now) set) (sym is_added ∙ new) in
    rw fresh (rw unknown refl)

-- it is put behind those before it
pub named_next : (set : BTreeSet (Bor (List ℕ))) (known before more : List (List ℕ)) (id : List ℕ) (added : Bool) → Holds set before
    → added ≡ not (sorted.contains_by (λ k. slice_cmp nat_cmp id k.now) set) → added ≡ true → has_id known id ≡ true → more ≡ before ++ id ∷ [] → with_id known before id ≡ Ok more
named_next set known before more id added holds is_added new has grown =
    let fresh : has_id before id ≡ false = sym (holds id) ∙ not-true (sorted.contains_by (λ k. slice_cmp nat_cmp id k.now) set) (sym is_added ∙ new) in
    rw fresh (rw has (ap (λ (ids : List (List ℕ)). Ok ids) (sym grown)))
