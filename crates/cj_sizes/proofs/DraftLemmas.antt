-- The designators of the sizes so far.
use Rattle.std.proofs.Common.{◌≡◌, ℕ, ◌<◌, length, get_or, length-append, arith, Bool, true, false, cond, ◌||◌, not, Ok, List, [], ◌∷◌, ◌++◌, bytes_eq, ap, sym, ◌∙◌, refl, subst, nat_cmp, Bor}
use Rattle.std.specs.BTreeSet as sorted
use Rattle.std.specs.BTreeSet.{BTreeSet}
use Rattle.std.specs.Cmp.Lexicographic.{slice_cmp, nat_list_eq_equiv}
use Rattle.std.specs.List.{IsDistinct, list_any}
use Rattle.std.proofs.Math.ListN.{get_or-append}
use Rattle.std.proofs.Math.Seq.{get_or-append_seam}
use Rattle.std.proofs.lemmas.Bool.{not-true}
use Rattle.std.proofs.lemmas.List.{map-append}
use Rattle.std.proofs.lemmas.Map.Keys.{IsDistinct-push, apart_from_distinct}
use Rattle.std.proofs.lemmas.List.Folds.{list_any-append, list_any_none}
use Rattle.std.proofs.lemmas.Map.Text.{is_eq-slice_cmp}
use Rattle.cj_sizes.specs.declared.size_line.SizeLine.{SizeLine}
use Rattle.cj_sizes.specs.Reading.{is_named, with_size}
use Rattle.cj_sizes.specs.Readers.{HasIds}
use Rattle.cj_sizes.specs.Sizes.{Size, ids_of, size_of, sizes_of}

-- an id is named by the sizes with a further one where this one names it or those before do
pub named_more : (sizes : List Size) (size : Size) (id : List ℕ) → is_named (sizes ++ size ∷ []) id ≡ cond (bytes_eq size.id id) true (is_named sizes id)
named_more sizes size id =
    ap (list_any (bytes_eq id)) (map-append (λ (s : Size). s.id) sizes (size ∷ []))
    ∙ list_any-append (bytes_eq id) (ids_of sizes) (size.id ∷ [])
    ∙ ap (λ b. is_named sizes id || (b || false)) (nat_list_eq_equiv.symm id size.id)
    ∙ at (is_named sizes id) (bytes_eq size.id id)
  where
    at : (before here : Bool) → (before || (here || false)) ≡ cond here true before
    at true true = refl
    at true false = refl
    at false true = refl
    at false false = refl

pub ids_more : (ids new : BTreeSet (Bor (List ℕ))) (key : Bor (List ℕ)) (sizes more : List Size) (size : Size) → HasIds ids sizes
    → sorted.Updates (λ x y. slice_cmp nat_cmp x.now y.now) ids new key true → more ≡ sizes ++ size ∷ [] → size.id ≡ key.now → HasIds new more
ids_more ids new key sizes more size has updates e same = λ id.
    updates.0 (record { ref_ptr = (0, 0); now = id })
    ∙ ap (λ b. cond b true (sorted.contains_by (λ k. slice_cmp nat_cmp id k.now) ids)) (is_eq-slice_cmp key.now id)
    ∙ ap (λ b. cond (bytes_eq key.now id) true b) (has id)
    ∙ ap (λ (text : List ℕ). cond (bytes_eq text id) true (is_named sizes id)) (sym same)
    ∙ sym (named_more sizes size id)
    ∙ ap (λ (ss : List Size). is_named ss id) (sym e)

-- the sizes of some lines, and of one more
pub sizes_pushed : (old new : List SizeLine) (line : SizeLine) (id : List ℕ) → new ≡ old ++ line ∷ [] → line.id ≡ id
    → sizes_of new ≡ sizes_of old ++ record { id = id; radius = line.radius } ∷ []
sizes_pushed old new line id grown same =
    ap sizes_of grown ∙ map-append size_of old (line ∷ []) ∙ ap (λ (text : List ℕ). sizes_of old ++ record { id = text; radius = line.radius } ∷ []) same

-- a size whose id the set took is put behind those before it
pub put_behind : (ids : BTreeSet (Bor (List ℕ))) (key : Bor (List ℕ)) (sizes more : List Size) (size : Size) (added : Bool) → HasIds ids sizes
    → added ≡ not (sorted.contains_by (λ k. slice_cmp nat_cmp key.now k.now) ids) → added ≡ true → size.id ≡ key.now → more ≡ sizes ++ size ∷ []
    → with_size sizes size ≡ Ok more
put_behind ids key sizes more size added has is_added new same grown =
    let named : is_named sizes size.id ≡ false =
    sym (has size.id) ∙ ap (λ (id : List ℕ). sorted.contains_by (λ k. slice_cmp nat_cmp id k.now) ids) same
    ∙ not-true (sorted.contains_by (λ k. slice_cmp nat_cmp key.now k.now) ids) (sym is_added ∙ new) in
    rw named (ap (λ (ss : List Size). Ok ss) (sym grown))

-- ids that differ differ with a further one that is not among them
pub distinct_more : (sizes : List Size) (size : Size) → IsDistinct bytes_eq (ids_of sizes) → is_named sizes size.id ≡ false → IsDistinct bytes_eq (ids_of (sizes ++ size ∷ []))
distinct_more sizes size once new =
    subst (IsDistinct bytes_eq) (sym (map-append (λ (s : Size). s.id) sizes (size ∷ []))) (IsDistinct-push nat_list_eq_equiv (ids_of sizes) size.id once new)

-- and where they differ none is among those before it
pub not_named : (sizes more : List Size) (size : Size) → IsDistinct bytes_eq (ids_of (sizes ++ size ∷ more)) → is_named sizes size.id ≡ false
not_named sizes more size once = list_any_none (bytes_eq size.id) (ids_of sizes) (λ k d h. nat_list_eq_equiv.symm size.id (get_or (ids_of sizes) k d) ∙ apart k d h)
  where
    apart : (k : ℕ) (d : List ℕ) → k < length (ids_of sizes) → bytes_eq (get_or (ids_of sizes) k d) size.id ≡ false
    apart k d h =
        let split : ids_of (sizes ++ size ∷ more) ≡ ids_of sizes ++ size.id ∷ ids_of more = map-append (λ (s : Size). s.id) sizes (size ∷ more) in
        let distinct = subst (IsDistinct bytes_eq) split once in
        let inside : length (ids_of sizes) < length (ids_of sizes ++ size.id ∷ ids_of more) = omega (arith, length-append (ids_of sizes) (size.id ∷ ids_of more)) in
        ap (λ (text : List ℕ). bytes_eq text size.id) (sym (get_or-append (ids_of sizes) (size.id ∷ ids_of more) d k h))
        ∙ ap (bytes_eq (get_or (ids_of sizes ++ size.id ∷ ids_of more) k d)) (sym (get_or-append_seam (ids_of sizes) size.id (ids_of more) d))
        ∙ apart_from_distinct bytes_eq (ids_of sizes ++ size.id ∷ ids_of more) k (length (ids_of sizes)) d distinct h inside
