-- The radius of an object among the lines of a file.
use Rattle.std.proofs.Common.{◌≡◌, ℕ, ◌+◌, ◌<◌, ◌≤◌, Bool, true, false, cond, List, [], ◌∷◌, ◌++◌, All, length, take, get_or, Option, Some, None, refl, find, map, unwrap_or, option_map, bytes_eq, ap, sym, ◌∙◌, arith, Bor, is_some, BTreeMap, nat_cmp}
use Rattle.std.specs.BTreeSet as sorted
use Rattle.std.specs.BTreeSet.{BTreeSet}
use Rattle.std.specs.Cmp.Lexicographic.{nat_list_eq_equiv, same_text, slice_cmp}
use Rattle.std.specs.Option.{option_or}
use Rattle.std.proofs.lemmas.Bool.{false≢true}
use Rattle.std.proofs.lemmas.List.{take_more, map-append}
use Rattle.std.proofs.lemmas.List.Elements.{All-map}
use Rattle.std.proofs.lemmas.List.Folds.{find-append}
use Rattle.std.proofs.lemmas.Map.Text.{is_eq-slice_cmp}
use Rattle.cj_sizes.specs.Limits.{MAX_RADIUS}
use Rattle.cj_sizes.specs.Radii.{has_id, radius_in}
use Rattle.cj_sizes.specs.Sizes.{Size, radius_given, radius_of, size_of, sizes_of}
use Rattle.cj_sizes.specs.declared.size_line.SizeLine.{SizeLine}

abbrev pub radius_found : Option SizeLine → ℕ
radius_found found = unwrap_or (option_map (λ line. line.radius) found) 0

-- the first line with this id gives it
pub radius_of_first : (lines : List SizeLine) (id : List ℕ) → radius_found (find (λ line. bytes_eq line.id id) lines) ≡ radius_of (sizes_of lines) id
radius_of_first [] id = refl
radius_of_first (line ∷ lines) id = at (bytes_eq line.id id) (radius_of_first lines id)
  where
    at : (b : Bool) → radius_found (find (λ l. bytes_eq l.id id) lines) ≡ radius_of (sizes_of lines) id
        → radius_found (cond b (Some line) (find (λ l. bytes_eq l.id id) lines))
        ≡ unwrap_or (option_map (λ (s : Size). s.radius) (cond b (Some (size_of line)) (find (λ s. bytes_eq s.id id) (sizes_of lines)))) 0
    at true rest = refl
    at false rest = rest

-- it is at most a kilometre, as each one is that is given
pub radius_of_within : (lines : List SizeLine) (id : List ℕ) → radius_of (sizes_of lines) id ≤ MAX_RADIUS
radius_of_within [] id = omega arith
radius_of_within (line ∷ lines) id = at (bytes_eq line.id id) (radius_of_within lines id)
  where
    at : (b : Bool) → radius_of (sizes_of lines) id ≤ MAX_RADIUS
        → unwrap_or (option_map (λ (s : Size). s.radius) (cond b (Some (size_of line)) (find (λ s. bytes_eq s.id id) (sizes_of lines)))) 0 ≤ MAX_RADIUS
    at true rest = line.within
    at false rest = rest

pub radii_within : (lines : List SizeLine) (ids : List (Bor (List ℕ))) → All (λ radius. radius ≤ MAX_RADIUS) (map (λ id. radius_of (sizes_of lines) id.now) ids)
radii_within lines ids = All-map (λ radius. radius ≤ MAX_RADIUS) (λ (id : Bor (List ℕ)). radius_of (sizes_of lines) id.now) ids (λ k d h. radius_of_within lines (get_or ids k d).now)

-- the radii of the first objects, and of one more
pub radii_more : (lines : List SizeLine) (ids : List (Bor (List ℕ))) (i : ℕ) (d : Bor (List ℕ)) (old new : List ℕ) (radius : ℕ) → i < length ids
    → new ≡ old ++ radius ∷ []
    → radius ≡ radius_of (sizes_of lines) (get_or ids i d).now → old ≡ map (λ id. radius_of (sizes_of lines) id.now) (take i ids)
    → new ≡ map (λ id. radius_of (sizes_of lines) id.now) (take (i + 1) ids)
radii_more lines ids i d old new radius lt grown here so_far =
    let radius_at : Bor (List ℕ) → ℕ = λ id. radius_of (sizes_of lines) id.now in
    grown ∙ ap (λ (rs : List ℕ). rs ++ radius ∷ []) so_far ∙ ap (λ (r : ℕ). map radius_at (take i ids) ++ r ∷ []) here
    ∙ sym (map-append radius_at (take i ids) (get_or ids i d ∷ [])) ∙ ap (map radius_at) (sym (take_more ids i d lt))

-- a further line gives the radius of its id where no line before does
pub given_more : (lines : List SizeLine) (i : ℕ) (d : SizeLine) (id : List ℕ) → i < length lines
    → radius_given (sizes_of (take (i + 1) lines)) id ≡ option_or (radius_given (sizes_of (take i lines)) id) (cond (bytes_eq (get_or lines i d).id id) (Some (get_or lines i d).radius) None)
given_more lines i d id within =
    ap (λ (ls : List SizeLine). radius_given (sizes_of ls) id) (take_more lines i d within)
    ∙ ap (λ (ss : List Size). radius_given ss id) (map-append size_of (take i lines) (get_or lines i d ∷ []))
    ∙ ap (option_map (λ (s : Size). s.radius)) (find-append (λ s. bytes_eq s.id id) (sizes_of (take i lines)) (size_of (get_or lines i d) ∷ []))
    ∙ at (find (λ s. bytes_eq s.id id) (sizes_of (take i lines))) (size_of (get_or lines i d)) (bytes_eq (get_or lines i d).id id)
  where
    at : (before : Option Size) (size : Size) (b : Bool)
        → option_map (λ (s : Size). s.radius) (option_or before (cond b (Some size) None)) ≡ option_or (option_map (λ (s : Size). s.radius) before) (cond b (Some size.radius) None)
    at (Some s) size b = refl
    at None size true = refl
    at None size false = refl

-- ---- ids that are asked for

-- a set with a further id
abbrev pub IsWith : BTreeSet (Bor (List ℕ)) → BTreeSet (Bor (List ℕ)) → List ℕ → Type 0
IsWith old new text = sorted.Updates (λ x y. slice_cmp nat_cmp x.now y.now) old new (record { ref_ptr = (0, 0); now = text }) true

asked_more : (old new : BTreeSet (Bor (List ℕ))) (text id : List ℕ) → IsWith old new text → has_id new id ≡ cond (bytes_eq text id) true (has_id old id)
asked_more old new text id updates =
    updates.0 (record { ref_ptr = (0, 0); now = id }) ∙ ap (λ b. cond b true (has_id old id)) (is_eq-slice_cmp text id)

pub still_asked : (old new : BTreeSet (Bor (List ℕ))) (text id : List ℕ) → IsWith old new text → has_id old id ≡ true → has_id new id ≡ true
still_asked old new text id updates had = asked_more old new text id updates ∙ ap (cond (bytes_eq text id) true) had ∙ either (bytes_eq text id)
  where
    either : (b : Bool) → cond b true true ≡ true
    either true = refl
    either false = refl

pub own_asked : (old new : BTreeSet (Bor (List ℕ))) (text : List ℕ) → IsWith old new text → has_id new text ≡ true
own_asked old new text updates = asked_more old new text text updates ∙ ap (λ b. cond b true (has_id old text)) (nat_list_eq_equiv.refl text)

-- a radius of an id that is not asked for gives none of one that is
pub not_asked : (asked : BTreeSet (Bor (List ℕ))) (named id : List ℕ) (old : Option ℕ) (radius : ℕ) → has_id asked named ≡ false → has_id asked id ≡ true → old ≡ option_or old (cond (bytes_eq named id) (Some radius) None)
not_asked asked named id old radius out is = go (bytes_eq named id) refl
  where
    whole : (o : Option ℕ) → o ≡ option_or o None
    whole None = refl
    whole (Some r) = refl

    go : (b : Bool) → bytes_eq named id ≡ b → old ≡ option_or old (cond b (Some radius) None)
    go true same = absurd (false≢true (sym out ∙ ap (has_id asked) (same_text named id (sym same)) ∙ is))
    go false other = whole old

-- ---- one radius more

-- what is had stays
pub kept : (old at_key : Option ℕ) (b : Bool) (radius : ℕ) → is_some at_key ≡ true → (b ≡ true → at_key ≡ old) → old ≡ option_or old (cond b (Some radius) None)
kept (Some r) at_key b radius some same = refl
kept None at_key true radius some same = absurd (false≢true (ap (λ (o : Option ℕ). is_some o) (sym (same refl)) ∙ some))
kept None at_key false radius some same = refl

-- and what is not is taken
pub put : (new old at_key : Option ℕ) (b : Bool) (radius : ℕ) → is_some at_key ≡ false → new ≡ cond b (Some radius) old → (b ≡ true → at_key ≡ old) → new ≡ option_or old (cond b (Some radius) None)
put new (Some r) at_key true radius none e same = absurd (false≢true (sym (ap (λ (o : Option ℕ). is_some o) (sym (same refl)) ∙ none)))
put new (Some r) at_key false radius none e same = e
put new None at_key true radius none e same = e
put new None at_key false radius none e same = e

-- the same text has the same radius
pub same_radius : (radii : BTreeMap (Bor (List ℕ)) ℕ) (a b : List ℕ) → bytes_eq a b ≡ true → radius_in radii a ≡ radius_in radii b
same_radius radii a b e = ap (radius_in radii) (same_text a b (sym e))
